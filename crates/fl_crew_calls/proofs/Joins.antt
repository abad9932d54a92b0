-- What the crews of a script and a newcomer have against one another, by the entries that hold them.
use Rattle.std.proofs.Common.{◌≡◌, ◌∙◌, ◌⊎◌, sym, ℕ, Option, Some, None, nat_cmp}
use Rattle.std.proofs.lemmas.Cmp.{nat_cmp_total}
use Rattle.std.proofs.lemmas.Map.Lookups.{exact_unsigned}
use Rattle.std.proofs.lemmas.Map.Views.{btree_map_get_iff}
use Rattle.std.specs.BTreeMap.{BTreeMap, IsOrdered, is_at}
use Rattle.std.specs.FinMap as map
use Rattle.std.specs.List.{Contains}
use Rattle.std.specs.Map.{lookup}
use Rattle.fl_labels.specs.SetBy.{SetBy}
use Rattle.fl_labels.specs.declared.name.Name.{Name}
use Rattle.fl_ops.specs.OpOrder.{op_cmp}
use Rattle.fl_gossip.specs.Meeting.{IsLeastOf, OfSome}
use Rattle.fl_system.specs.declared.answer.Fault.{Fault}
use Rattle.fl_workers.specs.Over.{CrewOver}
use Rattle.fl_crew_calls.specs.Joining.{ClashesAt, FindsAgainst, StraysAt}
use Rattle.fl_crew_calls.specs.Over.{CrewsOver, IsCrewAt}
use Rattle.fl_crew_calls.specs.parts.Places.{ClashesIn, ClashesThere, StraysIn, StraysThere}

-- the least of the same names
least_of : (P Q : Name → Type 0) (name : Name) → ((other : Name) → P other → Q other)
    → ((other : Name) → Q other → P other) → IsLeastOf P name → IsLeastOf Q name
least_of P Q name to from least =
    record { holds = to name least.holds; least = λ other q. least.least other (from other q) }

module _ {K M : Type 0} (m : BTreeMap ℕ (Option (CrewOver K))) (ordered : IsOrdered nat_cmp m)
    (old : CrewsOver K M)
    (held : (number : ℕ) → lookup (is_at (nat_cmp number)) m.entries ≡ map.get old.crews number) where
  there : (number : ℕ) (crew : CrewOver K) → Contains m.entries (number, Some crew)
      → IsCrewAt old number crew
  there number crew among =
      sym (held number)
      ∙ (btree_map_get_iff nat_cmp_total exact_unsigned m ordered number (Some crew)).1 among

  among : (number : ℕ) (crew : CrewOver K) → IsCrewAt old number crew
      → Contains m.entries (number, Some crew)
  among number crew at =
      (btree_map_get_iff nat_cmp_total exact_unsigned m ordered number (Some crew)).0
      (held number ∙ at)

  clash_at : (saved : SetBy op_cmp) (name : Name) (number : ℕ) (place : Option (CrewOver K))
      → Contains m.entries (number, place) → ClashesIn saved place name → ClashesAt old saved name
  clash_at saved name number None c h = absurd h
  clash_at saved name number (Some crew) c h =
      record { number = number; crew = crew; there = there number crew c; clash = h }

  stray_at : (number : ℕ) (saved : SetBy op_cmp) (name : Name) (other : ℕ)
      (place : Option (CrewOver K)) → Contains m.entries (other, place)
      → StraysIn number saved other place name → StraysAt old number saved name
  stray_at number saved name other None c h = absurd h
  stray_at number saved name other (Some crew) c h =
      record { other = other; crew = crew; there = there other crew c; stray = h }

  pub against_crews : (number : ℕ) (saved : SetBy op_cmp) (why : Option Fault)
      → FindsAgainst (OfSome (ClashesThere saved) m.entries)
      (OfSome (StraysThere number saved) m.entries) why
      → FindsAgainst (ClashesAt old saved) (StraysAt old number saved) why
  against_crews number saved why found = by_case why found
    where
      clash_to : (name : Name) → OfSome (ClashesThere saved) m.entries name → ClashesAt old saved name
      clash_to name h = clash_at saved name h.0.0 h.0.1 h.1 h.2

      clash_from : (name : Name) → ClashesAt old saved name → OfSome (ClashesThere saved) m.entries name
      clash_from name c = ((c.number, Some c.crew), among c.number c.crew c.there, c.clash)

      stray_to : (name : Name) → OfSome (StraysThere number saved) m.entries name
          → StraysAt old number saved name
      stray_to name h = stray_at number saved name h.0.0 h.0.1 h.1 h.2

      stray_from : (name : Name) → StraysAt old number saved name
          → OfSome (StraysThere number saved) m.entries name
      stray_from name s = ((s.other, Some s.crew), among s.other s.crew s.there, s.stray)

      by_case : (why : Option Fault) → FindsAgainst (OfSome (ClashesThere saved) m.entries)
          (OfSome (StraysThere number saved) m.entries) why
          → FindsAgainst (ClashesAt old saved) (StraysAt old number saved) why
      by_case why (FindsAgainst.clash {name} least) =
          FindsAgainst.clash (least_of _ _ name clash_to clash_from least)
      by_case why (FindsAgainst.stray {name} none least) =
          FindsAgainst.stray (λ other c. none other (clash_from other c))
          (least_of _ _ name stray_to stray_from least)
      by_case why (FindsAgainst.nothing none no_stray) =
          FindsAgainst.nothing (λ name c. none name (clash_from name c))
          (λ name s. no_stray name (stray_from name s))
