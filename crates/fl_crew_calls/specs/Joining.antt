-- What the crews of a script and a newcomer have against one another.
use Rattle.std.specs.Prelude.{◌⊎◌, ℕ}
use Rattle.std.specs.declared.option.Option.{Option}
use Rattle.std.specs.declared.option.Option.TheVariants.{None, Some}
use Rattle.fl_labels.specs.SetBy.{SetBy, In}
use Rattle.fl_labels.specs.declared.name.Name.{Name}
use Rattle.fl_ops.specs.OpOrder.{op_cmp}
use Rattle.fl_gossip.specs.Meeting.{IsClashOf, IsLeastOf, IsStrayOf}
use Rattle.fl_system.specs.declared.answer.Fault.{Fault}
use Rattle.fl_system.specs.declared.answer.Fault.TheVariants.{Clash, Impostor}
use Rattle.fl_workers.specs.Over.{CrewOver}
use Rattle.fl_crew_calls.specs.Over.{CrewsOver, IsCrewAt}

-- an operation of the newcomer, which has saved these, and one that is saved at the node of a crew
-- have this name, and differ
pub record ClashesAt {K M : Type 0} (c : CrewsOver K M) (saved : SetBy op_cmp) (name : Name)
    : Type 0 where
  pub number : ℕ
  pub crew : CrewOver K
  pub there : IsCrewAt c number crew
  pub clash : IsClashOf (In saved) (In crew.node.node.saved) name

-- An operation of this name comes with the newcomer, and the crew's node whose number it has has not
-- saved it; or one of the newcomer's number is saved there, though not by the newcomer.
pub record StraysAt {K M : Type 0} (c : CrewsOver K M) (number : ℕ) (saved : SetBy op_cmp)
    (name : Name) : Type 0 where
  pub other : ℕ
  pub crew : CrewOver K
  pub there : IsCrewAt c other crew
  pub stray : IsStrayOf (In saved) (In crew.node.node.saved) other name
      ⊎ IsStrayOf (In crew.node.node.saved) (In saved) number name

-- why the newcomer is refused, where it clashes under these names, and these are strays: for the
-- least clash, or else for the least stray
pub data FindsAgainst (clashes strays : Name → Type 0) : Option Fault → Type 0 where
  clash : {name : Name} → IsLeastOf clashes name
      → FindsAgainst clashes strays (Some (Clash name))
  stray : {name : Name} → ((other : Name) → ¬ clashes other) → IsLeastOf strays name
      → FindsAgainst clashes strays (Some (Impostor name))
  nothing : ((name : Name) → ¬ clashes name) → ((name : Name) → ¬ strays name)
      → FindsAgainst clashes strays None
