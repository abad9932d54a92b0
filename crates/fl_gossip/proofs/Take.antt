-- What is taken of operations, one after another.
use Rattle.std.proofs.Common.{◌≡◌, inl, inr, ℕ, ◌+◌, ◌<◌, ◌≤◌, Bool, true, false, not, cond, List, [], ◌∷◌, ◌++◌, length, get_or, take, refl, sym, ap, subst, ◌∙◌, arith, append-nil, Less, Equal}
use Rattle.std.specs.Cmp.{tied_itself}
use Rattle.std.specs.List.{Contains, filter}
use Rattle.std.specs.List.Sorted.{IsStrictlySortedBy}
use Rattle.std.proofs.lemmas.Bool.{cases_lt, false≢true}
use Rattle.std.proofs.lemmas.List.{take_more, take_all, get_or-take, length-take-le, get_or_default}
use Rattle.std.proofs.lemmas.List.Elements.{Contains-push_cases, filter-append}
use Rattle.std.proofs.lemmas.Map.Keys.{Less-from_sorted}
use Rattle.fl_labels.specs.SetBy.{SetBy, In, contains}
use Rattle.fl_ops.specs.declared.op.Op.{Op}
use Rattle.fl_ops.specs.OpOrder.{op_cmp}
use Rattle.fl_opset.specs.Catching.{MayTake}
use Rattle.fl_wire.specs.NameOrder.{by_name, by_name_total}
use Rattle.fl_gossip.specs.declared.fault.GossipFault.{GossipFault}
use Rattle.fl_gossip.specs.declared.fault.GossipFault.TheVariants.{Impostor, Clash, Memory}
use Rattle.fl_gossip.specs.Taking.{Offends, AreTaken, BringsNew, IsLeastOffence, Refuses}
use Rattle.fl_gossip.specs.parts.Starving.{HasNew, Stops}

-- what `!` says of a test
pub is_there : (b : Bool) → not b ≡ false → b ≡ true
is_there true h = refl
is_there false h = sym h

pub is_lacking : (b : Bool) → not b ≡ true → b ≡ false
is_lacking true h = sym h
is_lacking false h = refl

-- the first i operations were looked at
pub record TakenTo (me : ℕ) (saved : SetBy op_cmp) (ops : List Op) (i : ℕ) (new : List Op) : Type 0 where
  pub each : (op : Op) → Contains (take i ops) op → MayTake me (In saved) op
  pub lacked : new ≡ filter (λ op. not (contains saved op)) (take i ops)

module _ (me : ℕ) (saved : SetBy op_cmp) (ops : List Op) where
  abbrev lacks : Op → Bool
  lacks op = not (contains saved op)

  pub taken_none : (new : List Op) → new ≡ [] → TakenTo me saved ops 0 new
  taken_none new none = record { each = λ op c. absurd (omega (arith, c.1)); lacked = none }

  module _ (i : ℕ) (x : Op) (inside : i < length ops) (at : x ≡ get_or ops i x) (new : List Op) (t : TakenTo me saved ops i new) where
    one_more : take (i + 1) ops ≡ take i ops ++ x ∷ []
    one_more = take_more ops i x inside ∙ ap (λ y. take i ops ++ y ∷ []) (sym at)

    each_more : MayTake me (In saved) x → (op : Op) → Contains (take (i + 1) ops) op → MayTake me (In saved) op
    each_more may op c = elim (Contains-push_cases (take i ops) x op (subst (λ l. Contains l op) one_more c)) [
      | inl old ↦ t.each op old
      | inr same ↦ subst (MayTake me (In saved)) same may
    ]

    filtered : (b : Bool) → lacks x ≡ b → filter lacks (take (i + 1) ops) ≡ new ++ cond b (x ∷ []) []
    filtered b e = ap (filter lacks) one_more ∙ filter-append lacks (take i ops) (x ∷ []) ∙ (λ j. sym t.lacked j ++ cond (e j) (x ∷ []) [])

    -- one that is there
    pub taken_old : (ys : List Op) → MayTake me (In saved) x → contains saved x ≡ true → ys ≡ new → TakenTo me saved ops (i + 1) ys
    taken_old ys may there same = record { each = each_more may; lacked = same ∙ sym (filtered false (ap not there) ∙ append-nil new) }

    -- one that is new
    pub taken_new : (ys : List Op) → MayTake me (In saved) x → contains saved x ≡ false → ys ≡ new ++ x ∷ [] → TakenTo me saved ops (i + 1) ys
    taken_new ys may there more = record { each = each_more may; lacked = more ∙ sym (filtered true (ap not there)) }

    -- one that is new, for which there is no memory
    pub has_new : contains saved x ≡ false → HasNew (In saved) ops
    has_new lacking = record { op = x; there = (i, inside, sym at); new = λ there. absurd (false≢true (sym lacking ∙ there)) }

    module _ (up : IsStrictlySortedBy by_name ops) where
      not_less : (y : Op) → by_name y y ≡ Less → ⊥
      not_less y h = let e : by_name y y ≡ Equal = tied_itself by_name_total y in cc

      earlier : (other : Op) → Contains ops other → by_name other x ≡ Less → MayTake me (In saved) other
      earlier other c less = elim (cases_lt c.0 i) [
        | inl before ↦ t.each other (c.0, omega (arith, length-take-le i ops (omega arith)), get_or-take i ops c.0 other before ∙ c.2)
        | inr after ↦ elim (cases_lt i c.0) [
          | inl later ↦
              let up_to : by_name (get_or ops i x) (get_or ops c.0 x) ≡ Less = Less-from_sorted by_name ops i c.0 x up later c.1 in
              let there : get_or ops c.0 x ≡ other = get_or_default ops c.0 x other c.1 ∙ c.2 in
              let back : by_name x other ≡ Less = (λ j. by_name (at j) (sym there j)) ∙ up_to in
              absurd (not_less x (by_name_total.trans x other x back less))
          | inr same ↦
              let index : c.0 ≡ i = omega arith in
              let is : other ≡ x = sym c.2 ∙ ap (λ k. get_or ops k other) index ∙ get_or_default ops i other x inside ∙ sym at in
              absurd (not_less x (ap (λ (y : Op). by_name y x) (sym is) ∙ less))
        ]
      ]

      offence : (f : GossipFault) → Offends me (In saved) x f → IsLeastOffence me (In saved) ops f
      offence f h = record { op = x; there = (i, inside, sym at); offends = h; least = earlier }

      pub refused : (f : GossipFault) → Offends me (In saved) x f → Refuses me (In saved) ops f
      refused (Impostor n) h = offence (Impostor n) h
      refused (Clash n) h = offence (Clash n) h
      refused Memory h = absurd h

      pub stopped : (f : GossipFault) → Offends me (In saved) x f → Stops me (In saved) ops f
      stopped (Impostor n) h = offence (Impostor n) h
      stopped (Clash n) h = offence (Clash n) h
      stopped Memory h = absurd h

  pub all_taken : (i : ℕ) (new all : List Op) → length ops ≤ i → all ≡ ops → TakenTo me saved ops i new → AreTaken me saved all new
  all_taken i new all done same t =
      let whole = take_all i ops done ∙ sym same in
      record { each = λ op c. t.each op (subst (λ l. Contains l op) (sym whole) c); lacked = t.lacked ∙ ap (filter lacks) whole }

  -- so far each may be taken
  abbrev pub MayTo : ℕ → Type 0
  MayTo i = (op : Op) → Contains (take i ops) op → MayTake me (In saved) op

  pub may_none : MayTo 0
  may_none op c = absurd (omega (arith, c.1))

  may_taken : (i : ℕ) → MayTo i → TakenTo me saved ops i (filter lacks (take i ops))
  may_taken i h = record { each = h; lacked = refl }

  pub may_more : (i : ℕ) (x : Op) → i < length ops → x ≡ get_or ops i x → MayTo i → MayTake me (In saved) x → MayTo (i + 1)
  may_more i x inside at h may = each_more i x inside at (filter lacks (take i ops)) (may_taken i h) may

  pub may_refused : (i : ℕ) (x : Op) → i < length ops → x ≡ get_or ops i x → MayTo i → IsStrictlySortedBy by_name ops → (f : GossipFault) → Offends me (In saved) x f → Refuses me (In saved) ops f
  may_refused i x inside at h up = refused i x inside at (filter lacks (take i ops)) (may_taken i h) up

  -- each may be taken, but there is no memory
  pub may_all_starved : (i : ℕ) → length ops ≤ i → MayTo i → HasNew (In saved) ops → BringsNew me (In saved) ops
  may_all_starved i done h has = record {
    each = λ op c. h op (subst (λ l. Contains l op) (sym (take_all i ops done)) c);
    op = has.op;
    there = has.there;
    new = has.new;
  }

-- but for want of memory, why it stopped is why they are refused
pub stopped_refused : (me : ℕ) (U : Op → Type 0) (ops : List Op) (f : GossipFault) → (f ≡ Memory → ⊥) → Stops me U ops f → Refuses me U ops f
stopped_refused me U ops (Impostor n) other h = h
stopped_refused me U ops (Clash n) other h = h
stopped_refused me U ops Memory other h = absurd (other refl)
