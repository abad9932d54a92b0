use Rattle.std.proofs.Common.{◌≡◌, ◌⊎◌, ◌∙◌, Option, Some, None, inl, inr, refl, sym, ap, subst}
use Rattle.std.specs.Option.{option_copied_mut}
use Rattle.fl_monitor.specs.parts.Slots.{IsAt, IsGapFor, with_held}
use Rattle.fl_monitor.proofs.SlotLemmas.{found, missed, is_of, rising_set, put_back, put_over, rewritten}
use Rattle.fl_monitor.proofs.pid_map.PidMap.get_mut.Goals as goal

pub returns-in_default : goal.returns-in_default
returns-in_default g c =
    let i = c.in_default.field-0 in
    let gap = subst (λ l. IsGapFor l c.args.pid i) c.deref.ensures.value c.in_default.ensures.err in
    let slots = c.self.inside.slots.items in
    let none = missed slots _ c.self.invariant c.self.view_is c.args.pid i gap in
    (ap inr c.self.view_is, record { writes_back = tt; value = none })

pub invariant_of-self-lent : goal.invariant_of-self-lent
invariant_of-self-lent g c =
    let slots = c.self.inside.slots.items in
    let i = c.in-Ok.place in
    let s = c.index_mut.result.now in
    let at = subst (λ l. IsAt l c.args.pid i) c.deref.ensures.value c.in-Ok.ensures.ok in
    let same = is_of slots c.args.pid i s at c.index_mut.ensures.value in
    λ _. (
      λ w. rising_set slots _ c.self.invariant c.self.view_is c.args.pid i (with_held s w) at same,
      rising_set slots _ c.self.invariant c.self.view_is c.args.pid i s at same,
    )

none_or_some : {A : Type 0} (o : Option A) → (o ≡ None) ⊎ ((x : A) × (o ≡ Some x))
none_or_some None = inl refl
none_or_some (Some x) = inr (x, refl)

pub returns : goal.returns
returns g c =
    let slots = c.self.inside.slots.items in
    let i = c.in-Ok.place in
    let s = c.index_mut.result.now in
    let at = subst (λ l. IsAt l c.args.pid i) c.deref.ensures.value c.in-Ok.ensures.ok in
    let read = c.index_mut.ensures.value in
    let same = is_of slots c.args.pid i s at read in
    let value = found slots _ c.self.invariant c.self.view_is c.args.pid i s at read in
    elim (none_or_some c.get_mut.result) [
      | inl e ↦ rw e (
        ap inr (put_back slots _ c.self.invariant c.self.view_is c.args.pid i s read),
        record {
          writes_back = tt;
          value = ap option_copied_mut (sym e) ∙ c.get_mut.ensures.value ∙ value;
        },
      )
      | inr x ↦
          let full = ap option_copied_mut (sym x.1) ∙ c.get_mut.ensures.value in
          rw x.1 (
            (λ j. inl (
              x.0.ghost_name,
              λ w. put_over slots _ c.self.invariant c.self.view_is
                  c.args.pid i (with_held s w) w at same (rewritten s x.0.now full w) j,
            )),
            record { writes_back = tt; value = full ∙ value },
          )
    ]
