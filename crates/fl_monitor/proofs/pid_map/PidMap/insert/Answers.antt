use Rattle.std.proofs.Common.{arith, ◌∙◌, Some, refl, sym, ap, subst}
use Rattle.std.specs.FinMap as map
use Rattle.fl_monitor.specs.parts.Slots.{IsAt, IsGapFor, IsRising, entries_of}
use Rattle.fl_monitor.proofs.SlotLemmas.{is_of, rising_set, rising_put, put_over, put_new}
use Rattle.fl_monitor.proofs.pid_map.PidMap.insert.Goals as goal

pub invariant_of-self : goal.invariant_of-self
invariant_of-self g c =
    let slots = c.self.inside.slots.items in
    let i = c.in-Ok.place in
    let at = subst (λ l. IsAt l c.args.pid i) c.deref.ensures.value c.in-Ok.ensures.ok in
    let same = is_of slots c.args.pid i c.index_mut.result.now at c.index_mut.ensures.value in
    rising_set slots _ c.self.invariant c.self.view_is c.args.pid i _ at same

pub invariant_of-self-in-Ok-2 : goal.invariant_of-self-in-Ok-2
invariant_of-self-in-Ok-2 g c =
    let slots = c.self.inside.slots.items in
    let i = c.in-Ok.place in
    let at = subst (λ l. IsAt l c.args.pid i) c.deref.ensures.value c.in-Ok.ensures.ok in
    let same = is_of slots c.args.pid i c.index_mut.result.now at c.index_mut.ensures.value in
    rising_set slots _ c.self.invariant c.self.view_is c.args.pid i _ at same

pub invariant_of-self-in-Continue-1 : goal.invariant_of-self-in-Continue-1
invariant_of-self-in-Continue-1 g c =
    let slots = c.self.inside.slots.items in
    let i = c.in-Err.place in
    let gap = subst (λ l. IsGapFor l c.args.pid i) c.deref.ensures.value c.in-Err.ensures.err in
    subst IsRising (sym c.in_ok-insert-in-Err.ensures.items)
    (rising_put slots _ c.self.invariant c.self.view_is c.args.pid i _ gap refl)

pub returns-in-Ok-clause-ok : goal.returns-in-Ok-clause-ok
returns-in-Ok-clause-ok g c =
    let slots = c.self.inside.slots.items in
    let i = c.in-Ok.place in
    let s = c.index_mut.result.now in
    let at = subst (λ l. IsAt l c.args.pid i) c.deref.ensures.value c.in-Ok.ensures.ok in
    let same = is_of slots c.args.pid i s at c.index_mut.ensures.value in
    let put = put_over slots _ c.self.invariant c.self.view_is c.args.pid i
    (record { pid = s.pid; value = Some c.into_box.result }) c.args.value at same
    (ap Some c.into_box.ensures) in
    grind (arith, put)

pub returns-in_ok-insert-in-Err-clause-ok : goal.returns-in_ok-insert-in-Err-clause-ok
returns-in_ok-insert-in-Err-clause-ok g c =
    let slots = c.self.inside.slots.items in
    let i = c.in-Err.place in
    let gap = subst (λ l. IsGapFor l c.args.pid i) c.deref.ensures.value c.in-Err.ensures.err in
    ap (λ l. map.from_entries (entries_of l)) c.in_ok-insert-in-Err.ensures.items
    ∙ put_new slots _ c.self.invariant c.self.view_is c.args.pid i _ c.args.value gap refl
    (ap Some c.into_box.ensures)
