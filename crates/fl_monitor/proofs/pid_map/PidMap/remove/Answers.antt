use Rattle.std.proofs.Common.{◌∙◌, refl, ap, subst}
use Rattle.std.specs.FinMap as map
use Rattle.fl_monitor.specs.parts.Slots.{IsAt, IsGapFor}
use Rattle.fl_monitor.proofs.SlotLemmas.{is_of, not_there, rising_set, emptied}
use Rattle.fl_monitor.proofs.pid_map.PidMap.remove.Goals as goal

pub returns-in_default : goal.returns-in_default
returns-in_default g c =
    let i = c.in_default.field-0 in
    let gap = subst (λ l. IsGapFor l c.args.pid i) c.deref.ensures.value c.in_default.ensures.err in
    not_there c.self.inside.slots.items _ c.self.invariant c.self.view_is c.args.pid i gap

pub invariant_of-self : goal.invariant_of-self
invariant_of-self g c =
    let slots = c.self.inside.slots.items in
    let i = c.in-Ok.place in
    let at = subst (λ l. IsAt l c.args.pid i) c.deref.ensures.value c.in-Ok.ensures.ok in
    let same = is_of slots c.args.pid i c.index_mut.result.now at c.index_mut.ensures.value in
    rising_set slots _ c.self.invariant c.self.view_is c.args.pid i _ at same

pub invariant_of-self-else-self-gt0 : goal.invariant_of-self-else-self-gt0
invariant_of-self-else-self-gt0 g c =
    let slots = c.self.inside.slots.items in
    let i = c.in-Ok.place in
    let at = subst (λ l. IsAt l c.args.pid i) c.deref.ensures.value c.in-Ok.ensures.ok in
    let same = is_of slots c.args.pid i c.index_mut.result.now at c.index_mut.ensures.value in
    c.pack.ensures.rising
    (rising_set slots _ c.self.invariant c.self.view_is c.args.pid i _ at same)

pub returns-then-self-gt0 : goal.returns-then-self-gt0
returns-then-self-gt0 g c =
    let slots = c.self.inside.slots.items in
    let i = c.in-Ok.place in
    let at = subst (λ l. IsAt l c.args.pid i) c.deref.ensures.value c.in-Ok.ensures.ok in
    let same = is_of slots c.args.pid i c.index_mut.result.now at c.index_mut.ensures.value in
    emptied slots _ c.self.invariant c.self.view_is c.args.pid i _ at same refl

pub returns-else-self-gt0 : goal.returns-else-self-gt0
returns-else-self-gt0 g c =
    let slots = c.self.inside.slots.items in
    let i = c.in-Ok.place in
    let at = subst (λ l. IsAt l c.args.pid i) c.deref.ensures.value c.in-Ok.ensures.ok in
    let same = is_of slots c.args.pid i c.index_mut.result.now at c.index_mut.ensures.value in
    ap map.from_entries c.pack.ensures.entries
    ∙ emptied slots _ c.self.invariant c.self.view_is c.args.pid i _ at same refl
