use Rattle.std.proofs.Common.{◌∙◌, subst}
use Rattle.fl_monitor.specs.parts.Slots.{IsAt, IsGapFor}
use Rattle.fl_monitor.proofs.SlotLemmas.{found, missed}
use Rattle.fl_monitor.proofs.pid_map.PidMap.get.Goals as goal

pub returns-in_default : goal.returns-in_default
returns-in_default g c =
    let i = c.in_default.field-0 in
    let gap = subst (λ l. IsGapFor l c.args.pid i) c.deref.ensures.value c.in_default.ensures.err in
    missed c.self.inside.slots.items _ c.self.invariant c.self.view_is c.args.pid i gap

pub returns : goal.returns
returns g c =
    let i = c.in-Ok.place in
    let at = subst (λ l. IsAt l c.args.pid i) c.deref.ensures.value c.in-Ok.ensures.ok in
    c.get.ensures
    ∙ found c.self.inside.slots.items _ c.self.invariant c.self.view_is c.args.pid i
    c.index.result.now at c.index.ensures
