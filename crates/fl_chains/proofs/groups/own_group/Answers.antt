use Rattle.std.proofs.Common.{sym}
use Rattle.fl_chains.proofs.Members.{none}
use Rattle.fl_chains.proofs.Ways.{on_err, one_group}
use Rattle.fl_chains.proofs.groups.own_group.Goals.{in-Use+in_ok-push, in_default}
use Rattle.fl_chains.proofs.groups.own_group.Goals as goal

pub returns-in_err-push-clause-memory : goal.returns-in_err-push-clause-memory
returns-in_err-push-clause-memory c = on_err c.from_residual.result
    (c.in-Use.group, sym c.in-Use.is)

pub returns-clause-found : goal.returns-clause-found
returns-clause-found c = elim c.match-cap.branch [
  | in-Use+in_ok-push w ↦ rw (w.groups-is, w.in-Use.is)
      (one_group w.in-Use.group c.new-groups.result.items w.push.new.self.items
      c.new-groups.ensures.items w.in_ok-push.ensures.items)
  | in_default w ↦ rw (w.groups-is, c.new-groups.ensures.items) (λ group. (
    λ h. absurd (none group h),
    λ e. absurd (w.in_default.not-Use group (sym e)),
  ))
]
