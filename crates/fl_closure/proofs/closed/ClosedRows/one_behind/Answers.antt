use Rattle.std.proofs.Common.{arith}
use Rattle.fl_closure.specs.parts.Closed.{Behind, ComesBehind}
use Rattle.fl_closure.proofs.Leading.{none_yet, none_more, none_at_all, one_at}
use Rattle.fl_closure.specs.laws.Told.{came_some, came_none}
use Rattle.fl_closure.proofs.closed.ClosedRows.one_behind.Goals as goal

pub loop-root-init : goal.loop-root-init
loop-root-init c = none_yet (λ root. Behind c.args.self.now.reached root c.args.cap) c.args.roots.now

pub returns-in-Some : goal.returns-in-Some
returns-in-Some c =
    one_at (λ root. ComesBehind c.args.self.now.reached root c.args.cap c.in-Some.witness) _ _ _ c.loop-root-test.true c.root-item.is (came_some _ _ _ _ c.in-Some.is c.behind.ensures)

pub loop-root-preserved : goal.loop-root-preserved
loop-root-preserved c =
    none_more (λ root. Behind c.args.self.now.reached root c.args.cap) _ _ _ c.loop-root-test.true c.root-item.is c.loop-root.invariant (came_none _ _ _ c.in_default.not-Some c.behind.ensures)

pub returns : goal.returns
returns c = none_at_all (λ root. Behind c.args.self.now.reached root c.args.cap) _ _ (omega (arith, c.loop-root-test.false)) c.loop-root.invariant
