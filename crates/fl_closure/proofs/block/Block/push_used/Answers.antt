use Rattle.std.proofs.Common.{sym, subst}
use Rattle.fl_closure.proofs.Listing.{AreUsedBelow, used_more, used_same, used_all, same_some, not_some}
use Rattle.fl_closure.proofs.block.Block.push_used.Goals.{in-Some+in_ok-push, in_default}
use Rattle.fl_closure.proofs.block.Block.push_used.Goals as goal

pub loop-bit-preserved : goal.loop-bit-preserved
loop-bit-preserved c = elim c.match-used_at.branch [
  | in-Some+in_ok-push w ↦ rw w.names-is (
      let here = (c.used_at.ensures w.in-Some.name).0 w.in-Some.is in
      subst (AreUsedBelow c.args.names.now.items c.args.self _) (sym w.in_ok-push.ensures.items)
      (used_more _ _ c.args.self _ c.loop-bit.invariant w.in-Some.name here.0 here.1 (λ name two. same_some w.in-Some.is ((c.used_at.ensures name).1 two)))
      )
  | in_default w ↦ rw w.names-is (used_same _ _ c.args.self _ c.loop-bit.invariant (λ name two. not_some w.in_default.is ((c.used_at.ensures name).1 two)))
]

pub returns : goal.returns
returns c = used_all _ _ c.args.self _ c.loop-bit-test.false c.loop-bit.invariant
