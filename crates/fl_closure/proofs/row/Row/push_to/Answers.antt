use Rattle.fl_closure.proofs.Listing.{entry_moves, moved_on, entries_moved}
use Rattle.fl_closure.proofs.row.Row.push_to.Goals as goal

pub loop-place-preserved : goal.loop-place-preserved
loop-place-preserved c = λ x.
    moved_on _ _ _ (entry_moves _ _ _ _ c.in-Some.place.now c.in-Some.bits.now c.in-Some.ensures.steps c.in_ok-push-2.ensures.items x) (c.loop-place.invariant x)

pub returns : goal.returns
returns c =
    entries_moved c.args.self.now c.len.ensures.ordered c.args.self.now.apart _ _ _ _ _ _ c.try_reserve.ensures.items c.in_ok-push.ensures.items
    c.into_iter-place-iterator.ensures.into_iter_gives.0 c.in-None.ensures.steps.0 c.loop-place.invariant
