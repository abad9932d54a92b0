use Rattle.fl_closure.proofs.Held.{gift_held}
use Rattle.fl_closure.proofs.closure.Closure.follows.Goals as goal

pub returns-in-Some : goal.returns-in-Some
returns-in-Some c =
    gift_held c.args.self.now c.args.op.now _ c.in-Some.entry _ c.gift.ensures c.in-Some.is c.has.ensures
