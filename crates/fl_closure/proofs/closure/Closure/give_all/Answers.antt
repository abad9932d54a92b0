use Rattle.fl_closure.proofs.Giving.{on_both}
use Rattle.fl_closure.proofs.Following.{follows}
use Rattle.fl_closure.proofs.closure.Closure.give_all.Goals as goal

pub returns-clause-ok : goal.returns-clause-ok
returns-clause-ok c =
    on_both c.give_all-2.result (λ closes mirrored. follows c.args.self.now _ c.args.ops.now closes mirrored c.in_ok-give_all.ensures.ok) c.give_all-2.ensures.ok c.give_all-2.ensures.mirrored
