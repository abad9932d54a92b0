use Rattle.std.proofs.Common.{subst}
use Rattle.fl_labels.specs.Judged.{Judges}
use Rattle.fl_labels.specs.SetBy as set
use Rattle.fl_bench.proofs.owned.Owned.remove_if.Goals as goal

pub returns-then-is_ok-clause-judged : goal.returns-then-is_ok-clause-judged
returns-then-is_ok-clause-judged g c =
    subst (λ s. Judges g.J.FnOnce c.args.judge c.args.asked.now (set.remove s c.args.cap) c.remove_if-result.result c.remove_if-result.new.asked)
    c.self.view_is c.remove_if-result.ensures.judged

pub returns-else-is_ok-clause-judged : goal.returns-else-is_ok-clause-judged
returns-else-is_ok-clause-judged g c =
    subst (λ s. Judges g.J.FnOnce c.args.judge c.args.asked.now (set.remove s c.args.cap) c.remove_if-result.result c.remove_if-result.new.asked)
    c.self.view_is c.remove_if-result.ensures.judged
