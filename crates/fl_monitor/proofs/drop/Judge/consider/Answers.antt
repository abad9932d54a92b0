use Rattle.std.proofs.Common.{subst}
use Rattle.fl_labels.specs.SetBy as set
use Rattle.fl_rules.specs.Labels.{sets_of}
use Rattle.fl_bench.specs.Guards.{endpoints_check}
use Rattle.fl_monitor.specs.parts.Checked.{CheckedBy}
use Rattle.fl_monitor.proofs.drop.Judge.consider.Goals as goal

pub returns-clause-checked : goal.returns-clause-checked
returns-clause-checked g c =
    let j = c.in-Err.ensures.judged in
    subst (λ judge. CheckedBy (g.V.View.list judge.view.now) (set.remove c.args.owned.now c.args.cap) (λ E. endpoints_check E (sets_of judge.labels) judge.endpoints.now) c.in-Err.verdict) j.asks
    (subst (λ rest. CheckedBy (g.V.View.list j.asked.now.view.now) rest (λ E. endpoints_check E (sets_of j.asked.now.labels) j.asked.now.endpoints.now) c.in-Err.verdict) j.shows j.met.1.0)
