use Rattle.std.proofs.Common.{◌≡◌, ◌∙◌, sym, ap}
use Rattle.std.specs.FinMap as map
use Rattle.fl_ops.specs.Registry.{Listed}
use Rattle.fl_bench.specs.Bench.{BenchState}
use Rattle.fl_monitor.proofs.Lacking.{all_at, all_of_nothing, asks_nothing, lacks_nobody, some_at}
use Rattle.fl_monitor.proofs.bench.Bench.wanting.Goals as goal

pub returns-in_default-clause-ok : goal.returns-in_default-clause-ok
returns-in_default-clause-ok g c =
    let V = Listed (g.V.View.list c.args.view.now) in
    all_of_nothing _ _ c.new.ensures (asks_nothing c.args.guards V c.args.self.now c.args.job.now c.in_default.not-By)

pub returns-in-Some-clause-ok : goal.returns-in-Some-clause-ok
returns-in-Some-clause-ok g c =
    let V = Listed (g.V.View.list c.args.view.now) in
    let held = ap (λ (b : BenchState). map.get b.processes c.in-By.pid) c.self.view_is in
    rw c.in-By.is (all_at c.args.guards V c.args.self.now c.in-By.pid c.in-By.act _ (sym held ∙ sym c.in-Some.ensures) c.wanting.result c.wanting.ensures.ok)

pub returns-in-Some-clause-err : goal.returns-in-Some-clause-err
returns-in-Some-clause-err g c =
    let V = Listed (g.V.View.list c.args.view.now) in
    let held = ap (λ (b : BenchState). map.get b.processes c.in-By.pid) c.self.view_is in
    rw c.in-By.is (some_at c.args.guards V c.args.self.now c.in-By.pid c.in-By.act _ (sym held ∙ sym c.in-Some.ensures) c.wanting.result c.wanting.ensures.err)

pub returns-in-None-clause-ok : goal.returns-in-None-clause-ok
returns-in-None-clause-ok g c =
    let V = Listed (g.V.View.list c.args.view.now) in
    let held = ap (λ (b : BenchState). map.get b.processes c.in-By.pid) c.self.view_is in
    rw c.in-By.is (all_of_nothing _ _ c.new-in-None.ensures (lacks_nobody c.args.guards V c.args.self.now c.in-By.pid c.in-By.act (sym held ∙ sym c.in-None.ensures)))
