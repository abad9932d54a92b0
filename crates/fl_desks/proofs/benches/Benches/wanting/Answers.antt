use Rattle.std.proofs.Common.{◌∙◌, ap, get_or, length}
use Rattle.fl_ops.specs.Registry.{Listed}
use Rattle.fl_bench.specs.Bench.{BenchState}
use Rattle.fl_desks.specs.Benches.{BenchesState, bench_at}
use Rattle.fl_desks.proofs.Lacking.{all_at, some_at}
use Rattle.fl_desks.proofs.Views.{item_here}
use Rattle.fl_desks.proofs.benches.Benches.wanting.Goals as goal

pub returns-clause-ok : goal.returns-clause-ok
returns-clause-ok c =
    let bench : BenchState = c.index-bench.result.now in
    let at = c.index-bench.ensures ∙ ap (λ (t : BenchesState). get_or t.benches c.place.result bench) c.self.view_is in
    let stands = item_here c.args.self.now.benches c.place.result (bench_at c.args.self.now c.args.job.now) bench c.place.ensures.place c.place.ensures.within at in
    all_at c.args.guards (Listed c.args.listing.now.published) c.args.self.now c.args.job.now bench stands c.wanting.result c.wanting.ensures.ok

pub returns-clause-err : goal.returns-clause-err
returns-clause-err c =
    let bench : BenchState = c.index-bench.result.now in
    let at = c.index-bench.ensures ∙ ap (λ (t : BenchesState). get_or t.benches c.place.result bench) c.self.view_is in
    let stands = item_here c.args.self.now.benches c.place.result (bench_at c.args.self.now c.args.job.now) bench c.place.ensures.place c.place.ensures.within at in
    some_at c.args.guards (Listed c.args.listing.now.published) c.args.self.now c.args.job.now bench stands _ c.wanting.result c.wanting.ensures.err
