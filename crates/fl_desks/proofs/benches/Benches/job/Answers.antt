use Rattle.std.proofs.Common.{◌∙◌, ap, get_or, length}
use Rattle.fl_bench.specs.Bench.{BenchState}
use Rattle.fl_desks.specs.Benches.{BenchesState, bench_at}
use Rattle.fl_desks.proofs.Views.{item_here, set_length, with_here}
use Rattle.fl_desks.proofs.benches.Benches.job.Goals as goal

pub returns-clause-does : goal.returns-clause-does
returns-clause-does c seen at =
    let same = c.self.view_is ∙ c.count.ensures in
    let benches = ap (λ (t : BenchesState). t.benches) same in
    let bench : BenchState = c.index_mut-bench.result.now in
    let stands = c.index_mut-bench.ensures.value ∙ ap (λ xs. get_or xs c.place-place.result bench) benches in
    record {
      bench = bench;
      left = c.work.new.bench;
      stands = item_here _ c.place-place.result (bench_at c.args.self.now c.args.job.now) bench c.place-place.ensures.place c.place-place.ensures.within stands;
      does = c.work.ensures.does seen at;
      leaves = with_here c.args.self.now c.self.inside.next c.self.inside.all.items c.place-place.result c.args.job.now c.work.new.bench c.place-place.ensures.place same;
    }

pub returns-clause-count : goal.returns-clause-count
returns-clause-count c =
    set_length c.self.inside.all.items c.place-place.result c.work.new.bench
    ∙ ap (λ (t : BenchesState). length t.benches) (c.self.view_is ∙ c.count.ensures)
