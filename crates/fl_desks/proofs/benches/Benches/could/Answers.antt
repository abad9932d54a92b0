use Rattle.std.proofs.Common.{◌∙◌, ap, get_or}
use Rattle.fl_desks.specs.Benches.{BenchesState}
use Rattle.fl_desks.proofs.Foretold.{could_at}
use Rattle.fl_desks.proofs.benches.Benches.could.Goals as goal

pub returns-clause-could : goal.returns-clause-could
returns-clause-could c =
    let benches = ap (λ (t : BenchesState). t.benches) c.self.view_is in
    let bench = c.index_mut-bench.result.now in
    could_at c.args.guards _ c.args.self.now c.args.job.now c.place-place.result bench c.place-place.ensures.place c.place-place.ensures.within
    (c.index_mut-bench.ensures.value ∙ ap (λ xs. get_or xs c.place-place.result bench) benches)
    c.could.result c.could.ensures.could
