use Rattle.std.proofs.Common.{◌∙◌, ◌-◌, ◌<◌, length, get_or, sym, ap, arith}
use Rattle.fl_bench.specs.Gifts.{finished}
use Rattle.fl_worker.specs.declared.worker.Worker.{Worker}
use Rattle.fl_settling.proofs.Each.{read_same}
use Rattle.fl_manning.proofs.Benches.{finished_at}
use Rattle.fl_manning.proofs.finishing.finish_at.Goals as goal

pub returns-clause-bench : goal.returns-clause-bench
returns-clause-bench c =
    let ws = c.args.workers.now in
    let m = c.args.number - 1 in
    let read = c.index-workers-number.result in
    let new = record (get_or ws m read) { bench = c.finish.new.self } in
    let below : m < length ws = omega arith in
    let same = read_same ws m read below c.index-workers-number.is new in
    finished_at ws c.args.number m new c.args.pid c.args.op.now (omega arith) below
    (c.finish.ensures ∙ ap (λ (w : Worker). finished w.bench c.args.pid c.args.op.now) (sym same))
