use Rattle.std.proofs.Common.{◌∙◌, List, subst, sym}
use Rattle.fl_settling.specs.Batches.{AreBack, BatchEnds}
use Rattle.fl_worker.specs.declared.worker.Worker.{Worker}
use Rattle.fl_manning.proofs.Ends.{written_back}
use Rattle.fl_manning.proofs.ending.settle.Goals as goal

pub returns-clause-batch : goal.returns-clause-batch
returns-clause-batch g c = λ number b b' start e l recorded of back.
    subst
    (λ (ws : List Worker). BatchEnds number b b' c.args.registrar.now.deeds
    c.args.registrar.now.failed start ws c.settle_slice.result)
    (sym (written_back c.args.workers.now.len c.settle_slice.new.workers c.args.workers.now.items
    (c.settle_slice.ensures.settled.count ∙ c.as_mut_slice.ensures.len)))
    (c.settle_slice.ensures.batch number b b' start e l recorded of
    (subst (AreBack start) (sym c.as_mut_slice.ensures.value) back))
