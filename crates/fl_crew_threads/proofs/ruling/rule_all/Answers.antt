use Rattle.fl_crew_threads.proofs.Going.{registers_nothing, registers_more}
use Rattle.fl_crew_threads.proofs.Received.{decides_nothing, decides_more}
use Rattle.fl_crew_threads.proofs.ruling.rule_all.Goals as goal

pub loop-init : goal.loop-init
loop-init g c =
    let old = c.args.registrar.now in
    record {
      rules = registers_nothing g.K.Keeper.custody c.args.lines.now.workers old;
      decides = decides_nothing old;
    }

pub loop-preserved : goal.loop-preserved
loop-preserved g c =
    let loop = c.loop in
    let ruled = c.rule_there-ruled in
    record {
      rules = registers_more g.K.Keeper.custody _ c.args.registrar.now loop.registrar ruled.new.registrar
          loop.invariant.rules ruled.ensures.rules;
      decides = decides_more c.args.registrar.now loop.registrar ruled.new.registrar loop.invariant.decides
          ruled.ensures.decides;
    }
