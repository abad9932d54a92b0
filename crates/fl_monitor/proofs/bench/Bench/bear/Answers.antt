use Rattle.std.proofs.Common.{refl}
use Rattle.fl_monitor.specs.parts.Acts.{Births}
use Rattle.fl_monitor.proofs.JobLemmas.{full_births, is_next, made_births, spent_births}
use Rattle.fl_monitor.proofs.Kept.{born_kept}
use Rattle.fl_monitor.proofs.bench.Bench.bear.Goals as goal

pub returns-in_err-serial : goal.returns-in_err-serial
returns-in_err-serial c = spent_births c.args.self.now c.args.process _ c.in_err-serial.ensures.err c.from_residual.result c.from_residual.ensures

pub returns-in_default : goal.returns-in_default
returns-in_default c = Births.full c.in_ok-serial.ensures.ok.1

pub returns-in_default-insert : goal.returns-in_default-insert
returns-in_default-insert c = full_births _ c.args.self.now c.self.view_is c.in_ok-serial.ensures.ok.1 c.args.process _ c.in_default-insert.ensures.err

pub returns : goal.returns
returns c = made_births _ c.args.self.now c.self.view_is c.in_ok-serial.ensures.ok.1 c.args.process _ c.in-Ok.is _ _ _ (is_next _ c.args.self.now c.self.view_is c.in_ok-serial.ensures.ok.1 _ refl refl c.in_ok-serial.ensures.ok.0) c.in-Ok-insert.ensures.ok c.from.ensures

pub invariant_of-self-2 : goal.invariant_of-self-2
invariant_of-self-2 c = let i = c.self.invariant in (i.0, (i.1.0, born_kept i.1.1 _ _ c.in-Ok.process _ (is_next _ c.args.self.now c.self.view_is c.in_ok-serial.ensures.ok.1 _ refl refl c.in_ok-serial.ensures.ok.0) c.in-Ok-insert.ensures.ok c.from.ensures))
