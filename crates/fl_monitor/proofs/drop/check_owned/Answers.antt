use Rattle.fl_labels.specs.SetBy as set
use Rattle.fl_jobs.specs.declared.answer.Refusal.TheVariants.{NotOwned}
use Rattle.fl_monitor.specs.parts.Checked.{Checked}
use Rattle.fl_monitor.proofs.CheckLemmas.{passes_unless, refuses_unless}
use Rattle.fl_monitor.proofs.drop.check_owned.Goals as goal

pub returns-then-not-contains : goal.returns-then-not-contains
returns-then-not-contains c = Checked.failed (refuses_unless (NotOwned c.args.cap) (set.contains c.args.owned.now c.args.cap) _ c.contains.ensures c.if-not-contains.true)

pub returns : goal.returns
returns c = Checked.passed (passes_unless (NotOwned c.args.cap) (set.contains c.args.owned.now c.args.cap) _ c.contains.ensures c.if-not-contains.false)
