use Rattle.std.proofs.Common.{arith, ap, drop, ◌∙◌}
use Rattle.fl_labels.proofs.Deques.{drop_remove}
use Rattle.fl_labels.proofs.deque.CapDeque.remove.Goals as goal

pub returns-clause-items : goal.returns-clause-items
returns-clause-items c = ap (drop c.args.self.now.before) c.remove.ensures.items ∙ drop_remove c.args.self.now.before c.args.self.now.all.items c.args.place (omega (arith, c.requires.fits))
