use Rattle.std.proofs.Common.{map, sym}
use Rattle.fl_script.proofs.Found.{passed}
use Rattle.fl_script.proofs.Saying.{none_named, not_made}
use Rattle.fl_script.proofs.meaning.named_line.Goals as goal

pub returns-in_err-line-clause-ok : goal.returns-in_err-line-clause-ok
returns-in_err-line-clause-ok c = passed _ c.from_residual.ensures.1 c.in_err-line.ensures.ok (none_named c.args.aliases.now (map (λ w. w.now) c.args.front.now))

pub returns-then-not-makes-clause-ok : goal.returns-then-not-makes-clause-ok
returns-then-not-makes-clause-ok c = λ bad. not_made c.args.aliases.now (map (λ w. w.now) c.args.front.now) c.in_ok-line.line c.in_ok-line.ensures.ok (sym c.if-not-makes.ensures)
