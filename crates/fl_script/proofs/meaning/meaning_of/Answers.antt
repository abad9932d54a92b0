use Rattle.std.proofs.Common.{map}
use Rattle.fl_script.proofs.Found.{passed, passed_on}
use Rattle.fl_script.proofs.Saying.{named_none}
use Rattle.fl_script.specs.laws.NamedLines.{named_take, plain_take}
use Rattle.fl_script.proofs.meaning.meaning_of.Goals as goal

pub returns-in_err-line-clause-memory : goal.returns-in_err-line-clause-memory
returns-in_err-line-clause-memory c = passed_on _ c.from_residual.ensures.1 c.in_err-line.ensures.memory
    (plain_take (map (λ w. w.now) c.args.words.now) c.in_default.ensures)

pub returns-in_err-line-2-clause-memory : goal.returns-in_err-line-2-clause-memory
returns-in_err-line-2-clause-memory c = passed_on _ c.from_residual-in_err-line-2.ensures.1 c.in_err-line-2.ensures.memory
    (named_take (map (λ w. w.now) c.args.words.now) (map (λ w. w.now) c.in-Some.named.front.now) c.in-Some.named.alias c.in-Some.ensures)

pub returns-in_err-line-2-clause-ok : goal.returns-in_err-line-2-clause-ok
returns-in_err-line-2-clause-ok c = passed _ c.from_residual-in_err-line-2.ensures.1 c.in_err-line-2.ensures.ok (λ none meaning.
    named_none c.args.aliases.now (map (λ w. w.now) c.args.words.now) (map (λ w. w.now) c.in-Some.named.front.now) c.in-Some.named.alias c.in-Some.ensures none meaning.line meaning.alias)
