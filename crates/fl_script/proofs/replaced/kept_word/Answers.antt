use Rattle.std.proofs.Common.{rules}
use Rattle.fl_aliases.specs.Expansion.{NoDollar}
use Rattle.fl_aliases.specs.laws.Expanding.{plain_itself}
use Rattle.fl_script.proofs.replaced.kept_word.Goals as goal

pub returns-then-is_plain-clause-some : goal.returns-then-is_plain-clause-some
returns-then-is_plain-clause-some c =
    let clean : NoDollar c.args.word.now = search rules in
    plain_itself c.args.aliases.now c.args.word.now clean
