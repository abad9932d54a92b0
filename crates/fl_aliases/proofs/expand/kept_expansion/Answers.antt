use Rattle.fl_aliases.specs.laws.Expanding.{one_alias}
use Rattle.fl_aliases.proofs.expand.kept_expansion.Goals as goal

pub returns-clause-some : goal.returns-clause-some
returns-clause-some c =
    let word = c.in_ok-alias.ensures in
    let found = c.in_ok-text.ensures in
    rw (word.spelled, found.2) (one_alias c.args.aliases.now c.in_ok-alias.alias found.0 word.alias found.1)
