use Rattle.std.proofs.Common.{rules, ap, ◌≡◌, ◌∙◌, Some}
use Rattle.clap.specs.declared.builder.value_parser.ValueParser.TheVariants.{Unsigned}
use Rattle.fl_words.proofs.words.workers_option.Goals as goal

pub returns-clause-rule : goal.returns-clause-rule
returns-clause-rule c =
    let given = c.value_parser.ensures.given in
    let reads : c.value_parser.result.value_parser ≡ Some (Unsigned 0 16) = given.1 ∙ ap Some given.2 in
    search rules
