use Rattle.std.proofs.Common.{rules, ap, ◌≡◌, ◌∙◌, Some}
use Rattle.clap.specs.declared.builder.value_parser.ValueParser.TheVariants.{NonEmptyString}
use Rattle.fl_words.proofs.words.dir_option.Goals as goal

pub returns-clause-rule : goal.returns-clause-rule
returns-clause-rule c =
    let given = c.value_parser.ensures.given in
    let reads : c.value_parser.result.value_parser ≡ Some (NonEmptyString) = given.1 ∙ ap Some given.2 in
    search rules
