use Rattle.std.proofs.Common.{ap, ap₂, ◌≡◌, ◌∙◌, true}
use Rattle.std.proofs.lemmas.Result.{IfOk-weaker}
use Rattle.clap.specs.Simple.{app_of_fields, on_top}
use Rattle.clap.specs.Words.{app_of, with_rule}
use Rattle.fl_words.specs.Words.{start, workers_option}
use Rattle.fl_words.proofs.words.command.Goals as goal

pub returns : goal.returns
returns c =
    let start_is : app_of c.after_help.result ≡ start = ap app_of_fields c.after_help.ensures
    ∙ ap app_of_fields c.about.ensures ∙ ap app_of_fields c.version.ensures
    ∙ ap (on_top (λ s. record s { has_version = true }))
    (ap app_of_fields c.in_ok-bin_name.ensures.0 ∙ c.new.ensures.app) in
    let first_is : app_of c.in_ok-arg.field-0 ≡ with_rule start workers_option =
    c.in_ok-arg.ensures.shape c.workers_option.ensures.local ∙ ap₂ with_rule start_is c.workers_option.ensures.rule in
    IfOk-weaker c.arg-2.result _ _
    (λ r h. h.shape c.dir_option.ensures.local ∙ ap₂ with_rule first_is c.dir_option.ensures.rule) c.arg-2.ensures
