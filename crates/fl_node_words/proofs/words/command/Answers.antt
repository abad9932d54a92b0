use Rattle.std.proofs.Common.{ap, ap₂, ◌≡◌, ◌∙◌, true}
use Rattle.std.proofs.lemmas.Result.{IfOk-weaker}
use Rattle.clap.specs.Simple.{app_of_fields, on_top}
use Rattle.clap.specs.Words.{app_of, with_rule}
use Rattle.fl_node_words.specs.Words.{start}
use Rattle.fl_node_words.proofs.words.command.Goals as goal

pub returns : goal.returns
returns c =
    let start_is : app_of c.after_help.result ≡ start = ap app_of_fields c.after_help.ensures
    ∙ ap app_of_fields c.about.ensures ∙ ap app_of_fields c.version.ensures
    ∙ ap (on_top (λ s. record s { has_version = true }))
    (ap app_of_fields c.in_ok-bin_name.ensures.0 ∙ c.new.ensures.app) in
    let first = c.in_ok-arg.ensures.shape c.node_option.ensures.local
    ∙ ap₂ with_rule start_is c.node_option.ensures.rule in
    let second = c.in_ok-arg-2.ensures.shape c.dir_option.ensures.local ∙ ap₂ with_rule first c.dir_option.ensures.rule in
    let third = c.in_ok-arg-3.ensures.shape c.key_option.ensures.local ∙ ap₂ with_rule second c.key_option.ensures.rule in
    let fourth = c.in_ok-arg-4.ensures.shape c.unguarded_flag.ensures.local
    ∙ ap₂ with_rule third c.unguarded_flag.ensures.rule in
    IfOk-weaker c.arg-5.result _ _
    (λ r h. h.shape c.new_flag.ensures.local ∙ ap₂ with_rule fourth c.new_flag.ensures.rule) c.arg-5.ensures
