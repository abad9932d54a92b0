use Rattle.std.proofs.Common.{refl, ap, ◌≡◌, ◌∙◌, codes, map, string_bytes, true}
use Rattle.std.proofs.lemmas.Result.{IfOk-weaker}
use Rattle.clap.proofs.OnLiterals.{clap_on_literals}
use Rattle.clap.proofs.WalkLemmas.{first_value-rows}
use Rattle.clap.specs.Words.{first_of, found_of, is_simple, matches_of}
use Rattle.fl_words.specs.Words.{program}
use Rattle.fl_words.proofs.words.parsed.Goals as goal

is_simple_program : is_simple program ≡ true
unfolding clap_on_literals
is_simple_program = refl

-- src/words.rt:52:1
pub returns-clause-dir : goal.returns-clause-dir
returns-clause-dir c =
    let is_program = c.in_ok-command.ensures in
    IfOk-weaker c.try_get_matches_from.result _ _
    (λ m h. first_value-rows (found_of m) (codes "dir")
    ∙ ap (first_of (codes "dir")) ((h (ap is_simple is_program ∙ is_simple_program)).0
    ∙ ap (λ a. matches_of a (map string_bytes c.args.words.now)) is_program))
    c.try_get_matches_from.ensures.matches

pub returns-clause-workers : goal.returns-clause-workers
returns-clause-workers c =
    let is_program = c.in_ok-command.ensures in
    IfOk-weaker c.try_get_matches_from.result _ _
    (λ m h. first_value-rows (found_of m) (codes "workers")
    ∙ ap (first_of (codes "workers")) ((h (ap is_simple is_program ∙ is_simple_program)).0
    ∙ ap (λ a. matches_of a (map string_bytes c.args.words.now)) is_program))
    c.try_get_matches_from.ensures.matches
