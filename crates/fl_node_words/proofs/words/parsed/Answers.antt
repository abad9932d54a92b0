use Rattle.std.proofs.Common.{refl, ap, subst, ◌≡◌, ◌∙◌, [], map, string_bytes, true, Result, Ok, Err, IfErr, IfOk}
use Rattle.std.proofs.lemmas.Result.{IfOk-weaker}
use Rattle.clap.proofs.OnLiterals.{clap_on_literals}
use Rattle.clap.specs.Words.{FailsBy, HasKind, Kinds, fault_of, found_of, is_simple, is_simple_and_free, matches_of, rows_of}
use Rattle.clap.specs.declared.error.Error.{Error}
use Rattle.fl_node_words.specs.Words.{IsWhole, program}
use Rattle.fl_node_words.proofs.Parsed.{whole}
use Rattle.fl_node_words.proofs.words.parsed.Goals as goal

is_simple_program : is_simple program ≡ true
unfolding clap_on_literals
is_simple_program = refl

is_free_program : is_simple_and_free program ≡ true
unfolding clap_on_literals
is_free_program = refl

right_of : {T : Type 0} (kinds : Kinds) (r : Result T Error) → FailsBy kinds r → IfOk r (λ _. kinds ≡ [])
right_of kinds (Ok x) h = h
right_of kinds (Err e) h = tt

fault_in : {T : Type 0} (kinds : Kinds) (r : Result T Error) → FailsBy kinds r → IfErr r (HasKind kinds)
fault_in kinds (Ok x) h = tt
fault_in kinds (Err e) h = h

pub returns-clause-rows : goal.returns-clause-rows
returns-clause-rows c =
    let is_program = c.in_ok-command.ensures in
    IfOk-weaker c.try_get_matches_from.result _ (λ m. rows_of (found_of m) ≡ matches_of program (map string_bytes c.args.words.now))
    (λ m h. (h (ap is_simple is_program ∙ is_simple_program)).0
    ∙ ap (λ a. matches_of a (map string_bytes c.args.words.now)) is_program)
    c.try_get_matches_from.ensures.matches

pub returns-clause-whole : goal.returns-clause-whole
returns-clause-whole c =
    IfOk-weaker c.try_get_matches_from.result _ (λ m. IsWhole (rows_of (found_of m)))
    (λ m h. whole _ c.in_ok-command.ensures m h)
    c.try_get_matches_from.ensures.parsed

pub returns-clause-right : goal.returns-clause-right
returns-clause-right c =
    let is_program = c.in_ok-command.ensures in
    right_of (fault_of program (map string_bytes c.args.words.now)) c.try_get_matches_from.result
    (subst (λ a. FailsBy (fault_of a (map string_bytes c.args.words.now)) c.try_get_matches_from.result) is_program
    (c.try_get_matches_from.ensures.kinds (ap is_simple_and_free is_program ∙ is_free_program)))
