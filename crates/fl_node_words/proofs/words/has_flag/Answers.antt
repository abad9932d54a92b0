use Rattle.std.proofs.Common.{◌≡◌, ◌∙◌, None, Some, is_some, true≢false, ap, sym, codes}
use Rattle.std.specs.Prelude.{option_map, unwrap_or}
use Rattle.std.specs.Borrow.{Bor}
use Rattle.std.proofs.lemmas.Slice.Eq.{bytes_eq-Decides}
use Rattle.clap.specs.Words.{Text, first_of, found_of, rows_of}
use Rattle.clap.proofs.WalkLemmas.{first_value-rows}
use Rattle.fl_node_words.proofs.words.has_flag.Goals as goal

pub returns-in-Some : goal.returns-in-Some
returns-in-Some c =
    let text : Some c.in-Some.value.now ≡ first_of c.args.flag.now (rows_of (found_of c.args.matches.now)) =
    sym (ap (option_map (λ (s : Bor Text). s.now)) c.in-Some.is) ∙ c.get_str.ensures
    ∙ first_value-rows (found_of c.args.matches.now) c.args.flag.now in (
      (λ yes. sym text ∙ ap Some ((bytes_eq-Decides c.in-Some.value.now (codes "true")).0 (sym c.eq.ensures ∙ yes))),
      (λ is. c.eq.ensures ∙ (bytes_eq-Decides c.in-Some.value.now (codes "true")).1
          (ap (λ o. unwrap_or o c.in-Some.value.now) (text ∙ is))),
    )

pub returns-in-None : goal.returns-in-None
returns-in-None c =
    let none : None ≡ first_of c.args.flag.now (rows_of (found_of c.args.matches.now)) =
    sym (ap (option_map (λ (s : Bor Text). s.now)) c.in-None.is) ∙ c.get_str.ensures
    ∙ first_value-rows (found_of c.args.matches.now) c.args.flag.now in
    ((λ yes. absurd (true≢false (sym yes))), (λ is. absurd (true≢false (sym (ap is_some (none ∙ is))))))
