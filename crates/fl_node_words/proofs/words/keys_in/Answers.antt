use Rattle.std.proofs.Common.{rules, ◌≡◌, ◌∙◌, [], List, None, Some, ap, sym, codes}
use Rattle.std.proofs.lemmas.Result.{IfOk-weaker}
use Rattle.std.specs.Prelude.{option_map, unwrap_or}
use Rattle.std.specs.Borrow.{Bor}
use Rattle.clap.specs.Walk.{texts}
use Rattle.clap.specs.Words.{Text, all_of, found_of, rows_of}
use Rattle.clap.proofs.WalkLemmas.{raw_values-rows}
use Rattle.fl_node_words.proofs.words.keys_in.Goals as goal

pub returns-in-Some : goal.returns-in-Some
returns-in-Some c =
    let found : Some (texts c.in-Some.keys.now) ≡ all_of (codes "key") (rows_of (found_of c.args.matches.now)) =
    sym (ap (option_map (λ (s : Bor (List (Bor Text))). texts s.now)) c.in-Some.is) ∙ c.get_strs.ensures
    ∙ raw_values-rows (found_of c.args.matches.now) (codes "key") in
    IfOk-weaker c.from_slice.result _ _ (λ keys h. ap texts h ∙ ap (λ o. unwrap_or o []) found) c.from_slice.ensures.items

pub returns-in-None : goal.returns-in-None
returns-in-None c =
    let found : None ≡ all_of (codes "key") (rows_of (found_of c.args.matches.now)) =
    sym (ap (option_map (λ (s : Bor (List (Bor Text))). texts s.now)) c.in-None.is) ∙ c.get_strs.ensures
    ∙ raw_values-rows (found_of c.args.matches.now) (codes "key") in
    let empty : c.new.result.items ≡ [] = search rules in
    ap texts empty ∙ ap (λ o. unwrap_or o []) found
