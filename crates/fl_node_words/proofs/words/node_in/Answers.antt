use Rattle.std.proofs.Common.{◌≡◌, ◌∙◌, None, Some, IsSomeAnd, ap, sym, subst, codes}
use Rattle.std.specs.Prelude.{option_map}
use Rattle.std.specs.Borrow.{Bor}
use Rattle.clap.specs.Words.{IsUnsignedIn, Text, first_of, found_of, rows_of}
use Rattle.clap.proofs.WalkLemmas.{first_value-rows}
use Rattle.fl_node_words.specs.Words.{SaysNode}
use Rattle.fl_node_words.proofs.words.node_in.Goals as goal

pub node_from-requires : goal.node_from-requires
node_from-requires c =
    let text : Some c.in-Some.text.now ≡ first_of (codes "node") (rows_of (found_of c.args.matches.now)) =
    sym (ap (option_map (λ (s : Bor Text). s.now)) c.in-Some.is) ∙ c.get_str.ensures
    ∙ first_value-rows (found_of c.args.matches.now) (codes "node") in
    subst (λ o. IsSomeAnd o (IsUnsignedIn 1 4294967295)) (sym text) c.requires.0

pub unreachable-requires : goal.unreachable-requires
unreachable-requires c =
    let none : None ≡ first_of (codes "node") (rows_of (found_of c.args.matches.now)) =
    sym (ap (option_map (λ (s : Bor Text). s.now)) c.in-None.is) ∙ c.get_str.ensures
    ∙ first_value-rows (found_of c.args.matches.now) (codes "node") in
    subst (λ o. IsSomeAnd o (IsUnsignedIn 1 4294967295)) (sym none) c.requires.0

pub returns : goal.returns
returns c =
    let text : Some c.in-Some.text.now ≡ first_of (codes "node") (rows_of (found_of c.args.matches.now)) =
    sym (ap (option_map (λ (s : Bor Text). s.now)) c.in-Some.is) ∙ c.get_str.ensures
    ∙ first_value-rows (found_of c.args.matches.now) (codes "node") in
    subst (λ o. SaysNode o c.node_from.result) text c.node_from.ensures
