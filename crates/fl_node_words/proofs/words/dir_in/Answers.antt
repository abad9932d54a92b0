use Rattle.std.proofs.Common.{◌≡◌, ◌∙◌, None, Some, IsSomeAnd, ap, sym, subst, codes}
use Rattle.std.specs.Prelude.{option_map}
use Rattle.std.specs.Borrow.{Bor}
use Rattle.clap.specs.Words.{Text, first_of, found_of, rows_of}
use Rattle.clap.proofs.WalkLemmas.{first_value-rows}
use Rattle.fl_node_words.specs.Words.{IsPath}
use Rattle.fl_node_words.proofs.words.dir_in.Goals as goal

pub unreachable-requires : goal.unreachable-requires
unreachable-requires c =
    let none : None ≡ first_of (codes "dir") (rows_of (found_of c.args.matches.now)) =
    sym (ap (option_map (λ (s : Bor Text). s.now)) c.in-None.is) ∙ c.get_str.ensures
    ∙ first_value-rows (found_of c.args.matches.now) (codes "dir") in
    subst (λ o. IsSomeAnd o IsPath) (sym none) c.requires.1

pub returns-clause-named : goal.returns-clause-named
returns-clause-named c = sym (sym (ap (option_map (λ (s : Bor Text). s.now)) c.in-Some.is) ∙ c.get_str.ensures
    ∙ first_value-rows (found_of c.args.matches.now) (codes "dir"))

pub returns-clause-path : goal.returns-clause-path
returns-clause-path c =
    let text : Some c.in-Some.dir.now ≡ first_of (codes "dir") (rows_of (found_of c.args.matches.now)) =
    sym (ap (option_map (λ (s : Bor Text). s.now)) c.in-Some.is) ∙ c.get_str.ensures
    ∙ first_value-rows (found_of c.args.matches.now) (codes "dir") in
    subst (λ o. IsSomeAnd o IsPath) (sym text) c.requires.1
