use Rattle.std.proofs.Common.{◌∷◌, refl, subst}
use Rattle.fl_script.specs.Grammar.{Spells}
use Rattle.fl_script.proofs.Found.{passed}
use Rattle.fl_script.proofs.NodeLines.{no_words, no_line}
use Rattle.fl_script.proofs.OfProcess.{first_word}
use Rattle.fl_script.proofs.line.line_behind.Goals as goal

pub returns-in_default-rest-clause-ok : goal.returns-in_default-rest-clause-ok
returns-in_default-rest-clause-ok c = λ bad. no_words c.in-Some.node c.args.first.now c.in-Some.ensures c.args.rest.now c.in_default-rest.len_below

pub returns-in_err-request-clause-ok : goal.returns-in_err-request-clause-ok
returns-in_err-request-clause-ok c =
    let front = first_word c.args.rest.now _ _ c.in-len1-up.len_at_least refl in
    passed _ c.from_residual.ensures.1 c.in_err-request.ensures.ok (λ none line says.
    no_line c.in-Some.node c.args.first.now c.in-Some.ensures _ none line
    (subst (λ words. Spells line (c.args.first.now ∷ words)) front says))
