use Rattle.std.proofs.Common.{refl, subst, sym, codes}
use Rattle.fl_script.proofs.OfProcess.{first_word}
use Rattle.fl_machine_lines.specs.Grammar.{Spells, SpellsAsked}
use Rattle.fl_machine_lines.proofs.Lines.{no_audit, no_echo, no_other}
use Rattle.fl_machine_lines.proofs.line.meaning.Goals as goal

pub returns-in-None-clause-ok : goal.returns-in-None-clause-ok
returns-in-None-clause-ok c =
    let front =
    first_word c.args.words.now _ (codes "echo") c.in-len1-up.len_at_least c.in-echo.is in
    λ bad line s. no_echo c.args.number _ c.in-None.ensures line
    (subst (Spells c.args.number line) front s)

pub returns-in-len1-up-rest-clause-ok : goal.returns-in-len1-up-rest-clause-ok
returns-in-len1-up-rest-clause-ok c =
    let front =
    first_word c.args.words.now _ (codes "audit") c.in-len1-up.len_at_least c.in-audit.is in
    λ bad line s. no_audit c.args.number _ c.in-len1-up-rest.len_at_least line
    (subst (Spells c.args.number line) front s)

pub returns-in-Err-clause-ok : goal.returns-in-Err-clause-ok
returns-in-Err-clause-ok c =
    let front = first_word c.args.words.now _ _ c.in-len1-up.len_at_least refl in
    λ bad line s. no_other c.args.number _ _ c.in_default-first.not-echo
    c.in_default-first.not-audit
    (λ asked t. c.in-Err.ensures.ok bad asked
    (subst (SpellsAsked c.args.number asked) (sym front) t))
    line (subst (Spells c.args.number line) front s)
