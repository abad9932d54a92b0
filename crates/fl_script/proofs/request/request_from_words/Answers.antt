use Rattle.fl_script.proofs.Found.{passed, passed_on}
use Rattle.fl_script.proofs.NodeLines.{no_act, block_of_act}
use Rattle.fl_script.proofs.request.request_from_words.Goals as goal

pub returns-in_err-act-clause-ok : goal.returns-in_err-act-clause-ok
returns-in_err-act-clause-ok c =
    let acts = c.in_err-act.ensures.ok in
    passed _ c.from_residual.ensures.1 (λ bad q act. acts q bad act)
    (no_act c.args.verb.now c.args.rest.now _ c.in-Some.pid c.in-len1-up.len_at_least
    c.in-Some.ensures)

pub returns-in_err-act-clause-memory : goal.returns-in_err-act-clause-memory
returns-in_err-act-clause-memory c =
    passed_on _ c.from_residual.ensures.1 c.in_err-act.ensures.memory
    (block_of_act c.args.verb.now c.args.rest.now c.in-len1-up.len_at_least)
