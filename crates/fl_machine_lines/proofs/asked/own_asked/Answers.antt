use Rattle.std.proofs.Common.{◌∷◌, map, subst, sym}
use Rattle.fl_script.proofs.Found.{reads}
use Rattle.fl_script.specs.parts.Reads.{Reads}
use Rattle.fl_machine_lines.specs.parts.Asking.{AsksOwn}
use Rattle.fl_machine_lines.specs.parts.Asking.IsOwn.{could, missing}
use Rattle.fl_machine_lines.proofs.Lines.{finds_explained}
use Rattle.fl_machine_lines.proofs.asked.own_asked.Goals as goal

pub returns-in_ok-job_asked-in-could-clause-ok : goal.returns-in_ok-job_asked-in-could-clause-ok
returns-in_ok-job_asked-in-could-clause-ok c =
    let spelled = c.in_ok-job_asked-in-could.ensures.ok in
    record { own = could _; spelled = (spelled.0, (c.in-could.is, spelled.1)) }

pub returns-in_ok-job_asked-in-missing-clause-ok :
    goal.returns-in_ok-job_asked-in-missing-clause-ok
returns-in_ok-job_asked-in-missing-clause-ok c =
    let spelled = c.in_ok-job_asked-in-missing.ensures.ok in
    record { own = missing _; spelled = (spelled.0, (c.in-missing.is, spelled.1)) }

pub returns-in_default-clause-ok : goal.returns-in_default-clause-ok
returns-in_default-clause-ok c =
    let behind = map (λ w. w.now) c.args.rest.now in
    let words = c.args.node.now ∷ c.args.verb.now ∷ behind in
    subst (λ r. Reads r (λ asked. AsksOwn c.args.number asked words)) (sym c.ok_or.ensures.value)
    (reads (λ asked. AsksOwn c.args.number asked words) c.explained.result
    (finds_explained c.explained.result c.args.number c.args.node.now c.args.verb.now behind
    c.in_default.not-could c.in_default.not-missing c.explained.ensures))
