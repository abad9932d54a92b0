use Rattle.std.proofs.Common.{◌∙◌, ap, refl, sym}
use Rattle.fl_audit.specs.Noted.{asker_noted}
use Rattle.fl_notes.proofs.WorkLemmas.{untuned}
use Rattle.fl_notes.proofs.working.names_tuner.Goals as goal

pub returns-then-tunes-clause-noted : goal.returns-then-tunes-clause-noted
returns-then-tunes-clause-noted g c =
    λ none. c.names_asker.ensures.noted ∙ ap (λ o. asker_noted o c.args.job.now) c.asker.ensures

pub returns-then-tunes-clause-may_be : goal.returns-then-tunes-clause-may_be
returns-then-tunes-clause-may_be g c =
    let n = c.args.node.now.node in
    λ e. c.names_asker.ensures.may_be e n.number n.boot n (record { number_is = refl; boot_is = refl; asker_is = sym c.asker.ensures })

pub returns-else-tunes-clause-noted : goal.returns-else-tunes-clause-noted
returns-else-tunes-clause-noted g c =
    λ none. c.if-tunes.false ∙ untuned _ c.args.job.now (sym c.tunes.ensures ∙ c.if-tunes.false) none
