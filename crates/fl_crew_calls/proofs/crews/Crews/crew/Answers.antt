use Rattle.std.proofs.Common.{◌∙◌, ap, refl, sym, None, Some}
use Rattle.fl_crew_calls.proofs.Places.{at_place}
use Rattle.fl_crew_calls.proofs.crews.Crews.crew.Goals as goal

pub returns-in_err-manned-clause-none : goal.returns-in_err-manned-clause-none
returns-in_err-manned-clause-none g c =
    rw c.from_residual.ensures (at_place c.self.inside.all.entries (ap (λ s. s.crews) c.self.view_is)
    c.args.number None c.in_err-manned.ensures.value)

pub returns-in-Some-clause-some : goal.returns-in-Some-clause-some
returns-in-Some-clause-some g c =
    at_place c.self.inside.all.entries (ap (λ s. s.crews) c.self.view_is) c.args.number
    (Some c.in_ok-manned.field-0.now) c.in_ok-manned.ensures.value
    ∙ ap Some (c.in-Some.is ∙ ap Some (sym c.crew.ensures))

pub returns-in-None-clause-none : goal.returns-in-None-clause-none
returns-in-None-clause-none g c =
    absurd (c.self.invariant.2 c.args.number (at_place c.self.inside.all.entries refl c.args.number
    (Some c.in_ok-manned.field-0.now) c.in_ok-manned.ensures.value ∙ ap Some c.in-None.is))
