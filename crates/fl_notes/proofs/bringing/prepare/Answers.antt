use Rattle.std.proofs.Common.{◌∙◌, refl, sym, subst, inl, inr}
use Rattle.fl_system.specs.Waiting.{IsRunning}
use Rattle.fl_notes.proofs.WorkLemmas.{not_running}
use Rattle.fl_notes.proofs.bringing.prepare.Goals as goal

pub returns-in-Stopped-clause-err : goal.returns-in-Stopped-clause-err
returns-in-Stopped-clause-err g c = inl (not_running _ _ (sym c.state.ensures ∙ c.in-Stopped.is))

pub returns-in_default-copied-clause-err : goal.returns-in_default-copied-clause-err
returns-in_default-copied-clause-err g c = inr (subst IsRunning (sym (sym c.state.ensures ∙ c.in_default.is)) tt, refl)

pub returns-in-Err-clause-err : goal.returns-in-Err-clause-err
returns-in-Err-clause-err g c = inr (subst IsRunning (sym (sym c.state.ensures ∙ c.in_default.is)) tt, refl)
