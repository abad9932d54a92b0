use Rattle.std.proofs.Common.{inl, inr}
use Rattle.fl_explanations.proofs.Holders.{on_err}
use Rattle.fl_explanations.proofs.who.who_has.Goals as goal

pub returns-in_err-groups-clause-memory : goal.returns-in_err-groups-clause-memory
returns-in_err-groups-clause-memory c = on_err c.from_residual.result
    (inr (inl c.in_err-groups.ensures.memory))

pub returns-in_err-processes-clause-memory : goal.returns-in_err-processes-clause-memory
returns-in_err-processes-clause-memory c = on_err c.from_residual-in_err-processes.result
    (inl c.in_err-processes.ensures.memory)

pub returns-in_err-logins-clause-memory : goal.returns-in_err-logins-clause-memory
returns-in_err-logins-clause-memory c = on_err c.from_residual-in_err-logins.result
    (inr (inr c.in_err-logins.ensures.memory))

pub returns-clause-found : goal.returns-clause-found
returns-clause-found c = record {
  everybody = c.giver.ensures.least;
  processes = c.in_ok-processes.ensures.found;
  groups = c.in_ok-groups.ensures.found;
  logins = c.in_ok-logins.ensures.found;
}
