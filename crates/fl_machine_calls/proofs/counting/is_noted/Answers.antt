-- Who asks stands there, and what is tuned is open.
use Rattle.std.proofs.Common.{◌∙◌, sym}
use Rattle.fl_machine_calls.proofs.Admitted.{member_noted, other_noted, tuning_noted}
use Rattle.fl_machine_calls.proofs.counting.is_noted.Goals as goal

pub returns-in-Member : goal.returns-in-Member
returns-in-Member c = rw c.in-Member.is (member_noted _ _)

pub returns-then-tunes : goal.returns-then-tunes
returns-then-tunes c =
    rw c.if-tunes.true (tuning_noted c.args.job.now (sym c.tunes.ensures ∙ c.if-tunes.true))

pub returns-else-tunes : goal.returns-else-tunes
returns-else-tunes c =
    other_noted c.args.job.now (sym c.tunes.ensures ∙ c.if-tunes.false) c.in_default.not-Member
    c.names_any.result c.names_any.ensures.noted
