-- What a response of the program says.
use Rattle.std.specs.Prelude.{ℕ, Option, None, Some}
use Rattle.fl_aliases.specs.declared.target.Target.{Target}
use Rattle.fl_aliases.specs.declared.target.Target.TheVariants.{Process, Operation, Endpoint}
use Rattle.fl_jobs.specs.declared.answer.Reply.TheVariants.{Made, Opened}
use Rattle.fl_system.specs.declared.reply.Reply.TheVariants.{Job, Published, Refused}
use Rattle.fl_calls.specs.declared.response.Response.TheVariants as calls
use Rattle.fl_calls.specs.Answer.{shown as shown_of}
use Rattle.fl_turns.specs.Answer.{Answer, silence, said, listed, fault_status}
use Rattle.fl_turns.specs.Over.{SessionOver}
use Rattle.fl_cluster.specs.declared.response.Response.{Response}
use Rattle.fl_cluster.specs.declared.response.Response.TheVariants as response

-- what a response says in this session
abbrev pub shown : {K M : Type 0} → SessionOver K M → Response → Answer
shown session response.Silence = silence
shown session (response.Said what) = said (shown_of session.cluster.world what)
shown session response.Aliases = listed session.aliases

-- the status of its line, whatever the session is
abbrev pub status_said : Response → ℕ
status_said (response.Said (calls.Reply (Refused fault))) = fault_status fault
status_said (response.Said (calls.Dropped fault)) = fault_status fault
status_said (response.Said calls.Unknown) = 1
status_said other = 0

-- what its line made, whatever the session is
abbrev pub made_said : Response → Option Target
made_said (response.Said (calls.Reply (Job (Made pid)))) = Some (Process pid)
made_said (response.Said (calls.Reply (Job (Opened endpoint)))) = Some (Endpoint endpoint)
made_said (response.Said (calls.Reply (Published name))) = Some (Operation name)
made_said other = None
