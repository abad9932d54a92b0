-- What is answered to a line of a script.
use Rattle.std.specs.Prelude.{ℕ}
use Rattle.fl_aliases.specs.Table.{Table}
use Rattle.fl_system.specs.declared.answer.Fault.{Fault}
use Rattle.fl_system.specs.declared.answer.Fault.TheVariants.{KeeperFailed}
use Rattle.fl_system.specs.declared.reply.Reply.TheVariants.{Refused}
use Rattle.fl_calls.specs.Answer.{Answer as Said, replied, dropped, unknown}
use Rattle.fl_calls.specs.Completing.{starved}

-- nothing; what the world is asked for; or the aliases that are set
pub data Answer : Type 0 where
  silence : Answer
  said : Said → Answer
  listed : Table → Answer

-- the line is none of the script
abbrev pub bad_line : Answer
bad_line = said unknown

-- there was not enough memory
abbrev pub starved_line : Answer
starved_line = said (replied starved)

-- a keeper that failed makes 3, and no other fault anything
abbrev pub fault_status : Fault → ℕ
fault_status KeeperFailed = 3
fault_status fault = 0

-- the status of a line: 1 where it is none of the script, 3 where a keeper failed, and else 0
abbrev pub status_of : Answer → ℕ
status_of (said (replied (Refused fault))) = fault_status fault
status_of (said (dropped fault)) = fault_status fault
status_of (said unknown) = 1
status_of answer = 0
