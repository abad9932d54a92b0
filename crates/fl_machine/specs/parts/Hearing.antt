-- What is done where the bytes of a line came, as far as its node goes.
use Rattle.std.specs.Prelude.{◌≡◌, ℕ, List, []}
use Rattle.std.specs.declared.alloc.AllocError.{AllocError}
use Rattle.std.specs.declared.result.Result.{Result}
use Rattle.std.specs.declared.result.Result.TheVariants.{Ok, Err}
use Rattle.fl_system.specs.World.{KeptNode}
use Rattle.fl_machine_lines.specs.Reading.{IsReading, ReadingTakesMemory}
use Rattle.fl_machine_lines.specs.declared.line.MachineLine.{MachineLine}
use Rattle.fl_machine_turns.specs.Answer.{Answer, starved_line}
use Rattle.fl_machine_turns.specs.Done.{Did}
use Rattle.fl_machine_turns.specs.Settings.{Settings}
use Rattle.fl_machine_turns.specs.Turn.{AnswersLine, Session}

-- they were read so by the machine of this number, or there was no memory to read them
abbrev pub IsRead : ℕ → List ℕ → Result MachineLine AllocError → Type 0
IsRead number bytes (Ok line) = IsReading number bytes line
IsRead number bytes (Err error) = ReadingTakesMemory bytes

-- what they say is answered, or there is no memory to read them
pub data Hears (settings : Settings) (old : Session) (bytes : List ℕ)
    : List Did → Answer → KeptNode → Type 0 where
  understood : (line : MachineLine) {ds : List Did} {answer : Answer} {s' : KeptNode}
      → IsReading settings.number bytes line → AnswersLine settings old line ds answer s'
      → Hears settings old bytes ds answer s'
  starved : {s' : KeptNode} → ReadingTakesMemory bytes → s' ≡ old.s
      → Hears settings old bytes [] starved_line s'
