-- What is responded to the bytes of a line.
use Rattle.std.proofs.Common.{◌≡◌, refl, ℕ, Bool, false, List, Result, Ok, Err, IfOk, OnErr}
use Rattle.std.specs.declared.alloc.AllocError.{AllocError}
use Rattle.fl_seal.specs.declared.seal.Key.{Key}
use Rattle.fl_store.specs.Custody.{Custody}
use Rattle.fl_node.specs.Over.{NodeOver}
use Rattle.fl_calls.specs.Completing.{starved}
use Rattle.fl_machine_lines.specs.Reading.{IsReading, ReadingTakesMemory}
use Rattle.fl_machine_lines.specs.declared.line.MachineLine.{MachineLine}
use Rattle.fl_machine_lines.specs.declared.line.MachineLine.TheVariants.{Bad}
use Rattle.fl_machine_turns.specs.Answer.{bad_line, starved_line}
use Rattle.fl_machine_turns.specs.Settings.{settings_of}
use Rattle.fl_machine_turns.specs.Turn.{AnswersLine}
use Rattle.fl_machine.specs.Shown.{Shows}
use Rattle.fl_machine.specs.parts.Hearing.{Hears, IsRead}
use Rattle.fl_machine.specs.parts.Responding.{Responds}
use Rattle.fl_machine.specs.declared.response.Response.{Response}
use Rattle.fl_machine.specs.declared.response.Response.TheVariants as response
use Rattle.fl_machine.proofs.Responses.{leads, none_done}
use Rattle.fl_machine.proofs.Lines.{tells_so}
use Rattle.fl_machine.proofs.Statuses.{no_three, one_is_not_three}

-- what is said of reading them, in one word
pub is_read : (number : ℕ) (bytes : List ℕ) (read : Result MachineLine AllocError)
    → IfOk read (λ line. IsReading number bytes line) → OnErr read (ReadingTakesMemory bytes)
    → IsRead number bytes read
is_read number bytes (Ok line) ok err = ok
is_read number bytes (Err error) ok err = err

module _ {K : Type 0} (custody : Custody K) (x : NodeOver K) (keys : List Key) (guards : Bool)
    (admitted : ℕ) (bytes : List ℕ) where
  -- they say a line
  pub hears_line : (y : NodeOver K) (line : MachineLine) (r : Response) (count : ℕ)
      → IsReading x.node.number bytes line
      → Responds custody keys x
      (λ s. AnswersLine (settings_of x.node.number keys guards)
      (record { s = s; admitted = admitted; over = false }) line) r count y
      → Responds custody keys x
      (λ s. Hears (settings_of x.node.number keys guards)
      (record { s = s; admitted = admitted; over = false }) bytes) r count y
  hears_line y line r count says responds =
      leads custody x y keys r count
      (λ s. AnswersLine (settings_of x.node.number keys guards)
      (record { s = s; admitted = admitted; over = false }) line)
      (λ s. Hears (settings_of x.node.number keys guards)
      (record { s = s; admitted = admitted; over = false }) bytes)
      (λ k k' ds answer h. Hears.understood line says h) responds

  -- there is no memory to read them
  pub hears_none : ReadingTakesMemory bytes
      → Responds custody keys x
      (λ s. Hears (settings_of x.node.number keys guards)
      (record { s = s; admitted = admitted; over = false }) bytes) (response.Reply starved) 0 x
  hears_none takes =
      none_done custody x keys
      (λ s. Hears (settings_of x.node.number keys guards)
      (record { s = s; admitted = admitted; over = false }) bytes) (response.Reply starved)
      starved_line
      Shows.replied (λ k. Hears.starved takes refl) no_three

  -- they say no line of the machine
  pub hears_bad : IsReading x.node.number bytes Bad
      → Responds custody keys x
      (λ s. Hears (settings_of x.node.number keys guards)
      (record { s = s; admitted = admitted; over = false }) bytes) response.Unknown 0 x
  hears_bad says =
      hears_line x Bad response.Unknown 0 says (tells_so custody x keys
      (λ s answer. answer ≡ bad_line) response.Unknown bad_line Shows.unknown (λ k. refl)
      one_is_not_three)
