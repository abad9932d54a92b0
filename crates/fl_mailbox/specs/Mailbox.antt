-- The mailbox of a process.
use Rattle.std.specs.Prelude.{List, [], ◌∷◌}
use Rattle.std.specs.declared.option.Option.{Option}
use Rattle.std.specs.declared.option.Option.TheVariants.{None, Some}
use Rattle.std.specs.FinMap as map
use Rattle.fl_message.specs.declared.message.Letter.{Letter}
use Rattle.fl_mailbox.specs.declared.mailbox.Mailbox.{Mailbox}

-- no endpoint is open, and no message waits
abbrev pub closed : Mailbox
closed = record { endpoints = map.empty; inbox = [] }

-- the message that waited longest
abbrev pub oldest : List Letter → Option Letter
oldest [] = None
oldest (letter ∷ later) = Some letter

-- those that came after it
abbrev pub without_oldest : List Letter → List Letter
without_oldest [] = []
without_oldest (letter ∷ later) = later
