-- How answers are written.
use Rattle.std.specs.Prelude.{◌++◌, [], ◌∷◌, ℕ, List, codes}
use Rattle.std.specs.Fmt.{decimal}
use Rattle.hex.specs.Hex.{encode_lower}
use Rattle.fl_labels.specs.Text.{name_text, pid_text, cap_text, caps_text, endpoint_text}
use Rattle.fl_message.specs.declared.message.Letter.{Letter}
use Rattle.fl_jobs.specs.declared.answer.Refusal.{Refusal}
use Rattle.fl_jobs.specs.declared.answer.Refusal.TheVariants.{NoProcess, Busy, MissingCap, NoEndpoint, UnsafeEndpoint, EndpointsFull, NotWritable, NotReadable, Secrecy, Integrity, NoLogin, WrongSecret, NamesSpent, LabelTooLong, Memory, NotOwned, InboxFull}
use Rattle.fl_jobs.specs.declared.answer.Reply.{Reply}
use Rattle.fl_jobs.specs.declared.answer.Reply.TheVariants.{Made, Done, Yes, NotYet, Entered, Emitted, Opened, Taken, Empty, Arrived}

-- two digits in lower case for each byte, and `none` for no bytes
abbrev pub bytes_text : List ℕ → List ℕ
bytes_text [] = codes "none"
bytes_text (b ∷ bytes) = encode_lower (b ∷ bytes)

-- `message p1.1.1 {*1.4} 6869`: who sent it, its capabilities, its bytes
abbrev pub letter_text : Letter → List ℕ
letter_text letter = codes "message " ++ (pid_text letter.sender ++ (codes " " ++ (caps_text letter.message.caps ++ (codes " " ++ bytes_text letter.message.payload))))

abbrev pub reply_text : Reply → List ℕ
reply_text (Made pid) = pid_text pid
reply_text Done = codes "ok"
reply_text Yes = codes "yes"
reply_text NotYet = codes "not-yet"
reply_text (Entered cap) = codes "ok " ++ cap_text cap
reply_text (Emitted bytes) = codes "out " ++ bytes_text bytes
reply_text (Opened endpoint) = codes "ok " ++ endpoint_text endpoint
reply_text (Taken letter) = letter_text letter
reply_text Empty = codes "empty"
reply_text (Arrived pid) = codes "arrived " ++ pid_text pid

-- the refusal's number, and what it is about
abbrev pub refusal_text : Refusal → List ℕ
refusal_text (NoProcess pid) = codes "F1 " ++ pid_text pid
refusal_text (NoEndpoint endpoint) = codes "F2 " ++ endpoint_text endpoint
refusal_text (MissingCap cap) = codes "F3 " ++ cap_text cap
refusal_text (UnsafeEndpoint endpoint tag) = codes "F4 " ++ (endpoint_text endpoint ++ (codes " " ++ name_text tag))
refusal_text EndpointsFull = codes "F5"
refusal_text (NotWritable endpoint) = codes "F6 " ++ endpoint_text endpoint
refusal_text (NotReadable endpoint) = codes "F7 " ++ endpoint_text endpoint
refusal_text (Secrecy tag) = codes "F8 " ++ name_text tag
refusal_text (Integrity tag) = codes "F9 " ++ name_text tag
refusal_text (NoLogin login) = codes "F10 " ++ name_text login
refusal_text WrongSecret = codes "F11"
refusal_text NamesSpent = codes "F12"
refusal_text LabelTooLong = codes "F13"
refusal_text Memory = codes "F14"
refusal_text (NotOwned cap) = codes "F22 " ++ cap_text cap
refusal_text InboxFull = codes "F23"
refusal_text Busy = codes "F24"

-- the line of a refusal
abbrev pub refused_text : Refusal → List ℕ
refused_text refusal = codes "refused " ++ (refusal_text refusal ++ codes "\n")

-- the line of a message that does not arrive
abbrev pub dropped_text : Refusal → List ℕ
dropped_text refusal = codes "dropped " ++ (refusal_text refusal ++ codes "\n")

-- `sent 1`: a packet by its number
abbrev pub sent_text : ℕ → List ℕ
sent_text number = codes "sent " ++ decimal number
