-- How what a world answers is written.
use Rattle.std.specs.Prelude.{◌++◌, [], ◌∷◌, ℕ, List, codes}
use Rattle.std.specs.Fmt.{decimal}
use Rattle.std.specs.List.{flat_map, range_with_len}
use Rattle.fl_labels.specs.declared.name.Name.{Name}
use Rattle.fl_labels.specs.Text.{name_text}
use Rattle.fl_answers.specs.AnswerText.{refusal_text, reply_text}
use Rattle.fl_system.specs.declared.answer.Fault.{Fault}
use Rattle.fl_system.specs.declared.answer.Fault.TheVariants.{Refused, KeeperFailed, WrongNode, Stopped, Clash, Impostor}
use Rattle.fl_system.specs.declared.reply.Reply.{Reply}
use Rattle.fl_system.specs.declared.reply.Reply.TheVariants.{Job, Begun, Taking, Took, Published, Done, Booted, Sent, NoSuch, Refused as IsRefused}

-- the line of a number after these bytes
abbrev pub count_text : List ℕ → ℕ → List ℕ
count_text front number = front ++ (decimal number ++ codes "\n")

-- the line of a name after these bytes
abbrev pub named_text : List ℕ → Name → List ℕ
named_text front name = front ++ (name_text name ++ codes "\n")

-- the fault's number, and what it is about
abbrev pub fault_text : Fault → List ℕ
fault_text (Refused refusal) = refusal_text refusal
fault_text KeeperFailed = codes "F15"
fault_text WrongNode = codes "F20"
fault_text Stopped = codes "F21"
fault_text (Clash name) = codes "F16 " ++ name_text name
fault_text (Impostor name) = codes "F17 " ++ name_text name

-- the line of a fault
abbrev pub refused_fault_text : Fault → List ℕ
refused_fault_text fault = codes "refused " ++ (fault_text fault ++ codes "\n")

-- the line of a fault for which a packet does not arrive
abbrev pub dropped_fault_text : Fault → List ℕ
dropped_fault_text fault = codes "dropped " ++ (fault_text fault ++ codes "\n")

-- each number after a space
abbrev pub spaced_text : List ℕ → List ℕ
spaced_text numbers = flat_map (λ number. 32 ∷ decimal number) numbers

-- `sent 2 3 4`: the packets by their numbers, or `sent none`
abbrev pub sent_packets_text : List ℕ → List ℕ
sent_packets_text [] = codes "sent none\n"
sent_packets_text (number ∷ numbers) = codes "sent" ++ (spaced_text (number ∷ numbers) ++ codes "\n")

-- the line of what an event of a world is answered
abbrev pub world_text : Reply → List ℕ
world_text (Job reply) = reply_text reply ++ codes "\n"
world_text (Begun name) = named_text (codes "begun ") name
world_text (Taking count) = count_text (codes "begun ") count
world_text (Took count) = count_text (codes "took ") count
world_text (Published name) = named_text (codes "ok ") name
world_text Done = codes "ok\n"
world_text (Booted boot) = count_text (codes "boot ") boot
world_text (Sent first count) = sent_packets_text (range_with_len first count)
world_text NoSuch = codes "no-such\n"
world_text (IsRefused fault) = refused_fault_text fault
