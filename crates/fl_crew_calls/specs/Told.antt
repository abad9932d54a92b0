-- What the lines of a batch are replied, by its entries.
use Rattle.std.specs.Prelude.{◌+◌, ◌++◌, ◌∷◌, [], ℕ, List, length}
use Rattle.std.specs.List.{flat_map}
use Rattle.fl_crew_model.specs.declared.record.Told.TheVariants as told
use Rattle.fl_dealing.specs.declared.entry.Entry.{Entry}
use Rattle.fl_dealing.specs.declared.entry.Reply.{Reply as Answered}
use Rattle.fl_dealing.specs.declared.entry.Reply.TheVariants as entry
use Rattle.fl_system.specs.declared.reply.Reply.{Reply}
use Rattle.fl_system.specs.declared.reply.Reply.TheVariants.{Job, Published, Refused, Sent, Took}
use Rattle.fl_wire.specs.declared.packet.Packet.{Packet}
use Rattle.fl_wire.specs.declared.packet.Packet.TheVariants.{Data}

-- where so many packets were sent before, a message is the next one
abbrev pub reply_behind : ℕ → Answered → Reply
reply_behind count (entry.Took taken) = Took taken
reply_behind count (entry.Told (told.Reply reply)) = Job reply
reply_behind count (entry.Told (told.Out message)) = Sent (count + 1) 1
reply_behind count (entry.Told (told.Published name)) = Published name
reply_behind count (entry.Told (told.Refused fault)) = Refused fault

-- the message that it sends, if it sends one
abbrev pub sent_by : Answered → List Packet
sent_by (entry.Took taken) = []
sent_by (entry.Told (told.Reply reply)) = []
sent_by (entry.Told (told.Out message)) = Data message ∷ []
sent_by (entry.Told (told.Published name)) = []
sent_by (entry.Told (told.Refused fault)) = []

-- those of all entries, in their order
abbrev pub all_sent : List Entry → List Packet
all_sent entries = flat_map (λ e. sent_by e.reply) entries

-- what each is replied, where these packets were sent before
abbrev pub replies_behind : List Packet → List Entry → List Reply
replies_behind sent [] = []
replies_behind sent (e ∷ es) =
    reply_behind (length sent) e.reply ∷ replies_behind (sent ++ sent_by e.reply) es
