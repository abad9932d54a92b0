-- What is told of a line, as the definitions have it.
use Rattle.std.specs.Prelude.{List, replicate}
use Rattle.fl_aliases.specs.Table.{Table}
use Rattle.fl_system.specs.declared.reply.Reply.{Reply}
use Rattle.fl_system.specs.declared.reply.Reply.TheVariants.{Refused}
use Rattle.fl_calls.specs.Answer.{shown_alone}
use Rattle.fl_turns.specs.Answer.{Answer, silence, said, listed}
use Rattle.fl_cluster.specs.declared.response.Response.{Response}
use Rattle.fl_cluster.specs.declared.response.Response.TheVariants as response
use Rattle.fl_crew_session.specs.declared.told.Replies.{Replies}
use Rattle.fl_crew_session.specs.declared.told.Replies.TheVariants.{Each, All}

-- the replies, one of each line
abbrev pub replies_of : Replies → List Reply
replies_of (Each replies) = replies.items
replies_of (All count fault) = replicate count (Refused fault)

-- what a response says, apart from any node, where these aliases are set
abbrev pub shown : Table → Response → Answer
shown table response.Silence = silence
shown table (response.Said what) = said (shown_alone what)
shown table response.Aliases = listed table
