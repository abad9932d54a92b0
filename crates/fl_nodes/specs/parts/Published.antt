-- What a publication is answered.
use Rattle.fl_labels.specs.SetBy as set
use Rattle.fl_system.specs.declared.reply.Reply.{Reply}
use Rattle.fl_system.specs.declared.reply.Reply.TheVariants.{Published, Took}
use Rattle.fl_system.specs.declared.state.Batch.TheVariants.{Ordered, Received}
use Rattle.fl_system.specs.declared.state.Pending.TheVariants.{Nothing, Unsaved, Due}
use Rattle.fl_system.specs.declared.state.State.{State}
use Rattle.fl_system.specs.declared.state.State.TheVariants.{Running, Stopped}

-- once what is due is published, by the state before
abbrev pub published_reply : State → Reply
published_reply (Running (Due (Ordered op maker desk))) = Published op.name
published_reply (Running (Due (Received ops))) = Took (set.len ops)
published_reply (Running Nothing) = Took 0
published_reply (Running (Unsaved batch)) = Took 0
published_reply (Stopped doubt) = Took 0
