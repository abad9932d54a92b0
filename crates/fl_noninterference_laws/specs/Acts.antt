-- What a node does alone, told apart by whom it concerns.
use Rattle.std.specs.Prelude.{◌≡◌, ◌≢◌, ◌≤◌, ℕ, length}
use Rattle.std.specs.declared.option.Option.{Option}
use Rattle.fl_labels.specs.declared.name.Name.{Name}
use Rattle.fl_wire.specs.declared.packet.Packet.TheVariants.{Data}
use Rattle.fl_jobs.specs.declared.answer.Refusal.TheVariants.{Memory}
use Rattle.fl_system.specs.Processes.{process_of}
use Rattle.fl_system.specs.State.{NodeState}
use Rattle.fl_system.specs.World.{KeptNode}
use Rattle.fl_system.specs.declared.admission.Party.{Party}
use Rattle.fl_system.specs.declared.answer.Fault.TheVariants as faults
use Rattle.fl_system.specs.declared.reply.Reply.TheVariants.{Refused}
use Rattle.fl_machine_model.specs.Acts.{Act, Job, Receive, Outcome, Saying, Replies}
use Rattle.fl_machine_model.specs.Alone.{MachineStep}
use Rattle.fl_noninterference_laws.specs.AlikeNodes.{AreKeptAlike, IsOpen}
use Rattle.fl_noninterference_laws.specs.Guarded.{IsGuardedJob}
use Rattle.fl_noninterference_laws.specs.Tainted.{IsVeiled}

-- the act is not of a process with the tag, and brings none of these a message
abbrev pub IsOpenAct : Name → NodeState → Act → Type 0
IsOpenAct tag n (Job desk upto job) = IsOpen tag n job
IsOpenAct tag n (Receive (Data d)) = ¬ IsVeiled tag (process_of n d.receiver)
IsOpenAct tag n act = Unit {0}

-- a desk that is to look is to look at all that is published
abbrev pub LooksAtAll : NodeState → Act → Type 0
LooksAtAll n (Job desk upto job) = length n.published ≤ upto
LooksAtAll n act = Unit {0}

-- nothing is refused for want of memory
abbrev pub IsAmple : Saying → Type 0
IsAmple saying = saying ≢ Replies (Refused (faults.Refused Memory))

-- an order is guarded
abbrev pub IsGuardedAct : NodeState → Act → Type 0
IsGuardedAct n (Job desk upto job) = IsGuardedJob n job
IsGuardedAct n act = Unit {0}

-- the same is said, sent and noted
pub record ComesToSame (o came : Outcome) : Type 0 where
  pub says : came.says ≡ o.says
  pub sent : came.sent ≡ o.sent
  pub noted : (sender : Option Party) → came.noted sender ≡ o.noted sender

-- at the node r the act may come to the same, and leaves it as one that is alike
pub record StepsToo (tag : Name) (number : ℕ) (r : KeptNode) (act : Act) (o : Outcome)
    : Type 0 where
  pub came : Outcome
  pub steps : MachineStep number r act came
  pub same : ComesToSame o came
  pub alike : AreKeptAlike tag o.after came.after
