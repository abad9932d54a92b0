-- What a node does with a packet that comes to it.
use Rattle.std.specs.Prelude.{◌≡◌, ◌++◌, List}
use Rattle.std.specs.declared.option.Option.{Option}
use Rattle.fl_message.specs.declared.message.Data.{Data}
use Rattle.fl_system.specs.declared.admission.Admission.{Admission}
use Rattle.fl_system.specs.declared.admission.Party.{Party}
use Rattle.fl_system.specs.declared.reply.Reply.{Reply}
use Rattle.fl_system.specs.State.{NodeState}
use Rattle.fl_machine_model.specs.Alone.{MessageAlone}

-- what a message does at a node alone, with what was noted before and after
pub record Brought (n : NodeState) (sender : Option Party) (d : Data) (result : Reply)
    (after : NodeState) (audit audit_after : List Admission) : Type 0 where
  pub admitted : List Admission
  pub admitted_is : audit_after ≡ audit ++ admitted
  pub brings : MessageAlone n sender d result after admitted
