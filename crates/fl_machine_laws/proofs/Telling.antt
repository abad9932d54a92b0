-- What a machine answers as published, the node that stands for it answers so.
use Rattle.std.proofs.Common.{◌≡◌, ℕ, sym, subst}
use Rattle.fl_labels.specs.SetBy as set
use Rattle.fl_labels.specs.SetBy.{SetBy, In}
use Rattle.fl_labels.specs.declared.name.Name.{Name}
use Rattle.fl_ops.specs.OpOrder.{op_cmp}
use Rattle.fl_ops.specs.declared.op.Op.{Op}
use Rattle.fl_system.specs.declared.event.Event.TheVariants as events
use Rattle.fl_system.specs.declared.reply.Reply.{Reply}
use Rattle.fl_system.specs.declared.reply.Reply.TheVariants.{Published, Took}
use Rattle.fl_system.specs.Runs as runs
use Rattle.fl_system.specs.World.{World, KeptNode}
use Rattle.fl_kept_laws.specs.Told.{Tells}
use Rattle.fl_machine_model.specs.Acts.{Publish, Replies, Outcome}
use Rattle.fl_machine_model.specs.Alone.{PublishAlone, MachineStep}
use Rattle.fl_machine_model.specs.Machines.{Machines, Deed, Acts, Happens}
use Rattle.fl_machine_laws.specs.OneRun.{IsMoveOf}
use Rattle.fl_machine_laws.specs.Places.{IsUp}
use Rattle.fl_machine_laws.specs.Told.{TellsOn}
use Rattle.fl_machine_laws.proofs.Deeds.{Follows}
use Rattle.fl_machine_laws.proofs.Guarding.{acted}
use Rattle.fl_machine_laws.proofs.Moves.{acts_move}
use Rattle.fl_machine_laws.proofs.Together.{at_up}

-- ---- what is told

abbrev pub TellsName : Machines → ℕ → Name → Type 0
TellsName m number name =
    (op : Op) × (op.name ≡ name)
    × TellsOn m number op (Acts number Publish (Replies (Published name)))

abbrev pub TellsCount : Machines → ℕ → ℕ → Type 0
TellsCount m number count =
    (ops : SetBy op_cmp) × (set.len ops ≡ count)
    × ((op : Op) → In ops op → TellsOn m number op (Acts number Publish (Replies (Took count))))

same_name : {a b : Name} → Replies (Published a) ≡ Replies (Published b) → a ≡ b
same_name e = cc

same_count : {a b : ℕ} → Replies (Took a) ≡ Replies (Took b) → a ≡ b
same_count e = cc

module _ (m : Machines) (number : ℕ) (s : KeptNode) (up : IsUp m number s) where
  name_told : {name : Name} {o : Outcome} → PublishAlone s o → o.says ≡ Replies (Published name)
      → TellsName m number name
  name_told (PublishAlone.ordered {op} is does) e =
      (op, same_name e, TellsOn.published up is (same_name e))
  name_told (PublishAlone.received is does) e = absurd (cc)
  name_told (PublishAlone.refused does) e = absurd (cc)

  count_told : {count : ℕ} {o : Outcome} → PublishAlone s o → o.says ≡ Replies (Took count)
      → TellsCount m number count
  count_told (PublishAlone.ordered is does) e = absurd (cc)
  count_told (PublishAlone.received {ops} is does) e =
      (ops, same_count e, λ op h. TellsOn.took up is h)
  count_told (PublishAlone.refused does) e = absurd (cc)

publishes : {number : ℕ} {s : KeptNode} {o : Outcome} → MachineStep number s Publish o
    → PublishAlone s o
publishes (MachineStep.publish does) = does

pub tells_name : {m after : Machines} {number : ℕ} {name : Name}
    → Happens m (Acts number Publish (Replies (Published name))) after → TellsName m number name
tells_name {m} {number = number} h =
    let a = acted h in name_told m number a.s a.up (publishes a.step) a.says

pub tells_count : {m after : Machines} {number count : ℕ}
    → Happens m (Acts number Publish (Replies (Took count))) after → TellsCount m number count
tells_count {m} {number = number} h =
    let a = acted h in count_told m number a.s a.up (publishes a.step) a.says

-- ---- in the world

module _ {m : Machines} {w : World} (f : Follows m w) (number : ℕ) (op : Op) where
  -- as the move is spelled
  spelled : {move : runs.Move} {reply said : Reply} → move ≡ runs.Happens (events.Publish number)
      → reply ≡ said → Tells w number op (runs.Happens (events.Publish number)) said
      → Tells w number op move reply
  spelled {move} {reply} {said} move_is reply_is tells =
      subst (λ x. Tells w number op x reply) (sym move_is)
      (subst (λ r. Tells w number op (runs.Happens (events.Publish number)) r) (sym reply_is) tells)

  pub tells_in : {deed : Deed} {move : runs.Move} {reply : Reply} → IsMoveOf m deed move reply
      → TellsOn m number op deed → Tells w number op move reply
  tells_in is (TellsOn.published {s} up due named) =
      let e = acts_move is in
      spelled e.move_is e.reply_is (Tells.published (at_up f number s up) due named)
  tells_in is (TellsOn.took {s} up due h) =
      let e = acts_move is in
      spelled e.move_is e.reply_is (Tells.took (at_up f number s up) due h)
