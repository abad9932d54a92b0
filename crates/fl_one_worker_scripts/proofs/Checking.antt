-- What a packet would bring to a node is the same at a node of its number that has saved the same.
use Rattle.std.proofs.Common.{◌≡◌, ◌∙◌, ◌<◌, ℕ, length, Result, Ok, sym, ap, subst}
use Rattle.fl_labels.specs.SetBy as set
use Rattle.fl_labels.specs.SetBy.{SetBy, In}
use Rattle.fl_ops.specs.declared.op.Op.{Op}
use Rattle.fl_ops.specs.OpOrder.{op_cmp}
use Rattle.fl_opset.specs.Windows.{lacking}
use Rattle.fl_system.specs.declared.answer.Fault.{Fault}
use Rattle.fl_system.specs.declared.state.State.{State}
use Rattle.fl_system.specs.Receives.{AreLacking, CanTake, HasNew, IsClash, IsFirstRefused}
use Rattle.fl_system.specs.Receives.{IsImpostor}
use Rattle.fl_system.specs.State.{NodeState}
use Rattle.fl_system.specs.Waiting.{IsRunning, NotRunning}
use Rattle.fl_wire.specs.declared.packet.Packet.{Packet}
use Rattle.fl_wire.specs.declared.packet.Packet.TheVariants as packets
use Rattle.fl_node.specs.Checking.{AreRefused, Checks, Counts}
use Rattle.fl_crew_model.specs.Books.{page}
use Rattle.fl_crew_model.proofs.Deliveries.{can_in, can_out, clash_in, clash_out, first_in}
use Rattle.fl_crew_model.proofs.Deliveries.{first_out, impostor_in, impostor_out}

module _ (n m : NodeState) (number : n.number ≡ m.number) (saved : n.saved ≡ m.saved) where
  same_page : page n.number n.saved ≡ page m.number m.saved
  same_page =
      ap (λ (k : ℕ). page k n.saved) number ∙ ap (λ (s : SetBy op_cmp). page m.number s) saved

  impostor_same : (op : Op) → IsImpostor n op → IsImpostor m op
  impostor_same op h =
      impostor_in m op (subst (λ (p : NodeState). IsImpostor p op) same_page (impostor_out n op h))

  clash_same : (op : Op) → IsClash n op → IsClash m op
  clash_same op h =
      clash_in m op (subst (λ (p : NodeState). IsClash p op) same_page (clash_out n op h))

  first_same : (ops : SetBy op_cmp) (op : Op) → IsFirstRefused n ops op → IsFirstRefused m ops op
  first_same ops op h =
      first_in m ops op
      (subst (λ (p : NodeState). IsFirstRefused p ops op) same_page (first_out n ops op h))

  can_same : (ops : SetBy op_cmp) → CanTake n ops → CanTake m ops
  can_same ops h =
      can_in m ops (subst (λ (p : NodeState). CanTake p ops) same_page (can_out n ops h))

  lacking_same : (ops new : SetBy op_cmp) → AreLacking n ops new → AreLacking m ops new
  lacking_same ops new h = subst (λ (p : NodeState). AreLacking p ops new) same_page h

  new_same : (ops : SetBy op_cmp) → HasNew n ops → HasNew m ops
  new_same ops h = record {
    may = can_same ops h.may;
    op = h.op;
    there = h.there;
    new = λ there. h.new (subst (λ (s : SetBy op_cmp). In s h.op) (sym saved) there);
  }

  refused_same : (ops : SetBy op_cmp) (fault : Fault) → AreRefused n ops fault
      → AreRefused m ops fault
  refused_same ops fault (AreRefused.no_room some) = AreRefused.no_room (new_same ops some)
  refused_same ops fault (AreRefused.impostor {op} first bad) =
      AreRefused.impostor (first_same ops op first) (impostor_same op bad)
  refused_same ops fault (AreRefused.clash {op} first bad) =
      AreRefused.clash (first_same ops op first) (clash_same op bad)

  counts_same : (ops : SetBy op_cmp) (result : Result ℕ Fault) → Counts n ops result
      → Counts m ops result
  counts_same ops result (Counts.new new may lack) =
      Counts.new new (can_same ops may) (lacking_same ops new lack)
  counts_same ops result (Counts.refused {fault} why) =
      Counts.refused (refused_same ops fault why)

  module _ (state : n.state ≡ m.state) where
    runs_same : IsRunning n.state → IsRunning m.state
    runs_same runs = subst (λ (s : State). IsRunning s) state runs

    pub checks_same : (packet : Packet) (result : Result ℕ Fault) → Checks n packet result
        → Checks m packet result
    checks_same packet result (Checks.stopped {fault} why) =
        Checks.stopped (subst (λ (s : State). NotRunning s fault) state why)
    checks_same packet result (Checks.full {batch} runs counts) =
        Checks.full (runs_same runs) (counts_same (set.of_list batch.ops) result counts)
    checks_same packet result (Checks.delta {batch} runs counts) =
        Checks.delta (runs_same runs) (counts_same (set.of_list batch.ops) result counts)
    checks_same packet result (Checks.window {window} runs) =
        subst (λ (s : SetBy op_cmp). Checks m (packets.Have window)
        (Ok (length (lacking s window)))) (sym saved) (Checks.window (runs_same runs))
    checks_same packet result (Checks.no_room {window} runs some) =
        Checks.no_room (runs_same runs)
        (subst (λ (s : SetBy op_cmp). 0 < length (lacking s window)) saved some)
    checks_same packet result (Checks.message runs) = Checks.message (runs_same runs)
