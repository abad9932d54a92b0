-- What a packet would bring is said in one way.
use Rattle.std.proofs.Common.{◌≡◌, ◌≢◌, ℕ, refl, ap, Result, Ok, Err}
use Rattle.fl_labels.specs.SetBy as set
use Rattle.fl_labels.specs.SetBy.{SetBy}
use Rattle.fl_ops.specs.OpOrder.{op_cmp}
use Rattle.fl_ops.specs.OpLaws.{op_total, op_exact}
use Rattle.fl_opset.specs.laws.Unions.{same_members}
use Rattle.fl_jobs.specs.declared.answer.Refusal.TheVariants.{Memory}
use Rattle.fl_wire.specs.declared.packet.Packet.{Packet}
use Rattle.fl_system.specs.declared.answer.Fault.{Fault}
use Rattle.fl_system.specs.declared.answer.Fault.TheVariants.{Refused}
use Rattle.fl_system.specs.Receives.{Receives, AreLacking, CanTake}
use Rattle.fl_system.specs.State.{NodeState}
use Rattle.fl_system.specs.Waiting.{IsRunning}
use Rattle.fl_node.specs.Checking.{AreRefused, Counts, Checks}
use Rattle.fl_one_laws.specs.laws.Benches.{one_stop, not_both}
use Rattle.fl_one_laws.specs.laws.Deliveries.{one_receiving}

-- it is not for want of memory
Fed : Result ℕ Fault → Type 0
Fed r = r ≢ Err (Refused Memory)

module _ (n : NodeState) (ops : SetBy op_cmp) (runs : IsRunning n.state) where
  -- they are refused as they would be if they came
  received : (fault : Fault) → AreRefused n ops fault → Receives n ops (Err fault) n
  received fault (AreRefused.no_room some) = Receives.no_room runs some
  received fault (AreRefused.impostor first bad) = Receives.impostor runs first bad
  received fault (AreRefused.clash first bad) = Receives.clash runs first bad

  none_refused : (fault : Fault) → CanTake n ops → AreRefused n ops fault → Fed (Err fault) → ⊥
  unfolding Fed
  none_refused fault can (AreRefused.no_room some) fed = fed refl
  none_refused fault can (AreRefused.impostor {op} first bad) fed = (can op first.member).0 bad
  none_refused fault can (AreRefused.clash {op} first bad) fed = (can op first.member).1 bad

  same_new : (a b : SetBy op_cmp) → AreLacking n ops a → AreLacking n ops b → a ≡ b
  same_new a b h k =
      same_members op_total op_exact a b (λ op. (λ i. (k op).1 ((h op).0 i), λ i. (h op).1 ((k op).0 i)))

  one_count : (r s : Result ℕ Fault) → Counts n ops r → Counts n ops s → Fed r → Fed s → r ≡ s
  unfolding Fed
  one_count r s (Counts.new new can are) (Counts.new other can' are') p q = ap (λ x. Ok (set.len x)) (same_new new other are are')
  one_count r s (Counts.new new can are) (Counts.refused {fault} why) p q = absurd (none_refused fault can why q)
  one_count r s (Counts.refused {fault} why) (Counts.new new can are) p q = absurd (none_refused fault can why p)
  one_count r s (Counts.refused {fault} why) (Counts.refused {fault = other} because) p q =
      (one_receiving n ops (received fault why) (received other because) p q).0

pub one_check : (n : NodeState) (packet : Packet) (r s : Result ℕ Fault) → Checks n packet r → Checks n packet s
    → r ≢ Err (Refused Memory) → s ≢ Err (Refused Memory) → r ≡ s
unfolding Fed
one_check n packet r s (Checks.stopped {fault} why) (Checks.stopped {fault = other} because) p q =
    ap Err (one_stop n.state fault other why because)
one_check n packet r s (Checks.stopped {fault} why) (Checks.full runs counts) p q = absurd (not_both n.state fault runs why)
one_check n packet r s (Checks.stopped {fault} why) (Checks.delta runs counts) p q = absurd (not_both n.state fault runs why)
one_check n packet r s (Checks.stopped {fault} why) (Checks.window runs) p q = absurd (not_both n.state fault runs why)
one_check n packet r s (Checks.stopped {fault} why) (Checks.no_room runs some) p q = absurd (not_both n.state fault runs why)
one_check n packet r s (Checks.stopped {fault} why) (Checks.message runs) p q = absurd (not_both n.state fault runs why)
one_check n packet r s (Checks.full runs counts) (Checks.stopped {fault} why) p q = absurd (not_both n.state fault runs why)
one_check n packet r s (Checks.delta runs counts) (Checks.stopped {fault} why) p q = absurd (not_both n.state fault runs why)
one_check n packet r s (Checks.window runs) (Checks.stopped {fault} why) p q = absurd (not_both n.state fault runs why)
one_check n packet r s (Checks.no_room runs some) (Checks.stopped {fault} why) p q = absurd (not_both n.state fault runs why)
one_check n packet r s (Checks.message runs) (Checks.stopped {fault} why) p q = absurd (not_both n.state fault runs why)
one_check n packet r s (Checks.full {batch} runs counts) (Checks.full runs' counts') p q =
    one_count n (set.of_list batch.ops) runs r s counts counts' p q
one_check n packet r s (Checks.delta {batch} runs counts) (Checks.delta runs' counts') p q =
    one_count n (set.of_list batch.ops) runs r s counts counts' p q
one_check n packet r s (Checks.window runs) (Checks.window runs') p q = refl
one_check n packet r s (Checks.window runs) (Checks.no_room runs' some) p q = absurd (q refl)
one_check n packet r s (Checks.no_room runs some) k p q = absurd (p refl)
one_check n packet r s (Checks.message runs) (Checks.message runs') p q = refl
