-- What a node tells, and how it is sent.
use Rattle.std.proofs.Common.{◌≡◌, ◌<◌, ◌++◌, ◌∙◌, refl, sym, ap, subst, arith, ℕ, suc, List, [], ◌∷◌, length, Some, inl, inr}
use Rattle.std.specs.List.{flat_map}
use Rattle.std.specs.FinMap as map
use Rattle.std.proofs.lemmas.List.{length-append}
use Rattle.fl_labels.specs.SetBy.{SetBy}
use Rattle.fl_ops.specs.OpOrder.{op_cmp}
use Rattle.fl_opset.specs.Windows.{lacking}
use Rattle.fl_opset.specs.declared.intervals.Intervals.{Intervals}
use Rattle.fl_store.specs.Custody.{Custody}
use Rattle.fl_store.specs.Kept.{Kept}
use Rattle.fl_wire.specs.declared.packet.Packet.{Packet}
use Rattle.fl_wire.specs.declared.packet.Packet.TheVariants as packets
use Rattle.fl_gossip.specs.Replying.{IsDelta, AreDeltas}
use Rattle.fl_gossip.specs.Taking.{ops_of}
use Rattle.fl_jobs.specs.declared.answer.Refusal.TheVariants.{Memory}
use Rattle.fl_system.specs.declared.answer.Fault.{Fault}
use Rattle.fl_system.specs.declared.answer.Fault.TheVariants as faults
use Rattle.fl_system.specs.declared.event.Event.{Event}
use Rattle.fl_system.specs.declared.reply.Reply.{Reply}
use Rattle.fl_system.specs.declared.reply.Reply.TheVariants as reply
use Rattle.fl_system.specs.declared.sent.Sent.{Sent}
use Rattle.fl_system.specs.Deliveries.{has_told}
use Rattle.fl_system.specs.Gossip.{IsAnswer, told_by}
use Rattle.fl_system.specs.Waiting.{IsRunning, NotRunning}
use Rattle.fl_system.specs.World.{World}
use Rattle.fl_system.specs.WorldJobs.{next_packet}
use Rattle.fl_system.specs.WorldSteps.{Step, IsAt}
use Rattle.fl_node.specs.Over.{NodeOver}
use Rattle.fl_node.specs.Telling.{TellsNothing}
use Rattle.fl_nodes.specs.Over.{WorldOver}
use Rattle.fl_nodes.specs.Goes.{MayBe, Goes}
use Rattle.fl_nodes.specs.parts.Delivering.{Sends}
use Rattle.fl_nodes.proofs.Lifting.{node_there, stays, with_kept}

-- ---- what is sent

pub sends_all : (number : ℕ) (told : List Packet) (packets packets_after : List Sent) (first count : ℕ) → first ≡ suc (length packets) → count ≡ length told
    → packets_after ≡ packets ++ told_by number told → Sends number told packets (reply.Sent first count) packets_after
sends_all number told packets packets_after first count first_is count_is after_is =
    subst (λ after. Sends number told packets (reply.Sent first count) after) (sym after_is)
    (subst (λ k. Sends number told packets (reply.Sent k count) (packets ++ told_by number told)) (sym first_is)
    (subst (λ k. Sends number told packets (reply.Sent (suc (length packets)) k) (packets ++ told_by number told)) (sym count_is) Sends.sends))

pub sends_none : (number : ℕ) (told : List Packet) (packets packets_after : List Sent) → 0 < length told → packets_after ≡ packets
    → Sends number told packets (reply.Refused (faults.Refused Memory)) packets_after
sends_none number told packets packets_after some same =
    subst (λ after. Sends number told packets (reply.Refused (faults.Refused Memory)) after) (sym same) (Sends.no_room some)

-- what is made of packets has one only where they have
pub some_made : (number : ℕ) (told : List Packet) (made : List Sent) → made ≡ told_by number told → 0 < length made → 0 < length told
some_made number [] made is some = absurd (omega (arith, some, ap length is))
some_made number (p ∷ ps) made is some = omega arith

-- a window that is answered with a packet lacks something
pub lacks_some : (saved : SetBy op_cmp) (window : Intervals) (told : List Packet) → IsAnswer saved window told → 0 < length told → 0 < length (lacking saved window)
lacks_some saved window [] a some = absurd (omega (arith, some))
lacks_some saved window (p ∷ ps) a some =
    omega (arith, has_op p (first_delta p ps a.deltas), ap length a.whole, length-append (ops_of p) (flat_map ops_of ps))
  where
    first_delta : (p : Packet) (ps : List Packet) → AreDeltas (p ∷ ps) → IsDelta p
    first_delta p [] h = h
    first_delta p (q ∷ ps) h = h.0

    has_op : (p : Packet) → IsDelta p → 0 < length (ops_of p)
    has_op (packets.Full b) h = absurd h
    has_op (packets.Have w) h = absurd h
    has_op (packets.Delta b) h = b.some
    has_op (packets.Data d) h = absurd h

-- ---- as a step of the world

module _ {K : Type 0} (custody : Custody K) (old : WorldOver K) (number : ℕ) (x : NodeOver K)
    (there : map.get old.nodes number ≡ Some x) where
  -- the world before more was sent
  abbrev before_more : World → World
  before_more after = record after { packets = old.packets }

  more_is : (sent : List Sent) (after : World) → after.packets ≡ old.packets ++ sent
      → record (before_more after) { packets = old.packets ++ sent } ≡ after
  more_is sent after is = λ i. record { desks = after.desks; nodes = after.nodes; packets = (sym is) i; audit = after.audit }

  may_be_before : (sent : List Sent) (after : World) → MayBe custody (record old { packets = old.packets ++ sent }) after
      → MayBe custody old (before_more after)
  may_be_before sent after is = record { desks = is.desks; nodes = is.nodes; packets = refl; audit = is.audit }

  -- nothing but packets is new
  more : (new : WorldOver K) (sent : List Sent) (step : World → World → Type 0) → new ≡ record old { packets = old.packets ++ sent }
      → ((w : World) (k : Kept) → IsAt w number (with_kept x.node k) → MayBe custody old w → step w (record w { packets = w.packets ++ sent }))
      → Goes custody old new step
  more new sent step is_new steps = subst (λ n. Goes custody old n step) (sym is_new) (record {
    honest = λ all. all;
    comes = λ all after is.
        let s = node_there custody old (before_more after) number x there (may_be_before sent after is) in (
          before_more after,
          may_be_before sent after is,
          subst (step (before_more after)) (more_is sent after is.packets)
              (steps (before_more after) s.kept s.there (may_be_before sent after is)),
        );
  })

  -- the node is as it was
  pub kept_so : (new : WorldOver K) (step : World → World → Type 0) → new ≡ old
      → ((w : World) (k : Kept) → IsAt w number (with_kept x.node k) → MayBe custody old w → step w w)
      → Goes custody old new step
  kept_so new step same steps = subst (λ n. Goes custody old n step) (sym same) (stays custody old step
      (λ w is. let s = node_there custody old w number x there is in steps w s.kept s.there is))

  pub tells : (e : Event) (new : WorldOver K) (told : List Packet) (packets packets_after : List Sent) (result : Reply) → packets ≡ old.packets
      → new ≡ record old { packets = packets_after } → Sends number told packets result packets_after
      → (0 < length told → (w : World) (k : Kept) → IsAt w number (with_kept x.node k) → MayBe custody old w → Step w e (reply.Refused (faults.Refused Memory)) w)
      → ((w : World) (k : Kept) → IsAt w number (with_kept x.node k) → MayBe custody old w
      → Step w e (reply.Sent (next_packet w) (length told)) (has_told w number told))
      → Goes custody old new (λ w w'. Step w e result w')
  tells e new told packets packets_after result same is_new (Sends.no_room some) stay go =
      kept_so new _ (is_new ∙ (λ i. record { desks = old.desks; nodes = old.nodes; packets = same i; audit = old.audit })) (stay some)
  tells e new told packets packets_after result same is_new Sends.sends stay go =
      more new (told_by number told) _
      (is_new ∙ (λ i. record { desks = old.desks; nodes = old.nodes; packets = same i ++ told_by number told; audit = old.audit }))
      (λ w k at is. subst (λ c. Step w e (reply.Sent (suc c) (length told)) (has_told w number told)) (ap length (is.packets ∙ sym same)) (go w k at is))

  pub tells_nothing : (e : Event) (new : WorldOver K) (fault : Fault) → new ≡ old → TellsNothing x.node.state fault
      → (NotRunning x.node.state fault → (w : World) (k : Kept) → IsAt w number (with_kept x.node k) → MayBe custody old w → Step w e (reply.Refused fault) w)
      → (IsRunning x.node.state → (w : World) (k : Kept) → IsAt w number (with_kept x.node k) → MayBe custody old w
      → Step w e (reply.Refused (faults.Refused Memory)) w)
      → Goes custody old new (λ w w'. Step w e (reply.Refused fault) w')
  tells_nothing e new fault same (inl h) stopped no_room = kept_so new _ same (stopped h)
  tells_nothing e new fault same (inr h) stopped no_room =
      subst (λ f. Goes custody old new (λ w w'. Step w e (reply.Refused f) w')) (sym h.1) (kept_so new _ same (no_room h.0))
