-- Where the packets of a world come from.
use Rattle.std.proofs.Common.{◌≡◌, ◌⊎◌, ◌∙◌, ◌++◌, ◌+◌, inl, inr, refl, sym, ap, subst, arith, ℕ, zero, suc, Bool, List, [], ◌∷◌, map as list_map, length, Some, None, Ok}
use Rattle.std.specs.FinMap as map
use Rattle.std.specs.List.{Contains}
use Rattle.std.proofs.lemmas.List.{append-nil, length-map}
use Rattle.fl_ops.specs.declared.op.Op.{Op}
use Rattle.fl_opset.specs.declared.intervals.Intervals.{Intervals}
use Rattle.fl_message.specs.declared.message.Data.{Data}
use Rattle.fl_wire.specs.declared.packet.Packet.{Packet}
use Rattle.fl_wire.specs.declared.packet.Packet.TheVariants as packets
use Rattle.fl_gossip.specs.Replying.{AreDeltas, IsDelta}
use Rattle.fl_jobs.specs.declared.job.Job.{Job}
use Rattle.fl_jobs.specs.declared.answer.Outcome.{Outcome}
use Rattle.fl_bench.specs.Bench.{BenchState}
use Rattle.fl_bench.specs.Summary.{IsSending}
use Rattle.fl_bench.specs.laws.Orders.{sending_at}
use Rattle.fl_bench.specs.laws.Puts.{none_some, same_found}
use Rattle.fl_store.specs.Kept.{Kept}
use Rattle.fl_system.specs.declared.event.Event.{Event}
use Rattle.fl_system.specs.declared.event.Event.TheVariants as events
use Rattle.fl_system.specs.declared.reply.Reply.{Reply}
use Rattle.fl_system.specs.declared.reply.Reply.TheVariants.{Sent as HasSent}
use Rattle.fl_system.specs.declared.sent.Sent.{Sent}
use Rattle.fl_system.specs.Deliveries.{BatchAt, DeliverAt, MessageAt, TellAt, WindowAt}
use Rattle.fl_system.specs.Gossip.{told_by}
use Rattle.fl_system.specs.Joins.{Joins, Reopening}
use Rattle.fl_system.specs.Jobs.{Decides, Jobs, Looks, place_of}
use Rattle.fl_system.specs.Numbered.{item_at}
use Rattle.fl_system.specs.Processes.{process_at, process_of}
use Rattle.fl_system.specs.Runs.{Comes, Happens, IsRun, Moment, Move, Moves, Returns, end}
use Rattle.fl_system.specs.Taint.{Lives}
use Rattle.fl_system.specs.World.{KeptNode, World, empty_world}
use Rattle.fl_system.specs.WorldCalls.{CancelAt, PublishAt, RestartAt, SaveAt}
use Rattle.fl_system.specs.WorldJobs.{JobAt, next_packet, party_at, sent_message}
use Rattle.fl_system.specs.WorldSteps.{IsAt, Step}
use Rattle.fl_system_laws.specs.laws.Going.{in_mapped, item_there, moves_goes}
use Rattle.fl_world_laws.specs.laws.Naming.{IsNamed, goes_named, empty_named}
use Rattle.fl_history_laws.specs.laws.Pids.{AllTidy, goes_tidy}
use Rattle.fl_history_laws.specs.Doing.{IsDone, seen}
use Rattle.fl_history_laws.specs.Sent.{Adds, Sends, WasSent}
use Rattle.fl_history_laws.specs.laws.Living.{empty_tidy}

-- no message is among these
abbrev pub NoMessage : List Sent → Type 0
NoMessage more = (sent : Sent) → Contains more sent → (d : Data) → ¬ (sent.packet ≡ packets.Data d)

-- What a move sends: nothing, one message of a process, or what a node tells.
pub data Outgo (w : World) (move : Move) (reply : Reply) (after : World) : Type 0 where
  nothing : after.packets ≡ w.packets → Outgo w move reply after
  message : {sent : Sent} {d : Data} → after.packets ≡ w.packets ++ (sent ∷ []) → reply ≡ HasSent (next_packet w) 1
      → sent.packet ≡ packets.Data d → Sends w move sent d → Outgo w move reply after
  tells : (more : List Sent) → after.packets ≡ w.packets ++ more → reply ≡ HasSent (next_packet w) (length more)
      → NoMessage more → Outgo w move reply after

pub outgo_adds : {w : World} {move : Move} {reply : Reply} {after : World} → Outgo w move reply after
    → Adds w reply after
outgo_adds {w} (nothing e) = record { more = []; behind = e ∙ sym (append-nil w.packets); answered = inl refl }
outgo_adds (message {sent} e said of sends) = record { more = sent ∷ []; behind = e; answered = inr said }
outgo_adds (tells more e said none) = record { more = more; behind = e; answered = inr said }

no_more : {w : World} {move : Move} {reply : Reply} {after : World} → after.packets ≡ w.packets ++ []
    → Outgo w move reply after
no_more {w} e = nothing (e ∙ append-nil w.packets)

-- ---- what a node tells

told_none : (number : ℕ) (told : List Packet) → ((p : Packet) → Contains told p → (d : Data) → ¬ (p ≡ packets.Data d))
    → NoMessage (told_by number told)
told_none number told none sent h d e =
    let m = in_mapped (λ packet. record { from = number; packet = packet; sender = None }) told sent h in
    none m.item m.there d (ap (λ (s : Sent). s.packet) m.is ∙ e)

no_window : (window : Intervals) (d : Data) → ¬ (packets.Have window ≡ packets.Data d)
no_window window d e = absurd (cc)

windows_none : (windows : List Intervals) (p : Packet) → Contains (list_map packets.Have windows) p → (d : Data)
    → ¬ (p ≡ packets.Data d)
windows_none windows p h d e =
    let m = in_mapped packets.Have windows p h in
    no_window m.item d (m.is ∙ e)

no_delta : (p : Packet) (d : Data) → IsDelta p → ¬ (p ≡ packets.Data d)
no_delta p d is e = absurd (subst IsDelta e is)

deltas_none : (told : List Packet) → AreDeltas told → (p : Packet) → Contains told p → (d : Data)
    → ¬ (p ≡ packets.Data d)
deltas_none [] are p h d = absurd (omega (arith, h.1))
deltas_none (q ∷ []) are p (zero, inside, at) d = no_delta p d (subst IsDelta at are)
deltas_none (q ∷ []) are p (suc k, inside, at) d = absurd (omega (arith, inside))
deltas_none (q ∷ r ∷ rs) are p (zero, inside, at) d = no_delta p d (subst IsDelta at are.0)
deltas_none (q ∷ r ∷ rs) are p (suc k, inside, at) d = deltas_none (r ∷ rs) are.2 p (k, omega (arith, inside), at) d

module _ (w : World) (named : IsNamed w) (tidy : AllTidy w) where
  telling : {move : Move} (number : ℕ) (told : List Packet) {after : World}
      → after.packets ≡ w.packets ++ told_by number told
      → ((p : Packet) → Contains told p → (d : Data) → ¬ (p ≡ packets.Data d))
      → Outgo w move (HasSent (next_packet w) (length told)) after
  telling number told e none =
      tells _ e (ap (HasSent (next_packet w))
      (sym (length-map told (λ packet. record { from = number; packet = packet; sender = None }))))
      (told_none number told none)

  -- ---- jobs

  module _ (number desk upto : ℕ) (job : Job) (s : KeptNode) (at : IsAt w number s) where
    abbrev Asked : Move
    Asked = Happens (events.Job number desk upto job)

    sends_at : {d : Data} (node_is : d.sender.node ≡ number) (done : IsDone w Asked d.sender.node job)
        → (sending : IsSending (seen done) done.bench job d) → Lives w d.sender sending.process
        → process_of s.node d.sender ≡ Some sending.process → Sends w Asked (sent_message number s.node d) d
    sends_at {d} node_is done sending lives stands =
        record {
          job = job;
          done = done;
          sending = sending;
          lives = lives;
          from_is = sym node_is;
          sender_is = ap (party_at d.sender) stands;
        }

    message_outgo : {d : Data} {after : World} → {v : ℕ} {left : BenchState} → Looks s.node desk upto v
        → (decides : Decides s.node v job (Ok (Outcome.Out d)) left)
        → after.packets ≡ w.packets ++ (sent_message number s.node d ∷ [])
        → Outgo w Asked (HasSent (next_packet w) 1) after
    message_outgo {d} {v = v} look decides e =
        let sending = sending_at decides.does in
        let placed = (tidy.each number s at).each (place_of s.node job) decides.bench decides.stands in
        let own = (placed.orderly.each d.sender sending.process sending.lived).own in
        let node_is : d.sender.node ≡ number = own.node_is ∙ placed.node_is ∙ (named.sound number s at).0 in
        let here : IsAt w d.sender.node s = subst (λ m. map.get w.nodes m ≡ Some s) (sym node_is) at in
        let stands : process_of s.node d.sender ≡ Some sending.process =
        ap (λ o. process_at o d.sender)
        (ap (λ j. item_at s.node.benches (place_of s.node j)) (sym sending.asked) ∙ decides.stands) ∙ sending.lived in
        message e refl refl (sends_at node_is (record {
          desk = desk;
          upto = upto;
          move_is = ap (λ m. Happens (events.Job m desk upto job)) (sym node_is);
          s = s;
          at = here;
          v = v;
          looks = look;
          bench = decides.bench;
          stands = decides.stands;
        }) sending (record { node = s; there = here; stands = stands }) stands)

    job_outgo : {reply : Reply} {after : World} → JobAt w number s desk upto job reply after
        → Outgo w Asked reply after
    job_outgo (JobAt.refused does) = no_more refl
    job_outgo (JobAt.replied does) = no_more refl
    job_outgo (JobAt.begun does) = no_more refl
    job_outgo (JobAt.sends (Jobs.sent look decides)) = message_outgo look decides refl
    job_outgo (JobAt.no_room look is noted) = no_more refl

  -- ---- every move

  save_outgo : {number : ℕ} {s : KeptNode} {move : Move} {reply : Reply} {after : World}
      → SaveAt w number s reply after → Outgo w move reply after
  save_outgo (SaveAt.saved does) = no_more refl
  save_outgo (SaveAt.refused does) = no_more refl

  publish_outgo : {number : ℕ} {s : KeptNode} {move : Move} {reply : Reply} {after : World}
      → PublishAt w number s reply after → Outgo w move reply after
  publish_outgo (PublishAt.ordered is does) = no_more refl
  publish_outgo (PublishAt.received is does) = no_more refl
  publish_outgo (PublishAt.refused does) = no_more refl

  cancel_outgo : {number : ℕ} {s : KeptNode} {move : Move} {reply : Reply} {after : World}
      → CancelAt w number s reply after → Outgo w move reply after
  cancel_outgo (CancelAt.given_up does) = no_more refl
  cancel_outgo (CancelAt.refused does) = no_more refl

  restart_outgo : {number : ℕ} {s : KeptNode} {keeps : Bool} {move : Move} {reply : Reply} {after : World}
      → RestartAt w number s keeps reply after → Outgo w move reply after
  restart_outgo (RestartAt.booted does) = no_more refl
  restart_outgo (RestartAt.refused does) = no_more refl

  tell_outgo : (number : ℕ) {s : KeptNode} {move : Move} {reply : Reply} {after : World}
      → TellAt w number s reply after → Outgo w move reply after
  tell_outgo number (TellAt.stopped why) = nothing refl
  tell_outgo number (TellAt.no_room running) = nothing refl
  tell_outgo number (TellAt.tells {told} running (windows, are, told_is)) =
      telling number told refl (λ p h. windows_none windows p (subst (λ l. Contains l p) told_is h))

  window_outgo : (number : ℕ) {s : KeptNode} {window : Intervals} {move : Move} {reply : Reply} {after : World}
      → WindowAt w number s window reply after → Outgo w move reply after
  window_outgo number (WindowAt.stopped why) = nothing refl
  window_outgo number (WindowAt.no_room running some) = nothing refl
  window_outgo number (WindowAt.answers {told} running answer) =
      telling number told refl (λ p h. deltas_none told answer.deltas p h)

  batch_outgo : {number : ℕ} {s : KeptNode} {ops : List Op} {move : Move} {reply : Reply} {after : World}
      → BatchAt w number s ops reply after → Outgo w move reply after
  batch_outgo (BatchAt.nothing_new does) = no_more refl
  batch_outgo (BatchAt.takes does some) = no_more refl
  batch_outgo (BatchAt.refused does) = no_more refl

  message_came : {number : ℕ} {s : KeptNode} {sent : Sent} {d : Data} {move : Move} {reply : Reply} {after : World}
      → MessageAt w number s sent d reply after → Outgo w move reply after
  message_came (MessageAt.arrives does) = no_more refl
  message_came (MessageAt.refused does) = no_more refl
  message_came (MessageAt.no_room running) = nothing refl

  deliver_outgo : (number : ℕ) {s : KeptNode} {sent : Sent} {move : Move} {reply : Reply} {after : World}
      → DeliverAt w number s sent reply after → Outgo w move reply after
  deliver_outgo number (DeliverAt.have is h) = window_outgo number h
  deliver_outgo number (DeliverAt.ops is h) = batch_outgo h
  deliver_outgo number (DeliverAt.message is h) = message_came h

  step_outgo : {event : Event} {reply : Reply} {after : World} → Step w event reply after
      → Outgo w (Happens event) reply after
  step_outgo (Step.no_node e) = nothing refl
  step_outgo (Step.no_desk at e) = nothing refl
  step_outgo (Step.no_such_job is) = nothing refl
  step_outgo (Step.no_packet e) = nothing refl
  step_outgo (Step.job {number} {desk} {upto} {job} {s} at is h) = job_outgo number desk upto job s at h
  step_outgo (Step.save at h) = save_outgo h
  step_outgo (Step.publish at h) = publish_outgo h
  step_outgo (Step.cancel at h) = cancel_outgo h
  step_outgo (Step.restart at h) = restart_outgo h
  step_outgo (Step.tell {number} at h) = tell_outgo number h
  step_outgo (Step.deliver {number = number} e at h) = deliver_outgo number h

  joins_outgo : {number : ℕ} {k : Kept} {move : Move} {reply : Reply} {after : World} → Joins w number k reply after
      → Outgo w move reply after
  joins_outgo (Joins.there at) = nothing refl
  joins_outgo (Joins.not_opened free h) = nothing refl
  joins_outgo (Joins.clash free is left least) = nothing refl
  joins_outgo (Joins.impostor free is left none least) = nothing refl
  joins_outgo (Joins.joins free is left names no_clash no_stray) = no_more refl

  reopening_outgo : {number : ℕ} {k : Kept} {move : Move} {reply : Reply} {after : World}
      → Reopening w number k reply after → Outgo w move reply after
  reopening_outgo (Reopening.no_node e) = nothing refl
  reopening_outgo (Reopening.running at running) = nothing refl
  reopening_outgo (Reopening.booted at is h) = no_more refl
  reopening_outgo (Reopening.refused at is h) = no_more refl

  pub move_outgo : {reply : Reply} {after : World} (move : Move) → Moves w move reply after
      → Outgo w move reply after
  move_outgo (Happens event) h = step_outgo h
  move_outgo (Comes number k) h = joins_outgo h
  move_outgo (Returns number k) h = reopening_outgo h

-- ---- over a run

-- an item of two lists joined is one of the first, or of the second
item_cases : {A : Type 0} (xs ys : List A) (k : ℕ) (y : A) → item_at (xs ++ ys) k ≡ Some y
    → (item_at xs k ≡ Some y) ⊎ ((j : ℕ) × (k ≡ j + length xs) × (item_at ys j ≡ Some y))
item_cases [] ys k y e = inr (k, omega arith, e)
item_cases (x ∷ xs) ys zero y e = absurd (none_some refl e)
item_cases (x ∷ xs) ys (suc zero) y e = inl e
item_cases (x ∷ xs) ys (suc (suc k)) y e = elim (item_cases xs ys (suc k) y e) [
  | inl at ↦ inl at
  | inr (j, is, at) ↦ inr (j, omega (arith, is), at)
]

only_item : {A : Type 0} (x : A) (j : ℕ) (y : A) → item_at (x ∷ []) j ≡ Some y → (j ≡ 1) × (x ≡ y)
only_item x zero y e = absurd (none_some refl e)
only_item x (suc zero) y e = (refl, same_found refl e)
only_item x (suc (suc j)) y e = absurd (none_some refl e)

module _ {k : ℕ} {sent : Sent} {d : Data} (of : sent.packet ≡ packets.Data d) where
  -- the packet was there before, or the move sent it
  move_sent : (w : World) (m : Moment) → Outgo w m.move m.reply m.after → item_at m.after.packets k ≡ Some sent
      → (item_at w.packets k ≡ Some sent) ⊎ ((m.reply ≡ HasSent k 1) × Sends w m.move sent d)
  move_sent w m (nothing e) there = inl (subst (λ l. item_at l k ≡ Some sent) e there)
  move_sent w m (message {sent = x} {d = x_d} e said x_of sends) there =
      elim (item_cases w.packets (x ∷ []) k sent (subst (λ l. item_at l k ≡ Some sent) e there)) [
        | inl was ↦ inl was
        | inr (j, is, at) ↦
            let only = only_item x j sent at in
            let number : next_packet w ≡ k = omega (arith, is, only.0) in
            let same : x_d ≡ d = data_of (sym x_of ∙ ap (λ (y : Sent). y.packet) only.1 ∙ of) in
            inr (
              said ∙ ap (λ n. HasSent n 1) number,
              subst (Sends w m.move sent) same (subst (λ y. Sends w m.move y x_d) only.1 sends),
            )
      ]
    where
      data_of : {a b : Data} → packets.Data a ≡ packets.Data b → a ≡ b
      data_of is = cc
  move_sent w m (tells more e said none) there =
      elim (item_cases w.packets more k sent (subst (λ l. item_at l k ≡ Some sent) e there)) [
        | inl was ↦ inl was
        | inr (j, is, at) ↦ absurd (none sent (item_there more j sent at) d of)
      ]

  sent_first : (w : World) (m : Moment) (ms : List Moment) → m.reply ≡ HasSent k 1 → Sends w m.move sent d
      → WasSent w (m ∷ ms) k sent d
  sent_first w m ms said sends =
      record { first = []; moment = m; later = ms; moments_are = refl; answered = said; sends = sends }

  sent_later : (w : World) (m : Moment) (ms : List Moment) → WasSent m.after ms k sent d → WasSent w (m ∷ ms) k sent d
  sent_later w m ms g =
      record {
        first = m ∷ g.first;
        moment = g.moment;
        later = g.later;
        moments_are = ap (λ l. m ∷ l) g.moments_are;
        answered = g.answered;
        sends = g.sends;
      }

  run_sent : (w : World) (ms : List Moment) → IsNamed w → AllTidy w → IsRun w ms
      → item_at (end w ms).packets k ≡ Some sent → (item_at w.packets k ≡ Some sent) ⊎ WasSent w ms k sent d
  run_sent w [] named tidy run there = inl there
  run_sent w (m ∷ ms) named tidy run there =
      let goes = moves_goes w m.move m.reply m.after run.0 in
      elim (run_sent m.after ms (goes_named named goes) (goes_tidy tidy goes) run.1 there) [
        | inr later ↦ inr (sent_later w m ms later)
        | inl mid ↦ elim (move_sent w m (move_outgo w named tidy m.move run.0) mid) [
          | inl first ↦ inl first
          | inr (said, sends) ↦ inr (sent_first w m ms said sends)
        ]
      ]

  pub was_sent : (desks : ℕ) (ms : List Moment) → IsRun (empty_world desks) ms
      → item_at (end (empty_world desks) ms).packets k ≡ Some sent → WasSent (empty_world desks) ms k sent d
  was_sent desks ms run there =
      elim (run_sent (empty_world desks) ms (empty_named desks) (empty_tidy desks) run there) [
        | inl first ↦ absurd (none_some refl first)
        | inr was ↦ was
      ]
