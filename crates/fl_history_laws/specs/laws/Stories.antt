-- What becomes of one process at a move of a world.
use Rattle.std.proofs.Common.{◌≡◌, ◌∙◌, inl, inr, refl, sym, ap, subst, ◌+◌, ℕ, Bool, List, [], length, Option, Some, None, Ok, Err, Result}
use Rattle.std.specs.FinMap as map
use Rattle.std.specs.FinMap.{nat_cmp-IsAntisymmetric}
use Rattle.std.specs.Cmp.{nat_cmp_total}
use Rattle.fl_labels.specs.SetBy.{SetBy}
use Rattle.fl_labels.specs.declared.cap.Cap.{Cap}
use Rattle.fl_labels.specs.declared.name.Name.{Name}
use Rattle.fl_labels.specs.declared.pid.Pid.{Pid}
use Rattle.fl_ops.specs.OpOrder.{op_cmp}
use Rattle.fl_ops.specs.declared.op.Body.{Body}
use Rattle.fl_ops.specs.declared.op.Op.{Op}
use Rattle.fl_opset.specs.declared.intervals.Intervals.{Intervals}
use Rattle.fl_message.specs.declared.message.Data.{Data}
use Rattle.fl_wire.specs.declared.packet.Packet.TheVariants as packets
use Rattle.fl_jobs.specs.declared.job.Job.{Job}
use Rattle.fl_jobs.specs.declared.job.Job.TheVariants.{Arrive}
use Rattle.fl_jobs.specs.declared.answer.Reply.{Reply as JobReply}
use Rattle.fl_jobs.specs.declared.answer.Reply.TheVariants.{Arrived}
use Rattle.fl_jobs.specs.declared.answer.Refusal.{Refusal}
use Rattle.fl_jobs.specs.declared.answer.Outcome.{Outcome}
use Rattle.fl_bench.specs.Bench.{BenchState}
use Rattle.fl_bench.specs.Births.{IsChild}
use Rattle.fl_bench.specs.Births as births
use Rattle.fl_bench.specs.Gifts.{given, settles}
use Rattle.fl_bench.specs.Orderly.{IsOrderly}
use Rattle.fl_bench.specs.Process.{receiving}
use Rattle.fl_bench.specs.declared.process.Process.{Process}
use Rattle.fl_bench.specs.laws.Orders.{refusal_leaves}
use Rattle.fl_bench.specs.laws.Puts.{get_put, same_found}
use Rattle.fl_store.specs.Kept.{Kept, raised}
use Rattle.fl_system.specs.declared.answer.Fault.{Fault}
use Rattle.fl_system.specs.declared.event.Event.{Event}
use Rattle.fl_system.specs.declared.event.Event.TheVariants as events
use Rattle.fl_system.specs.declared.reply.Reply.{Reply}
use Rattle.fl_system.specs.declared.reply.Reply.TheVariants as replies
use Rattle.fl_system.specs.declared.reply.Reply.TheVariants.{Job as Answered}
use Rattle.fl_system.specs.declared.sent.Sent.{Sent}
use Rattle.fl_system.specs.declared.state.Batch.{Batch}
use Rattle.fl_system.specs.declared.state.Batch.TheVariants.{Ordered, Received}
use Rattle.fl_system.specs.declared.state.Pending.TheVariants.{Unsaved, Due}
use Rattle.fl_system.specs.declared.state.State.TheVariants.{Running}
use Rattle.fl_system.specs.Arrives.{Arrives, ArrivesAt, Unasked}
use Rattle.fl_system.specs.Begins.{Begins}
use Rattle.fl_system.specs.Deliveries.{BatchAt, DeliverAt, MessageAt, TellAt, WindowAt}
use Rattle.fl_system.specs.Joins.{Joins, Reopening, joined}
use Rattle.fl_system.specs.Jobs.{Decides, Jobs, Looks, bench_of, place_of}
use Rattle.fl_system.specs.Numbered.{change_item, item_at}
use Rattle.fl_system.specs.Openings.{Opens, OpensAgain, Restarts, opened}
use Rattle.fl_system.specs.Processes.{process_of}
use Rattle.fl_system.specs.Publishes.{Cancels, Publishes, given_to, released}
use Rattle.fl_system.specs.Receives.{Receives}
use Rattle.fl_system.specs.Runs.{Comes, Happens, Move, Moves, Returns}
use Rattle.fl_system.specs.Saves.{Saves}
use Rattle.fl_system.specs.State.{NodeState}
use Rattle.fl_system.specs.World.{KeptNode, World, went}
use Rattle.fl_system.specs.WorldCalls.{CancelAt, PublishAt, RestartAt, SaveAt}
use Rattle.fl_system.specs.WorldJobs.{JobAt}
use Rattle.fl_system.specs.WorldSteps.{IsArrival, IsAt, Step}
use Rattle.fl_history_laws.specs.laws.Pids.{AllTidy}
use Rattle.fl_history_laws.specs.Doing.{Brings, IsAnswered, IsDone, IsGivenUp, IsOpened, IsPublished, reopened, restarted, seen}
use Rattle.fl_history_laws.specs.Lives.{IsBorn, Leaves, exits, goes_down}
use Rattle.fl_history_laws.specs.laws.Fates.{Fate, Settled, Turns, does_fate, rested, settles_fate}
use Rattle.fl_history_laws.specs.laws.Places.{Stands, elsewhere, opened_none, process_among, stands_after, there}

-- the process of this pid, if its own node has one
abbrev pub process_in : Option KeptNode → Pid → Option Process
process_in None pid = None
process_in (Some s) pid = process_of s.node pid

abbrev pub living : World → Pid → Option Process
living w pid = process_in (map.get w.nodes pid.node) pid

-- What a move makes of a process that lives on: it stays, does something itself, a message comes to it, or an operation of its
-- own is published or given up.
pub data Alters (w : World) (move : Move) (reply : Reply) (pid : Pid) (p : Process) : Process → Type 0 where
  stays : Alters w move reply pid p p
  works : {job : Job} {x : Outcome} {q : Process} (done : IsDone w move pid.node job) → ¬ IsArrival job
      → IsAnswered w x reply → Turns (seen done) job x pid p q → Alters w move reply pid p q
  hears : {d : Data} → Brings w move pid.node d → d.receiver ≡ pid → reply ≡ Answered (Arrived pid)
      → Alters w move reply pid p (receiving p d)
  gets : {op : Op} → IsPublished w move reply pid op → Alters w move reply pid p (rested p (given op))
  gives_up : {op : Op} → IsGivenUp w move reply pid op → Alters w move reply pid p (rested p [])

-- nobody lives as pid before and after, or who lives after was born, or who lived went, or it lives on
pub data Story (w : World) (move : Move) (reply : Reply) (pid : Pid) : Option Process → Option Process → Type 0 where
  nobody : Story w move reply pid None None
  comes : {child : Process} → IsBorn w move reply pid child → Story w move reply pid None (Some child)
  leaves : {p : Process} → Leaves w move reply pid → Story w move reply pid (Some p) None
  lives_on : {p q : Process} → Alters w move reply pid p q → Story w move reply pid (Some p) (Some q)

-- a message that comes bears nobody
no_child : {V : Op → Type 0} {b : BenchState} {d : Data} {child : Process} → ¬ IsChild V b (Arrive d) child
no_child (births.alone e) = absurd (cc)
no_child (births.of e lived within) = absurd (cc)

same_data : {d e : Data} → Job.Arrive d ≡ Job.Arrive e → d ≡ e
same_data is = cc

-- to begin an operation leaves the benches
begun_benches : {n : NodeState} {body : Body} {maker : Option Pid} {desk : Option ℕ} {name : Name} {n' : NodeState}
    → Begins n body maker desk (Ok name) n' → n'.benches ≡ n.benches
begun_benches (Begins.begins idle next) = refl

module _ {w : World} {move : Move} {reply : Reply} {pid : Pid} where
  pub rests : {o o' : Option Process} → o' ≡ o → Story w move reply pid o o'
  rests {o} e = subst (Story w move reply pid o) (sym e) (by_one o)
    where
      by_one : (o : Option Process) → Story w move reply pid o o
      by_one None = nobody
      by_one (Some p) = lives_on stays

  goes : {o o' : Option Process} → o' ≡ None → IsOpened pid.node move reply → Story w move reply pid o o'
  goes {o} e opens = subst (Story w move reply pid o) (sym e) (by_one o)
    where
      by_one : (o : Option Process) → Story w move reply pid o None
      by_one None = nobody
      by_one (Some p) = leaves (goes_down opens)

  -- a job at a desk
  does_story : {job : Job} {x : Outcome} {o o' : Option Process} (done : IsDone w move pid.node job)
      → ¬ IsArrival job → IsAnswered w x reply → Fate (seen done) done.bench job x pid o o' → Story w move reply pid o o'
  does_story done asks said Fate.nobody = nobody
  does_story {job} done asks said (Fate.comes birth is) =
      comes (record {
        job = job;
        done = done;
        birth = birth;
        answered = subst (λ x. IsAnswered w x reply) is said;
      })
  does_story done asks said (Fate.goes asked is) =
      leaves (exits (subst (IsDone w move pid.node) asked done) (subst (λ x. IsAnswered w x reply) is said))
  does_story done asks said (Fate.turns turn) = lives_on (works done asks said turn)

  hears_turn : {d : Data} {r : JobReply} {p q : Process} → Brings w move pid.node d → reply ≡ Answered r
      → Turns Unasked (Arrive d) (Outcome.Reply r) pid p q → Alters w move reply pid p q
  hears_turn brings said Turns.stays = stays
  hears_turn brings said (Turns.orders_it asked) = absurd (cc)
  hears_turn brings said (Turns.relabels asked is safe) = absurd (cc)
  hears_turn brings said (Turns.drops asked is) = absurd (cc)
  hears_turn brings said (Turns.enters asked is) = absurd (cc)
  hears_turn brings said (Turns.mails_it asked mail) = absurd (cc)
  hears_turn {d} {r} {p} brings said (Turns.hears {d = e} asked its is) =
      let same : d ≡ e = same_data asked in
      let comes : r ≡ Arrived pid = cc in
      subst (λ z. Alters w move reply pid p (receiving p z)) same
      (hears brings (sym (its ∙ ap (λ (z : Data). z.receiver) (sym same))) (said ∙ ap Answered comes))

  hears_story : {d : Data} {r : JobReply} {b : BenchState} {o o' : Option Process} → Brings w move pid.node d
      → reply ≡ Answered r → Fate Unasked b (Arrive d) (Outcome.Reply r) pid o o' → Story w move reply pid o o'
  hears_story brings said Fate.nobody = nobody
  hears_story brings said (Fate.comes birth is) = absurd (no_child birth.child_is)
  hears_story brings said (Fate.goes asked is) = absurd (cc)
  hears_story brings said (Fate.turns turn) = lives_on (hears_turn brings said turn)

-- ---- one node goes on

module _ (w : World) (tidy : AllTidy w) (pid : Pid) where
  -- what stands at the node of the process is told by the node
  went_story : {move : Move} {reply : Reply} (number : ℕ) (s : KeptNode) (n : NodeState) (k : Kept) → IsAt w number s
      → (pid.node ≡ number → IsAt w pid.node s → Story w move reply pid (process_of s.node pid) (process_of n pid))
      → Story w move reply pid (living w pid) (living (went w number n k [] []) pid)
  went_story {move} {reply} number s n k at its =
      let new : KeptNode = record { node = n; kept = k } in
      elim (get_put nat_cmp_total nat_cmp-IsAntisymmetric w.nodes number new pid.node) [
        | inl h ↦
            let here : IsAt w pid.node s = subst (λ m. map.get w.nodes m ≡ Some s) (sym h.0) at in
            subst (Story w move reply pid (living w pid)) (sym (ap (λ o. process_in o pid) h.1))
            (subst (λ o. Story w move reply pid o (process_of n pid)) (sym (ap (λ o. process_in o pid) here)) (its h.0 here))
        | inr h ↦ rests (ap (λ o. process_in o pid) h)
      ]

  orderly_at : {s : KeptNode} {b : BenchState} (number k : ℕ) → IsAt w number s → item_at s.node.benches k ≡ Some b
      → IsOrderly b
  orderly_at {s} {b} number k at stands = ((tidy.each number s at).each k b stands).orderly

  -- the benches are as before
  benches_story : {move : Move} {reply : Reply} (number : ℕ) (s : KeptNode) (n : NodeState) (k : Kept)
      → IsAt w number s → n.benches ≡ s.node.benches
      → Story w move reply pid (living w pid) (living (went w number n k [] []) pid)
  benches_story number s n k at same =
      went_story number s n k at (λ is here. rests (ap (λ l. process_among l pid) same))

  -- ---- jobs

  module _ (number desk upto : ℕ) (job : Job) (s : KeptNode) (at : IsAt w number s) (asks : ¬ IsArrival job) where
    abbrev Asked : Move
    Asked = Happens (events.Job number desk upto job)

    abbrev done_at : {v : ℕ} {b : BenchState} → pid.node ≡ number → IsAt w pid.node s → Looks s.node desk upto v
        → item_at s.node.benches (place_of s.node job) ≡ Some b → IsDone w Asked pid.node job
    done_at {v} {b} is here look stands =
        record {
          desk = desk;
          upto = upto;
          move_is = ap (λ m. Happens (events.Job m desk upto job)) (sym is);
          s = s;
          at = here;
          v = v;
          looks = look;
          bench = b;
          stands = stands;
        }

    -- it is done, and its bench left so
    worked_story : {v : ℕ} {x : Outcome} {left : BenchState} {reply : Reply} (n : NodeState) (k : Kept) → Looks s.node desk upto v → Decides s.node v job (Ok x) left
        → n.benches ≡ change_item (λ _. left) s.node.benches (place_of s.node job) → IsAnswered w x reply
        → Story w Asked reply pid (living w pid) (living (went w number n k [] []) pid)
    worked_story {v} {x} {left} {reply} n k look d benches said =
        went_story number s n k at (λ is here.
        subst (λ l. Story w Asked reply pid (process_of s.node pid) (process_among l pid)) (sym benches)
        (by_place is here (stands_after (λ _. left) s.node.benches (place_of s.node job) pid)))
      where
        by_place : pid.node ≡ number → IsAt w pid.node s → {o : Option Process}
            → Stands (λ _. left) s.node.benches (place_of s.node job) pid o
            → Story w Asked reply pid (process_of s.node pid) o
        by_place is here (elsewhere e) = rests e
        by_place is here {o} (there b e was now) =
            let fate = does_fate _ d.bench pid (orderly_at number (place_of s.node job) at d.stands) d.does in
            let same = ap (λ (y : BenchState). map.get y.processes pid) (same_found d.stands e) in
            subst (λ z. Story w Asked reply pid z o) (same ∙ sym was)
            (subst (Story w Asked reply pid (map.get d.bench.processes pid)) (sym now)
            (does_story (done_at is here look d.stands) asks said fate))

    -- it is refused, and the benches are as before
    refused_story : {reply : Reply} {v : ℕ} {refusal : Refusal} {left : BenchState} (n : NodeState) (k : Kept)
        → Decides s.node v job (Err refusal) left
        → n.benches ≡ change_item (λ _. left) s.node.benches (place_of s.node job)
        → Story w Asked reply pid (living w pid) (living (went w number n k [] []) pid)
    refused_story {reply} {left = left} n k d benches =
        went_story number s n k at (λ is here.
        rests (ap (λ l. process_among l pid) benches
        ∙ by_place (stands_after (λ _. left) s.node.benches (place_of s.node job) pid)))
      where
        by_place : {o : Option Process} → Stands (λ _. left) s.node.benches (place_of s.node job) pid o
            → o ≡ process_of s.node pid
        by_place (elsewhere e) = e
        by_place (there b e was now) =
            now ∙ ap (λ (y : BenchState). map.get y.processes pid) (refusal_leaves d.does ∙ same_found d.stands e)
            ∙ sym was

    faulty_story : {fault : Fault} {n : NodeState} → Jobs s.node desk upto job (Err fault) n
        → Story w Asked (replies.Refused fault) pid (living w pid) (living (went w number n s.kept [] []) pid)
    faulty_story (Jobs.stopped why) = benches_story number s _ s.kept at refl
    faulty_story (Jobs.no_room look less seen) = benches_story number s _ s.kept at refl
    faulty_story (Jobs.refused look d) = refused_story _ s.kept d refl
    faulty_story (Jobs.not_begun look d begun) = benches_story number s _ s.kept at refl

    pub job_story : {reply : Reply} {after : World} → JobAt w number s desk upto job reply after
        → Story w Asked reply pid (living w pid) (living after pid)
    job_story (JobAt.refused does) = faulty_story does
    job_story (JobAt.replied (Jobs.replied look d)) = worked_story _ s.kept look d refl refl
    job_story (JobAt.begun {name} (Jobs.begun look d begun)) =
        worked_story _ s.kept look d (begun_benches begun) (name, refl)
    job_story (JobAt.sends (Jobs.sent look d)) = worked_story _ s.kept look d refl refl
    job_story (JobAt.no_room look is noted) = benches_story number s _ s.kept at refl

  -- ---- messages

  module _ (packet number : ℕ) (s : KeptNode) (sent : Sent) (was_sent : item_at w.packets packet ≡ Some sent)
      (at : IsAt w number s) where
    abbrev Brought : Move
    Brought = Happens (events.Deliver packet number)

    brings_it : {d : Data} → pid.node ≡ number → sent.packet ≡ packets.Data d
        → Brings w Brought pid.node d
    brings_it is of =
        record {
          packet = packet;
          move_is = ap (λ m. Happens (events.Deliver packet m)) (sym is);
          sent = sent;
          was_sent = was_sent;
          of = of;
        }

    module _ (d : Data) (of : sent.packet ≡ packets.Data d) where
      arrived_story : {r : JobReply} {left : BenchState} (n : NodeState) (k : Kept) → ArrivesAt s.node d (Ok (Outcome.Reply r)) left
          → n.benches ≡ change_item (λ _. left) s.node.benches (place_of s.node (Arrive d))
          → Story w Brought (Answered r) pid (living w pid) (living (went w number n k [] []) pid)
      arrived_story {r} {left} n k d_at benches =
          went_story number s n k at (λ is here.
          subst (λ l. Story w Brought (Answered r) pid (process_of s.node pid) (process_among l pid)) (sym benches)
          (by_place is here (stands_after (λ _. left) s.node.benches (place_of s.node (Arrive d)) pid)))
        where
          by_place : pid.node ≡ number → IsAt w pid.node s → {o : Option Process}
              → Stands (λ _. left) s.node.benches (place_of s.node (Arrive d)) pid o
              → Story w Brought (Answered r) pid (process_of s.node pid) o
          by_place is here (elsewhere e) = rests e
          by_place is here {o} (there b e was now) =
              let fate = does_fate _ d_at.bench pid (orderly_at number (place_of s.node (Arrive d)) at d_at.stands) d_at.does in
              let same = ap (λ (y : BenchState). map.get y.processes pid) (same_found d_at.stands e) in
              subst (λ z. Story w Brought (Answered r) pid z o) (same ∙ sym was)
              (subst (Story w Brought (Answered r) pid (map.get d_at.bench.processes pid)) (sym now)
              (hears_story (brings_it is of) refl fate))

      dropped_story : {reply : Reply} {refusal : Refusal} {left : BenchState} (n : NodeState) (k : Kept)
          → ArrivesAt s.node d (Err refusal) left
          → n.benches ≡ change_item (λ _. left) s.node.benches (place_of s.node (Arrive d))
          → Story w Brought reply pid (living w pid) (living (went w number n k [] []) pid)
      dropped_story {reply} {left = left} n k d_at benches =
          went_story number s n k at (λ is here.
          rests (ap (λ l. process_among l pid) benches
          ∙ by_place (stands_after (λ _. left) s.node.benches (place_of s.node (Arrive d)) pid)))
        where
          by_place : {o : Option Process} → Stands (λ _. left) s.node.benches (place_of s.node (Arrive d)) pid o
              → o ≡ process_of s.node pid
          by_place (elsewhere e) = e
          by_place (there b e was now) =
              now ∙ ap (λ (y : BenchState). map.get y.processes pid)
              (refusal_leaves d_at.does ∙ same_found d_at.stands e) ∙ sym was

      message_story : {reply : Reply} {after : World} → MessageAt w number s sent d reply after
          → Story w Brought reply pid (living w pid) (living after pid)
      message_story (MessageAt.arrives (Arrives.arrives d_at)) =
          arrived_story _ s.kept d_at refl
      message_story (MessageAt.refused (Arrives.stopped why)) = benches_story number s _ s.kept at refl
      message_story (MessageAt.refused (Arrives.refused d_at)) = dropped_story _ s.kept d_at refl
      message_story (MessageAt.no_room running) = rests refl

    received_benches : {ops : SetBy op_cmp} {result : Result ℕ Fault} {n : NodeState} → Receives s.node ops result n
        → n.benches ≡ s.node.benches
    received_benches (Receives.stopped why) = refl
    received_benches (Receives.no_room running some) = refl
    received_benches (Receives.impostor running first is) = refl
    received_benches (Receives.clash running first is) = refl
    received_benches (Receives.nothing_new running can all) = refl
    received_benches (Receives.taken op running can m new why) = refl
    received_benches (Receives.receives idle can lacking some) = refl

    batch_story : {ops : List Op} {reply : Reply} {after : World} → BatchAt w number s ops reply after
        → Story w Brought reply pid (living w pid) (living after pid)
    batch_story (BatchAt.nothing_new does) = benches_story number s _ s.kept at (received_benches does)
    batch_story (BatchAt.takes does some) = benches_story number s _ s.kept at (received_benches does)
    batch_story (BatchAt.refused does) = benches_story number s _ s.kept at (received_benches does)

    window_story : {window : Intervals} {reply : Reply} {after : World} → WindowAt w number s window reply after
        → Story w Brought reply pid (living w pid) (living after pid)
    window_story (WindowAt.stopped why) = rests refl
    window_story (WindowAt.no_room running some) = rests refl
    window_story (WindowAt.answers running answer) = rests refl

    pub deliver_story : {reply : Reply} {after : World} → DeliverAt w number s sent reply after
        → Story w Brought reply pid (living w pid) (living after pid)
    deliver_story (DeliverAt.have is h) = window_story h
    deliver_story (DeliverAt.ops is h) = batch_story h
    deliver_story (DeliverAt.message {d} is h) = message_story d is h

  -- ---- the end of an operation

  module _ (number : ℕ) (s : KeptNode) (at : IsAt w number s) where
    same_batch : {a b : Batch} → s.node.state ≡ Running (Due a) → s.node.state ≡ Running (Due b) → a ≡ b
    same_batch e f = let both = sym e ∙ f in cc

    -- the operation of a maker is over at its bench
    ends_story : {move : Move} {reply : Reply} (maker : Pid) (caps : List Cap) (n : NodeState) (k : Kept)
        → n.benches ≡ change_item (λ b. settles b maker caps) s.node.benches
        (bench_of (length s.node.benches) maker.serial)
        → (pid.node ≡ number → IsAt w pid.node s → pid ≡ maker → (p : Process)
        → Alters w move reply pid p (rested p caps))
        → Story w move reply pid (living w pid) (living (went w number n k [] []) pid)
    ends_story {move} {reply} maker caps n k benches its =
        went_story number s n k at (λ is here.
        subst (λ l. Story w move reply pid (process_of s.node pid) (process_among l pid)) (sym benches)
        (by_place (its is here) (stands_after _ s.node.benches _ pid)))
      where
        by_end : (pid ≡ maker → (p : Process) → Alters w move reply pid p (rested p caps)) → {o o' : Option Process}
            → Settled maker caps pid o o' → Story w move reply pid o o'
        by_end its Settled.other = rests refl
        by_end its (Settled.its {p} same) = lives_on (its same p)

        by_place : (pid ≡ maker → (p : Process) → Alters w move reply pid p (rested p caps)) → {o : Option Process}
            → Stands (λ b. settles b maker caps) s.node.benches (bench_of (length s.node.benches) maker.serial) pid o
            → Story w move reply pid (process_of s.node pid) o
        by_place its (elsewhere e) = rests e
        by_place its {o} (there b e was now) =
            subst (λ z. Story w move reply pid z o) (sym was)
            (subst (Story w move reply pid (map.get b.processes pid)) (sym now)
            (by_end its (settles_fate b maker caps pid)))

    abbrev Publishing : Move
    Publishing = Happens (events.Publish number)

    ordered_story : {op : Op} {maker : Option Pid} {desk : Option ℕ} (n : NodeState)
        → s.node.state ≡ Running (Due (Ordered op maker desk))
        → n.benches ≡ given_to (Ordered op maker desk) s.node.benches
        → Story w Publishing (replies.Published op.name) pid (living w pid) (living (went w number n s.kept [] []) pid)
    ordered_story {maker = None} n due benches = benches_story number s n s.kept at benches
    ordered_story {op} {maker = Some maker} {desk} n due benches =
        ends_story maker (given op) n s.kept benches (λ is here same p.
        gets (record {
          s = s;
          at = here;
          desk = desk;
          due = due ∙ ap (λ m. Running (Due (Ordered op (Some m) desk))) (sym same);
          move_is = ap (λ m. Happens (events.Publish m)) (sym is);
          answered = refl;
        }))

    publish_benches : {batch : Batch} {count : ℕ} {n : NodeState} → s.node.state ≡ Running (Due batch)
        → Publishes s.node (Ok count) n → n.benches ≡ given_to batch s.node.benches
    publish_benches due (Publishes.published is) =
        ap (λ b. given_to b s.node.benches) (same_batch is due)

    pub publish_story : {reply : Reply} {after : World} → PublishAt w number s reply after
        → Story w Publishing reply pid (living w pid) (living after pid)
    publish_story (PublishAt.ordered {n = n} due does) = ordered_story n due (publish_benches due does)
    publish_story (PublishAt.received {n = n} due does) =
        benches_story number s n s.kept at (publish_benches due does)
    publish_story (PublishAt.refused (Publishes.no_room is)) = benches_story number s _ s.kept at refl
    publish_story (PublishAt.refused (Publishes.none why)) = benches_story number s _ s.kept at refl

    abbrev Cancelling : Move
    Cancelling = Happens (events.Cancel number)

    given_up_story : {batch : Batch} (n : NodeState) → s.node.state ≡ Running (Unsaved batch)
        → n.benches ≡ released batch s.node.benches
        → Story w Cancelling replies.Done pid (living w pid) (living (went w number n s.kept [] []) pid)
    given_up_story {batch = Ordered op None desk} n unsaved benches = benches_story number s n s.kept at benches
    given_up_story {batch = Ordered op (Some maker) desk} n unsaved benches =
        ends_story maker [] n s.kept benches (λ is here same p.
        gives_up (record {
          s = s;
          at = here;
          desk = desk;
          unsaved = unsaved ∙ ap (λ m. Running (Unsaved (Ordered op (Some m) desk))) (sym same);
          move_is = ap (λ m. Happens (events.Cancel m)) (sym is);
          answered = refl;
        }))
    given_up_story {batch = Received ops} n unsaved benches = benches_story number s n s.kept at benches

    pub cancel_story : {reply : Reply} {after : World} → CancelAt w number s reply after
        → Story w Cancelling reply pid (living w pid) (living after pid)
    cancel_story (CancelAt.given_up (Cancels.given_up is)) = given_up_story _ is refl
    cancel_story (CancelAt.refused (Cancels.none why)) = benches_story number s _ s.kept at refl

    -- ---- savings, restarts and tellings

    saved_benches : {k : Kept} {result : Result (Unit {0}) Fault} {n : NodeState} {k' : Kept}
        → Saves s.node k result n k' → n.benches ≡ s.node.benches
    saved_benches (Saves.saved is) = refl
    saved_benches (Saves.no_room is) = refl
    saved_benches (Saves.failed is left) = refl
    saved_benches (Saves.none why) = refl

    pub save_story : {reply : Reply} {after : World} → SaveAt w number s reply after
        → Story w (Happens (events.Save number)) reply pid (living w pid) (living after pid)
    save_story (SaveAt.saved {n} {k} does) = benches_story number s n k at (saved_benches does)
    save_story (SaveAt.refused {n = n} {k} does) = benches_story number s n k at (saved_benches does)

    -- it is opened again, and nobody stands there
    pub again_none : {m : NodeState} {doubt : Option Batch} {k : Kept} {boot : ℕ} {n : NodeState} {k' : Kept}
        → OpensAgain m doubt k (Ok boot) n k' → process_of n pid ≡ None
    again_none {m} {k = k} (OpensAgain.opens (Opens.opens own left)) = opened_none (length m.views) k pid

    again_benches : {m : NodeState} {doubt : Option Batch} {k : Kept} {fault : Fault} {n : NodeState} {k' : Kept}
        → OpensAgain m doubt k (Err fault) n k' → n.benches ≡ m.benches
    again_benches (OpensAgain.stays why) = refl

    pub restarted_none : {k : Kept} {keeps : Bool} {boot : ℕ} {n : NodeState} {k' : Kept}
        → Restarts s.node k keeps (Ok boot) n k' → process_of n pid ≡ None
    restarted_none (Restarts.saved keeps is again) = again_none again
    restarted_none (Restarts.lost keeps is again) = again_none again
    restarted_none (Restarts.idle is again) = again_none again
    restarted_none (Restarts.due is again) = again_none again
    restarted_none (Restarts.stopped is again) = again_none again

    restarted_benches : {k : Kept} {keeps : Bool} {fault : Fault} {n : NodeState} {k' : Kept}
        → Restarts s.node k keeps (Err fault) n k' → n.benches ≡ s.node.benches
    restarted_benches (Restarts.not_saved keeps is saves) = saved_benches saves
    restarted_benches (Restarts.saved keeps is again) = again_benches again
    restarted_benches (Restarts.lost keeps is again) = again_benches again
    restarted_benches (Restarts.idle is again) = again_benches again
    restarted_benches (Restarts.due is again) = again_benches again
    restarted_benches (Restarts.stopped is again) = again_benches again

    pub restart_story : {keeps : Bool} {reply : Reply} {after : World} → RestartAt w number s keeps reply after
        → Story w (Happens (events.Restart number keeps)) reply pid (living w pid) (living after pid)
    restart_story {keeps} (RestartAt.booted {n = n} {k} does) =
        went_story number s n k at (λ is here.
        goes (restarted_none does)
        (restarted (ap (λ m. Happens (events.Restart m keeps)) (sym is)) refl))
    restart_story (RestartAt.refused {n = n} {k} does) = benches_story number s n k at (restarted_benches does)

    pub tell_story : {reply : Reply} {after : World} → TellAt w number s reply after
        → Story w (Happens (events.Tell number)) reply pid (living w pid) (living after pid)
    tell_story (TellAt.stopped why) = rests refl
    tell_story (TellAt.no_room running) = rests refl
    tell_story (TellAt.tells running summary) = rests refl

  step_story : {event : Event} {reply : Reply} {after : World} → Step w event reply after
      → Story w (Happens event) reply pid (living w pid) (living after pid)
  step_story (Step.no_node e) = rests refl
  step_story (Step.no_desk at e) = rests refl
  step_story (Step.no_such_job is) = rests refl
  step_story (Step.no_packet e) = rests refl
  step_story (Step.job {number} {desk} {upto} {job} {s} at is h) = job_story number desk upto job s at is h
  step_story (Step.save {number} {s} at h) = save_story number s at h
  step_story (Step.publish {number} {s} at h) = publish_story number s at h
  step_story (Step.cancel {number} {s} at h) = cancel_story number s at h
  step_story (Step.restart {number} {s = s} at h) = restart_story number s at h
  step_story (Step.tell {number} {s} at h) = tell_story number s at h
  step_story (Step.deliver {packet} {number} {s} {sent} e at h) = deliver_story packet number s sent e at h

  -- ---- a node joins, or is opened over another keeper

  -- nobody lived at a node that was not there
  joined_story : {k : Kept} (number : ℕ) → map.get w.nodes number ≡ None
      → Story w (Comes number k) (replies.Booted (k.boot + 1)) pid (living w pid) (living (joined w number k) pid)
  joined_story {k} number free =
      let new : KeptNode = record { node = opened w.desks k; kept = raised k } in
      elim (get_put nat_cmp_total nat_cmp-IsAntisymmetric w.nodes number new pid.node) [
        | inl h ↦
            let none = ap (λ o. process_in o pid) (ap (map.get w.nodes) h.0 ∙ free) in
            rests (ap (λ o. process_in o pid) h.1 ∙ opened_none w.desks k pid ∙ sym none)
        | inr h ↦ rests (ap (λ o. process_in o pid) h)
      ]

  joins_story : (number : ℕ) {k : Kept} {reply : Reply} {after : World} → Joins w number k reply after
      → Story w (Comes number k) reply pid (living w pid) (living after pid)
  joins_story number (Joins.there at) = rests refl
  joins_story number (Joins.not_opened free h) = rests refl
  joins_story number (Joins.clash free is left least) = rests refl
  joins_story number (Joins.impostor free is left none least) = rests refl
  joins_story number (Joins.joins free is left names no_clash no_stray) = joined_story number free

  reopening_story : (number : ℕ) {k : Kept} {reply : Reply} {after : World} → Reopening w number k reply after
      → Story w (Returns number k) reply pid (living w pid) (living after pid)
  reopening_story number (Reopening.no_node e) = rests refl
  reopening_story number (Reopening.running at running) = rests refl
  reopening_story number {k} (Reopening.booted {s} {n = n} {k' = k'} at is h) =
      went_story number s n k' at (λ here there.
      goes (again_none number s at h) (reopened (ap (λ m. Returns m k) (sym here)) refl))
  reopening_story number (Reopening.refused {s} {n = n} {k' = k'} at is h) =
      benches_story number s n k' at (again_benches number s at h)

  pub move_story : {reply : Reply} (after : World) (move : Move) → Moves w move reply after
      → Story w move reply pid (living w pid) (living after pid)
  move_story after (Happens event) h = step_story h
  move_story after (Comes number k) h = joins_story number h
  move_story after (Returns number k) h = reopening_story number h
