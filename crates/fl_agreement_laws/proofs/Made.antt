-- What a node's list is made of, in a run.
use Rattle.std.proofs.Common.{◌≡◌, ◌≢◌, ◌⊎◌, ◌∙◌, ◌≤◌, ◌++◌, ◌==◌, inl, inr, ℕ, Bool, true, false, cond, List, [], ◌∷◌, Ok, Some, refl, sym, ap, subst, arith, append_assoc, append-nil}
use Rattle.std.specs.FinMap as map
use Rattle.std.specs.List.{Contains}
use Rattle.std.specs.declared.option.Option.TheVariants.{None}
use Rattle.std.proofs.lemmas.Bool.{eq-eqb, ne_eqb}
use Rattle.std.proofs.lemmas.List.Elements.{Contains-append_cases, Contains-append_left, Contains-append_right}
use Rattle.fl_labels.specs.Found.{Within}
use Rattle.fl_labels.specs.SetBy as set
use Rattle.fl_labels.specs.SetBy.{In}
use Rattle.fl_labels.specs.declared.name.Name.{Name}
use Rattle.fl_ops.specs.OpLaws.{op_total, op_exact}
use Rattle.fl_ops.specs.OpOrder.{op_cmp}
use Rattle.fl_ops.specs.declared.op.Op.{Op}
use Rattle.fl_opset.specs.laws.Members.{listed_in}
use Rattle.fl_opset.specs.laws.Unions.{same_members, union_least, union_upper}
use Rattle.fl_opset.specs.declared.intervals.Intervals.{Intervals}
use Rattle.fl_message.specs.declared.message.Data.{Data}
use Rattle.fl_jobs.specs.declared.job.Job.{Job as AnyJob}
use Rattle.fl_bench.specs.laws.Puts.{none_some, same_found}
use Rattle.fl_store.specs.Kept.{Kept, raised}
use Rattle.fl_system.specs.declared.admission.Admission.{Admission}
use Rattle.fl_system.specs.declared.event.Event.{Event}
use Rattle.fl_system.specs.declared.event.Event.TheVariants.{Job, Save, Publish, Cancel, Restart, Tell, Deliver}
use Rattle.fl_system.specs.declared.reply.Reply.{Reply}
use Rattle.fl_system.specs.declared.reply.Reply.TheVariants.{Begun, NoSuch, Published, Taking, Took}
use Rattle.fl_system.specs.declared.sent.Sent.{Sent}
use Rattle.fl_system.specs.declared.state.Pending.TheVariants.{Nothing, Unsaved, Due}
use Rattle.fl_system.specs.declared.state.State.{State}
use Rattle.fl_system.specs.declared.state.State.TheVariants.{Running, Stopped}
use Rattle.fl_system.specs.Deliveries.{TellAt, WindowAt, BatchAt, MessageAt, DeliverAt}
use Rattle.fl_system.specs.Joins.{Joins, Reopening, joined}
use Rattle.fl_system.specs.Numbered.{item_at}
use Rattle.fl_system.specs.Openings.{opened}
use Rattle.fl_system.specs.Runs.{Move, Happens, Comes, Returns, Moves, Moment, IsRun, end}
use Rattle.fl_system.specs.State.{NodeState}
use Rattle.fl_system.specs.Whereabouts.{IsOnItsWay}
use Rattle.fl_system.specs.World.{World, KeptNode, went}
use Rattle.fl_system.specs.WorldCalls.{SaveAt, PublishAt, CancelAt, RestartAt}
use Rattle.fl_system.specs.WorldJobs.{JobAt}
use Rattle.fl_system.specs.WorldSteps.{IsAt, Step}
use Rattle.fl_system_laws.specs.Goes.{carried}
use Rattle.fl_system_laws.specs.laws.Going.{carried_is, moves_goes}
use Rattle.fl_system_laws.specs.laws.Steps.{in_none}
use Rattle.fl_world_laws.specs.laws.Naming.{IsNamed, goes_named}
use Rattle.fl_world_laws.specs.laws.Nodes.{Now, is_new, is_old, now}
use Rattle.fl_agreement_laws.specs.Gains.{due_in, due_at, if_published, gain, gains, IsBegun, IsBegunIn}
use Rattle.fl_agreement_laws.proofs.Follows.{Follows, FollowsAt, goes_follows, run_follows}
use Rattle.fl_agreement_laws.proofs.Turns as turns
use Rattle.fl_agreement_laws.proofs.Turns.{Extends, by_these, reopened, Turns, IsOrderOf}

-- ---- the node of one number

-- Where it is there before and after, its list goes on by these operations, and what is on the way was so, or is of
-- these.
record TurnsAt (w w' : World) (n : ℕ) (ops : List Op) (B : Op → Type 0) : Type 0 where
  pub each : (s s' : KeptNode) → IsAt w n s → IsAt w' n s' → Turns s.node s'.node ops B

same_node : {B : Op → Type 0} (s s' : KeptNode) → s ≡ s' → Turns s.node s'.node [] B
same_node {B} s s' e = subst (λ (z : KeptNode). Turns s.node z.node [] B) e (turns.rests s.node s.node refl refl)

-- where no node changes
unmoved : {B : Op → Type 0} {w w' : World} (n : ℕ) → w'.nodes ≡ w.nodes → TurnsAt w w' n [] B
unmoved {w = w} n same =
    record { each = λ s s' at at'. same_node s s' (same_found at (subst (λ m. map.get m n ≡ Some s') same at')) }

-- where one does
module _ (w : World) (k : ℕ) (s new : KeptNode) (at : IsAt w k s) (n : ℕ) (ops : List Op) (B : Op → Type 0)
    (turn : n ≡ k → Turns s.node new.node ops B) (other : n ≢ k → ops ≡ []) where
  put_at : (x y : KeptNode) → IsAt w n x → Now w.nodes k new n y → Turns x.node y.node ops B
  put_at x y there (is_new is same) =
      let was : s ≡ x = same_found at (subst (λ j. map.get w.nodes j ≡ Some x) is there) in
      subst (λ (z : KeptNode). Turns x.node z.node ops B) same
      (subst (λ (z : KeptNode). Turns z.node new.node ops B) was (turn is))
  put_at x y there (is_old differs still) =
      subst (λ l. Turns x.node y.node l B) (sym (other differs)) (same_node x y (same_found there still))

  put_turns : (w' : World) → w'.nodes ≡ map.insert w.nodes k new → TurnsAt w w' n ops B
  put_turns w' same =
      record { each = λ x y e f. put_at x y e (now w.nodes k new n y (subst (λ l. map.get l n ≡ Some y) same f)) }

-- a call that publishes nothing
module _ (w : World) (k : ℕ) (s : KeptNode) (at : IsAt w k s) (n : ℕ) (B : Op → Type 0) where
  moved : {node : NodeState} (kept : Kept) (sent : List Sent) (admitted : List Admission) {A : Op → Type 0}
      → Turns s.node node [] A → (n ≡ k → Within A B) → TurnsAt w (went w k node kept sent admitted) n [] B
  moved {node} kept sent admitted turn means =
      put_turns w k s (record { node = node; kept = kept }) at n [] B (λ is. turns.turns_within (means is) turn)
      (λ differs. refl) _ refl

  -- where nothing is begun
  quiet : {node : NodeState} (kept : Kept) (sent : List Sent) (admitted : List Admission) → Turns s.node node [] B
      → TurnsAt w (went w k node kept sent admitted) n [] B
  quiet kept sent admitted turn = moved kept sent admitted turn (λ is op h. h)

-- ---- each event

-- the name of an order's operation that is begun
ordered_begins : (w : World) (n k desk upto : ℕ) (job : AnyJob) (name : Name) → n ≡ k → (op : Op)
    → (name ≡ op.name) × IsOrderOf job op.body → IsBegun n op w (Happens (Job k desk upto job)) (Begun name)
ordered_begins w n k desk upto job name is op (named, o) =
    subst (λ j. IsBegun n op w (Happens (Job j desk upto job)) (Begun name)) is
    (subst (λ (x : Name). IsBegun n op w (Happens (Job n desk upto job)) (Begun x)) (sym named)
    (subst (λ (x : AnyJob). IsBegun n op w (Happens (Job n desk upto x)) (Begun op.name)) (sym o.asked)
    (IsBegun.ordered {pid = o.pid} {order = o.order} o.body_is)))

module _ (w : World) (k : ℕ) (s : KeptNode) (at : IsAt w k s) (n : ℕ) where
  abbrev Begins : Event → Reply → Op → Type 0
  Begins event reply op = IsBegun n op w (Happens event) reply

  job_turns : {desk upto : ℕ} {job : AnyJob} {reply : Reply} {w' : World} → JobAt w k s desk upto job reply w'
      → TurnsAt w w' n [] (Begins (Job k desk upto job) reply)
  job_turns (JobAt.refused does) = moved w k s at n _ _ _ _ (turns.jobs_turn does) (λ is op h. absurd h)
  job_turns (JobAt.replied does) = moved w k s at n _ _ _ _ (turns.jobs_turn does) (λ is op h. absurd h)
  job_turns {desk} {upto} {job} (JobAt.begun {name = name} does) =
      moved w k s at n _ _ _ _ (turns.jobs_turn does) (ordered_begins w n k desk upto job name)
  job_turns (JobAt.sends does) = moved w k s at n _ _ _ _ (turns.jobs_turn does) (λ is op h. absurd h)
  job_turns {desk} (JobAt.no_room {seen = seen} look is noted) =
      quiet w k s at n _ _ _ _ (turns.looks_turn s.node desk seen)

  module _ {B : Op → Type 0} where
    save_turns : {reply : Reply} {w' : World} → SaveAt w k s reply w' → TurnsAt w w' n [] B
    save_turns (SaveAt.saved does) = quiet w k s at n B _ _ _ (turns.saves_turn does)
    save_turns (SaveAt.refused does) = quiet w k s at n B _ _ _ (turns.saves_turn does)

    cancel_turns : {reply : Reply} {w' : World} → CancelAt w k s reply w' → TurnsAt w w' n [] B
    cancel_turns (CancelAt.given_up does) = quiet w k s at n B _ _ _ (turns.cancels_turn does)
    cancel_turns (CancelAt.refused does) = quiet w k s at n B _ _ _ (turns.cancels_turn does)

    restart_turns : {keeps : Bool} {reply : Reply} {w' : World} → RestartAt w k s keeps reply w' → TurnsAt w w' n [] B
    restart_turns (RestartAt.booted does) = quiet w k s at n B _ _ _ (turns.restarts_turn does)
    restart_turns (RestartAt.refused does) = quiet w k s at n B _ _ _ (turns.restarts_turn does)

    tell_turns : {reply : Reply} {w' : World} → TellAt w k s reply w' → TurnsAt w w' n [] B
    tell_turns (TellAt.stopped why) = unmoved n refl
    tell_turns (TellAt.no_room running) = unmoved n refl
    tell_turns (TellAt.tells running summary) = unmoved n refl

    -- what was due is published
    at_once : {node : NodeState} → Turns s.node node (due_in s.node.state) B
        → TurnsAt w (went w k node s.kept [] []) n (cond (k == n) (due_at (map.get w.nodes n)) []) B
    at_once {node} turn =
        put_turns w k s (record { node = node; kept = s.kept }) at n _ B
        (λ is. subst (λ l. Turns s.node node l B) (sym (here is)) turn) away _ refl
      where
        here : n ≡ k → cond (k == n) (due_at (map.get w.nodes n)) [] ≡ due_in s.node.state
        here is =
            ap (λ b. cond b (due_at (map.get w.nodes n)) []) (eq-eqb k n (sym is))
            ∙ ap due_at (subst (λ j. map.get w.nodes j ≡ Some s) (sym is) at)

        away : n ≢ k → cond (k == n) (due_at (map.get w.nodes n)) [] ≡ []
        away differs =
            ap (λ b. cond b (due_at (map.get w.nodes n)) []) (ne_eqb k n (λ e. differs (sym e)))

    publish_turns : {reply : Reply} {w' : World} → PublishAt w k s reply w'
        → TurnsAt w w' n (gain n w (Happens (Publish k)) reply) B
    publish_turns (PublishAt.ordered is does) = at_once (turns.publishes_turn does)
    publish_turns (PublishAt.received is does) = at_once (turns.publishes_turn does)
    publish_turns (PublishAt.refused {n = node} does) =
        subst (λ l. TurnsAt w (went w k node s.kept [] []) n l B) (sym (both (k == n)))
        (quiet w k s at n B _ _ _ (turns.unpublished_turn does))
      where
        both : (b : Bool) → cond {A = List Op} b [] [] ≡ []
        both true = refl
        both false = refl

    window_turns : {window : Intervals} {reply : Reply} {w' : World} → WindowAt w k s window reply w'
        → TurnsAt w w' n [] B
    window_turns (WindowAt.stopped why) = unmoved n refl
    window_turns (WindowAt.no_room running some) = unmoved n refl
    window_turns (WindowAt.answers running answer) = unmoved n refl

    message_turns : {sent : Sent} {d : Data} {reply : Reply} {w' : World} → MessageAt w k s sent d reply w'
        → TurnsAt w w' n [] B
    message_turns (MessageAt.arrives does) = quiet w k s at n B _ _ _ (turns.arrives_turn does)
    message_turns (MessageAt.refused does) = quiet w k s at n B _ _ _ (turns.arrives_turn does)
    message_turns (MessageAt.no_room running) = unmoved n refl

  module _ (packet : ℕ) (sent : Sent) (there : item_at w.packets packet ≡ Some sent) where
    -- what is received is of the packet
    of_packet : (count : ℕ) → n ≡ k → (op : Op)
        → turns.HasSome (Ok count) × In (set.of_list {R = op_cmp} (carried sent)) op
        → Begins (Deliver packet k) (Taking count) op
    of_packet count is op h =
        let carries = (listed_in (carried sent) (set.of_list (carried sent)) refl op).1 h.1 in
        subst (λ j. IsBegun n op w (Happens (Deliver packet j)) (Taking count)) is (IsBegun.received there carries)

    batch_turns : {reply : Reply} {w' : World} → BatchAt w k s (carried sent) reply w'
        → TurnsAt w w' n [] (Begins (Deliver packet k) reply)
    batch_turns (BatchAt.nothing_new does) =
        moved w k s at n _ _ _ _ (turns.receives_turn does) (λ is op h. absurd (omega (arith, h.0)))
    batch_turns (BatchAt.takes {count = count} does some) =
        moved w k s at n _ _ _ _ (turns.receives_turn does) (of_packet count)
    batch_turns (BatchAt.refused does) = moved w k s at n _ _ _ _ (turns.receives_turn does) (λ is op h. absurd h.0)

    deliver_turns : {reply : Reply} {w' : World} → DeliverAt w k s sent reply w'
        → TurnsAt w w' n [] (Begins (Deliver packet k) reply)
    deliver_turns (DeliverAt.have is h) = window_turns h
    deliver_turns {reply} {w'} (DeliverAt.ops is h) =
        batch_turns (subst (λ l. BatchAt w k s l reply w') (carried_is sent is) h)
    deliver_turns (DeliverAt.message is h) = message_turns h

-- an event of what is not there adds nothing
no_gain : (n : ℕ) (w : World) (event : Event) → gain n w (Happens event) NoSuch ≡ []
no_gain n w (Job k desk upto job) = refl
no_gain n w (Save k) = refl
no_gain n w (Publish k) = both (k == n)
  where
    both : (b : Bool) → cond b (if_published NoSuch (due_at (map.get w.nodes n))) [] ≡ []
    both true = refl
    both false = refl
no_gain n w (Cancel k) = refl
no_gain n w (Restart k keeps) = refl
no_gain n w (Tell k) = refl
no_gain n w (Deliver packet k) = refl

-- what a move adds, and what it begins
abbrev MoveTurns : World → ℕ → Move → Reply → World → Type 0
MoveTurns w n m reply w' = TurnsAt w w' n (gain n w m reply) (λ op. IsBegun n op w m reply)

step_turns : {w : World} {event : Event} {reply : Reply} {w' : World} (n : ℕ) → Step w event reply w'
    → MoveTurns w n (Happens event) reply w'
step_turns {w} {event} n (Step.no_node e) =
    subst (λ l. TurnsAt w w n l (λ op. IsBegun n op w (Happens event) NoSuch)) (sym (no_gain n w event))
    (unmoved n refl)
step_turns n (Step.no_desk at e) = unmoved n refl
step_turns n (Step.no_such_job is) = unmoved n refl
step_turns n (Step.no_packet e) = unmoved n refl
step_turns {w} n (Step.job {number = k} {s = s} at is h) = job_turns w k s at n h
step_turns {w} n (Step.save {number = k} {s = s} at h) = save_turns w k s at n h
step_turns {w} n (Step.publish {number = k} {s = s} at h) = publish_turns w k s at n h
step_turns {w} n (Step.cancel {number = k} {s = s} at h) = cancel_turns w k s at n h
step_turns {w} n (Step.restart {number = k} {s = s} at h) = restart_turns w k s at n h
step_turns {w} n (Step.tell {number = k} {s = s} at h) = tell_turns w k s at n h
step_turns {w} n (Step.deliver {packet = packet} {number = k} {s = s} {sent = sent} e at h) =
    deliver_turns w k s at n packet sent e h

-- ---- joins and reopenings

module _ {B : Op → Type 0} {w : World} (n k : ℕ) where
  -- a node where none was
  comes : (kept : Kept) → map.get w.nodes k ≡ None → TurnsAt w (joined w k kept) n [] B
  comes kept free =
      let new : KeptNode = record { node = opened w.desks kept; kept = raised kept } in
      record { each = λ x y e f. by x y e (now w.nodes k new n y f) }
    where
      by : (x y : KeptNode) → IsAt w n x
          → Now w.nodes k (record { node = opened w.desks kept; kept = raised kept }) n y → Turns x.node y.node [] B
      by x y e (is_new is same) = absurd (none_some free (subst (λ j. map.get w.nodes j ≡ Some x) is e))
      by x y e (is_old differs still) = same_node x y (same_found e still)

  joins_turns : {kept : Kept} {reply : Reply} {w' : World} → Joins w k kept reply w' → TurnsAt w w' n [] B
  joins_turns (Joins.there at) = unmoved n refl
  joins_turns (Joins.not_opened free h) = unmoved n refl
  joins_turns (Joins.clash free is left least) = unmoved n refl
  joins_turns (Joins.impostor free is left none least) = unmoved n refl
  joins_turns (Joins.joins free is left names no_clash no_stray) = comes _ free

  reopening_turns : {kept : Kept} {reply : Reply} {w' : World} → Reopening w k kept reply w' → TurnsAt w w' n [] B
  reopening_turns (Reopening.no_node e) = unmoved n refl
  reopening_turns (Reopening.running at running) = unmoved n refl
  reopening_turns (Reopening.booted {s = s} at is h) = quiet w k s at n B _ _ _ (turns.doubt_turn s.node is h)
  reopening_turns (Reopening.refused {s = s} at is h) = quiet w k s at n B _ _ _ (turns.doubt_turn s.node is h)

moves_turn : (w : World) (m : Move) (reply : Reply) (w' : World) (n : ℕ) → Moves w m reply w'
    → MoveTurns w n m reply w'
moves_turn w (Happens event) reply w' n h = step_turns n h
moves_turn w (Comes k kept) reply w' n h = joins_turns n k h
moves_turn w (Returns k kept) reply w' n h = reopening_turns n k h

-- ---- a run

boot_rises : {x y : NodeState} → Follows x y → x.boot ≤ y.boot
boot_rises (Follows.same_boot boot rest list views) = omega (arith, boot)
boot_rises (Follows.later_boot up all views) = omega (arith, up)

module _ (n : ℕ) where
  -- one move, and those after it
  list_on : (x mid y : NodeState) (now later : List Op) → Extends x mid now → y.boot ≡ x.boot → x.boot ≤ mid.boot
      → mid.boot ≤ y.boot → (y.boot ≡ mid.boot → y.published ≡ mid.published ++ later)
      → y.published ≡ x.published ++ (now ++ later)
  list_on x mid y now later (by_these e) boot up on rest =
      rest (omega (arith, boot, up, on)) ∙ (ap (λ l. l ++ later) e ∙ append_assoc x.published now later)
  list_on x mid y now later (reopened higher) boot up on rest = absurd (omega (arith, higher, on, boot))

  pub list_is : (w : World) (ms : List Moment) (x y : KeptNode) → IsNamed w → IsRun w ms → IsAt w n x
      → IsAt (end w ms) n y → y.node.boot ≡ x.node.boot → y.node.published ≡ x.node.published ++ gains n w ms
  list_is w [] x y named run at to boot =
      ap (λ (z : KeptNode). z.node.published) (same_found to at) ∙ sym (append-nil x.node.published)
  list_is w (m ∷ ms) x y named run at to boot =
      let goes = moves_goes w m.move m.reply m.after run.0 in
      let named_after = goes_named named goes in
      let next = (goes_follows named goes).each n x at in
      let last = (run_follows m.after ms named_after run.1).each n next.later next.at in
      let on = subst (λ (z : KeptNode). next.later.node.boot ≤ z.node.boot) (same_found last.at to)
      (boot_rises last.follows) in
      list_on x.node next.later.node y.node (gain n w m.move m.reply) (gains n m.after ms)
      ((moves_turn w m.move m.reply m.after n run.0).each x next.later at next.at).extends boot
      (boot_rises next.follows) on (list_is m.after ms next.later y named_after run.1 next.at to)

-- ---- what is published was on the way

due_on_its_way : (st : State) → Within (Contains (due_in st)) (IsOnItsWay st)
due_on_its_way (Running Nothing) op h = in_none op h
due_on_its_way (Running (Unsaved batch)) op h = in_none op h
due_on_its_way (Running (Due batch)) op h = h
due_on_its_way (Stopped doubt) op h = in_none op h

published_only : (reply : Reply) (ops : List Op) → Within (Contains (if_published reply ops)) (Contains ops)
published_only (Published name) ops op h = h
published_only (Took count) ops op h = h
published_only other ops op h = in_none op h

module _ (n : ℕ) (w : World) (s : KeptNode) (at : IsAt w n s) where
  gain_on_its_way : (m : Move) (reply : Reply) → Within (Contains (gain n w m reply)) (IsOnItsWay s.node.state)
  gain_on_its_way (Happens (Publish k)) reply op h = both (k == n) h
    where
      both : (b : Bool) → Contains (cond b (if_published reply (due_at (map.get w.nodes n))) []) op
          → IsOnItsWay s.node.state op
      both true h = due_on_its_way s.node.state op
          (subst (λ o. Contains (due_at o) op) at (published_only reply (due_at (map.get w.nodes n)) op h))
      both false h = in_none op h
  gain_on_its_way (Happens (Job k desk upto job)) reply op h = in_none op h
  gain_on_its_way (Happens (Save k)) reply op h = in_none op h
  gain_on_its_way (Happens (Cancel k)) reply op h = in_none op h
  gain_on_its_way (Happens (Restart k keeps)) reply op h = in_none op h
  gain_on_its_way (Happens (Tell k)) reply op h = in_none op h
  gain_on_its_way (Happens (Deliver packet k)) reply op h = in_none op h
  gain_on_its_way (Comes k kept) reply op h = in_none op h
  gain_on_its_way (Returns k kept) reply op h = in_none op h

pub gains_from : (n : ℕ) (w : World) (ms : List Moment) (s : KeptNode) (op : Op) → IsNamed w → IsRun w ms
    → IsAt w n s → Contains (gains n w ms) op → IsOnItsWay s.node.state op ⊎ IsBegunIn n op w ms
gains_from n w [] s op named run at h = in_none op h
gains_from n w (m ∷ ms) s op named run at h =
    let goes = moves_goes w m.move m.reply m.after run.0 in
    let next = (goes_follows named goes).each n s at in
    by next (λ later. gains_from n m.after ms next.later op (goes_named named goes) run.1 next.at later)
    (Contains-append_cases (gain n w m.move m.reply) (gains n m.after ms) op h)
  where
    by : (next : FollowsAt m.after n s.node)
        → (Contains (gains n m.after ms) op → IsOnItsWay next.later.node.state op ⊎ IsBegunIn n op m.after ms)
        → Contains (gain n w m.move m.reply) op ⊎ Contains (gains n m.after ms) op
        → IsOnItsWay s.node.state op ⊎ (IsBegun n op w m.move m.reply ⊎ IsBegunIn n op m.after ms)
    by next rest (inl first) = inl (gain_on_its_way n w s at m.move m.reply op first)
    by next rest (inr later) = elim (rest later) [
      | inl way ↦ elim (((moves_turn w m.move m.reply m.after n run.0).each s next.later at next.at).from op way) [
        | inl was ↦ inl was
        | inr begun ↦ inr (inl begun)
      ]
      | inr begun ↦ inr (inr begun)
    ]

-- ---- as a set

abbrev of : List Op → set.SetBy op_cmp
of ops = set.of_list ops

module _ (xs ys : List Op) where
  apart : (op : Op) → In (of (xs ++ ys)) op → In (set.union (of xs) (of ys)) op
  apart op h = elim (Contains-append_cases xs ys op ((listed_in (xs ++ ys) (of (xs ++ ys)) refl op).1 h)) [
    | inl l ↦ (union_upper op_total (of xs) (of ys)).0 op ((listed_in xs (of xs) refl op).0 l)
    | inr r ↦ (union_upper op_total (of xs) (of ys)).1 op ((listed_in ys (of ys) refl op).0 r)
  ]

  left : Within (In (of xs)) (In (of (xs ++ ys)))
  left op h =
      (listed_in (xs ++ ys) (of (xs ++ ys)) refl op).0
      (Contains-append_left xs ys op ((listed_in xs (of xs) refl op).1 h))

  right : Within (In (of ys)) (In (of (xs ++ ys)))
  right op h =
      (listed_in (xs ++ ys) (of (xs ++ ys)) refl op).0
      (Contains-append_right xs ys op ((listed_in ys (of ys) refl op).1 h))

  pub joined_lists : set.of_list {R = op_cmp} (xs ++ ys) ≡ set.union (set.of_list xs) (set.of_list ys)
  joined_lists = same_members op_total op_exact (of (xs ++ ys)) (set.union (of xs) (of ys)) (λ op. (
    apart op,
    union_least op_total (of xs) (of ys) (of (xs ++ ys)) left right op,
  ))
