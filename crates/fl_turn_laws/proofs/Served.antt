-- The nodes that a run of lines serves were opened by it.
use Rattle.std.proofs.Common.{◌≡◌, ◌⊎◌, inl, inr, ℕ, Bool, List, [], ◌∷◌, Some, sym, subst, ap, Result}
use Rattle.std.specs.FinMap as map
use Rattle.std.specs.Ordering.{nat_cmp}
use Rattle.fl_bench.specs.laws.Puts.{none_some}
use Rattle.fl_jobs.specs.declared.job.Job.{Job}
use Rattle.fl_message.specs.declared.message.Data.{Data}
use Rattle.fl_ops.specs.declared.op.Op.{Op}
use Rattle.fl_opset.specs.declared.intervals.Intervals.{Intervals}
use Rattle.fl_script.specs.declared.line.Line.{Line}
use Rattle.fl_script.specs.declared.reading.Reading.{Reading}
use Rattle.fl_script.specs.declared.reading.Reading.TheVariants as reading
use Rattle.fl_script.specs.declared.request.Request.{Request}
use Rattle.fl_script.specs.declared.request.Request.TheVariants as request
use Rattle.fl_store.specs.Kept.{Kept}
use Rattle.fl_system.specs.State.{NodeState}
use Rattle.fl_system.specs.declared.admission.Admission.{Admission}
use Rattle.fl_system.specs.declared.answer.Fault.{Fault}
use Rattle.fl_system.specs.declared.event.Event.{Event}
use Rattle.fl_system.specs.declared.reply.Reply.{Reply}
use Rattle.fl_system.specs.declared.sent.Sent.{Sent}
use Rattle.fl_system.specs.Deliveries.{TellAt, WindowAt, BatchAt, MessageAt, DeliverAt}
use Rattle.fl_system.specs.Joins.{Joins, joined}
use Rattle.fl_system.specs.World.{World, KeptNode, empty_world, went}
use Rattle.fl_system.specs.WorldCalls.{SaveAt, PublishAt, CancelAt, RestartAt}
use Rattle.fl_system.specs.WorldJobs.{JobAt}
use Rattle.fl_system.specs.WorldSteps.{IsAt, Step}
use Rattle.fl_world_laws.specs.laws.Nodes.{Now, is_new, is_old, now}
use Rattle.fl_calls.specs.Answer.{Answer as Said, replied}
use Rattle.fl_calls.specs.Calls as calls
use Rattle.fl_calls.specs.Calls.{Says, Delivers, BeginsToTake, Tells, Unites, ChecksAt}
use Rattle.fl_calls.specs.Completing.{Finishes, given_up, not_saved, saved, Completes, at_once, in_steps}
use Rattle.fl_calls.specs.Entering.{Openings, Enters, is_there, joins, is_refused, OnceOpen, shut, opened}
use Rattle.fl_turns.specs.Answer.{Answer}
use Rattle.fl_turns.specs.Run.{Run}
use Rattle.fl_turns.specs.Session.{Session, begun}
use Rattle.fl_turns.specs.Turn.{AsksNode, AnswersLine, asks, unites, counts, lists, AnswersReading, Turn}

-- some node of this number is there
record IsServed (w : World) (number : ℕ) : Type 0 where
  s : KeptNode
  at : IsAt w number s

module _ (Out : ℕ → Type 0) where
  -- each node of the second world is one of the first, or such a one
  record Grows (w w' : World) : Type 0 where
    pub each : (number : ℕ) (s : KeptNode) → IsAt w' number s → IsServed w number ⊎ Out number

  same : (w : World) → Grows w w
  same w = record { each = λ number s at. inl (record { s = s; at = at }) }

  same_as : (w w' : World) → w' ≡ w → Grows w w'
  same_as w w' is = subst (λ x. Grows w x) (sym is) (same w)

  then_ : (u v w : World) → Grows u v → Grows v w → Grows u w
  then_ u v w first second = record {
    each = λ number s at. elim (second.each number s at) [
      | inl before ↦ first.each number before.s before.at
      | inr out ↦ inr out
    ];
  }

  -- a node that is there changes
  changes : (w : World) (number : ℕ) (s : KeptNode) (n : NodeState) (k : Kept) (sent : List Sent)
      (admitted : List Admission) → IsAt w number s → Grows w (went w number n k sent admitted)
  changes w number s n k sent admitted at =
      record { each = λ q y e. by_now q y (now w.nodes number (record { node = n; kept = k }) q y e) }
    where
      by_now : (q : ℕ) (y : KeptNode) → Now w.nodes number (record { node = n; kept = k }) q y
          → IsServed w q ⊎ Out q
      by_now q y (is_new is it) = inl (record { s = s; at = subst (λ z. IsAt w z s) (sym is) at })
      by_now q y (is_old other there) = inl (record { s = y; at = there })

  -- such a one joins
  joins_out : (w : World) (number : ℕ) (k : Kept) → Out number → Grows w (joined w number k)
  joins_out w number k out =
      record { each = λ q y e. by_now q y (now w.nodes number _ q y e) }
    where
      by_now : (q : ℕ) (y : KeptNode) {x : KeptNode} → Now w.nodes number x q y → IsServed w q ⊎ Out q
      by_now q y (is_new is it) = inr (subst Out (sym is) out)
      by_now q y (is_old other there) = inl (record { s = y; at = there })

  module _ (w : World) (number : ℕ) (s : KeptNode) (at : IsAt w number s) where
    job_grows : {desk upto : ℕ} {job : Job} {reply : Reply} {w' : World}
        → JobAt w number s desk upto job reply w' → Grows w w'
    job_grows (JobAt.refused does) = changes w number s _ _ _ _ at
    job_grows (JobAt.replied does) = changes w number s _ _ _ _ at
    job_grows (JobAt.begun does) = changes w number s _ _ _ _ at
    job_grows (JobAt.sends does) = changes w number s _ _ _ _ at
    job_grows (JobAt.no_room look seen noted) = changes w number s _ _ _ _ at

    save_grows : {reply : Reply} {w' : World} → SaveAt w number s reply w' → Grows w w'
    save_grows (SaveAt.saved does) = changes w number s _ _ _ _ at
    save_grows (SaveAt.refused does) = changes w number s _ _ _ _ at

    publish_grows : {reply : Reply} {w' : World} → PublishAt w number s reply w' → Grows w w'
    publish_grows (PublishAt.ordered is does) = changes w number s _ _ _ _ at
    publish_grows (PublishAt.received is does) = changes w number s _ _ _ _ at
    publish_grows (PublishAt.refused does) = changes w number s _ _ _ _ at

    cancel_grows : {reply : Reply} {w' : World} → CancelAt w number s reply w' → Grows w w'
    cancel_grows (CancelAt.given_up does) = changes w number s _ _ _ _ at
    cancel_grows (CancelAt.refused does) = changes w number s _ _ _ _ at

    restart_grows : {keeps : Bool} {reply : Reply} {w' : World} → RestartAt w number s keeps reply w' → Grows w w'
    restart_grows (RestartAt.booted does) = changes w number s _ _ _ _ at
    restart_grows (RestartAt.refused does) = changes w number s _ _ _ _ at

    tell_grows : {reply : Reply} {w' : World} → TellAt w number s reply w' → Grows w w'
    tell_grows (TellAt.stopped why) = same w
    tell_grows (TellAt.no_room running) = same w
    tell_grows (TellAt.tells running told) = record { each = λ q y e. inl (record { s = y; at = e }) }

    window_grows : {window : Intervals} {reply : Reply} {w' : World} → WindowAt w number s window reply w' → Grows w w'
    window_grows (WindowAt.stopped why) = same w
    window_grows (WindowAt.no_room running some) = same w
    window_grows (WindowAt.answers running answer) = record { each = λ q y e. inl (record { s = y; at = e }) }

    batch_grows : {ops : List Op} {reply : Reply} {w' : World} → BatchAt w number s ops reply w' → Grows w w'
    batch_grows (BatchAt.nothing_new does) = changes w number s _ _ _ _ at
    batch_grows (BatchAt.takes does some) = changes w number s _ _ _ _ at
    batch_grows (BatchAt.refused does) = changes w number s _ _ _ _ at

    message_grows : {sent : Sent} {d : Data} {reply : Reply} {w' : World} → MessageAt w number s sent d reply w'
        → Grows w w'
    message_grows (MessageAt.arrives does) = changes w number s _ _ _ _ at
    message_grows (MessageAt.refused does) = changes w number s _ _ _ _ at
    message_grows (MessageAt.no_room running) = same w

    deliver_grows : {sent : Sent} {reply : Reply} {w' : World} → DeliverAt w number s sent reply w' → Grows w w'
    deliver_grows (DeliverAt.have is h) = window_grows h
    deliver_grows (DeliverAt.ops is h) = batch_grows h
    deliver_grows (DeliverAt.message is h) = message_grows h

  step_grows : (w : World) {event : Event} {reply : Reply} {w' : World} → Step w event reply w' → Grows w w'
  step_grows w (Step.no_node e) = same w
  step_grows w (Step.no_desk at e) = same w
  step_grows w (Step.no_such_job is) = same w
  step_grows w (Step.no_packet e) = same w
  step_grows w (Step.job {number = number} {s = s} at is h) = job_grows w number s at h
  step_grows w (Step.save {number = number} {s = s} at h) = save_grows w number s at h
  step_grows w (Step.publish {number = number} {s = s} at h) = publish_grows w number s at h
  step_grows w (Step.cancel {number = number} {s = s} at h) = cancel_grows w number s at h
  step_grows w (Step.restart {number = number} {s = s} at h) = restart_grows w number s at h
  step_grows w (Step.tell {number = number} {s = s} at h) = tell_grows w number s at h
  step_grows w (Step.deliver {number = number} {s = s} e at h) = deliver_grows w number s at h

  finishes_grows : (w : World) (number : ℕ) {reply : Reply} {w' : World} → Finishes w number reply w' → Grows w w'
  finishes_grows w number {w' = w'} (given_up {between = v} first second) =
      then_ w v w' (step_grows w first) (step_grows v second)
  finishes_grows w number (not_saved is_not is_fed step) = step_grows w step
  finishes_grows w number {w' = w'} (saved {between = v} first second) =
      then_ w v w' (step_grows w first) (step_grows v second)

  completes_grows : (w : World) {event : Event} {reply : Reply} {w' : World} → Completes w event reply w' → Grows w w'
  completes_grows w (at_once none step) = step_grows w step
  completes_grows w {w' = w'} (in_steps {between = v} some step rest) =
      then_ w v w' (step_grows w step) (finishes_grows v _ rest)

  joins_grows : (w : World) (number : ℕ) (k : Kept) {reply : Reply} {w' : World} → Out number
      → Joins w number k reply w' → Grows w w'
  joins_grows w number k out (Joins.there at) = same w
  joins_grows w number k out (Joins.not_opened none h) = same w
  joins_grows w number k out (Joins.clash none is left least) = same w
  joins_grows w number k out (Joins.impostor none is left clash least) = same w
  joins_grows w number k out (Joins.joins none is left names clash stray) = joins_out w number k out

  module _ (openings : Openings) (out : (number : ℕ) (k : Kept) → openings.finds number k → Out number) where
    enters_grows : (w : World) (number : ℕ) {result : Result (Unit {0}) Fault} {w' : World}
        → Enters openings w number result w' → Grows w w'
    enters_grows w number (is_there at) = same w
    enters_grows w number (joins {k} none found step) = joins_grows w number k (out number k found) step
    enters_grows w number (is_refused none why) = same w

    once_grows : (w : World) (number : ℕ) (does : World → Said → World → Type 0) {answer : Said} {w' : World}
        → ((v : World) (answer : Said) (v' : World) → does v answer v' → Grows v v')
        → OnceOpen openings w number does answer w' → Grows w w'
    once_grows w number does each (shut entered) = enters_grows w number entered
    once_grows w number does {answer} {w'} each (opened {between = v} entered done) =
        then_ w v w' (enters_grows w number entered) (each v answer w' done)

    delivers_grows : (w : World) (number packet : ℕ) {answer : Said} {w' : World}
        → Delivers openings w number packet answer w' → Grows w w'
    delivers_grows w number packet (calls.not_sent none) = same w
    delivers_grows w number packet (calls.comes there once) =
        once_grows w number _ (λ v answer v' h. completes_grows v h.2) once

    takes_grows : (w : World) (number packet : ℕ) {answer : Said} {w' : World}
        → BeginsToTake openings w number packet answer w' → Grows w w'
    takes_grows w number packet (calls.not_sent none) = same w
    takes_grows w number packet (calls.no_ops there none) = same w
    takes_grows w number packet (calls.comes there some once) =
        once_grows w number _ (λ v answer v' h. step_grows v h.2) once

    tells_grows : (number : ℕ) (w : World) (answer : Said) (w' : World) → Tells w number answer w' → Grows w w'
    tells_grows number w answer w' (calls.running at runs) = same w
    tells_grows number w answer w' (calls.stopped at why) = same w

    unites_grows : (first second : ℕ) (w : World) (answer : Said) (w' : World) → Unites w first second answer w'
        → Grows w w'
    unites_grows first second w answer w' (calls.running at there runs too) = same w
    unites_grows first second w answer w' (calls.no_room at there runs too some) = same w
    unites_grows first second w answer w' (calls.stopped which at why) = same w

    checks_grows : (number : ℕ) (bytes : List ℕ) (w : World) (answer : Said) (w' : World)
        → ChecksAt w number bytes answer w' → Grows w w'
    checks_grows number bytes w answer w' (calls.no_packet fault) = same w
    checks_grows number bytes w answer w' (calls.no_room head some) = same w
    checks_grows number bytes w answer w' (calls.tells at is told) = same w
    checks_grows number bytes w answer w' (calls.refuses at is why) = same w

    asked_grows : (w : World) (number : ℕ) (event : Event) {answer : Said} {w' : World}
        → OnceOpen openings w number (λ v. Says replied (Completes v event)) answer w' → Grows w w'
    asked_grows w number event once = once_grows w number _ (λ v answer v' h. completes_grows v h.2) once

    begun_grows : (w : World) (number : ℕ) (event : Event) {answer : Said} {w' : World}
        → OnceOpen openings w number (λ v. Says replied (Step v event)) answer w' → Grows w w'
    begun_grows w number event once = once_grows w number _ (λ v answer v' h. step_grows v h.2) once

    node_grows : (w w' : World) (number : ℕ) (r : Request) (answer : Said) → AsksNode openings w number r answer w'
        → Grows w w'
    node_grows w w' number (request.Job job) answer h = asked_grows w _ _ h
    node_grows w w' number (request.Begin pid order) answer h = begun_grows w _ _ h
    node_grows w w' number (request.Deliver packet) answer h = delivers_grows w number packet h
    node_grows w w' number (request.BeginDeliver packet) answer h = takes_grows w number packet h
    node_grows w w' number request.Tell answer h = asked_grows w _ _ h
    node_grows w w' number request.Save answer h = asked_grows w _ _ h
    node_grows w w' number request.Publish answer h = asked_grows w _ _ h
    node_grows w w' number request.Cancel answer h = asked_grows w _ _ h
    node_grows w w' number (request.Restart kept) answer h = asked_grows w _ _ h
    node_grows w w' number request.Text answer h = once_grows w number _ (tells_grows number) h
    node_grows w w' number (request.Check bytes) answer h = once_grows w number _ (checks_grows number bytes) h

    line_grows : (old : Session) (line : Line) (answer : Answer) (w' : World)
        → AnswersLine openings old line answer w' → Grows old.world w'
    line_grows old line answer w' (asks {number} {request = r} {what} h) = node_grows old.world w' number r what h
    line_grows old line answer w' (unites {first} {second} h) =
        once_grows old.world first _ (λ v answer v'. once_grows v second _ (unites_grows first second)) h
    line_grows old line answer w' (counts h) = same_as old.world w' h.1
    line_grows old line answer w' lists = same old.world

    turn_grows : (old : Session) (bytes : List ℕ) (answer : Answer) (new : Session)
        → Turn openings old bytes answer new → Grows old.world new.world
    turn_grows old bytes answer new (inl h) = by_reading h.reading h.answered
      where
        by_reading : (r : Reading) → AnswersReading openings old r answer new → Grows old.world new.world
        by_reading reading.Quiet h = same_as old.world new.world (ap (λ (s : Session). s.world) h.1)
        by_reading reading.Bad h = same_as old.world new.world (ap (λ (s : Session). s.world) h.1)
        by_reading (reading.Means line alias) h = line_grows old line answer new.world h.answered
    turn_grows old bytes answer new (inr h) =
        same_as old.world new.world (ap (λ (s : Session). s.world) h.unchanged)

    run_grows : (old : Session) (lines : List (List ℕ)) (answers : List Answer) (new : Session)
        → Run openings old lines answers new → Grows old.world new.world
    run_grows old [] [] new h = same_as old.world new.world (ap (λ (s : Session). s.world) h)
    run_grows old [] (answer ∷ answers) new h = absurd h
    run_grows old (line ∷ lines) [] new h = absurd h
    run_grows old (line ∷ lines) (answer ∷ answers) new h =
        then_ old.world (h.0).world new.world (turn_grows old line answer h.0 h.1)
        (run_grows h.0 lines answers new h.2)

    -- so from the world without a node on
    pub served_out : (lines : List (List ℕ)) (answers : List Answer) (new : Session)
        → Run openings begun lines answers new → (number : ℕ) (s : KeptNode) → IsAt new.world number s → Out number
    served_out lines answers new run number s at =
        elim ((run_grows begun lines answers new run).each number s at) [
          | inl before ↦ absurd (none_some (map.get-empty nat_cmp number) before.at)
          | inr out ↦ out
        ]
