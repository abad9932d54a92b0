-- Nothing is pending at a node of whose lines none may leave something so.
use Rattle.std.proofs.Common.{◌≡◌, ◌≢◌, ◌⊎◌, ◌∙◌, ℕ, Bool, false, refl, sym, ap, subst, arith}
use Rattle.std.proofs.Common.{List, [], Option, None, Some, inl, inr, Result, Ok, Err}
use Rattle.std.specs.FinMap as map
use Rattle.std.specs.Ordering.{nat_cmp}
use Rattle.fl_bench.specs.laws.Puts.{none_some, same_found}
use Rattle.fl_jobs.specs.declared.answer.Reply.{Reply as JobReply}
use Rattle.fl_jobs.specs.declared.job.Job.{Job}
use Rattle.fl_labels.specs.SetBy as set
use Rattle.fl_labels.specs.SetBy.{SetBy}
use Rattle.fl_labels.specs.declared.name.Name.{Name}
use Rattle.fl_message.specs.declared.message.Data.{Data}
use Rattle.fl_ops.specs.OpOrder.{op_cmp}
use Rattle.fl_ops.specs.declared.op.Op.{Op}
use Rattle.fl_opset.specs.declared.intervals.Intervals.{Intervals}
use Rattle.fl_round_laws.specs.Round.{IsIdle}
use Rattle.fl_round_laws.specs.laws.Items.{stays_at}
use Rattle.fl_script.specs.declared.line.Line.{Line}
use Rattle.fl_script.specs.declared.line.Line.TheVariants as line
use Rattle.fl_script.specs.declared.reading.Reading.{Reading}
use Rattle.fl_script.specs.declared.reading.Reading.TheVariants as reading
use Rattle.fl_script.specs.declared.request.Request.{Request}
use Rattle.fl_script.specs.declared.request.Request.TheVariants as request
use Rattle.fl_script.specs.Reading.{IsReading}
use Rattle.fl_store.specs.Kept.{Kept, raised}
use Rattle.fl_system.specs.declared.answer.Answer.{Answer as NodeAnswer}
use Rattle.fl_system.specs.declared.answer.Answer.TheVariants as answers
use Rattle.fl_system.specs.declared.answer.Fault.{Fault}
use Rattle.fl_system.specs.declared.event.Event.{Event}
use Rattle.fl_system.specs.declared.event.Event.TheVariants as event
use Rattle.fl_system.specs.declared.reply.Reply.{Reply}
use Rattle.fl_system.specs.declared.reply.Reply.TheVariants as replies
use Rattle.fl_system.specs.declared.sent.Sent.{Sent}
use Rattle.fl_system.specs.declared.state.Batch.{Batch}
use Rattle.fl_system.specs.declared.state.Pending.TheVariants.{Nothing, Unsaved, Due}
use Rattle.fl_system.specs.declared.state.State.{State}
use Rattle.fl_system.specs.declared.state.State.TheVariants.{Running, Stopped}
use Rattle.fl_system.specs.Arrives.{Arrives}
use Rattle.fl_system.specs.Deliveries.{TellAt, WindowAt, BatchAt, MessageAt, DeliverAt}
use Rattle.fl_system.specs.Jobs.{Jobs}
use Rattle.fl_system.specs.Joins.{Joins, joined}
use Rattle.fl_system.specs.Numbered.{item_at}
use Rattle.fl_system.specs.Openings.{opened as opened_node, Opens, OpensAgain, Restarts, FailsToOpen}
use Rattle.fl_system.specs.Publishes.{Publishes, Cancels}
use Rattle.fl_system.specs.Receives.{Receives}
use Rattle.fl_system.specs.Saves.{Saves}
use Rattle.fl_system.specs.State.{NodeState}
use Rattle.fl_system.specs.Waiting.{NoneUnsaved, NoneDue}
use Rattle.fl_system.specs.World.{World, KeptNode}
use Rattle.fl_system.specs.WorldCalls.{SaveAt, PublishAt, CancelAt, RestartAt}
use Rattle.fl_system.specs.WorldJobs.{JobAt}
use Rattle.fl_system.specs.WorldSteps.{IsAt, Step, node_of}
use Rattle.fl_wire.specs.declared.packet.Packet.{Packet}
use Rattle.fl_wire.specs.declared.packet.Packet.TheVariants as packets
use Rattle.fl_world_laws.specs.laws.Nodes.{Now, is_new, is_old, now, Stays, is_replaced, is_still, stays_there, at_key}
use Rattle.fl_calls.specs.Answer.{Answer as Said, replied}
use Rattle.fl_calls.specs.Calls as calls
use Rattle.fl_calls.specs.Calls.{Says, said_of, Delivers, BeginsToTake, Tells, Unites, ChecksAt}
use Rattle.fl_calls.specs.Completing.{begins, Completes, at_once, in_steps, Finishes, given_up, not_saved, saved}
use Rattle.fl_calls.specs.Entering.{Openings, Enters, is_there, joins, is_refused, OnceOpen, shut, opened}
use Rattle.fl_turns.specs.Answer.{Answer, said}
use Rattle.fl_turns.specs.Exchanging.{MayLeave, Unsettles}
use Rattle.fl_turns.specs.Session.{Session}
use Rattle.fl_turns.specs.Turn.{AsksNode, AnswersLine, asks, unites, counts, lists, AnswersReading, Turn}

-- the node is not there, or nothing is pending at it
abbrev pub IsAtRest : World → ℕ → Type 0
IsAtRest w number = (map.get w.nodes number ≡ None) ⊎ IsIdle w number

-- ---- what a call does to a state

-- where nothing was pending nothing is, unless the result may have left it so
abbrev RestsIn : NodeState → NodeState → Type 0
RestsIn n n' = n.state ≡ Running Nothing → n'.state ≡ Running Nothing

not_unsaved : {P : Type 0} {st : State} {batch : Batch} → st ≡ Running Nothing → st ≡ Running (Unsaved batch) → P
not_unsaved p q = absurd (cc)

not_due : {P : Type 0} {st : State} {batch : Batch} → st ≡ Running Nothing → st ≡ Running (Due batch) → P
not_due p q = absurd (cc)

not_stopped : {P : Type 0} {st : State} {doubt : Option Batch} → st ≡ Running Nothing → st ≡ Stopped doubt → P
not_stopped p q = absurd (cc)

jobs_rest : {n : NodeState} {desk upto : ℕ} {job : Job} {answer : NodeAnswer} {n' : NodeState}
    → Jobs n desk upto job (Ok answer) n' → ((name : Name) → ¬ (answer ≡ answers.Begun name)) → RestsIn n n'
jobs_rest (Jobs.replied look d) not is = is
jobs_rest (Jobs.sent look d) not is = is
jobs_rest (Jobs.begun {name = name} look d begun) not is = absurd (not name refl)

jobs_refused : {n : NodeState} {desk upto : ℕ} {job : Job} {fault : Fault} {n' : NodeState}
    → Jobs n desk upto job (Err fault) n' → RestsIn n n'
jobs_refused (Jobs.stopped why) is = is
jobs_refused (Jobs.no_room look less left) is = is
jobs_refused (Jobs.refused look d) is = is
jobs_refused (Jobs.not_begun look d begun) is = is

-- a refusal of a node at which nothing is pending that leaves it stopped, or with something due
none_unsaved : (st : State) (fault : Fault) → NoneUnsaved st fault → MayLeave fault
none_unsaved (Running Nothing) fault is = subst MayLeave (sym is) tt
none_unsaved (Running (Unsaved batch)) fault is = absurd is
none_unsaved (Running (Due batch)) fault is = subst MayLeave (sym is) tt
none_unsaved (Stopped doubt) fault is = subst MayLeave (sym is) tt

none_due : (st : State) (fault : Fault) → NoneDue st fault → MayLeave fault
none_due (Running Nothing) fault is = subst MayLeave (sym is) tt
none_due (Running (Unsaved batch)) fault is = subst MayLeave (sym is) tt
none_due (Running (Due batch)) fault is = absurd is
none_due (Stopped doubt) fault is = subst MayLeave (sym is) tt

saves_leave : {n : NodeState} {k : Kept} {fault : Fault} {n' : NodeState} {k' : Kept}
    → Saves n k (Err fault) n' k' → MayLeave fault
saves_leave (Saves.no_room is) = tt
saves_leave (Saves.failed is left) = tt
saves_leave {n} {fault = fault} (Saves.none why) = none_unsaved n.state fault why

publishes_leave : {n : NodeState} {fault : Fault} {n' : NodeState} → Publishes n (Err fault) n' → MayLeave fault
publishes_leave (Publishes.no_room is) = tt
publishes_leave {n} {fault} (Publishes.none why) = none_due n.state fault why

cancels_leave : {n : NodeState} {fault : Fault} {n' : NodeState} → Cancels n (Err fault) n' → MayLeave fault
cancels_leave {n} {fault} (Cancels.none why) = none_unsaved n.state fault why

fails_leave : {own : Kept → Type 0} {k : Kept} {fault : Fault} → FailsToOpen own k fault → MayLeave fault
fails_leave FailsToOpen.no_room = tt
fails_leave FailsToOpen.keeper_failed = tt
fails_leave (FailsToOpen.other not) = tt

again_leaves : {n : NodeState} {doubt : Option Batch} {k : Kept} {fault : Fault} {n' : NodeState} {k' : Kept}
    → OpensAgain n doubt k (Err fault) n' k' → MayLeave fault
again_leaves (OpensAgain.stays (Opens.spent own is)) = tt
again_leaves (OpensAgain.stays (Opens.refused fails left)) = fails_leave fails

restarts_leave : {n : NodeState} {k : Kept} {keeps : Bool} {fault : Fault} {n' : NodeState} {k' : Kept}
    → Restarts n k keeps (Err fault) n' k' → MayLeave fault
restarts_leave (Restarts.not_saved kept is f) = saves_leave f
restarts_leave (Restarts.saved kept is again) = again_leaves again
restarts_leave (Restarts.lost lost is again) = again_leaves again
restarts_leave (Restarts.idle is again) = again_leaves again
restarts_leave (Restarts.due is again) = again_leaves again
restarts_leave (Restarts.stopped is again) = again_leaves again

again_opens : {n : NodeState} {doubt : Option Batch} {k : Kept} {boot : ℕ} {n' : NodeState} {k' : Kept}
    → OpensAgain n doubt k (Ok boot) n' k' → n'.state ≡ Running Nothing
again_opens (OpensAgain.opens (Opens.opens own left)) = refl

restarts_open : {n : NodeState} {k : Kept} {keeps : Bool} {boot : ℕ} {n' : NodeState} {k' : Kept}
    → Restarts n k keeps (Ok boot) n' k' → n'.state ≡ Running Nothing
restarts_open (Restarts.saved kept is again) = again_opens again
restarts_open (Restarts.lost lost is again) = again_opens again
restarts_open (Restarts.idle is again) = again_opens again
restarts_open (Restarts.due is again) = again_opens again
restarts_open (Restarts.stopped is again) = again_opens again

publishes_rest : {n : NodeState} {count : ℕ} {n' : NodeState} → Publishes n (Ok count) n'
    → n'.state ≡ Running Nothing
publishes_rest (Publishes.published is) = refl

receives_rest : {n : NodeState} {ops : SetBy op_cmp} {fault : Fault} {n' : NodeState}
    → Receives n ops (Err fault) n' → RestsIn n n'
receives_rest (Receives.stopped why) is = is
receives_rest (Receives.no_room runs some) is = is
receives_rest (Receives.impostor runs least fault) is = is
receives_rest (Receives.clash runs least fault) is = is
receives_rest (Receives.taken op runs can there lacks why) is = is

receives_none : {n : NodeState} {ops : SetBy op_cmp} {result : Result ℕ Fault} {n' : NodeState}
    → Receives n ops result n' → result ≡ Ok 0 → RestsIn n n'
receives_none (Receives.stopped why) none is = is
receives_none (Receives.no_room runs some) none is = is
receives_none (Receives.impostor runs least fault) none is = is
receives_none (Receives.clash runs least fault) none is = is
receives_none (Receives.nothing_new runs can all) none is = is
receives_none (Receives.taken op runs can there lacks why) none is = is
receives_none (Receives.receives {new = new} idle can lacks some) none is =
    let empty : set.len new ≡ 0 = cc in absurd (omega (arith, empty, some))

arrives_rest : {n : NodeState} {d : Data} {result : Result JobReply Fault} {n' : NodeState}
    → Arrives n d result n' → RestsIn n n'
arrives_rest (Arrives.stopped why) is = is
arrives_rest (Arrives.refused at) is = is
arrives_rest (Arrives.arrives at) is = is

-- ---- what a step does to its node

-- The nodes stay; or another state of the node of this number is in the place of its own, and where
-- nothing was pending nothing is, unless the reply may leave it so.
data Puts (w : World) (number : ℕ) (reply : Reply) (w' : World) : Type 0 where
  unmoved : w'.nodes ≡ w.nodes → Puts w number reply w'
  moved : (s new : KeptNode) → IsAt w number s → ((Unsettles reply → ⊥) → RestsIn s.node new.node)
      → w'.nodes ≡ map.insert w.nodes number new → Puts w number reply w'

module _ {w : World} {number : ℕ} {s : KeptNode} (at : IsAt w number s) where
  job_puts : {desk upto : ℕ} {job : Job} {reply : Reply} {w' : World} → JobAt w number s desk upto job reply w'
      → Puts w number reply w'
  job_puts (JobAt.refused {n = n} does) =
      moved s (record { node = n; kept = s.kept }) at (λ calm. jobs_refused does) refl
  job_puts (JobAt.replied {n = n} does) =
      moved s (record { node = n; kept = s.kept }) at (λ calm. jobs_rest does (λ name is. absurd (cc))) refl
  job_puts (JobAt.begun {n = n} does) =
      moved s (record { node = n; kept = s.kept }) at (λ calm. absurd (calm tt)) refl
  job_puts (JobAt.sends {n = n} does) =
      moved s (record { node = n; kept = s.kept }) at (λ calm. jobs_rest does (λ name is. absurd (cc))) refl
  job_puts (JobAt.no_room look is noted) = moved s _ at (λ calm is. is) refl

  save_puts : {reply : Reply} {w' : World} → SaveAt w number s reply w' → Puts w number reply w'
  save_puts (SaveAt.saved does) = moved s _ at (λ calm. absurd (calm tt)) refl
  save_puts (SaveAt.refused does) = moved s _ at (λ calm. absurd (calm (saves_leave does))) refl

  publish_puts : {reply : Reply} {w' : World} → PublishAt w number s reply w' → Puts w number reply w'
  publish_puts (PublishAt.ordered due does) = moved s _ at (λ calm is. publishes_rest does) refl
  publish_puts (PublishAt.received due does) = moved s _ at (λ calm is. publishes_rest does) refl
  publish_puts (PublishAt.refused does) = moved s _ at (λ calm. absurd (calm (publishes_leave does))) refl

  cancel_puts : {reply : Reply} {w' : World} → CancelAt w number s reply w' → Puts w number reply w'
  cancel_puts (CancelAt.given_up does) = moved s _ at (λ calm. absurd (calm tt)) refl
  cancel_puts (CancelAt.refused does) = moved s _ at (λ calm. absurd (calm (cancels_leave does))) refl

  restart_puts : {keeps : Bool} {reply : Reply} {w' : World} → RestartAt w number s keeps reply w'
      → Puts w number reply w'
  restart_puts (RestartAt.booted does) = moved s _ at (λ calm is. restarts_open does) refl
  restart_puts (RestartAt.refused does) = moved s _ at (λ calm. absurd (calm (restarts_leave does))) refl

  tell_puts : {reply : Reply} {w' : World} → TellAt w number s reply w' → Puts w number reply w'
  tell_puts (TellAt.stopped why) = unmoved refl
  tell_puts (TellAt.no_room runs) = unmoved refl
  tell_puts (TellAt.tells runs told) = unmoved refl

  window_puts : {window : Intervals} {reply : Reply} {w' : World} → WindowAt w number s window reply w'
      → Puts w number reply w'
  window_puts (WindowAt.stopped why) = unmoved refl
  window_puts (WindowAt.no_room runs some) = unmoved refl
  window_puts (WindowAt.answers runs told) = unmoved refl

  batch_puts : {ops : List Op} {reply : Reply} {w' : World} → BatchAt w number s ops reply w'
      → Puts w number reply w'
  batch_puts (BatchAt.nothing_new does) = moved s _ at (λ calm. receives_none does refl) refl
  batch_puts (BatchAt.takes does some) = moved s _ at (λ calm. absurd (calm tt)) refl
  batch_puts (BatchAt.refused does) = moved s _ at (λ calm. receives_rest does) refl

  -- of a message whatever the reply is
  message_puts : {sent : Sent} {d : Data} {reply : Reply} {w' : World} → MessageAt w number s sent d reply w'
      → Puts w number (replies.Took 0) w'
  message_puts (MessageAt.arrives does) = moved s _ at (λ calm. arrives_rest does) refl
  message_puts (MessageAt.refused does) = moved s _ at (λ calm. arrives_rest does) refl
  message_puts (MessageAt.no_room runs) = unmoved refl

whatever : {w w' : World} {number : ℕ} (reply : Reply) → Puts w number (replies.Took 0) w'
    → Puts w number reply w'
whatever reply (unmoved same) = unmoved same
whatever reply (moved s new at rests same) = moved s new at (λ calm. rests (λ bad. bad)) same

deliver_puts : {w : World} {number : ℕ} {s : KeptNode} {sent : Sent} {reply : Reply} {w' : World}
    → IsAt w number s → DeliverAt w number s sent reply w' → Puts w number reply w'
deliver_puts at (DeliverAt.have which h) = window_puts at h
deliver_puts at (DeliverAt.ops which h) = batch_puts at h
deliver_puts {reply = reply} at (DeliverAt.message which h) = whatever reply (message_puts at h)

step_puts : {w : World} {e : Event} {reply : Reply} {w' : World} → Step w e reply w'
    → Puts w (node_of e) reply w'
step_puts (Step.no_node none) = unmoved refl
step_puts (Step.no_desk at none) = unmoved refl
step_puts (Step.no_such_job is) = unmoved refl
step_puts (Step.no_packet none) = unmoved refl
step_puts (Step.job at is h) = job_puts at h
step_puts (Step.save at h) = save_puts at h
step_puts (Step.publish at h) = publish_puts at h
step_puts (Step.cancel at h) = cancel_puts at h
step_puts (Step.restart at h) = restart_puts at h
step_puts (Step.tell at h) = tell_puts at h
step_puts (Step.deliver there at h) = deliver_puts at h

message_begins : {w : World} {number : ℕ} {s : KeptNode} {sent : Sent} {d : Data} {reply : Reply} {w' : World}
    → MessageAt w number s sent d reply w' → begins reply ≡ false
message_begins (MessageAt.arrives does) = refl
message_begins (MessageAt.refused does) = refl
message_begins (MessageAt.no_room runs) = refl

-- what was sent stays as a node is opened
joins_packets : {w : World} {k : ℕ} {kept : Kept} {reply : Reply} {w' : World} → Joins w k kept reply w'
    → (packet : ℕ) (sent : Sent) → item_at w.packets packet ≡ Some sent → item_at w'.packets packet ≡ Some sent
joins_packets (Joins.there at) packet sent there = there
joins_packets (Joins.not_opened free h) packet sent there = there
joins_packets (Joins.clash free is left least) packet sent there = there
joins_packets (Joins.impostor free is left none least) packet sent there = there
joins_packets {w} (Joins.joins free is left names no_clash no_stray) packet sent there =
    stays_at w.packets [] packet sent there

enters_packets : {openings : Openings} {w w' : World} {k : ℕ} {result : Result (Unit {0}) Fault}
    → Enters openings w k result w' → (packet : ℕ) (sent : Sent) → item_at w.packets packet ≡ Some sent
    → item_at w'.packets packet ≡ Some sent
enters_packets (is_there at) packet sent there = there
enters_packets (joins none found h) packet sent there = joins_packets h packet sent there
enters_packets (is_refused none why) packet sent there = there

-- ---- at one node

module _ (number : ℕ) where
  there_in : (w' : World) {nodes : map.FinMap nat_cmp KeptNode} (x : Option KeptNode) → w'.nodes ≡ nodes
      → map.get nodes number ≡ x → map.get w'.nodes number ≡ x
  there_in w' x same e =
      subst (λ (l : map.FinMap nat_cmp KeptNode). map.get l number ≡ x) (sym same) e

  same_rest : (w w' : World) → w'.nodes ≡ w.nodes → IsAtRest w number → IsAtRest w' number
  same_rest w w' same (inl none) = inl (there_in w' None same none)
  same_rest w w' same (inr i) =
      inr (record { s = i.s; at = there_in w' (Some i.s) same i.at; idle = i.idle })

  -- nothing is pending, or it is the other node
  abbrev Elsewhere : ℕ → World → Type 0
  Elsewhere k w = (number ≡ k) ⊎ IsAtRest w number

  module _ (w w' : World) (k : ℕ) (new : KeptNode) (same : w'.nodes ≡ map.insert w.nodes k new) where
    none_else : map.get w.nodes number ≡ None → Elsewhere k w'
    none_else none = by_get (map.get w'.nodes number) refl
      where
        by_get : (x : Option KeptNode) → map.get w'.nodes number ≡ x → Elsewhere k w'
        by_get None e = inr (inl e)
        by_get (Some x) e = by_now (now w.nodes k new number x
            (subst (λ (l : map.FinMap nat_cmp KeptNode). map.get l number ≡ Some x) same e))
          where
            by_now : Now w.nodes k new number x → Elsewhere k w'
            by_now (is_new is new_is) = inl is
            by_now (is_old other was) = absurd (none_some none was)

    idle_else : IsIdle w number → Elsewhere k w'
    idle_else i = by_stay (stays_there w.nodes k new number i.s i.at)
      where
        by_stay : Stays w.nodes k new number i.s → Elsewhere k w'
        by_stay (is_replaced is) = inl is
        by_stay (is_still stands) =
            inr (inr (record { s = i.s; at = there_in w' (Some i.s) same stands; idle = i.idle }))

    rest_else : IsAtRest w number → Elsewhere k w'
    rest_else (inl none) = none_else none
    rest_else (inr i) = idle_else i

    put_rests : number ≡ k → new.node.state ≡ Running Nothing → IsAtRest w' number
    put_rests is idle =
        inr (record {
          s = new;
          at = there_in w' (Some new) same
              (subst (λ j. map.get (map.insert w.nodes k new) j ≡ Some new) (sym is) (at_key w.nodes k new));
          idle = idle;
        })

  puts_else : {w w' : World} {k : ℕ} {reply : Reply} → Puts w k reply w' → Elsewhere k w → Elsewhere k w'
  puts_else p (inl is) = inl is
  puts_else {w} {w'} (unmoved same) (inr rest) = inr (same_rest w w' same rest)
  puts_else {w} {w'} {k} (moved s new at rests same) (inr rest) = rest_else w w' k new same rest

  puts_rest : {w w' : World} {k : ℕ} {reply : Reply} → Puts w k reply w'
      → (number ≡ k → Unsettles reply → ⊥) → IsAtRest w number → IsAtRest w' number
  puts_rest {w} {w'} (unmoved same) calm rest = same_rest w w' same rest
  puts_rest {w} {w'} {k} (moved s new at rests same) calm rest = elim (rest_else w w' k new same rest) [
    | inr r ↦ r
    | inl is ↦ put_rests w w' k new same is (rests (calm is) (was is rest))
  ]
    where
      was : number ≡ k → IsAtRest w number → s.node.state ≡ Running Nothing
      was is (inl none) = absurd (none_some none (subst (λ j. map.get w.nodes j ≡ Some s) (sym is) at))
      was is (inr i) =
          let one : i.s ≡ s = same_found i.at (subst (λ j. map.get w.nodes j ≡ Some s) (sym is) at) in
          subst (λ (y : KeptNode). y.node.state ≡ Running Nothing) one i.idle

  -- ---- what completes an event

  save_unsettles_at : {w : World} {k : ℕ} {s : KeptNode} {reply : Reply} {w' : World} → SaveAt w k s reply w'
      → reply ≢ replies.Done → Unsettles reply
  save_unsettles_at (SaveAt.saved does) is_not = absurd (is_not refl)
  save_unsettles_at (SaveAt.refused does) is_not = saves_leave does

  save_unsettles : {w : World} {k : ℕ} {reply : Reply} {w' : World} → Step w (event.Save k) reply w'
      → reply ≢ replies.Done → Unsettles reply
  save_unsettles (Step.no_node none) is_not = tt
  save_unsettles (Step.save at h) is_not = save_unsettles_at h is_not

  publish_rests_at : {w : World} {k : ℕ} {s : KeptNode} {reply : Reply} {w' : World}
      → PublishAt w k s reply w' → (Unsettles reply → ⊥) → number ≡ k → IsAtRest w' number
  publish_rests_at {w} {k} {s} (PublishAt.ordered {n = n} due does) calm is =
      put_rests w _ k (record { node = n; kept = s.kept }) refl is (publishes_rest does)
  publish_rests_at {w} {k} {s} (PublishAt.received {n = n} due does) calm is =
      put_rests w _ k (record { node = n; kept = s.kept }) refl is (publishes_rest does)
  publish_rests_at (PublishAt.refused does) calm is = absurd (calm (publishes_leave does))

  publish_rests : {w : World} {k : ℕ} {reply : Reply} {w' : World} → Step w (event.Publish k) reply w'
      → (Unsettles reply → ⊥) → number ≡ k → IsAtRest w' number
  publish_rests (Step.no_node none) calm is = absurd (calm tt)
  publish_rests (Step.publish at h) calm is = publish_rests_at h calm is

  finishes_rest : {w w' : World} {k : ℕ} {reply : Reply} → Finishes w k reply w'
      → (number ≡ k → Unsettles reply → ⊥) → Elsewhere k w → IsAtRest w' number
  finishes_rest (given_up first second) calm rest =
      elim (puts_else (step_puts second) (puts_else (step_puts first) rest)) [
        | inr r ↦ r
        | inl is ↦ absurd (calm is tt)
      ]
  finishes_rest (not_saved is_not is_fed step) calm rest = elim (puts_else (step_puts step) rest) [
    | inr r ↦ r
    | inl is ↦ absurd (calm is (save_unsettles step is_not))
  ]
  finishes_rest (saved first second) calm rest =
      elim (puts_else (step_puts second) (puts_else (step_puts first) rest)) [
        | inr r ↦ r
        | inl is ↦ publish_rests second (calm is) is
      ]

  completes_rest : {w w' : World} {e : Event} {reply : Reply} → Completes w e reply w'
      → (number ≡ node_of e → Unsettles reply → ⊥) → IsAtRest w number → IsAtRest w' number
  completes_rest (at_once none step) calm rest = puts_rest (step_puts step) calm rest
  completes_rest (in_steps some step more) calm rest =
      finishes_rest more calm (puts_else (step_puts step) (inr rest))

  -- a message leaves nothing pending, whatever is said of it
  step_of_message : {w w' : World} {packet k : ℕ} {sent : Sent} {d : Data} {reply : Reply}
      → item_at w.packets packet ≡ Some sent → sent.packet ≡ packets.Data d
      → Step w (event.Deliver packet k) reply w' → Puts w k (replies.Took 0) w' × (begins reply ≡ false)
  step_of_message there of (Step.no_node none) = (unmoved refl, refl)
  step_of_message there of (Step.no_packet none) = (unmoved refl, refl)
  step_of_message {d = d} there of (Step.deliver {sent = x} e at (DeliverAt.have which h)) =
      let is = ap (λ (y : Sent). y.packet) (same_found e there) in absurd (cc (is, of, which))
  step_of_message there of (Step.deliver {sent = x} e at (DeliverAt.ops (inl which) h)) =
      let is = ap (λ (y : Sent). y.packet) (same_found e there) in absurd (cc (is, of, which))
  step_of_message there of (Step.deliver {sent = x} e at (DeliverAt.ops (inr which) h)) =
      let is = ap (λ (y : Sent). y.packet) (same_found e there) in absurd (cc (is, of, which))
  step_of_message there of (Step.deliver e at (DeliverAt.message which h)) =
      (message_puts at h, message_begins h)

  message_rests : {w w' : World} {packet k : ℕ} {sent : Sent} {d : Data} {reply : Reply}
      → item_at w.packets packet ≡ Some sent → sent.packet ≡ packets.Data d
      → Completes w (event.Deliver packet k) reply w' → IsAtRest w number → IsAtRest w' number
  message_rests there of (at_once none step) rest =
      puts_rest (step_of_message there of step).0 (λ is bad. bad) rest
  message_rests there of (in_steps some step more) rest =
      let none = (step_of_message there of step).1 in absurd (cc (some, none))

  -- ---- lines

  joins_rest : {w : World} {k : ℕ} {kept : Kept} {reply : Reply} {w' : World} → Joins w k kept reply w'
      → IsAtRest w number → IsAtRest w' number
  joins_rest (Joins.there at) rest = rest
  joins_rest (Joins.not_opened free h) rest = rest
  joins_rest (Joins.clash free is left least) rest = rest
  joins_rest (Joins.impostor free is left none least) rest = rest
  joins_rest {w} {k} {kept} (Joins.joins free is left names no_clash no_stray) rest =
      let new : KeptNode = record { node = opened_node w.desks kept; kept = raised kept } in
      elim (rest_else w (joined w k kept) k new refl rest) [
        | inr r ↦ r
        | inl same ↦ put_rests w (joined w k kept) k new refl same refl
      ]

  enters_rest : {openings : Openings} {w w' : World} {k : ℕ} {result : Result (Unit {0}) Fault}
      → Enters openings w k result w' → IsAtRest w number → IsAtRest w' number
  enters_rest (is_there at) rest = rest
  enters_rest (joins none found h) rest = joins_rest h rest
  enters_rest (is_refused none why) rest = rest

  once_rest : {openings : Openings} {w w' : World} {k : ℕ} {does : World → Said → World → Type 0} {what : Said}
      → ((v : World) → IsAtRest v number → does v what w' → IsAtRest w' number)
      → OnceOpen openings w k does what w' → IsAtRest w number → IsAtRest w' number
  once_rest each (shut entered) rest = enters_rest entered rest
  once_rest each (opened {between = v} entered done) rest = each v (enters_rest entered rest) done

  -- what is replied does not unsettle the node
  abbrev IsCalm : ℕ → Said → Type 0
  IsCalm k what = number ≡ k → (reply : Reply) → what ≡ replied reply → Unsettles reply → ⊥

  asked_rests : {openings : Openings} {w w' : World} (k : ℕ) (e : Event) {what : Said} → node_of e ≡ k
      → IsCalm k what → OnceOpen openings w k (λ v. Says replied (Completes v e)) what w' → IsAtRest w number
      → IsAtRest w' number
  asked_rests k e of calm =
      once_rest (λ v rest h. completes_rest h.2 (λ is bad. calm (is ∙ of) h.0 h.1 bad) rest)

  begun_rests : {openings : Openings} {w w' : World} (k : ℕ) (e : Event) {what : Said} → node_of e ≡ k
      → IsCalm k what → OnceOpen openings w k (λ v. Says replied (Step v e)) what w' → IsAtRest w number
      → IsAtRest w' number
  begun_rests k e of calm =
      once_rest (λ v rest h. puts_rest (step_puts h.2) (λ is bad. calm (is ∙ of) h.0 h.1 bad) rest)

  -- the packet comes to the node once that is open
  comes_rest : {v w' : World} {k packet : ℕ} {sent : Sent} {what : Said} (p : Packet) → sent.packet ≡ p
      → item_at v.packets packet ≡ Some sent → IsCalm k what → IsAtRest v number
      → Says (said_of sent.packet) (Completes v (event.Deliver packet k)) what w' → IsAtRest w' number
  comes_rest (packets.Data d) of there calm rest h = message_rests there of h.2 rest
  comes_rest (packets.Full batch) of there calm rest h =
      completes_rest h.2 (λ is bad. calm is h.0 (h.1 ∙ ap (λ q. said_of q h.0) of) bad) rest
  comes_rest (packets.Have window) of there calm rest h =
      completes_rest h.2 (λ is bad. calm is h.0 (h.1 ∙ ap (λ q. said_of q h.0) of) bad) rest
  comes_rest (packets.Delta batch) of there calm rest h =
      completes_rest h.2 (λ is bad. calm is h.0 (h.1 ∙ ap (λ q. said_of q h.0) of) bad) rest

  delivers_rest : {openings : Openings} {w w' : World} {k packet : ℕ} {what : Said} → IsCalm k what
      → Delivers openings w k packet what w' → IsAtRest w number → IsAtRest w' number
  delivers_rest calm (calls.not_sent none) rest = rest
  delivers_rest calm (calls.comes there (shut entered)) rest = enters_rest entered rest
  delivers_rest {packet = packet} calm (calls.comes {sent} there (opened entered done)) rest =
      comes_rest sent.packet refl (enters_packets entered packet sent there) calm (enters_rest entered rest) done

  takes_rest : {openings : Openings} {w w' : World} {k packet : ℕ} {what : Said} → IsCalm k what
      → BeginsToTake openings w k packet what w' → IsAtRest w number → IsAtRest w' number
  takes_rest calm (calls.not_sent none) rest = rest
  takes_rest calm (calls.no_ops there none) rest = rest
  takes_rest {k = k} {packet} calm (calls.comes there some once) rest =
      begun_rests k (event.Deliver packet k) refl calm once rest

  tells_rest : {w w' : World} {k : ℕ} {what : Said} → Tells w k what w' → IsAtRest w number → IsAtRest w' number
  tells_rest (calls.running at runs) rest = rest
  tells_rest (calls.stopped at why) rest = rest

  unites_rest : {w w' : World} {k other : ℕ} {what : Said} → Unites w k other what w' → IsAtRest w number
      → IsAtRest w' number
  unites_rest (calls.running at there runs too) rest = rest
  unites_rest (calls.no_room at there runs too some) rest = rest
  unites_rest (calls.stopped which at why) rest = rest

  checks_rest : {w w' : World} {k : ℕ} {bytes : List ℕ} {what : Said} → ChecksAt w k bytes what w'
      → IsAtRest w number → IsAtRest w' number
  checks_rest (calls.no_packet fault) rest = rest
  checks_rest (calls.no_room head some) rest = rest
  checks_rest (calls.tells at is told) rest = rest
  checks_rest (calls.refuses at is why) rest = rest

  node_rests : (openings : Openings) (w w' : World) (k : ℕ) (r : Request) (what : Said) → IsCalm k what
      → AsksNode openings w k r what w' → IsAtRest w number → IsAtRest w' number
  node_rests openings w w' k (request.Job job) what calm h = asked_rests k _ refl calm h
  node_rests openings w w' k (request.Begin pid order) what calm h = begun_rests k _ refl calm h
  node_rests openings w w' k (request.Deliver packet) what calm h = delivers_rest calm h
  node_rests openings w w' k (request.BeginDeliver packet) what calm h = takes_rest calm h
  node_rests openings w w' k request.Tell what calm h = asked_rests k _ refl calm h
  node_rests openings w w' k request.Save what calm h = asked_rests k _ refl calm h
  node_rests openings w w' k request.Publish what calm h = asked_rests k _ refl calm h
  node_rests openings w w' k request.Cancel what calm h = asked_rests k _ refl calm h
  node_rests openings w w' k (request.Restart kept) what calm h = asked_rests k _ refl calm h
  node_rests openings w w' k request.Text what calm h = once_rest (λ v rest done. tells_rest done rest) h
  node_rests openings w w' k (request.Check bytes) what calm h =
      once_rest (λ v rest done. checks_rest done rest) h

  -- no line of the node unsettles it
  abbrev IsCalmLine : Session → List ℕ → Answer → Type 0
  IsCalmLine old bytes answer = (r : Request) (alias : Option (List ℕ))
      → IsReading old.aliases bytes (reading.Means (line.Node number r) alias) → (reply : Reply)
      → answer ≡ said (replied reply) → Unsettles reply → ⊥

  line_rests : (openings : Openings) (old : Session) (bytes : List ℕ) (l : Line) (alias : Option (List ℕ))
      (answer : Answer) (w' : World) → IsReading old.aliases bytes (reading.Means l alias)
      → IsCalmLine old bytes answer → AnswersLine openings old l answer w' → IsAtRest old.world number
      → IsAtRest w' number
  line_rests openings old bytes l alias answer w' says calm (asks {number = k} {request = r} {what} h) =
      node_rests openings old.world w' k r what (λ is reply replied_so.
      calm r alias (subst (λ n. IsReading old.aliases bytes (reading.Means (line.Node n r) alias)) (sym is) says)
      reply (ap said replied_so)) h
  line_rests openings old bytes l alias answer w' says calm (unites h) =
      once_rest (λ v rest done. once_rest (λ u again last. unites_rest last again) done rest) h
  line_rests openings old bytes l alias answer w' says calm (counts h) =
      λ rest. subst (λ (w : World). IsAtRest w number) (sym h.1) rest
  line_rests openings old bytes l alias answer w' says calm lists = λ rest. rest

  reading_rests : (openings : Openings) (old : Session) (bytes : List ℕ) (r : Reading) (answer : Answer)
      (new : Session) → IsReading old.aliases bytes r → IsCalmLine old bytes answer
      → AnswersReading openings old r answer new → IsAtRest old.world number → IsAtRest new.world number
  reading_rests openings old bytes reading.Quiet answer new says calm h rest =
      subst (λ (s : Session). IsAtRest s.world number) (sym h.1) rest
  reading_rests openings old bytes reading.Bad answer new says calm h rest =
      subst (λ (s : Session). IsAtRest s.world number) (sym h.1) rest
  reading_rests openings old bytes (reading.Means l alias) answer new says calm h rest =
      line_rests openings old bytes l alias answer new.world says calm h.answered rest

  pub turn_rests : (openings : Openings) (old : Session) (bytes : List ℕ) (answer : Answer) (new : Session)
      → IsCalmLine old bytes answer → Turn openings old bytes answer new → IsAtRest old.world number
      → IsAtRest new.world number
  turn_rests openings old bytes answer new calm (inl h) rest =
      reading_rests openings old bytes h.reading answer new h.says calm h.answered rest
  turn_rests openings old bytes answer new calm (inr h) rest =
      subst (λ (s : Session). IsAtRest s.world number) (sym h.unchanged) rest
