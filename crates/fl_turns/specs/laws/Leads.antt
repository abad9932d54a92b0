-- What each line asks for is a run of worlds, and what is told in it is what the line is answered.
use Rattle.std.proofs.Common.{◌≡◌, ◌⊎◌, ◌∙◌, ℕ, true, refl, sym, ap, subst, List, [], ◌∷◌, ◌++◌, Option, None, Some, inl, inr, Result}
use Rattle.std.proofs.lemmas.List.{append-nil, append_assoc}
use Rattle.std.proofs.lemmas.List.Elements.{All-nil}
use Rattle.fl_ops.specs.declared.op.Op.{Op}
use Rattle.fl_opset.specs.declared.intervals.Intervals.{Intervals}
use Rattle.fl_message.specs.declared.message.Data.{Data}
use Rattle.fl_wire.specs.declared.packet.Packet.{Packet}
use Rattle.fl_wire.specs.declared.packet.Packet.TheVariants as packets
use Rattle.fl_round_laws.specs.Round.{moment, LeavesPending, Occurs, IsSaved, IsTaken}
use Rattle.fl_turns.specs.laws.Wider.{taken_after}
use Rattle.fl_store.specs.Kept.{Kept}
use Rattle.fl_system.specs.declared.answer.Fault.{Fault}
use Rattle.fl_system.specs.declared.event.Event.{Event}
use Rattle.fl_system.specs.declared.event.Event.TheVariants as event
use Rattle.fl_system.specs.declared.reply.Reply.{Reply}
use Rattle.fl_system.specs.declared.reply.Reply.TheVariants as replies
use Rattle.fl_system.specs.declared.sent.Sent.{Sent}
use Rattle.fl_system.specs.Deliveries.{BatchAt, DeliverAt, MessageAt, WindowAt}
use Rattle.fl_system.specs.Runs.{Happens, Comes, Move, Moment, Moves, IsRun, IsReached, end}
use Rattle.fl_system.specs.World.{World, KeptNode, empty_world}
use Rattle.fl_system.specs.WorldCalls.{SaveAt, PublishAt, CancelAt}
use Rattle.fl_system.specs.WorldSteps.{Step}
use Rattle.fl_script.specs.declared.line.Line.{Line}
use Rattle.fl_script.specs.declared.reading.Reading.{Reading}
use Rattle.fl_script.specs.declared.reading.Reading.TheVariants as reading
use Rattle.fl_script.specs.declared.request.Request.{Request}
use Rattle.fl_script.specs.declared.request.Request.TheVariants as request
use Rattle.fl_calls.specs.Answer.{Answer as Said, replied}
use Rattle.fl_calls.specs.Entering.{Openings, Enters, is_there, joins, is_refused, OnceOpen, shut, opened}
use Rattle.fl_calls.specs.Completing.{begins, Finishes, given_up, not_saved, saved, Completes, at_once, in_steps}
use Rattle.fl_calls.specs.Calls as calls
use Rattle.fl_calls.specs.Calls.{Says, said_of, Delivers, BeginsToTake, Tells, Unites, ChecksAt}
use Rattle.fl_turns.specs.Answer.{Answer, silence, said, listed, starved_line}
use Rattle.fl_turns.specs.Leading.{IsPlain, ArePlain, Leads}
use Rattle.fl_turns.specs.Moments.{event_asked, asked_by_line, asked_by, Asks, told, told_at, told_in, told_said, told_by}
use Rattle.fl_turns.specs.Run.{Run}
use Rattle.fl_turns.specs.Session.{Session}
use Rattle.fl_turns.specs.Turn.{AsksNode, AnswersLine, asks, unites, counts, lists, AnswersReading, Turn}

-- ---- runs, one after another

pub runs_on : (w : World) (ms ns : List Moment) → IsRun w ms → IsRun (end w ms) ns → IsRun w (ms ++ ns)
runs_on w [] ns run more = more
runs_on w (m ∷ ms) ns run more = (run.0, runs_on m.after ms ns run.1 more)

pub ends_on : (w : World) (ms ns : List Moment) → end w (ms ++ ns) ≡ end (end w ms) ns
ends_on w [] ns = refl
ends_on w (m ∷ ms) ns = ends_on m.after ms ns

pub plain_on : (ms ns : List Moment) → ArePlain ms → ArePlain ns → ArePlain (ms ++ ns)
plain_on [] ns plain more = more
plain_on (m ∷ ms) ns plain more = (plain.0, plain_on ms ns plain.1 more)

told_on : (ms ns : List Moment) → told_in (ms ++ ns) ≡ told_in ms ++ told_in ns
told_on [] ns = refl
told_on (m ∷ ms) ns =
    ap (λ x. told_at m.move m.reply ++ x) (told_on ms ns)
    ∙ sym (append_assoc (told_at m.move m.reply) (told_in ms) (told_in ns))

pub stays : (w : World) → Leads w w
stays w = record { moments = []; is_run = tt; plain = tt; leads = refl }

pub then_ : (u v w : World) → Leads u v → Leads v w → Leads u w
then_ u v w first second = record {
  moments = first.moments ++ second.moments;
  is_run = runs_on u first.moments second.moments first.is_run
      (subst (λ x. IsRun x second.moments) (sym first.leads) second.is_run);
  plain = plain_on first.moments second.moments first.plain second.plain;
  leads = ends_on u first.moments second.moments ∙ ap (λ x. end x second.moments) first.leads ∙ second.leads;
}

pub is_reached : (w : World) → Leads (empty_world 1) w → IsReached w
is_reached w h = record { desks = 1; moments = h.moments; is_run = h.is_run; leads = h.leads }

-- ---- moments of what is asked for

-- what is asked for happens at the move, or what completes it, or a node comes
pub data IsOwn (asked : Option Event) : Move → Type 0 where
  its : {event : Event} → asked ≡ Some event → IsOwn asked (Happens event)
  saves : {number : ℕ} → IsOwn asked (Happens (event.Save number))
  publishes : {number : ℕ} → IsOwn asked (Happens (event.Publish number))
  cancels : {number : ℕ} → IsOwn asked (Happens (event.Cancel number))
  comes : {number : ℕ} {kept : Kept} → IsOwn asked (Comes number kept)

abbrev pub AreOwn : Option Event → List Moment → Type 0
AreOwn asked [] = Unit {0}
AreOwn asked (m ∷ ms) = IsOwn asked m.move × AreOwn asked ms

own_on : (asked : Option Event) (ms ns : List Moment) → AreOwn asked ms → AreOwn asked ns
    → AreOwn asked (ms ++ ns)
own_on asked [] ns own more = more
own_on asked (m ∷ ms) ns own more = (own.0, own_on asked ms ns own.1 more)

-- ---- runs of which this is told

pub record Does (asked : Option Event) (w w' : World) (what : List (Event × Reply)) : Type 0 where
  pub leads : Leads w w'
  pub tells : told_in leads.moments ≡ what
  pub own : AreOwn asked leads.moments

does_as : (asked : Option Event) (w w' : World) (what other : List (Event × Reply)) → what ≡ other
    → Does asked w w' what → Does asked w w' other
does_as asked w w' what other is h =
    record { leads = h.leads; tells = h.tells ∙ is; own = h.own }

-- nothing happens
nothing : (asked : Option Event) (w : World) → Does asked w w []
unfolding stays
nothing asked w = record { leads = stays w; tells = refl; own = tt }

-- nothing changed
same : (asked : Option Event) (w w' : World) → w' ≡ w → Does asked w w' []
same asked w w' is =
    record {
      leads = record { moments = []; is_run = tt; plain = tt; leads = sym is };
      tells = refl;
      own = tt;
    }

one : (w w' : World) (move : Move) (reply : Reply) → IsPlain move → Moves w move reply w' → Leads w w'
one w w' move reply plain goes = record {
  moments = record { move = move; reply = reply; after = w' } ∷ [];
  is_run = (goes, tt);
  plain = (plain, tt);
  leads = refl;
}

-- nothing is told of the first of two
quiet_then : (asked : Option Event) (u v w : World) (what : List (Event × Reply)) → Does asked u v []
    → Does asked v w what → Does asked u w what
unfolding then_
quiet_then asked u v w what first second = record {
  leads = then_ u v w first.leads second.leads;
  tells = told_on first.leads.moments second.leads.moments
      ∙ ap (λ x. x ++ told_in second.leads.moments) first.tells ∙ second.tells;
  own = own_on asked first.leads.moments second.leads.moments first.own second.own;
}

step_does : (asked : Option Event) (w w' : World) (event : Event) (reply : Reply)
    → IsOwn asked (Happens event) → Step w event reply w' → Does asked w w' (told event reply)
unfolding one
step_does asked w w' event reply own step =
    record {
      leads = one w w' (Happens event) reply tt step;
      tells = append-nil (told event reply);
      own = (own, tt);
    }

pub step_leads : (w w' : World) (event : Event) (reply : Reply) → Step w event reply w' → Leads w w'
step_leads w w' event reply step = one w w' (Happens event) reply tt step

-- ---- replies of which nothing is told

IsQuiet : Reply → Type 0
IsQuiet reply = (event : Event) → told event reply ≡ []

begun_quiet : (reply : Reply) → begins reply ≡ true → IsQuiet reply
unfolding IsQuiet
begun_quiet (replies.Job reply) is event = absurd (cc)
begun_quiet (replies.Sent first count) is event = absurd (cc)
begun_quiet other is event = refl

at_save : (w : World) (number : ℕ) (s : KeptNode) {reply : Reply} {w' : World} → SaveAt w number s reply w' → IsQuiet reply
unfolding IsQuiet
at_save w number s (SaveAt.saved h) event = refl
at_save w number s (SaveAt.refused h) event = refl

at_publish : (w : World) (number : ℕ) (s : KeptNode) {reply : Reply} {w' : World} → PublishAt w number s reply w' → IsQuiet reply
unfolding IsQuiet
at_publish w number s (PublishAt.ordered due h) event = refl
at_publish w number s (PublishAt.received due h) event = refl
at_publish w number s (PublishAt.refused h) event = refl

at_cancel : (w : World) (number : ℕ) (s : KeptNode) {reply : Reply} {w' : World} → CancelAt w number s reply w' → IsQuiet reply
unfolding IsQuiet
at_cancel w number s (CancelAt.given_up h) event = refl
at_cancel w number s (CancelAt.refused h) event = refl

nowhere : IsQuiet replies.NoSuch
unfolding IsQuiet
nowhere event = refl

save_quiet : (w w' : World) (number : ℕ) (reply : Reply) → Step w (event.Save number) reply w' → IsQuiet reply
save_quiet w w' number reply (Step.no_node none) = nowhere
save_quiet w w' number reply (Step.save {s} at h) = at_save w number s h

publish_quiet : (w w' : World) (number : ℕ) (reply : Reply) → Step w (event.Publish number) reply w' → IsQuiet reply
publish_quiet w w' number reply (Step.no_node none) = nowhere
publish_quiet w w' number reply (Step.publish {s} at h) = at_publish w number s h

cancel_quiet : (w w' : World) (number : ℕ) (reply : Reply) → Step w (event.Cancel number) reply w' → IsQuiet reply
cancel_quiet w w' number reply (Step.no_node none) = nowhere
cancel_quiet w w' number reply (Step.cancel {s} at h) = at_cancel w number s h

quiet_step : (asked : Option Event) (w w' : World) (event : Event) (reply : Reply)
    → IsOwn asked (Happens event) → IsQuiet reply → Step w event reply w' → Does asked w w' []
unfolding IsQuiet
quiet_step asked w w' event reply own quiet step =
    does_as asked w w' _ [] (quiet event) (step_does asked w w' event reply own step)

-- ---- what is asked of a world

enters_does : (asked : Option Event) (openings : Openings) (w w' : World) (number : ℕ)
    (result : Result (Unit {0}) Fault) → Enters openings w number result w' → Does asked w w' []
unfolding one
enters_does asked openings w w' number result (is_there at) = nothing asked w
enters_does asked openings w w' number result (joins {k} {boot} none found step) =
    record {
      leads = one w w' (Comes number k) (replies.Booted boot) tt step;
      tells = refl;
      own = (comes, tt);
    }
enters_does asked openings w w' number result (is_refused none why) = nothing asked w

pub enters_leads : (openings : Openings) (w w' : World) (number : ℕ) (result : Result (Unit {0}) Fault)
    → Enters openings w number result w' → Leads w w'
enters_leads openings w w' number result h =
    (enters_does None openings w w' number result h).leads

-- ---- what is answered, and packets that are taken

-- where it is answered that of a packet operations were taken, they were at these moments
abbrev pub TakesAt : Option Event → Said → List Moment → Type 0
TakesAt asked answer ms = (packet number count : ℕ) → asked ≡ Some (event.Deliver packet number)
    → answer ≡ replied (replies.Took count) → IsTaken packet number ms

-- what is asked for is answered so
pub record Acts (asked : Option Event) (answer : Said) (w w' : World) : Type 0 where
  pub does : Does asked w w' (told_said asked answer)
  pub takes : TakesAt asked answer does.leads.moments

took_nothing : (asked : Option Event) (fault : Fault) (ms : List Moment)
    → TakesAt asked (replied (replies.Refused fault)) ms
took_nothing asked fault ms packet number count is other = absurd (cc)

-- no packet is asked for
unasked : (answer : Said) (ms : List Moment) → TakesAt None answer ms
unasked answer ms packet number count is other = absurd (cc)

refused_quiet : (asked : Option Event) (fault : Fault) → told_said asked (replied (replies.Refused fault)) ≡ []
refused_quiet None fault = refl
refused_quiet (Some event) fault = refl

acts_then : (asked : Option Event) (answer : Said) (u v w : World) → Does asked u v []
    → Acts asked answer v w → Acts asked answer u w
unfolding quiet_then then_
acts_then asked answer u v w first second = record {
  does = quiet_then asked u v w (told_said asked answer) first second.does;
  takes = λ packet number count is other. taken_after first.leads.moments packet number
      second.does.leads.moments (second.takes packet number count is other);
}

open_does : (openings : Openings) (w w' : World) (number : ℕ) (asked : Option Event)
    (does : World → Said → World → Type 0) (answer : Said)
    → ((v : World) (answer : Said) (v' : World) → does v answer v' → Acts asked answer v v')
    → OnceOpen openings w number does answer w' → Acts asked answer w w'
unfolding does_as
open_does openings w w' number asked does answer each (shut {fault} entered) = record {
  does = does_as asked w w' [] _ (sym (refused_quiet asked fault))
      (enters_does asked openings w w' number _ entered);
  takes = took_nothing asked fault _;
}
open_does openings w w' number asked does answer each (opened {between = v} entered done) =
    acts_then asked answer w v w' (enters_does asked openings w v number _ entered)
    (each v answer w' done)

finishes_quiet : (w w' : World) (number : ℕ) (reply : Reply) → Finishes w number reply w' → IsQuiet reply
unfolding IsQuiet
finishes_quiet w w' number reply (given_up first second) event = refl
finishes_quiet w w' number reply (not_saved is_not is_fed step) event = save_quiet w w' number reply step event
finishes_quiet w w' number reply (saved {between = v} first second) event =
    publish_quiet v w' number reply second event

finishes_does : (asked : Option Event) (w w' : World) (number : ℕ) (reply : Reply)
    → Finishes w number reply w' → Does asked w w' []
finishes_does asked w w' number reply (given_up {reply = other} {between = v} first second) =
    quiet_then asked w v w' []
    (quiet_step asked w v _ _ saves (save_quiet w v number _ first) first)
    (quiet_step asked v w' _ other cancels (cancel_quiet v w' number other second) second)
finishes_does asked w w' number reply (not_saved is_not is_fed step) =
    quiet_step asked w w' _ reply saves (save_quiet w w' number reply step) step
finishes_does asked w w' number reply (saved {between = v} first second) =
    quiet_then asked w v w' []
    (quiet_step asked w v _ _ saves (save_quiet w v number _ first) first)
    (quiet_step asked v w' _ reply publishes (publish_quiet v w' number reply second) second)

completes_does : (w w' : World) (event : Event) (reply : Reply) → Completes w event reply w'
    → Does (Some event) w w' (told event reply)
unfolding IsQuiet
completes_does w w' event reply (at_once none step) =
    step_does (Some event) w w' event reply (its refl) step
completes_does w w' event reply (in_steps {first} {between = v} some step rest) =
    does_as (Some event) w w' [] _ (sym (finishes_quiet v w' _ reply rest event))
    (quiet_then (Some event) w v w' []
    (quiet_step (Some event) w v event first (its refl) (begun_quiet first some) step)
    (finishes_does (Some event) v w' _ reply rest))

pub completes_leads : (w w' : World) (event : Event) (reply : Reply) → Completes w event reply w' → Leads w w'
completes_leads w w' event reply h = (completes_does w w' event reply h).leads

-- ---- packets that are taken

-- what is answered to a packet that comes
abbrev IsNew : Reply → Type 0
IsNew reply = (count : ℕ) → reply ≡ replies.Took count → count ≡ 0

batch_new : {w : World} {number : ℕ} {s : KeptNode} {ops : List Op} {reply : Reply} {w' : World}
    → BatchAt w number s ops reply w' → IsNew reply
batch_new (BatchAt.nothing_new h) count is = cc
batch_new (BatchAt.takes h some) count is = absurd (cc)
batch_new (BatchAt.refused h) count is = absurd (cc)

window_new : {w : World} {number : ℕ} {s : KeptNode} {window : Intervals} {reply : Reply} {w' : World}
    → WindowAt w number s window reply w' → IsNew reply
window_new (WindowAt.stopped why) count is = absurd (cc)
window_new (WindowAt.no_room runs some) count is = absurd (cc)
window_new (WindowAt.answers runs told) count is = absurd (cc)

message_new : {w : World} {number : ℕ} {s : KeptNode} {sent : Sent} {d : Data} {reply : Reply} {w' : World}
    → MessageAt w number s sent d reply w' → IsNew reply
message_new (MessageAt.arrives h) count is = absurd (cc)
message_new (MessageAt.refused h) count is = absurd (cc)
message_new (MessageAt.no_room runs) count is = absurd (cc)

delivery_new : {w : World} {number : ℕ} {s : KeptNode} {sent : Sent} {reply : Reply} {w' : World}
    → DeliverAt w number s sent reply w' → IsNew reply
delivery_new (DeliverAt.have which h) = window_new h
delivery_new (DeliverAt.ops which h) = batch_new h
delivery_new (DeliverAt.message which h) = message_new h

deliver_new : (w w' : World) (packet number : ℕ) (reply : Reply)
    → Step w (event.Deliver packet number) reply w' → IsNew reply
deliver_new w w' packet number reply (Step.no_node none) count is = absurd (cc)
deliver_new w w' packet number reply (Step.no_packet none) count is = absurd (cc)
deliver_new w w' packet number reply (Step.deliver e at h) count is = delivery_new h count is

-- an event of a packet begins nothing but to take it
batch_takes : {w : World} {number : ℕ} {s : KeptNode} {ops : List Op} {reply : Reply} {w' : World}
    → BatchAt w number s ops reply w' → begins reply ≡ true → (count : ℕ) × (reply ≡ replies.Taking count)
batch_takes (BatchAt.nothing_new h) some = absurd (cc)
batch_takes (BatchAt.takes {count} h more) some = (count, refl)
batch_takes (BatchAt.refused h) some = absurd (cc)

window_takes : {w : World} {number : ℕ} {s : KeptNode} {window : Intervals} {reply : Reply} {w' : World}
    → WindowAt w number s window reply w' → begins reply ≡ true → (count : ℕ) × (reply ≡ replies.Taking count)
window_takes (WindowAt.stopped why) some = absurd (cc)
window_takes (WindowAt.no_room runs lack) some = absurd (cc)
window_takes (WindowAt.answers runs told) some = absurd (cc)

message_takes : {w : World} {number : ℕ} {s : KeptNode} {sent : Sent} {d : Data} {reply : Reply} {w' : World}
    → MessageAt w number s sent d reply w' → begins reply ≡ true → (count : ℕ) × (reply ≡ replies.Taking count)
message_takes (MessageAt.arrives h) some = absurd (cc)
message_takes (MessageAt.refused h) some = absurd (cc)
message_takes (MessageAt.no_room runs) some = absurd (cc)

delivery_takes : {w : World} {number : ℕ} {s : KeptNode} {sent : Sent} {reply : Reply} {w' : World}
    → DeliverAt w number s sent reply w' → begins reply ≡ true → (count : ℕ) × (reply ≡ replies.Taking count)
delivery_takes (DeliverAt.have which h) = window_takes h
delivery_takes (DeliverAt.ops which h) = batch_takes h
delivery_takes (DeliverAt.message which h) = message_takes h

deliver_takes : (w w' : World) (packet number : ℕ) (reply : Reply)
    → Step w (event.Deliver packet number) reply w' → begins reply ≡ true
    → (count : ℕ) × (reply ≡ replies.Taking count)
deliver_takes w w' packet number reply (Step.no_node none) some = absurd (cc)
deliver_takes w w' packet number reply (Step.no_packet none) some = absurd (cc)
deliver_takes w w' packet number reply (Step.deliver e at h) some = delivery_takes h some

-- what was saved is never said to be taken
at_save_took : {w : World} {number : ℕ} {s : KeptNode} {reply : Reply} {w' : World}
    → SaveAt w number s reply w' → (count : ℕ) → ¬ (reply ≡ replies.Took count)
at_save_took (SaveAt.saved h) count is = absurd (cc)
at_save_took (SaveAt.refused h) count is = absurd (cc)

save_took : (w w' : World) (number : ℕ) (reply : Reply) → Step w (event.Save number) reply w'
    → (count : ℕ) → ¬ (reply ≡ replies.Took count)
save_took w w' number reply (Step.no_node none) count is = absurd (cc)
save_took w w' number reply (Step.save at h) count is = at_save_took h count is

first_occurs : (w : World) (e : Event) (r : Reply) (reply : Reply) (ms : List Moment) → reply ≡ r
    → Occurs e r (moment e reply w ∷ ms)
first_occurs w e r reply ms is = record {
  earlier = [];
  after = w;
  later = ms;
  moments_are = ap (λ x. moment e x w ∷ ms) is;
}

module _ (packet number : ℕ) where
  abbrev delivery : Event
  delivery = event.Deliver packet number

  -- a packet is taken where what completes that is answered so
  finishes_saved : (w w' : World) (reply : Reply) (count : ℕ) → reply ≡ replies.Took count
      → (h : Finishes w number reply w')
      → IsSaved number (finishes_does (Some delivery) w w' number reply h).leads.moments
  unfolding finishes_does quiet_then quiet_step does_as step_does one then_ first_occurs
  finishes_saved w w' reply count is (given_up first second) = absurd (cc)
  finishes_saved w w' reply count is (not_saved is_not is_fed step) =
      absurd (save_took w w' number reply step count is)
  finishes_saved w w' reply count is (saved {between = v} first second) = record {
    saving = first_occurs v (event.Save number) replies.Done replies.Done _ refl;
    left = All-nil (λ (m : Moment). LeavesPending number m.move);
  }

  completes_taken : (w w' : World) (reply : Reply) (count : ℕ) → reply ≡ replies.Took count
      → (h : Completes w delivery reply w')
      → IsTaken packet number (completes_does w w' delivery reply h).leads.moments
  unfolding completes_does quiet_then quiet_step does_as step_does one then_ first_occurs
  completes_taken w w' reply count is (at_once none step) =
      let zero_is : count ≡ 0 = deliver_new w w' packet number reply step count is in
      IsTaken.nothing_new (first_occurs w' delivery (replies.Took 0) reply []
      (is ∙ ap replies.Took zero_is))
  completes_taken w w' reply count is (in_steps {first} {between = v} some step rest) =
      let takes = deliver_takes w v packet number first step some in
      IsTaken.takes
      (first_occurs v delivery (replies.Taking takes.0) first _ takes.1)
      (finishes_saved v w' reply count is rest)

completes_takes : (w w' : World) (e : Event) (reply : Reply) (h : Completes w e reply w')
    → (packet number count : ℕ) → Some e ≡ Some (event.Deliver packet number)
    → reply ≡ replies.Took count → IsTaken packet number (completes_does w w' e reply h).leads.moments
completes_takes w w' (event.Deliver other place) reply h packet number count is took =
    let taken = completes_taken other place w w' reply count took h in
    let ms = (completes_does w w' (event.Deliver other place) reply h).leads.moments in
    let packet_is : other ≡ packet = cc in
    let number_is : place ≡ number = cc in
    subst (λ n. IsTaken packet n ms) number_is
    (subst (λ p. IsTaken p place ms) packet_is taken)
completes_takes w w' (event.Job place desk upto job) reply h packet number count is took = absurd (cc)
completes_takes w w' (event.Save place) reply h packet number count is took = absurd (cc)
completes_takes w w' (event.Publish place) reply h packet number count is took = absurd (cc)
completes_takes w w' (event.Cancel place) reply h packet number count is took = absurd (cc)
completes_takes w w' (event.Restart place keeps) reply h packet number count is took = absurd (cc)
completes_takes w w' (event.Tell place) reply h packet number count is took = absurd (cc)

step_takes : (w w' : World) (e : Event) (reply : Reply) (h : Step w e reply w')
    → (packet number count : ℕ) → Some e ≡ Some (event.Deliver packet number)
    → reply ≡ replies.Took count
    → IsTaken packet number (step_does (Some e) w w' e reply (its refl) h).leads.moments
unfolding step_does one
step_takes w w' (event.Deliver other place) reply h packet number count is took =
    let zero_is : count ≡ 0 = deliver_new w w' other place reply h count took in
    let ms = moment (event.Deliver other place) reply w' ∷ [] in
    let taken : IsTaken other place ms =
    IsTaken.nothing_new (first_occurs w' (event.Deliver other place) (replies.Took 0) reply []
    (took ∙ ap replies.Took zero_is)) in
    let packet_is : other ≡ packet = cc in
    let number_is : place ≡ number = cc in
    subst (λ n. IsTaken packet n ms) number_is
    (subst (λ p. IsTaken p place ms) packet_is taken)
step_takes w w' (event.Job place desk upto job) reply h packet number count is took = absurd (cc)
step_takes w w' (event.Save place) reply h packet number count is took = absurd (cc)
step_takes w w' (event.Publish place) reply h packet number count is took = absurd (cc)
step_takes w w' (event.Cancel place) reply h packet number count is took = absurd (cc)
step_takes w w' (event.Restart place keeps) reply h packet number count is took = absurd (cc)
step_takes w w' (event.Tell place) reply h packet number count is took = absurd (cc)

-- ---- what is said

-- what is said tells what was replied
IsSaying : (Reply → Said) → Type 0
IsSaying says = (event : Event) (reply : Reply) → told event reply ≡ told_said (Some event) (says reply)

plainly : IsSaying replied
unfolding IsSaying
plainly event reply = refl

of_packet : (packet : Packet) → IsSaying (said_of packet)
unfolding IsSaying
of_packet (packets.Data d) event (replies.Refused fault) = refl
of_packet packet event reply = refl

-- and is said to be taken where it is
IsSayingTaken : (Reply → Said) → Type 0
IsSayingTaken says = (reply : Reply) (count : ℕ) → says reply ≡ replied (replies.Took count)
    → reply ≡ replies.Took count

taken_plainly : IsSayingTaken replied
unfolding IsSayingTaken
taken_plainly reply count is = cc

taken_of_packet : (packet : Packet) → IsSayingTaken (said_of packet)
unfolding IsSayingTaken
taken_of_packet (packets.Data d) (replies.Refused fault) count is = absurd (cc)
taken_of_packet packet reply count is = cc

says_completes : (says : Reply → Said) (event : Event) → IsSaying says → IsSayingTaken says → (v : World)
    (answer : Said) (v' : World) → Says says (Completes v event) answer v' → Acts (Some event) answer v v'
unfolding IsSaying IsSayingTaken does_as
says_completes says event so taken v answer v' h = record {
  does = does_as (Some event) v v' _ _ (so event h.0 ∙ ap (told_said (Some event)) (sym h.1))
      (completes_does v v' event h.0 h.2);
  takes = λ packet number count is other.
      completes_takes v v' event h.0 h.2 packet number count is
      (taken h.0 count (sym h.1 ∙ other));
}

says_step : (event : Event) (v : World) (answer : Said) (v' : World)
    → Says replied (Step v event) answer v' → Acts (Some event) answer v v'
unfolding does_as IsSayingTaken
says_step event v answer v' h = record {
  does = does_as (Some event) v v' _ _ (ap (told_said (Some event)) (sym h.1))
      (step_does (Some event) v v' event h.0 (its refl) h.2);
  takes = λ packet number count is other.
      step_takes v v' event h.0 h.2 packet number count is
      (taken_plainly h.0 count (sym h.1 ∙ other));
}

event_does : (openings : Openings) (w w' : World) (number : ℕ) (event : Event) (answer : Said)
    → OnceOpen openings w number (λ v. Says replied (Completes v event)) answer w'
    → Acts (Some event) answer w w'
event_does openings w w' number event answer =
    open_does openings w w' number (Some event) _ answer
    (says_completes replied event plainly taken_plainly)

begun_does : (openings : Openings) (w w' : World) (number : ℕ) (event : Event) (answer : Said)
    → OnceOpen openings w number (λ v. Says replied (Step v event)) answer w'
    → Acts (Some event) answer w w'
begun_does openings w w' number event answer =
    open_does openings w w' number (Some event) _ answer (says_step event)

-- nothing happens, and nothing is said of it
acts_nothing : (asked : Option Event) (answer : Said) (w : World) → told_said asked answer ≡ []
    → ((count : ℕ) → ¬ (answer ≡ replied (replies.Took count))) → Acts asked answer w w
acts_nothing asked answer w quiet none = record {
  does = does_as asked w w [] _ (sym quiet) (nothing asked w);
  takes = λ packet number count is other. absurd (none count other);
}

delivers_does : (openings : Openings) (w w' : World) (number packet : ℕ) (answer : Said)
    → Delivers openings w number packet answer w' → Acts (Some (event.Deliver packet number)) answer w w'
delivers_does openings w w' number packet answer (calls.not_sent none) =
    acts_nothing _ _ w refl (λ count is. absurd (cc))
delivers_does openings w w' number packet answer (calls.comes {sent} there once) =
    open_does openings w w' number (Some (event.Deliver packet number)) _ answer
    (says_completes (said_of sent.packet) (event.Deliver packet number) (of_packet sent.packet)
    (taken_of_packet sent.packet)) once

takes_does : (openings : Openings) (w w' : World) (number packet : ℕ) (answer : Said)
    → BeginsToTake openings w number packet answer w' → Acts (Some (event.Deliver packet number)) answer w w'
takes_does openings w w' number packet answer (calls.not_sent none) =
    acts_nothing _ _ w refl (λ count is. absurd (cc))
takes_does openings w w' number packet answer (calls.no_ops there none) =
    acts_nothing _ _ w refl (λ count is. absurd (cc))
takes_does openings w w' number packet answer (calls.comes there some once) =
    begun_does openings w w' number (event.Deliver packet number) answer once

-- what asks for no event changes nothing
told_said_none : (answer : Said) → told_said None answer ≡ []
told_said_none answer = refl

acts_unasked : (answer : Said) (w : World) → Acts None answer w w
acts_unasked answer w = record {
  does = does_as None w w [] _ (sym (told_said_none answer)) (nothing None w);
  takes = unasked answer _;
}

tells_does : (number : ℕ) (w : World) (answer : Said) (w' : World) → Tells w number answer w'
    → Acts None answer w w'
tells_does number w answer w' (calls.running at runs) = acts_unasked _ w
tells_does number w answer w' (calls.stopped at why) = acts_unasked _ w

unites_does : (first second : ℕ) (w : World) (answer : Said) (w' : World) → Unites w first second answer w'
    → Acts None answer w w'
unites_does first second w answer w' (calls.running at there runs too) = acts_unasked _ w
unites_does first second w answer w' (calls.no_room at there runs too some) = acts_unasked _ w
unites_does first second w answer w' (calls.stopped which at why) = acts_unasked _ w

checks_does : (number : ℕ) (bytes : List ℕ) (w : World) (answer : Said) (w' : World)
    → ChecksAt w number bytes answer w' → Acts None answer w w'
checks_does number bytes w answer w' (calls.no_packet fault) = acts_unasked _ w
checks_does number bytes w answer w' (calls.no_room head some) = acts_unasked _ w
checks_does number bytes w answer w' (calls.tells at is told) = acts_unasked _ w
checks_does number bytes w answer w' (calls.refuses at is why) = acts_unasked _ w

-- ---- lines

node_does : (openings : Openings) (w w' : World) (number : ℕ) (r : Request) (answer : Said)
    → AsksNode openings w number r answer w' → Acts (event_asked number r) answer w w'
node_does openings w w' number (request.Job job) answer h = event_does openings w w' _ _ answer h
node_does openings w w' number (request.Begin pid order) answer h =
    begun_does openings w w' _ _ answer h
node_does openings w w' number (request.Deliver packet) answer h = delivers_does openings w w' number packet answer h
node_does openings w w' number (request.BeginDeliver packet) answer h = takes_does openings w w' number packet answer h
node_does openings w w' number request.Tell answer h = event_does openings w w' _ _ answer h
node_does openings w w' number request.Save answer h = event_does openings w w' _ _ answer h
node_does openings w w' number request.Publish answer h = event_does openings w w' _ _ answer h
node_does openings w w' number request.Cancel answer h = event_does openings w w' _ _ answer h
node_does openings w w' number (request.Restart kept) answer h = event_does openings w w' _ _ answer h
node_does openings w w' number request.Text answer h =
    open_does openings w w' number None _ answer (tells_does number) h
node_does openings w w' number (request.Check bytes) answer h =
    open_does openings w w' number None _ answer (checks_does number bytes) h

-- where a packet is said to be taken
abbrev pub TakesFor : Option Event → Answer → List Moment → Type 0
TakesFor asked answer ms = (packet number count : ℕ) → asked ≡ Some (event.Deliver packet number)
    → answer ≡ said (replied (replies.Took count)) → IsTaken packet number ms

-- what a line asks for is answered so
pub record LineActs (asked : Option Event) (answer : Answer) (w w' : World) : Type 0 where
  pub does : Does asked w w' (told_by asked answer)
  pub takes : TakesFor asked answer does.leads.moments

what_of : (what other : Said) → said what ≡ said other → what ≡ other
what_of what other is = cc

line_says : (asked : Option Event) (what : Said) (w w' : World) → Acts asked what w w'
    → LineActs asked (said what) w w'
line_says asked what w w' h = record {
  does = h.does;
  takes = λ packet number count is other.
      h.takes packet number count is (what_of what (replied (replies.Took count)) other);
}

told_none : (answer : Answer) → told_by None answer ≡ []
told_none silence = refl
told_none (said what) = refl
told_none (listed table) = refl

line_stays : (answer : Answer) (w w' : World) → w' ≡ w → LineActs None answer w w'
line_stays answer w w' is = record {
  does = does_as None w w' [] _ (sym (told_none answer)) (same None w w' is);
  takes = λ packet number count none other. absurd (cc);
}

line_does : (openings : Openings) (old : Session) (line : Line) (answer : Answer) (w' : World)
    → AnswersLine openings old line answer w' → LineActs (asked_by_line line) answer old.world w'
line_does openings old line answer w' (asks {number} {request = r} {what} h) =
    line_says _ what old.world w' (node_does openings old.world w' number r what h)
line_does openings old line answer w' (unites {first} {second} {what} h) =
    line_says _ what old.world w' (open_does openings old.world w' first None _ what
    (λ v answer v'. open_does openings v v' second None _ answer (unites_does first second)) h)
line_does openings old line answer w' (counts {what} h) = line_stays _ old.world w' h.1
line_does openings old line answer w' lists = line_stays _ old.world old.world refl

same_session : (old new : Session) (answer : Answer) → new ≡ old → LineActs None answer old.world new.world
same_session old new answer is =
    line_stays answer old.world new.world (ap (λ (s : Session). s.world) is)

reading_does : (openings : Openings) (old : Session) (r : Reading) (answer : Answer) (new : Session)
    → AnswersReading openings old r answer new → LineActs (asked_by r) answer old.world new.world
reading_does openings old reading.Quiet answer new h = same_session old new answer h.1
reading_does openings old reading.Bad answer new h = same_session old new answer h.1
reading_does openings old (reading.Means line alias) answer new h =
    line_does openings old line answer new.world h.answered

-- a turn, with what it asks for
pub record TurnDoes (old : Session) (bytes : List ℕ) (answer : Answer) (new : Session) : Type 0 where
  pub asked : Option Event
  pub asks : Asks old.aliases bytes asked ⊎ ((answer ≡ starved_line) × (asked ≡ None))
  pub acts : LineActs asked answer old.world new.world

pub turn_does : (openings : Openings) (old : Session) (bytes : List ℕ) (answer : Answer) (new : Session)
    → Turn openings old bytes answer new → TurnDoes old bytes answer new
turn_does openings old bytes answer new (inl h) = record {
  asked = asked_by h.reading;
  asks = inl (record { reading = h.reading; says = h.says; is = refl });
  acts = reading_does openings old h.reading answer new h.answered;
}
turn_does openings old bytes answer new (inr h) = record {
  asked = None;
  asks = inr (h.answered, refl);
  acts = same_session old new answer h.unchanged;
}

pub turn_leads : (openings : Openings) (old : Session) (bytes : List ℕ) (answer : Answer) (new : Session)
    → Turn openings old bytes answer new → Leads old.world new.world
turn_leads openings old bytes answer new h =
    (turn_does openings old bytes answer new h).acts.does.leads

pub run_leads : (openings : Openings) (old : Session) (lines : List (List ℕ)) (answers : List Answer) (new : Session)
    → Run openings old lines answers new → Leads old.world new.world
run_leads openings old [] [] new h = (same None old.world new.world (ap (λ (s : Session). s.world) h)).leads
run_leads openings old [] (answer ∷ answers) new h = absurd h
run_leads openings old (line ∷ lines) [] new h = absurd h
run_leads openings old (line ∷ lines) (answer ∷ answers) new h =
    then_ old.world (h.0).world new.world (turn_leads openings old line answer h.0 h.1)
    (run_leads openings h.0 lines answers new h.2)
