-- A line that is answered that an operation was published ends with its publication.
use Rattle.std.proofs.Common.{◌≡◌, ◌∙◌, ℕ, refl, sym, ap, subst, List, Option, inl, inr}
use Rattle.fl_labels.specs.declared.name.Name.{Name}
use Rattle.fl_wire.specs.declared.packet.Packet.{Packet}
use Rattle.fl_wire.specs.declared.packet.Packet.TheVariants as packets
use Rattle.fl_jobs.specs.declared.job.Job.{Job}
use Rattle.fl_system.specs.declared.event.Event.{Event}
use Rattle.fl_system.specs.declared.event.Event.TheVariants as event
use Rattle.fl_system.specs.declared.reply.Reply.{Reply}
use Rattle.fl_system.specs.declared.reply.Reply.TheVariants as replies
use Rattle.fl_system.specs.declared.sent.Sent.{Sent}
use Rattle.fl_system.specs.Deliveries.{TellAt, WindowAt, BatchAt, MessageAt, DeliverAt}
use Rattle.fl_system.specs.World.{World, KeptNode}
use Rattle.fl_system.specs.WorldCalls.{SaveAt, CancelAt, RestartAt}
use Rattle.fl_system.specs.WorldJobs.{JobAt}
use Rattle.fl_system.specs.WorldSteps.{Step, node_of}
use Rattle.fl_script.specs.declared.line.Line.TheVariants as line
use Rattle.fl_script.specs.declared.reading.Reading.TheVariants as reading
use Rattle.fl_script.specs.declared.request.Request.{Request}
use Rattle.fl_script.specs.declared.request.Request.TheVariants as request
use Rattle.fl_script.specs.Reading.{IsReading}
use Rattle.fl_script.specs.laws.OneReading.{one_reading}
use Rattle.fl_calls.specs.Answer.{Answer as Said, replied}
use Rattle.fl_calls.specs.Calls as calls
use Rattle.fl_calls.specs.Calls.{Says, said_of, Delivers, BeginsToTake, Tells, ChecksAt}
use Rattle.fl_calls.specs.Completing.{Completes, Finishes, at_once, in_steps, given_up, not_saved, saved}
use Rattle.fl_calls.specs.Entering.{Openings, OnceOpen, shut, opened}
use Rattle.fl_turns.specs.Answer.{Answer, said}
use Rattle.fl_turns.specs.Leading.{Leads}
use Rattle.fl_turns.specs.Session.{Session}
use Rattle.fl_turns.specs.Turn.{AsksNode, AnswersLine, asks, AnswersNamed, AnswersReading, Turn}
use Rattle.fl_turns.specs.laws.Leads.{stays, then_, step_leads, enters_leads}

-- what was replied, of what is said
reply_in : Said → Reply
reply_in (replied reply) = reply
reply_in other = replies.NoSuch

said_in : Answer → Said
said_in (said what) = what
said_in other = replied replies.NoSuch

module _ (name : Name) where
  abbrev published : Reply
  published = replies.Published name

  -- ---- only a publication is answered so

  of_job : {w : World} {number : ℕ} {s : KeptNode} {desk upto : ℕ} {job : Job} {reply : Reply} {w' : World}
      → JobAt w number s desk upto job reply w' → reply ≡ published → ⊥
  of_job (JobAt.refused h) is = absurd (cc)
  of_job (JobAt.replied h) is = absurd (cc)
  of_job (JobAt.begun h) is = absurd (cc)
  of_job (JobAt.sends h) is = absurd (cc)
  of_job (JobAt.no_room look seen noted) is = absurd (cc)

  of_save : {w : World} {number : ℕ} {s : KeptNode} {reply : Reply} {w' : World} → SaveAt w number s reply w'
      → reply ≡ published → ⊥
  of_save (SaveAt.saved h) is = absurd (cc)
  of_save (SaveAt.refused h) is = absurd (cc)

  of_cancel : {w : World} {number : ℕ} {s : KeptNode} {reply : Reply} {w' : World} → CancelAt w number s reply w'
      → reply ≡ published → ⊥
  of_cancel (CancelAt.given_up h) is = absurd (cc)
  of_cancel (CancelAt.refused h) is = absurd (cc)

  of_restart : {w : World} {number : ℕ} {s : KeptNode} {keeps : _} {reply : Reply} {w' : World}
      → RestartAt w number s keeps reply w' → reply ≡ published → ⊥
  of_restart (RestartAt.booted h) is = absurd (cc)
  of_restart (RestartAt.refused h) is = absurd (cc)

  of_tell : {w : World} {number : ℕ} {s : KeptNode} {reply : Reply} {w' : World} → TellAt w number s reply w'
      → reply ≡ published → ⊥
  of_tell (TellAt.stopped why) is = absurd (cc)
  of_tell (TellAt.no_room runs) is = absurd (cc)
  of_tell (TellAt.tells runs told) is = absurd (cc)

  of_window : {w : World} {number : ℕ} {s : KeptNode} {window : _} {reply : Reply} {w' : World}
      → WindowAt w number s window reply w' → reply ≡ published → ⊥
  of_window (WindowAt.stopped why) is = absurd (cc)
  of_window (WindowAt.no_room runs some) is = absurd (cc)
  of_window (WindowAt.answers runs told) is = absurd (cc)

  of_batch : {w : World} {number : ℕ} {s : KeptNode} {ops : _} {reply : Reply} {w' : World}
      → BatchAt w number s ops reply w' → reply ≡ published → ⊥
  of_batch (BatchAt.nothing_new h) is = absurd (cc)
  of_batch (BatchAt.takes h some) is = absurd (cc)
  of_batch (BatchAt.refused h) is = absurd (cc)

  of_message : {w : World} {number : ℕ} {s : KeptNode} {sent : Sent} {d : _} {reply : Reply} {w' : World}
      → MessageAt w number s sent d reply w' → reply ≡ published → ⊥
  of_message (MessageAt.arrives h) is = absurd (cc)
  of_message (MessageAt.refused h) is = absurd (cc)
  of_message (MessageAt.no_room runs) is = absurd (cc)

  of_delivery : {w : World} {number : ℕ} {s : KeptNode} {sent : Sent} {reply : Reply} {w' : World}
      → DeliverAt w number s sent reply w' → reply ≡ published → ⊥
  of_delivery (DeliverAt.have which h) is = of_window h is
  of_delivery (DeliverAt.ops which h) is = of_batch h is
  of_delivery (DeliverAt.message which h) is = of_message h is

  step_publishes : (w w' : World) (e : Event) (reply : Reply) → reply ≡ published → Step w e reply w'
      → Step w (event.Publish (node_of e)) published w'
  step_publishes w w' e reply is (Step.no_node none) = absurd (cc)
  step_publishes w w' e reply is (Step.no_desk at none) = absurd (cc)
  step_publishes w w' e reply is (Step.no_such_job arrives) = absurd (cc)
  step_publishes w w' e reply is (Step.no_packet none) = absurd (cc)
  step_publishes w w' e reply is (Step.job at other does) = absurd (of_job does is)
  step_publishes w w' e reply is (Step.save at does) = absurd (of_save does is)
  step_publishes w w' e reply is (Step.publish {number} at does) =
      subst (λ r. Step w (event.Publish number) r w') is (Step.publish at does)
  step_publishes w w' e reply is (Step.cancel at does) = absurd (of_cancel does is)
  step_publishes w w' e reply is (Step.restart at does) = absurd (of_restart does is)
  step_publishes w w' e reply is (Step.tell at does) = absurd (of_tell does is)
  step_publishes w w' e reply is (Step.deliver there at does) = absurd (of_delivery does is)

  -- ---- and it is the last that happens

  -- the last that happens on the way is the publication
  pub record EndsPublished (w : World) (number : ℕ) (w' : World) : Type 0 where
    pub before : World
    pub leads : Leads w before
    pub step : Step before (event.Publish number) published w'

  from_step : (w w' : World) (e : Event) (reply : Reply) → reply ≡ published → Step w e reply w'
      → EndsPublished w (node_of e) w'
  from_step w w' e reply is step =
      record { before = w; leads = stays w; step = step_publishes w w' e reply is step }

  after : (u v : World) (number : ℕ) (w : World) → Leads u v → EndsPublished v number w → EndsPublished u number w
  after u v number w first h =
      record { before = h.before; leads = then_ u v h.before first h.leads; step = h.step }

  finishes : (w w' : World) (number : ℕ) (reply : Reply) → reply ≡ published → Finishes w number reply w'
      → EndsPublished w number w'
  finishes w w' number reply is (given_up first second) = absurd (cc)
  finishes w w' number reply is (not_saved is_not is_fed step) = from_step w w' (event.Save number) reply is step
  finishes w w' number reply is (saved {between = v} first second) =
      after w v number w' (step_leads w v (event.Save number) replies.Done first)
      (from_step v w' (event.Publish number) reply is second)

  completes : (w w' : World) (e : Event) (reply : Reply) → reply ≡ published → Completes w e reply w'
      → EndsPublished w (node_of e) w'
  completes w w' e reply is (at_once none step) = from_step w w' e reply is step
  completes w w' e reply is (in_steps {first} {between = v} some step rest) =
      after w v (node_of e) w' (step_leads w v e first step) (finishes v w' (node_of e) reply is rest)

  -- what is said of it
  unsaid : (reply : Reply) (what : Said) → what ≡ replied reply → what ≡ replied published → reply ≡ published
  unfolding reply_in
  unsaid reply what one other = ap reply_in (sym one ∙ other)

  unsaid_of : (packet : Packet) (reply : Reply) (what : Said) → what ≡ said_of packet reply
      → what ≡ replied published → reply ≡ published
  unsaid_of (packets.Data d) (replies.Refused fault) what one other = absurd (cc)
  unsaid_of packet reply what one other = unsaid reply what one other

  once_open : (openings : Openings) (w w' : World) (number : ℕ) (does : World → Said → World → Type 0) (what : Said)
      → ((v : World) → does v what w' → EndsPublished v number w') → what ≡ replied published
      → OnceOpen openings w number does what w' → EndsPublished w number w'
  once_open openings w w' number does what each is (shut entered) = absurd (cc)
  once_open openings w w' number does what each is (opened {between = v} entered done) =
      after w v number w' (enters_leads openings w v number _ entered) (each v done)

  asked : (openings : Openings) (w w' : World) (e : Event) (what : Said) → what ≡ replied published
      → OnceOpen openings w (node_of e) (λ v. Says replied (Completes v e)) what w'
      → EndsPublished w (node_of e) w'
  asked openings w w' e what is =
      once_open openings w w' (node_of e) _ what
      (λ v h. completes v w' e h.0 (unsaid h.0 what h.1 is) h.2) is

  asked_to_begin : (openings : Openings) (w w' : World) (number : ℕ) (e : Event) (what : Said) → node_of e ≡ number
      → what ≡ replied published → OnceOpen openings w number (λ v. Says replied (Step v e)) what w'
      → EndsPublished w number w'
  asked_to_begin openings w w' number e what same is =
      once_open openings w w' number _ what
      (λ v h. subst (λ n. EndsPublished v n w') same (from_step v w' e h.0 (unsaid h.0 what h.1 is) h.2)) is

  delivers : (openings : Openings) (w w' : World) (number packet : ℕ) (what : Said) → what ≡ replied published
      → Delivers openings w number packet what w' → EndsPublished w number w'
  delivers openings w w' number packet what is (calls.not_sent none) = absurd (cc)
  delivers openings w w' number packet what is (calls.comes {sent} there once) =
      once_open openings w w' number _ what
      (λ v h. completes v w' (event.Deliver packet number) h.0 (unsaid_of sent.packet h.0 what h.1 is) h.2) is once

  takes : (openings : Openings) (w w' : World) (number packet : ℕ) (what : Said) → what ≡ replied published
      → BeginsToTake openings w number packet what w' → EndsPublished w number w'
  takes openings w w' number packet what is (calls.not_sent none) = absurd (cc)
  takes openings w w' number packet what is (calls.no_ops there none) = absurd (cc)
  takes openings w w' number packet what is (calls.comes there some once) =
      asked_to_begin openings w w' number (event.Deliver packet number) what refl is once

  tells : (v w' : World) (number : ℕ) (what : Said) → what ≡ replied published → Tells v number what w'
      → EndsPublished v number w'
  tells v w' number what is (calls.running at runs) = absurd (cc)
  tells v w' number what is (calls.stopped at why) = absurd (cc)

  checks : (v w' : World) (number : ℕ) (bytes : List ℕ) (what : Said) → what ≡ replied published
      → ChecksAt v number bytes what w' → EndsPublished v number w'
  checks v w' number bytes what is (calls.no_packet fault) = absurd (cc)
  checks v w' number bytes what is (calls.no_room head some) = absurd (cc)
  checks v w' number bytes what is (calls.tells at one told) = absurd (cc)
  checks v w' number bytes what is (calls.refuses at one why) = absurd (cc)

  node_publishes : (openings : Openings) (w w' : World) (number : ℕ) (r : Request) (what : Said)
      → what ≡ replied published → AsksNode openings w number r what w' → EndsPublished w number w'
  node_publishes openings w w' number (request.Job job) what is h = asked openings w w' _ what is h
  node_publishes openings w w' number (request.Begin pid order) what is h =
      asked_to_begin openings w w' number _ what refl is h
  node_publishes openings w w' number (request.Deliver packet) what is h =
      delivers openings w w' number packet what is h
  node_publishes openings w w' number (request.BeginDeliver packet) what is h =
      takes openings w w' number packet what is h
  node_publishes openings w w' number request.Tell what is h = asked openings w w' _ what is h
  node_publishes openings w w' number request.Save what is h = asked openings w w' _ what is h
  node_publishes openings w w' number request.Publish what is h = asked openings w w' _ what is h
  node_publishes openings w w' number request.Cancel what is h = asked openings w w' _ what is h
  node_publishes openings w w' number (request.Restart kept) what is h = asked openings w w' _ what is h
  node_publishes openings w w' number request.Text what is h =
      once_open openings w w' number _ what (λ v. tells v w' number what is) is h
  node_publishes openings w w' number (request.Check bytes) what is h =
      once_open openings w w' number _ what (λ v. checks v w' number bytes what is) is h

  line_publishes : (openings : Openings) (old : Session) (number : ℕ) (r : Request) (answer : Answer) (w' : World)
      → answer ≡ said (replied published) → AnswersLine openings old (line.Node number r) answer w'
      → EndsPublished old.world number w'
  unfolding said_in
  line_publishes openings old number r answer w' is (asks {what} h) =
      node_publishes openings old.world w' number r what (ap said_in is) h

  -- a line to a node that is answered that the operation was published ends so there
  pub turn_publishes : (openings : Openings) (old : Session) (bytes : List ℕ) (answer : Answer) (new : Session)
      (number : ℕ) (r : Request) (alias : Option (List ℕ))
      → IsReading old.aliases bytes (reading.Means (line.Node number r) alias)
      → answer ≡ said (replied published) → Turn openings old bytes answer new
      → EndsPublished old.world number new.world
  turn_publishes openings old bytes answer new number r alias says is (inl h) =
      let read = one_reading old.aliases bytes h.reading (reading.Means (line.Node number r) alias) h.says says in
      let does : AnswersNamed openings old (line.Node number r) alias answer new =
      subst (λ x. AnswersReading openings old x answer new) read h.answered in
      line_publishes openings old number r answer new.world is does.answered
  turn_publishes openings old bytes answer new number r alias says is (inr h) =
      absurd (cc (h.answered, is))
