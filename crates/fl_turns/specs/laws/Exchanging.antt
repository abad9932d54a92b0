-- Lines that are an exchange are an exchange of worlds.
use Rattle.std.proofs.Common.{◌≡◌, ◌⊎◌, ◌↔◌, ◌≤◌, ◌<◌, ◌+◌, ◌∙◌, ◌++◌, ℕ, zero, suc, refl, sym, ap, subst, arith}
use Rattle.std.proofs.Common.{List, [], ◌∷◌, Option, None, Some, inl, inr, length, map as list_map, slice_get}
use Rattle.std.specs.List.{Contains}
use Rattle.std.proofs.lemmas.Grind.{flat_map-append}
use Rattle.std.proofs.lemmas.List.{append_assoc}
use Rattle.fl_bench.specs.laws.Orders.{order_at}
use Rattle.fl_bench.specs.laws.Puts.{none_some, same_found}
use Rattle.fl_jobs.specs.declared.job.Act.TheVariants.{Order as Orders}
use Rattle.fl_jobs.specs.declared.job.Job.{Job}
use Rattle.fl_jobs.specs.declared.job.Job.TheVariants.{By}
use Rattle.fl_jobs.specs.declared.job.Order.{Order}
use Rattle.fl_labels.specs.declared.name.Name.{Name}
use Rattle.fl_labels.specs.declared.pid.Pid.{Pid}
use Rattle.fl_labels.specs.SetBy as set
use Rattle.fl_labels.specs.SetBy.{SetBy, In}
use Rattle.fl_message.specs.declared.message.Data.{Data}
use Rattle.fl_ops.specs.OpLaws.{op_total, op_exact}
use Rattle.fl_ops.specs.OpOrder.{op_cmp}
use Rattle.fl_ops.specs.declared.op.Op.{Op}
use Rattle.fl_opset.specs.declared.intervals.Intervals.{Intervals}
use Rattle.fl_opset.specs.laws.Members.{Contains-cons, listed_in}
use Rattle.fl_opset.specs.laws.Unions.{same_members}
use Rattle.fl_round_laws.specs.Network.{Edge, Path, InEachPart, IsExchange, whole}
use Rattle.fl_round_laws.specs.Round.{moment, Occurs, IsTaken, IsAnswered, CatchesUp, IsIdle, IsPublishedAt, IsInside, AreInside}
use Rattle.fl_round_laws.specs.laws.Items.{stays_at}
use Rattle.fl_script.specs.declared.line.Line.TheVariants as line
use Rattle.fl_script.specs.declared.reading.Reading.TheVariants as reading
use Rattle.fl_script.specs.declared.request.Request.TheVariants as request
use Rattle.fl_script.specs.Reading.{IsReading}
use Rattle.fl_script.specs.laws.OneReading.{one_reading}
use Rattle.fl_store.specs.Kept.{Kept}
use Rattle.fl_system.specs.declared.event.Event.{Event}
use Rattle.fl_system.specs.declared.event.Event.TheVariants as event
use Rattle.fl_system.specs.declared.reply.Reply.{Reply}
use Rattle.fl_system.specs.declared.reply.Reply.TheVariants as replies
use Rattle.fl_system.specs.declared.sent.Sent.{Sent}
use Rattle.fl_system.specs.Deliveries.{TellAt, WindowAt, BatchAt, MessageAt, DeliverAt}
use Rattle.fl_system.specs.Gossip.{told_by as told_packets}
use Rattle.fl_system.specs.Joins.{Joins}
use Rattle.fl_system.specs.Jobs.{Jobs}
use Rattle.fl_system.specs.Numbered.{item_at}
use Rattle.fl_system.specs.Runs.{Move, Happens, Comes, Returns, Moves, Moment, IsRun, IsReached, end}
use Rattle.fl_system.specs.World.{World, KeptNode, empty_world}
use Rattle.fl_system.specs.WorldCalls.{SaveAt, PublishAt, CancelAt, RestartAt}
use Rattle.fl_system.specs.WorldJobs.{JobAt, sent_message}
use Rattle.fl_system.specs.WorldSteps.{IsAt, Step}
use Rattle.fl_system_laws.specs.Goes.{Goes}
use Rattle.fl_system_laws.specs.laws.Going.{moves_goes}
use Rattle.fl_wire.specs.declared.batch.Batch.{Batch}
use Rattle.fl_wire.specs.declared.packet.Packet.{Packet}
use Rattle.fl_wire.specs.declared.packet.Packet.TheVariants as packets
use Rattle.fl_world_laws.specs.Places.{IsSavedAt}
use Rattle.fl_calls.specs.Answer.{Answer as Said, replied, text}
use Rattle.fl_calls.specs.Calls as calls
use Rattle.fl_calls.specs.Calls.{Tells}
use Rattle.fl_calls.specs.Entering.{Openings, is_there, joins, OnceOpen, shut, opened}
use Rattle.fl_turns.specs.Answer.{Answer, said, starved_line}
use Rattle.fl_turns.specs.Exchanging.{behind, HasLine, TakesBy, AnswersBy, CatchesUpBy, IsAnswerOf, IsInsideBy, AskInside}
use Rattle.fl_turns.specs.Exchanging.{InEachPartBy, lines_of, IsExchangeBy, IsTextOf, ExchangesAlong}
use Rattle.fl_turns.specs.Moments.{Asks, asked_by, told, told_at, told_in, told_by, Turned, IsTurn, AreTurns, moments_of}
use Rattle.fl_turns.specs.Session.{Session, begun}
use Rattle.fl_turns.specs.Turn.{AnswersLine, asks, AnswersNamed, AnswersReading, Turn}
use Rattle.fl_turns.specs.laws.Leads.{ends_on, AreOwn, IsOwn, its, saves, publishes, cancels, TakesFor}
use Rattle.fl_turns.specs.laws.Resting.{settled_idle}
use Rattle.fl_turns.specs.laws.Telling.{by_head, is_told, answered_is}
use Rattle.fl_turns.specs.laws.Wider.{occurs_after, occurs_before, taken_after, taken_before, answered_after}

-- ---- lines, with what happens at their moments

pub record IsActed (openings : Openings) (t : Turned) : Type 0 where
  pub turn : IsTurn openings t
  pub asks : Asks t.before.aliases t.line turn.asked ⊎ ((t.answer ≡ starved_line) × (turn.asked ≡ None))
  pub own : AreOwn turn.asked t.moments
  pub takes : TakesFor turn.asked t.answer t.moments

abbrev pub AreActed : Openings → List Turned → Type 0
AreActed openings [] = Unit {0}
AreActed openings (t ∷ ts) = IsActed openings t × AreActed openings ts

module _ (openings : Openings) where
  acted_front : (xs ys : List Turned) → AreActed openings (xs ++ ys) → AreActed openings xs
  acted_front [] ys all = tt
  acted_front (x ∷ xs) ys all = (all.0, acted_front xs ys all.1)

  acted_back : (xs ys : List Turned) → AreActed openings (xs ++ ys) → AreActed openings ys
  acted_back [] ys all = all
  acted_back (x ∷ xs) ys all = acted_back xs ys all.1

  asked_is : (t : Turned) (acted : IsActed openings t) (e : Event) → Asks t.before.aliases t.line (Some e)
      → (t.answer ≡ starved_line → ⊥) → acted.turn.asked ≡ Some e
  asked_is t acted e other fed = elim acted.asks [
    | inl own ↦
        let read : own.reading ≡ other.reading =
        one_reading t.before.aliases t.line own.reading other.reading own.says other.says in
        own.is ∙ ap asked_by read ∙ sym other.is
    | inr none ↦ absurd (fed none.0)
  ]

  asks_it : (t : Turned) (acted : IsActed openings t) (e : Event) → acted.turn.asked ≡ Some e
      → Asks t.before.aliases t.line (Some e)
  asks_it t acted e is = elim acted.asks [
    | inl own ↦ record { reading = own.reading; says = own.says; is = sym is ∙ own.is }
    | inr none ↦ absurd (some_none (sym is ∙ none.1))
  ]
    where
      some_none : Some e ≡ None → ⊥
      some_none is = absurd (cc)

sent_fed : (answer : Answer) (first count : ℕ) → answer ≡ said (replied (replies.Sent first count))
    → answer ≡ starved_line → ⊥
sent_fed answer first count is other = absurd (cc)

took_fed : (answer : Answer) (count : ℕ) → answer ≡ said (replied (replies.Took count))
    → answer ≡ starved_line → ⊥
took_fed answer count is other = absurd (cc)

-- ---- lines one after another

moments_on : (xs ys : List Turned) → moments_of (xs ++ ys) ≡ moments_of xs ++ moments_of ys
moments_on xs ys = flat_map-append (λ (t : Turned). t.moments) xs ys

moments_around : (ts xs : List Turned) (t : Turned) (ys : List Turned) → ts ≡ xs ++ (t ∷ ys)
    → moments_of ts ≡ moments_of xs ++ (t.moments ++ moments_of ys)
moments_around ts xs t ys is = ap moments_of is ∙ moments_on xs (t ∷ ys)

run_front : (w : World) (ms ns : List Moment) → IsRun w (ms ++ ns) → IsRun w ms
run_front w [] ns run = tt
run_front w (m ∷ ms) ns run = (run.0, run_front m.after ms ns run.1)

run_back : (w : World) (ms ns : List Moment) → IsRun w (ms ++ ns) → IsRun (end w ms) ns
run_back w [] ns run = run
run_back w (m ∷ ms) ns run = run_back m.after ms ns run.1

-- ---- what lines are told happens at their moments

moment_is : (m : Moment) (e : Event) (r : Reply) → m.move ≡ Happens e → m.reply ≡ r → m ≡ moment e r m.after
moment_is m e r move_is reply_is =
    ap (λ (x : Move). record { move = x; reply = m.reply; after = m.after }) move_is
    ∙ ap (λ (x : Reply). record { move = Happens e; reply = x; after = m.after }) reply_is

occurs_told : (e : Event) (r : Reply) (ms : List Moment) → told_in ms ≡ (e, r) ∷ [] → Occurs e r ms
occurs_told e r [] is = absurd (cc)
occurs_told e r (m ∷ ms) is = elim (by_head e r m.move m.reply (told_in ms) is) [
  | inl here ↦ record {
    earlier = [];
    after = m.after;
    later = ms;
    moments_are = ap (λ x. x ∷ ms) (moment_is m e r here.0 here.1);
  }
  | inr later ↦
      let o = occurs_told e r ms later in
      record {
        earlier = m ∷ o.earlier;
        after = o.after;
        later = o.later;
        moments_are = ap (λ l. m ∷ l) o.moments_are;
      }
]

abbrev occurs_as : {e : Event} {r : Reply} (ms ns : List Moment) → ms ≡ ns → Occurs e r ns → Occurs e r ms
occurs_as ms ns is o = record {
  earlier = o.earlier;
  after = o.after;
  later = o.later;
  moments_are = is ∙ o.moments_are;
}

-- it occurs, and these moments come later
record Shows (e : Event) (r : Reply) (ms rest : List Moment) : Type 0 where
  pub occurs : Occurs e r ms
  pub between : List Moment
  pub later_is : occurs.later ≡ between ++ rest

module _ (openings : Openings) where
  -- the line that asks for the event
  line_acted : (e : Event) (r : Reply) (ts : List Turned) → AreActed openings ts → (h : HasLine e r ts)
      → IsActed openings h.line
  line_acted e r ts all h =
      (acted_back openings h.earlier (h.line ∷ h.later) (subst (AreActed openings) h.lines_are all)).0

  later_acted : (e : Event) (r : Reply) (ts : List Turned) → AreActed openings ts → (h : HasLine e r ts)
      → AreActed openings h.later
  later_acted e r ts all h =
      (acted_back openings h.earlier (h.line ∷ h.later) (subst (AreActed openings) h.lines_are all)).1

  line_shows : (e : Event) (first count : ℕ) (ts : List Turned) → AreActed openings ts
      → (h : HasLine e (replies.Sent first count) ts)
      → Shows e (replies.Sent first count) (moments_of ts) (moments_of h.later)
  line_shows e first count ts all h =
      let r = replies.Sent first count in
      let acted = line_acted e r ts all h in
      let asked = asked_is openings h.line acted e h.asks (sent_fed h.line.answer first count h.answered) in
      let tells : told_in h.line.moments ≡ (e, r) ∷ [] =
      acted.turn.tells ∙ ap (λ x. told_by x h.line.answer) asked ∙ ap (told_by (Some e)) h.answered in
      let o = occurs_told e r h.line.moments tells in
      let inner = occurs_before (moments_of h.later) h.line.moments o in
      let outer = occurs_after (moments_of h.earlier) (h.line.moments ++ moments_of h.later) inner in
      record {
        occurs = occurs_as (moments_of ts) _ (moments_around ts h.earlier h.line h.later h.lines_are) outer;
        between = o.later;
        later_is = refl;
      }

  line_taken : (packet number : ℕ) (ts : List Turned) → AreActed openings ts → TakesBy packet number ts
      → IsTaken packet number (moments_of ts)
  line_taken packet number ts all t =
      let h = t.takes in
      let acted = line_acted (event.Deliver packet number) (replies.Took t.count) ts all h in
      let asked = asked_is openings h.line acted (event.Deliver packet number) h.asks
      (took_fed h.line.answer t.count h.answered) in
      let taken = acted.takes packet number t.count asked h.answered in
      let inner = taken_before (moments_of h.later) packet number h.line.moments taken in
      let outer = taken_after (moments_of h.earlier) packet number (h.line.moments ++ moments_of h.later) inner in
      subst (IsTaken packet number) (sym (moments_around ts h.earlier h.line h.later h.lines_are)) outer

  line_answers : (packet from to : ℕ) (ts : List Turned) → AreActed openings ts → AnswersBy packet from to ts
      → IsAnswered packet from to (moments_of ts)
  line_answers packet from to ts all a =
      let shows = line_shows (event.Deliver packet from) a.first a.count ts all a.answer in
      let rest = later_acted (event.Deliver packet from) (replies.Sent a.first a.count) ts all a.answer in
      record {
        first = a.first;
        count = a.count;
        answer = shows.occurs;
        taken = λ k less. subst (IsTaken (a.first + k) to) (sym shows.later_is)
            (taken_after shows.between (a.first + k) to (moments_of a.answer.later)
            (line_taken (a.first + k) to a.answer.later rest (a.taken k less)));
      }

  lines_catch_up : (to from : ℕ) (ts : List Turned) → AreActed openings ts → CatchesUpBy to from ts
      → CatchesUp to from (moments_of ts)
  lines_catch_up to from ts all c =
      let shows = line_shows (event.Tell to) c.first c.count ts all c.summary in
      let rest = later_acted (event.Tell to) (replies.Sent c.first c.count) ts all c.summary in
      record {
        first = c.first;
        count = c.count;
        summary = shows.occurs;
        answered = λ k less. subst (IsAnswered (c.first + k) from to) (sym shows.later_is)
            (answered_after shows.between (c.first + k) from to (moments_of c.summary.later)
            (line_answers (c.first + k) from to c.summary.later rest (c.answered k less)));
      }

  parts_catch_up : (edges : List Edge) (parts : List (List Turned)) → AreActed openings (lines_of parts)
      → InEachPartBy edges parts → InEachPart edges (list_map moments_of parts)
  parts_catch_up edges [] all each = tt
  parts_catch_up edges (part ∷ parts) all each = (
    λ from to there. lines_catch_up to from part (acted_front openings part (lines_of parts) all)
        (each.0 from to there),
    parts_catch_up edges parts (acted_back openings part (lines_of parts) all) each.1,
  )

whole_is : (parts : List (List Turned)) → whole (list_map moments_of parts) ≡ moments_of (lines_of parts)
whole_is [] = refl
whole_is (part ∷ parts) =
    ap (λ l. moments_of part ++ l) (whole_is parts) ∙ sym (moments_on part (lines_of parts))

count_is : (parts : List (List Turned)) → length (list_map moments_of parts) ≡ length parts
count_is [] = refl
count_is (part ∷ parts) = ap suc (count_is parts)

-- ---- where packets come from

-- the packet is one of operations
BringsOps : Packet → Type 0
BringsOps packet = (batch : Batch) × ((packet ≡ packets.Full batch) ⊎ (packet ≡ packets.Delta batch))

no_window : (packet : Packet) (window : Intervals) → packet ≡ packets.Have window → BringsOps packet → ⊥
unfolding BringsOps
no_window packet window is (batch, inl other) = absurd (cc)
no_window packet window is (batch, inr other) = absurd (cc)

no_message : (packet : Packet) (d : Data) → packet ≡ packets.Data d → BringsOps packet → ⊥
unfolding BringsOps
no_message packet d is (batch, inl other) = absurd (cc)
no_message packet d is (batch, inr other) = absurd (cc)

-- an item of two lists joined is one of the first, or of the second
item_cases : {A : Type 0} (xs ys : List A) (k : ℕ) (y : A) → item_at (xs ++ ys) k ≡ Some y
    → (item_at xs k ≡ Some y) ⊎ ((j : ℕ) × (k ≡ j + length xs) × (item_at ys j ≡ Some y))
item_cases [] ys k y e = inr (k, omega arith, e)
item_cases (x ∷ xs) ys zero y e = absurd (none_some refl e)
item_cases (x ∷ xs) ys (suc zero) y e = inl e
item_cases (x ∷ xs) ys (suc (suc k)) y e = elim (item_cases xs ys (suc k) y e) [
  | inl at ↦ inl at
  | inr (j, is, at) ↦ inr (j, omega (arith, is), at)
]

-- one of a list that is made item by item
record IsMade {A B : Type 0} (f : A → B) (xs : List A) (j : ℕ) (y : B) : Type 0 where
  pub item : A
  pub there : item_at xs j ≡ Some item
  pub is : f item ≡ y
  pub least : 0 < j
  pub most : j ≤ length xs

made_item : {A B : Type 0} (f : A → B) (xs : List A) (j : ℕ) (y : B) → item_at (list_map f xs) j ≡ Some y
    → IsMade f xs j y
made_item f [] j y e = absurd (none_some refl e)
made_item f (x ∷ xs) zero y e = absurd (none_some refl e)
made_item f (x ∷ xs) (suc zero) y e =
    record { item = x; there = refl; is = same_found refl e; least = omega arith; most = omega arith }
made_item f (x ∷ xs) (suc (suc j)) y e =
    let m = made_item f xs (suc j) y e in
    let most = m.most in
    record { item = m.item; there = m.there; is = m.is; least = omega arith; most = omega (arith, most) }

-- at the move a window is answered with this packet, among others
record IsAnswering (move : Move) (reply : Reply) (k : ℕ) (x : Sent) : Type 0 where
  pub window : ℕ
  pub first : ℕ
  pub count : ℕ
  pub move_is : move ≡ Happens (event.Deliver window x.from)
  pub reply_is : reply ≡ replies.Sent first count
  pub least : first ≤ k
  pub most : k < first + count

module _ (k : ℕ) (x : Sent) (ops : BringsOps x.packet) where
  -- the packet was there before, or is one of such an answer
  data Origin (w : World) (move : Move) (reply : Reply) : Type 0 where
    before : item_at w.packets k ≡ Some x → Origin w move reply
    answers : IsAnswering move reply k x → Origin w move reply

  no_more : {w : World} {move : Move} {reply : Reply} → item_at (w.packets ++ []) k ≡ Some x
      → Origin w move reply
  no_more {w} e = elim (item_cases w.packets [] k x e) [
    | inl was ↦ before was
    | inr (j, is, at) ↦ absurd (none_some refl at)
  ]

  job_origin : {w : World} {number : ℕ} {s : KeptNode} {desk upto : ℕ} {job : Job} {reply : Reply} {w' : World}
      {move : Move} → JobAt w number s desk upto job reply w' → item_at w'.packets k ≡ Some x
      → Origin w move reply
  job_origin (JobAt.refused does) e = no_more e
  job_origin (JobAt.replied does) e = no_more e
  job_origin (JobAt.begun does) e = no_more e
  job_origin {w} {number} {s} (JobAt.sends {d} does) e =
      elim (item_cases w.packets (sent_message number s.node d ∷ []) k x e) [
        | inl was ↦ before was
        | inr (j, is, at) ↦ absurd (by_item j at)
      ]
    where
      by_item : (j : ℕ) → item_at (sent_message number s.node d ∷ []) j ≡ Some x → ⊥
      by_item zero at = absurd (none_some refl at)
      by_item (suc zero) at =
          no_message x.packet d (ap (λ (y : Sent). y.packet) (sym (same_found refl at))) ops
      by_item (suc (suc j)) at = absurd (none_some refl at)
  job_origin (JobAt.no_room look is noted) e = no_more e

  save_origin : {w : World} {number : ℕ} {s : KeptNode} {reply : Reply} {w' : World} {move : Move}
      → SaveAt w number s reply w' → item_at w'.packets k ≡ Some x → Origin w move reply
  save_origin (SaveAt.saved does) e = no_more e
  save_origin (SaveAt.refused does) e = no_more e

  publish_origin : {w : World} {number : ℕ} {s : KeptNode} {reply : Reply} {w' : World} {move : Move}
      → PublishAt w number s reply w' → item_at w'.packets k ≡ Some x → Origin w move reply
  publish_origin (PublishAt.ordered is does) e = no_more e
  publish_origin (PublishAt.received is does) e = no_more e
  publish_origin (PublishAt.refused does) e = no_more e

  cancel_origin : {w : World} {number : ℕ} {s : KeptNode} {reply : Reply} {w' : World} {move : Move}
      → CancelAt w number s reply w' → item_at w'.packets k ≡ Some x → Origin w move reply
  cancel_origin (CancelAt.given_up does) e = no_more e
  cancel_origin (CancelAt.refused does) e = no_more e

  restart_origin : {w : World} {number : ℕ} {s : KeptNode} {keeps : _} {reply : Reply} {w' : World} {move : Move}
      → RestartAt w number s keeps reply w' → item_at w'.packets k ≡ Some x → Origin w move reply
  restart_origin (RestartAt.booted does) e = no_more e
  restart_origin (RestartAt.refused does) e = no_more e

  tell_origin : {w : World} {number : ℕ} {s : KeptNode} {reply : Reply} {w' : World} {move : Move}
      → TellAt w number s reply w' → item_at w'.packets k ≡ Some x → Origin w move reply
  tell_origin (TellAt.stopped why) e = before e
  tell_origin (TellAt.no_room running) e = before e
  tell_origin {w} {number} (TellAt.tells {told} running (windows, are, told_is)) e =
      elim (item_cases w.packets (told_packets number told) k x e) [
        | inl was ↦ before was
        | inr (j, is, at) ↦
            let m = made_item _ told j x at in
            let made = made_item packets.Have windows j m.item
            (subst (λ l. item_at l j ≡ Some m.item) told_is m.there) in
            absurd (no_window x.packet made.item
            (ap (λ (y : Sent). y.packet) (sym m.is) ∙ sym made.is) ops)
      ]

  window_origin : {w : World} {number packet : ℕ} {s : KeptNode} {window : Intervals} {reply : Reply} {w' : World}
      → WindowAt w number s window reply w' → item_at w'.packets k ≡ Some x
      → Origin w (Happens (event.Deliver packet number)) reply
  window_origin (WindowAt.stopped why) e = before e
  window_origin (WindowAt.no_room running some) e = before e
  window_origin {w} {number} {packet} (WindowAt.answers {told} running answer) e =
      elim (item_cases w.packets (told_packets number told) k x e) [
        | inl was ↦ before was
        | inr (j, is, at) ↦
            let m = made_item _ told j x at in
            let least = m.least in
            let most = m.most in
            answers (record {
              window = packet;
              first = suc (length w.packets);
              count = length told;
              move_is = ap (λ (y : Sent). Happens (event.Deliver packet y.from)) m.is;
              reply_is = refl;
              least = omega (arith, is, least);
              most = omega (arith, is, most);
            })
      ]

  batch_origin : {w : World} {number : ℕ} {s : KeptNode} {ops : List Op} {reply : Reply} {w' : World} {move : Move}
      → BatchAt w number s ops reply w' → item_at w'.packets k ≡ Some x → Origin w move reply
  batch_origin (BatchAt.nothing_new does) e = no_more e
  batch_origin (BatchAt.takes does some) e = no_more e
  batch_origin (BatchAt.refused does) e = no_more e

  message_origin : {w : World} {number : ℕ} {s : KeptNode} {sent : Sent} {d : Data} {reply : Reply} {w' : World}
      {move : Move} → MessageAt w number s sent d reply w' → item_at w'.packets k ≡ Some x → Origin w move reply
  message_origin (MessageAt.arrives does) e = no_more e
  message_origin (MessageAt.refused does) e = no_more e
  message_origin (MessageAt.no_room running) e = before e

  deliver_origin : {w : World} {number packet : ℕ} {s : KeptNode} {sent : Sent} {reply : Reply} {w' : World}
      → DeliverAt w number s sent reply w' → item_at w'.packets k ≡ Some x
      → Origin w (Happens (event.Deliver packet number)) reply
  deliver_origin (DeliverAt.have is h) e = window_origin h e
  deliver_origin (DeliverAt.ops is h) e = batch_origin h e
  deliver_origin (DeliverAt.message is h) e = message_origin h e

  step_origin : {w : World} {e : Event} {reply : Reply} {w' : World} → Step w e reply w'
      → item_at w'.packets k ≡ Some x → Origin w (Happens e) reply
  step_origin (Step.no_node none) e = before e
  step_origin (Step.no_desk at none) e = before e
  step_origin (Step.no_such_job is) e = before e
  step_origin (Step.no_packet none) e = before e
  step_origin (Step.job at is h) e = job_origin h e
  step_origin (Step.save at h) e = save_origin h e
  step_origin (Step.publish at h) e = publish_origin h e
  step_origin (Step.cancel at h) e = cancel_origin h e
  step_origin (Step.restart at h) e = restart_origin h e
  step_origin (Step.tell at h) e = tell_origin h e
  step_origin (Step.deliver there at h) e = deliver_origin h e

  joins_origin : {w : World} {number : ℕ} {kept : Kept} {reply : Reply} {w' : World} {move : Move}
      → Joins w number kept reply w' → item_at w'.packets k ≡ Some x → Origin w move reply
  joins_origin (Joins.there at) e = before e
  joins_origin (Joins.not_opened free h) e = before e
  joins_origin (Joins.clash free is left least) e = before e
  joins_origin (Joins.impostor free is left none least) e = before e
  joins_origin (Joins.joins free is left names no_clash no_stray) e = no_more e

  move_origin : (asked : Option Event) (w : World) (move : Move) (reply : Reply) (w' : World)
      → IsOwn asked move → Moves w move reply w' → item_at w'.packets k ≡ Some x → Origin w move reply
  move_origin asked w (Happens e) reply w' own h there = step_origin h there
  move_origin asked w (Comes number kept) reply w' own h there = joins_origin h there
  move_origin asked w (Returns number kept) reply w' own h there = elim own [ ]

  -- ---- over moments, and over lines

  record IsAnsweredAmong (ms : List Moment) : Type 0 where
    pub place : ℕ
    pub moment : Moment
    pub there : slice_get ms place ≡ Some moment
    pub answering : IsAnswering moment.move moment.reply k x

  moments_origin : (asked : Option Event) (w : World) (ms : List Moment) → AreOwn asked ms → IsRun w ms
      → item_at (end w ms).packets k ≡ Some x → (item_at w.packets k ≡ Some x) ⊎ IsAnsweredAmong ms
  moments_origin asked w [] own run e = inl e
  moments_origin asked w (m ∷ ms) own run e = elim (moments_origin asked m.after ms own.1 run.1 e) [
    | inr later ↦ inr (record {
      place = suc later.place;
      moment = later.moment;
      there = later.there;
      answering = later.answering;
    })
    | inl mid ↦ elim (move_origin asked w m.move m.reply m.after own.0 run.0 mid) [
      | before was ↦ inl was
      | answers a ↦ inr (record { place = zero; moment = m; there = refl; answering = a })
    ]
  ]

  module _ (openings : Openings) where
    -- of the line whose moment it is
    its_answer : (t : Turned) (ts : List Turned) (acted : IsActed openings t) → IsAnsweredAmong t.moments
        → IsAnswerOf (t ∷ ts) k x.from
    its_answer t ts acted h =
        let a = h.answering in
        let e = event.Deliver a.window x.from in
        let r : Reply = replies.Sent a.first a.count in
        let is : told_at h.moment.move h.moment.reply ≡ (e, r) ∷ [] =
        ap (λ y. told_at y h.moment.reply) a.move_is ∙ ap (λ y. told_at (Happens e) y) a.reply_is in
        let n = is_told e r t.moments h.place h.moment h.there is in
        let by = answered_is e r acted.turn.asked t.answer n.0
        (subst (λ xs. slice_get xs n.0 ≡ Some (e, r)) acted.turn.tells n.1) in
        record {
          window = a.window;
          first = a.first;
          count = a.count;
          answer = record {
            earlier = [];
            line = t;
            later = ts;
            lines_are = refl;
            asks = asks_it openings t acted e by.0;
            answered = by.1;
          };
          least = a.least;
          most = a.most;
        }

    later_answer : (t : Turned) (ts : List Turned) → IsAnswerOf ts k x.from → IsAnswerOf (t ∷ ts) k x.from
    later_answer t ts a =
        let h = a.answer in
        record {
          window = a.window;
          first = a.first;
          count = a.count;
          answer = record {
            earlier = t ∷ h.earlier;
            line = h.line;
            later = h.later;
            lines_are = ap (λ l. t ∷ l) h.lines_are;
            asks = h.asks;
            answered = h.answered;
          };
          least = a.least;
          most = a.most;
        }

    lines_origin : (w : World) (ts : List Turned) → AreActed openings ts → IsRun w (moments_of ts)
        → item_at (end w (moments_of ts)).packets k ≡ Some x
        → (item_at w.packets k ≡ Some x) ⊎ IsAnswerOf ts k x.from
    lines_origin w [] all run e = inl e
    lines_origin w (t ∷ ts) all run e =
        let front = run_front w t.moments (moments_of ts) run in
        let back = run_back w t.moments (moments_of ts) run in
        let e_back = subst (λ (v : World). item_at v.packets k ≡ Some x) (ends_on w t.moments (moments_of ts)) e in
        elim (lines_origin (end w t.moments) ts all.1 back e_back) [
          | inr later ↦ inr (later_answer t ts later)
          | inl mid ↦ elim (moments_origin all.0.turn.asked w t.moments all.0.own front mid) [
            | inl was ↦ inl was
            | inr a ↦ inr (its_answer t ts all.0 a)
          ]
        ]

-- ---- what was sent stays

goes_packets : {w w' : World} → Goes w w' → (k : ℕ) (x : Sent) → item_at w.packets k ≡ Some x
    → item_at w'.packets k ≡ Some x
goes_packets Goes.stays k x e = e
goes_packets {w} (Goes.tells other told at saved) k x e = stays_at w.packets _ k x e
goes_packets {w} (Goes.calls other sent admitted at does none) k x e = stays_at w.packets sent k x e
goes_packets {w} (Goes.joins other may) k x e = stays_at w.packets [] k x e

run_packets : (w : World) (ms : List Moment) → IsRun w ms → (k : ℕ) (x : Sent) → item_at w.packets k ≡ Some x
    → item_at (end w ms).packets k ≡ Some x
run_packets w [] run k x e = e
run_packets w (m ∷ ms) run k x e =
    run_packets m.after ms run.1 k x (goes_packets (moves_goes w m.move m.reply m.after run.0) k x e)

-- ---- nothing from elsewhere

-- what is begun by a job is an order
record IsOrdered (job : Job) : Type 0 where
  pub pid : Pid
  pub order : Order
  pub asked : job ≡ By pid (Orders order)

job_ordered : {w : World} {number desk upto : ℕ} {s : KeptNode} {job : Job} {name : Name} {w' : World}
    → JobAt w number s desk upto job (replies.Begun name) w' → IsOrdered job
job_ordered (JobAt.begun (Jobs.begun {pid = pid} look d _)) =
    let o = order_at d.does in
    record { pid = pid; order = o.order; asked = o.asked }

begun_order : {w : World} {number desk upto : ℕ} {job : Job} {name : Name} {w' : World}
    → Step w (event.Job number desk upto job) (replies.Begun name) w' → IsOrdered job
begun_order (Step.job at is h) = job_ordered h

taking_ops : {w : World} {packet number count : ℕ} {w' : World}
    → Step w (event.Deliver packet number) (replies.Taking count) w' → (x : Sent)
    → item_at w.packets packet ≡ Some x → BringsOps x.packet
unfolding BringsOps
taking_ops (Step.deliver {sent = s} e at (DeliverAt.ops {batch = batch} of h)) x there =
    subst (λ (y : Sent). (b : Batch) × ((y.packet ≡ packets.Full b) ⊎ (y.packet ≡ packets.Delta b)))
    (same_found e there) (batch, of)
taking_ops (Step.deliver e at (DeliverAt.have of h)) x there = elim h [ ]
taking_ops (Step.deliver e at (DeliverAt.message of h)) x there = elim h [ ]

module _ (N : ℕ → Type 0) (turns : List Turned) (last : World)
    (home : (k : ℕ) (x : Sent) → item_at last.packets k ≡ Some x → BringsOps x.packet
    → IsAnswerOf turns k x.from) where
  -- what is sent in the world is sent in the last one
  abbrev Grows : World → Type 0
  Grows w = (k : ℕ) (x : Sent) → item_at w.packets k ≡ Some x → item_at last.packets k ≡ Some x

  step_inside : (w : World) (e : Event) (reply : Reply) (w' : World) → Grows w → IsInsideBy N turns e
      → Step w e reply w' → IsInside N w (Happens e) reply
  step_inside w (event.Job number desk upto job) (replies.Begun name) w' grows inside step =
      let o = begun_order step in
      subst (λ j. IsInsideBy N turns (event.Job number desk upto j)) o.asked inside
  step_inside w (event.Deliver packet number) (replies.Taking count) w' grows inside step =
      λ one x there. inside one x.from (home packet x (grows packet x there) (taking_ops step x there))
  step_inside w e reply w' grows inside step = tt

  move_inside : (asked : Option Event) → ((e : Event) → asked ≡ Some e → IsInsideBy N turns e) → (w : World)
      (move : Move) (reply : Reply) (w' : World) → Grows w → IsOwn asked move → Moves w move reply w'
      → IsInside N w move reply
  move_inside asked inside w (Happens e) reply w' grows (its is) step =
      step_inside w e reply w' grows (inside e is) step
  move_inside asked inside w (Happens (event.Save number)) reply w' grows saves step = tt
  move_inside asked inside w (Happens (event.Publish number)) reply w' grows publishes step = tt
  move_inside asked inside w (Happens (event.Cancel number)) reply w' grows cancels step = tt
  move_inside asked inside w (Comes number kept) reply w' grows own step = tt
  move_inside asked inside w (Returns number kept) reply w' grows own step = tt

  moments_inside : (asked : Option Event) → ((e : Event) → asked ≡ Some e → IsInsideBy N turns e)
      → (w : World) (ms : List Moment) → IsRun w ms → AreOwn asked ms → Grows (end w ms) → AreInside N w ms
  moments_inside asked inside w [] run own grows = tt
  moments_inside asked inside w (m ∷ ms) run own grows = (
    move_inside asked inside w m.move m.reply m.after
        (λ k x e. grows k x (run_packets w (m ∷ ms) run k x e)) own.0 run.0,
    moments_inside asked inside m.after ms run.1 own.1 grows,
  )

  inside_on : (w : World) (ms ns : List Moment) → AreInside N w ms → AreInside N (end w ms) ns
      → AreInside N w (ms ++ ns)
  inside_on w [] ns first then = then
  inside_on w (m ∷ ms) ns first then = (first.0, inside_on m.after ms ns first.1 then)

  lines_inside : (openings : Openings) (ts : List Turned) → AreActed openings ts → AskInside N turns ts
      → (w : World) → IsRun w (moments_of ts) → Grows (end w (moments_of ts)) → AreInside N w (moments_of ts)
  lines_inside openings [] all inside w run grows = tt
  lines_inside openings (t ∷ ts) all inside w run grows =
      let front = run_front w t.moments (moments_of ts) run in
      let back = run_back w t.moments (moments_of ts) run in
      let ends = ends_on w t.moments (moments_of ts) in
      let grows_back : Grows (end (end w t.moments) (moments_of ts)) = subst Grows ends grows in
      inside_on w t.moments (moments_of ts)
      (moments_inside all.0.turn.asked
      (λ e is. inside t (zero, omega arith, refl) e (asks_it openings t all.0 e is)) w t.moments front all.0.own
      (λ k x e. grows_back k x (run_packets (end w t.moments) (moments_of ts) back k x e)))
      (lines_inside openings ts all.1
      (λ u there. inside u (Contains-cons t ts u there)) (end w t.moments) back grows_back)

-- ---- texts

text_is : (ops other : SetBy op_cmp) → said (text ops) ≡ said (text other) → ops ≡ other
text_is ops other is = cc

module _ (openings : Openings) (w : World) (number : ℕ) (s : KeptNode) (at : IsAt w number s)
    (ops : SetBy op_cmp) where
  tells_text : (what : Said) (v w' : World) → v ≡ w → what ≡ text ops → Tells v number what w'
      → ops ≡ set.of_list s.node.published
  tells_text what v w' same is (calls.running {s = other} there runs) =
      let here : IsAt v number s = subst (λ u. IsAt u number s) (sym same) at in
      let one : other ≡ s = same_found there here in
      text_is ops (set.of_list s.node.published)
      (ap said (sym is) ∙ ap (λ (y : KeptNode). said (text (set.of_list y.node.published))) one)
  tells_text what v w' same is (calls.stopped there why) = absurd (cc)

  once_text : (what : Said) (w' : World) → what ≡ text ops
      → OnceOpen openings w number (λ v. Tells v number) what w' → ops ≡ set.of_list s.node.published
  once_text what w' is (shut entered) = absurd (cc)
  once_text what w' is (opened (is_there there) done) = tells_text what w w' refl is done
  once_text what w' is (opened (joins none found step) done) = absurd (none_some none at)

  line_text : (old : Session) (answer : Answer) (w' : World) → old.world ≡ w → answer ≡ said (text ops)
      → AnswersLine openings old (line.Node number request.Text) answer w' → ops ≡ set.of_list s.node.published
  line_text old answer w' same is (asks {what} h) =
      let what_is : what ≡ text ops = cc in
      once_text what w' what_is (subst (λ u. OnceOpen openings u number (λ v. Tells v number) what w') same h)

  turn_text : (old : Session) (bytes : List ℕ) (answer : Answer) (new : Session) (alias : Option (List ℕ))
      → old.world ≡ w → IsReading old.aliases bytes (reading.Means (line.Node number request.Text) alias)
      → answer ≡ said (text ops) → Turn openings old bytes answer new → ops ≡ set.of_list s.node.published
  turn_text old bytes answer new alias same says is (inl h) =
      let read = one_reading old.aliases bytes h.reading
      (reading.Means (line.Node number request.Text) alias) h.says says in
      let does : AnswersNamed openings old (line.Node number request.Text) alias answer new =
      subst (λ x. AnswersReading openings old x answer new) read h.answered in
      line_text old answer new.world same is does.answered
  turn_text old bytes answer new alias same says is (inr h) = absurd (starved_text h.answered)
    where
      starved_text : answer ≡ starved_line → ⊥
      starved_text other = absurd (cc)

-- ---- what that comes to

-- the laws of worlds, as they are known where this is cited
abbrev pub Spreads : Type 0
Spreads = (w : World) (edges : List Edge) (parts : List (List Moment)) (a b : ℕ) (op : Op) → IsReached w
    → IsRun w (whole parts) → InEachPart edges parts → Path edges (length parts) a b → IsSavedAt w a op
    → IsSavedAt (end w (whole parts)) b op

abbrev pub Unites : Type 0
Unites = (w : World) (nodes : List ℕ) (edges : List Edge) (parts : List (List Moment)) (number : ℕ) (op : Op)
    → IsReached w → IsRun w (whole parts) → IsExchange nodes edges w parts → Contains nodes number
    → IsPublishedAt (end w (whole parts)) number op
    ↔ ((other : ℕ) × Contains nodes other × IsPublishedAt w other op)

module _ (openings : Openings) where
  -- the world before a turn is the one behind the others
  before_is : (old new : Session) (xs : List Turned) (t : Turned) (ys : List Turned)
      → AreTurns openings old (xs ++ (t ∷ ys)) new → t.before.world ≡ end old.world (moments_of xs)
  before_is old new [] t ys h = ap (λ (s : Session). s.world) h.0
  before_is old new (x ∷ xs) t ys h =
      let leads : end old.world x.moments ≡ x.after.world =
      subst (λ (s : Session). end s.world x.moments ≡ x.after.world) h.0 h.1.leads in
      before_is x.after new xs t ys h.2 ∙ ap (λ w. end w (moments_of xs)) (sym leads)
      ∙ sym (ends_on old.world x.moments (moments_of xs))

  module _ (spreads : Spreads) (unites : Unites) (new : Session) (turns : List Turned)
      (are : AreTurns openings begun turns new) (all : AreActed openings turns)
      (run : IsRun (empty_world 1) (moments_of turns)) where
    abbrev last : World
    last = end (empty_world 1) (moments_of turns)

    home : (k : ℕ) (x : Sent) → item_at last.packets k ≡ Some x → BringsOps x.packet → IsAnswerOf turns k x.from
    home k x there ops = elim (lines_origin k x ops openings (empty_world 1) turns all run there) [
      | inl none ↦ absurd (none_some refl none)
      | inr a ↦ a
    ]

    module _ (earlier : List Turned) (parts : List (List Turned)) (later : List Turned)
        (lines_are : turns ≡ earlier ++ (lines_of parts ++ later)) where
      abbrev mid : List Turned
      mid = lines_of parts

      abbrev first : World
      first = behind earlier

      split : moments_of turns ≡ moments_of earlier ++ (moments_of mid ++ moments_of later)
      split = ap moments_of lines_are ∙ moments_on earlier (mid ++ later)
          ∙ ap (λ l. moments_of earlier ++ l) (moments_on mid later)

      parted : IsRun (empty_world 1) (moments_of earlier ++ (moments_of mid ++ moments_of later))
      parted = subst (IsRun (empty_world 1)) split run

      reached : IsReached first
      reached = record {
        desks = 1;
        moments = moments_of earlier;
        is_run = run_front (empty_world 1) (moments_of earlier) (moments_of mid ++ moments_of later) parted;
        leads = refl;
      }

      rest_run : IsRun first (moments_of mid ++ moments_of later)
      rest_run = run_back (empty_world 1) (moments_of earlier) (moments_of mid ++ moments_of later) parted

      mid_run : IsRun first (moments_of mid)
      mid_run = run_front first (moments_of mid) (moments_of later) rest_run

      later_run : IsRun (end first (moments_of mid)) (moments_of later)
      later_run = run_back first (moments_of mid) (moments_of later) rest_run

      whole_run : IsRun first (whole (list_map moments_of parts))
      whole_run = subst (IsRun first) (sym (whole_is parts)) mid_run

      mid_acted : AreActed openings mid
      mid_acted = acted_front openings mid later
          (acted_back openings earlier (mid ++ later) (subst (AreActed openings) lines_are all))

      -- the world behind the parts
      behind_is : behind (earlier ++ mid) ≡ end first (whole (list_map moments_of parts))
      behind_is = ap (end (empty_world 1)) (moments_on earlier mid)
          ∙ ends_on (empty_world 1) (moments_of earlier) (moments_of mid)
          ∙ ap (end first) (sym (whole_is parts))

      last_is : last ≡ end (end first (moments_of mid)) (moments_of later)
      last_is = ap (end (empty_world 1)) split
          ∙ ends_on (empty_world 1) (moments_of earlier) (moments_of mid ++ moments_of later)
          ∙ ends_on first (moments_of mid) (moments_of later)

      spread : (edges : List Edge) (a b : ℕ) (op : Op) → InEachPartBy edges parts
          → Path edges (length parts) a b → IsSavedAt first a op → IsSavedAt (behind (earlier ++ mid)) b op
      spread edges a b op each path saved =
          subst (λ w. IsSavedAt w b op) (sym behind_is)
          (spreads first edges (list_map moments_of parts) a b op reached whole_run
          (parts_catch_up openings edges parts mid_acted each)
          (subst (λ n. Path edges n a b) (sym (count_is parts)) path) saved)

      module _ (nodes : List ℕ) (edges : List Edge)
          (exchange : IsExchangeBy turns nodes edges earlier parts later) where
        are_inside : AreInside (Contains nodes) first (moments_of mid)
        are_inside = lines_inside (Contains nodes) turns last home openings mid mid_acted exchange.inside first mid_run
            (λ k x e. subst (λ (w : World). item_at w.packets k ≡ Some x) (sym last_is)
            (run_packets (end first (moments_of mid)) (moments_of later) later_run k x e))

        of_worlds : IsExchange nodes edges first (list_map moments_of parts)
        of_worlds = record {
          each = parts_catch_up openings edges parts mid_acted exchange.each;
          connected = λ a b one other. subst (λ n. Path edges n a b) (sym (count_is parts))
              (exchange.connected a b one other);
          inside = subst (AreInside (Contains nodes) first) (sym (whole_is parts)) are_inside;
          before = exchange.before;
          after = λ number one. subst (λ w. IsIdle w number) behind_is (exchange.after number one);
        }

        union : (number : ℕ) (op : Op) → Contains nodes number
            → IsPublishedAt (behind (earlier ++ mid)) number op
            ↔ ((other : ℕ) × Contains nodes other × IsPublishedAt first other op)
        union number op one =
            subst (λ w. IsPublishedAt w number op
            ↔ ((other : ℕ) × Contains nodes other × IsPublishedAt first other op)) (sym behind_is)
            (unites first nodes edges (list_map moments_of parts) number op reached whole_run of_worlds one)

    module _ (earlier : List Turned) (parts : List (List Turned)) (t : Turned) (later : List Turned)
        (nodes : List ℕ) (edges : List Edge)
        (exchange : IsExchangeBy turns nodes edges earlier parts (t ∷ later)) where
      abbrev here : World
      here = behind (earlier ++ lines_of parts)

      told_before : t.before.world ≡ here
      told_before = before_is begun new (earlier ++ lines_of parts) t later
          (subst (λ l. AreTurns openings begun l new)
          (exchange.lines_are ∙ sym (append_assoc earlier (lines_of parts) (t ∷ later))) are)

      its_turn : IsActed openings t
      its_turn = (acted_back openings (lines_of parts) (t ∷ later)
          (acted_back openings earlier (lines_of parts ++ (t ∷ later))
          (subst (AreActed openings) exchange.lines_are all))).0

      shown : (number : ℕ) (ops : SetBy op_cmp) → Contains nodes number → IsTextOf t number ops → (op : Op)
          → In ops op ↔ IsPublishedAt here number op
      shown number ops one tells op =
          let idle = exchange.after number one in
          let is = turn_text openings here number idle.s idle.at ops t.before t.line t.answer t.after tells.alias
          told_before tells.says tells.answered its_turn.turn.turn in
          let listed = listed_in idle.s.node.published ops (sym is) op in (
            λ i. record { s = idle.s; at = idle.at; published = listed.1 i },
            λ p. listed.0 (subst (λ (y : KeptNode). Contains y.node.published op) (same_found p.at idle.at) p.published),
          )

      told_all : (number : ℕ) (ops : SetBy op_cmp) → Contains nodes number → IsTextOf t number ops → (op : Op)
          → In ops op ↔ ((other : ℕ) × Contains nodes other × IsPublishedAt (behind earlier) other op)
      told_all number ops one tells op =
          let in_text = shown number ops one tells op in
          let all_of = union earlier parts (t ∷ later) exchange.lines_are nodes edges exchange number op one in
          (λ i. all_of.0 (in_text.0 i), λ p. in_text.1 (all_of.1 p))

    pub exchanges : ExchangesAlong turns
    exchanges = record {
      idle = λ ts later number lines_are settled.
          settled_idle openings number new ts later
          (subst (λ l. AreTurns openings begun l new) lines_are are) settled;
      spread = λ earlier parts later edges a b op lines_are each path saved.
          spread earlier parts later lines_are edges a b op each path saved;
      union = λ earlier parts later nodes edges number op exchange one.
          union earlier parts later exchange.lines_are nodes edges exchange number op one;
      told = λ earlier parts t later nodes edges number ops exchange one tells op.
          told_all earlier parts t later nodes edges exchange number ops one tells op;
      texts = λ earlier parts more t u later rest nodes edges others a b ours theirs first second one other told too.
          same_members op_total op_exact ours theirs (λ op.
          let left = told_all earlier parts t later nodes edges first a ours one told op in
          let right = told_all earlier more u rest nodes others second b theirs other too op in
          (λ i. right.1 (left.0 i), λ i. left.1 (right.0 i)));
    }
