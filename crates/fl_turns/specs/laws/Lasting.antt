-- A script's lines are one run of worlds, along which all lasts.
use Rattle.std.proofs.Common.{◌≡◌, ◌⊎◌, ◌≤◌, ◌<◌, ◌+◌, ◌∙◌, ℕ, zero, suc, refl, sym, ap, subst, arith}
use Rattle.std.proofs.Common.{List, [], ◌∷◌, ◌++◌, Option, Some, inl, inr, length, map, take, slice_get}
use Rattle.std.proofs.lemmas.List.{length-append}
use Rattle.fl_bench.specs.laws.Puts.{none_some, same_found}
use Rattle.fl_labels.specs.declared.pid.Pid.{Pid}
use Rattle.fl_ops.specs.declared.op.Op.{Op}
use Rattle.fl_jobs.specs.declared.answer.Reply.TheVariants.{Emitted}
use Rattle.fl_jobs.specs.declared.job.Act.TheVariants.{Emit}
use Rattle.fl_jobs.specs.declared.job.Job.{Job}
use Rattle.fl_jobs.specs.declared.job.Job.TheVariants.{By}
use Rattle.fl_script.specs.declared.line.Line.TheVariants as line
use Rattle.fl_script.specs.declared.reading.Reading.{Reading}
use Rattle.fl_script.specs.declared.reading.Reading.TheVariants as reading
use Rattle.fl_script.specs.declared.request.Request.{Request}
use Rattle.fl_script.specs.declared.request.Request.TheVariants as request
use Rattle.fl_script.specs.Reading.{IsReading}
use Rattle.fl_script.specs.laws.OneReading.{one_reading}
use Rattle.fl_store.specs.Custody.{Custody}
use Rattle.fl_stream.specs.Output.{WritesOutput}
use Rattle.fl_makers.specs.Making.{Making}
use Rattle.fl_system.specs.declared.event.Event.{Event}
use Rattle.fl_system.specs.declared.event.Event.TheVariants as event
use Rattle.fl_system.specs.declared.reply.Reply.{Reply}
use Rattle.fl_system.specs.declared.reply.Reply.TheVariants as replies
use Rattle.fl_system.specs.Runs.{Move, Happens, Comes, Returns, Moment, IsRun, IsReached, end}
use Rattle.fl_system.specs.Taint.{world_at, IsEmission}
use Rattle.fl_system.specs.World.{World, empty_world}
use Rattle.fl_world.specs.Headline.{IsSafeWorld}
use Rattle.fl_world.specs.Lasting.{IsLastingWorld}
use Rattle.fl_world.proofs.Along.{between, run_take, run_between, end_between}
use Rattle.fl_kept_laws.specs.Told.{OffersKept, AllOfferKept, IsShownAt, IsKeptAt}
use Rattle.fl_calls.specs.Answer.{replied}
use Rattle.fl_calls.specs.Entering.{Openings}
use Rattle.fl_turns.specs.Answer.{Answer, said, starved_line}
use Rattle.fl_turns.specs.Lasting.{LetsOut, IsLetOut, Tells, DidHappen, ConfinesAlong, EndorsesAlong, GrantsAlong}
use Rattle.fl_turns.specs.Lasting.{KeepsAnswersAlong, LastsAlong, LastsFor, LastsScript}
use Rattle.fl_turns.specs.Leading.{IsPlain, ArePlain, Leads}
use Rattle.fl_turns.specs.Moments.{Asks, event_asked, asked_by, told, told_at, told_by}
use Rattle.fl_turns.specs.Moments.{Turned, IsTurn, AreTurns, moments_of, moments_before}
use Rattle.fl_turns.specs.Over.{SessionOver, TurnsOver, begun_over}
use Rattle.fl_turns.specs.Run.{Run}
use Rattle.fl_turns.specs.Session.{Session, begun}
use Rattle.fl_turns.specs.laws.Exchanging.{AreActed, Spreads, Unites, exchanges}
use Rattle.fl_turns.specs.laws.Leads.{runs_on, ends_on, plain_on, TurnDoes, turn_does}
use Rattle.fl_turns.specs.laws.Published.{turn_publishes}
use Rattle.fl_turns.specs.laws.Scripts.{one_run}
use Rattle.fl_turns.specs.laws.Telling.{slice_past, slice_within, slice_less, front, back, at_which}
use Rattle.fl_turns.specs.laws.Telling.{Happened, happened, is_told, answered_is}

-- ---- worlds and moments of runs

world_past : (w : World) (ms ns : List Moment) (n j : ℕ) → j ≡ length ms + n
    → world_at w (ms ++ ns) j ≡ world_at (end w ms) ns n
world_past w [] ns n j e =
    let same : j ≡ n = omega (arith, e) in ap (world_at w ns) same
world_past w (m ∷ ms) ns n zero e = absurd (omega (arith, e))
world_past w (m ∷ ms) ns n (suc j) e =
    let less : j ≡ length ms + n = omega (arith, e) in world_past m.after ms ns n j less

plain_take : (ms : List Moment) (j : ℕ) → ArePlain ms → ArePlain (take j ms)
plain_take ms zero plain = tt
plain_take [] (suc j) plain = tt
plain_take (m ∷ ms) (suc j) plain = (plain.0, plain_take ms j plain.1)

plain_between : (ms : List Moment) (i j : ℕ) → ArePlain ms → ArePlain (between ms i j)
plain_between ms zero j plain = plain_take ms j plain
plain_between [] (suc i) j plain = tt
plain_between (m ∷ ms) (suc i) zero plain = tt
plain_between (m ∷ ms) (suc i) (suc j) plain = plain_between ms i j plain.1

-- no stopped node is offered a keeper by a line
offers : (number : ℕ) (op : Op) (move : Move) (reply : Reply) → IsPlain move → OffersKept number op move reply
offers number op (Happens e) reply plain = tt
offers number op (Comes other kept) reply plain = tt
offers number op (Returns other kept) reply plain = absurd plain

all_offer : (number : ℕ) (op : Op) (ms : List Moment) → ArePlain ms → AllOfferKept number op ms
all_offer number op [] plain = tt
all_offer number op (m ∷ ms) plain =
    (offers number op m.move m.reply plain.0, all_offer number op ms plain.1)

reached_by : (w v : World) → IsReached w → Leads w v → IsReached v
reached_by w v reached h = record {
  desks = reached.desks;
  moments = reached.moments ++ h.moments;
  is_run = runs_on (empty_world reached.desks) reached.moments h.moments reached.is_run
      (subst (λ x. IsRun x h.moments) (sym reached.leads) h.is_run);
  leads = ends_on (empty_world reached.desks) reached.moments h.moments
      ∙ ap (λ x. end x h.moments) reached.leads ∙ h.leads;
}

-- ---- which lines emit

module _ (number desk upto : ℕ) (pid : Pid) (bytes : List ℕ) where
  abbrev emitting : Event
  emitting = event.Job number desk upto (By pid (Emit bytes))

  record IsEmitLine (r : Reading) : Type 0 where
    node : ℕ
    alias : Option (List ℕ)
    is : r ≡ reading.Means (line.Node node (request.Job (By pid (Emit bytes)))) alias

  job_of : Option Event → Job → Job
  job_of (Some (event.Job number desk upto job)) d = job
  job_of other d = d

  emit_request : (node : ℕ) (r : Request) → event_asked node r ≡ Some emitting → r ≡ request.Job (By pid (Emit bytes))
  unfolding job_of
  emit_request node (request.Job job) is = ap (λ x. request.Job (job_of x job)) is
  emit_request node (request.Begin p order) is = absurd (cc)
  emit_request node (request.Deliver packet) is = absurd (cc)
  emit_request node (request.BeginDeliver packet) is = absurd (cc)
  emit_request node request.Tell is = absurd (cc)
  emit_request node request.Save is = absurd (cc)
  emit_request node request.Publish is = absurd (cc)
  emit_request node request.Cancel is = absurd (cc)
  emit_request node (request.Restart kept) is = absurd (cc)
  emit_request node request.Text is = absurd (cc)
  emit_request node (request.Check packet) is = absurd (cc)

  emit_line : (r : Reading) → asked_by r ≡ Some emitting → IsEmitLine r
  emit_line reading.Quiet is = absurd (cc)
  emit_line reading.Bad is = absurd (cc)
  emit_line (reading.Means (line.Node node r) alias) is = record {
    node = node;
    alias = alias;
    is = ap (λ x. reading.Means (line.Node node x) alias) (emit_request node r is);
  }
  emit_line (reading.Means (line.Union first second) alias) is = absurd (cc)
  emit_line (reading.Means line.Audit alias) is = absurd (cc)
  emit_line (reading.Means line.Aliases alias) is = absurd (cc)

-- nothing is told of want of memory
not_starved : (e : Event) (r : Reply) → told e r ≡ (e, r) ∷ [] → said (replied r) ≡ starved_line → ⊥
not_starved e (replies.Refused fault) is starved = absurd (cc)
not_starved e reply is starved = absurd (cc)

module _ (openings : Openings) (t : Turned) (turn : IsTurn openings t) where
  -- what the line tells happens at one of its moments
  tells_so : (e : Event) (r : Reply) → Tells t e r → Happened e r t.moments
  tells_so e r h = elim turn.asks [
    | inl asks ↦
        let other = h.asks in
        let read : asks.reading ≡ other.reading =
        one_reading t.before.aliases t.line asks.reading other.reading asks.says other.says in
        let asked : turn.asked ≡ Some e = asks.is ∙ ap asked_by read ∙ sym other.is in
        happened e r t.moments
        (turn.tells ∙ ap (λ x. told_by x t.answer) asked ∙ ap (told_by (Some e)) h.answered ∙ h.is_told)
    | inr starved ↦ absurd (not_starved e r h.is_told (sym h.answered ∙ starved))
  ]

module _ (openings : Openings) (t : Turned) (turn : IsTurn openings t) (pid : Pid) where
  -- a moment at which the process emits is of a line by which it lets bytes out
  lets_out : (i : ℕ) (m : Moment) → slice_get t.moments i ≡ Some m → IsEmission m pid
      → (bytes : List ℕ) × LetsOut t pid bytes
  lets_out i m there h =
      let e = emitting h.number h.desk h.upto pid h.bytes in
      let r : Reply = replies.Job (Emitted h.bytes) in
      let is : told_at m.move m.reply ≡ (e, r) ∷ [] =
      ap (λ x. told_at x m.reply) h.asked ∙ ap (λ x. told_at (Happens e) x) h.answered in
      let n = is_told e r t.moments i m there is in
      let by = answered_is e r turn.asked t.answer n.0 (subst (λ xs. slice_get xs n.0 ≡ Some (e, r)) turn.tells n.1) in
      elim turn.asks [
        | inl asks ↦
            let read = emit_line h.number h.desk h.upto pid h.bytes asks.reading (sym asks.is ∙ by.0) in (
              h.bytes,
              record {
                number = read.node;
                alias = read.alias;
                says = subst (IsReading t.before.aliases t.line) read.is asks.says;
                answered = by.1;
              },
            )
        | inr starved ↦ absurd (cc (starved, by.1))
      ]

  -- a line by which the process lets bytes out has such a moment
  record Emits : Type 0 where
    place : ℕ
    moment : Moment
    there : slice_get t.moments place ≡ Some moment
    emission : IsEmission moment pid

  emits : (bytes : List ℕ) → LetsOut t pid bytes → Emits
  emits bytes out =
      let e = emitting out.number 1 18446744073709551615 pid bytes in
      let r : Reply = replies.Job (Emitted bytes) in
      let asks : Asks t.before.aliases t.line (Some e) = record {
        reading = reading.Means (line.Node out.number (request.Job (By pid (Emit bytes)))) out.alias;
        says = out.says;
        is = refl;
      } in
      let at = tells_so openings t turn e r (record { asks = asks; answered = out.answered; is_told = refl }) in
      record {
        place = at.place;
        moment = at.moment;
        there = at.there;
        emission = record {
          number = out.number;
          desk = 1;
          upto = 18446744073709551615;
          bytes = bytes;
          asked = at.move_is;
          answered = at.reply_is;
        };
      }

-- ---- turns, one after another

-- the lines were answered by these turns
record IsPlayed (openings : Openings) (old : Session) (lines : List (List ℕ)) (answers : List Answer)
    (new : Session) : Type 0 where
  turns : List Turned
  lines_are : map (λ (t : Turned). t.line) turns ≡ lines
  answers_are : map (λ (t : Turned). t.answer) turns ≡ answers
  are_turns : AreTurns openings old turns new
  acted : AreActed openings turns

asks_or_starved : (old : Session) (line : List ℕ) (answer : Answer) {new : Session}
    (does : TurnDoes old line answer new) → Asks old.aliases line does.asked ⊎ (answer ≡ starved_line)
asks_or_starved old line answer does = elim does.asks [ inl asks ↦ inl asks | inr none ↦ inr none.0 ]

played : (openings : Openings) (old : Session) (lines : List (List ℕ)) (answers : List Answer) (new : Session)
    → Run openings old lines answers new → IsPlayed openings old lines answers new
played openings old [] [] new h = record {
  turns = [];
  lines_are = refl;
  answers_are = refl;
  are_turns = h;
  acted = tt;
}
played openings old [] (answer ∷ answers) new h = absurd h
played openings old (line ∷ lines) [] new h = absurd h
played openings old (line ∷ lines) (answer ∷ answers) new h =
    let first = turn_does openings old line answer h.0 h.1 in
    let rest = played openings h.0 lines answers new h.2 in
    let does = first.acts.does in
    let t : Turned = record {
      before = old;
      line = line;
      answer = answer;
      moments = does.leads.moments;
      after = h.0;
    } in
    let turn : IsTurn openings t = record {
      turn = h.1;
      is_run = does.leads.is_run;
      plain = does.leads.plain;
      leads = does.leads.leads;
      asked = first.asked;
      asks = asks_or_starved old line answer first;
      tells = does.tells;
    } in
    record {
      turns = t ∷ rest.turns;
      lines_are = ap (λ l. line ∷ l) rest.lines_are;
      answers_are = ap (λ l. answer ∷ l) rest.answers_are;
      are_turns = (refl, turn, rest.are_turns);
      acted = (
        record { turn = turn; asks = first.asks; own = does.own; takes = first.acts.takes },
        rest.acted,
      );
    }

module _ (openings : Openings) where
  turn_at : (old new : Session) (ts : List Turned) (k : ℕ) (t : Turned) → AreTurns openings old ts new
      → slice_get ts k ≡ Some t → IsTurn openings t
  turn_at old new [] k t h there = absurd (none_some refl there)
  turn_at old new (x ∷ ts) zero t h there = subst (IsTurn openings) (same_found refl there) h.1
  turn_at old new (x ∷ ts) (suc k) t h there = turn_at x.after new ts k t h.2 there

  -- from the world before the first turn, and from where that ends
  from : (old : Session) (x : Turned) → x.before ≡ old → IsTurn openings x → IsRun old.world x.moments
  from old x is turn = subst (λ (s : Session). IsRun s.world x.moments) is turn.is_run

  ends : (old : Session) (x : Turned) → x.before ≡ old → IsTurn openings x → end old.world x.moments ≡ x.after.world
  ends old x is turn = subst (λ (s : Session). end s.world x.moments ≡ x.after.world) is turn.leads

  all_run : (old new : Session) (ts : List Turned) → AreTurns openings old ts new → IsRun old.world (moments_of ts)
  all_run old new [] h = tt
  all_run old new (x ∷ ts) h =
      runs_on old.world x.moments (moments_of ts) (from old x h.0 h.1)
      (subst (λ w. IsRun w (moments_of ts)) (sym (ends old x h.0 h.1)) (all_run x.after new ts h.2))

  all_lead : (old new : Session) (ts : List Turned) → AreTurns openings old ts new
      → end old.world (moments_of ts) ≡ new.world
  all_lead old new [] h = ap (λ (s : Session). s.world) (sym h)
  all_lead old new (x ∷ ts) h =
      ends_on old.world x.moments (moments_of ts)
      ∙ ap (λ w. end w (moments_of ts)) (ends old x h.0 h.1) ∙ all_lead x.after new ts h.2

  before_more : (x : Turned) (ts : List Turned) (k : ℕ)
      → moments_before (x ∷ ts) (suc k) ≡ length x.moments + moments_before ts k
  before_more x ts k = length-append x.moments (moments_of (take k ts))

  world_before : (old new : Session) (ts : List Turned) (k : ℕ) (t : Turned) → AreTurns openings old ts new
      → slice_get ts k ≡ Some t → world_at old.world (moments_of ts) (moments_before ts k) ≡ t.before.world
  world_before old new [] k t h there = absurd (none_some refl there)
  world_before old new (x ∷ ts) zero t h there =
      ap (λ (s : Session). s.world) (sym h.0) ∙ ap (λ (y : Turned). y.before.world) (same_found refl there)
  world_before old new (x ∷ ts) (suc k) t h there =
      world_past old.world x.moments (moments_of ts) (moments_before ts k) _ (before_more x ts k)
      ∙ ap (λ w. world_at w (moments_of ts) (moments_before ts k)) (ends old x h.0 h.1)
      ∙ world_before x.after new ts k t h.2 there

  world_after : (old new : Session) (ts : List Turned) (k : ℕ) (t : Turned) → AreTurns openings old ts new
      → slice_get ts k ≡ Some t → world_at old.world (moments_of ts) (moments_before ts (suc k)) ≡ t.after.world
  world_after old new [] k t h there = absurd (none_some refl there)
  world_after old new (x ∷ ts) zero t h there =
      world_past old.world x.moments (moments_of ts) (moments_before ts zero) _ (before_more x ts zero)
      ∙ ends old x h.0 h.1 ∙ ap (λ (y : Turned). y.after.world) (same_found refl there)
  world_after old new (x ∷ ts) (suc k) t h there =
      world_past old.world x.moments (moments_of ts) (moments_before ts (suc k)) _ (before_more x ts (suc k))
      ∙ ap (λ w. world_at w (moments_of ts) (moments_before ts (suc k))) (ends old x h.0 h.1)
      ∙ world_after x.after new ts k t h.2 there

  all_plain : (old new : Session) (ts : List Turned) → AreTurns openings old ts new → ArePlain (moments_of ts)
  all_plain old new [] h = tt
  all_plain old new (x ∷ ts) h =
      plain_on x.moments (moments_of ts) h.1.plain (all_plain x.after new ts h.2)

  -- a moment of a turn among all moments
  moment_at : (ts : List Turned) (k : ℕ) (t : Turned) (l : ℕ) (m : Moment) → slice_get ts k ≡ Some t
      → slice_get t.moments l ≡ Some m → slice_get (moments_of ts) (moments_before ts k + l) ≡ Some m
  moment_at [] k t l m there at = absurd (none_some refl there)
  moment_at (x ∷ ts) zero t l m there at =
      let same : t ≡ x = same_found there refl in
      slice_within x.moments (moments_of ts) l (0 + l) m (omega arith)
      (subst (λ (y : Turned). slice_get y.moments l ≡ Some m) same at)
  moment_at (x ∷ ts) (suc k) t l m there at =
      let more = before_more x ts k in
      let e : moments_before (x ∷ ts) (suc k) + l ≡ length x.moments + (moments_before ts k + l) = omega (arith, more) in
      slice_past x.moments (moments_of ts) (moments_before ts k + l) _ e ∙ moment_at ts k t l m there at

  before_next : (ts : List Turned) (k : ℕ) (t : Turned) → slice_get ts k ≡ Some t
      → moments_before ts (suc k) ≡ moments_before ts k + length t.moments
  before_next [] k t there = absurd (none_some refl there)
  before_next (x ∷ ts) zero t there =
      let more = before_more x ts zero in
      let same = ap (λ (y : Turned). length y.moments) (same_found there refl) in
      omega (arith, more, same)
  before_next (x ∷ ts) (suc k) t there =
      let low = before_more x ts k in
      let high = before_more x ts (suc k) in
      let rest = before_next ts k t there in
      omega (arith, low, high, rest)

  -- the turn of a moment
  record IsOfTurn (ts : List Turned) (i : ℕ) (m : Moment) : Type 0 where
    place : ℕ
    turn : Turned
    there : slice_get ts place ≡ Some turn
    first : moments_before ts place ≤ i
    last : i < moments_before ts (suc place)
    within : ℕ
    at : slice_get turn.moments within ≡ Some m

  of_turn : (ts : List Turned) (i : ℕ) (m : Moment) → slice_get (moments_of ts) i ≡ Some m → IsOfTurn ts i m
  of_turn [] i m at = absurd (none_some refl at)
  of_turn (x ∷ ts) i m at = elim (at_which x.moments (moments_of ts) i m at) [
    | front less here ↦
        let more = before_more x ts zero in
        record {
          place = zero;
          turn = x;
          there = refl;
          first = omega arith;
          last = omega (arith, less, more);
          within = i;
          at = here;
        }
    | back n is later ↦
        let rest = of_turn ts n m later in
        let low = before_more x ts rest.place in
        let high = before_more x ts (suc rest.place) in
        let least = rest.first in
        let most = rest.last in
        record {
          place = suc rest.place;
          turn = rest.turn;
          there = rest.there;
          first = omega (arith, is, low, least);
          last = omega (arith, is, high, most);
          within = rest.within;
          at = rest.at;
        }
  ]

-- ---- all lasts along them

module _ (safe : (w : World) → IsReached w → IsSafeWorld w)
    (lasting : (w : World) → IsReached w → IsLastingWorld w) (spreads : Spreads) (unites : Unites)
    (openings : Openings) where
  module _ (new : Session) (ts : List Turned) (are : AreTurns openings begun ts new) where
    abbrev ms : List Moment
    ms = moments_of ts

    is_run : IsRun (empty_world 1) ms
    is_run = all_run openings begun new ts are

    reached_at : (i : ℕ) → IsReached (world_at (empty_world 1) ms i)
    reached_at i = record { desks = 1; moments = take i ms; is_run = run_take (empty_world 1) ms i is_run; leads = refl }

    emission : (i : ℕ) (pid : Pid) (m : Moment) → slice_get ms i ≡ Some m → IsEmission m pid → IsLetOut ts i pid
    emission i pid m there is =
        let its = of_turn openings ts i m there in
        let out = lets_out openings its.turn (turn_at openings begun new ts its.place its.turn are its.there) pid its.within m its.at is in
        record {
          place = its.place;
          turn = its.turn;
          bytes = out.0;
          there = its.there;
          first = its.first;
          last = its.last;
          lets_out = out.1;
        }

    did_happen : (k : ℕ) (t : Turned) (e : Event) (r : Reply) → slice_get ts k ≡ Some t → Tells t e r
        → DidHappen ts k e r
    did_happen k t e r there tells =
        let at = tells_so openings t (turn_at openings begun new ts k t are there) e r tells in
        let less = slice_less t.moments at.place at.moment at.there in
        let next = before_next openings ts k t there in
        record {
          i = moments_before ts k + at.place;
          moment = at.moment;
          there = moment_at openings ts k t at.place at.moment there at.there;
          first = omega arith;
          last = omega (arith, less, next);
          move_is = at.move_is;
          reply_is = at.reply_is;
        }

    confines : ConfinesAlong ts
    confines = record {
      stays = λ tag i j pid p pure le lives.
          (lasting _ (reached_at zero)).confined.stays ms tag i j pid p is_run pure le lives;
      silent = λ tag i j pid m pure le there.
          (lasting _ (reached_at zero)).confined.silent ms tag i j pid m is_run pure le there;
      unsaid = λ tag i k pid bytes t pure le there out.
          let turn = turn_at openings begun new ts k t are there in
          let at = emits openings t turn pid bytes out in
          let further : i ≤ moments_before ts k + at.place = omega (arith, le) in
          (lasting _ (reached_at zero)).confined.silent ms tag i (moments_before ts k + at.place) pid at.moment
          is_run pure further (moment_at openings ts k t at.place at.moment there at.there) at.emission;
    }

    endorses : EndorsesAlong ts
    endorses = record {
      touched = λ tag i j first pid before now.
          (lasting _ (reached_at zero)).endorsed.touched ms tag i j first pid before now is_run;
      signed = λ tag endorsers i j first pid before now.
          (lasting _ (reached_at zero)).endorsed.signed ms tag endorsers i j first pid before now is_run;
    }

    grants : GrantsAlong ts
    unfolding reached_at
    grants = record {
      granted = λ i pid c. (lasting _ (reached_at i)).authority.granted (reached_at i) pid c;
      labels = λ i side tag pid p. (lasting _ (reached_at i)).authority.labels (reached_at i) side tag pid p;
    }

    keeps_answers : KeepsAnswersAlong ts
    keeps_answers = record {
      kept = λ k j number name t there told le.
          let turn = turn_at openings begun new ts k t are there in
          let ends = turn_publishes name openings t.before t.line t.answer t.after number told.request told.alias
          told.says told.answered turn.turn in
          let reached = reached_by t.before.world ends.before
          (subst IsReached (world_before openings begun new ts k t are there) (reached_at (moments_before ts k)))
          ends.leads in
          let answered = (lasting ends.before reached).answered in
          let is = answered.name t.after.world number name ends.step in
          let from = moments_before ts (suc k) in
          let rest = between ms from j in
          let stands = world_after openings begun new ts k t are there in
          let run = subst (λ w. IsRun w rest) stands (run_between (empty_world 1) ms from j is_run) in
          let leads = ap (λ w. end w rest) (sym stands) ∙ end_between (empty_world 1) ms from j le in
          let shown = answered.shown t.after.world (event.Publish number) (replies.Published name) rest number is.0
          ends.step is.2 run in
          let kept = answered.kept t.after.world (event.Publish number) (replies.Published name) rest number is.0
          ends.step is.2 run
          (all_offer number is.0 rest (plain_between ms from j (all_plain openings begun new ts are))) in (
            is.0,
            is.1,
            subst (λ w. IsShownAt w number is.0) leads shown,
            subst (λ w. IsKeptAt w number is.0) leads kept,
          );
    }

    all_lasts : AreActed openings ts → LastsAlong ts
    all_lasts acted = record {
      safe = λ i. safe _ (reached_at i);
      lasting = λ i. lasting _ (reached_at i);
      confined = confines;
      endorsed = endorses;
      granted = grants;
      answered = keeps_answers;
      exchanges = exchanges openings spreads unites new ts are acted is_run;
    }

  pub run_lasts : (lines : List (List ℕ)) (answers : List Answer) (new : Session)
      → Run openings begun lines answers new → LastsFor openings lines answers new
  run_lasts lines answers new run =
      let h = played openings begun lines answers new run in
      record {
        turns = h.turns;
        lines_are = h.lines_are;
        answers_are = h.answers_are;
        are_turns = h.are_turns;
        is_run = is_run new h.turns h.are_turns;
        leads = all_lead openings begun new h.turns h.are_turns;
        before = λ k t there. world_before openings begun new h.turns k t h.are_turns there;
        happened = did_happen new h.turns h.are_turns;
        emissions = emission new h.turns h.are_turns;
        lasts = all_lasts new h.turns h.are_turns h.acted;
      }

-- ---- so it is of what is written over keepers

module _ {K M : Type 0} (custody : Custody K) (making : Making M K) (start : M)
    (safe : (w : World) → IsReached w → IsSafeWorld w)
    (lasting : (w : World) → IsReached w → IsLastingWorld w) (spreads : Spreads) (unites : Unites) where
  pub lasts_script : (old new : Option (List ℕ)) (script : List ℕ) (status : ℕ) (end : SessionOver K M)
      → WritesOutput (TurnsOver custody making) (begun_over start) old new script status end
      → LastsScript custody making start old new script status end
  lasts_script old new script status end h =
      let all = one_run custody making start _ h.text status end h.output in
      record {
        text = h.text;
        written = h.written;
        lasting_run = record {
          each = λ honest w is.
              let one = all.each honest w is in
              record {
                one_run = one;
                lasts = run_lasts safe lasting spreads unites _ _ one.answered.answers _ one.answered.run;
              };
        };
      }
