-- A node that was served, and that no line unsettled, is there, and nothing is pending at it.
use Rattle.std.proofs.Common.{◌≡◌, ◌∙◌, ◌++◌, ℕ, sym, ap, subst}
use Rattle.std.proofs.Common.{List, [], ◌∷◌, Option, Some, inl, inr, refl, arith, zero}
use Rattle.std.specs.FinMap as map
use Rattle.std.specs.List.{Contains}
use Rattle.std.specs.Ordering.{nat_cmp}
use Rattle.fl_bench.specs.laws.Puts.{none_some}
use Rattle.fl_opset.specs.laws.Members.{Contains-cons}
use Rattle.fl_round_laws.specs.Round.{IsIdle}
use Rattle.fl_script.specs.declared.line.Line.TheVariants as line
use Rattle.fl_script.specs.declared.reading.Reading.TheVariants as reading
use Rattle.fl_script.specs.declared.request.Request.{Request}
use Rattle.fl_script.specs.declared.request.Request.TheVariants as request
use Rattle.fl_script.specs.Reading.{IsReading}
use Rattle.fl_script.specs.laws.OneReading.{one_reading}
use Rattle.fl_store.specs.Kept.{Kept, raised}
use Rattle.fl_system.specs.declared.event.Event.{Event}
use Rattle.fl_system.specs.declared.reply.Reply.{Reply}
use Rattle.fl_system.specs.declared.reply.Reply.TheVariants as replies
use Rattle.fl_system.specs.Joins.{Joins}
use Rattle.fl_system.specs.Openings.{opened as opened_node}
use Rattle.fl_system.specs.Runs.{Moment, IsRun, end}
use Rattle.fl_system.specs.World.{World, KeptNode}
use Rattle.fl_system.specs.WorldSteps.{IsAt, Step}
use Rattle.fl_system_laws.specs.Goes.{Goes}
use Rattle.fl_system_laws.specs.laws.Going.{moves_goes}
use Rattle.fl_world_laws.specs.laws.Nodes.{Stays, is_replaced, is_still, stays_there, at_key}
use Rattle.fl_calls.specs.Answer.{Answer as Said, replied}
use Rattle.fl_calls.specs.Calls as calls
use Rattle.fl_calls.specs.Calls.{Says, Delivers, BeginsToTake, Tells, ChecksAt}
use Rattle.fl_calls.specs.Completing.{starved, Completes}
use Rattle.fl_calls.specs.Entering.{Openings, is_there, joins, OnceOpen, shut, opened}
use Rattle.fl_turns.specs.Answer.{Answer, said}
use Rattle.fl_turns.specs.Exchanging.{behind, IsServing, IsSettledBy, Unsettles}
use Rattle.fl_turns.specs.Leading.{Leads}
use Rattle.fl_turns.specs.Moments.{Turned, AreTurns, moments_of}
use Rattle.fl_turns.specs.Session.{Session, begun}
use Rattle.fl_turns.specs.Turn.{AsksNode, AnswersLine, asks, AnswersNamed, AnswersReading, Turn}
use Rattle.fl_turns.specs.laws.Leads.{ends_on, runs_on, stays, step_leads, completes_leads}
use Rattle.fl_turns.specs.laws.Settling.{IsAtRest, turn_rests}

-- ---- a node stays there

abbrev IsThere : World → ℕ → Type 0
IsThere w number = (s : KeptNode) × IsAt w number s

put_there : (w : World) (k : ℕ) (new : KeptNode) (number : ℕ) → IsThere w number
    → (s : KeptNode) × (map.get (map.insert w.nodes k new) number ≡ Some s)
put_there w k new number (s, at) = by_stay (stays_there w.nodes k new number s at)
  where
    by_stay : Stays w.nodes k new number s → (x : KeptNode) × (map.get (map.insert w.nodes k new) number ≡ Some x)
    by_stay (is_replaced is) =
        (new, subst (λ j. map.get (map.insert w.nodes k new) j ≡ Some new) (sym is) (at_key w.nodes k new))
    by_stay (is_still stands) = (s, stands)

goes_there : {w w' : World} → Goes w w' → (number : ℕ) → IsThere w number → IsThere w' number
goes_there Goes.stays number there = there
goes_there (Goes.tells other told at saved) number there = there
goes_there {w} (Goes.calls other sent admitted at does none) number there = put_there w other _ number there
goes_there {w} (Goes.joins other may) number there = put_there w other _ number there

run_there : (w : World) (ms : List Moment) → IsRun w ms → (number : ℕ) → IsThere w number
    → IsThere (end w ms) number
run_there w [] run number there = there
run_there w (m ∷ ms) run number there =
    run_there m.after ms run.1 number (goes_there (moves_goes w m.move m.reply m.after run.0) number there)

leads_there : (w w' : World) → Leads w w' → (number : ℕ) → IsThere w number → IsThere w' number
leads_there w w' h number there =
    subst (λ v. IsThere v number) h.leads (run_there w h.moments h.is_run number there)

joins_there : {w : World} {k : ℕ} {kept : Kept} {boot : ℕ} {w' : World} → Joins w k kept (replies.Booted boot) w'
    → IsThere w' k
joins_there {w} {k} {kept} (Joins.joins free of left names no_clash no_stray) =
    let new : KeptNode = record { node = opened_node w.desks kept; kept = raised kept } in
    (new, at_key w.nodes k new)

-- ---- a line that serves it

module _ (reply : Reply) (serving : IsServing reply) where
  once_there : {openings : Openings} {w w' : World} {k : ℕ} {does : World → Said → World → Type 0} {what : Said}
      → what ≡ replied reply → ((v : World) → does v what w' → Leads v w')
      → OnceOpen openings w k does what w' → IsThere w' k
  once_there is each (shut {fault} entered) =
      let refused : reply ≡ replies.Refused fault = cc in absurd (subst IsServing refused serving)
  once_there {w = w} {k = k} is each (opened (is_there {s} at) done) = leads_there w _ (each w done) k (s, at)
  once_there {k = k} is each (opened {between = v} (joins none found h) done) =
      leads_there v _ (each v done) k (joins_there h)

  asked_there : {openings : Openings} {w w' : World} (k : ℕ) (e : Event) {says : Reply → Said} {what : Said}
      → what ≡ replied reply → OnceOpen openings w k (λ v. Says says (Completes v e)) what w' → IsThere w' k
  asked_there {w' = w'} k e is = once_there is (λ v h. completes_leads v w' e h.0 h.2)

  begun_there : {openings : Openings} {w w' : World} (k : ℕ) (e : Event) {what : Said}
      → what ≡ replied reply → OnceOpen openings w k (λ v. Says replied (Step v e)) what w' → IsThere w' k
  begun_there {w' = w'} k e is = once_there is (λ v h. step_leads v w' e h.0 h.2)

  delivers_there : {openings : Openings} {w w' : World} {k packet : ℕ} {what : Said} → what ≡ replied reply
      → Delivers openings w k packet what w' → IsThere w' k
  delivers_there is (calls.not_sent none) = absurd (cc)
  delivers_there {k = k} is (calls.comes there once) = asked_there k _ is once

  takes_there : {openings : Openings} {w w' : World} {k packet : ℕ} {what : Said} → what ≡ replied reply
      → BeginsToTake openings w k packet what w' → IsThere w' k
  takes_there is (calls.not_sent none) = absurd (cc)
  takes_there is (calls.no_ops there none) = absurd (cc)
  takes_there {k = k} is (calls.comes there some once) = begun_there k _ is once

  tells_leads : {v w' : World} {k : ℕ} {what : Said} → Tells v k what w' → Leads v w'
  tells_leads {v} (calls.running at runs) = stays v
  tells_leads {v} (calls.stopped at why) = stays v

  checks_leads : {v w' : World} {k : ℕ} {bytes : List ℕ} {what : Said} → ChecksAt v k bytes what w' → Leads v w'
  checks_leads {v} (calls.no_packet fault) = stays v
  checks_leads {v} (calls.no_room head some) = stays v
  checks_leads {v} (calls.tells at one told) = stays v
  checks_leads {v} (calls.refuses at one why) = stays v

  node_there : (openings : Openings) (w w' : World) (k : ℕ) (r : Request) (what : Said) → what ≡ replied reply
      → AsksNode openings w k r what w' → IsThere w' k
  node_there openings w w' k (request.Job job) what is h = asked_there k _ is h
  node_there openings w w' k (request.Begin pid order) what is h = begun_there k _ is h
  node_there openings w w' k (request.Deliver packet) what is h = delivers_there is h
  node_there openings w w' k (request.BeginDeliver packet) what is h = takes_there is h
  node_there openings w w' k request.Tell what is h = asked_there k _ is h
  node_there openings w w' k request.Save what is h = asked_there k _ is h
  node_there openings w w' k request.Publish what is h = asked_there k _ is h
  node_there openings w w' k request.Cancel what is h = asked_there k _ is h
  node_there openings w w' k (request.Restart kept) what is h = asked_there k _ is h
  node_there openings w w' k request.Text what is h = once_there is (λ v done. tells_leads done) h
  node_there openings w w' k (request.Check bytes) what is h = once_there is (λ v done. checks_leads done) h

  line_there : (openings : Openings) (old : Session) (k : ℕ) (r : Request) (answer : Answer) (w' : World)
      → answer ≡ said (replied reply) → AnswersLine openings old (line.Node k r) answer w' → IsThere w' k
  line_there openings old k r answer w' is (asks {what} h) =
      let what_is : what ≡ replied reply = cc in node_there openings old.world w' k r what what_is h

  turn_there : (openings : Openings) (old : Session) (bytes : List ℕ) (answer : Answer) (new : Session) (k : ℕ)
      (r : Request) (alias : Option (List ℕ))
      → IsReading old.aliases bytes (reading.Means (line.Node k r) alias) → answer ≡ said (replied reply)
      → Turn openings old bytes answer new → IsThere new.world k
  turn_there openings old bytes answer new k r alias says is (inl h) =
      let read = one_reading old.aliases bytes h.reading (reading.Means (line.Node k r) alias) h.says says in
      let does : AnswersNamed openings old (line.Node k r) alias answer new =
      subst (λ x. AnswersReading openings old x answer new) read h.answered in
      line_there openings old k r answer new.world is does.answered
  turn_there openings old bytes answer new k r alias says is (inr h) =
      let fed : reply ≡ starved = cc (is, h.answered) in absurd (subst IsServing fed serving)

-- ---- over lines

module _ (openings : Openings) (number : ℕ) where
  -- the session behind the first of some turns
  record IsBehind (old : Session) (xs ys : List Turned) (new : Session) : Type 0 where
    pub mid : Session
    pub front : AreTurns openings old xs mid
    pub back : AreTurns openings mid ys new

  behind_front : (old : Session) (xs ys : List Turned) (new : Session) → AreTurns openings old (xs ++ ys) new
      → IsBehind old xs ys new
  behind_front old [] ys new h = record { mid = old; front = refl; back = h }
  behind_front old (x ∷ xs) ys new h =
      let rest = behind_front x.after xs ys new h.2 in
      record { mid = rest.mid; front = (h.0, h.1, rest.front); back = rest.back }

  leads_to : (old new : Session) (ts : List Turned) → AreTurns openings old ts new
      → end old.world (moments_of ts) ≡ new.world
  leads_to old new [] h = ap (λ (s : Session). s.world) (sym h)
  leads_to old new (x ∷ xs) h =
      let first : end old.world x.moments ≡ x.after.world =
      subst (λ (s : Session). end s.world x.moments ≡ x.after.world) h.0 h.1.leads in
      ends_on old.world x.moments (moments_of xs) ∙ ap (λ w. end w (moments_of xs)) first
      ∙ leads_to x.after new xs h.2

  run_of : (old new : Session) (ts : List Turned) → AreTurns openings old ts new → IsRun old.world (moments_of ts)
  run_of old new [] h = tt
  run_of old new (x ∷ xs) h =
      let first = subst (λ (s : Session). IsRun s.world x.moments) h.0 h.1.is_run in
      let leads : end old.world x.moments ≡ x.after.world =
      subst (λ (s : Session). end s.world x.moments ≡ x.after.world) h.0 h.1.leads in
      runs_on old.world x.moments (moments_of xs) first
      (subst (λ w. IsRun w (moments_of xs)) (sym leads) (run_of x.after new xs h.2))

  -- no line of the node unsettles it
  abbrev AreCalm : List Turned → Type 0
  AreCalm ts = (t : Turned) → Contains ts t → (r : Request) (alias : Option (List ℕ))
      → IsReading t.before.aliases t.line (reading.Means (line.Node number r) alias) → (reply : Reply)
      → t.answer ≡ said (replied reply) → ¬ Unsettles reply

  all_rest : (old new : Session) (ts : List Turned) → AreTurns openings old ts new → AreCalm ts
      → IsAtRest old.world number → IsAtRest new.world number
  all_rest old new [] h calm rest = subst (λ (s : Session). IsAtRest s.world number) (sym h) rest
  all_rest old new (x ∷ xs) h calm rest =
      let here = subst (λ (s : Session). IsAtRest s.world number) (sym h.0) rest in
      all_rest x.after new xs h.2 (λ t there. calm t (Contains-cons x xs t there))
      (turn_rests number openings x.before x.line x.answer x.after
      (λ r alias says reply is. calm x (zero, omega arith, refl) r alias says reply is) h.1.turn here)

  pub settled_idle : (new : Session) (ts later : List Turned) → AreTurns openings begun (ts ++ later) new
      → IsSettledBy ts number → IsIdle (behind ts) number
  settled_idle new ts later are settled =
      let b = behind_front begun ts later new are in
      let served = settled.served in
      let c = behind_front begun served.earlier (served.line ∷ served.later) b.mid
      (subst (λ l. AreTurns openings begun l b.mid) served.lines_are b.front) in
      let there = turn_there served.reply served.serving openings served.line.before served.line.line
      served.line.answer served.line.after number served.request served.alias served.says served.answered
      c.back.1.turn in
      let last = subst (λ w. IsThere w number) (leads_to served.line.after b.mid served.later c.back.2)
      (run_there served.line.after.world (moments_of served.later)
      (run_of served.line.after b.mid served.later c.back.2) number there) in
      let leads = leads_to begun b.mid ts b.front in
      elim (all_rest begun b.mid ts b.front settled.settled (inl (map.get-empty nat_cmp number))) [
        | inl none ↦ absurd (none_some none last.1)
        | inr idle ↦ subst (λ w. IsIdle w number) (sym leads) idle
      ]
