-- A line has one answer, where the keepers of its nodes open one way.
use Rattle.std.proofs.Common.{◌≡◌, ◌≢◌, ◌∙◌, inl, inr, ℕ, true, List, [], ◌∷◌, ◌++◌, length, take, None, Some, refl, sym, ap, subst, Result, Ok, Err, arith}
use Rattle.std.specs.List.{All, AllByRecursion}
use Rattle.std.proofs.lemmas.List.Elements.{recursion_from_All}
use Rattle.fl_bench.specs.laws.Puts.{none_some, same_found}
use Rattle.fl_ops.specs.declared.format.Format.{Format}
use Rattle.fl_ops.specs.Grammar.{first_fault}
use Rattle.fl_store.specs.Kept.{Kept}
use Rattle.fl_jobs.specs.declared.answer.Refusal.TheVariants.{Memory}
use Rattle.fl_wire.specs.PacketBytes.{packet_bytes}
use Rattle.fl_wire.specs.PacketFits.{HasPacket}
use Rattle.fl_wire.specs.PacketGrammar.{packet_fields, packet_fault}
use Rattle.fl_wire.specs.declared.packet.Packet.{Packet}
use Rattle.fl_wire.specs.declared.packet.Packet.TheVariants as packets
use Rattle.fl_labels.specs.SetBy as set
use Rattle.fl_system.specs.declared.answer.Fault.{Fault}
use Rattle.fl_system.specs.declared.answer.Fault.TheVariants as faults
use Rattle.fl_system.specs.declared.event.Event.{Event}
use Rattle.fl_system.specs.declared.event.Event.TheVariants as event
use Rattle.fl_system.specs.declared.reply.Reply.{Reply}
use Rattle.fl_system.specs.declared.reply.Reply.TheVariants.{Job, Begun, Taking, Took, Published, Done, Booted, Sent as IsSent, NoSuch, Refused}
use Rattle.fl_system.specs.declared.sent.Sent.{Sent}
use Rattle.fl_system.specs.declared.state.State.{State}
use Rattle.fl_system.specs.declared.state.State.TheVariants.{Running, Stopped}
use Rattle.fl_system.specs.Joins.{Joins}
use Rattle.fl_system.specs.Runs.{Move, Happens, Comes, Returns, Moves, Moment, IsRun, end}
use Rattle.fl_system.specs.Waiting.{IsRunning, NotRunning}
use Rattle.fl_system.specs.World.{World, KeptNode, empty_world}
use Rattle.fl_system.specs.WorldSteps.{Step, IsAt, node_of}
use Rattle.fl_system_laws.specs.Goes.{Goes}
use Rattle.fl_system_laws.specs.laws.Going.{moves_goes}
use Rattle.fl_node.specs.Checking.{Checks}
use Rattle.fl_one_laws.specs.Ample.{IsAmple, HasDesk, HaveOwn, IsAtDesk}
use Rattle.fl_one_laws.specs.laws.Benches.{one_stop, not_both}
use Rattle.fl_one_laws.specs.laws.Desks.{reached_desks, at_desk}
use Rattle.fl_one_laws.specs.laws.Joinings.{one_joining}
use Rattle.fl_one_laws.specs.laws.Owners.{empty_owned, step_owned, joins_owned, step_settled}
use Rattle.fl_one_laws.specs.laws.Steps.{one_step}
use Rattle.fl_script.specs.declared.line.Line.{Line}
use Rattle.fl_script.specs.declared.reading.Reading.{Reading}
use Rattle.fl_script.specs.declared.reading.Reading.TheVariants as reading
use Rattle.fl_script.specs.declared.request.Request.{Request}
use Rattle.fl_script.specs.declared.request.Request.TheVariants as request
use Rattle.fl_script.specs.laws.OneReading.{one_reading}
use Rattle.fl_calls.specs.Answer.{Answer as Said, replied, text, checked, bad_packet}
use Rattle.fl_calls.specs.Entering.{Openings, Enters, is_there, joins, is_refused, OnceOpen, shut, opened}
use Rattle.fl_calls.specs.Completing.{begins, starved, Finishes, given_up, not_saved, saved, Completes, at_once, in_steps}
use Rattle.fl_calls.specs.Calls as calls
use Rattle.fl_wire.specs.Spelling.{Spells}
use Rattle.fl_calls.specs.Calls.{Says, said_of, counted, Delivers, BeginsToTake, Tells, Unites, ChecksAt}
use Rattle.fl_turns.specs.Answer.{Answer, said}
use Rattle.fl_turns.specs.Naming.{made_by, renamed}
use Rattle.fl_turns.specs.Run.{Run}
use Rattle.fl_turns.specs.Session.{Session, begun}
use Rattle.fl_turns.specs.Turn.{AsksNode, AnswersLine, asks, unites, counts, lists, AnswersReading, Turn}
use Rattle.fl_turn_laws.specs.Certain.{IsSure, OpenOneWay, RefusesOver, no_room, keeper_failed, another, not_joined}
use Rattle.fl_turns.specs.Leading.{IsPlain, ArePlain, Leads}
use Rattle.fl_turns.specs.laws.Leads.{stays, then_, enters_leads, step_leads, turn_leads, is_reached}
use Rattle.fl_turn_laws.proofs.OneCheck.{one_check}
use Rattle.fl_turn_laws.proofs.RefusedAgain.{refused_before}

-- ---- worlds of one desk

move_desks : {w a : World} → Goes w a → a.desks ≡ w.desks
move_desks Goes.stays = refl
move_desks (Goes.tells number told at known) = refl
move_desks (Goes.calls number sent admitted at does none) = refl
move_desks (Goes.joins number may) = refl

run_desks : (w : World) (ms : List Moment) → IsRun w ms → (end w ms).desks ≡ w.desks
run_desks w [] run = refl
run_desks w (m ∷ ms) run =
    run_desks m.after ms run.1 ∙ move_desks (moves_goes w m.move m.reply m.after run.0)

-- a script leads here
Fit : World → Type 0
Fit w = Leads (empty_world 1) w

has_desk : (w : World) (e : Event) → Fit w → IsAtDesk 1 e → HasDesk w e
unfolding Fit
has_desk w e fit is =
    let desks : w.desks ≡ 1 =
    sym (ap (λ (x : World). x.desks) fit.leads) ∙ run_desks (empty_world 1) fit.moments fit.is_run in
    at_desk w (reached_desks w (is_reached w fit)) e (subst (λ count. IsAtDesk count e) (sym desks) is)

-- a script opens no node over another keeper, so what is kept of each is its own
move_own : (w : World) (move : Move) (reply : Reply) (a : World) → HaveOwn w → Moves w move reply a → IsPlain move → HaveOwn a
move_own w (Happens event) reply a own does plain = step_owned own does
move_own w (Comes number k) reply a own does plain = joins_owned own does
move_own w (Returns number k) reply a own does plain = absurd plain

run_own : (w : World) (ms : List Moment) → HaveOwn w → IsRun w ms → ArePlain ms → HaveOwn (end w ms)
run_own w [] own run plain = own
run_own w (m ∷ ms) own run plain =
    run_own m.after ms (move_own w m.move m.reply m.after own run.0 plain.0) run.1 plain.1

has_own : (w : World) → Fit w → HaveOwn w
unfolding Fit
has_own w fit =
    subst HaveOwn fit.leads (run_own (empty_world 1) fit.moments (empty_owned 1) fit.is_run fit.plain)

-- ---- what is sure

not_sure : IsAmple starved → ⊥
not_sure sure = sure.memory refl

sure_booted : (boot : ℕ) → IsAmple (Booted boot)
sure_booted boot = record { memory = λ e. cc; keeper = λ e. cc }

sure_done : IsAmple Done
sure_done = record { memory = λ e. cc; keeper = λ e. cc }

sure_begun : (reply : Reply) → begins reply ≡ true → IsAmple reply
sure_begun reply some = record {
  memory = λ e. absurd (cc (ap begins e, some));
  keeper = λ e. absurd (cc (ap begins e, some));
}

step_one : (w : World) (e : Event) (r s : Reply) (a b : World) → Fit w → IsAtDesk 1 e → Step w e r a → Step w e s b
    → IsAmple r → IsAmple s → (r ≡ s) × (a ≡ b)
step_one w e r s a b fit desk h k p q =
    let one = one_step w e r s a b h k p q (has_desk w e fit desk) in
    (one.0, one.1 (step_settled (has_own w fit) h))

fit_step : (w a : World) (e : Event) (r : Reply) → Fit w → Step w e r a → Fit a
unfolding Fit
fit_step w a e r fit h = then_ (empty_world 1) w a fit (step_leads w a e r h)

-- ---- what is begun and finished

finishes_one : (w : World) (number : ℕ) (r s : Reply) (a b : World) → Fit w → Finishes w number r a → Finishes w number s b
    → IsAmple r → IsAmple s → (r ≡ s) × (a ≡ b)
finishes_one w number r s a b fit (given_up first second) k p q = absurd (not_sure p)
finishes_one w number r s a b fit h (given_up first second) p q = absurd (not_sure q)
finishes_one w number r s a b fit (not_saved isnt fed step) (not_saved isnt' fed' step') p q =
    step_one w (event.Save number) r s a b fit tt step step' p q
finishes_one w number r s a b fit (not_saved isnt fed step) (saved {between} first second) p q =
    absurd (isnt (step_one w (event.Save number) r Done a between fit tt step first p sure_done).0)
finishes_one w number r s a b fit (saved {between} first second) (not_saved isnt fed step) p q =
    absurd (isnt (step_one w (event.Save number) s Done b between fit tt step first q sure_done).0)
finishes_one w number r s a b fit (saved {between} first second) (saved {between = other} first' second') p q =
    let same = step_one w (event.Save number) Done Done between other fit tt first first' sure_done sure_done in
    step_one between (event.Publish number) r s a b (fit_step w between _ _ fit first) tt second
    (subst (λ x. Step x (event.Publish number) s b) (sym same.1) second') p q

completes_one : (w : World) (e : Event) (r s : Reply) (a b : World) → Fit w → IsAtDesk 1 e → Completes w e r a
    → Completes w e s b → IsAmple r → IsAmple s → (r ≡ s) × (a ≡ b)
completes_one w e r s a b fit desk (at_once none step) (at_once none' step') p q = step_one w e r s a b fit desk step step' p q
completes_one w e r s a b fit desk (at_once none step) (in_steps {first} {between} some step' rest) p q =
    let same = (step_one w e r first a between fit desk step step' p (sure_begun first some)).0 in
    absurd (cc (none, some, ap begins same))
completes_one w e r s a b fit desk (in_steps {first} {between} some step rest) (at_once none step') p q =
    let same = (step_one w e s first b between fit desk step' step q (sure_begun first some)).0 in
    absurd (cc (none, some, ap begins same))
completes_one w e r s a b fit desk (in_steps {first} {between} some step rest) (in_steps {first = first'} {between = other} some' step' rest') p q =
    let same = step_one w e first first' between other fit desk step step' (sure_begun first some) (sure_begun first' some') in
    finishes_one between (node_of e) r s a b (fit_step w between e first fit step) rest
    (subst (λ x. Finishes x (node_of e) s b) (sym same.1) rest') p q

-- ---- what is said

-- two answers that are sure are the same, and leave one world
One : (World → Said → World → Type 0) → World → Type 0
One does w = (x y : Said) (a b : World) → does w x a → does w y b → IsSure (said x) → IsSure (said y) → (x ≡ y) × (a ≡ b)

says_one : (to_say : Reply → Said) (w : World) (step : World → Reply → World → Type 0)
    → ((reply : Reply) → IsSure (said (to_say reply)) → IsAmple reply)
    → ((r s : Reply) (a b : World) → step w r a → step w s b → IsAmple r → IsAmple s → (r ≡ s) × (a ≡ b))
    → One (λ v. Says to_say (step v)) w
unfolding One
says_one to_say w step sure one x y a b h k p q =
    let same = one h.0 k.0 a b h.2 k.2 (sure h.0 (subst (λ z. IsSure (said z)) h.1 p)) (sure k.0 (subst (λ z. IsSure (said z)) k.1 q)) in
    (h.1 ∙ ap to_say same.0 ∙ sym k.1, same.1)

sure_replied : (reply : Reply) → IsSure (said (replied reply)) → IsAmple reply
sure_replied reply sure = sure

-- what is said of a message
sure_message : (packet : Packet) (reply : Reply) → IsSure (said (said_of packet reply)) → IsAmple reply
sure_message (packets.Full batch) reply sure = sure
sure_message (packets.Have window) reply sure = sure
sure_message (packets.Delta batch) reply sure = sure
sure_message (packets.Data d) (Job job) sure = sure
sure_message (packets.Data d) (Begun name) sure = sure
sure_message (packets.Data d) (Taking count) sure = sure
sure_message (packets.Data d) (Took count) sure = sure
sure_message (packets.Data d) (Published name) sure = sure
sure_message (packets.Data d) Done sure = sure
sure_message (packets.Data d) (Booted boot) sure = sure
sure_message (packets.Data d) (IsSent first count) sure = sure
sure_message (packets.Data d) NoSuch sure = sure
sure_message (packets.Data d) (Refused fault) sure = sure

completing : (to_say : Reply → Said) (e : Event) (w : World) → Fit w → IsAtDesk 1 e
    → ((reply : Reply) → IsSure (said (to_say reply)) → IsAmple reply) → One (λ v. Says to_say (Completes v e)) w
completing to_say e w fit desk sure =
    says_one to_say w (λ v. Completes v e) sure (λ r s a b. completes_one w e r s a b fit desk)

stepping : (to_say : Reply → Said) (e : Event) (w : World) → Fit w → IsAtDesk 1 e
    → ((reply : Reply) → IsSure (said (to_say reply)) → IsAmple reply) → One (λ v. Says to_say (Step v e)) w
stepping to_say e w fit desk sure =
    says_one to_say w (λ v. Step v e) sure (λ r s a b. step_one w e r s a b fit desk)

tells_one : (number : ℕ) (w : World) → One (λ v. Tells v number) w
unfolding One
tells_one number w x y a b (calls.running at runs) (calls.running at' runs') p q =
    (ap (λ (s : KeptNode). text (set.of_list s.node.published)) (same_found at at'), refl)
tells_one number w x y a b (calls.running {s} at runs) (calls.stopped {fault} at' why) p q =
    absurd (not_both s.node.state fault runs (subst (λ (t : KeptNode). NotRunning t.node.state fault) (same_found at' at) why))
tells_one number w x y a b (calls.stopped {fault} at' why) (calls.running {s} at runs) p q =
    absurd (not_both s.node.state fault runs (subst (λ (t : KeptNode). NotRunning t.node.state fault) (same_found at' at) why))
tells_one number w x y a b (calls.stopped {s} {fault} at why) (calls.stopped {fault = other} at' why') p q = (
  ap (λ f. replied (Refused f)) (one_stop s.node.state fault other why
      (subst (λ (t : KeptNode). NotRunning t.node.state other) (same_found at' at) why')),
  refl,
)

-- two nodes that stand under one number are one
same_stop : (w : World) (number : ℕ) (s t : KeptNode) (fault : Fault) → IsAt w number s → IsAt w number t
    → IsRunning s.node.state → NotRunning t.node.state fault → ⊥
same_stop w number s t fault at at' runs why =
    not_both s.node.state fault runs (subst (λ (x : KeptNode). NotRunning x.node.state fault) (same_found at' at) why)

-- a stopped node says that it is
is_stop : (state : State) (fault : Fault) → NotRunning state fault → fault ≡ faults.Stopped
is_stop (Running pending) fault why = absurd why
is_stop (Stopped doubt) fault why = why

unites_one : (first second : ℕ) (w : World) → One (λ v. Unites v first second) w
unfolding One
unites_one first second w x y a b (calls.running {s} {t} at there runs too) (calls.running {s = s'} {t = t'} at' there' runs' too') p q =
    let one : s ≡ s' = same_found at at' in
    let other : t ≡ t' = same_found there there' in
    (λ i. text (set.union (set.of_list (one i).node.published) (set.of_list (other i).node.published)), refl)
unites_one first second w x y a b (calls.no_room at there runs too some) k p q = absurd (not_sure p)
unites_one first second w x y a b h (calls.no_room at there runs too some) p q = absurd (not_sure q)
unites_one first second w x y a b (calls.running {s} {t} at there runs too) (calls.stopped {s = u} {fault} (inl is) at' why) p q =
    absurd (same_stop w first s u fault at (subst (λ n. IsAt w n u) is at') runs why)
unites_one first second w x y a b (calls.running {s} {t} at there runs too) (calls.stopped {s = u} {fault} (inr is) at' why) p q =
    absurd (same_stop w second t u fault there (subst (λ n. IsAt w n u) is at') too why)
unites_one first second w x y a b (calls.stopped {s = u} {fault} (inl is) at' why) (calls.running {s} {t} at there runs too) p q =
    absurd (same_stop w first s u fault at (subst (λ n. IsAt w n u) is at') runs why)
unites_one first second w x y a b (calls.stopped {s = u} {fault} (inr is) at' why) (calls.running {s} {t} at there runs too) p q =
    absurd (same_stop w second t u fault there (subst (λ n. IsAt w n u) is at') too why)
unites_one first second w x y a b (calls.stopped {s} {fault} which at why) (calls.stopped {s = t} {fault = other} which' at' why') p q =
    (ap (λ f. replied (Refused f)) (is_stop s.node.state fault why ∙ sym (is_stop t.node.state other why')), refl)

no_memory : Result ℕ Fault
no_memory = Err (faults.Refused Memory)

sure_checked : (fault : Fault) → IsAmple (Refused fault) → Err fault ≢ no_memory
unfolding no_memory
sure_checked fault sure e =
    let same : fault ≡ faults.Refused Memory = cc e in
    sure.memory (ap Refused same)

-- what the law of packets says
abbrev pub SpellOnePacket : Type 0
SpellOnePacket = (f g : Format) (a b : Packet) → HasPacket f a → HasPacket g b
    → packet_bytes f a ≡ packet_bytes g b → (f ≡ g) × (a ≡ b)

abbrev pub HaveNoFault : Type 0
HaveNoFault = (f : Format) (packet : Packet) → HasPacket f packet → packet_fault (packet_bytes f packet) ≡ None

module _ (one_spelling : SpellOnePacket) (whole : HaveNoFault) where
  -- bytes of a packet have no fault
  no_fault : (packet : Packet) (bytes : List ℕ) (place : ℕ) → Spells bytes packet
      → first_fault (packet_fields bytes) ≡ Some place → ⊥
  no_fault packet bytes place is fault =
      none_some (subst (λ x. packet_fault x ≡ None) is.written (whole is.format packet is.has)) fault

  same_check : (w : World) (number : ℕ) (bytes : List ℕ) (s t : KeptNode) (packet other : Packet) (r r' : Result ℕ Fault)
      → IsAt w number s → IsAt w number t → Spells bytes packet → Spells bytes other
      → Checks s.node packet r → Checks t.node other r' → r ≢ no_memory → r' ≢ no_memory → (packet ≡ other) × (r ≡ r')
  unfolding no_memory
  same_check w number bytes s t packet other r r' at at' is is' h k p q =
      let same : other ≡ packet =
      (one_spelling is'.format is.format other packet is'.has is.has (is'.written ∙ sym is.written)).1 in
      let here : Checks s.node packet r' =
      subst (λ (x : KeptNode). Checks x.node packet r') (same_found at' at) (subst (λ x. Checks t.node x r') same k) in
      (sym same, one_check s.node packet r r' h here p q)

  checks_one : (number : ℕ) (bytes : List ℕ) (w : World) → One (λ v. ChecksAt v number bytes) w
  unfolding One no_memory
  checks_one number bytes w x y a b (calls.no_packet {place} fault) (calls.no_packet {place = other} fault') p q =
      (ap bad_packet (same_found fault fault'), refl)
  checks_one number bytes w x y a b (calls.no_room head some) k p q = absurd (not_sure p)
  checks_one number bytes w x y a b h (calls.no_room head some) p q = absurd (not_sure q)
  checks_one number bytes w x y a b (calls.no_packet {place} fault) (calls.tells {packet} at is counts_) p q =
      absurd (no_fault packet bytes place is fault)
  checks_one number bytes w x y a b (calls.no_packet {place} fault) (calls.refuses {packet} at is why) p q =
      absurd (no_fault packet bytes place is fault)
  checks_one number bytes w x y a b (calls.tells {packet} at is counts_) (calls.no_packet {place} fault) p q =
      absurd (no_fault packet bytes place is fault)
  checks_one number bytes w x y a b (calls.refuses {packet} at is why) (calls.no_packet {place} fault) p q =
      absurd (no_fault packet bytes place is fault)
  checks_one number bytes w x y a b (calls.tells {s} {packet} {count} at is told) (calls.tells {s = t} {packet = other} {count = count'} at' is' told') p q =
      let same = same_check w number bytes s t packet other (Ok count) (Ok count') at at' is is' told told' (λ e. cc) (λ e. cc) in
      let one : count ≡ count' = cc (same.1) in
      (λ i. checked (counted (same.0 i) (one i)), refl)
  checks_one number bytes w x y a b (calls.tells {s} {packet} {count} at is told) (calls.refuses {s = t} {packet = other} {fault} at' is' why) p q =
      let same = same_check w number bytes s t packet other (Ok count) (Err fault) at at' is is' told why (λ e. cc) (sure_checked fault q) in
      absurd (cc (same.1))
  checks_one number bytes w x y a b (calls.refuses {s = t} {packet = other} {fault} at' is' why) (calls.tells {s} {packet} {count} at is told) p q =
      let same = same_check w number bytes s t packet other (Ok count) (Err fault) at at' is is' told why (λ e. cc) (sure_checked fault p) in
      absurd (cc (same.1))
  checks_one number bytes w x y a b (calls.refuses {s} {packet} {fault} at is why) (calls.refuses {s = t} {packet = other} {fault = fault'} at' is' why') p q =
      let same = same_check w number bytes s t packet other (Err fault) (Err fault') at at' is is' why why' (sure_checked fault p) (sure_checked fault' q) in
      let one : fault ≡ fault' = cc (same.1) in
      (ap (λ f. replied (Refused f)) one, refl)

  -- ---- lines

  module _ (o : Openings) (certain : OpenOneWay o) where
    -- how a node is opened is sure
    SureEntry : Result (Unit {0}) Fault → Type 0
    SureEntry (Ok u) = Unit {0}
    SureEntry (Err fault) = IsAmple (Refused fault)

    both_join : (w : World) (number : ℕ) (k other : Kept) (r s : Reply) (a b : World) → o.finds number k → o.finds number other
        → Joins w number k r a → Joins w number other s b → IsAmple r → IsAmple s → (r ≡ s) × (a ≡ b)
    both_join w number k other r s a b found found' step step' p q =
        one_joining step (subst (λ x. Joins w number x s b) (certain.one_kept number other k found' found) step')
        p q

    -- who joins is not refused
    joins_alone : (w a : World) (number boot : ℕ) (k : Kept) (fault : Fault) → o.finds number k
        → Joins w number k (Booted boot) a → IsAmple (Refused fault) → RefusesOver (o.finds number) w number fault → ⊥
    joins_alone w a number boot k fault found step sure no_room = sure.memory refl
    joins_alone w a number boot k fault found step sure keeper_failed = sure.keeper refl
    joins_alone w a number boot k fault found step sure (another none) = none k found
    joins_alone w a number boot k fault found step sure (not_joined {k = other} found' left refused) =
        let same = (both_join w number k other (Booted boot) (Refused fault) a w found found' step
        (refused_before left refused) (sure_booted boot) sure).0 in absurd (cc)

    one_refusal : (w : World) (number : ℕ) (f g : Fault) → RefusesOver (o.finds number) w number f
        → RefusesOver (o.finds number) w number g → IsAmple (Refused f) → IsAmple (Refused g) → f ≡ g
    one_refusal w number f g no_room k p q = absurd (p.memory refl)
    one_refusal w number f g keeper_failed k p q = absurd (p.keeper refl)
    one_refusal w number f g (another none) no_room p q = absurd (q.memory refl)
    one_refusal w number f g (another none) keeper_failed p q = absurd (q.keeper refl)
    one_refusal w number f g (another none) (another none') p q = refl
    one_refusal w number f g (another none) (not_joined {k} found left refused) p q = absurd (none k found)
    one_refusal w number f g (not_joined found left refused) no_room p q = absurd (q.memory refl)
    one_refusal w number f g (not_joined found left refused) keeper_failed p q = absurd (q.keeper refl)
    one_refusal w number f g (not_joined {k} found left refused) (another none) p q = absurd (none k found)
    one_refusal w number f g (not_joined {k} found left refused) (not_joined {k = other} found' left' refused') p q =
        let same = (both_join w number k other (Refused f) (Refused g) w w found found' (refused_before left refused)
        (refused_before left' refused') p q).0 in cc

    enters_one : (w a b : World) (number : ℕ) (r s : Result (Unit {0}) Fault) → Enters o w number r a → Enters o w number s b
        → SureEntry r → SureEntry s → (r ≡ s) × (a ≡ b)
    unfolding SureEntry
    enters_one w a b number r s (is_there at) (is_there at') p q = (refl, refl)
    enters_one w a b number r s (is_there at) (joins none found step) p q = absurd (none_some none at)
    enters_one w a b number r s (is_there at) (is_refused none why) p q = absurd (none_some none at)
    enters_one w a b number r s (joins none found step) (is_there at) p q = absurd (none_some none at)
    enters_one w a b number r s (is_refused none why) (is_there at) p q = absurd (none_some none at)
    enters_one w a b number r s (joins {k} {boot} none found step) (joins {k = other} {boot = boot'} none' found' step') p q =
        (refl, (both_join w number k other (Booted boot) (Booted boot') a b found found' step step' (sure_booted boot) (sure_booted boot')).1)
    enters_one w a b number r s (joins {k} {boot} none found step) (is_refused {fault} none' why) p q =
        absurd (joins_alone w a number boot k fault found step q (certain.refused w number fault why))
    enters_one w a b number r s (is_refused {fault} none' why) (joins {k} {boot} none found step) p q =
        absurd (joins_alone w b number boot k fault found step p (certain.refused w number fault why))
    enters_one w a b number r s (is_refused {fault} none why) (is_refused {fault = other} none' why') p q =
        (ap Err (one_refusal w number fault other (certain.refused w number fault why) (certain.refused w number other why') p q), refl)

    once_one : (number : ℕ) (does : World → Said → World → Type 0) → ((v : World) → Fit v → One does v) → (w : World) → Fit w
        → One (λ v. OnceOpen o v number does) w
    unfolding One SureEntry Fit
    once_one number does one w fit x y a b (shut {fault} entered) (shut {fault = other} entered') p q =
        let same = enters_one w a b number (Err fault) (Err other) entered entered' p q in
        let fault_is : fault ≡ other = cc (same.0) in
        (ap (λ f. replied (Refused f)) fault_is, same.1)
    once_one number does one w fit x y a b (shut {fault} entered) (opened {between} entered' done) p q =
        absurd (cc ((enters_one w a between number (Err fault) (Ok tt) entered entered' p tt).0))
    once_one number does one w fit x y a b (opened {between} entered' done) (shut {fault} entered) p q =
        absurd (cc ((enters_one w between b number (Ok tt) (Err fault) entered' entered tt q).0))
    once_one number does one w fit x y a b (opened {between} entered done) (opened {between = other} entered' done') p q =
        let same = (enters_one w between other number (Ok tt) (Ok tt) entered entered' tt tt).1 in
        one between (then_ (empty_world 1) w between fit (enters_leads o w between number (Ok tt) entered)) x y a b done
        (subst (λ v. does v y b) (sym same) done') p q

    delivers_one : (number packet : ℕ) (w : World) → Fit w → One (λ v. Delivers o v number packet) w
    unfolding One
    delivers_one number packet w fit x y a b (calls.not_sent none) (calls.not_sent none') p q = (refl, refl)
    delivers_one number packet w fit x y a b (calls.not_sent none) (calls.comes there once) p q = absurd (none_some none there)
    delivers_one number packet w fit x y a b (calls.comes there once) (calls.not_sent none) p q = absurd (none_some none there)
    delivers_one number packet w fit x y a b (calls.comes {sent} there once) (calls.comes {sent = other} there' once') p q =
        let same : other ≡ sent = same_found there' there in
        let does : Sent → World → Said → World → Type 0 = λ s v. Says (said_of s.packet) (Completes v (event.Deliver packet number)) in
        once_one number (does sent) (λ v here. completing (said_of sent.packet) (event.Deliver packet number) v here tt (sure_message sent.packet))
        w fit x y a b once (subst (λ s. OnceOpen o w number (does s) y b) same once') p q

    takes_one : (number packet : ℕ) (w : World) → Fit w → One (λ v. BeginsToTake o v number packet) w
    unfolding One
    takes_one number packet w fit x y a b (calls.not_sent none) (calls.not_sent none') p q = (refl, refl)
    takes_one number packet w fit x y a b (calls.not_sent none) (calls.no_ops there is) p q = (refl, refl)
    takes_one number packet w fit x y a b (calls.no_ops there is) (calls.not_sent none) p q = (refl, refl)
    takes_one number packet w fit x y a b (calls.no_ops there is) (calls.no_ops there' is') p q = (refl, refl)
    takes_one number packet w fit x y a b (calls.not_sent none) (calls.comes there some once) p q = absurd (none_some none there)
    takes_one number packet w fit x y a b (calls.comes there some once) (calls.not_sent none) p q = absurd (none_some none there)
    takes_one number packet w fit x y a b (calls.no_ops {sent} there is) (calls.comes {sent = other} there' some once) p q =
        absurd (cc (is, subst (λ (s : Sent). calls.brings_ops s.packet ≡ true) (same_found there' there) some))
    takes_one number packet w fit x y a b (calls.comes {sent = other} there' some once) (calls.no_ops {sent} there is) p q =
        absurd (cc (is, subst (λ (s : Sent). calls.brings_ops s.packet ≡ true) (same_found there' there) some))
    takes_one number packet w fit x y a b (calls.comes there some once) (calls.comes there' some' once') p q =
        once_one number (λ v. Says replied (Step v (event.Deliver packet number)))
        (λ v here. stepping replied (event.Deliver packet number) v here tt sure_replied) w fit x y a b once once' p q

    -- an event at its node
    asks_one : (e : Event) → IsAtDesk 1 e → (w : World) → Fit w → One (λ v. calls.Asks o v e) w
    unfolding One
    asks_one e desk w fit x y a b h k p q =
        once_one (node_of e) (λ v. Says replied (Completes v e)) (λ v here. completing replied e v here desk sure_replied)
        w fit x y a b h k p q

    node_one : (number : ℕ) (r : Request) (w : World) → Fit w → One (λ v. AsksNode o v number r) w
    unfolding One
    node_one number (request.Job job) w fit x y a b h k p q = asks_one _ (omega arith, omega arith) w fit x y a b h k p q
    node_one number (request.Begin pid order) w fit x y a b h k p q =
        once_one number _ (λ v here. stepping replied _ v here (omega arith, omega arith) sure_replied) w fit x y a b h k p q
    node_one number (request.Deliver packet) w fit x y a b h k p q = delivers_one number packet w fit x y a b h k p q
    node_one number (request.BeginDeliver packet) w fit x y a b h k p q = takes_one number packet w fit x y a b h k p q
    node_one number request.Tell w fit x y a b h k p q = asks_one (event.Tell number) tt w fit x y a b h k p q
    node_one number request.Save w fit x y a b h k p q = asks_one (event.Save number) tt w fit x y a b h k p q
    node_one number request.Publish w fit x y a b h k p q = asks_one (event.Publish number) tt w fit x y a b h k p q
    node_one number request.Cancel w fit x y a b h k p q = asks_one (event.Cancel number) tt w fit x y a b h k p q
    node_one number (request.Restart kept) w fit x y a b h k p q = asks_one (event.Restart number kept) tt w fit x y a b h k p q
    node_one number request.Text w fit x y a b h k p q = once_one number _ (λ v here. tells_one number v) w fit x y a b h k p q
    node_one number (request.Check bytes) w fit x y a b h k p q =
        once_one number _ (λ v here. checks_one number bytes v) w fit x y a b h k p q

    line_one : (old : Session) (line : Line) (x y : Answer) (a b : World) → Fit old.world → AnswersLine o old line x a
        → AnswersLine o old line y b → IsSure x → IsSure y → (x ≡ y) × (a ≡ b)
    unfolding One
    line_one old line x y a b fit (asks {number} {request = r} {what} h) (asks {what = other} k) p q =
        let same = node_one number r old.world fit what other a b h k p q in
        (ap said same.0, same.1)
    line_one old line x y a b fit (unites {first} {second} {what} h) (unites {what = other} k) p q =
        let same = once_one first (λ v. OnceOpen o v second (λ u. Unites u first second))
        (λ v here. once_one second (λ u. Unites u first second) (λ u there. unites_one first second u) v here)
        old.world fit what other a b h k p q in
        (ap said same.0, same.1)
    line_one old line x y a b fit (counts h) (counts k) p q = (ap said (h.0 ∙ sym k.0), h.1 ∙ sym k.1)
    line_one old line x y a b fit lists lists p q = (refl, refl)

    reading_one : (old : Session) (r : Reading) (x y : Answer) (m n : Session) → Fit old.world → AnswersReading o old r x m
        → AnswersReading o old r y n → IsSure x → IsSure y → (x ≡ y) × (m ≡ n)
    reading_one old reading.Quiet x y m n fit h k p q = (h.0 ∙ sym k.0, h.1 ∙ sym k.1)
    reading_one old reading.Bad x y m n fit h k p q = (h.0 ∙ sym k.0, h.1 ∙ sym k.1)
    reading_one old (reading.Means line alias) x y m n fit h k p q =
        let same = line_one old line x y m.world n.world fit h.answered k.answered p q in
        let aliases : m.aliases ≡ n.aliases =
        h.named ∙ ap (λ z. renamed old.aliases alias (made_by z)) same.0 ∙ sym k.named in
        (same.0, λ i. record { world = same.1 i; aliases = aliases i })

    turn_one : (old : Session) (bytes : List ℕ) (x y : Answer) (m n : Session) → Fit old.world → Turn o old bytes x m
        → Turn o old bytes y n → IsSure x → IsSure y → (x ≡ y) × (m ≡ n)
    turn_one old bytes x y m n fit (inl h) (inl k) p q =
        let same : k.reading ≡ h.reading = one_reading old.aliases bytes k.reading h.reading k.says h.says in
        reading_one old h.reading x y m n fit h.answered (subst (λ r. AnswersReading o old r y n) same k.answered) p q
    turn_one old bytes x y m n fit (inr h) k p q = absurd (not_sure (subst IsSure h.answered p))
    turn_one old bytes x y m n fit h (inr k) p q = absurd (not_sure (subst IsSure k.answered q))

    run_one : (old : Session) (lines : List (List ℕ)) (xs ys : List Answer) (m n : Session) → Fit old.world
        → Run o old lines xs m → Run o old lines ys n → AllByRecursion IsSure xs → AllByRecursion IsSure ys
        → (xs ≡ ys) × (m ≡ n)
    unfolding Fit
    run_one old [] [] [] m n fit h k p q = (refl, h ∙ sym k)
    run_one old [] [] (y ∷ ys) m n fit h k p q = absurd k
    run_one old [] (x ∷ xs) ys m n fit h k p q = absurd h
    run_one old (line ∷ lines) [] ys m n fit h k p q = absurd h
    run_one old (line ∷ lines) (x ∷ xs) [] m n fit h k p q = absurd k
    run_one old (line ∷ lines) (x ∷ xs) (y ∷ ys) m n fit h k p q =
        let first = turn_one old line x y h.0 k.0 fit h.1 k.1 p.0 q.0 in
        let here = then_ (empty_world 1) old.world (h.0).world fit (turn_leads o old line x h.0 h.1) in
        let rest = run_one h.0 lines xs ys m n here h.2 (subst (λ s. Run o s lines ys n) (sym first.1) k.2) p.1 q.1 in
        (λ i. first.0 i ∷ rest.0 i, rest.1)

    pub script_one : (lines : List (List ℕ)) (xs ys : List Answer) (m n : Session)
        → Run o begun lines xs m
        → Run o begun lines ys n → All IsSure xs → All IsSure ys
        → (xs ≡ ys) × (m ≡ n)
    unfolding Fit
    script_one lines xs ys m n h k p q =
        run_one begun lines xs ys m n (stays (empty_world 1)) h k (recursion_from_All IsSure xs p) (recursion_from_All IsSure ys q)

    -- the first of two lists of lines are answered alike
    first_one : (old : Session) (first later other : List (List ℕ)) (xs ys : List Answer) (m n : Session) → Fit old.world
        → Run o old (first ++ later) xs m → Run o old (first ++ other) ys n → AllByRecursion IsSure xs
        → AllByRecursion IsSure ys → take (length first) xs ≡ take (length first) ys
    unfolding Fit
    first_one old [] later other xs ys m n fit h k p q = refl
    first_one old (line ∷ first) later other [] ys m n fit h k p q = absurd h
    first_one old (line ∷ first) later other (x ∷ xs) [] m n fit h k p q = absurd k
    first_one old (line ∷ first) later other (x ∷ xs) (y ∷ ys) m n fit h k p q =
        let one = turn_one old line x y h.0 k.0 fit h.1 k.1 p.0 q.0 in
        let here = then_ (empty_world 1) old.world (h.0).world fit (turn_leads o old line x h.0 h.1) in
        let rest = first_one h.0 first later other xs ys m n here h.2 (subst (λ s. Run o s (first ++ other) ys n) (sym one.1) k.2) p.1 q.1 in
        λ i. one.0 i ∷ rest i

    pub same_first : (first later other : List (List ℕ)) (xs ys : List Answer) (m n : Session)
        → Run o begun (first ++ later) xs m
        → Run o begun (first ++ other) ys n → All IsSure xs → All IsSure ys
        → take (length first) xs ≡ take (length first) ys
    unfolding Fit
    same_first first later other xs ys m n h k p q =
        first_one begun first later other xs ys m n (stays (empty_world 1)) h k (recursion_from_All IsSure xs p)
        (recursion_from_All IsSure ys q)
