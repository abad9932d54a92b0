-- A line that is no job, over crews of one worker and without workers.
use Rattle.std.proofs.Common.{◌≡◌, ◌∙◌, ◌∷◌, [], ℕ, zero, suc, List, true, map, sym, ap, subst, refl}
use Rattle.std.proofs.Common.{Some, None, Result, Ok}
use Rattle.std.specs.Cmp.{nat_cmp_total}
use Rattle.fl_aliases.specs.Table.{Table}
use Rattle.fl_bench.specs.laws.Puts.{get_here}
use Rattle.fl_calls.specs.Answer.{Answer as Said, replied}
use Rattle.fl_calls.specs.Calls as calls
use Rattle.fl_calls.specs.Calls.{Says, said_of, Tells}
use Rattle.fl_calls.specs.Completing.{Completes}
use Rattle.fl_calls.specs.Entering as entering
use Rattle.fl_calls.specs.Over.{Trusts, openings_of}
use Rattle.fl_crew_calls.specs.Asking.{ChecksAt, DeliversAt, OnceOpen, Opens, RestartsAt, TellsAt, TellsText, Unites}
use Rattle.fl_crew_calls.specs.Calls.{AsksCrew, Delivers, RespondsTo}
use Rattle.fl_crew_calls.specs.Over.{CrewsOver, IsCrewAt}
use Rattle.fl_crew_turns.specs.Turn.{is_other}
use Rattle.fl_makers.specs.Making.{Making}
use Rattle.fl_script.specs.declared.line.Line.{Line}
use Rattle.fl_script.specs.declared.line.Line.TheVariants.{Aliases, Audit, Node, Union}
use Rattle.fl_script.specs.declared.request.Request.{Request}
use Rattle.fl_script.specs.declared.request.Request.TheVariants.{Job, Begin, Deliver, BeginDeliver, Tell, Save, Publish, Cancel, Restart, Text, Check}
use Rattle.fl_store.specs.Custody.{Custody}
use Rattle.fl_system.specs.declared.answer.Fault.{Fault}
use Rattle.fl_system.specs.declared.event.Event.TheVariants as event
use Rattle.fl_system.specs.declared.sent.Sent.{Sent}
use Rattle.fl_system.specs.Numbered.{item_at}
use Rattle.fl_system.specs.World.{World}
use Rattle.fl_turn_laws.specs.Certain.{IsSure}
use Rattle.fl_turns.specs.Answer.{said}
use Rattle.fl_turns.specs.Turn.{AnswersLine}
use Rattle.fl_wire.specs.declared.packet.Packet.{Packet}
use Rattle.fl_workers.specs.Over.{CrewOver}
use Rattle.fl_one_worker_calls.specs.Worlds.{packet_in}
use Rattle.fl_one_worker_calls.proofs.Serving.{sent_at}
use Rattle.fl_one_worker_scripts.specs.Alike.{LeavesWell}
use Rattle.fl_one_worker_scripts.specs.Shared.{is_shared}
use Rattle.fl_one_worker_scripts.proofs.Delivering.{PacketLeads, delivers, delivers_trusts}
use Rattle.fl_one_worker_scripts.proofs.Opening.{CrewOpens, ToldOf, once_open, once_trusts}
use Rattle.fl_one_worker_scripts.proofs.Restarting.{CrewRestarts, restarts, restarts_trusts}
use Rattle.fl_one_worker_scripts.proofs.Telling.{tells, tells_trusts}
use Rattle.fl_one_worker_scripts.proofs.Texts.{checks, checks_trusts, texts, texts_trusts, unites}
use Rattle.fl_one_worker_scripts.proofs.Texts.{unites_trusts}
use Rattle.fl_one_worker_scripts.proofs.Ties.{Meets, Ties}

-- a packet that no crew sent is none of the world
unsent_at : (sents : List Sent) (k : ℕ) → item_at (map packet_in sents) k ≡ None
    → item_at sents k ≡ None
unsent_at [] k none = refl
unsent_at (s ∷ sents) zero none = refl
unsent_at (s ∷ sents) (suc zero) none = absurd (cc)
unsent_at (s ∷ sents) (suc (suc k)) none = unsent_at sents (suc k) none

module _ {K M : Type 0} (custody : Custody K) (making : Making M K) where
  -- what is done stands behind the opening
  abbrev pub Behind : CrewsOver K M → ℕ → (CrewsOver K M → Said → CrewsOver K M → Type 0)
      → CrewsOver K M → Said → CrewsOver K M → Type 0
  Behind old number does between what new =
      Opens custody making old number (Ok tt) between × does between what new

  pub behind : (old : CrewsOver K M) (number : ℕ)
      (does : CrewsOver K M → Said → CrewsOver K M → Type 0) (what : Said) (new : CrewsOver K M)
      → OnceOpen custody making old number does what new
      → OnceOpen custody making old number (Behind old number does) what new
  behind old number does what new (OnceOpen.shut opens) = OnceOpen.shut opens
  behind old number does what new (OnceOpen.opened opens done) =
      OnceOpen.opened opens (opens, done)

  pub sent_still : (old : CrewsOver K M) (number : ℕ) (result : Result (Unit {0}) Fault)
      (new : CrewsOver K M) → Opens custody making old number result new → new.sent ≡ old.sent
  sent_still old number result new (Opens.is_open at) = refl
  sent_still old number result new (Opens.opened none made allows seated names joins) = refl
  sent_still old number result new (Opens.contradicts none made allows seated why) = refl
  sent_still old number result new (Opens.shut none allows why) = refl

  pub crew_there : (old : CrewsOver K M) (number : ℕ) (result : Result (Unit {0}) Fault)
      (new : CrewsOver K M) → result ≡ Ok tt → Opens custody making old number result new
      → (crew : CrewOver K) × IsCrewAt new number crew
  crew_there old number result new ok (Opens.is_open {crew} at) = (crew, at)
  crew_there old number result new ok (Opens.opened
      {crew = crew} none made allows seated names joins) =
      (crew, get_here nat_cmp_total old.crews number (Some crew))
  crew_there old number result new ok (Opens.contradicts none made allows seated why) = absurd (cc)
  crew_there old number result new ok (Opens.shut none allows why) = absurd (cc)

module _ {K M : Type 0} (custody : Custody K) (making : Making M K) (told : ToldOf making)
    (crew_opens : CrewOpens K) (crew_restarts : CrewRestarts K)
    (packet_leads : PacketLeads M custody)
    (maker : M) (old : CrewsOver K M) (w : World) (aliases : Table)
    (ties : Ties custody making maker old w) where
  abbrev Answers : Line → Said → World → Type 0
  Answers line what w' =
      AnswersLine (openings_of custody making maker) (record { world = w; aliases = aliases }) line
      (said what) w'

  -- a step of what the line asks is its answer
  as_line : (line : Line) (what : Said) (new : CrewsOver K M) (step : World → Type 0)
      → ((w' : World) → step w' → Answers line what w')
      → Meets making maker step new → Meets making maker (Answers line what) new
  as_line line what new step leads meets = record {
    world = meets.world;
    steps = leads meets.world meets.steps;
    stands = meets.stands;
    allows = meets.allows;
  }

  -- what is asked of a node once it is open
  asks : (number : ℕ) (request : Request) (what : Said) (new : CrewsOver K M)
      → LeavesWell custody new → IsSure (said what)
      → (does : CrewsOver K M → Said → CrewsOver K M → Type 0)
      (plain : World → Said → World → Type 0)
      → ((between : CrewsOver K M) → does between what new → (crew : CrewOver K)
      → IsCrewAt between number crew → Trusts custody crew.node.keeper)
      → ((between : CrewsOver K M) (v : World) → Ties custody making maker between v
      → does between what new → Meets making maker (λ w'. plain v what w') new)
      → ((w' : World)
      → entering.OnceOpen (openings_of custody making maker) w number plain what w'
      → Answers (Node number request) what w')
      → OnceOpen custody making old number does what new
      → Meets making maker (Answers (Node number request) what) new
  asks number request what new well sure does plain trusts steps leads once =
      as_line (Node number request) what new
      (λ w'. entering.OnceOpen (openings_of custody making maker) w number plain what w') leads
      (once_open custody making told crew_opens maker old w number does plain what new ties sure
      well.sound trusts steps once)

  comes : (number packet : ℕ) (sent : Packet) (what : Said) (new : CrewsOver K M)
      → LeavesWell custody new → IsSure (said what)
      → item_at old.sent packet ≡ Some sent
      → (between : CrewsOver K M) (v : World) → Ties custody making maker between v
      → Behind custody making old number (λ mid. DeliversAt custody mid number sent) between what
      new
      → Meets making maker
      (λ w'. Says (said_of sent) (Completes v (event.Deliver packet number)) what w') new
  comes number packet sent what new well sure there between v tied (opens, done) =
      let it =
      delivers custody making maker between v tied number packet_leads packet sent new what
      well.sound well.few sure
      (ap (λ l. item_at l packet) (sent_still custody making old number (Ok tt) between opens)
      ∙ there)
      (crew_there custody making old number (Ok tt) between refl opens) done in
      subst (λ (p : Packet). Meets making maker
      (λ w'. Says (said_of p) (Completes v (event.Deliver packet number)) what w') new) it.2 it.3

  delivered : (number packet : ℕ) (what : Said) (new : CrewsOver K M) → LeavesWell custody new
      → IsSure (said what)
      → Delivers custody making old number packet what new
      → Meets making maker (Answers (Node number (Deliver packet)) what) new
  delivered number packet what new well sure (Delivers.not_sent none) = record {
    world = w;
    steps =
        AnswersLine.asks (calls.not_sent (unsent_at w.packets packet
        (ap (λ l. item_at l packet) ties.stands.packets ∙ none)));
    stands = ties.stands;
    allows = ties.allows;
  }
  delivered number packet what new well sure (Delivers.comes {sent = sent} there once) =
      let it =
      sent_at w packet sent (ap (λ l. item_at l packet) ties.stands.packets ∙ there) in
      asks number (Deliver packet) what new well sure
      (Behind custody making old number (λ between. DeliversAt custody between number sent))
      (λ v. Says (said_of sent) (Completes v (event.Deliver packet number)))
      (λ between done. delivers_trusts custody between number sent new what well.sound done.1)
      (comes number packet sent what new well sure there)
      (λ w' opened. AnswersLine.asks (calls.comes it.there
      (subst (λ (p : Packet). entering.OnceOpen (openings_of custody making maker) w number
      (λ v. Says (said_of p) (Completes v (event.Deliver packet number))) what w') (sym it.is)
      opened)))
      (behind custody making old number (λ between. DeliversAt custody between number sent)
      what new once)

  united : (first second : ℕ) (what : Said) (new : CrewsOver K M) → LeavesWell custody new
      → IsSure (said what)
      → OnceOpen custody making old first
      (λ between. OnceOpen custody making between second (λ u. Unites u first second)) what new
      → Meets making maker (Answers (Union first second) what) new
  united first second what new well sure once =
      as_line (Union first second) what new
      (λ w'. entering.OnceOpen (openings_of custody making maker) w first
      (λ v. entering.OnceOpen (openings_of custody making maker) v second
      (λ u. calls.Unites u first second)) what w')
      (λ w' opened. AnswersLine.unites opened)
      (once_open custody making told crew_opens maker old w first
      (λ between. OnceOpen custody making between second (λ u. Unites u first second))
      (λ v. entering.OnceOpen (openings_of custody making maker) v second
      (λ u. calls.Unites u first second)) what new ties sure well.sound
      (λ between done. once_trusts custody making between second
      (λ u. Unites u first second) what new first well.sound
      (λ u more. unites_trusts custody u new first second what well.sound more first) done)
      (λ between v tied done. once_open custody making told crew_opens maker between v second
      (λ u. Unites u first second) (λ u. calls.Unites u first second) what new tied sure well.sound
      (λ u more. unites_trusts custody u new first second what well.sound more second)
      (λ u x so more. unites custody making maker u x so new first second what sure more) done)
      once)

  asked : (number : ℕ) (request : Request) (what : Said) (new : CrewsOver K M)
      → LeavesWell custody new → IsSure (said what)
      → is_shared (Node number request) ≡ true → is_other (Node number request) ≡ true
      → AsksCrew custody making old number request what new
      → Meets making maker (Answers (Node number request) what) new
  asked number (Job job) what new well sure shared other h = absurd (cc)
  asked number (Begin pid order) what new well sure shared other h = absurd (cc)
  asked number (Deliver packet) what new well sure shared other h =
      delivered number packet what new well sure h
  asked number (BeginDeliver packet) what new well sure shared other h = absurd (cc)
  asked number Tell what new well sure shared other h =
      asks number Tell what new well sure (λ between. TellsAt between number)
      (λ v. Says replied (Completes v (event.Tell number)))
      (λ between done. tells_trusts custody between new number what well.sound done)
      (λ between v tied done. tells custody making maker between new v number what tied sure done)
      (λ w' opened. AnswersLine.asks opened) h
  asked number Save what new well sure shared other h = absurd (cc)
  asked number Publish what new well sure shared other h = absurd (cc)
  asked number Cancel what new well sure shared other h = absurd (cc)
  asked number (Restart keeps) what new well sure shared other h =
      asks number (Restart keeps) what new well sure
      (λ between. RestartsAt custody between number keeps)
      (λ v. Says replied (Completes v (event.Restart number keeps)))
      (λ between done. restarts_trusts custody between number keeps what new well.sound done)
      (λ between v tied done. restarts custody making crew_restarts maker between v number keeps
      what
      new tied well.sound done) (λ w' opened. AnswersLine.asks opened) h
  asked number Text what new well sure shared other h =
      asks number Text what new well sure (λ between. TellsText between number)
      (λ v. Tells v number)
      (λ between done. texts_trusts custody between new number what well.sound done)
      (λ between v tied done. texts custody making maker between v tied new number what sure done)
      (λ w' opened. AnswersLine.asks opened) h
  asked number (Check bytes) what new well sure shared other h =
      asks number (Check bytes) what new well sure (λ between. ChecksAt between number bytes)
      (λ v. calls.ChecksAt v number bytes)
      (λ between done. checks_trusts custody between new number bytes what well.sound done)
      (λ between v tied done. checks custody making maker between v tied new number bytes what sure
      done) (λ w' opened. AnswersLine.asks opened) h

  -- a line that is no job is answered so without workers too
  pub responds : (line : Line) (what : Said) (new : CrewsOver K M) → LeavesWell custody new
      → IsSure (said what) → is_shared line ≡ true → is_other line ≡ true
      → RespondsTo custody making old line what new
      → Meets making maker (Answers line what) new
  responds (Node number request) what new well sure shared other h =
      asked number request what new well sure shared other h
  responds (Union first second) what new well sure shared other h =
      united first second what new well sure h
  responds Audit what new well sure shared other h = absurd (cc)
  responds Aliases what new well sure shared other h = absurd (cc)
