-- A node is opened, and then asked.
use Rattle.std.proofs.Common.{◌≡◌, ◌∙◌, ℕ, Bool, true, false, cond, not, is_some, refl, sym, ap, subst, Option, Some, None, Result, Ok, Err}
use Rattle.std.proofs.lemmas.Cmp.{nat_cmp_total}
use Rattle.std.specs.FinMap as map
use Rattle.std.specs.Ordering.{nat_cmp, eq_by_cmp}
use Rattle.fl_calls.specs.Answer.{Answer, shown_alone, unknown}
use Rattle.fl_calls.specs.declared.response.Response.{Response}
use Rattle.fl_calls.specs.declared.response.Response.TheVariants as response
use Rattle.fl_crew_calls.specs.Asking.{OnceOpen, Opens}
use Rattle.fl_crew_calls.specs.Calls.{AsksCrew, Delivers}
use Rattle.fl_crew_calls.specs.Over.{CrewsOver, IsCrewAt}
use Rattle.fl_crew_lines.specs.parts.Once.{AsksOpen, is_of_crews, names_none}
use Rattle.fl_makers.specs.Making.{Making}
use Rattle.fl_script.specs.declared.request.Request.{Request}
use Rattle.fl_script.specs.declared.request.Request.TheVariants.{Job, Begin, Deliver, BeginDeliver, Tell, Save, Publish, Cancel, Restart, Text, Check}
use Rattle.fl_store.specs.Custody.{Custody}
use Rattle.fl_system.specs.Numbered.{item_at}
use Rattle.fl_system.specs.declared.answer.Fault.{Fault}
use Rattle.fl_system.specs.declared.reply.Reply.TheVariants.{Refused}
use Rattle.fl_wire.specs.declared.packet.Packet.{Packet}
use Rattle.fl_workers.specs.Over.{CrewOver}

put_still : {X : Type 0} (m : map.FinMap nat_cmp (Option X)) (number other : ℕ) (x y : X) (b : Bool) → eq_by_cmp nat_cmp other number ≡ b
    → map.get m other ≡ Some (Some y) → (z : X) × (map.get (map.insert m number (Some x)) other ≡ Some (Some z))
put_still m number other x y true e at =
    (x, map.get-insert nat_cmp_total m number (Some x) other ∙ ap (λ b. cond b (Some (Some x)) (map.get m other)) e)
put_still m number other x y false e at =
    (y, map.get-insert nat_cmp_total m number (Some x) other ∙ ap (λ b. cond b (Some (Some x)) (map.get m other)) e ∙ at)

pub is_sent : (o : Option Packet) → not (is_some o) ≡ false → (sent : Packet) × (o ≡ Some sent)
is_sent None e = absurd (cc)
is_sent (Some sent) e = (sent, refl)

is_unsent : (o : Option Packet) → not (is_some o) ≡ true → o ≡ None
is_unsent None e = refl
is_unsent (Some sent) e = absurd (cc)

-- the packet of a number that is named
pub named : {K M : Type 0} (crews : CrewsOver K M) (request : Request) (packet : ℕ) → request ≡ Deliver packet
    → names_none crews request ≡ false → (sent : Packet) × (item_at crews.sent packet ≡ Some sent)
named crews request packet is none = is_sent _ (subst (λ r. names_none crews r ≡ false) is none)

module _ {K M : Type 0} (custody : Custody K) (making : Making M K) where
  -- nothing is sent
  sent_still : (old : CrewsOver K M) (number : ℕ) (result : Result (Unit {0}) Fault) (new : CrewsOver K M)
      → Opens custody making old number result new → new.sent ≡ old.sent
  sent_still old number result new (Opens.is_open at) = refl
  sent_still old number result new (Opens.opened none made no_more seated names joins) = refl
  sent_still old number result new (Opens.contradicts none made no_more seated why) = refl
  sent_still old number result new (Opens.shut none no_more why) = refl

  -- and the crews that were there still are
  pub still_there : (old : CrewsOver K M) (number other : ℕ) (result : Result (Unit {0}) Fault) (new : CrewsOver K M)
      → Opens custody making old number result new → (crew : CrewOver K) × IsCrewAt old other crew
      → (crew : CrewOver K) × IsCrewAt new other crew
  still_there old number other result new (Opens.is_open at) there = there
  still_there old number other result new (Opens.contradicts none made no_more seated why) there = there
  still_there old number other result new (Opens.opened none made no_more seated names joins) there =
      put_still old.crews number other _ there.0 (eq_by_cmp nat_cmp other number) refl there.1
  still_there old number other result new (Opens.shut none no_more why) there = there

  -- the node was opened, or was there, and this is done
  pub once_done : (old mid new : CrewsOver K M) (number : ℕ) (result : Result (Unit {0}) Fault) (u : Unit {0})
      (does : CrewsOver K M → Answer → CrewsOver K M → Type 0) (answer : Answer) → result ≡ Ok u
      → Opens custody making old number result mid → does mid answer new → OnceOpen custody making old number does answer new
  once_done old mid new number result u does answer ok opens done =
      OnceOpen.opened (subst (λ r. Opens custody making old number r mid) ok opens) done

  -- it was not opened, and this is answered
  pub once_shut : (old mid : CrewsOver K M) (number : ℕ) (result : Result (Unit {0}) Fault) (fault : Fault)
      (does : CrewsOver K M → Answer → CrewsOver K M → Type 0) (why : Response) → result ≡ Err fault
      → why ≡ response.Reply (Refused fault) → Opens custody making old number result mid
      → OnceOpen custody making old number does (shown_alone why) mid
  once_shut old mid number result fault does why err is opens =
      subst (λ r. OnceOpen custody making old number does (shown_alone r) mid) (sym is)
      (OnceOpen.shut (subst (λ r. Opens custody making old number r mid) err opens))

  -- ---- what is asked of one

  pub asked : (old mid new : CrewsOver K M) (number : ℕ) (request : Request) (result : Result (Unit {0}) Fault) (u : Unit {0})
      (answer : Answer) → is_of_crews request ≡ true → result ≡ Ok u → Opens custody making old number result mid
      → AsksOpen custody mid number request answer new → AsksCrew custody making old number request answer new
  asked old mid new number (Deliver packet) result u answer of ok opens comes =
      Delivers.comes (ap (λ sent. item_at sent packet) (sym (sent_still old number result mid opens)) ∙ comes.there)
      (once_done old mid new number result u _ answer ok opens comes.delivers)
  asked old mid new number Tell result u answer of ok opens done = once_done old mid new number result u _ answer ok opens done
  asked old mid new number (Restart keeps) result u answer of ok opens done = once_done old mid new number result u _ answer ok opens done
  asked old mid new number Text result u answer of ok opens done = once_done old mid new number result u _ answer ok opens done
  asked old mid new number (Check bytes) result u answer of ok opens done = once_done old mid new number result u _ answer ok opens done
  asked old mid new number (Job job) result u answer of ok opens done = absurd (cc)
  asked old mid new number (Begin pid order) result u answer of ok opens done = absurd (cc)
  asked old mid new number (BeginDeliver packet) result u answer of ok opens done = absurd (cc)
  asked old mid new number Save result u answer of ok opens done = absurd (cc)
  asked old mid new number Publish result u answer of ok opens done = absurd (cc)
  asked old mid new number Cancel result u answer of ok opens done = absurd (cc)

  pub not_asked : (old mid : CrewsOver K M) (number : ℕ) (request : Request) (result : Result (Unit {0}) Fault) (fault : Fault)
      (why : Response) → is_of_crews request ≡ true → names_none old request ≡ false → result ≡ Err fault
      → why ≡ response.Reply (Refused fault) → Opens custody making old number result mid
      → AsksCrew custody making old number request (shown_alone why) mid
  not_asked old mid number (Deliver packet) result fault why of named err is opens =
      Delivers.comes (is_sent (item_at old.sent packet) named).1 (once_shut old mid number result fault _ why err is opens)
  not_asked old mid number Tell result fault why of named err is opens = once_shut old mid number result fault _ why err is opens
  not_asked old mid number (Restart keeps) result fault why of named err is opens = once_shut old mid number result fault _ why err is opens
  not_asked old mid number Text result fault why of named err is opens = once_shut old mid number result fault _ why err is opens
  not_asked old mid number (Check bytes) result fault why of named err is opens = once_shut old mid number result fault _ why err is opens
  not_asked old mid number (Job job) result fault why of named err is opens = absurd (cc)
  not_asked old mid number (Begin pid order) result fault why of named err is opens = absurd (cc)
  not_asked old mid number (BeginDeliver packet) result fault why of named err is opens = absurd (cc)
  not_asked old mid number Save result fault why of named err is opens = absurd (cc)
  not_asked old mid number Publish result fault why of named err is opens = absurd (cc)
  not_asked old mid number Cancel result fault why of named err is opens = absurd (cc)

  -- ---- what is none of a script over crews

  pub is_none : (old : CrewsOver K M) (number : ℕ) (request : Request) → is_of_crews request ≡ false
      → AsksCrew custody making old number request unknown old
  is_none old number (Deliver packet) e = absurd (cc)
  is_none old number Tell e = absurd (cc)
  is_none old number (Restart keeps) e = absurd (cc)
  is_none old number Text e = absurd (cc)
  is_none old number (Check bytes) e = absurd (cc)
  is_none old number (Job job) e = (refl, refl)
  is_none old number (Begin pid order) e = (refl, refl)
  is_none old number (BeginDeliver packet) e = (refl, refl)
  is_none old number Save e = (refl, refl)
  is_none old number Publish e = (refl, refl)
  is_none old number Cancel e = (refl, refl)

  pub was_not_sent : (old : CrewsOver K M) (number : ℕ) (request : Request) → names_none old request ≡ true
      → AsksCrew custody making old number request unknown old
  was_not_sent old number (Deliver packet) e = Delivers.not_sent (is_unsent (item_at old.sent packet) e)
  was_not_sent old number Tell e = absurd (cc)
  was_not_sent old number (Restart keeps) e = absurd (cc)
  was_not_sent old number Text e = absurd (cc)
  was_not_sent old number (Check bytes) e = absurd (cc)
  was_not_sent old number (Job job) e = absurd (cc)
  was_not_sent old number (Begin pid order) e = absurd (cc)
  was_not_sent old number (BeginDeliver packet) e = absurd (cc)
  was_not_sent old number Save e = absurd (cc)
  was_not_sent old number Publish e = absurd (cc)
  was_not_sent old number Cancel e = absurd (cc)
