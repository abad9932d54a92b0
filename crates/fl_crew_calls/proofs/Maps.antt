-- The crews of a script, by the entries that hold their places.
use Rattle.std.proofs.Common.{◌≡◌, ◌∙◌, ◌+◌, ◌++◌, ◌<◌, length, refl, sym, ap, subst, ℕ, Bool, true}
use Rattle.std.proofs.Common.{false, cond, List, Option, Some, None, Result, Ok, Err, nat_cmp}
use Rattle.std.proofs.lemmas.Cmp.{nat_cmp_total}
use Rattle.std.specs.BTreeMap.{is_at}
use Rattle.std.specs.FinMap as map
use Rattle.std.specs.FinMap.{get-insert, nat_cmp-IsAntisymmetric}
use Rattle.std.specs.Map.{lookup, set_value}
use Rattle.std.specs.Option.{is_some}
use Rattle.std.specs.Ordering.{eq_by_cmp}
use Rattle.fl_mailbox.specs.laws.Tables.{get_held, get_put, one_put, put_through}
use Rattle.fl_makers.specs.Making.{AllowsNoMore, Making}
use Rattle.fl_store.specs.Custody.{Custody}
use Rattle.fl_store.specs.Kept.{HasNamesOnce}
use Rattle.fl_system.specs.declared.answer.Fault.{Fault}
use Rattle.fl_system.specs.declared.reply.Reply.TheVariants.{Sent}
use Rattle.fl_wire.specs.declared.packet.Packet.{Packet}
use Rattle.fl_workers.specs.Over.{CrewOver}
use Rattle.fl_calls.specs.Answer.{replied}
use Rattle.fl_calls.specs.Completing.{starved}
use Rattle.fl_crew_calls.specs.Asking.{IsMade, IsNotOpened, IsRestarted, IsSeated, Opens}
use Rattle.fl_crew_calls.specs.Asking.{RestartsAt, SendsAll, boot_reply}
use Rattle.fl_crew_calls.specs.Joining.{ClashesAt, FindsAgainst, StraysAt}
use Rattle.fl_crew_calls.specs.Over.{AreThere, CrewsOver, IsCrewAt, IsUnopened, with_crew}
use Rattle.fl_crew_calls.specs.Over.{with_sent}

-- what is seen of crews with these parts
abbrev pub seen : {K M : Type 0} → M → ℕ → List (ℕ × Option (CrewOver K)) → List Packet
    → CrewsOver K M
seen maker workers entries sent =
    record { maker = maker; workers = workers; crews = map.from_entries entries; sent = sent }

pub not_none : {A : Type 0} (o : Option A) (x : A) → o ≡ None → o ≡ Some x → ⊥
not_none o x none some = cc

pub not_empty : {A : Type 0} (o : Option (Option A)) (place : Option A) (x : A) → Some place ≡ o
    → place ≡ None → o ≡ Some (Some x) → ⊥
not_empty o place x is empty full = cc

some_there : {A : Type 0} (o : Option (Option A)) → (o ≡ Some None → ⊥) → is_some o ≡ true
    → (x : A) × (o ≡ Some (Some x))
some_there None full some = absurd (cc)
some_there (Some None) full some = absurd (full refl)
some_there (Some (Some x)) full some = (x, refl)

none_there : {A : Type 0} (o : Option A) → is_some o ≡ false → o ≡ None
none_there None none = refl
none_there (Some x) none = absurd (cc)

-- what is left once an entry was taken was there before
pub before_removal : {A : Type 0} (b : Bool) (o o' : Option A) (x : A) → o' ≡ cond b None o
    → o' ≡ Some x → o ≡ Some x
before_removal true o o' x left at = absurd (cc)
before_removal false o o' x left at = sym left ∙ at

-- where a crew is put, no place is empty that was not
pub full_with : {K : Type 0} (crews crews' : map.FinMap nat_cmp (Option (CrewOver K))) (number : ℕ)
    (crew : CrewOver K) → AreThere crews → crews' ≡ map.insert crews number (Some crew)
    → AreThere crews'
full_with {K} crews crews' number crew full is n at =
    by_place (eq_by_cmp nat_cmp n number) (sym (get-insert nat_cmp_total crews number (Some crew) n)
    ∙ ap (λ m. map.get m n) (sym is) ∙ at)
  where
    by_place : (b : Bool) → cond b (Some (Some crew)) (map.get crews n) ≡ Some None → ⊥
    by_place true e = cc
    by_place false e = full n e

module _ {K M : Type 0} (maker : M) (workers : ℕ) (es : List (ℕ × Option (CrewOver K)))
    (sent : List Packet) (old : CrewsOver K M) (is : seen maker workers es sent ≡ old) where
  the_map : map.from_entries {R = nat_cmp} es ≡ old.crews
  the_map = ap (λ (crews : CrewsOver K M). crews.crews) is

  pub made_by : maker ≡ old.maker
  made_by = ap (λ (crews : CrewsOver K M). crews.maker) is

  the_workers : workers ≡ old.workers
  the_workers = ap (λ (crews : CrewsOver K M). crews.workers) is

  pub held : (number : ℕ) → lookup (is_at (nat_cmp number)) es ≡ map.get old.crews number
  held number = get_held nat_cmp_total nat_cmp-IsAntisymmetric es old.crews number the_map

  -- the place that is found has a crew
  pub found : (number : ℕ) → AreThere (map.from_entries {R = nat_cmp} es)
      → is_some (lookup (is_at (nat_cmp number)) es) ≡ true
      → (crew : CrewOver K) × IsCrewAt old number crew
  found number full some =
      some_there _ (λ empty. full number (ap (λ m. map.get m number) the_map ∙ empty))
      (ap is_some (sym (held number)) ∙ some)

  pub unopened : (number : ℕ) → is_some (lookup (is_at (nat_cmp number)) es) ≡ false
      → IsUnopened old number
  unopened number none = none_there _ (ap is_some (sym (held number)) ∙ none)

  -- the crew of a number is put, or changed
  pub put : (fs : List (ℕ × Option (CrewOver K))) (maker' : M) (number : ℕ) (crew : CrewOver K)
      → map.from_entries fs ≡ map.insert old.crews number (Some crew)
      → seen maker' workers fs sent ≡ with_crew (record old { maker = maker' }) number crew
  put fs maker' number crew put_is = λ i. record {
    maker = maker';
    workers = the_workers i;
    crews = put_is i;
    sent = (ap (λ (crews : CrewsOver K M). crews.sent) is) i;
  }

  pub put_new : (fs : List (ℕ × Option (CrewOver K))) (number : ℕ) (crew : CrewOver K)
      → ((q : ℕ) → lookup (is_at (nat_cmp q)) fs ≡ cond (is_at (nat_cmp number) q)
      (Some (Some crew)) (lookup (is_at (nat_cmp q)) es))
      → map.from_entries {R = nat_cmp} fs ≡ map.insert old.crews number (Some crew)
  put_new fs number crew updates =
      one_put nat_cmp_total nat_cmp-IsAntisymmetric es fs old.crews number (Some crew) the_map
      updates

  pub put_through_place : (fs : List (ℕ × Option (CrewOver K))) (number : ℕ)
      (crew crew' : CrewOver K) → lookup (is_at (nat_cmp number)) es ≡ Some (Some crew)
      → fs ≡ set_value (is_at (nat_cmp number)) es (Some crew')
      → map.from_entries {R = nat_cmp} fs ≡ map.insert old.crews number (Some crew')
  put_through_place fs number crew crew' there written =
      put_through nat_cmp_total nat_cmp-IsAntisymmetric es fs old.crews number (Some crew)
      (Some crew') the_map there written

  -- no place is empty once the crew is there
  pub full_after : (fs : List (ℕ × Option (CrewOver K))) (number : ℕ) (crew : CrewOver K)
      → AreThere (map.from_entries {R = nat_cmp} es)
      → map.from_entries fs ≡ map.insert old.crews number (Some crew)
      → AreThere (map.from_entries {R = nat_cmp} fs)
  full_after fs number crew full put_is =
      full_with old.crews _ number crew (subst AreThere the_map full) put_is

  -- and it is there
  pub there_after : (fs : List (ℕ × Option (CrewOver K))) (number : ℕ) (crew : CrewOver K)
      → map.from_entries fs ≡ map.insert old.crews number (Some crew)
      → map.get (map.from_entries {R = nat_cmp} fs) number ≡ Some (Some crew)
  there_after fs number crew put_is =
      ap (λ m. map.get m number) put_is
      ∙ get_put nat_cmp_total nat_cmp-IsAntisymmetric old.crews number (Some crew)

  module _ (custody : Custody K) (making : Making M K) (maker' : M) (number : ℕ)
      (none : is_some (lookup (is_at (nat_cmp number)) es) ≡ false)
      (allows : AllowsNoMore making maker maker') where
    left_is : (fs : List (ℕ × Option (CrewOver K))) → fs ≡ es
        → seen maker' workers fs sent ≡ record old { maker = maker' }
    left_is fs same = λ i. record {
      maker = maker';
      workers = the_workers i;
      crews = (ap (λ l. map.from_entries l) same ∙ the_map) i;
      sent = (ap (λ (crews : CrewsOver K M). crews.sent) is) i;
    }

    -- the node is left as it was
    pub stays_shut : (fs : List (ℕ × Option (CrewOver K))) (fault : Fault) → fs ≡ es
        → IsNotOpened custody making maker number fault
        → Opens custody making old number (Err fault) (seen maker' workers fs sent)
    stays_shut fs fault same why =
        subst (Opens custody making old number (Err fault)) (sym (left_is fs same))
        (Opens.shut (unopened number none)
        (subst (λ m. AllowsNoMore making m maker') made_by allows)
        (subst (λ m. IsNotOpened custody making m number fault) made_by why))

    -- so it is where it and the open ones contradict each other
    pub contradicted : (fault : Fault) (keeper : K) (crew : CrewOver K)
        → IsMade custody making maker number keeper → IsSeated custody number workers keeper crew
        → FindsAgainst (ClashesAt old crew.node.node.saved)
        (StraysAt old number crew.node.node.saved) (Some fault)
        → Opens custody making old number (Err fault) (seen maker' workers es sent)
    contradicted fault keeper crew made seated why =
        subst (Opens custody making old number (Err fault)) (sym (left_is es refl))
        (Opens.contradicts (unopened number none)
        (subst (λ m. IsMade custody making m number keeper) made_by made)
        (subst (λ m. AllowsNoMore making m maker') made_by allows)
        (subst (λ w. IsSeated custody number w keeper crew) the_workers seated) why)

    -- it has a crew now
    pub is_opened : (fs : List (ℕ × Option (CrewOver K))) (keeper : K) (crew : CrewOver K)
        → map.from_entries fs ≡ map.insert old.crews number (Some crew)
        → IsMade custody making maker number keeper → IsSeated custody number workers keeper crew
        → HasNamesOnce crew.node.node.saved
        → FindsAgainst (ClashesAt old crew.node.node.saved)
        (StraysAt old number crew.node.node.saved) None
        → Opens custody making old number (Ok tt) (seen maker' workers fs sent)
    is_opened fs keeper crew put_is made seated names joins =
        subst (Opens custody making old number (Ok tt)) (sym (put fs maker' number crew put_is))
        (Opens.opened (unopened number none)
        (subst (λ m. IsMade custody making m number keeper) made_by made)
        (subst (λ m. AllowsNoMore making m maker') made_by allows)
        (subst (λ w. IsSeated custody number w keeper crew) the_workers seated) names joins)

  -- the crew is restarted in its place
  pub restarted : (custody : Custody K) (fs : List (ℕ × Option (CrewOver K))) (number : ℕ)
      (keeps : Bool) (crew crew' : CrewOver K) (result : Result ℕ Fault)
      → lookup (is_at (nat_cmp number)) es ≡ Some (Some crew)
      → fs ≡ set_value (is_at (nat_cmp number)) es (Some crew')
      → IsRestarted custody keeps crew crew' result
      → RestartsAt custody old number keeps (replied (boot_reply result))
      (seen maker workers fs sent)
  restarted custody fs number keeps crew crew' result there written restarts =
      subst (RestartsAt custody old number keeps (replied (boot_reply result)))
      (sym (put fs maker number crew' (put_through_place fs number crew crew' there written)
      ∙ ap (λ m. with_crew (record old { maker = m }) number crew') made_by))
      (RestartsAt.restarts (sym (held number) ∙ there) restarts)

  -- the packets are kept behind those that were sent
  pub sends : (told sent' : List Packet) (count count' : ℕ) → count ≡ length sent
      → count' ≡ length told → sent' ≡ sent ++ told
      → SendsAll old told (Sent (count + 1) count') (seen maker workers es sent')
  sends told sent' count count' count_is count_is' kept =
      subst (λ n. SendsAll old told (Sent (n + 1) count') (seen maker workers es sent'))
      (sym (count_is ∙ ap (λ (crews : CrewsOver K M). length crews.sent) is))
      (subst (λ n. SendsAll old told (Sent (length old.sent + 1) n) (seen maker workers es sent'))
      (sym count_is') (subst (SendsAll old told (Sent (length old.sent + 1) (length told)))
      (sym (ap (λ l. seen maker workers es l) kept
      ∙ ap (λ (crews : CrewsOver K M). with_sent crews told) is)) SendsAll.sent))

  pub sends_none : (told sent' : List Packet) → sent' ≡ sent → 0 < length told
      → SendsAll old told starved (seen maker workers es sent')
  sends_none told sent' kept some =
      subst (SendsAll old told starved) (sym (ap (λ l. seen maker workers es l) kept ∙ is))
      (SendsAll.no_room some)
