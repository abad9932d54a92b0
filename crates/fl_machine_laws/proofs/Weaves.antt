-- Machines each of which guards its orders guard them among one another.
use Rattle.std.proofs.Common.{◌≡◌, ◌≢◌, ◌⊎◌, ◌∙◌, ◌<◌, inl, inr, ℕ, zero, suc, List, [], ◌∷◌, Some}
use Rattle.std.proofs.Common.{slice_get, refl, sym, ap, subst, arith}
use Rattle.std.proofs.lemmas.Bool.{cases_eq}
use Rattle.fl_labels.specs.declared.pid.Pid.{Pid}
use Rattle.fl_jobs.specs.declared.job.Act.TheVariants.{Emit}
use Rattle.fl_jobs.specs.declared.job.Job.{Job as AnyJob}
use Rattle.fl_jobs.specs.declared.job.Job.TheVariants.{By}
use Rattle.fl_machine_model.specs.Acts.{Act, Job, Outcome}
use Rattle.fl_machine_model.specs.Guards.{IsOrder, LetsOut, AreGuarded, AreGuardedBehind}
use Rattle.fl_machine_model.specs.Machines.{Deed, Acts, Turn}
use Rattle.fl_machine_model.specs.Processes.{Doing, Begins, Does, Stops, Entry, mine}
use Rattle.fl_machine_laws.specs.Guards.{number_of, IsOrderAt, IsEmissionAt, IsLetOut}
use Rattle.fl_machine_laws.specs.Woven.{IsDeedOf, AreDeedsOf}
use Rattle.fl_machine_laws.proofs.Weaving.{its_own, anothers}

-- ---- one entry

deed_number : {e : Entry} {deed : Deed} → IsDeedOf e deed → number_of deed ≡ e.number
deed_number IsDeedOf.starts = refl
deed_number (IsDeedOf.acts other) = refl
deed_number IsDeedOf.gets = refl
deed_number IsDeedOf.ends = refl

-- an order at a machine is its doing
record OrderOf (e : Entry) (number : ℕ) (act : Act) : Type 0 where
  own : number ≡ e.number
  came : Outcome
  does : e.doing ≡ Does act came

act_of : {e : Entry} {number : ℕ} {act : Act} {saying : _} → IsDeedOf e (Acts number act saying)
    → OrderOf e number act
act_of (IsDeedOf.acts {o = o} other) = record { own = refl; came = o; does = refl }

order_of : {e : Entry} {t : Turn} {number : ℕ} {pid : Pid} → IsDeedOf e t.deed
    → IsOrderAt t number pid → (number ≡ e.number) × IsOrder e.doing pid
order_of {e} is o =
    let a = act_of (subst (IsDeedOf e) o.is is) in
    (a.own, record { desk = o.desk; upto = o.upto; order = o.order; came = a.came; is = a.does })

-- as a deed of the machine of this number
acts_as : ℕ → Doing → Deed → Deed
acts_as number (Does act o) deed = Acts number act o.says
acts_as number (Begins k saying) deed = deed
acts_as number (Stops k) deed = deed

deed_of : {e : Entry} {deed : Deed} {desk upto : ℕ} {job : AnyJob} {came : Outcome}
    → IsDeedOf e deed → e.doing ≡ Does (Job desk upto job) came
    → deed ≡ Acts e.number (Job desk upto job) came.says
unfolding acts_as
deed_of IsDeedOf.starts h = absurd (cc)
deed_of (IsDeedOf.acts {number} {act} {o} other) h =
    ap (λ d. acts_as number d (Acts number act o.says)) h
deed_of IsDeedOf.gets h = absurd (cc)
deed_of IsDeedOf.ends h = absurd (cc)

emission_of : {e : Entry} {t : Turn} {number : ℕ} {pid : Pid} → IsDeedOf e t.deed
    → number ≡ e.number → LetsOut e.doing pid → IsEmissionAt t number pid
emission_of {e} {t} {number} {pid} is own lets =
    record {
      desk = lets.desk;
      upto = lets.upto;
      bytes = lets.bytes;
      is =
          deed_of is lets.is
          ∙ (λ i. Acts (sym own i) (Job lets.desk lets.upto (By pid (Emit lets.bytes)))
          (lets.says i));
    }

-- ---- one machine's among all

same_turn : {t u : Turn} → Some t ≡ Some u → t ≡ u
same_turn e = cc

module _ (number : ℕ) (pid : Pid) where
  -- before this place there is no turn of the machine
  abbrev IsAloneTo : List Turn → ℕ → Type 0
  IsAloneTo ts j = (k : ℕ) (t : Turn) → k < j → slice_get ts k ≡ Some t
      → number_of t.deed ≢ number

  one_more : (u : Turn) (ts : List Turn) (j : ℕ) → number_of u.deed ≢ number → IsAloneTo ts j
      → IsAloneTo (u ∷ ts) (suc j)
  one_more u ts j apart alone zero t low at =
      subst (λ (x : Turn). number_of x.deed ≢ number) (same_turn at) apart
  one_more u ts j apart alone (suc k) t low at = alone k t (omega (arith, low)) at

  later : (u : Turn) (ts : List Turn) (j : ℕ) → IsLetOut ts j number pid
      → IsLetOut (u ∷ ts) (suc j) number pid
  later u ts j out =
      record {
        place = suc out.place;
        turn = out.turn;
        there = out.there;
        emits = out.emits;
        before = omega (arith, out.before);
        alone = behind_it;
      }
    where
      behind_it : (k : ℕ) (t : Turn) → suc out.place < k → k < suc j
          → slice_get (u ∷ ts) k ≡ Some t → number_of t.deed ≢ number
      behind_it zero t low high at = absurd (omega (arith, low))
      behind_it (suc k) t low high at =
          out.alone k t (omega (arith, low)) (omega (arith, high)) at

  at_front : (u : Turn) (ts : List Turn) (j : ℕ) → IsEmissionAt u number pid → IsAloneTo ts j
      → IsLetOut (u ∷ ts) (suc j) number pid
  at_front u ts j emits alone =
      record {
        place = 0;
        turn = u;
        there = refl;
        emits = emits;
        before = omega arith;
        alone = behind_it;
      }
    where
      behind_it : (k : ℕ) (t : Turn) → 0 < k → k < suc j
          → slice_get (u ∷ ts) k ≡ Some t → number_of t.deed ≢ number
      behind_it zero t low high at = absurd (omega (arith, low))
      behind_it (suc k) t low high at = alone k t (omega (arith, high)) at

  -- what was done before it lets out, and there is no turn of the machine between; or one of these
  -- turns does
  abbrev IsBehind : Doing → List Turn → ℕ → Type 0
  IsBehind before ts j = (LetsOut before pid × IsAloneTo ts j) ⊎ IsLetOut ts j number pid

  from_own : (e : Entry) (u : Turn) (ts : List Turn) (j : ℕ) → IsDeedOf e u.deed
      → number ≡ e.number → IsBehind e.doing ts j → IsLetOut (u ∷ ts) (suc j) number pid
  from_own e u ts j is own (inl (lets, alone)) = at_front u ts j (emission_of is own lets) alone
  from_own e u ts j is own (inr out) = later u ts j out

  from_other : (before : Doing) (e : Entry) (u : Turn) (ts : List Turn) (j : ℕ)
      → IsDeedOf e u.deed → number ≢ e.number → IsBehind before ts j
      → IsBehind before (u ∷ ts) (suc j)
  from_other before e u ts j is other (inl (lets, alone)) =
      inl (lets, one_more u ts j (λ same. other (sym same ∙ deed_number is)) alone)
  from_other before e u ts j is other (inr out) = inr (later u ts j out)

  order_here : (e : Entry) (u t : Turn) → IsDeedOf e u.deed → Some u ≡ Some t
      → IsOrderAt t number pid → (number ≡ e.number) × IsOrder e.doing pid
  order_here e u t is at order =
      order_of (subst (λ (x : Turn). IsDeedOf e x.deed) (same_turn at) is) order

  behind : (before : Doing) (es : List Entry) (ts : List Turn) → AreDeedsOf es ts
      → AreGuardedBehind before (mine number es) → (j : ℕ) (t : Turn) → slice_get ts j ≡ Some t
      → IsOrderAt t number pid → IsBehind before ts j
  behind before [] [] deeds guarded j t at order = absurd (cc)
  behind before [] (u ∷ ts) deeds guarded j t at order = absurd deeds
  behind before (e ∷ es) [] deeds guarded j t at order = absurd deeds
  behind before (e ∷ es) (u ∷ ts) deeds guarded zero t at order =
      let o = order_here e u t deeds.0 at order in
      let own = subst (AreGuardedBehind before) (its_own number e es o.0) guarded in
      inl (own.0 pid o.1, λ k x low there. absurd (omega (arith, low)))
  behind before (e ∷ es) (u ∷ ts) deeds guarded (suc j) t at order =
      elim (cases_eq number e.number) [
        | inl own ↦
            let rest = subst (AreGuardedBehind before) (its_own number e es own) guarded in
            inr (from_own e u ts j deeds.0 own
            (behind e.doing es ts deeds.1 rest.1 j t at order))
        | inr other ↦
            from_other before e u ts j deeds.0 other
            (behind before es ts deeds.1
            (subst (AreGuardedBehind before) (anothers number e es other) guarded) j t at order)
      ]

  pub guarded_among : (es : List Entry) (ts : List Turn) → AreDeedsOf es ts
      → AreGuarded (mine number es) → (j : ℕ) (t : Turn) → slice_get ts j ≡ Some t
      → IsOrderAt t number pid → IsLetOut ts j number pid
  guarded_among [] [] deeds guarded j t at order = absurd (cc)
  guarded_among [] (u ∷ ts) deeds guarded j t at order = absurd deeds
  guarded_among (e ∷ es) [] deeds guarded j t at order = absurd deeds
  guarded_among (e ∷ es) (u ∷ ts) deeds guarded zero t at order =
      let o = order_here e u t deeds.0 at order in
      let own = subst AreGuarded (its_own number e es o.0) guarded in
      absurd (own.0 pid o.1)
  guarded_among (e ∷ es) (u ∷ ts) deeds guarded (suc j) t at order =
      elim (cases_eq number e.number) [
        | inl own ↦
            let rest = subst AreGuarded (its_own number e es own) guarded in
            from_own e u ts j deeds.0 own (behind e.doing es ts deeds.1 rest.1 j t at order)
        | inr other ↦
            later u ts j (guarded_among es ts deeds.1
            (subst AreGuarded (anothers number e es other) guarded) j t at order)
      ]
