-- What is said in the one list of a batch, by who says it.
use Rattle.std.proofs.Common.{◌≡◌, ◌≢◌, ◌⊎◌, inl, inr, ℕ, zero, suc, Bool, true, false, List, [], ◌∷◌, All, map, length, Result, Ok, Err, refl, ap, arith, eqb, if◌then◌else◌}
use Rattle.std.proofs.lemmas.Bool.Decides.{eqb_tells}
use Rattle.fl_system.specs.declared.answer.Fault.{Fault}
use Rattle.fl_system.specs.declared.answer.Fault.TheVariants.{KeeperFailed, Stopped}
use Rattle.fl_crew_model.specs.declared.record.Entry as inner
use Rattle.fl_crew_model.specs.declared.record.Told.{Told}
use Rattle.fl_dealing.specs.Gathered.{select}
use Rattle.fl_dealing.specs.Shown.{shown, shown_taken, reply_of}
use Rattle.fl_dealing.specs.declared.entry.Reply.{Reply}
use Rattle.fl_dealing.specs.declared.entry.Taken.{Taken}
use Rattle.fl_worker.specs.Stops as stops
use Rattle.fl_workers.specs.Batches.{IsAnswered}
use Rattle.fl_manning.specs.Ended.{IsRuledOn}

same_number : (n : ℕ) → eqb n n ≡ true
same_number n = by (eqb_tells n n)
  where
    by : ((eqb n n ≡ true) × (n ≡ n)) ⊎ ((eqb n n ≡ false) × (n ≡ n → ⊥)) → eqb n n ≡ true
    by (inl is) = is.0
    by (inr other) = absurd (other.1 refl)

module _ {X : Type 0} (P : X → Type 0) where
  all_cons : (x : X) (xs : List X) → P x → All P xs → All P (x ∷ xs)
  all_cons x xs here rest zero d below = here
  all_cons x xs here rest (suc k) d below = rest k d (omega arith)

  tail_of : (test : Bool) (x : X) (xs : List X) → All P (if test then x ∷ xs else xs) → All P xs
  tail_of true x xs all k d below = all (suc k) d (omega arith)
  tail_of false x xs all k d below = all k d below

  head_of : (test : Bool) (x : X) (xs : List X) → test ≡ true → All P (if test then x ∷ xs else xs)
      → P x
  head_of true x xs is all = all 0 x (omega arith)
  head_of false x xs is all = absurd (cc)

  -- what is so of all that each owner has is so of all
  pub all_by_owner : (os : List ℕ) (xs : List X) → length xs ≡ length os
      → ((w : ℕ) → All P (select w os xs)) → All P xs
  all_by_owner [] [] count all = λ k d below. absurd (omega arith)
  all_by_owner [] (x ∷ xs) count all = absurd (omega (arith, count))
  all_by_owner (o ∷ os) [] count all = λ k d below. absurd (omega arith)
  all_by_owner (o ∷ os) (x ∷ xs) count all =
      all_cons x xs (head_of (eqb o o) x (select o os xs) (same_number o) (all o))
      (all_by_owner os xs (omega (arith, count)) (λ w. tail_of (eqb o w) x (select w os xs) (all w)))

-- ---- of the registrar

reply_right : (answer : Result ℕ Fault) (fault : Fault) → answer ≢ Err fault
    → reply_of answer ≢ Reply.Told (Told.Refused fault)
reply_right (Ok count) fault other same = cc
reply_right (Err f) fault other same = let is : f ≡ fault = cc in other (ap Err is)

pub all_taken : (ts : List Taken) → All IsRuledOn ts → All IsAnswered (map shown_taken ts)
all_taken [] all = λ k d below. absurd (omega arith)
all_taken (t ∷ ts) all =
    let is = all 0 t (omega arith) in
    all_cons IsAnswered (shown_taken t) (map shown_taken ts)
    (record {
      broken = reply_right t.answer KeeperFailed is.keeps;
      stopped = reply_right t.answer Stopped is.runs;
    })
    (all_taken ts (λ k d below. all (suc k) d (omega (arith, below))))

-- ---- of a worker

pub all_shown : (es : List inner.Entry) → All stops.IsAnswered es → All IsAnswered (map shown es)
all_shown [] all = λ k d below. absurd (omega arith)
all_shown (e ∷ es) all =
    let is = all 0 e (omega arith) in
    all_cons IsAnswered (shown e) (map shown es)
    (record {
      broken = λ same. is.broken (cc);
      stopped = λ same. is.stopped (cc);
    })
    (all_shown es (λ k d below. all (suc k) d (omega (arith, below))))
