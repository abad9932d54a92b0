-- What may be opened by a maker may be opened by one that makes no less.
use Rattle.std.specs.Prelude.{ℕ}
use Rattle.std.specs.declared.result.Result.{Result}
use Rattle.fl_store.specs.Custody.{Custody}
use Rattle.fl_store.specs.Kept.{Kept}
use Rattle.fl_makers.specs.Making.{Making}
use Rattle.fl_system.specs.declared.answer.Fault.{Fault}
use Rattle.fl_system.specs.World.{World}
use Rattle.fl_calls.specs.Answer.{Answer}
use Rattle.fl_calls.specs.Entering.{Openings, Enters, is_there, joins, is_refused, OnceOpen, shut, opened}
use Rattle.fl_calls.specs.Over.{without_keeper, not_joined, openings_of, openings_between}

-- the second ones find and refuse no less
pub record OpensMore (less more : Openings) : Type 0 where
  pub finds : (number : ℕ) (k : Kept) → less.finds number k → more.finds number k
  pub refuses : (w : World) (number : ℕ) (fault : Fault) → less.refuses w number fault
      → more.refuses w number fault

-- those of a maker that makes no more than another
pub opens_more : {K M : Type 0} (custody : Custody K) (making : Making M K) (maker maker' : M)
    → ((n : ℕ) (keeper : K) → making.makes maker' n keeper → making.makes maker n keeper)
    → ((n : ℕ) (k : Kept) → making.finds maker' n k → making.finds maker n k)
    → ((n : ℕ) (fault : Fault) → making.refuses maker' n fault → making.refuses maker n fault)
    → OpensMore (openings_of custody making maker') (openings_of custody making maker)
opens_more {K} {M} custody making maker maker' m f r =
    record { finds = f; refuses = refuses_more }
  where
    refuses_more : (w : World) (number : ℕ) (fault : Fault)
        → (openings_of custody making maker').refuses w number fault
        → (openings_of custody making maker).refuses w number fault
    refuses_more w number fault (without_keeper why) = without_keeper (r number fault why)
    refuses_more w number fault (not_joined keeper left made other over) =
        not_joined keeper left (m number keeper made) other (λ trusted. let (honest, k, held, found, refused) = over trusted in
        (honest, k, held, f number k found, refused))

-- the same of openings until a maker, and until one that finds no more than that
pub opens_until : {K M : Type 0} (custody : Custody K) (making : Making M K) (maker maker' left left' : M)
    → ((n : ℕ) (keeper : K) → making.makes maker' n keeper → making.makes maker n keeper)
    → ((n : ℕ) (k : Kept) → making.finds maker' n k → making.finds maker n k)
    → ((n : ℕ) (fault : Fault) → making.refuses maker' n fault → making.refuses maker n fault)
    → ((n : ℕ) (k : Kept) → making.finds left' n k → making.finds left n k)
    → OpensMore (openings_between custody making maker' left) (openings_between custody making maker left')
opens_until custody making maker maker' left left' m f r l = record {
  finds = λ n k h. (f n k h.0, λ other found. h.1 other (l n other found));
  refuses = (opens_more custody making maker maker' m f r).refuses;
}

-- and of all that a maker opens
pub opens_ever : {K M : Type 0} (custody : Custody K) (making : Making M K) (maker left : M)
    → OpensMore (openings_between custody making maker left) (openings_of custody making maker)
opens_ever custody making maker left =
    record { finds = λ n k h. h.0; refuses = λ w n fault why. why }

module _ (less more : Openings) (wider : OpensMore less more) where
  pub enters_more : (w w' : World) (number : ℕ) (result : Result (Unit {0}) Fault)
      → Enters less w number result w' → Enters more w number result w'
  enters_more w w' number result (is_there at) = is_there at
  enters_more w w' number result (joins none found step) =
      joins none (wider.finds number _ found) step
  enters_more w w' number result (is_refused none why) =
      is_refused none (wider.refuses w number _ why)

  pub once_open_more : (w w' : World) (number : ℕ) (does does' : World → Answer → World → Type 0) (answer : Answer)
      → ((v : World) (answer : Answer) (v' : World) → does v answer v' → does' v answer v')
      → OnceOpen less w number does answer w' → OnceOpen more w number does' answer w'
  once_open_more w w' number does does' answer leads (shut entered) =
      shut (enters_more w _ number _ entered)
  once_open_more w w' number does does' answer leads (opened entered done) =
      opened (enters_more w _ number _ entered) (leads _ _ _ done)
