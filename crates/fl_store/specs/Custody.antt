-- What is promised of a keeper, in one word.
use Rattle.std.specs.Prelude.{ℕ, Bool}
use Rattle.fl_store.specs.Call.{Call}
use Rattle.fl_store.specs.Keeping.{Held}

pub record Custody (K : Type 0) : Type 1 where
  -- the node
  pub number : K → ℕ
  -- what an opening may find if the call, or the process, ends here
  pub may_hold : K → Held
  -- nobody else has written what is kept, and what was written is read back
  pub is_honest : K → Type 0
  -- how many faults there were since the opening
  pub failed : K → ℕ
  -- each call says so until it is opened again
  pub is_broken : K → Bool
  -- what is kept has a row that no keeper writes
  pub has_bad_row : K → Type 0
  -- why a call breaks the first, which is then the second
  pub breaks : Call → K → K → Type 0
  -- why a call of the first wants for memory; it is then the second
  pub wants : Call → K → K → Type 0
  -- what more is said of a call of the first that did not want for memory; it is then the second
  pub becomes : Call → K → K → Type 0
