-- What is said of who opens the files of databases.
use Rattle.std.specs.Prelude.{ℕ, List}
use Rattle.sqlite_wal.specs.Recovery.{Image}
use Rattle.fl_dir_maker.specs.declared.fault.Cause.{Cause}

-- in one word
pub record Reach (O : Type 0) : Type 1 where
  -- how the files at a path may read once they are opened, from this opener on
  pub holds : O → List ℕ → Image → Type 0
  -- why they may not be opened
  pub fails : O → List ℕ → Cause → Type 0
  -- how files may read that are opened a second time, while they are open
  pub again : Image → Type 0

-- of files of which nothing is known
abbrev pub unknown : {O : Type 0} → Reach O
unknown = record { holds = λ _ _ _. Unit {0}; fails = λ _ _ _. Unit {0}; again = λ _. Unit {0} }
