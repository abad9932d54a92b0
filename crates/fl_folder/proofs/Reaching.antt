-- How what lies in a folder is opened.
use Rattle.std.proofs.Common.{◌≡◌, ◌∙◌, inl, inr, ℕ, List, Bool, true, false, ◌&&◌, cond, Option, None, Some, refl, sym, ap, subst}
use Rattle.std.specs.Map.{update}
use Rattle.std.specs.Str.{bytes_eq}
use Rattle.std.proofs.lemmas.Slice.Eq.{bytes_eq-Decides}
use Rattle.std.proofs.lemmas.Bool.{cond-true}
use Rattle.sqlite_disk.specs.contracts.memory.MemoryDisk.TheImpl as memory
use Rattle.sqlite_disk.specs.declared.Files.{Files}
use Rattle.sqlite_disk.specs.declared.memory.Memory.{Memory}
use Rattle.sqlite_wal.specs.Recovery.{Image}
use Rattle.fl_dir_maker.specs.Failing.{IsOfFiles}
use Rattle.fl_dir_maker.specs.Keeping.{MayRead}
use Rattle.fl_dir_maker.specs.declared.fault.Cause.{Cause}
use Rattle.fl_folder.specs.declared.folder.Folder.{Folder}
use Rattle.fl_folder.specs.Lying.{place, image_in, IsAt, FailsAt, IsTakenFrom, RefusesToTake}

-- both files are usable
pub both_usable : (log db : Bool) → (log && db) ≡ true → (log ≡ true) × (db ≡ true)
both_usable true true both = (refl, refl)
both_usable true false both = absurd (cc)
both_usable false db both = absurd (cc)

-- what is taken reads as what is there
pub taken_reads : (it : Option (Option (Files Memory))) (files : Files Memory) → IsTakenFrom it files → IsAt it (image_in files)
taken_reads None files h = h
taken_reads (Some None) files h = h
taken_reads (Some (Some there)) files h = ap image_in h

pub refused_of_files : (it : Option (Option (Files Memory))) (cause : Cause) → RefusesToTake it cause → IsOfFiles cause
refused_of_files None cause h = subst IsOfFiles (sym h) tt
refused_of_files (Some None) cause h = subst IsOfFiles (sym h) tt
refused_of_files (Some (Some there)) cause h = absurd h

pub refused_fails : (it : Option (Option (Files Memory))) (cause : Cause) → RefusesToTake it cause → FailsAt it cause
refused_fails None cause h = inr (h, refl)
refused_fails (Some None) cause h = inl h
refused_fails (Some (Some there)) cause h = absurd h

-- a path that was opened reaches no more
open_holds : (b : Bool) (it : Option (Option (Files Memory))) (image : Image) → IsAt (cond b (Some None) it) image → IsAt it image
open_holds true it image h = absurd h
open_holds false it image h = h

open_fails : (b : Bool) (it : Option (Option (Files Memory))) (cause : Cause) → FailsAt (cond b (Some None) it) cause → FailsAt it cause
open_fails true it cause (inl busy) = inl busy
open_fails true it cause (inr (memory, none)) = absurd (cc)
open_fails false it cause h = h

module _ (old new : Folder) (path : List ℕ) (opens : (at : List ℕ) → place new at ≡ update bytes_eq (place old) path (Some None) at) where
  pub opened_holds : (at : List ℕ) (image : Image) → IsAt (place new at) image → IsAt (place old at) image
  opened_holds at image h = open_holds (bytes_eq path at) (place old at) image (subst (λ it. IsAt it image) (opens at) h)

  pub opened_fails : (at : List ℕ) (cause : Cause) → FailsAt (place new at) cause → FailsAt (place old at) cause
  opened_fails at cause h = open_fails (bytes_eq path at) (place old at) cause (subst (λ it. FailsAt it cause) (opens at) h)

  -- nor is it opened again
  pub opened_once : (image : Image) → IsAt (place new path) image → ⊥
  opened_once image h =
      subst (λ it. IsAt it image) (opens path ∙ cond-true _ _ _ ((bytes_eq-Decides path path).1 refl)) h

module _ (old new : Folder) (same : (at : List ℕ) → place new at ≡ place old at) where
  pub same_holds : (at : List ℕ) (image : Image) → IsAt (place new at) image → IsAt (place old at) image
  same_holds at image h = subst (λ it. IsAt it image) (same at) h

  pub same_fails : (at : List ℕ) (cause : Cause) → FailsAt (place new at) cause → FailsAt (place old at) cause
  same_fails at cause h = subst (λ it. FailsAt it cause) (same at) h

-- what was put at a path is what is found there
pub put_is_there : (old new : Folder) (path : List ℕ) (files : Files Memory)
    → ((at : List ℕ) → place new at ≡ update bytes_eq (place old) path (Some (Some files)) at) → place new path ≡ Some (Some files)
put_is_there old new path files puts = puts path ∙ cond-true _ _ _ ((bytes_eq-Decides path path).1 refl)

-- files in memory may be left as they are
pub seen_is_left : (files : Files Memory) → MayRead memory.ghosts files (image_in files)
seen_is_left files = (inl refl, inl refl)
