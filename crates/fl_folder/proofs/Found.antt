-- What is found in a folder in which a keeper was closed.
use Rattle.std.proofs.Common.{◌≡◌, ◌∙◌, ◌⊎◌, ◌<◌, ◌^◌, inl, inr, ℕ, List, Option, Some, sym, subst}
use Rattle.std.specs.Map.{update}
use Rattle.std.specs.Str.{bytes_eq}
use Rattle.std.proofs.lemmas.Bool.{cases_Bool, cond-false}
use Rattle.std.proofs.lemmas.Slice.Eq.{bytes_eq-Decides}
use Rattle.sqlite_disk.specs.declared.Files.{Files}
use Rattle.sqlite_disk.specs.declared.memory.Memory.{Memory}
use Rattle.fl_store.specs.Kept.{Kept}
use Rattle.fl_dir_maker.specs.Keeping.{IsKeptIn}
use Rattle.fl_dir_maker.specs.NodeFile.{node_file}
use Rattle.fl_dir_maker.proofs.Keepers.{kept_more}
use Rattle.fl_folder.specs.declared.folder.Folder.{Folder}
use Rattle.fl_folder.specs.Lying.{place, IsAt}

module _ (old new : Folder) (dir path : List ℕ) (number : ℕ) where
  -- Where files were put at the path of one node's file, each other node finds what it did.
  pub found_after : (it : Option (Files Memory))
      → ((at : List ℕ) → place new at ≡ update bytes_eq (place old) path (Some it) at)
      → ((other : ℕ) → other < 2 ^ 32 → path ≡ node_file dir other → other ≡ number)
      → (P : Kept → Type 0) → ((k : Kept) → IsKeptIn (IsAt (place new path)) number k → P k)
      → (n : ℕ) (k : Kept) → (n < 2 ^ 32) × IsKeptIn (IsAt (place new (node_file dir n))) n k
      → ((n < 2 ^ 32) × IsKeptIn (IsAt (place old (node_file dir n))) n k) ⊎ ((n ≡ number) × P k)
  found_after it lie own P found n k (small, kept) = elim (cases_Bool (bytes_eq path (node_file dir n))) [
    | inl same ↦
        let here : path ≡ node_file dir n = (bytes_eq-Decides path (node_file dir n)).0 same in
        let is : n ≡ number = own n small here in
        inr (
          is,
          found k (subst (λ m. IsKeptIn (IsAt (place new path)) m k) is
              (subst (λ at. IsKeptIn (IsAt (place new at)) n k) (sym here) kept)),
        )
    | inr other ↦ inl (
      small,
      kept_more (IsAt (place new (node_file dir n))) (IsAt (place old (node_file dir n)))
          (λ image h. subst (λ p. IsAt p image) (lie (node_file dir n) ∙ cond-false _ _ _ other) h) n k kept,
    )
  ]

  -- where all paths are as they were, so does each node
  pub found_same : ((at : List ℕ) → place new at ≡ place old at)
      → (n : ℕ) (k : Kept) → (n < 2 ^ 32) × IsKeptIn (IsAt (place new (node_file dir n))) n k
      → (n < 2 ^ 32) × IsKeptIn (IsAt (place old (node_file dir n))) n k
  found_same same n k (small, kept) = (
    small,
    kept_more (IsAt (place new (node_file dir n))) (IsAt (place old (node_file dir n)))
        (λ image h. subst (λ p. IsAt p image) (same (node_file dir n)) h) n k kept,
  )
