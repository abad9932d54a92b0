-- What is at the paths of a folder once one of them has changed.
use Rattle.std.proofs.Common.{◌≡◌, ◌∙◌, ℕ, List, Bool, true, false, cond, Option, None, Some, option_map, string_bytes, nat_cmp, refl, sym, ap, inl, inr}
use Rattle.std.specs.BTreeMap.{UpdatesBy, get_by_text}
use Rattle.std.specs.Cmp.Lexicographic.{slice_cmp}
use Rattle.std.specs.Map.{update}
use Rattle.std.specs.Str.{bytes_eq}
use Rattle.std.specs.String.{string_cmp}
use Rattle.std.proofs.lemmas.Bool.{cases_Bool, cond-true, cond-false}
use Rattle.std.proofs.lemmas.Map.Text.{btree_map_updates_text}
use Rattle.std.proofs.lemmas.Slice.Eq.{bytes_eq-Decides}
use Rattle.sqlite_disk.specs.declared.Files.{Files}
use Rattle.sqlite_disk.specs.declared.memory.Memory.{Memory}
use Rattle.fl_folder.specs.declared.folder.Folder.{Folder}
use Rattle.fl_folder.specs.declared.place.Place.{Place}
use Rattle.fl_folder.specs.Lying.{place}

map_cond : {A B : Type 0} (f : A → B) (b : Bool) (x y : Option A) → option_map f (cond b x y) ≡ cond b (option_map f x) (option_map f y)
map_cond f true x y = refl
map_cond f false x y = refl

module _ (old new : Folder) (path : List ℕ) where
  -- what was written at its key is at the path
  pub placed : (files : Option (Files Memory)) (w : Place) → w.files ≡ files
      → UpdatesBy string_cmp (λ k. slice_cmp nat_cmp path (string_bytes k)) old.places new.places (Some w)
      → (at : List ℕ) → place new at ≡ update bytes_eq (place old) path (Some files) at
  placed files w is h at =
      ap (option_map (λ (it : Place). it.files)) (btree_map_updates_text path old.places new.places (Some w) h at)
      ∙ map_cond (λ (it : Place). it.files) (bytes_eq path at) (Some w) (get_by_text old.places at)
      ∙ ap (λ it. update bytes_eq (place old) path (Some it) at) is

  -- where that was there before, nothing has changed
  pub unplaced : ((at : List ℕ) → place new at ≡ update bytes_eq (place old) path (Some None) at) → place old path ≡ Some None
      → (at : List ℕ) → place new at ≡ place old at
  unplaced h was at = elim (cases_Bool (bytes_eq path at)) [
    | inl same ↦ h at ∙ cond-true _ _ _ same ∙ sym was ∙ ap (place old) ((bytes_eq-Decides path at).0 same)
    | inr other ↦ h at ∙ cond-false _ _ _ other
  ]
