use Rattle.std.proofs.Common.{◌≡◌, ℕ, List, Some, string_bytes, subst, refl}
use Rattle.std.specs.Map.{update}
use Rattle.std.specs.Str.{bytes_eq}
use Rattle.fl_folder.specs.Lying.{place}
use Rattle.fl_folder.proofs.Places.{placed}
use Rattle.fl_folder.proofs.folder.Folder.add.Goals as goal

pub returns-in-Ok-insert-clause-adds : goal.returns-in-Ok-insert-clause-adds
returns-in-Ok-insert-clause-adds c =
    let old = c.args.self.now in
    let new = record old { places = c.insert.new.self } in
    subst (λ path. (at : List ℕ) → place new at ≡ update bytes_eq (place old) path (Some c.args.it.files) at) c.in-Ok.ensures.ok
    (placed old new (string_bytes c.in-Ok.name) c.args.it.files c.args.it refl c.in-Ok-insert.ensures.updates)
