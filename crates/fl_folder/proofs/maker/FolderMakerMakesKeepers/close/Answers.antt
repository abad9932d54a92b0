use Rattle.std.proofs.Common.{◌≡◌, ◌∙◌, inl, inr, Some, sym, subst, arith}
use Rattle.sqlite.specs.Files.{file_state}
use Rattle.fl_sql_store.specs.SqlKeeping.{held_in}
use Rattle.fl_dir_maker.specs.Keeping.{IsKeptIn}
use Rattle.fl_folder.specs.Lying.{place, IsAt}
use Rattle.fl_folder.proofs.Found.{found_after, found_same}
use Rattle.fl_folder.proofs.maker.FolderMakerMakesKeepers.close.Goals as goal

pub returns-in-Ok-keep : goal.returns-in-Ok-keep
returns-in-Ok-keep c n k it =
    let old = c.args.self.now.folder in
    let new = c.keep.new.self in
    let path = c.as_str.result.now in
    let keeper = c.args.keeper in
    let own : keeper.number ≡ c.args.number = omega (arith, c.if-number.false, c.number.ensures) in
    let after = found_after old new c.args.self.now.dir.now path c.args.number (Some c.in-Ok-keep.ensures.kept.files)
    c.in-Ok-keep.ensures.kept.lie
    (λ other small is. c.in-Ok.ensures.own other small (sym c.as_str.ensures.value ∙ is))
    (held_in keeper.number (file_state keeper.conn))
    (λ found there. c.in-Ok-keep.ensures.finds found (subst (λ m. IsKeptIn (IsAt (place new path)) m found) (sym own) there))
    n k it in
    elim after [ inl before ↦ inl before | inr now ↦ inr (now.0, λ honest. now.1) ]

pub returns : goal.returns
returns c n k it =
    inl (found_same c.args.self.now.folder c.keep.new.self c.args.self.now.dir.now c.as_str.result.now c.args.number c.in-Err.ensures.same n k it)
