use Rattle.std.proofs.Common.{inl, inr, refl, subst, sym}
use Rattle.sqlite_disk.specs.contracts.memory.MemoryDisk.TheImpl as memory
use Rattle.fl_dir_maker.specs.Keeping.{MayRead}
use Rattle.fl_dir_maker.proofs.Closed.{closed_both}
use Rattle.fl_dir_maker.proofs.Keepers.{kept_more}
use Rattle.fl_folder.specs.Lying.{place, IsAt}
use Rattle.fl_folder.proofs.Reaching.{put_is_there, seen_is_left}
use Rattle.fl_folder.proofs.folder.Folder.keep.Goals as goal

pub returns-in-Err-clause-refuses : goal.returns-in-Err-clause-refuses
returns-in-Err-clause-refuses c = inr (c.in-Err.error, c.of_database.ensures, c.in-Err.ensures.fails)

pub returns-clause-kept : goal.returns-clause-kept
returns-clause-kept c = record { files = c.in-Ok.files; holds = c.in-Ok.ensures.holds refl; lie = c.in-Ok-put.ensures.puts }

pub returns-clause-finds : goal.returns-clause-finds
returns-clause-finds c k it =
    let files = c.in-Ok.files in
    let there = put_is_there c.args.self.now c.put.new.self c.args.path.now files c.in-Ok-put.ensures.puts in
    closed_both c.args.keeper files k (c.in-Ok.ensures.holds refl)
    (kept_more (IsAt (place c.put.new.self c.args.path.now)) (MayRead memory.ghosts files)
    (λ image h. subst (MayRead memory.ghosts files) (sym (subst (λ it. IsAt it image) there h)) (seen_is_left files)) c.args.keeper.number k it)

pub returns-in_default-clause-refuses : goal.returns-in_default-clause-refuses
returns-in_default-clause-refuses c = inl (refl, c.in_default.ensures.wants)
