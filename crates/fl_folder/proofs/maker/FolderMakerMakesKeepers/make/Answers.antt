use Rattle.std.proofs.Common.{◌∙◌, inr, refl, subst, sym, arith}
use Rattle.fl_dir_maker.specs.declared.fault.Cause.TheVariants.{Memory}
use Rattle.fl_dir_maker.specs.Keeping.{IsKeeperOver, no_room}
use Rattle.fl_dir_maker.proofs.Keepers.{kept_more, keeper_less, unmade_less, refuses_less}
use Rattle.fl_folder.specs.Lying.{folder_reach}
use Rattle.fl_folder.proofs.maker.FolderMakerMakesKeepers.make.Goals as goal

pub returns-in_default-clause-why : goal.returns-in_default-clause-why
returns-in_default-clause-why c = (Memory, refl, no_room)

pub returns-in-Ok-open-clause-makes : goal.returns-in-Ok-open-clause-makes
returns-in-Ok-open-clause-makes c =
    subst (λ at. IsKeeperOver (folder_reach.holds c.args.self.now.folder at) c.args.number c.in-Ok-open.keeper)
    (c.as_str.ensures.value ∙ c.in-Ok.ensures.file) c.in-Ok-open.ensures.keeper

pub returns-in-Ok-open-clause-made : goal.returns-in-Ok-open-clause-made
returns-in-Ok-open-clause-made c honest k held = (
  omega (arith, c.ranges.number),
  (subst (λ at. IsKeeperOver (folder_reach.holds c.args.self.now.folder at) c.args.number c.in-Ok-open.keeper)
      (c.as_str.ensures.value ∙ c.in-Ok.ensures.file) c.in-Ok-open.ensures.keeper).finds honest k held,
)

pub returns-in-Ok-open-clause-out : goal.returns-in-Ok-open-clause-out
returns-in-Ok-open-clause-out c k found =
    kept_more _ _ (λ image held. c.in-Ok-open.ensures.out image
    (subst (λ at. folder_reach.holds c.open.new.opener at image)
    (sym (c.as_str.ensures.value ∙ c.in-Ok.ensures.file)) held)) c.args.number k found.1

pub returns-in-Ok-open-clause-fails : goal.returns-in-Ok-open-clause-fails
returns-in-Ok-open-clause-fails c left why =
    let over = subst (λ at. IsKeeperOver (folder_reach.holds c.args.self.now.folder at) c.args.number c.in-Ok-open.keeper)
    (c.as_str.ensures.value ∙ c.in-Ok.ensures.file) c.in-Ok-open.ensures.keeper in
    inr (refl, (c.in-Ok-open.keeper, left, over, why))

pub returns-in-Ok-open-clause-same : goal.returns-in-Ok-open-clause-same
returns-in-Ok-open-clause-same c =
    let old = c.args.self.now.folder in
    let new = c.open.new.opener in
    let dir = c.args.self.now.dir.now in
    record {
      makes = λ n. keeper_less folder_reach {old = old} {new = new} dir c.open.ensures.same_holds n;
      finds = λ n k it. (it.0, kept_more _ _ (c.open.ensures.same_holds _) n k it.1);
      unmade = λ n. unmade_less folder_reach {old = old} {new = new} dir c.open.ensures.same_holds n c.open.ensures.same_fails;
      refuses = λ n. refuses_less folder_reach {old = old} {new = new} dir c.open.ensures.same_holds n c.open.ensures.same_fails _;
    }

pub returns-clause-same : goal.returns-clause-same
returns-clause-same c =
    let old = c.args.self.now.folder in
    let new = c.open.new.opener in
    let dir = c.args.self.now.dir.now in
    record {
      makes = λ n. keeper_less folder_reach {old = old} {new = new} dir c.open.ensures.same_holds n;
      finds = λ n k it. (it.0, kept_more _ _ (c.open.ensures.same_holds _) n k it.1);
      unmade = λ n. unmade_less folder_reach {old = old} {new = new} dir c.open.ensures.same_holds n c.open.ensures.same_fails;
      refuses = λ n. refuses_less folder_reach {old = old} {new = new} dir c.open.ensures.same_holds n c.open.ensures.same_fails _;
    }
