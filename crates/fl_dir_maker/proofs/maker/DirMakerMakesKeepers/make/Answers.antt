use Rattle.std.proofs.Common.{◌∙◌, inr, refl, subst, sym}
use Rattle.fl_dir_maker.specs.declared.fault.Cause.TheVariants.{Memory}
use Rattle.fl_dir_maker.specs.Keeping.{IsKeeperOver, no_room}
use Rattle.fl_dir_maker.proofs.Keepers.{kept_more, keeper_less, unmade_less, refuses_less}
use Rattle.fl_dir_maker.proofs.maker.DirMakerMakesKeepers.make.Goals as goal

pub returns-in_default-clause-why : goal.returns-in_default-clause-why
returns-in_default-clause-why g c = (Memory, refl, no_room)

pub returns-in-Ok-open-clause-made : goal.returns-in-Ok-open-clause-made
returns-in-Ok-open-clause-made g c =
    (subst (λ at. IsKeeperOver (g.O.OpensFiles.reach.holds c.args.self.now.opener at) c.args.number c.in-Ok-open.keeper)
    (c.as_str.ensures.value ∙ c.in-Ok.ensures.file) c.in-Ok-open.ensures.keeper).finds

pub returns-in-Ok-open-clause-out : goal.returns-in-Ok-open-clause-out
returns-in-Ok-open-clause-out g c k found =
    kept_more _ _ (λ image held. c.in-Ok-open.ensures.out image
    (subst (λ at. g.O.OpensFiles.reach.holds c.open.new.opener at image)
    (sym (c.as_str.ensures.value ∙ c.in-Ok.ensures.file)) held)) c.args.number k found

pub returns-in-Ok-open-clause-fails : goal.returns-in-Ok-open-clause-fails
returns-in-Ok-open-clause-fails g c left why =
    let over = subst (λ at. IsKeeperOver (g.O.OpensFiles.reach.holds c.args.self.now.opener at) c.args.number c.in-Ok-open.keeper)
    (c.as_str.ensures.value ∙ c.in-Ok.ensures.file) c.in-Ok-open.ensures.keeper in
    inr (refl, (c.in-Ok-open.keeper, left, over, why))

pub returns-in-Ok-open-clause-same : goal.returns-in-Ok-open-clause-same
returns-in-Ok-open-clause-same g c =
    record {
      makes = λ n. keeper_less g.O.OpensFiles.reach c.args.self.now.dir.now c.open.ensures.same_holds n;
      finds = λ n. kept_more _ _ (c.open.ensures.same_holds _) n;
      unmade = λ n. unmade_less g.O.OpensFiles.reach c.args.self.now.dir.now
          c.open.ensures.same_holds n c.open.ensures.same_fails;
      refuses = λ n. refuses_less g.O.OpensFiles.reach c.args.self.now.dir.now
          c.open.ensures.same_holds n c.open.ensures.same_fails _;
    }

pub returns-clause-same : goal.returns-clause-same
returns-clause-same g c =
    rw c.tell.ensures (record {
      makes = λ n. keeper_less g.O.OpensFiles.reach c.args.self.now.dir.now c.open.ensures.same_holds n;
      finds = λ n. kept_more _ _ (c.open.ensures.same_holds _) n;
      unmade = λ n. unmade_less g.O.OpensFiles.reach c.args.self.now.dir.now
          c.open.ensures.same_holds n c.open.ensures.same_fails;
      refuses = λ n. refuses_less g.O.OpensFiles.reach c.args.self.now.dir.now
          c.open.ensures.same_holds n c.open.ensures.same_fails _;
    })
