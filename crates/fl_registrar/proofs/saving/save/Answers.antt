use Rattle.std.proofs.Common.{◌≡◌, ◌≢◌, Err, sym, subst, ◌∙◌}
use Rattle.std.proofs.lemmas.Bool.{false≢true}
use Rattle.fl_system.specs.declared.answer.Fault.{Fault}
use Rattle.fl_system.specs.declared.answer.Fault.TheVariants.{KeeperFailed}
use Rattle.fl_system.specs.Saves.{Saves}
use Rattle.fl_system.specs.State.{kept_of}
use Rattle.fl_registrar.proofs.Nodes.{saved_as, failed_as, err_saved, given_up_as}
use Rattle.fl_registrar.proofs.Nodes.{saves_boot, cancels_boot}
use Rattle.fl_registrar.proofs.saving.save.Goals as goal

pub returns-in_default-clause-becomes : goal.returns-in_default-clause-becomes
returns-in_default-clause-becomes g c honest =
    let p = c.in_default.ensures.saves honest in (
      p.0,
      λ after held.
          let b = p.1 after held in
          (b.0, b.1, λ batch is. saved_as _ _ b.0 after batch is b.2),
    )

pub returns-then-is_failure-clause-becomes : goal.returns-then-is_failure-clause-becomes
returns-then-is_failure-clause-becomes g c honest =
    let p = c.in-Err.ensures.saves honest in
    let failed : c.in-Err.fault ≡ KeeperFailed = c.is_failure.ensures.0 c.if-is_failure.true in (
      p.0,
      λ after held.
          let b = p.1 after held in (
            b.0,
            b.1,
            λ batch is. failed_as _ _ b.0 after batch is (subst (λ (f : Fault).
                Saves c.args.node.now.node b.0 (Err f) c.save.new.self.node after) failed b.2),
          ),
    )

pub returns-then-is_failure-clause-saved : goal.returns-then-is_failure-clause-saved
returns-then-is_failure-clause-saved g c = λ broken.
    let k = kept_of c.args.node.now.node in
    let it = c.in-Err.ensures.node k in
    err_saved c.args.node.now.node c.save.new.self.node k it.0 c.in-Err.fault it.1

pub returns-clause-becomes : goal.returns-clause-becomes
returns-clause-becomes g c honest =
    let K = g.K.Keeper.custody in
    let p = c.in-Err.ensures.saves (subst K.is_honest c.cancel.ensures.keeper honest) in
    let other : c.in-Err.fault ≢ KeeperFailed
    = λ failed. false≢true (sym c.if-is_failure.false ∙ c.is_failure.ensures.1 failed) in (
      p.0,
      λ after held.
          let b = p.1 after (subst (λ keeper. K.may_hold keeper after) c.cancel.ensures.keeper held)
          in (
            b.0,
            b.1,
            λ batch is. given_up_as _ _ _ b.0 after batch _ _ other is b.2 c.cancel.ensures.cancels,
          ),
    )

pub returns-in_default-clause-boot : goal.returns-in_default-clause-boot
returns-in_default-clause-boot g c =
    let k = kept_of c.args.node.now.node in
    let it = c.in_default.ensures.node k in
    saves_boot c.args.node.now.node c.save.new.self.node k it.0 _ it.1

pub returns-then-is_failure-clause-boot : goal.returns-then-is_failure-clause-boot
returns-then-is_failure-clause-boot g c =
    let k = kept_of c.args.node.now.node in
    let it = c.in-Err.ensures.node k in
    saves_boot c.args.node.now.node c.save.new.self.node k it.0 (Err c.in-Err.fault) it.1

pub returns-clause-boot : goal.returns-clause-boot
returns-clause-boot g c =
    let k = kept_of c.args.node.now.node in
    let it = c.in-Err.ensures.node k in
    cancels_boot c.save.new.self.node c.cancel.new.self.node c.cancel.result
    c.cancel.ensures.cancels
    ∙ saves_boot c.args.node.now.node c.save.new.self.node k it.0 (Err c.in-Err.fault) it.1
