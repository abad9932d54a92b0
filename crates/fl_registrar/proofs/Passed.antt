-- What is passed on of a keeper.
use Rattle.std.proofs.Common.{◌≡◌, ap, subst}
use Rattle.fl_store.specs.Custody.{Custody}
use Rattle.fl_store.specs.Kept.{Kept}
use Rattle.fl_system.specs.declared.state.Batch.{Batch}
use Rattle.fl_system.specs.State.{NodeState}
use Rattle.fl_system.specs.Begins.{pending_with}
use Rattle.fl_node.specs.Over.{NodeOver}
use Rattle.fl_registrar.specs.declared.saving.Saving.{Saving}
use Rattle.fl_registrar.specs.Passing.{Passes}
use Rattle.fl_registrar.specs.parts.Saving.{Becomes, BecomesOf}

module _ {K : Type 0} (custody : Custody K) where
  -- a keeper that is as before passes all on
  pub stays : (step : Kept → Kept → Type 0) (old new : K) → new ≡ old
      → (custody.is_honest old → (k : Kept) → custody.may_hold old k → step k k)
      → Passes custody step old new
  stays step old new same f honest =
      let was = subst custody.is_honest same honest in (
        was,
        λ after held.
            let it = subst (λ (keeper : K). custody.may_hold keeper after) same held in
            (after, it, f was after it),
      )

  -- the step may say less
  pub weaker : (step less : Kept → Kept → Type 0) (old new : K)
      → (custody.is_honest old → (k k' : Kept) → custody.may_hold old k → step k k' → less k k')
      → Passes custody step old new → Passes custody less old new
  weaker step less old new f passes honest =
      let p = passes honest in
      (p.0, λ after held. let b = p.1 after held in (b.0, b.1, f p.0 b.0 after b.1 b.2))

  -- what became of a batch that was begun
  pub become : (old mid new : NodeOver K) (batch : Batch) (saving : Saving)
      → mid.node ≡ pending_with old.node batch → mid.keeper ≡ old.keeper
      → Passes custody (λ k k'. Becomes mid.node k saving new.node k') mid.keeper new.keeper
      → Passes custody (λ k k'. BecomesOf (pending_with old.node batch) batch k saving new.node k')
      old.keeper new.keeper
  become old mid new batch saving is same passes honest =
      let p = passes honest in (
        subst custody.is_honest same p.0,
        λ after held.
            let b = p.1 after held in (
              b.0,
              subst (λ (keeper : K). custody.may_hold keeper b.0) same b.1,
              subst (λ (n : NodeState). BecomesOf n batch b.0 saving new.node after) is
                  (b.2 batch (ap (λ (n : NodeState). n.state) is)),
            ),
      )
