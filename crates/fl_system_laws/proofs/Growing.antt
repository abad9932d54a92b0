-- What is saved stays saved.
use Rattle.std.proofs.Common.{◌≡◌, ◌∙◌, refl, sym, ap, subst, inl, inr, ℕ, Bool, List, Result}
use Rattle.std.specs.Prelude.{◌||◌}
use Rattle.std.specs.declared.option.Option.{Option}
use Rattle.fl_labels.specs.declared.pid.Pid.{Pid}
use Rattle.fl_labels.specs.SetBy.{SetBy, In, contains, of_list, contains-union}
use Rattle.fl_ops.specs.declared.op.Op.{Op}
use Rattle.fl_ops.specs.declared.op.Body.{Body}
use Rattle.fl_ops.specs.OpOrder.{op_cmp}
use Rattle.fl_ops.specs.OpLaws.{op_total}
use Rattle.fl_jobs.specs.declared.job.Job.{Job}
use Rattle.fl_labels.specs.declared.name.Name.{Name}
use Rattle.fl_store.specs.Kept.{Kept, with_ops}
use Rattle.fl_system.specs.declared.answer.Answer.{Answer}
use Rattle.fl_system.specs.declared.answer.Fault.{Fault}
use Rattle.fl_system.specs.declared.state.Batch.{Batch}
use Rattle.fl_system.specs.State.{NodeState}
use Rattle.fl_system.specs.Begins.{Begins}
use Rattle.fl_system.specs.Jobs.{Jobs}
use Rattle.fl_system.specs.Saves.{Saves}
use Rattle.fl_system.specs.Publishes.{Publishes, Cancels}
use Rattle.fl_system.specs.Openings.{Opens, OpensAgain, Restarts, Reopens}

in_more : (s : SetBy op_cmp) (ops : List Op) (op : Op) → In s op → In (with_ops s ops) op
in_more s ops op has =
    contains-union op_total s (of_list ops) op ∙ ap (λ b. b || contains (of_list {R = op_cmp} ops) op) has

begins_same : (n : NodeState) (body : Body) (maker : Option Pid) (desk : Option ℕ)
    {result : Result Name Fault} {n' : NodeState}
    → Begins n body maker desk result n' → n'.saved ≡ n.saved
begins_same n body maker desk (Begins.begins idle next) = refl
begins_same n body maker desk (Begins.taken why) = refl
begins_same n body maker desk (Begins.spent idle last) = refl

pub jobs_same : (n : NodeState) (desk upto : ℕ) (job : Job) {result : Result Answer Fault} {n' : NodeState}
    → Jobs n desk upto job result n' → n'.saved ≡ n.saved
jobs_same n desk upto job (Jobs.stopped why) = refl
jobs_same n desk upto job (Jobs.no_room look less left) = refl
jobs_same n desk upto job (Jobs.refused look decided) = refl
jobs_same n desk upto job (Jobs.replied look decided) = refl
jobs_same n desk upto job (Jobs.sent look decided) = refl
jobs_same n desk upto job (Jobs.begun look decided begun) = begins_same _ _ _ _ begun
jobs_same n desk upto job (Jobs.not_begun look decided begun) = refl

pub publishes_same : (n : NodeState) {result : Result ℕ Fault} {n' : NodeState} → Publishes n result n'
    → n'.saved ≡ n.saved
publishes_same n (Publishes.published is) = refl
publishes_same n (Publishes.no_room is) = refl
publishes_same n (Publishes.none why) = refl

pub cancels_same : (n : NodeState) {result : Result (Unit {0}) Fault} {n' : NodeState} → Cancels n result n'
    → n'.saved ≡ n.saved
cancels_same n (Cancels.given_up is) = refl
cancels_same n (Cancels.none why) = refl

module _ (op : Op) where
  pub saves_grow : (n : NodeState) (k : Kept) {result : Result (Unit {0}) Fault} {n' : NodeState} {k' : Kept}
      → Saves n k result n' k' → In n.saved op → In n'.saved op
  saves_grow n k (Saves.saved is) has = in_more _ _ op has
  saves_grow n k (Saves.no_room is) has = has
  saves_grow n k (Saves.failed is left) has = has
  saves_grow n k (Saves.none why) has = has

  again_grows : (n : NodeState) (doubt : Option Batch) (k : Kept) {result : Result ℕ Fault} {n' : NodeState} {k' : Kept}
      → OpensAgain n doubt k result n' k' → In n.saved op → In n'.saved op
  again_grows n doubt k (OpensAgain.opens (Opens.opens own left)) has = elim own.saved [
    | inl e ↦ subst (λ s. In s op) (sym e) has
    | inr e ↦ subst (λ s. In s op) (sym e) (in_more _ _ op has)
  ]
  again_grows n doubt k (OpensAgain.stays h) has = has

  pub restarts_grow : (n : NodeState) (k : Kept) (keeps : Bool) {result : Result ℕ Fault} {n' : NodeState} {k' : Kept}
      → Restarts n k keeps result n' k' → In n.saved op → In n'.saved op
  restarts_grow n k keeps (Restarts.not_saved kept is s) has = saves_grow n k s has
  restarts_grow n k keeps (Restarts.saved kept is h) has = again_grows _ _ _ h (in_more _ _ op has)
  restarts_grow n k keeps (Restarts.lost lost is h) has = again_grows _ _ _ h has
  restarts_grow n k keeps (Restarts.idle is h) has = again_grows _ _ _ h has
  restarts_grow n k keeps (Restarts.due is h) has = again_grows _ _ _ h has
  restarts_grow n k keeps (Restarts.stopped is h) has = again_grows _ _ _ h has

  pub reopens_grow : (n : NodeState) (k : Kept) {result : Result ℕ Fault} {n' : NodeState} {k' : Kept}
      → Reopens n k result n' k' → In n.saved op → In n'.saved op
  reopens_grow n k (Reopens.reopens is h) has = again_grows _ _ _ h has
  reopens_grow n k (Reopens.running is) has = has
