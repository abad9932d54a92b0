-- What one desk has seen, and what follows from that.
use Rattle.std.proofs.Common.{◌≡◌, ◌++◌, ◌∙◌, sym, ap, List, [], Bool}
use Rattle.std.proofs.Common.{Option}
use Rattle.fl_labels.specs.Cap.{cap_cmp}
use Rattle.fl_labels.specs.Found.{Tells, Within}
use Rattle.fl_labels.specs.SetBy as set
use Rattle.fl_labels.specs.SetBy.{SetBy, In, of_list}
use Rattle.fl_labels.specs.declared.cap.Cap.{Cap}
use Rattle.fl_labels.specs.declared.name.Name.{Name}
use Rattle.fl_ops.specs.declared.digest.Digest.{Digest}
use Rattle.fl_ops.specs.declared.op.Op.{Op}
use Rattle.fl_ops.specs.Logins.{FindsLogin}
use Rattle.fl_ops.specs.OpOrder.{op_cmp}
use Rattle.fl_ops.specs.OpLaws.{op_total, op_exact}
use Rattle.fl_ops.specs.Registry.{From, InEffect, Listed, Reach}
use Rattle.fl_ops.specs.laws.Logins.{answer_kept}
use Rattle.fl_ops.specs.laws.Reaching.{eff_more, reach_more}
use Rattle.fl_opset.specs.laws.Members.{listed_in}
use Rattle.fl_store.specs.laws.KeptSets.{of_list-append, union-nothing}

told : {P Q : Type 0} (b : Bool) → (P → Q) → (Q → P) → Tells b P → Tells b Q
told b to from t = record { holds = λ e. to (t.holds e); fails = λ e h. t.fails e (from h) }

module _ (list : List Op) (inside index : SetBy op_cmp) (same : inside ≡ index) (indexed : index ≡ of_list list) where
  up : Within (In inside) (Listed list)
  up op h = (listed_in list inside (sym (same ∙ indexed)) op).1 h

  down : Within (Listed list) (In inside)
  down op h = (listed_in list inside (sym (same ∙ indexed)) op).0 h

  pub told_effective : (owned : SetBy cap_cmp) (c : Cap) (b : Bool) → Tells b (InEffect (In inside) (In owned) c) → Tells b (InEffect (Listed list) (In owned) c)
  told_effective owned c b t = told b (eff_more up (λ c h. h) c) (eff_more down (λ c h. h) c) t

  pub told_reached : (root c : Cap) (b : Bool) → Tells b (Reach (In inside) (From root) c) → Tells b (Reach (Listed list) (From root) c)
  told_reached root c b t = told b (reach_more up (λ c h. h) c) (reach_more down (λ c h. h) c) t

  pub told_login : (login : Name) (r : Option (Cap × Digest)) → FindsLogin (In inside) login r → FindsLogin (Listed list) login r
  told_login login r h = answer_kept (λ op. (up op, down op)) login r h

-- ---- what is seen at first, and more

pub all_at_first : (before list list' : List Op) (index index' : SetBy op_cmp) → before ≡ [] → list' ≡ before ++ list → index ≡ set.empty
    → index' ≡ set.union index (of_list list) → index' ≡ of_list list'
all_at_first before list list' index index' none seen empty absorbed =
    absorbed ∙ ap (λ s. set.union s (of_list list)) empty ∙ union-nothing op_total op_exact (of_list list)
    ∙ ap of_list (sym (seen ∙ ap (λ l. l ++ list) none))

pub more_seen : (list more list' : List Op) (index index' : SetBy op_cmp) → index ≡ of_list list → list' ≡ list ++ more
    → index' ≡ set.union index (of_list more) → index' ≡ of_list list'
more_seen list more list' index index' indexed seen absorbed =
    absorbed ∙ ap (λ s. set.union s (of_list more)) indexed ∙ sym (of_list-append op_total op_exact list more) ∙ ap of_list (sym seen)
