-- Sets that have each name once.
use Rattle.std.proofs.Common.{◌≡◌, ◌⊎◌, inl, inr, false, Option, Some, None, IfNone, is_some, sym, subst, ◌∙◌}
use Rattle.std.specs.Cmp.{Equal-is}
use Rattle.std.specs.Ordering.{eq_by_cmp}
use Rattle.std.proofs.lemmas.Bool.{or_cases}
use Rattle.fl_labels.specs.SetBy as set
use Rattle.fl_labels.specs.SetBy.{SetBy, In, contains, contains-insert, contains-empty}
use Rattle.fl_labels.specs.declared.name.Name.{Name}
use Rattle.fl_ops.specs.declared.op.Op.{Op}
use Rattle.fl_ops.specs.OpOrder.{op_cmp}
use Rattle.fl_ops.specs.OpLaws.{op_total, op_exact}
use Rattle.fl_opset.specs.Catching.{HaveNoClash}

pub same_once : (s t : SetBy op_cmp) → t ≡ s → HaveNoClash (In s) (In s) → HaveNoClash (In t) (In t)
same_once s t e h = subst (λ (u : SetBy op_cmp). HaveNoClash (In u) (In u)) (sym e) h

-- an operation of the set is the new one, or was there
new_or_old : (s : SetBy op_cmp) (op x : Op) → In (set.insert s op) x → (x ≡ op) ⊎ In s x
new_or_old s op x h = elim (or_cases (eq_by_cmp op_cmp x op) (contains s x) (sym (contains-insert op_total s op x) ∙ h)) [
  | inl same ↦ inl (op_exact x op ((Equal-is (op_cmp x op)).0 same))
  | inr old ↦ inr old
]

pub insert_once : (s t : SetBy op_cmp) (op : Op) → HaveNoClash (In s) (In s) → ((other : Op) → In s other → other.name ≡ op.name → other ≡ op)
    → t ≡ set.insert s op → HaveNoClash (In t) (In t)
insert_once s t op once none new = same_once (set.insert s op) t new (λ x y in_x in_y same. elim (new_or_old s op x in_x) [
  | inl x_new ↦ elim (new_or_old s op y in_y) [
    | inl y_new ↦ x_new ∙ sym y_new
    | inr y_old ↦ x_new ∙ sym (none y y_old (sym same ∙ λ i. (x_new i).name))
  ]
  | inr x_old ↦ elim (new_or_old s op y in_y) [
    | inl y_new ↦ none x x_old (same ∙ λ i. (y_new i).name) ∙ sym y_new
    | inr y_old ↦ once x y x_old y_old same
  ]
])

pub none_found : (r : Option Name) (P : Type 0) → is_some r ≡ false → IfNone r P → P
none_found None P e h = h
none_found (Some n) P e h = absurd (cc)

pub empty_once : HaveNoClash (In (set.empty {R = op_cmp})) (In (set.empty {R = op_cmp}))
empty_once x y in_x in_y same = absurd (let none = contains-empty op_cmp x in cc)
