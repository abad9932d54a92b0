-- Batches of one name that no saved operation has, or of none.
use Rattle.std.proofs.Common.{◌≡◌, ◌≢◌, ◌⊎◌, ◌∙◌, sym, subst, inl, inr, List, [], ◌∷◌}
use Rattle.std.specs.Cmp.{Equal-is}
use Rattle.std.proofs.lemmas.Bool.{or_cases, false≢true}
use Rattle.fl_labels.specs.SetBy.{SetBy, In, of_list, contains-insert, contains-empty}
use Rattle.fl_ops.specs.declared.op.Op.{Op}
use Rattle.fl_ops.specs.OpOrder.{op_cmp}
use Rattle.fl_ops.specs.OpLaws.{op_total, op_exact}
use Rattle.fl_store.specs.Kept.{AreNew, HasNamesOnce}

-- no operation of the set has the name of this one
pub record IsUnused (op : Op) (saved : SetBy op_cmp) : Type 0 where
  pub unused : (other : Op) → In saved other → op.name ≢ other.name

in_none : (a : Op) → In (of_list {R = op_cmp} []) a → ⊥
in_none a h = false≢true (sym (contains-empty op_cmp a) ∙ h)

pub in_more : (x : Op) (xs : List Op) (a : Op) → In (of_list {R = op_cmp} (x ∷ xs)) a → (a ≡ x) ⊎ In (of_list {R = op_cmp} xs) a
in_more x xs a h = elim (or_cases _ _ (sym (contains-insert op_total (of_list xs) x a) ∙ h)) [
  | inl e ↦ inl (op_exact a x ((Equal-is (op_cmp a x)).0 e))
  | inr rest ↦ inr rest
]

pub in_one : (x a : Op) → In (of_list {R = op_cmp} (x ∷ [])) a → a ≡ x
in_one x a h = elim (in_more x [] a h) [ inl e ↦ e | inr none ↦ absurd (in_none a none) ]

-- one operation has its name alone
pub once_one : (x : Op) → HasNamesOnce (of_list (x ∷ []))
once_one x a b has_a has_b e = in_one x a has_a ∙ sym (in_one x b has_b)

pub new_none : (saved : SetBy op_cmp) → AreNew [] saved
new_none saved = record { distinct = λ a b h. absurd (in_none a h); unused = λ a b h. absurd (in_none a h) }

pub new_one : (x : Op) (saved : SetBy op_cmp) → IsUnused x saved → AreNew (x ∷ []) saved
new_one x saved new = record {
  distinct = once_one x;
  unused = λ a b has_a has_b. subst (λ (o : Op). o.name ≢ b.name) (sym (in_one x a has_a)) (new.unused b has_b);
}
