-- A batch of two new names.
use Rattle.std.proofs.Common.{◌≡◌, ◌≢◌, ◌⊎◌, ◌∙◌, sym, subst, inl, inr, List, [], ◌∷◌}
use Rattle.fl_labels.specs.SetBy.{SetBy, In, of_list}
use Rattle.fl_ops.specs.declared.op.Op.{Op}
use Rattle.fl_ops.specs.OpOrder.{op_cmp}
use Rattle.fl_store.specs.Kept.{AreNew}
use Rattle.fl_store.specs.laws.Unused.{IsUnused, in_more, in_one}
use Rattle.fl_store_tests.specs.Unused.{AreApart}

in_two : (x y a : Op) → In (of_list {R = op_cmp} (x ∷ y ∷ [])) a → (a ≡ x) ⊎ (a ≡ y)
in_two x y a h = elim (in_more x (y ∷ []) a h) [ inl e ↦ inl e | inr rest ↦ inr (in_one y a rest) ]

pub new_two : (x y : Op) (saved : SetBy op_cmp) → AreApart x y → IsUnused x saved → IsUnused y saved → AreNew (x ∷ y ∷ []) saved
new_two x y saved differ first second = record {
  distinct = λ a b has_a has_b e. elim (in_two x y a has_a) [
    | inl a_x ↦ elim (in_two x y b has_b) [
      | inl b_x ↦ a_x ∙ sym b_x
      | inr b_y ↦ absurd (differ.apart (sym (name_of a_x) ∙ e ∙ name_of b_y))
    ]
    | inr a_y ↦ elim (in_two x y b has_b) [
      | inl b_x ↦ absurd (differ.apart (sym (name_of b_x) ∙ sym e ∙ name_of a_y))
      | inr b_y ↦ a_y ∙ sym b_y
    ]
  ];
  unused = λ a b has_a has_b. elim (in_two x y a has_a) [
    | inl a_x ↦ subst (λ (o : Op). o.name ≢ b.name) (sym a_x) (first.unused b has_b)
    | inr a_y ↦ subst (λ (o : Op). o.name ≢ b.name) (sym a_y) (second.unused b has_b)
  ];
}
  where
    name_of : {a b : Op} → a ≡ b → a.name ≡ b.name
    name_of h i = (h i).name
