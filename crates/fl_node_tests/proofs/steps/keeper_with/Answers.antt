-- One operation has its name alone.
use Rattle.std.proofs.Common.{◌≡◌, ◌∙◌, sym, inl, inr, [], ◌∷◌}
use Rattle.std.specs.Cmp.{Equal-is}
use Rattle.std.proofs.lemmas.Bool.{or_cases, false≢true}
use Rattle.fl_labels.specs.SetBy.{In, of_list, empty, contains-insert, contains-empty}
use Rattle.fl_ops.specs.declared.op.Op.{Op}
use Rattle.fl_ops.specs.OpOrder.{op_cmp}
use Rattle.fl_ops.specs.OpLaws.{op_total, op_exact}
use Rattle.fl_store.specs.Kept.{HasNamesOnce}
use Rattle.fl_node_tests.proofs.steps.keeper_with.Goals as goal

in_one : (x a : Op) → In (of_list {R = op_cmp} (x ∷ [])) a → a ≡ x
in_one x a h = elim (or_cases _ _ (sym (contains-insert op_total empty x a) ∙ h)) [
  | inl e ↦ op_exact a x ((Equal-is (op_cmp a x)).0 e)
  | inr none ↦ absurd (false≢true (sym (contains-empty op_cmp a) ∙ none))
]

once_one : (x : Op) → HasNamesOnce (of_list (x ∷ []))
once_one x a b has_a has_b e = in_one x a has_a ∙ sym (in_one x b has_b)

pub with-requires : goal.with-requires
with-requires c = once_one c.args.op
