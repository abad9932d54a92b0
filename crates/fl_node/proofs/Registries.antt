-- What is published, added to a set.
use Rattle.std.proofs.Common.{◌≡◌, ◌∙◌, sym, ap, arith, ℕ, List, [], ◌∷◌, length, true}
use Rattle.std.proofs.Math.Bool.{or-false}
use Rattle.std.proofs.lemmas.Bool.Decides.{nat_tests}
use Rattle.std.specs.Prelude.{◌||◌, ◌==◌}
use Rattle.fl_labels.specs.SetBy as set
use Rattle.fl_labels.specs.SetBy.{SetBy, same_set, contains-union, contains-empty}
use Rattle.fl_ops.specs.declared.op.Op.{Op}
use Rattle.fl_ops.specs.OpOrder.{op_cmp}
use Rattle.fl_ops.specs.OpLaws.{op_total, op_exact}

-- nothing adds nothing
nothing_added : (all : SetBy op_cmp) (list : List Op) → length list ≡ 0 → all ≡ set.union all (set.of_list list)
nothing_added all [] none = same_set op_total op_exact all (set.union all (set.of_list [])) (λ q.
    sym (contains-union op_total all (set.of_list []) q ∙ ap (λ b. set.contains all q || b) (contains-empty op_cmp q) ∙ or-false (set.contains all q)))
nothing_added all (op ∷ list) none = absurd (omega (arith, none))

is_none : (n : ℕ) → (n == 0) ≡ true → n ≡ 0
is_none n e = grind (arith, nat_tests)

pub nothing_published : (all : SetBy op_cmp) (list lent : List Op) → lent ≡ list → (length lent == 0) ≡ true → all ≡ set.union all (set.of_list list)
nothing_published all list lent same none = nothing_added all list (ap length (sym same) ∙ is_none (length lent) none)
