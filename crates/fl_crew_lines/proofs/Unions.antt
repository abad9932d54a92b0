-- Sets of operations that begin with nothing.
use Rattle.std.proofs.Common.{◌≡◌, ◌∙◌, ◌||◌, ap}
use Rattle.fl_labels.specs.SetBy as set
use Rattle.fl_labels.specs.SetBy.{SetBy, contains-empty, contains-union, same_set}
use Rattle.fl_ops.specs.OpLaws.{op_total, op_exact}
use Rattle.fl_ops.specs.OpOrder.{op_cmp}

-- nothing and a set are that set
pub one_added : (none one first : SetBy op_cmp) → none ≡ set.empty → one ≡ set.union none first → one ≡ first
one_added none one first start with_first =
    with_first ∙ ap (λ s. set.union s first) start
    ∙ same_set op_total op_exact (set.union set.empty first) first (λ q.
    contains-union op_total set.empty first q ∙ ap (λ b. b || set.contains first q) (contains-empty op_cmp q))

-- nothing and two sets are the two sets
pub both_added : (none one two first second : SetBy op_cmp) → none ≡ set.empty → one ≡ set.union none first
    → two ≡ set.union one second → two ≡ set.union first second
both_added none one two first second start with_first with_both =
    with_both ∙ ap (λ s. set.union s second) (one_added none one first start with_first)
