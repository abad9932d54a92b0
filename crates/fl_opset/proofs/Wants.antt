-- That memory is wanted only for something.
use Rattle.std.proofs.Common.{◌≡◌, ◌≢◌, ℕ, ◌+◌, ◌<◌, ◌≤◌, List, ◌++◌, length, get_or, take, drop, ap, arith}
use Rattle.std.specs.List.{filter}
use Rattle.std.proofs.lemmas.List.{length-append, take_all}
use Rattle.fl_ops.specs.declared.op.Op.{Op}
use Rattle.fl_opset.specs.declared.span.Span.{Span}
use Rattle.fl_opset.specs.declared.node_ops.NodeOps.{NodeOps}
use Rattle.fl_opset.specs.ByNode.{all_ops}
use Rattle.fl_opset.proofs.ByNode.{all_split}
use Rattle.fl_opset.proofs.Front.{front_grows}
use Rattle.fl_opset.proofs.Lacks.{outside}
use Rattle.fl_opset.proofs.Passed.{rest_front}

-- ---- what a window lacks

pub more_taken : (most : ℕ) (old taken before more : List Op) → more ≡ take most (taken ++ before) → length old ≤ length taken → length taken ≤ most → length old ≤ length more
more_taken most old taken before more is h few = omega (arith, ap length is, front_grows most taken before, ap length (take_all most taken few), h)

-- what had no room is wanted
pub gap_wanted : (most : ℕ) (old taken before rest wanted : List Op) → length taken < length (take most (taken ++ before)) → length old ≤ length taken
    → take most ((taken ++ before) ++ rest) ≡ take most (old ++ wanted) → length old < length (take most (old ++ wanted))
gap_wanted most old taken before rest wanted some h e = omega (arith, some, h, front_grows most (taken ++ before) rest, ap length e)

pub rest_wanted : (most : ℕ) (all : List Span) (i : ℕ) (old taken rest wanted : List Op) → length all ≤ i → length taken < length (take most (taken ++ rest)) → length old ≤ length taken
    → take most (taken ++ filter (outside (drop i all)) rest) ≡ take most (old ++ wanted) → length old < length (take most (old ++ wanted))
rest_wanted most all i old taken rest wanted done some h e = omega (arith, some, h, ap length (rest_front most all i rest taken (take most (old ++ wanted)) done e))

-- ---- the operations of the nodes

-- a list that has one
pub some_in_all : (nodes : List NodeOps) (i : ℕ) (it : NodeOps) (ops : List Op) → i < length nodes → it ≡ get_or nodes i it → ops ≡ it.ops.items → 0 < length ops → 0 < length (all_ops nodes)
some_in_all nodes i it ops inside is same some =
    let front = all_ops (take i nodes) in
    let back = all_ops (drop (i + 1) nodes) in
    omega (arith, some, ap length same, ap length (all_split nodes i it inside is), length-append front (it.ops.items ++ back), length-append it.ops.items back)

-- a count that is not 0
pub counted_some : (count n k : ℕ) → count ≢ 0 → count ≡ n → k ≡ n → 0 < k
counted_some count n k h e f = omega (arith, h, e, f)

-- of a list that counts as many
pub listed_some : {X : Type 0} (xs ys : List X) (k : ℕ) → 0 < length ys → ys ≡ xs → k ≡ length xs → 0 < k
listed_some xs ys k some same count = omega (arith, some, ap length same, count)
