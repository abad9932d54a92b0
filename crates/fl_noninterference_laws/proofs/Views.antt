-- What desks see of a list.
use Rattle.std.proofs.Common.{◌≡◌, ◌≤◌, ◌∙◌, refl, sym, subst, arith, ℕ, suc, zero, List, [], ◌∷◌}
use Rattle.std.proofs.Common.{take, length, Some}
use Rattle.std.proofs.lemmas.List.{take_all}
use Rattle.std.specs.List.{Contains}
use Rattle.fl_labels.specs.Found.{Within}
use Rattle.fl_labels.specs.SetBy as set
use Rattle.fl_ops.specs.OpOrder.{op_cmp}
use Rattle.fl_ops.specs.Registry.{Listed}
use Rattle.fl_ops.specs.declared.op.Op.{Op}
use Rattle.fl_bench.specs.laws.Puts.{none_some}
use Rattle.fl_opset.specs.laws.Members.{Contains-cons, listed_in, listed_member}
use Rattle.fl_system.specs.Jobs.{Looks}
use Rattle.fl_system.specs.Numbered.{item_at}
use Rattle.fl_system.specs.State.{NodeState, first_ops}

front_there : (v : ℕ) (xs : List Op) (x : Op) → Contains (take v xs) x → Contains xs x
front_there zero xs x h = absurd (omega (arith, h.1))
front_there (suc v) [] x h = h
front_there (suc v) (z ∷ xs) x (zero, inside, at) = (0, omega arith, at)
front_there (suc v) (z ∷ xs) x (suc k, inside, at) =
    Contains-cons z xs x (front_there v xs x (k, omega (arith, inside), at))

-- what is seen is published
pub seen_there : (v : ℕ) (list : List Op) → Within (first_ops v list) (Listed list)
seen_there v list op h =
    let seen = set.of_list {R = op_cmp} (take v list) in
    front_there v list op ((listed_in (take v list) seen refl op).1 (listed_member seen op h))

-- whoever sees all sees the same
pub all_seen : (P : (Op → Type 0) → Type 0) (v w : ℕ) (list : List Op) → length list ≤ v
    → length list ≤ w → P (first_ops v list) → P (first_ops w list)
all_seen P v w list up too h =
    subst (λ (xs : List Op). P (Listed (set.members (set.of_list {R = op_cmp} xs))))
    (take_all v list up ∙ sym (take_all w list too)) h

-- a desk that looks at all of the list sees all of it
pub looks_all : {n : NodeState} {desk upto v : ℕ} → length n.published ≤ upto
    → Looks n desk upto v → length n.published ≤ v
looks_all up look = let sees = look.sees in omega (arith, up, sees)

-- where there are as many desks, the same are there
pub record IsThere (xs : List ℕ) (k : ℕ) : Type 0 where
  pub item : ℕ
  pub is : item_at xs k ≡ Some item

pub there_too : (xs ys : List ℕ) (k x : ℕ) → length xs ≡ length ys → item_at xs k ≡ Some x
    → IsThere ys k
there_too [] ys k x same e = absurd (none_some refl e)
there_too (y ∷ xs) [] k x same e = absurd (omega (arith, same))
there_too (y ∷ xs) (z ∷ ys) zero x same e = absurd (none_some refl e)
there_too (y ∷ xs) (z ∷ ys) (suc zero) x same e = record { item = z; is = refl }
there_too (y ∷ xs) (z ∷ ys) (suc (suc k)) x same e =
    let it = there_too xs ys (suc k) x (omega (arith, same)) e in
    record { item = it.item; is = it.is }
