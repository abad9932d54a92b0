-- The first operations of a list, and of one that goes on.
use Rattle.std.proofs.Common.{◌≤◌, ℕ, zero, suc, List, [], ◌∷◌, ◌++◌, length, take, refl, arith}
use Rattle.std.specs.List.{Contains}
use Rattle.fl_labels.specs.Found.{Within}
use Rattle.fl_labels.specs.SetBy as set
use Rattle.fl_ops.specs.declared.op.Op.{Op}
use Rattle.fl_ops.specs.OpOrder.{op_cmp}
use Rattle.fl_opset.specs.laws.Members.{Contains-cons, listed_in, listed_member, member_listed}
use Rattle.fl_system.specs.State.{first_ops}
use Rattle.fl_system_laws.specs.laws.Steps.{in_none}

module _ {X : Type 0} where
  -- a longer front of a list that goes on has more
  front_more : (v w : ℕ) (xs ys : List X) (x : X) → v ≤ w → Contains (take v xs) x → Contains (take w (xs ++ ys)) x
  front_more zero w xs ys x up h = in_none x h
  front_more (suc v) w [] ys x up h = in_none x h
  front_more (suc v) zero (z ∷ xs) ys x up h = absurd (omega (arith, up))
  front_more (suc v) (suc w) (z ∷ xs) ys x up (zero, inside, at) = (0, omega arith, at)
  front_more (suc v) (suc w) (z ∷ xs) ys x up (suc k, inside, at) =
      Contains-cons z (take w (xs ++ ys)) x (front_more v w xs ys x (omega (arith, up)) (k, omega (arith, inside), at))

  front_there : (v : ℕ) (xs : List X) (x : X) → Contains (take v xs) x → Contains xs x
  front_there zero xs x h = in_none x h
  front_there (suc v) [] x h = h
  front_there (suc v) (z ∷ xs) x (zero, inside, at) = (0, omega arith, at)
  front_there (suc v) (z ∷ xs) x (suc k, inside, at) =
      Contains-cons z xs x (front_there v xs x (k, omega (arith, inside), at))

  whole_front : (xs : List X) (x : X) → Contains xs x → Contains (take (length xs) xs) x
  whole_front [] x h = h
  whole_front (z ∷ xs) x (zero, inside, at) = (0, omega arith, at)
  whole_front (z ∷ xs) x (suc k, inside, at) =
      Contains-cons z (take (length xs) xs) x (whole_front xs x (k, omega (arith, inside), at))

-- what a desk sees are items of a front of the list
from_first : (v : ℕ) (list : List Op) (op : Op) → first_ops v list op → Contains (take v list) op
from_first v list op h =
    let seen = set.of_list {R = op_cmp} (take v list) in
    (listed_in (take v list) seen refl op).1 (listed_member seen op h)

to_first : (v : ℕ) (list : List Op) (op : Op) → Contains (take v list) op → first_ops v list op
to_first v list op h =
    let seen = set.of_list {R = op_cmp} (take v list) in
    member_listed seen op ((listed_in (take v list) seen refl op).0 h)

pub first_there : (v : ℕ) (list : List Op) → Within (first_ops v list) (Contains list)
first_there v list op h = front_there v list op (from_first v list op h)

pub first_more : (v w : ℕ) (list rest : List Op) → v ≤ w → Within (first_ops v list) (first_ops w (list ++ rest))
first_more v w list rest up op h =
    to_first w (list ++ rest) op (front_more v w list rest op up (from_first v list op h))

pub first_all : (w : ℕ) (list rest : List Op) → length list ≤ w → Within (Contains list) (first_ops w (list ++ rest))
first_all w list rest up op h =
    to_first w (list ++ rest) op (front_more (length list) w list rest op up (whole_front list op h))

pub first_whole : (list : List Op) → Within (Contains list) (first_ops (length list) list)
first_whole list op h = to_first (length list) list op (whole_front list op h)
