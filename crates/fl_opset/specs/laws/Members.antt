-- Members of a set and of what a window lacks of it.
use Rattle.std.proofs.Common.{◌≡◌, ◌↔◌, zero, suc, get_or, Bool, true, false, List, [], ◌∷◌, sym, ap, subst, ◌∙◌, arith, cond}
use Rattle.std.specs.List.{Contains, filter}
use Rattle.std.proofs.lemmas.List.{get_or_default}
use Rattle.fl_labels.specs.SetBy.{SetBy, In, of_list, members, of_list-members}
use Rattle.fl_labels.specs.laws.SortedVec.{every_member, item_member}
use Rattle.fl_ops.specs.declared.op.Op.{Op}
use Rattle.fl_ops.specs.OpOrder.{op_cmp}
use Rattle.fl_ops.specs.OpLaws.{op_total, op_exact}
use Rattle.fl_ops.specs.Registry.{Listed}
use Rattle.fl_opset.specs.declared.intervals.Intervals.{Intervals}
use Rattle.fl_opset.specs.Windows.{is_lacking, lacking}

-- the items of a list are the members of its set
pub listed_in : (xs : List Op) (s : SetBy op_cmp) → of_list xs ≡ s → (op : Op) → Listed xs op ↔ In s op
listed_in xs s view op = (
  λ h. item_member op_total op_exact xs s view op h.0 h.1 h.2,
  λ h. every_member op_total op_exact (Listed xs) xs s view (λ k d within. (k, within, get_or_default xs k (get_or xs k d) d within)) op h,
)

-- an item of the rest is one of all
pub Contains-cons : {X : Type 0} (y : X) (xs : List X) (x : X) → Contains xs x → Contains (y ∷ xs) x
Contains-cons y xs x c = (suc c.0, omega (arith, c.1), c.2)

-- an item that passes a filter stays
pub Contains-filter : {X : Type 0} (p : X → Bool) (xs : List X) (x : X) → Contains xs x → p x ≡ true → Contains (filter p xs) x
Contains-filter p [] x c h = absurd (omega (arith, c.1))
Contains-filter {X} p (y ∷ xs) x (zero, inside, at) h =
    subst (λ b. Contains (cond b (y ∷ filter p xs) (filter p xs)) x) (sym (ap p at ∙ h)) (0, omega arith, at)
Contains-filter {X} p (y ∷ xs) x (suc k, inside, at) h = both (p y) (Contains-filter p xs x (k, omega arith, at) h)
  where
    both : (b : Bool) → Contains (filter p xs) x → Contains (cond b (y ∷ filter p xs) (filter p xs)) x
    both true c = Contains-cons y (filter p xs) x c
    both false c = c

-- a member is one of the list of members
pub member_listed : (s : SetBy op_cmp) (op : Op) → In s op → Contains (members s) op
member_listed s op h = (listed_in (members s) s (of_list-members op_total op_exact s) op).1 h

pub listed_member : (s : SetBy op_cmp) (op : Op) → Contains (members s) op → In s op
listed_member s op h = (listed_in (members s) s (of_list-members op_total op_exact s) op).0 h

-- what stays was there
pub Contains-unfilter : {X : Type 0} (p : X → Bool) (xs : List X) (x : X) → Contains (filter p xs) x → Contains xs x
Contains-unfilter p [] x c = absurd (omega (arith, c.1))
Contains-unfilter {X} p (y ∷ xs) x c = keep (p y) c (λ d. Contains-unfilter p xs x d)
  where
    keep : (b : Bool) → Contains (cond b (y ∷ filter p xs) (filter p xs)) x → (Contains (filter p xs) x → Contains xs x) → Contains (y ∷ xs) x
    keep true (zero, inside, at) f = (0, omega arith, at)
    keep true (suc k, inside, at) f = Contains-cons y xs x (f (k, omega arith, at))
    keep false c f = Contains-cons y xs x (f c)

-- what is lacking is a member
pub lacking_member : (s : SetBy op_cmp) (w : Intervals) (op : Op) → Listed (lacking s w) op → In s op
lacking_member s w op h = listed_member s op (Contains-unfilter (is_lacking w) (members s) op h)
