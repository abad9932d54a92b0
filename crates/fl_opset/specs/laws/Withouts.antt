-- What a set has without some operations.
use Rattle.std.proofs.Common.{◌≡◌, ◌∙◌, refl, sym, ap, List, [], ◌∷◌, ◌++◌, Bool, true, false}
use Rattle.std.proofs.lemmas.List.Kept.{IsStrictlySortedBy-filter}
use Rattle.std.proofs.lemmas.Map.Views.{any-filter_same}
use Rattle.std.specs.Cmp.{Equal-is}
use Rattle.std.specs.Prelude.{not, ◌&&◌, ◌||◌}
use Rattle.std.specs.List.{list_any, filter}
use Rattle.std.specs.Ordering.{eq_by_cmp}
use Rattle.fl_labels.specs.SetBy.{SetBy, contains, remove, members, of_list, same_set, contains-remove, contains-members, contains-of_list, members-of_list, members_rise}
use Rattle.fl_ops.specs.declared.op.Op.{Op}
use Rattle.fl_ops.specs.OpOrder.{op_cmp}
use Rattle.fl_ops.specs.OpLaws.{op_total, op_exact}
use Rattle.fl_opset.specs.Without.{without, is_outside}

drops_first : (e a s : Bool) → ((not e && s) && not a) ≡ (s && not (e || a))
drops_first true true true = refl
drops_first true true false = refl
drops_first true false true = refl
drops_first true false false = refl
drops_first false true true = refl
drops_first false true false = refl
drops_first false false true = refl
drops_first false false false = refl

stays_all : (s : Bool) → (s && true) ≡ s
stays_all true = refl
stays_all false = refl

pub contains-without : (s : SetBy op_cmp) (ops : List Op) (q : Op) → contains (without s ops) q ≡ (contains s q && not (list_any (eq_by_cmp op_cmp q) ops))
contains-without s [] q = sym (stays_all (contains s q))
contains-without s (op ∷ ops) q =
    contains-without (remove s op) ops q
    ∙ ap (λ b. b && not (list_any (eq_by_cmp op_cmp q) ops)) (contains-remove op_total s op q)
    ∙ drops_first (eq_by_cmp op_cmp q op) (list_any (eq_by_cmp op_cmp q) ops) (contains s q)

-- one more, at the end
pub without-push : (s : SetBy op_cmp) (ops : List Op) (op : Op) → without s (ops ++ op ∷ []) ≡ remove (without s ops) op
without-push s [] op = refl
without-push s (x ∷ ops) op = without-push (remove s x) ops op

and_turned : (a b : Bool) → (a && b) ≡ (b && a)
and_turned true true = refl
and_turned true false = refl
and_turned false true = refl
and_turned false false = refl

-- the members that are left, in order
pub members-without : (s : SetBy op_cmp) (ops : List Op) → members (without s ops) ≡ filter (is_outside ops) (members s)
members-without s ops =
    let left = filter (is_outside ops) (members s) in
    ap members (same_set op_total op_exact (without s ops) (of_list left) (λ q.
    contains-without s ops q
    ∙ and_turned (contains s q) (is_outside ops q)
    ∙ ap (λ b. is_outside ops q && b) (contains-members s q)
    ∙ sym (any-filter_same (eq_by_cmp op_cmp q) (is_outside ops) (is_outside ops q)
    (λ k found. ap (is_outside ops) (sym (op_exact q k ((Equal-is (op_cmp q k)).0 found)))) (members s))
    ∙ sym (contains-of_list op_total left q)))
    ∙ members-of_list op_total op_exact left (IsStrictlySortedBy-filter op_cmp (is_outside ops) (members s) (members_rise s))

tied_both_ways : (a b : Op) (x y : Bool) → eq_by_cmp op_cmp a b ≡ x → eq_by_cmp op_cmp b a ≡ y → x ≡ y
tied_both_ways a b true true e f = refl
tied_both_ways a b false false e f = refl
tied_both_ways a b true false e f =
    let same : a ≡ b = op_exact a b ((Equal-is (op_cmp a b)).0 e) in
    sym e ∙ (λ i. eq_by_cmp op_cmp (same i) (sym same i)) ∙ f
tied_both_ways a b false true e f =
    let same : b ≡ a = op_exact b a ((Equal-is (op_cmp b a)).0 f) in
    sym e ∙ (λ i. eq_by_cmp op_cmp (sym same i) (same i)) ∙ f

-- whether one of them is that operation, asked either way
pub among : (ops : List Op) (op : Op) → list_any (λ y. eq_by_cmp op_cmp y op) ops ≡ list_any (eq_by_cmp op_cmp op) ops
among [] op = refl
among (x ∷ ops) op = λ i. tied_both_ways x op (eq_by_cmp op_cmp x op) (eq_by_cmp op_cmp op x) refl refl i || among ops op i
