-- The operations of one node, in place of all of a set.
use Rattle.std.proofs.Common.{◌≡◌, ℕ, ◌-◌, ◌<◌, ◌≤◌, Bool, true, false, List, length, get_or, refl, sym, ap, subst, ◌∙◌, Option, Some, None, Result, is_ok, arith}
use Rattle.std.specs.List.{All, Contains}
use Rattle.std.specs.List.Sorted.{IsStrictlySortedBy, IsSearchInRange, IsBinarySearchResult}
use Rattle.std.proofs.lemmas.List.Elements.{All-contains, Contains-get_or}
use Rattle.fl_labels.specs.declared.name.Name.{Name}
use Rattle.fl_labels.specs.declared.cap.Cap.{Cap}
use Rattle.fl_labels.specs.SetBy.{SetBy, In, of_list, contains}
use Rattle.fl_labels.specs.laws.SortedVec.{answers}
use Rattle.fl_ops.specs.declared.digest.Digest.{Digest}
use Rattle.fl_ops.specs.declared.op.Op.{Op}
use Rattle.fl_ops.specs.OpOrder.{op_cmp}
use Rattle.fl_ops.specs.OpLaws.{op_total, op_exact}
use Rattle.fl_ops.specs.Registry.{Listed, login_op}
use Rattle.fl_ops.specs.Logins.{FindsLogin}
use Rattle.fl_opset.specs.laws.Members.{listed_in}
use Rattle.fl_opset.proofs.Names.{numbers_rise}

same_answer : (a b : Bool) → (a ≡ true → b ≡ true) → (b ≡ true → a ≡ true) → a ≡ b
same_answer true b there back = sym (there refl)
same_answer false true there back = back refl
same_answer false false there back = refl

module _ (s : SetBy op_cmp) (node : ℕ) (xs : List Op)
    (only : (op : Op) → Contains xs op → In s op × (op.name.node ≡ node))
    (all : (op : Op) → In s op → op.name.node ≡ node → Contains xs op) where
  has_same : (op : Op) → op.name.node ≡ node → contains s op ≡ contains (of_list {R = op_cmp} xs) op
  has_same op of =
      let same = listed_in xs (of_list xs) refl op in
      same_answer _ _ (λ h. same.0 (all op h of)) (λ h. (only op (same.1 h)).0)

  -- a search among them tells whether an operation is a member
  pub search_tells : (ys : List Op) → ys ≡ xs → IsStrictlySortedBy op_cmp xs → (op : Op) → op.name.node ≡ node → (r : Result ℕ ℕ)
      → IsSearchInRange r (length ys) → IsBinarySearchResult (λ y. op_cmp y op) ys r → contains s op ≡ is_ok r
  search_tells ys same up op of r within at = has_same op of ∙ answers op_total op_exact xs (of_list xs) up refl ys same op r within at

  -- what holds of each of them
  pub each_of_node : (P : Op → Type 0) → All P xs → (op : Op) → In s op → op.name.node ≡ node → P op
  each_of_node P h op in_s of = All-contains P xs op h (all op in_s of)

  -- the last one has the greatest number
  pub last_number : IsStrictlySortedBy op_cmp xs → (last : Op) → 0 < length xs → ((d : Op) → last ≡ get_or xs (length xs - 1) d)
      → (op : Op) → In s op → op.name.node ≡ node → op.name.seq ≤ last.name.seq
  last_number up last some is op in_s of =
      let at = all op in_s of in
      let rise = numbers_rise xs up at.0 (length xs - 1) op (omega (arith, at.1)) (omega arith) in
      let own : last.name.node ≡ node = (only last (subst (Contains xs) (sym (is last)) (Contains-get_or xs (length xs - 1) last (omega arith)))).1 in
      let here : get_or xs at.0 op ≡ op = at.2 in
      let there : get_or xs (length xs - 1) op ≡ last = sym (is op) in
      let of_here = ap (λ (o : Op). o.name.node) here in
      let of_there = ap (λ (o : Op). o.name.node) there in
      let h = rise.1 (of_here ∙ of ∙ sym own ∙ sym of_there) in
      omega (arith, h, ap (λ (o : Op). o.name.seq) here, ap (λ (o : Op). o.name.seq) there)

  -- their first login of a name is that of all
  pub login_of_node : (name : Name) → name.node ≡ node → (r : Option (Cap × Digest)) → FindsLogin (Listed xs) name r → FindsLogin (In s) name r
  login_of_node name of None h = λ c digest is. h c digest (all (login_op name c digest) is of)
  login_of_node name of (Some l) h = record {
    member = (only _ h.member).0;
    least = λ d other is. h.least d other (all (login_op name d other) is of);
  }
