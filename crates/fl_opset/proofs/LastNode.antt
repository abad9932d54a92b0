-- The last entry that has an operation.
use Rattle.std.proofs.Common.{◌≡◌, ℕ, ◌-◌, ◌<◌, ◌≤◌, List, [], ◌∷◌, ◌++◌, reverse, length, get_or, refl, sym, ap, subst, ◌∙◌, inl, inr, arith}
use Rattle.std.specs.List.{All, AllWithin, Any, Contains, HoldsAt}
use Rattle.std.proofs.lemmas.Bool.{cases_order}
use Rattle.std.proofs.lemmas.List.{length-reverse, get_or-reverse, nil_from_length}
use Rattle.std.proofs.lemmas.List.Elements.{All-head, All-tail, Contains-get_or}
use Rattle.std.proofs.lemmas.Map.Keys.{Less-from_sorted}
use Rattle.fl_ops.specs.declared.op.Op.{Op}
use Rattle.fl_opset.specs.declared.node_ops.NodeOps.{NodeOps}
use Rattle.fl_opset.specs.ByNode.{all_ops, node_order, AreByNode}
use Rattle.fl_opset.proofs.ByNode.{from_less, entry_of, own_node, in_all}

abbrev pub HasSome : NodeOps → Type 0
HasSome it = 0 < length it.ops.items

abbrev pub HasNone : NodeOps → Type 0
HasNone it = length it.ops.items ≡ 0

empty_all : (ns : List NodeOps) → All HasNone ns → all_ops ns ≡ []
empty_all [] h = refl
empty_all (it ∷ ns) h =
    ap (λ xs. xs ++ all_ops ns) (nil_from_length it.ops.items (All-head HasNone it ns h)) ∙ empty_all ns (All-tail HasNone it ns h)

module _ (ns : List NodeOps) where
  -- an entry of the list is one of the list turned round
  turned : (k : ℕ) (d : NodeOps) → k < length ns → get_or (reverse ns) (length ns - 1 - k) d ≡ get_or ns k d
  turned k d inside =
      let back : length ns - 1 - (length ns - 1 - k) ≡ k = omega arith in
      get_or-reverse ns (length ns - 1 - k) d (omega arith) ∙ ap (λ n. get_or ns n d) back

  pub none_last : AllWithin HasNone (reverse ns) 0 (length (reverse ns)) → all_ops ns ≡ []
  none_last none = empty_all ns (λ k d inside.
      subst HasNone (turned k d inside) (none (length ns - 1 - k) d (omega arith) (omega (arith, length-reverse ns))))

  module _ (a : AreByNode ns) (it : NodeOps) (i : ℕ) (within : i < length (reverse ns)) (at : HoldsAt (λ y. y ≡ it) (reverse ns) i)
      (past : AllWithin HasNone (reverse ns) 0 i) where
    place : ℕ
    place = length ns - 1 - i

    inside : place < length ns
    unfolding place
    inside = omega (arith, length-reverse ns)

    here : (d : NodeOps) → get_or ns place d ≡ it
    unfolding place
    here d = sym (get_or-reverse ns i d (omega (arith, length-reverse ns))) ∙ at d

    pub none_above : All (λ op. op.name.node ≤ it.node) (all_ops ns)
    unfolding place
    none_above k d bound =
        let op : Op = get_or (all_ops ns) k d in
        let e = entry_of ns op (Contains-get_or (all_ops ns) k d bound) in
        let own = own_node ns e.1.0 e.0 op a e.1.1 (sym e.1.2) e.2 in
        let there : (get_or ns e.1.0 e.0).node ≡ e.0.node = ap (λ (m : NodeOps). m.node) e.1.2 in
        let of_it : (get_or ns place e.0).node ≡ it.node = ap (λ (m : NodeOps). m.node) (here e.0) in
        elim (cases_order e.1.0 place) [
          | inl same ↦
              let eq : (get_or ns e.1.0 e.0).node ≡ (get_or ns place e.0).node = ap (λ n. (get_or ns n e.0).node) same in
              omega (arith, own, eq, there, of_it)
          | inr (inl before) ↦
              let less : (get_or ns e.1.0 e.0).node < (get_or ns place e.0).node = from_less _ _ (Less-from_sorted node_order ns e.1.0 place e.0 a.rise before inside) in
              omega (arith, own, less, there, of_it)
          | inr (inr after) ↦
              let none : HasNone e.0 = subst HasNone (turned e.1.0 e.0 e.1.1 ∙ e.1.2) (past (length ns - 1 - e.1.0) e.0 (omega arith) (omega (arith, e.1.1))) in
              absurd (omega (arith, none, e.2.1))
        ]

    pub some_last : HasSome it → Any (λ op. op.name.node ≡ it.node) (all_ops ns)
    some_last some = go it.ops.items refl some
      where
        go : (xs : List Op) → it.ops.items ≡ xs → 0 < length xs → Any (λ (op : Op). op.name.node ≡ it.node) (all_ops ns)
        go [] e none = absurd (omega arith)
        go (x ∷ xs) e more =
            let c : Contains it.ops.items x = subst (λ l. Contains l x) (sym e) (0, omega arith, refl) in
            let h = in_all ns place it x inside (sym (here it)) c in
            (h.0, x, h.1, h.2, own_node ns place it x a inside (sym (here it)) c)
