-- Walks over the operations of each node, one entry after another.
use Rattle.std.proofs.Common.{◌≡◌, inl, inr, ℕ, ◌+◌, ◌<◌, ◌≤◌, List, [], ◌∷◌, ◌++◌, length, get_or, take, drop, sym, ap, subst, ◌∙◌, Less}
use Rattle.std.specs.List.{All, AllZip, AllByRecursion}
use Rattle.std.specs.List.Sorted.{IsStrictlySortedBy}
use Rattle.std.specs.Ordering.{nat_cmp}
use Rattle.std.proofs.lemmas.List.{take_all}
use Rattle.std.proofs.lemmas.List.Elements.{Contains-append_left, Contains-append_right, Contains-append_cases, All-from_recursion, recursion_from_All, all_zip_more}
use Rattle.fl_ops.specs.declared.op.Op.{Op}
use Rattle.fl_ops.specs.OpOrder.{op_cmp}
use Rattle.fl_opset.specs.declared.node_ops.NodeOps.{NodeOps}
use Rattle.fl_opset.specs.declared.span.Span.{Span}
use Rattle.fl_opset.specs.ByNode.{all_ops, node_order, AreOfNode, AreByNode}
use Rattle.fl_opset.specs.parts.Kept.{AddNames}
use Rattle.fl_opset.proofs.ByNode.{all_more, all_split}

-- the entry of a node, which a walk reads, and its operations
module _ (nodes : List NodeOps) (i : ℕ) (it : NodeOps) (ops : List Op) (inside : i < length nodes) (is : it ≡ get_or nodes i it) (same : ops ≡ it.ops.items) where
  more : all_ops (take (i + 1) nodes) ≡ all_ops (take i nodes) ++ ops
  more = all_more nodes i it inside is ∙ ap (λ l. all_ops (take i nodes) ++ l) (sym same)

  about : all_ops nodes ≡ all_ops (take i nodes) ++ (ops ++ all_ops (drop (i + 1) nodes))
  about = all_split nodes i it inside is ∙ ap (λ l. all_ops (take i nodes) ++ (l ++ all_ops (drop (i + 1) nodes))) (sym same)

  -- what is made of operations piece by piece
  module _ {A : Type 0} (F : List Op → List A) (joins : (xs ys : List Op) → F (xs ++ ys) ≡ F xs ++ F ys) where
    pub made_more : F (all_ops (take (i + 1) nodes)) ≡ F (all_ops (take i nodes)) ++ F ops
    made_more = ap F more ∙ joins (all_ops (take i nodes)) ops

    pub made_at : F (all_ops nodes) ≡ F (all_ops (take i nodes)) ++ (F ops ++ F (all_ops (drop (i + 1) nodes)))
    made_at =
        ap F about ∙ joins (all_ops (take i nodes)) (ops ++ all_ops (drop (i + 1) nodes))
        ∙ ap (λ l. F (all_ops (take i nodes)) ++ l) (joins ops (all_ops (drop (i + 1) nodes)))

-- ---- names

-- the names of more operations
added_then : (xs ys : List Op) (ss ts us : List Span) → AddNames xs ss ts → AddNames ys ts us → AddNames (xs ++ ys) ss us
added_then xs ys ss ts us a b = record {
  fits = b.fits;
  only = λ n there. elim (b.only n there) [
    | inl before ↦ elim (a.only n before) [
      | inl old ↦ inl old
      | inr named ↦ inr (named.0, Contains-append_left xs ys named.0 named.1, named.2)
    ]
    | inr named ↦ inr (named.0, Contains-append_right xs ys named.0 named.1, named.2)
  ];
  old = λ n there. b.old n (a.old n there);
  new = λ n named. elim (Contains-append_cases xs ys named.0 named.1) [
    | inl first ↦ b.old n (a.new n (named.0, first, named.2))
    | inr second ↦ b.new n (named.0, second, named.2)
  ];
}

pub node_added : (nodes : List NodeOps) (i : ℕ) (it : NodeOps) (ops : List Op) (ss ts us : List Span) → i < length nodes → it ≡ get_or nodes i it → ops ≡ it.ops.items
    → AddNames (all_ops (take i nodes)) ss ts → AddNames ops ts us → AddNames (all_ops (take (i + 1) nodes)) ss us
node_added nodes i it ops ss ts us inside is same a b =
    subst (λ l. AddNames l ss us) (sym (more nodes i it ops inside is same)) (added_then (all_ops (take i nodes)) ops ss ts us a b)

-- ---- copies

-- of the same node with the same operations
abbrev pub IsCopy : NodeOps → NodeOps → Type 0
IsCopy a b = (a.node ≡ b.node) × (a.ops.items ≡ b.ops.items)

pub copied_more : (nodes made : List NodeOps) (i : ℕ) (it : NodeOps) (new : NodeOps) (ops : List Op) → i < length nodes → it ≡ get_or nodes i it → ops ≡ it.ops.items
    → new.node ≡ it.node → new.ops.items ≡ ops → AllZip IsCopy (take i nodes) made → AllZip IsCopy (take (i + 1) nodes) (made ++ new ∷ [])
copied_more nodes made i it new ops inside is same node copied zip =
    all_zip_more IsCopy nodes made i it new inside is zip (sym node, sym (copied ∙ same))

pub all_copied : (nodes made : List NodeOps) (i : ℕ) → length nodes ≤ i → AllZip IsCopy (take i nodes) made → AllZip IsCopy nodes made
all_copied nodes made i done zip = subst (λ l. AllZip IsCopy l made) (take_all i nodes done) zip

pub same_ops : (ns ms : List NodeOps) → AllZip IsCopy ns ms → all_ops ms ≡ all_ops ns
same_ops [] [] zip = λ i. []
same_ops [] (m ∷ ms) zip = absurd zip
same_ops (n ∷ ns) [] zip = absurd zip
same_ops (n ∷ ns) (m ∷ ms) zip = λ i. sym zip.0.1 i ++ same_ops ns ms zip.1 i

copy_own : (n m : NodeOps) → IsCopy n m → AreOfNode n → AreOfNode m
copy_own n m copy h = record {
  rise = subst (IsStrictlySortedBy op_cmp) copy.1 h.rise;
  own = subst (λ (l : List Op). All (λ op. op.name.node ≡ m.node) l) copy.1 (subst (λ k. All (λ op. op.name.node ≡ k) n.ops.items) copy.0 h.own);
}

copies_own : (ns ms : List NodeOps) → AllZip IsCopy ns ms → AllByRecursion AreOfNode ns → AllByRecursion AreOfNode ms
copies_own [] [] zip h = tt
copies_own [] (m ∷ ms) zip h = absurd zip
copies_own (n ∷ ns) [] zip h = absurd zip
copies_own (n ∷ ns) (m ∷ ms) zip h = (copy_own n m zip.0 h.0, copies_own ns ms zip.1 h.1)

copies_above : (j k : ℕ) (ns ms : List NodeOps) → j ≡ k → AllZip IsCopy ns ms → AllByRecursion (λ y. nat_cmp j y.node ≡ Less) ns → AllByRecursion (λ y. nat_cmp k y.node ≡ Less) ms
copies_above j k [] [] e zip h = tt
copies_above j k [] (m ∷ ms) e zip h = absurd zip
copies_above j k (n ∷ ns) [] e zip h = absurd zip
copies_above j k (n ∷ ns) (m ∷ ms) e zip h = ((λ i. nat_cmp (sym e i) (sym zip.0.0 i)) ∙ h.0, copies_above j k ns ms e zip.1 h.1)

copies_rise : (ns ms : List NodeOps) → AllZip IsCopy ns ms → IsStrictlySortedBy node_order ns → IsStrictlySortedBy node_order ms
unfolding IsStrictlySortedBy
copies_rise [] [] zip h = tt
copies_rise [] (m ∷ ms) zip h = absurd zip
copies_rise (n ∷ ns) [] zip h = absurd zip
copies_rise (n ∷ ns) (m ∷ ms) zip h = (copies_above n.node m.node ns ms zip.0.0 zip.1 h.0, copies_rise ns ms zip.1 h.1)

pub copies_by_node : (ns ms : List NodeOps) → AllZip IsCopy ns ms → AreByNode ns → AreByNode ms
copies_by_node ns ms zip a = record {
  rise = copies_rise ns ms zip a.rise;
  each = All-from_recursion AreOfNode ms (copies_own ns ms zip (recursion_from_All AreOfNode ns a.each));
}
