-- Operations that rise, parted by node.
use Rattle.std.proofs.Common.{◌≡◌, ℕ, ◌+◌, ◌<◌, ◌≤◌, true, false, leb, leb-true, List, [], ◌∷◌, ◌++◌, length, get_or, take, drop, refl, sym, ap, subst, ◌∙◌, append_assoc, inl, inr, arith}
use Rattle.std.specs.List.{All}
use Rattle.std.specs.List.Sorted.{IsStrictlySortedBy, IsPartitionPoint}
use Rattle.std.proofs.lemmas.Bool.{cases_lt, le-leb, leb-false, false≢true}
use Rattle.std.proofs.lemmas.List.{take-append-drop, length-take-le, length-drop, get_or-take, get_or-drop}
use Rattle.std.proofs.lemmas.List.Edits.{insert_end}
use Rattle.std.proofs.lemmas.List.Elements.{All-push}
use Rattle.fl_ops.specs.declared.op.Op.{Op}
use Rattle.fl_ops.specs.OpOrder.{op_cmp}
use Rattle.fl_opset.specs.declared.node_ops.NodeOps.{NodeOps}
use Rattle.fl_opset.specs.ByNode.{all_ops, AreOfNode, AreByNode}
use Rattle.fl_opset.proofs.ByNode.{IsNodePlace, all_push, none_by_node, insert_by_node, front_rises, back_rises}
use Rattle.fl_opset.proofs.Names.{numbers_rise}

-- the entries have the operations up to the rest, which are of greater nodes
pub record IsSplit (ops : List Op) (nodes : List NodeOps) (rest : List Op) : Type 0 where
  pub by_node : AreByNode nodes
  pub whole : all_ops nodes ++ rest ≡ ops
  pub rise : IsStrictlySortedBy op_cmp rest
  pub above : All (λ it. All (λ op. it.node < op.name.node) rest) nodes

pub none_split : (ops : List Op) (nodes : List NodeOps) → IsStrictlySortedBy op_cmp ops → nodes ≡ [] → IsSplit ops nodes ops
none_split ops nodes up none = subst (λ ns. IsSplit ops ns ops) (sym none) (record {
  by_node = none_by_node;
  whole = refl;
  rise = up;
  above = λ k d inside. absurd (omega arith);
})

-- the operations of the first one's node end at a place
module _ (ops : List Op) (nodes : List NodeOps) (rest : List Op) (split : IsSplit ops nodes rest) (first : Op) (some : 0 < length rest) (is : (d : Op) → first ≡ get_or rest 0 d)
    (end : ℕ) (bound : end ≤ length rest) (at : IsPartitionPoint (λ op. leb op.name.node first.name.node ≡ true) (λ op. leb op.name.node first.name.node ≡ false) rest end) where
  pub first_within : 0 < end
  first_within = elim (cases_lt 0 end) [
    | inl within ↦ within
    | inr none ↦
        let same : first.name.node ≡ (get_or rest 0 first).name.node = ap (λ (op : Op). op.name.node) (is first) in
        absurd (false≢true (sym (at.1 0 first none some) ∙ le-leb _ first.name.node (omega arith)))
  ]

  module _ (it : NodeOps) (node : it.node ≡ first.name.node) (run : it.ops.items ≡ take end rest) where
    own : AreOfNode it
    own = record {
      rise = subst (IsStrictlySortedBy op_cmp) (sym run) (front_rises op_cmp end rest split.rise);
      own = subst (All (λ op. op.name.node ≡ it.node)) (sym run) (λ k d inside.
          let long = length-take-le end rest bound in
          let read : (get_or (take end rest) k d).name.node ≡ (get_or rest k d).name.node = ap (λ (op : Op). op.name.node) (get_or-take end rest k d (omega arith)) in
          let low : first.name.node ≤ (get_or rest k d).name.node = subst (λ (op : Op). op.name.node ≤ (get_or rest k d).name.node) (sym (is d)) (numbers_rise rest split.rise 0 k d (omega arith) (omega arith)).0 in
          let high : (get_or rest k d).name.node ≤ first.name.node = leb-true _ first.name.node (at.0 k d (omega arith) (omega arith)) in
          omega arith);
    }

    place : IsNodePlace nodes it.node (length nodes)
    place = record {
      bound = omega arith;
      below = λ k d inside.
          let less : (get_or nodes k d).node < (get_or rest 0 first).name.node = split.above k d inside 0 first some in
          let same : first.name.node ≡ (get_or rest 0 first).name.node = ap (λ (op : Op). op.name.node) (is first) in
          omega arith;
      above = λ k d low high. absurd (omega arith);
    }

    pub more_split : (nodes' : List NodeOps) (rest' : List Op) → nodes' ≡ nodes ++ it ∷ [] → rest' ≡ drop end rest → IsSplit ops nodes' rest'
    more_split nodes' rest' pushed left = subst (λ ns. IsSplit ops ns rest') (sym pushed) (subst (λ l. IsSplit ops (nodes ++ it ∷ []) l) (sym left) (record {
      by_node = subst AreByNode (insert_end nodes it) (insert_by_node nodes (length nodes) it place own split.by_node);
      whole = ap (λ l. l ++ drop end rest) (all_push nodes it ∙ ap (λ l. all_ops nodes ++ l) run)
          ∙ append_assoc (all_ops nodes) (take end rest) (drop end rest)
          ∙ ap (λ l. all_ops nodes ++ l) (take-append-drop end rest) ∙ split.whole;
      rise = back_rises op_cmp end rest split.rise;
      above = All-push (λ x. All (λ op. x.node < op.name.node) (drop end rest)) nodes it
          (λ k d inside j e within.
          let read : (get_or (drop end rest) j e).name.node ≡ (get_or rest (end + j) e).name.node = ap (λ (op : Op). op.name.node) (get_or-drop end rest j e) in
          let less : (get_or nodes k d).node < (get_or rest (end + j) e).name.node = split.above k d inside (end + j) e (omega (arith, length-drop end rest)) in
          omega arith)
          (λ j e within.
          let read : (get_or (drop end rest) j e).name.node ≡ (get_or rest (end + j) e).name.node = ap (λ (op : Op). op.name.node) (get_or-drop end rest j e) in
          let reach : end + j < length rest = omega (arith, length-drop end rest) in
          let more : first.name.node < (get_or rest (end + j) e).name.node = leb-false _ first.name.node (at.1 (end + j) e (omega arith) reach) in
          omega arith);
    }))
