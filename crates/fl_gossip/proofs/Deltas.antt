-- Operations cut into deltas.
use Rattle.std.proofs.Common.{◌≡◌, ◌<◌, ◌≤◌, ◌+◌, ◌-◌, ◌*◌, ◌^◌, ℕ, inl, inr, min, get_or, nat_le, ◌&&◌, not, Bool, true, false, cond, List, [], ◌∷◌, ◌++◌, length, take, drop, refl, sym, ap, subst, ◌∙◌, arith, append_assoc, append-nil, Result, Ok, Err, OnErr, Ordering, Less, Equal, Greater}
use Rattle.std.specs.List.{filter, flat_map, list_any}
use Rattle.std.specs.List.Sorted.{IsStrictlySortedBy}
use Rattle.std.proofs.lemmas.Grind.{flat_map-append}
use Rattle.std.proofs.lemmas.List.{take-append-drop, take_all, take_more, length-append, length-take-le, flat_map_more, nil_from_length}
use Rattle.std.proofs.lemmas.Bool.{le-leb, cases_lt}
use Rattle.std.proofs.Math.Nat.{min-eq_left, min-eq_right}
use Rattle.std.proofs.Math.Seq.{take-nil}
use Rattle.fl_labels.specs.SetBy.{SetBy, members, len}
use Rattle.fl_ops.specs.declared.op.Op.{Op}
use Rattle.fl_ops.specs.OpOrder.{op_cmp}
use Rattle.fl_opset.specs.ByNode.{all_ops}
use Rattle.fl_opset.specs.declared.node_ops.NodeOps.{NodeOps}
use Rattle.fl_opset.specs.declared.intervals.Intervals.{Intervals}
use Rattle.fl_opset.specs.Rank.{name_rank}
use Rattle.fl_opset.specs.Spans.{in_span}
use Rattle.fl_opset.specs.Windows.{is_lacking, lacking}
use Rattle.fl_opset.proofs.Front.{front_kept, front_grows, front_short, front_full, front_added}
use Rattle.fl_wire.specs.declared.packet.Packet.{Packet}
use Rattle.fl_wire.specs.NameOrder.{by_name}
use Rattle.fl_gossip.specs.Taking.{ops_of}
use Rattle.fl_gossip.specs.Replying.{IsDelta, AreDeltas, AreInDeltas}
use Rattle.fl_gossip.specs.laws.Cutting.{front_rises, back_rises}
use Rattle.fl_gossip.specs.laws.Wanted.{lacking_few, all_wanted}
use Rattle.fl_gossip.specs.parts.Filling.{AreFull, AreFilled, filled}
use Rattle.fl_gossip.specs.parts.Nothing.{IsOfNothing}

-- the window of nothing lacks each operation
module _ (w : Intervals) (nothing : IsOfNothing w) where
  each_lacking : (op : Op) → is_lacking w op ≡ true
  each_lacking op =
      let above : nat_le (name_rank w.from) (name_rank op.name) ≡ true = le-leb (name_rank w.from) (name_rank op.name) (omega (arith, nothing.starts, op.name.node_in_range.0, op.name.seq_in_range.0)) in
      let below : nat_le (name_rank op.name) (name_rank w.to) ≡ true = le-leb (name_rank op.name) (name_rank w.to) (omega (arith, nothing.ends, op.name.node_in_range.1, op.name.seq_in_range.1)) in
      λ i. (above i && below i) && not (list_any (λ s. in_span s op.name) (nothing.none i))

  all_lacking : (ops : List Op) → filter (is_lacking w) ops ≡ ops
  all_lacking [] = refl
  all_lacking (op ∷ ops) = λ i. cond (each_lacking op i) (op ∷ all_lacking ops i) (all_lacking ops i)

  pub nothing_lacks : (s : SetBy op_cmp) → lacking s w ≡ members s
  nothing_lacks s = all_lacking (members s)

full_more : (ps : List Packet) (p : Packet) → AreFull ps → IsDelta p → length (ops_of p) ≡ 64 → AreFull (ps ++ p ∷ [])
full_more [] p h is long = (is, long, tt)
full_more (q ∷ ps) p h is long = (h.0, h.1, full_more ps p h.2 is long)

full_deltas : (ps : List Packet) → AreFull ps → AreDeltas ps
full_deltas [] h = tt
full_deltas (p ∷ []) h = h.0
full_deltas (p ∷ q ∷ ps) h = (h.0, h.1, full_deltas (q ∷ ps) h.2)

full_last : (ps : List Packet) (p : Packet) → AreFull ps → IsDelta p → AreDeltas (ps ++ p ∷ [])
full_last [] p h is = is
full_last (q ∷ []) p h is = (h.0, h.1, is)
full_last (q ∷ r ∷ ps) p h is = (h.0, h.1, full_last (r ∷ ps) p h.2 is)

-- so far: the deltas are full, and the rest is left
pub record FilledTo (all : List Op) (deltas : List Packet) (waiting rest : List Op) : Type 0 where
  pub state : AreFilled deltas waiting
  pub joined : filled deltas waiting ++ rest ≡ all

module _ (all : List Op) (deltas : List Packet) (waiting rest front back : List Op) (room : ℕ) (f : FilledTo all deltas waiting rest)
    (is_front : front ≡ take room rest) (is_back : back ≡ drop room rest) where
  parted : front ++ back ≡ rest
  parted = (λ i. is_front i ++ is_back i) ∙ take-append-drop room rest

  regrouped : flat_map ops_of deltas ++ ((waiting ++ front) ++ back) ≡ all
  regrouped =
      ap (λ l. flat_map ops_of deltas ++ l) (append_assoc waiting front back ∙ ap (λ l. waiting ++ l) parted)
      ∙ sym (append_assoc (flat_map ops_of deltas) waiting rest) ∙ f.joined

  -- what is waiting then rises
  pub waiting_rises : (now : List Op) → now ≡ waiting ++ front → IsStrictlySortedBy by_name all → IsStrictlySortedBy by_name now
  waiting_rises now is up =
      subst (IsStrictlySortedBy by_name) (sym is)
      (front_rises by_name (waiting ++ front) back (back_rises by_name (flat_map ops_of deltas) ((waiting ++ front) ++ back) (subst (IsStrictlySortedBy by_name) (sym regrouped) up)))

  -- and is just enough
  pub waiting_full : length waiting + room ≡ 64 → room ≤ length rest → (now : List Op) → now ≡ waiting ++ front → length now ≡ 64
  waiting_full count enough now is =
      omega (arith, count, ap length is ∙ length-append waiting front, ap length is_front ∙ length-take-le room rest enough)

  -- one delta more
  pub fill_step : (more : List Packet) (none : List Op) (p : Packet) → IsDelta p × (ops_of p ≡ waiting ++ front) → length (ops_of p) ≡ 64 → more ≡ deltas ++ p ∷ [] → none ≡ []
      → FilledTo all more none back
  fill_step more none p is long new empty = record {
    state = record {
      full = subst AreFull (sym new) (full_more deltas p f.state.full is.0 long);
      few = subst (λ l. length l < 64) (sym empty) (omega arith);
    };
    joined = (λ i. filled (new i) (empty i) ++ back)
        ∙ ap (λ l. l ++ back) (append-nil (flat_map ops_of (deltas ++ p ∷ [])) ∙ sym (flat_map_more ops_of [] deltas p) ∙ ap (λ l. flat_map ops_of deltas ++ l) is.1)
        ∙ append_assoc (flat_map ops_of deltas) (waiting ++ front) back ∙ regrouped;
  }

-- what is left waits
pub fill_end : (all : List Op) (deltas : List Packet) (waiting rest now : List Op) → FilledTo all deltas waiting rest → length rest < 64 - length waiting → now ≡ waiting ++ rest
    → AreFilled deltas now × (filled deltas now ≡ all)
fill_end all deltas waiting rest now f short is = (
  record { full = f.state.full; few = omega (arith, short, ap length is ∙ length-append waiting rest) },
  ap (λ l. flat_map ops_of deltas ++ l) is ∙ sym (append_assoc (flat_map ops_of deltas) waiting rest) ∙ f.joined,
)

-- the last delta
pub last_delta : (deltas more : List Packet) (waiting : List Op) (p : Packet) → AreFilled deltas waiting → IsDelta p × (ops_of p ≡ waiting) → more ≡ deltas ++ p ∷ []
    → AreInDeltas (filled deltas waiting) more
last_delta deltas more waiting p f is new = subst (AreInDeltas (filled deltas waiting)) (sym new) (record {
  deltas = full_last deltas p f.full is.0;
  whole = sym (flat_map_more ops_of [] deltas p) ∙ ap (λ l. flat_map ops_of deltas ++ l) is.1;
})

pub last_rises : (deltas : List Packet) (waiting : List Op) → IsStrictlySortedBy by_name (filled deltas waiting) → IsStrictlySortedBy by_name waiting
last_rises deltas waiting up = back_rises by_name (flat_map ops_of deltas) waiting up

pub no_last_delta : (deltas : List Packet) (waiting : List Op) → AreFilled deltas waiting → length waiting ≡ 0 → AreInDeltas (filled deltas waiting) deltas
no_last_delta deltas waiting f none = record {
  deltas = full_deltas deltas f.full;
  whole = sym (append-nil (flat_map ops_of deltas)) ∙ ap (λ l. flat_map ops_of deltas ++ l) (sym (nil_from_length waiting none));
}

-- an error, where something is wanted
pub wanted : {T E P : Type 0} (r : Result T E) → P → OnErr r P
wanted (Ok x) h = tt
wanted (Err e) h = h

pub none_filled : (deltas : List Packet) (waiting ops : List Op) → deltas ≡ [] → waiting ≡ [] → filled deltas waiting ++ ops ≡ ops
none_filled deltas waiting ops none empty = λ i. filled (none i) (empty i) ++ ops

-- ---- the first operations of each node in turn

pub taken_rises : {K : Type 0} (R : K → K → Ordering) (n : ℕ) (xs : List K) → IsStrictlySortedBy R xs → IsStrictlySortedBy R (take n xs)
taken_rises R n xs up = front_rises R (take n xs) (drop n xs) (subst (IsStrictlySortedBy R) (sym (take-append-drop n xs)) up)

-- those of the first nodes are filled in, as many as are wanted
pub record FilledOf (most : ℕ) (nodes : List NodeOps) (i : ℕ) (deltas : List Packet) (waiting : List Op) (left : ℕ) : Type 0 where
  pub state : AreFilled deltas waiting
  pub whole : filled deltas waiting ≡ take most (all_ops (take i nodes))
  pub room : left ≡ most - length (filled deltas waiting)

pub filled_none : (most : ℕ) (nodes : List NodeOps) (deltas : List Packet) (waiting : List Op) → deltas ≡ [] → waiting ≡ [] → FilledOf most nodes 0 deltas waiting most
filled_none most nodes deltas waiting none empty =
    subst (λ l. FilledOf most nodes 0 l waiting most) (sym none)
    (subst (λ l. FilledOf most nodes 0 [] l most) (sym empty) (record { state = record { full = tt; few = omega arith }; whole = sym (take-nil most); room = omega arith }))

module _ (nodes : List NodeOps) (i : ℕ) where
  parted_nodes : all_ops (take i nodes) ++ all_ops (drop i nodes) ≡ all_ops nodes
  parted_nodes = sym (flat_map-append (λ (it : NodeOps). it.ops.items) (take i nodes) (drop i nodes)) ∙ ap all_ops (take-append-drop i nodes)

module _ (most : ℕ) (nodes : List NodeOps) (i : ℕ) (deltas : List Packet) (waiting : List Op) (left : ℕ) (f : FilledOf most nodes i deltas waiting left) where
  filled_few : length (filled deltas waiting) ≤ most
  filled_few = omega (arith, ap length f.whole, front_short most (all_ops (take i nodes)))

  pub filled_all : length nodes ≤ i → filled deltas waiting ≡ take most (all_ops nodes)
  filled_all done = f.whole ∙ ap (λ l. take most (all_ops l)) (take_all i nodes done)

  -- once there is no room left
  pub filled_up : left ≡ 0 → filled deltas waiting ≡ take most (all_ops nodes)
  filled_up none =
      let behind = all_ops (drop i nodes) in
      let full : length (filled deltas waiting) ≡ most = omega (arith, none, f.room, filled_few) in
      sym (front_full most (filled deltas waiting) behind full) ∙ ap (λ l. take most (l ++ behind)) f.whole ∙ front_kept most (all_ops (take i nodes)) behind
      ∙ ap (take most) (parted_nodes nodes i)

  module _ (x : NodeOps) (inside : i < length nodes) (at : x ≡ get_or nodes i x) (ops front : List Op) (place : ℕ) (is : ops ≡ x.ops.items) (least : place ≡ min (length ops) left) (is_front : front ≡ take place ops) where
    one_node_more : filled deltas waiting ++ front ≡ take most (all_ops (take (i + 1) nodes))
    one_node_more =
        front_added most left place (filled deltas waiting) ops front f.room filled_few least is_front
        ∙ ap (λ l. take most (l ++ ops)) f.whole ∙ front_kept most (all_ops (take i nodes)) ops
        ∙ ap (take most) (ap (λ l. all_ops (take i nodes) ++ l) is ∙ flat_map_more (λ (it : NodeOps). it.ops.items) [] (take i nodes) x
        ∙ ap all_ops (ap (λ y. take i nodes ++ y ∷ []) at ∙ sym (take_more nodes i x inside)))

    pub with_node_rises : IsStrictlySortedBy by_name (all_ops nodes) → IsStrictlySortedBy by_name (filled deltas waiting ++ front)
    with_node_rises up =
        subst (IsStrictlySortedBy by_name) (sym one_node_more)
        (taken_rises by_name most (all_ops (take (i + 1) nodes))
        (front_rises by_name (all_ops (take (i + 1) nodes)) (all_ops (drop (i + 1) nodes)) (subst (IsStrictlySortedBy by_name) (sym (parted_nodes nodes (i + 1))) up)))

    -- where it wanted memory, something is wanted
    pub node_lacks : 0 < length (filled deltas waiting ++ front) → 0 < length (take most (all_ops nodes))
    node_lacks some =
        omega (arith, some, ap length one_node_more, front_grows most (all_ops (take (i + 1) nodes)) (all_ops (drop (i + 1) nodes)), ap (λ l. length (take most l)) (parted_nodes nodes (i + 1)))

    pub with_node : (more : List Packet) (now : List Op) (room : ℕ) → AreFilled more now → filled more now ≡ filled deltas waiting ++ front → room ≡ left - length front → FilledOf most nodes (i + 1) more now room
    with_node more now room state all less = record {
      state = state;
      whole = all ∙ one_node_more;
      room = omega (arith, less, f.room, ap length all, length-append (filled deltas waiting) front);
    }

-- no more than there are of what is lacking
module _ (s : SetBy op_cmp) (w : Intervals) (most product there wanted : ℕ) (is_product : product ≡ min (most * 64) (2 ^ 64 - 1)) (is_there : there ≡ len s) (small : there < 2 ^ 64) (is : wanted ≡ min product there) where
  pub front_wanted : take wanted (lacking s w) ≡ take (64 * most) (lacking s w)
  front_wanted = elim (cases_lt there (64 * most)) [
    | inl less ↦ all_wanted s w wanted (is ∙ min-eq_right (enough less) ∙ is_there) ∙ sym (take_all (64 * most) (lacking s w) (omega (arith, less, is_there, lacking_few s w)))
    | inr some ↦ ap (λ n. take n (lacking s w)) (is ∙ min-eq_left (omega (arith, fits some, some)) ∙ fits some)
  ]
    where
      fits : 64 * most ≤ there → product ≡ 64 * most
      fits some =
          let turned : most * 64 ≡ 64 * most = omega arith in
          is_product ∙ min-eq_left (omega (arith, some, small)) ∙ turned

      enough : there < 64 * most → there ≤ product
      enough less = elim (cases_lt (most * 64) (2 ^ 64 - 1)) [
        | inl fit ↦ omega (arith, less, is_product ∙ min-eq_left (weak fit))
        | inr over ↦ omega (arith, small, is_product ∙ min-eq_right over)
      ]
        where
          weak : most * 64 < 2 ^ 64 - 1 → most * 64 ≤ 2 ^ 64 - 1
          weak fit = omega (arith, fit)
