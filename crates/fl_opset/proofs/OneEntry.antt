-- A set by node, of which the entry of one node changes.
use Rattle.std.proofs.Common.{◌≡◌, ◌≢◌, ℕ, suc, Bool, false, ◌+◌, ◌-◌, ◌<◌, ◌≤◌, List, ◌∷◌, ◌++◌, length, get_or, take, drop, set, refl, sym, ap, subst, ◌∙◌, Result, Ok, Err, is_ok, length-append, arith}
use Rattle.std.specs.List.{All, Contains, insert, remove}
use Rattle.std.specs.List.Sorted.{IsStrictlySortedBy, IsSearchInRange, IsBinarySearchResult}
use Rattle.std.specs.Ordering.{nat_cmp}
use Rattle.std.proofs.lemmas.Bool.{false_from_ne_true}
use Rattle.std.proofs.lemmas.List.{get_or-append-add, get_or_append_left}
use Rattle.std.proofs.lemmas.List.Edits.{insert-append_left, insert-append_right, remove-append_left, remove-append_right, length-insert, length-remove}
use Rattle.std.proofs.lemmas.List.Elements.{All-append, All-cons, All-take, All-drop, All-contains}
use Rattle.fl_labels.specs.SetBy.{SetBy, In, of_list, contains}
use Rattle.fl_labels.specs.SetBy as sets
use Rattle.fl_labels.specs.laws.Rising.{of_list-insert, of_list-remove}
use Rattle.fl_labels.specs.laws.SortedVec.{Lists, inserted, removed, every_member}
use Rattle.fl_ops.specs.declared.op.Op.{Op}
use Rattle.fl_ops.specs.OpOrder.{op_cmp}
use Rattle.fl_ops.specs.OpLaws.{op_total, op_exact}
use Rattle.fl_opset.specs.declared.node_ops.NodeOps.{NodeOps}
use Rattle.fl_opset.specs.declared.span.Span.{Span}
use Rattle.fl_opset.specs.ByNode.{all_ops, node_order, AreOfNode, AreByNode}
use Rattle.fl_opset.specs.parts.Kept.{AreKept, AreKeptByNode}
use Rattle.fl_opset.specs.laws.Members.{listed_in}
use Rattle.fl_opset.proofs.ByNode.{all_split, all_set, all_rise, set_by_node, found_node, missed_node, all_none_of_node, in_all, own_node, in_entry}
use Rattle.fl_opset.proofs.OfNode.{search_tells}

-- the entries are by node, and have just so many operations, those of the set
pub record HaveSet (ns : List NodeOps) (s : SetBy op_cmp) (count : ℕ) : Type 0 where
  pub by_node : AreByNode ns
  pub view : of_list (all_ops ns) ≡ s
  pub counted : length (all_ops ns) ≡ count

pub lists_of : (ns : List NodeOps) (s : SetBy op_cmp) (count : ℕ) → HaveSet ns s count → Lists op_cmp (all_ops ns) s
lists_of ns s count h = record { rises = all_rise ns h.by_node; view = h.view }

-- the spans that are kept beside such a set
pub kept_with : (ns : List NodeOps) (s : SetBy op_cmp) (count n : ℕ) (ss : List Span) (known : Bool) → HaveSet ns s count → n ≡ count
    → (Lists op_cmp (all_ops ns) s → AreKept (all_ops ns) ss known) → AreKeptByNode ns n ss known
kept_with ns s count n ss known h same kept = record { by_node = h.by_node; counted = same ∙ sym h.counted; kept = kept (lists_of ns s count h) }

-- an operation of which no other has the node is no member
pub no_member : (xs : List Op) (s : SetBy op_cmp) (op : Op) → of_list xs ≡ s → All (λ q. q.name.node ≢ op.name.node) xs → contains s op ≡ false
no_member xs s op view none =
    false_from_ne_true (contains s op) (λ h. every_member op_total op_exact (λ (q : Op). q.name.node ≢ op.name.node) xs s view none op h refl)

-- what a search for a node found is the node's, and what it did not find has no operation
module _ (ns ys : List NodeOps) (same : ys ≡ ns) (node i : ℕ) (a : AreByNode ns) where
  pub found_here : (it : NodeOps) → (IsStrictlySortedBy node_order ys → IsBinarySearchResult (λ m. nat_cmp m.node node) ys (Ok i)) → it ≡ get_or ns i it → it.node ≡ node
  found_here it at is =
      let b : AreByNode ys = subst AreByNode (sym same) a in
      found_node ys node i it (at b.rise) (is ∙ ap (λ l. get_or l i it) (sym same))

  pub none_here : i ≤ length ys → (IsStrictlySortedBy node_order ys → IsBinarySearchResult (λ m. nat_cmp m.node node) ys (Err i)) → All (λ op. op.name.node ≢ node) (all_ops ns)
  none_here bound at =
      let b : AreByNode ys = subst AreByNode (sym same) a in
      subst (λ l. All (λ op. op.name.node ≢ node) (all_ops l)) same (all_none_of_node ys node i b (missed_node ys node i b bound (at b.rise)))

-- an edit in the middle
insert_within : {K : Type 0} (F X B : List K) (place : ℕ) (x : K) → place ≤ length X
    → insert (F ++ (X ++ B)) (length F + place) x ≡ F ++ (insert X place x ++ B)
insert_within F X B place x inside =
    let back : length F + place - length F ≡ place = omega arith in
    insert-append_right F (X ++ B) (length F) (length F + place) x refl (omega arith)
    ∙ ap (λ n. F ++ insert (X ++ B) n x) back
    ∙ ap (λ l. F ++ l) (insert-append_left X B place x inside)

remove_within : {K : Type 0} (F X B : List K) (place : ℕ) → place < length X
    → remove (F ++ (X ++ B)) (length F + place) ≡ F ++ (remove X place ++ B)
remove_within F X B place inside =
    let back : length F + place - length F ≡ place = omega arith in
    remove-append_right F (X ++ B) (length F) (length F + place) refl (omega arith)
    ∙ ap (λ n. F ++ remove (X ++ B) n) back
    ∙ ap (λ l. F ++ l) (remove-append_left X B place inside)

module _ (ns : List NodeOps) (i : ℕ) (it : NodeOps) (a : AreByNode ns) (inside : i < length ns) (is : it ≡ get_or ns i it)
    (s : SetBy op_cmp) (view : of_list (all_ops ns) ≡ s) where
  abbrev front : List Op
  front = all_ops (take i ns)

  abbrev back : List Op
  back = all_ops (drop (i + 1) ns)

  own_here : AreOfNode it
  own_here = subst AreOfNode (sym is) (a.each i it inside)

  within_all : (place : ℕ) → place ≤ length it.ops.items → length front + place ≤ length (all_ops ns)
  within_all place h = omega (arith, ap length (all_split ns i it inside is), length-append front (it.ops.items ++ back), length-append it.ops.items back)

  below_all : (place : ℕ) → place < length it.ops.items → length front + place < length (all_ops ns)
  below_all place h = omega (arith, ap length (all_split ns i it inside is), length-append front (it.ops.items ++ back), length-append it.ops.items back)

  -- the entry's operations are members
  pub entry_member : (q : Op) → Contains it.ops.items q → In s q
  entry_member q h = (listed_in (all_ops ns) s view q).0 (in_all ns i it q inside is h)

  pub entry_each : (P : Op → Type 0) → All P it.ops.items → (q : Op) → In s q → q.name.node ≡ it.node → P q
  entry_each P h q in_s own = All-contains P it.ops.items q h (in_entry ns i it q a inside is own ((listed_in (all_ops ns) s view q).1 in_s))

  pub some_there : (place : ℕ) → place < length it.ops.items → 0 < length (all_ops ns)
  some_there place h = omega (arith, below_all place h)

  -- the entry may be replaced by one with the same operations
  pub same_entry : (m : NodeOps) → m.node ≡ it.node → m.ops.items ≡ it.ops.items → HaveSet (set ns i m) s (length (all_ops ns))
  same_entry m node same =
      let whole : all_ops (set ns i m) ≡ all_ops ns = all_set ns i m inside ∙ ap (λ xs. front ++ (xs ++ back)) same ∙ sym (all_split ns i it inside is) in
      record {
        by_node = set_by_node ns i it m inside is node (record {
          rise = subst (IsStrictlySortedBy op_cmp) (sym same) own_here.rise;
          own = subst (All (λ (op : Op). op.name.node ≡ m.node)) (sym same) (subst (λ n. All (λ (op : Op). op.name.node ≡ n) it.ops.items) (sym node) own_here.own);
        }) a;
        view = ap of_list whole ∙ view;
        counted = ap length whole;
      }

  module _ (op : Op) (of : op.name.node ≡ it.node) (ys : List Op) (same : ys ≡ it.ops.items) where
    rises : IsStrictlySortedBy op_cmp ys
    rises = subst (IsStrictlySortedBy op_cmp) (sym same) own_here.rise

    -- a search in the entry tells whether the operation is a member
    pub entry_tells : (r : Result ℕ ℕ) → IsSearchInRange r (length ys) → (IsStrictlySortedBy op_cmp ys → IsBinarySearchResult (λ y. op_cmp y op) ys r)
        → contains s op ≡ is_ok r
    entry_tells r within at = search_tells s it.node it.ops.items
        (λ q h. (entry_member q h, own_node ns i it q a inside is h))
        (λ q h own. in_entry ns i it q a inside is own ((listed_in (all_ops ns) s view q).1 h))
        ys same own_here.rise op of r within (at rises)

    module _ (m : NodeOps) (node : m.node ≡ it.node) (place : ℕ) where
      -- the operation is put in where the search ended
      pub put_in : place ≤ length ys → (IsStrictlySortedBy op_cmp ys → IsBinarySearchResult (λ y. op_cmp y op) ys (Err place))
          → m.ops.items ≡ insert it.ops.items place op → HaveSet (set ns i m) (sets.insert s op) (length (all_ops ns) + 1)
      put_in within at new =
          let reach : place ≤ length it.ops.items = subst (λ l. place ≤ length l) same within in
          let whole : all_ops (set ns i m) ≡ insert (all_ops ns) (length front + place) op =
          all_set ns i m inside ∙ ap (λ xs. front ++ (xs ++ back)) new ∙ sym (insert_within front it.ops.items back place op reach)
          ∙ ap (λ l. insert l (length front + place) op) (sym (all_split ns i it inside is)) in
          let own : All (λ (q : Op). q.name.node ≡ it.node) (insert it.ops.items place op) =
          All-append (λ (q : Op). q.name.node ≡ it.node) (take place it.ops.items) (op ∷ drop place it.ops.items)
          (All-take (λ (q : Op). q.name.node ≡ it.node) place it.ops.items own_here.own)
          (All-cons (λ (q : Op). q.name.node ≡ it.node) op (drop place it.ops.items) of (All-drop (λ (q : Op). q.name.node ≡ it.node) place it.ops.items own_here.own)) in
          record {
            by_node = set_by_node ns i it m inside is node (record {
              rise = (inserted op_total op_exact it.ops.items (of_list it.ops.items) own_here.rise refl ys same op place m.ops.items within (at rises) new).rises;
              own = subst (λ n. All (λ (q : Op). q.name.node ≡ n) m.ops.items) (sym node) (subst (All (λ (q : Op). q.name.node ≡ it.node)) (sym new) own);
            }) a;
            view = ap of_list whole ∙ of_list-insert op_total op_exact (all_ops ns) (length front + place) op ∙ ap (λ t. sets.insert t op) view;
            counted = ap length whole ∙ length-insert (all_ops ns) (length front + place) op (within_all place reach);
          }

      -- the operation is taken out where the search found it
      pub taken_out : place < length ys → (IsStrictlySortedBy op_cmp ys → IsBinarySearchResult (λ y. op_cmp y op) ys (Ok place))
          → m.ops.items ≡ remove it.ops.items place → HaveSet (set ns i m) (sets.remove s op) (length (all_ops ns) - 1)
      taken_out within at new =
          let reach : place < length it.ops.items = subst (λ l. place < length l) same within in
          let here : (d : Op) → get_or it.ops.items place d ≡ op = λ d. ap (λ l. get_or l place d) (sym same) ∙ op_exact _ op (at rises d) in
          let there : (d : Op) → get_or (all_ops ns) (length front + place) d ≡ op = λ d.
          ap (λ l. get_or l (length front + place) d) (all_split ns i it inside is) ∙ get_or-append-add front (it.ops.items ++ back) place d
          ∙ get_or_append_left it.ops.items back d place reach ∙ here d in
          let whole : all_ops (set ns i m) ≡ remove (all_ops ns) (length front + place) =
          all_set ns i m inside ∙ ap (λ xs. front ++ (xs ++ back)) new ∙ sym (remove_within front it.ops.items back place reach)
          ∙ ap (λ l. remove l (length front + place)) (sym (all_split ns i it inside is)) in
          let own : All (λ (q : Op). q.name.node ≡ it.node) (remove it.ops.items place) =
          All-append (λ (q : Op). q.name.node ≡ it.node) (take place it.ops.items) (drop (suc place) it.ops.items)
          (All-take (λ (q : Op). q.name.node ≡ it.node) place it.ops.items own_here.own)
          (All-drop (λ (q : Op). q.name.node ≡ it.node) (suc place) it.ops.items own_here.own) in
          record {
            by_node = set_by_node ns i it m inside is node (record {
              rise = (removed op_total op_exact it.ops.items (of_list it.ops.items) own_here.rise refl ys same op place m.ops.items within (at rises) new).rises;
              own = subst (λ n. All (λ (q : Op). q.name.node ≡ n) m.ops.items) (sym node) (subst (All (λ (q : Op). q.name.node ≡ it.node)) (sym new) own);
            }) a;
            view = ap of_list whole ∙ of_list-remove op_total op_exact (all_ops ns) (length front + place) op (all_rise ns a) (below_all place reach) there
                ∙ ap (λ t. sets.remove t op) view;
            counted = ap length whole ∙ (let n = length-remove (all_ops ns) (length front + place) (below_all place reach) in omega arith);
          }
