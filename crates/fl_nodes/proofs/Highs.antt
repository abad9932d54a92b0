-- Up to which number something is saved, by the last operation of each node.
use Rattle.std.proofs.Common.{◌≡◌, ◌∙◌, ℕ, ◌<◌, ◌≤◌, Bool, true, cond, List, [], Option, Some, None, length, refl, sym, ap, subst, arith, false}
use Rattle.std.specs.BTreeMap.{is_at}
use Rattle.std.specs.Cmp.{Equal-is}
use Rattle.std.specs.FinMap as map
use Rattle.std.specs.FinMap.{nat_cmp-IsAntisymmetric}
use Rattle.std.specs.Map.{lookup, set_value}
use Rattle.std.specs.List.{Contains}
use Rattle.std.specs.Ordering.{eq_by_cmp, nat_cmp}
use Rattle.std.proofs.lemmas.Cmp.{nat_cmp_total}
use Rattle.std.proofs.lemmas.Map.Views.{Contains-from_any}
use Rattle.fl_labels.specs.SetBy.{SetBy, In, members, contains-members, len, len-members}
use Rattle.fl_ops.specs.OpLaws.{op_exact}
use Rattle.fl_ops.specs.OpOrder.{op_cmp}
use Rattle.fl_ops.specs.declared.op.Op.{Op}
use Rattle.fl_mailbox.specs.laws.Tables.{get_held, one_put}
use Rattle.fl_gossip.specs.Meeting.{FindsLeast}
use Rattle.fl_system.specs.Joins.{IsClashAt}
use Rattle.fl_system.specs.State.{NodeState}
use Rattle.fl_system.specs.World.{World, KeptNode}
use Rattle.fl_node.specs.Over.{NodeOver}
use Rattle.fl_nodes.specs.Goes.{MayBeNode}
use Rattle.fl_nodes.specs.Over.{WorldOver}
use Rattle.fl_nodes.specs.parts.Joined.{AreNodes, IsStrayWith}
use Rattle.fl_nodes.specs.parts.Highest.{IsUpTo, IsWithin, AreWithin}
use Rattle.fl_nodes.proofs.Entries.{of_entries, changed}
use Rattle.fl_nodes.proofs.Lifting.{at_other, here, same_number}

listed : (s : SetBy op_cmp) (op : Op) → In s op → Contains (members s) op
listed s op h = Contains-from_any (λ x y e. op_exact x y ((Equal-is (op_cmp x y)).0 e)) op (members s) (sym (contains-members s op) ∙ h)

-- ---- the nodes of a world

some_same : {X : Type 0} {x y : X} → ◌≡◌ {A = Option X} (Some x) (Some y) → x ≡ y
some_same h = cc

module _ {K : Type 0} (before after desks : ℕ) (raises : before ≤ after) where
  -- one of them was changed, or came
  one_more : (nodes : map.FinMap nat_cmp (NodeOver K)) (number : ℕ) (y : NodeOver K) → AreWithin before desks nodes → IsWithin after desks y
      → AreWithin after desks (map.insert nodes number y)
  one_more nodes number y all own q n at = by_place (eq_by_cmp nat_cmp q number) refl
    where
      by_place : (b : Bool) → eq_by_cmp nat_cmp q number ≡ b → IsWithin after desks n
      by_place true e =
          let same : y ≡ n = some_same (sym (here nodes number y) ∙ ap (map.get (map.insert nodes number y)) (sym (same_number q number e)) ∙ at) in
          subst (IsWithin after desks) same own
      by_place false e =
          let was = all q n (sym (at_other nodes number q y e) ∙ at) in
          record { upto = λ op h. omega (arith, was.upto op h, raises); desked = was.desked }

  pub changed_up : (es fs : List (ℕ × NodeOver K)) (number : ℕ) (x y : NodeOver K) → lookup (is_at (nat_cmp number)) es ≡ Some x
      → fs ≡ set_value (is_at (nat_cmp number)) es y → AreWithin before desks (map.from_entries es) → IsUpTo after y.node.saved
      → length y.node.views ≡ length x.node.views → AreWithin after desks (map.from_entries fs)
  changed_up es fs number x y there f all own desked =
      let was = all number x (sym (get_held nat_cmp_total nat_cmp-IsAntisymmetric es (map.from_entries es) number refl) ∙ there) in
      subst (AreWithin after desks) (sym (ap (λ (w : WorldOver K). w.nodes) (changed es fs [] [] (of_entries desks es [] []) refl number x y there f)))
      (one_more (map.from_entries es) number y all (record { upto = own; desked = desked ∙ was.desked }))

  pub added_up : (es fs : List (ℕ × NodeOver K)) (number : ℕ) (y : NodeOver K)
      → ((q : ℕ) → lookup (is_at (nat_cmp q)) fs ≡ cond (is_at (nat_cmp number) q) (Some y) (lookup (is_at (nat_cmp q)) es))
      → AreWithin before desks (map.from_entries es) → IsUpTo after y.node.saved → length y.node.views ≡ desks → AreWithin after desks (map.from_entries fs)
  added_up es fs number y h all own desked =
      subst (AreWithin after desks) (sym (one_put nat_cmp_total nat_cmp-IsAntisymmetric es fs (map.from_entries es) number y refl h))
      (one_more (map.from_entries es) number y all (record { upto = own; desked = desked }))

-- a node was changed, and has saved what it had
pub unraised : {K : Type 0} (highest desks : ℕ) (es fs : List (ℕ × NodeOver K)) (number : ℕ) (x y : NodeOver K) → lookup (is_at (nat_cmp number)) es ≡ Some x
    → fs ≡ set_value (is_at (nat_cmp number)) es y → AreWithin highest desks (map.from_entries es)
    → y.node.saved ≡ x.node.saved → length y.node.views ≡ length x.node.views → AreWithin highest desks (map.from_entries fs)
unraised highest desks es fs number x y there f all same viewed =
    changed_up highest highest desks (omega arith) es fs number x y there f all
    (subst (IsUpTo highest) (sym same) (all number x (sym (get_held nat_cmp_total nat_cmp-IsAntisymmetric es (map.from_entries es) number refl) ∙ there)).upto)
    viewed

-- a node was looked at
pub looked_up : {K : Type 0} (highest desks : ℕ) (es fs : List (ℕ × NodeOver K)) (number : ℕ) (x : NodeOver K) → lookup (is_at (nat_cmp number)) es ≡ Some x
    → fs ≡ set_value (is_at (nat_cmp number)) es x → AreWithin highest desks (map.from_entries es) → AreWithin highest desks (map.from_entries fs)
looked_up highest desks es fs number x there f all = unraised highest desks es fs number x x there f all refl refl

-- nothing was changed
pub left_up : {K : Type 0} (highest desks : ℕ) (es fs : List (ℕ × NodeOver K)) → fs ≡ es → AreWithin highest desks (map.from_entries es)
    → AreWithin highest desks (map.from_entries fs)
left_up {K} highest desks es fs same all = subst (λ (l : List (ℕ × NodeOver K)). AreWithin highest desks (map.from_entries l)) (sym same) all

-- a node that is there has as many desks as each
pub desked : {K : Type 0} (highest desks : ℕ) (es : List (ℕ × NodeOver K)) (number : ℕ) (x : NodeOver K) → lookup (is_at (nat_cmp number)) es ≡ Some x
    → AreWithin highest desks (map.from_entries es) → length x.node.views ≡ desks
desked highest desks es number x there all =
    (all number x (sym (get_held nat_cmp_total nat_cmp-IsAntisymmetric es (map.from_entries es) number refl) ∙ there)).desked

-- ---- a newcomer that has saved nothing

empty_has : (saved : SetBy op_cmp) → len saved ≡ 0 → (op : Op) → ¬ In saved op
empty_has saved none op h = let at = listed saved op h in absurd (omega (arith, at.1, len-members saved, none))

pub no_clash : (w : World) (saved : SetBy op_cmp) → len saved ≡ 0 → FindsLeast (IsClashAt w saved) None
no_clash w saved none name c = empty_has saved none c.ours c.in_set

record IsNodeOf {K : Type 0} (a : Option (NodeOver K)) (t : KeptNode) : Type 0 where
  node : NodeOver K
  there : a ≡ Some node
  same : t.node ≡ node.node

node_of : {K : Type 0} (a : Option (NodeOver K)) (b : Option KeptNode) (t : KeptNode) → b ≡ Some t → MayBeNode (λ keeper k. Unit {0}) a b
    → IsNodeOf a t
node_of (Some n) (Some s) t e h = record { node = n; there = refl; same = sym (ap (λ (k : KeptNode). k.node) (some_same e)) ∙ h.0 }
node_of (Some n) None t e h = absurd h
node_of None (Some s) t e h = absurd h
node_of None None t e h = absurd (cc)

module _ {K : Type 0} (over : WorldOver K) (w : World) (are : AreNodes over w) (highest number desks : ℕ) (all : AreWithin highest desks over.nodes)
    (above : highest < number) (saved : SetBy op_cmp) (none : len saved ≡ 0) where
  pub no_stray : FindsLeast (IsStrayWith w number saved) None
  no_stray name (IsStrayWith.brought op is in_saved at unknown) = empty_has saved none op in_saved
  no_stray name (IsStrayWith.awaited op is of u unknown) =
      let n = node_of _ _ u.1 u.2 (are u.0) in
      let low = (all u.0 n.node n.there).upto op (subst (λ (s : NodeState). In s.saved op) n.same u.3) in
      absurd (omega (arith, low, above, of))

some_none : {X : Type 0} (x : X) → ◌≡◌ {A = Option X} None (Some x) → ⊥
some_none x h = cc

none_held : {K : Type 0} (nothing : List (ℕ × NodeOver K)) → nothing ≡ [] → (number : ℕ)
    → ◌≡◌ {A = Option (NodeOver K)} None (map.get (map.from_entries {R = nat_cmp} nothing) number)
none_held nothing empty number =
    ap (λ l. lookup (is_at (nat_cmp number)) l) (sym empty)
    ∙ get_held nat_cmp_total nat_cmp-IsAntisymmetric nothing (map.from_entries nothing) number refl

pub none_up : {K : Type 0} (es : List (ℕ × NodeOver K)) → es ≡ [] → (highest desks : ℕ) → AreWithin highest desks (map.from_entries es)
none_up es empty highest desks number n at = absurd (some_none n (none_held es empty number ∙ at))
