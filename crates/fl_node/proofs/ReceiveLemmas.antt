-- What is received of a packet.
use Rattle.std.proofs.Common.{Result, ◌≡◌, inl, inr, ◌∙◌, refl, sym, ap, subst, ℕ, ◌<◌, List, [], ◌∷◌, length, get_or, Bool, true, false, not, arith, Ok, Err, Less, Equal}
use Rattle.std.specs.Cmp.{tied_itself}
use Rattle.std.specs.List.{Contains, filter}
use Rattle.std.specs.List.Sorted.{IsStrictlySortedBy}
use Rattle.std.proofs.lemmas.Bool.{false≢true, cases_lt}
use Rattle.std.proofs.lemmas.List.{get_or_default}
use Rattle.std.proofs.lemmas.List.Elements.{All-contains, filter_passes}
use Rattle.std.proofs.lemmas.Map.Keys.{Less-from_sorted}
use Rattle.fl_labels.specs.declared.name.Name.{Name}
use Rattle.fl_labels.specs.Name.{name_cmp}
use Rattle.fl_labels.specs.NameOrder.{name_total}
use Rattle.fl_labels.specs.SetBy.{SetBy, In, contains, members, of_list, len, len-members, of_list-members}
use Rattle.fl_ops.specs.declared.op.Op.{Op}
use Rattle.fl_ops.specs.OpOrder.{op_cmp}
use Rattle.fl_ops.specs.OpLaws.{op_total, op_exact}
use Rattle.fl_opset.specs.Catching.{MayTake}
use Rattle.fl_opset.specs.laws.Members.{listed_in, member_listed, listed_member, Contains-filter, Contains-unfilter}
use Rattle.fl_store.specs.Kept.{AreNew}
use Rattle.fl_wire.specs.NameOrder.{by_name}
use Rattle.fl_gossip.specs.declared.fault.GossipFault.{GossipFault}
use Rattle.fl_gossip.specs.declared.fault.GossipFault.TheVariants as gossip
use Rattle.fl_wire.specs.declared.packet.Packet.{Packet}
use Rattle.fl_wire.specs.declared.packet.Packet.TheVariants as packets
use Rattle.fl_wire.specs.declared.batch.Batch.{Batch}
use Rattle.fl_message.specs.declared.message.Data.{Data}
use Rattle.fl_opset.specs.declared.intervals.Intervals.{Intervals}
use Rattle.fl_opset.specs.Windows.{lacking}
use Rattle.fl_gossip.specs.Taking.{ops_of, AreTaken, IsLeastOffence, Refuses}
use Rattle.fl_jobs.specs.declared.answer.Refusal.TheVariants.{Memory}
use Rattle.fl_system.specs.declared.answer.Fault.{Fault}
use Rattle.fl_system.specs.declared.answer.Fault.TheVariants.{Refused, Clash, Impostor}
use Rattle.fl_system.specs.State.{NodeState}
use Rattle.fl_system.specs.Waiting.{IsRunning, IsTaken}
use Rattle.fl_system.specs.Receives.{Receives, IsImpostor, IsClash, IsFirstRefused, CanTake, AreLacking}
use Rattle.fl_node.specs.Checking.{AreRefused, Counts, Checks}
use Rattle.fl_node.specs.parts.Receiving.{untaken_as}

-- of operations that rise by their names, one name has one
once : (ops : List Op) → IsStrictlySortedBy by_name ops → (a b : Op) → Contains ops a → Contains ops b → a.name ≡ b.name → a ≡ b
once ops up a b at_a at_b e = elim (cases_lt at_a.0 at_b.0) [
  | inl before ↦ absurd (apart a b at_a at_b e before)
  | inr after ↦ elim (cases_lt at_b.0 at_a.0) [
    | inl before ↦ absurd (apart b a at_b at_a (sym e) before)
    | inr same ↦
        let index : at_a.0 ≡ at_b.0 = omega arith in
        sym at_a.2 ∙ ap (λ k. get_or ops k a) index ∙ get_or_default ops at_b.0 a b at_b.1 ∙ at_b.2
  ]
]
  where
    apart : (x y : Op) (at_x : Contains ops x) (at_y : Contains ops y) → x.name ≡ y.name → at_x.0 < at_y.0 → ⊥
    apart x y at_x at_y same before =
        let up_to : by_name (get_or ops at_x.0 x) (get_or ops at_y.0 x) ≡ Less = Less-from_sorted by_name ops at_x.0 at_y.0 x up before at_y.1 in
        let there : get_or ops at_y.0 x ≡ y = get_or_default ops at_y.0 x y at_y.1 ∙ at_y.2 in
        let less : by_name x y ≡ Less = (λ i. by_name ((sym at_x.2) i) ((sym there) i)) ∙ up_to in
        let level : name_cmp y.name y.name ≡ Equal = tied_itself name_total y.name in
        let here : name_cmp y.name y.name ≡ Less = ap (λ (n : Name). name_cmp n y.name) (sym same) ∙ less in
        cc

passes : {X : Type 0} (p : X → Bool) (xs : List X) (x : X) → Contains (filter p xs) x → p x ≡ true
passes p xs x c = All-contains (λ y. p y ≡ true) (filter p xs) x (filter_passes p xs) c

untold : (b : Bool) → ¬ (b ≡ true) → not b ≡ true
untold true h = absurd (h refl)
untold false h = refl

told : (b : Bool) → not b ≡ true → ¬ (b ≡ true)
told true h e = false≢true h
told false h e = false≢true e

-- a set with a member is not empty
member_counts : (s : SetBy op_cmp) (op : Op) → In s op → 0 < len s
member_counts s op h = let c = member_listed s op h in omega (arith, c.1, len-members s)

-- and one that is not empty has a member
some_member : (s : SetBy op_cmp) → 0 < len s → (op : Op) × In s op
some_member s h = first (members s) refl (subst (λ k. 0 < k) (len-members s) h)
  where
    first : (xs : List Op) → members s ≡ xs → 0 < length (members s) → (op : Op) × In s op
    first [] is some = absurd (omega (arith, ap length is))
    first (x ∷ xs) is some = (x, listed_member s x (subst (λ l. Contains l x) (sym is) (0, omega arith, refl)))

in_list : (ops : List Op) (op : Op) → In (of_list {R = op_cmp} ops) op → Contains ops op
in_list ops op h = (listed_in ops (of_list ops) refl op).1 h

in_set : (ops : List Op) (op : Op) → Contains ops op → In (of_list {R = op_cmp} ops) op
in_set ops op c = (listed_in ops (of_list ops) refl op).0 c

module _ (n : NodeState) (ops : List Op) where
  may_take : (op : Op) → MayTake n.number (In n.saved) op → (¬ IsImpostor n op) × (¬ IsClash n op)
  may_take op may = (
    λ i. let known = may.own i.own in i.unknown known.0 known.1 known.2,
    λ c. c.differs (may.agrees c.other c.there c.same_name),
  )

  -- what is taken may be received
  pub can_take : (new : List Op) → AreTaken n.number n.saved ops new → CanTake n (of_list ops)
  can_take new t op h = may_take op (t.each op (in_list ops op h))

  -- it is what the node lacks
  pub lacking_taken : (new : List Op) (s : SetBy op_cmp) → s ≡ of_list new → AreTaken n.number n.saved ops new → AreLacking n (of_list ops) s
  lacking_taken new s is t op = (
    λ h.
        let c : Contains (filter (λ x. not (contains n.saved x)) ops) op = subst (λ l. Contains l op) t.lacked (in_list new op (subst (λ x. In x op) is h)) in
        (in_set ops op (Contains-unfilter (λ x. not (contains n.saved x)) ops op c), told _ (passes (λ x. not (contains n.saved x)) ops op c)),
    λ h. subst (λ x. In x op) (sym is)
        (in_set new op (subst (λ l. Contains l op) (sym t.lacked) (Contains-filter (λ x. not (contains n.saved x)) ops op (in_list ops op h.0) (untold _ h.1)))),
  )

  -- its names are new
  pub new_taken : (new : List Op) (s : SetBy op_cmp) → s ≡ of_list new → IsStrictlySortedBy by_name ops → AreTaken n.number n.saved ops new → AreNew (members s) n.saved
  new_taken new s is up t = record {
    distinct = λ a b has_a has_b e. once ops up a b (in_list ops a (from a has_a).0) (in_list ops b (from b has_b).0) e;
    unused = λ a b has_a has_b e.
        let taken = from a has_a in
        let same : b ≡ a = (t.each a (in_list ops a taken.0)).agrees b has_b (sym e) in
        taken.1 (subst (In n.saved) same has_b);
  }
    where
      from : (a : Op) → In (of_list {R = op_cmp} (members s)) a → In (of_list {R = op_cmp} ops) a × (¬ In n.saved a)
      from a h = (lacking_taken new s is t a).0 (subst (λ x. In x a) (of_list-members op_total op_exact s) h)

  first_refused : (f : GossipFault) (o : IsLeastOffence n.number (In n.saved) ops f) → IsFirstRefused n (of_list ops) o.op
  first_refused f o = record {
    member = in_set ops o.op o.there;
    least = λ other h bad less.
        let may = may_take other (o.least other (in_list ops other h) less) in
        elim bad [ inl impostor ↦ may.0 impostor | inr clash ↦ may.1 clash ];
  }

  -- what is not taken is refused
  pub not_taken : (f : GossipFault) → Refuses n.number (In n.saved) ops f → AreRefused n (of_list ops) (untaken_as f)
  not_taken (gossip.Impostor name) o =
      subst (λ x. AreRefused n (of_list ops) (Impostor x)) (sym o.offends.0)
      (AreRefused.impostor (first_refused _ o) (record { own = o.offends.1; unknown = λ other there same. o.offends.2 (other, there, same) }))
  not_taken (gossip.Clash name) o =
      subst (λ x. AreRefused n (of_list ops) (Clash x)) (sym o.offends.0)
      (AreRefused.clash (first_refused _ o) (record { other = o.offends.1.0; there = o.offends.1.1; same_name = o.offends.1.2; differs = o.offends.1.3 }))
  not_taken gossip.Memory o = AreRefused.no_room (record {
    may = λ op h. may_take op (o.each op (in_list ops op h));
    op = o.op;
    there = in_set ops o.op o.there;
    new = o.new;
  })

-- and then nothing is received
pub refused_as : (n : NodeState) (ops : SetBy op_cmp) (fault : Fault) → IsRunning n.state → AreRefused n ops fault → Receives n ops (Err fault) n
refused_as n ops fault running (AreRefused.no_room some) = Receives.no_room running some
refused_as n ops fault running (AreRefused.impostor first own) = Receives.impostor running first own
refused_as n ops fault running (AreRefused.clash first other) = Receives.clash running first other

module _ (n : NodeState) (ops new : SetBy op_cmp) (can : CanTake n ops) (lacks : AreLacking n ops new) where
  -- all of it is saved
  pub nothing_new : IsRunning n.state → len new ≡ 0 → Receives n ops (Ok 0) n
  nothing_new running none = Receives.nothing_new running can (λ op h. known op h (contains n.saved op) refl)
    where
      known : (op : Op) → In ops op → (b : Bool) → contains n.saved op ≡ b → In n.saved op
      known op h true is = is
      known op h false is =
          let one : 0 < len new = member_counts new op ((lacks op).1 (h, λ has. false≢true (sym is ∙ has))) in
          absurd (omega arith)

  -- something is new, and something else on its way
  pub is_taken : (fault : Fault) → IsRunning n.state → 0 < len new → IsTaken n.state fault → Receives n ops (Err fault) n
  is_taken fault running some taken =
      let one = some_member new some in
      let h = (lacks one.0).0 one.1 in
      Receives.taken one.0 running can h.0 h.1 taken

-- the operations of a packet rise by their names
pub rises : (packet : Packet) → IsStrictlySortedBy by_name (ops_of packet)
unfolding IsStrictlySortedBy
rises (packets.Full b) = b.rising
rises (packets.Have w) = tt
rises (packets.Delta b) = b.rising
rises (packets.Data d) = tt

module _ (n : NodeState) (p : Packet) (running : IsRunning n.state) where
  pub full_checks : (b : Batch) (r : Result ℕ Fault) → p ≡ packets.Full b → Counts n (of_list (ops_of p)) r → Checks n p r
  full_checks b r is h = subst (λ q. Checks n q r) (sym is) (Checks.full running (subst (λ q. Counts n (of_list (ops_of q)) r) is h))

  pub delta_checks : (b : Batch) (r : Result ℕ Fault) → p ≡ packets.Delta b → Counts n (of_list (ops_of p)) r → Checks n p r
  delta_checks b r is h = subst (λ q. Checks n q r) (sym is) (Checks.delta running (subst (λ q. Counts n (of_list (ops_of q)) r) is h))

  pub window_checks : (w : Intervals) (k : ℕ) → p ≡ packets.Have w → k ≡ length (lacking n.saved w) → Checks n p (Ok k)
  window_checks w k is count = subst (λ q. Checks n q (Ok k)) (sym is) (subst (λ x. Checks n (packets.Have w) (Ok x)) (sym count) (Checks.window running))

  pub no_room_checks : (w : Intervals) → p ≡ packets.Have w → 0 < length (lacking n.saved w) → Checks n p (Err (Refused Memory))
  no_room_checks w is some = subst (λ q. Checks n q (Err (Refused Memory))) (sym is) (Checks.no_room running some)

  pub message_checks : (d : Data) → p ≡ packets.Data d → Checks n p (Ok 0)
  message_checks d is = subst (λ q. Checks n q (Ok 0)) (sym is) (Checks.message running)
