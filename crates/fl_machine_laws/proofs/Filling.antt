-- What a front of each answer brings: all that is lacking, or as many operations as it may have.
use Rattle.std.proofs.Common.{◌≡◌, ◌<◌, ◌≤◌, ◌+◌, ◌*◌, ◌++◌, ◌∙◌, ◌⊎◌, inl, inr, ℕ, zero, suc}
use Rattle.std.proofs.Common.{Option, None, Some}
use Rattle.std.proofs.Common.{true, List, [], ◌∷◌, length, take, drop, refl, sym, ap, subst, arith}
use Rattle.std.proofs.Common.{length-append, eq-or-lt_of_le}
use Rattle.std.specs.FinMap as map
use Rattle.std.specs.List.{Contains, count_by, flat_map}
use Rattle.std.specs.List.Sorted.{IsStrictlySortedBy}
use Rattle.std.proofs.lemmas.Bool.{cases_lt, false≢true}
use Rattle.std.proofs.lemmas.List.{length-map, take-append-drop}
use Rattle.std.proofs.lemmas.List.Concat.{flat_map-append}
use Rattle.std.proofs.lemmas.List.Elements.{All-contains, Contains-append_left, filter_passes}
use Rattle.std.proofs.lemmas.List.Kept.{IsStrictlySortedBy-filter}
use Rattle.fl_bench.specs.laws.Puts.{same_found}
use Rattle.fl_gossip.specs.Replying.{AreDeltas}
use Rattle.fl_gossip.specs.Taking.{ops_of}
use Rattle.fl_gossip.specs.laws.Cutting.{front_rises}
use Rattle.fl_labels.specs.Found.{Within}
use Rattle.fl_labels.specs.SetBy as set
use Rattle.fl_labels.specs.SetBy.{SetBy, In, members, members_rise}
use Rattle.fl_labels.specs.declared.name.Name.{Name}
use Rattle.fl_ops.specs.OpOrder.{op_cmp}
use Rattle.fl_ops.specs.Registry.{Listed}
use Rattle.fl_ops.specs.declared.op.Op.{Op}
use Rattle.fl_opset.specs.Catching.{HaveNoClash}
use Rattle.fl_opset.specs.Windows.{AreWindows, in_window, is_lacking, lacking}
use Rattle.fl_opset.specs.declared.intervals.Intervals.{Intervals}
use Rattle.fl_opset.specs.laws.Members.{Contains-filter, lacking_member, member_listed}
use Rattle.fl_system.specs.Numbered.{item_at}
use Rattle.fl_system.specs.Runs.{IsReached, IsRun, Moment, end}
use Rattle.fl_system.specs.World.{KeptNode, World}
use Rattle.fl_system.specs.declared.sent.Sent.{Sent}
use Rattle.fl_system_laws.specs.Goes.{carried}
use Rattle.fl_round_laws.specs.Round.{IsTaken}
use Rattle.fl_round_laws.specs.laws.Items.{joined_from, mapped_at, number_of}
use Rattle.fl_wire.specs.declared.packet.Packet.{Packet}
use Rattle.fl_wire.specs.declared.packet.Packet.TheVariants as packets
use Rattle.fl_world_laws.specs.Places.{IsSavedAt as IsSavedIn}
use Rattle.fl_machine_model.specs.Machines.{Machine, Up, Machines, Turn, AreMet, AreTurns, last}
use Rattle.fl_machine_laws.specs.Fronts.{IsAnsweredInFront, CatchesUpInFront, all_of, saved_on}
use Rattle.fl_machine_laws.specs.OneRun.{next_of}
use Rattle.fl_machine_laws.specs.Places.{IsAnywhereOn, IsSavedAt, IsUp, saved_of}
use Rattle.fl_machine_laws.specs.Rounds.{IsTakenOn}
use Rattle.fl_machine_laws.proofs.Catching.{taken_in}
use Rattle.fl_machine_laws.proofs.Deeds.{turns_go}
use Rattle.fl_machine_laws.proofs.Lacking.{not_lacking}
use Rattle.fl_machine_laws.proofs.Steps.{first_item, item_in, item_of, cut, met_on, met_next}
use Rattle.fl_machine_laws.proofs.Steps.{packets_stay, ToldOn, told_on, AnsweredOn, answered_on}
use Rattle.fl_machine_laws.proofs.Summaries.{sent_from}
use Rattle.fl_machine_laws.proofs.Together.{together, saved_at}

-- ---- what a machine has saved

pub in_saved : {m : Machines} {number : ℕ} {op : Op} → IsSavedAt m number op
    → In (saved_on m number) op
in_saved {op = op} i =
    subst (λ (o : Option Machine). In (all_of o) op) (sym i.there) i.saved

pub saved_in : {m : Machines} {number : ℕ} {op : Op} → In (saved_on m number) op
    → IsSavedAt m number op
saved_in {m} {number} {op} h = by_found (map.get m.nodes number) refl h
  where
    by_found : (o : Option Machine) → map.get m.nodes number ≡ o → In (all_of o) op
        → IsSavedAt m number op
    by_found None e has = absurd (false≢true (sym (set.contains-empty op_cmp op) ∙ has))
    by_found (Some machine) e has = record { machine = machine; there = e; saved = has }

pub up_saved : {m : Machines} {number : ℕ} {s : KeptNode} {op : Op} → IsUp m number s
    → IsSavedAt m number op → In s.node.saved op
up_saved {op = op} up i =
    subst (λ (x : Machine). In (saved_of x) op) (same_found i.there up) i.saved

pub saved_up : {m : Machines} {number : ℕ} {s : KeptNode} {op : Op} → IsUp m number s
    → In s.node.saved op → IsSavedAt m number op
saved_up {s = s} up has = record { machine = Up s; there = up; saved = has }

-- ---- the first packets of an answer

-- are full, where they are not all
full_front : (most : ℕ) (told : List Packet) → AreDeltas told → most < length told
    → length (flat_map ops_of (take most told)) ≡ most * 64
full_front zero told deltas less = refl
full_front (suc most) [] deltas less = absurd (omega (arith, less))
full_front (suc most) (p ∷ []) deltas less = absurd (omega (arith, less))
full_front (suc most) (p ∷ q ∷ told) deltas less =
    let rest = full_front most (q ∷ told) deltas.2 (omega (arith, less)) in
    let full = deltas.1 in
    omega (arith, rest, full, length-append (ops_of p) (flat_map ops_of (take most (q ∷ told))))

parted : (most : ℕ) (told : List Packet)
    → flat_map ops_of (take most told) ++ flat_map ops_of (drop most told) ≡ flat_map ops_of told
parted most told =
    sym (flat_map-append ops_of (take most told) (drop most told))
    ∙ ap (flat_map ops_of) (take-append-drop most told)

-- ---- what is lacking

lacks_it : (s : SetBy op_cmp) (w : Intervals) (op : Op) → Contains (lacking s w) op
    → is_lacking w op ≡ true
lacks_it s w op h =
    All-contains (λ x. is_lacking w x ≡ true) (lacking s w) op
    (filter_passes (is_lacking w) (members s)) h

lacking_more : (s t : SetBy op_cmp) (w : Intervals) → Within (In s) (In t)
    → Within (Listed (lacking s w)) (Listed (lacking t w))
lacking_more s t w more op h =
    Contains-filter (is_lacking w) (members t) op
    (member_listed t op (more op (lacking_member s w op h))) (lacks_it s w op h)

lacking_rises : (s : SetBy op_cmp) (w : Intervals) → IsStrictlySortedBy op_cmp (lacking s w)
lacking_rises s w = IsStrictlySortedBy-filter op_cmp (is_lacking w) (members s) (members_rise s)

-- ---- each, or one

each_or_one : (n : ℕ) (P : ℕ → Type 0) (Q : Type 0) → ((k : ℕ) → k < n → P k ⊎ Q)
    → ((k : ℕ) → k < n → P k) ⊎ Q
each_or_one zero P Q f = inl (λ k less. absurd (omega (arith, less)))
each_or_one (suc n) P Q f =
    by_both (f n (omega arith)) (each_or_one n P Q (λ k less. f k (omega (arith, less))))
  where
    by_both : P n ⊎ Q → ((k : ℕ) → k < n → P k) ⊎ Q → ((k : ℕ) → k < suc n → P k) ⊎ Q
    by_both (inr q) rest = inr q
    by_both (inl p) (inr q) = inr q
    by_both (inl p) (inl all) = inl (λ k less. elim (eq-or-lt_of_le less) [
      | inl is ↦ let same : n ≡ k = omega (arith, is) in subst P same p
      | inr below ↦ all k (omega (arith, below))
    ])

-- ---- the laws that are known here

abbrev pub TakenSaves : Type 0
TakenSaves =
    (w : World) (ms : List Moment) (packet number : ℕ) (sent : Sent) (op : Op) → IsReached w
    → IsRun w ms → item_at w.packets packet ≡ Some sent → Contains (carried sent) op
    → IsTaken packet number ms → IsSavedIn (end w ms) number op

abbrev pub Stays : Type 0
Stays =
    (m : Machines) (later : List Turn) (number : ℕ) (op : Op) → AreMet m → IsSavedAt m number op
    → AreTurns m later → IsSavedAt (last m later) number op

abbrev pub HaveOneName : Type 0
HaveOneName =
    (m : Machines) (a b : Op) → AreMet m → IsAnywhereOn m a → IsAnywhereOn m b
    → a.name ≡ b.name → a ≡ b

abbrev pub CaughtUp : Type 0
CaughtUp =
    (a b taken : SetBy op_cmp) (windows : List Intervals) → AreWindows (In a) windows
    → HaveNoClash (In a) (In b) → Within (In a) (In taken)
    → ((w : Intervals) → Contains windows w → Within (Listed (lacking b w)) (In taken))
    → Within (In b) (In taken)

abbrev pub Cover : Type 0
Cover =
    (a : SetBy op_cmp) (windows : List Intervals) → AreWindows (In a) windows → (name : Name)
    → count_by (λ w. in_window w name) windows ≡ 1

pub record Laws : Type 0 where
  pub takes : TakenSaves
  pub stays : Stays
  pub names : HaveOneName
  pub catches : CaughtUp
  pub covers : Cover

-- what a packet that is taken brings is saved then
taken_saved : TakenSaves → (m : Machines) → AreMet m → (ts : List Turn) → AreTurns m ts
    → (packet number : ℕ) (sent : Sent) (op : Op) → item_at m.packets packet ≡ Some sent
    → Contains (carried sent) op → IsTakenOn packet number ts → IsSavedAt (last m ts) number op
taken_saved law m met ts are packet number sent op there brings taken =
    let t = together met in
    let g = turns_go m t.world ts t.follows are in
    saved_at g.follows number op
    (law t.world g.moments packet number sent op t.follows.reached g.is_run
    (subst (λ (l : List Sent). item_at l packet ≡ Some sent) (sym t.follows.same.packets) there)
    brings (taken_in m t.world ts g.moments g.all taken))

-- ---- one round

-- the machine `to` gained as many operations as so many packets hold, of those of `from`
pub record Brings (most : ℕ) (m after : Machines) (to from : ℕ) : Type 0 where
  pub ops : List Op
  pub many : length ops ≡ most * 64
  pub rise : IsStrictlySortedBy op_cmp ops
  pub own : (op : Op) → Contains ops op → IsSavedAt after from op
  pub new : (op : Op) → Contains ops op → IsSavedAt after to op × (¬ IsSavedAt m to op)

-- the machine `to` has all that `from` had
abbrev pub Passes : Machines → Machines → ℕ → ℕ → Type 0
Passes m after to from = (op : Op) → IsSavedAt m from op → IsSavedAt after to op

module _ (laws : Laws) (most to from : ℕ) where
  -- from these machines on the answer to a window comes, and its first packets are taken
  module _ (m : Machines) (met : AreMet m) (ts : List Turn) (are : AreTurns m ts)
      (packet : ℕ) (window : Intervals)
      (there : item_at m.packets packet ≡ Some (sent_from to (packets.Have window)))
      (a : IsAnsweredInFront most packet from to m ts) where
    abbrev asked : Machines
    asked = last m a.answer.earlier

    met_asked : AreMet asked
    met_asked = met_on m a.answer.earlier met (cut m ts a.answer are).before

    abbrev after : Machines
    after = last m ts

    its : AnsweredOn asked a.answer.after packet from window a.told
    its =
        let x = cut m ts a.answer are in
        answered_on x.happens
        (packets_stay m a.answer.earlier x.before packet (sent_from to (packets.Have window)) there)
        refl

    -- what a packet of the front brings
    front_saved : (k : ℕ) (p : Packet) (op : Op) → k < most → item_at a.told (suc k) ≡ Some p
        → Contains (ops_of p) op → IsSavedAt after to op
    front_saved k p op less e brings =
        let x = cut m ts a.answer are in
        subst (λ (y : Machines). IsSavedAt y to op) x.ends
        (taken_saved laws.takes a.answer.after (met_next met_asked x.happens) a.answer.later x.rest
        (next_of asked + k) to (sent_from from p) op (its.sent k p e) brings
        (a.taken k less (item_in a.told k p e).0))

    -- what `from` has when it is asked it has then
    from_has : (op : Op) → In its.s.node.saved op → IsSavedAt after from op
    from_has op has =
        let x = cut m ts a.answer are in
        subst (λ (y : Machines). IsSavedAt y from op) x.ends
        (laws.stays a.answer.after a.answer.later from op (met_next met_asked x.happens)
        (laws.stays asked (record { deed = _; after = a.answer.after } ∷ []) from op met_asked
        (saved_up its.up has) (x.happens, tt)) x.rest)

    -- what `from` had it has when it is asked
    from_had : (op : Op) → IsSavedAt m from op → In its.s.node.saved op
    from_had op had =
        up_saved its.up
        (laws.stays m a.answer.earlier from op met had (cut m ts a.answer are).before)

    -- the answer is short, and all of it comes
    short_all : length a.told ≤ most → (op : Op)
        → Listed (lacking (saved_on m from) window) op → IsSavedAt after to op
    short_all short op h =
        let b = joined_from ops_of a.told op
        (subst (λ l. Contains l op) (sym its.answer.whole)
        (lacking_more (saved_on m from) its.s.node.saved window
        (λ o i. from_had o (saved_in i)) op h)) in
        front_saved b.index b.item op (omega (arith, b.inside, short)) b.there b.its

    -- or as much as there is room for, and none of it was there
    long_brings : (was : Machines)
        → ((op : Op) → IsSavedAt was to op → is_lacking window op ≡ true → ⊥)
        → most < length a.told → Brings most was after to from
    long_brings was known long =
        let front = flat_map ops_of (take most a.told) in
        let whole = parted most a.told ∙ its.answer.whole in
        let lacks : (op : Op) → Contains front op
        → Contains (lacking its.s.node.saved window) op =
        λ op h. subst (λ l. Contains l op) whole
        (Contains-append_left front (flat_map ops_of (drop most a.told)) op h) in
        record {
          ops = front;
          many = full_front most a.told its.answer.deltas long;
          rise =
              front_rises op_cmp front (flat_map ops_of (drop most a.told))
              (subst (IsStrictlySortedBy op_cmp) (sym whole)
              (lacking_rises its.s.node.saved window));
          own = λ op h. from_has op (lacking_member its.s.node.saved window op (lacks op h));
          new = λ op h.
              let b = joined_from ops_of (take most a.told) op h in
              let i = first_item most a.told b.index b.item b.there in (
                front_saved b.index b.item op i.0 i.1 b.its,
                λ had. known op had (lacks_it its.s.node.saved window op (lacks op h)),
              );
        }

  -- ---- a whole round

  module _ (m : Machines) (met : AreMet m) (ts : List Turn) (are : AreTurns m ts)
      (c : CatchesUpInFront most to from m ts) where
    abbrev telling : Machines
    telling = last m c.summary.earlier

    met_telling : AreMet telling
    met_telling = met_on m c.summary.earlier met (cut m ts c.summary are).before

    met_told : AreMet c.summary.after
    met_told = met_next met_telling (cut m ts c.summary are).happens

    its_summary : ToldOn telling c.summary.after to c.told
    its_summary = told_on (cut m ts c.summary are).happens

    abbrev known : SetBy op_cmp
    known = its_summary.s.node.saved

    abbrev windows : List Intervals
    windows = its_summary.summary.0

    at_end : {number : ℕ} {op : Op} → IsSavedAt (last c.summary.after c.summary.later) number op
        → IsSavedAt (last m ts) number op
    at_end {number} {op} h =
        subst (λ (y : Machines). IsSavedAt y number op) (cut m ts c.summary are).ends h

    -- to the machines that told
    had_told : (number : ℕ) (op : Op) → IsSavedAt m number op
        → IsSavedAt c.summary.after number op
    had_told number op had =
        let x = cut m ts c.summary are in
        laws.stays telling (record { deed = _; after = c.summary.after } ∷ []) number op
        met_telling (laws.stays m c.summary.earlier number op met had x.before) (x.happens, tt)

    -- what the summary tells of is not lacking
    not_lacked : (w : Intervals) → Contains windows w → (op : Op) → IsSavedAt m to op
        → is_lacking w op ≡ true → ⊥
    not_lacked w there op had lacks =
        not_lacking laws.covers known windows its_summary.summary.1 w there op
        (up_saved its_summary.up
        (laws.stays m c.summary.earlier to op met had (cut m ts c.summary are).before)) lacks

    -- of a window all comes, or as much as there is room for
    abbrev Comes : ℕ → Type 0
    Comes k =
        (w : Intervals) → item_at windows (suc k) ≡ Some w → (op : Op)
        → Listed (lacking (saved_on c.summary.after from) w) op → IsSavedAt (last m ts) to op

    brought_on : {most : ℕ} → Brings most m (last c.summary.after c.summary.later) to from
        → Brings most m (last m ts) to from
    brought_on {most} b =
        subst (λ (y : Machines). Brings most m y to from) (cut m ts c.summary are).ends b

    same_item : {w v : Intervals} {o : Option Intervals} → o ≡ Some w → o ≡ Some v → w ≡ v
    same_item p q = same_found p q

    one_window : (k : ℕ) → k < length c.told → Comes k ⊎ Brings most m (last m ts) to from
    one_window k less =
        let x = cut m ts c.summary are in
        let i = item_of windows k
        (omega (arith, less, ap length its_summary.summary.2, length-map windows packets.Have)) in
        let sent = its_summary.sent k (packets.Have i.0)
        (subst (λ l. item_at l (suc k) ≡ Some (packets.Have i.0)) (sym its_summary.summary.2)
        (mapped_at packets.Have windows (suc k) i.0 i.1)) in
        let a = c.answered k less in
        elim (cases_lt most (length a.told)) [
          | inl long ↦
              inr (brought_on (long_brings c.summary.after met_told c.summary.later x.rest
              (next_of telling + k) i.0 sent a m
              (not_lacked i.0 (item_in windows k i.0 i.1).1) long))
          | inr short ↦
              inl (λ w e op h. at_end (short_all c.summary.after met_told c.summary.later x.rest
              (next_of telling + k) i.0 sent a short op
              (subst (λ v. Listed (lacking (saved_on c.summary.after from) v) op)
              (same_item e i.1) h)))
        ]

    no_clash : HaveNoClash (In known) (In (saved_on c.summary.after from))
    no_clash x y has had same =
        laws.names c.summary.after x y met_told
        (inl (
          to,
          laws.stays telling (record { deed = _; after = c.summary.after } ∷ []) to x
              met_telling (saved_up its_summary.up has) ((cut m ts c.summary are).happens, tt),
        ))
        (inl (from, saved_in had)) same

    known_then : (op : Op) → In known op → In (saved_on (last m ts) to) op
    known_then op has =
        let x = cut m ts c.summary are in
        in_saved (at_end (laws.stays c.summary.after c.summary.later to op met_told
        (laws.stays telling (record { deed = _; after = c.summary.after } ∷ []) to op met_telling
        (saved_up its_summary.up has) (x.happens, tt)) x.rest))

    all_come : ((k : ℕ) → k < length c.told → Comes k) → Passes m (last m ts) to from
    all_come all op had =
        saved_in (laws.catches known (saved_on c.summary.after from) (saved_on (last m ts) to)
        windows its_summary.summary.1 no_clash known_then got op
        (in_saved (had_told from op had)))
      where
        got : (w : Intervals) → Contains windows w
            → Within (Listed (lacking (saved_on c.summary.after from) w))
            (In (saved_on (last m ts) to))
        got w (k, inside, at) o h =
            in_saved (all k
            (omega (
              arith,
              inside,
              ap length its_summary.summary.2,
              length-map windows packets.Have,
            )) w (number_of windows k w inside at) o h)

    pub one_round : Passes m (last m ts) to from ⊎ Brings most m (last m ts) to from
    one_round =
        elim (each_or_one (length c.told) Comes (Brings most m (last m ts) to from) one_window) [
          | inl all ↦ inl (all_come all)
          | inr brings ↦ inr brings
        ]
