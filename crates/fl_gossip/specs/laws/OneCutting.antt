-- Operations are in deltas in one way.
use Rattle.std.proofs.Common.{◌≡◌, ◌∙◌, ◌≤◌, ◌<◌, ◌+◌, ◌*◌, ℕ, zero, suc, List, [], ◌∷◌, ◌++◌, length, take, drop, refl, sym, ap, subst, arith, length-append, append-nil}
use mathlib.Core.HLevel.{Σ_prop_path}
use Rattle.std.specs.Coded.{le_prop}
use Rattle.std.specs.List.{flat_map}
use Rattle.std.specs.List.Sorted.{IsStrictlySortedBy, IsStrictlySortedBy-prop}
use Rattle.std.proofs.Math.Seq.{take-nil, take-append-add}
use Rattle.std.proofs.lemmas.List.{take_at, drop_at, take_all}
use Rattle.fl_ops.specs.declared.op.Op.{Op}
use Rattle.fl_wire.specs.NameOrder.{by_name}
use Rattle.fl_wire.specs.declared.batch.Batch.{Batch}
use Rattle.fl_wire.specs.declared.packet.Packet.{Packet}
use Rattle.fl_wire.specs.declared.packet.Packet.TheVariants as kinds
use Rattle.fl_gossip.specs.Taking.{ops_of}
use Rattle.fl_gossip.specs.Replying.{IsDelta, AreDeltas, AreInDeltas}

same_batch : (a b : Batch) → a.ops ≡ b.ops → a ≡ b
same_batch a b p =
    let parts : ◌≡◌ {A = (ops : List Op) × ((0 < length ops) × (length ops ≤ 64) × IsStrictlySortedBy by_name ops)}
    (a.ops, (a.some, a.few, a.rising)) (b.ops, (b.some, b.few, b.rising))
    = Σ_prop_path (λ ops. hlevel (le_prop, IsStrictlySortedBy-prop by_name ops)) p in
    λ i. record { ops = (parts i).0; some = (parts i).1.0; few = (parts i).1.1; rising = (parts i).1.2 }

same_delta : (p q : Packet) → IsDelta p → IsDelta q → ops_of p ≡ ops_of q → p ≡ q
same_delta (kinds.Full b) q h k e = absurd h
same_delta (kinds.Have w) q h k e = absurd h
same_delta (kinds.Data d) q h k e = absurd h
same_delta (kinds.Delta b) (kinds.Full c) h k e = absurd k
same_delta (kinds.Delta b) (kinds.Have w) h k e = absurd k
same_delta (kinds.Delta b) (kinds.Data d) h k e = absurd k
same_delta (kinds.Delta b) (kinds.Delta c) h k e = ap kinds.Delta (same_batch b c e)

few : (p : Packet) → IsDelta p → (0 < length (ops_of p)) × (length (ops_of p) ≤ 64)
few (kinds.Full b) h = absurd h
few (kinds.Have w) h = absurd h
few (kinds.Data d) h = absurd h
few (kinds.Delta b) h = (b.some, b.few)

first : (p : Packet) (ps : List Packet) → AreDeltas (p ∷ ps) → IsDelta p
first p [] h = h
first p (q ∷ ps) h = h.0

-- deltas of the same operations are the same: each but the last is full, and none is empty
pub one_cutting : (ps qs : List Packet) → AreDeltas ps → AreDeltas qs → flat_map ops_of ps ≡ flat_map ops_of qs
    → ps ≡ qs
one_cutting [] [] h k e = refl
one_cutting [] (q ∷ qs) h k e =
    let some = few q (first q qs k) in
    let long = ap length e in
    absurd (omega (arith, long, some.0, length-append (ops_of q) (flat_map ops_of qs)))
one_cutting (p ∷ ps) [] h k e =
    let some = few p (first p ps h) in
    let long = ap length e in
    absurd (omega (arith, long, some.0, length-append (ops_of p) (flat_map ops_of ps)))
one_cutting (p ∷ []) (q ∷ []) h k e =
    let one = same_delta p q h k (sym (append-nil (ops_of p)) ∙ e ∙ append-nil (ops_of q)) in
    λ i. one i ∷ []
one_cutting (p ∷ []) (q ∷ r ∷ qs) h k e =
    let some = few r (first r qs k.2) in
    let long = ap length e in
    absurd (omega (
      arith,
      long,
      (few p h).1,
      k.1,
      some.0,
      length-append (ops_of p) [],
      length-append (ops_of q) (ops_of r ++ flat_map ops_of qs),
      length-append (ops_of r) (flat_map ops_of qs),
    ))
one_cutting (p ∷ o ∷ ps) (q ∷ []) h k e =
    let some = few o (first o ps h.2) in
    let long = ap length e in
    absurd (omega (
      arith,
      long,
      (few q k).1,
      h.1,
      some.0,
      length-append (ops_of q) [],
      length-append (ops_of p) (ops_of o ++ flat_map ops_of ps),
      length-append (ops_of o) (flat_map ops_of ps),
    ))
one_cutting (p ∷ o ∷ ps) (q ∷ r ∷ qs) h k e =
    let left = flat_map ops_of (o ∷ ps) in
    let right = flat_map ops_of (r ∷ qs) in
    let front : ops_of p ≡ ops_of q = sym (take_at (ops_of p) left 64 h.1) ∙ ap (take 64) e ∙ take_at (ops_of q) right 64 k.1 in
    let rest : left ≡ right = sym (drop_at (ops_of p) left 64 h.1) ∙ ap (drop 64) e ∙ drop_at (ops_of q) right 64 k.1 in
    let one = same_delta p q h.0 k.0 front in
    let others = one_cutting (o ∷ ps) (r ∷ qs) h.2 k.2 rest in
    λ i. one i ∷ others i

-- ---- the first packets

-- so many deltas hold the first operations
cut : (most : ℕ) (ps : List Packet) → AreDeltas ps → AreInDeltas (take (64 * most) (flat_map ops_of ps)) (take most ps)
cut zero ps h = record { deltas = tt; whole = refl }
cut (suc m) [] h = record { deltas = tt; whole = sym (take-nil (64 * suc m)) }
cut (suc m) (p ∷ []) h =
    let alone : ◌≡◌ {A = List Packet} (take m []) [] = take-nil m in
    let all : take (64 * suc m) (ops_of p ++ []) ≡ ops_of p ++ [] = take_all (64 * suc m) (ops_of p ++ []) (omega (arith, (few p h).1, length-append (ops_of p) [])) in
    record {
      deltas = subst (λ l. AreDeltas (p ∷ l)) (sym alone) h;
      whole = ap (λ l. ops_of p ++ flat_map ops_of l) alone ∙ sym all;
    }
cut (suc m) (p ∷ q ∷ ps) h =
    let others = cut m (q ∷ ps) h.2 in
    let rest = flat_map ops_of (q ∷ ps) in
    let count : length (ops_of p) + 64 * m ≡ 64 * suc m = omega (arith, h.1) in
    record {
      deltas = with_first m others.deltas;
      whole = ap (λ l. ops_of p ++ l) others.whole ∙ sym (take-append-add (ops_of p) rest (64 * m)) ∙ ap (λ n. take n (ops_of p ++ rest)) count;
    }
  where
    with_first : (n : ℕ) → AreDeltas (take n (q ∷ ps)) → AreDeltas (p ∷ take n (q ∷ ps))
    with_first zero k = h.0
    with_first (suc n) k = (h.0, h.1, k)

pub one_way : (ops : List Op) (ps qs : List Packet) → AreInDeltas ops ps → AreInDeltas ops qs → ps ≡ qs
one_way ops ps qs h k = one_cutting ps qs h.deltas k.deltas (h.whole ∙ sym k.whole)

pub first_packets : (most : ℕ) (ops : List Op) (ps qs : List Packet) → AreInDeltas ops ps → AreInDeltas (take (64 * most) ops) qs → qs ≡ take most ps
first_packets most ops ps qs h k =
    let front = subst (λ l. AreInDeltas (take (64 * most) l) (take most ps)) h.whole (cut most ps h.deltas) in
    one_way (take (64 * most) ops) qs (take most ps) k front
