-- What a window lacks rises by its names, and so stands in deltas.
use Rattle.std.proofs.Common.{◌≡◌, ◌<◌, ◌≤◌, ◌⊎◌, inl, inr, ℕ, zero, suc, refl, sym, ap, subst, ◌∙◌, arith}
use Rattle.std.proofs.Common.{List, [], ◌∷◌, ◌++◌, length, take, drop, append-nil, Ordering, Less, Equal, Greater}
use Rattle.std.specs.Cmp.{tied_itself}
use Rattle.std.specs.List.{Contains, flat_map, AllByRecursion}
use Rattle.std.specs.List.Sorted.{IsStrictlySortedBy}
use Rattle.std.specs.Ordering.{ordering_then}
use Rattle.std.proofs.lemmas.Bool.{cases_lt}
use Rattle.std.proofs.lemmas.List.{take-append-drop, length-take-le, length-drop}
use Rattle.std.proofs.lemmas.List.Elements.{recursion_from_All, All-contains_itself}
use Rattle.std.proofs.lemmas.List.Kept.{IsStrictlySortedBy-filter}
use Rattle.fl_labels.specs.NameOrder.{name_exact}
use Rattle.fl_labels.specs.SetBy.{SetBy, In, members, members_rise}
use Rattle.fl_ops.specs.declared.op.Op.{Op}
use Rattle.fl_ops.specs.OpOrder.{op_cmp}
use Rattle.fl_ops.specs.OpLaws.{op_total}
use Rattle.fl_opset.specs.declared.intervals.Intervals.{Intervals}
use Rattle.fl_opset.specs.Catching.{HaveNoClash}
use Rattle.fl_opset.specs.Windows.{is_lacking, lacking}
use Rattle.fl_opset.specs.laws.Members.{lacking_member}
use Rattle.fl_wire.specs.declared.packet.Packet.{Packet}
use Rattle.fl_wire.specs.declared.packet.Packet.TheVariants as kinds
use Rattle.fl_wire.specs.NameOrder.{by_name}
use Rattle.fl_gossip.specs.Taking.{ops_of}
use Rattle.fl_gossip.specs.Replying.{IsDelta, AreDeltas, AreInDeltas}

-- what rises, in part
module _ {K : Type 0} (R : K → K → Ordering) where
  all_front : (P : K → Type 0) (xs ys : List K) → AllByRecursion P (xs ++ ys) → AllByRecursion P xs
  all_front P [] ys h = tt
  all_front P (x ∷ xs) ys h = (h.0, all_front P xs ys h.1)

  pub front_rises : (xs ys : List K) → IsStrictlySortedBy R (xs ++ ys) → IsStrictlySortedBy R xs
  unfolding IsStrictlySortedBy
  front_rises [] ys h = tt
  front_rises (x ∷ xs) ys h = (all_front (λ y. R x y ≡ Less) xs ys h.0, front_rises xs ys h.1)

  pub back_rises : (xs ys : List K) → IsStrictlySortedBy R (xs ++ ys) → IsStrictlySortedBy R ys
  unfolding IsStrictlySortedBy
  back_rises [] ys h = h
  back_rises (x ∷ xs) ys h = back_rises xs ys h.1

-- of operations with a name of their own each, the names rise where the operations do
module _ (U : Op → Type 0) (single : HaveNoClash U U) where
  not_less : (x : Op) → op_cmp x x ≡ Less → ⊥
  not_less x h = let e : op_cmp x x ≡ Equal = tied_itself op_total x in cc

  by_level : (x y : Op) (o p : Ordering) → by_name x y ≡ o → ordering_then o p ≡ Less → (o ≡ Equal → ⊥) → by_name x y ≡ Less
  by_level x y Less p e h not_same = e
  by_level x y Equal p e h not_same = absurd (not_same refl)
  by_level x y Greater p e h not_same = absurd (cc)

  name_less : (x y : Op) → U x → U y → op_cmp x y ≡ Less → by_name x y ≡ Less
  name_less x y ux uy h = by_level x y (by_name x y) _ refl h (λ tie. not_less x (ap (op_cmp x) (single x y ux uy (name_exact x.name y.name tie)) ∙ h))

  names_above : (x : Op) (ys : List Op) → U x → AllByRecursion U ys → AllByRecursion (λ y. op_cmp x y ≡ Less) ys → AllByRecursion (λ y. by_name x y ≡ Less) ys
  names_above x [] ux us h = tt
  names_above x (y ∷ ys) ux us h = (name_less x y ux us.0 h.0, names_above x ys ux us.1 h.1)

  pub names_rise : (xs : List Op) → AllByRecursion U xs → IsStrictlySortedBy op_cmp xs → IsStrictlySortedBy by_name xs
  unfolding IsStrictlySortedBy
  names_rise [] us h = tt
  names_rise (x ∷ xs) us h = (names_above x xs us.0 us.1 h.0, names_rise xs us.1 h.1)

all_weaker : (P Q : Op → Type 0) → ((x : Op) → P x → Q x) → (xs : List Op) → AllByRecursion P xs → AllByRecursion Q xs
all_weaker P Q f [] h = tt
all_weaker P Q f (x ∷ xs) h = (f x h.0, all_weaker P Q f xs h.1)

pub lacking_rises : (s : SetBy op_cmp) (w : Intervals) → HaveNoClash (In s) (In s) → IsStrictlySortedBy by_name (lacking s w)
lacking_rises s w single =
    let all = all_weaker (Contains (lacking s w)) (In s) (lacking_member s w) (lacking s w) (recursion_from_All (Contains (lacking s w)) (lacking s w) (All-contains_itself (lacking s w))) in
    names_rise (In s) single (lacking s w) all (IsStrictlySortedBy-filter op_cmp (is_lacking w) (members s) (members_rise s))

-- ---- what rises by its names stands in deltas

abbrev delta : (ops : List Op) → 0 < length ops → length ops ≤ 64 → IsStrictlySortedBy by_name ops → Packet
delta ops some few up = kinds.Delta (record { ops = ops; some = some; few = few; rising = up })

with_full : (p : Packet) (ps : List Packet) → IsDelta p → length (ops_of p) ≡ 64 → AreDeltas ps → AreDeltas (p ∷ ps)
with_full p [] is long h = is
with_full p (q ∷ ps) is long h = (is, long, h)

-- one full delta before those of the rest
cut_more : (ops : List Op) → 64 < length ops → IsStrictlySortedBy by_name (take 64 ops) → (packets : List Packet) × AreInDeltas (drop 64 ops) packets
    → (packets : List Packet) × AreInDeltas ops packets
cut_more ops more up rest =
    let long : length (take 64 ops) ≡ 64 = length-take-le 64 ops (omega (arith, more)) in
    let first = delta (take 64 ops) (omega (arith, long)) (omega (arith, long)) up in (
      first ∷ rest.0,
      record {
        deltas = with_full first rest.0 tt long rest.1.deltas;
        whole = ap (λ l. take 64 ops ++ l) rest.1.whole ∙ take-append-drop 64 ops;
      },
    )

one_less : (n : ℕ) (ops : List Op) → length ops ≤ suc n → length (drop 64 ops) ≤ n
one_less n ops short = omega (arith, length-drop 64 ops, short)

parted : (ops : List Op) → IsStrictlySortedBy by_name ops → IsStrictlySortedBy by_name (take 64 ops ++ drop 64 ops)
parted ops up = subst (IsStrictlySortedBy by_name) (sym (take-append-drop 64 ops)) up

-- of no more than so many operations
cut_within : (n : ℕ) (ops : List Op) → length ops ≤ n → IsStrictlySortedBy by_name ops → (packets : List Packet) × AreInDeltas ops packets
cut_within n [] short up = ([], record { deltas = tt; whole = refl })
cut_within zero (op ∷ ops) short up = absurd (omega (arith, short))
cut_within (suc n) (op ∷ ops) short up = elim (cases_lt 64 (length (op ∷ ops))) [
  | inl more ↦
      let halves = parted (op ∷ ops) up in
      cut_more (op ∷ ops) more (front_rises by_name (take 64 (op ∷ ops)) (drop 64 (op ∷ ops)) halves)
      (cut_within n (drop 64 (op ∷ ops)) (one_less n (op ∷ ops) short) (back_rises by_name (take 64 (op ∷ ops)) (drop 64 (op ∷ ops)) halves))
  | inr few ↦ (delta (op ∷ ops) (omega arith) few up ∷ [], record { deltas = tt; whole = append-nil (op ∷ ops) })
]

-- so a reply to a window can be had
pub lacking_in_deltas : (s : SetBy op_cmp) (w : Intervals) → HaveNoClash (In s) (In s) → (packets : List Packet) × AreInDeltas (lacking s w) packets
lacking_in_deltas s w single = cut_within (length (lacking s w)) (lacking s w) (omega arith) (lacking_rises s w single)
