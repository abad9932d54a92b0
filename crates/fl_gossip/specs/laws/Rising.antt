-- What a packet brings rises.
use Rattle.std.proofs.Common.{◌≡◌, List, [], ◌∷◌, not, sym, ap, subst, Ordering, Less}
use Rattle.std.specs.List.{AllByRecursion}
use Rattle.std.specs.List.Sorted.{IsStrictlySortedBy}
use Rattle.std.specs.Ordering.{nat_cmp, ordering_then}
use Rattle.std.specs.Cmp.Lexicographic.{slice_cmp}
use Rattle.std.proofs.lemmas.List.Kept.{IsStrictlySortedBy-filter}
use Rattle.fl_labels.specs.SetBy.{SetBy, contains}
use Rattle.fl_ops.specs.declared.op.Op.{Op}
use Rattle.fl_ops.specs.OpOrder.{op_cmp, body_key}
use Rattle.fl_wire.specs.NameOrder.{by_name}
use Rattle.fl_wire.specs.declared.packet.Packet.{Packet}
use Rattle.fl_wire.specs.declared.packet.Packet.TheVariants.{Full, Have, Delta, Data}
use Rattle.fl_gossip.specs.Taking.{ops_of, AreTaken}

-- operations of greater names are greater
all_above : (x : Op) (ys : List Op) → AllByRecursion (λ y. by_name x y ≡ Less) ys → AllByRecursion (λ y. op_cmp x y ≡ Less) ys
all_above x [] h = tt
all_above x (y ∷ ys) h = (
  ap (λ (o : Ordering). ordering_then o (slice_cmp nat_cmp (body_key x.body) (body_key y.body))) h.0,
  all_above x ys h.1,
)

names_rise : (ops : List Op) → IsStrictlySortedBy by_name ops → IsStrictlySortedBy op_cmp ops
unfolding IsStrictlySortedBy
names_rise [] h = tt
names_rise (x ∷ xs) h = (all_above x xs h.0, names_rise xs h.1)

-- the operations of a packet rise
pub brought_rise : (packet : Packet) → IsStrictlySortedBy op_cmp (ops_of packet)
unfolding IsStrictlySortedBy
brought_rise (Full b) = names_rise b.ops b.rising
brought_rise (Have w) = tt
brought_rise (Delta b) = names_rise b.ops b.rising
brought_rise (Data d) = tt

-- and so do those that are taken
pub taken_rise : (me : _) (saved : SetBy op_cmp) (packet : Packet) (new : List Op) → AreTaken me saved (ops_of packet) new → IsStrictlySortedBy op_cmp new
taken_rise me saved packet new taken =
    subst (IsStrictlySortedBy op_cmp) (sym taken.lacked) (IsStrictlySortedBy-filter op_cmp (λ op. not (contains saved op)) (ops_of packet) (brought_rise packet))
