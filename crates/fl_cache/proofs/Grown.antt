-- What a set still has after it grew.
use Rattle.std.specs.Prelude.{◌≡◌, Result, Ok, Err, OnOk, OnErr, Option, None, Some, IfSome}
use Rattle.std.proofs.Common.{sym, subst}
use Rattle.fl_labels.specs.Found.{Within}
use Rattle.fl_labels.specs.SetBy.{SetBy, In, union}
use Rattle.fl_ops.specs.OpOrder.{op_cmp}
use Rattle.fl_ops.specs.OpLaws.{op_total}
use Rattle.fl_opset.specs.laws.Unions.{union_upper}
use Rattle.fl_closure.specs.Witness.{IsWitness}
use Rattle.fl_closure.specs.declared.witness.Witness.{Witness}
use Rattle.fl_closure.specs.laws.Witnesses.{witness_more}
use Rattle.fl_cache.specs.parts.Known.{StillHolds}

-- after operations were added, or were refused
module _ (asked s new : SetBy op_cmp) (adding other : Option Witness) (holds : StillHolds asked adding other s) where
  on : Within (In s) (In new) → StillHolds asked adding other new
  on more = record {
    within = λ q h. more q (holds.within q h);
    adding_holds = seen adding holds.adding_holds;
    other_holds = seen other holds.other_holds;
  }
    where
      seen : (w : Option Witness) → IfSome w (IsWitness (In s)) → IfSome w (IsWitness (In new))
      seen None h = tt
      seen (Some w) h = witness_more w more h

  pub after_union : {E : Type 0} (ops : SetBy op_cmp) (r : Result (Unit {0}) E) → OnOk r (new ≡ union s ops) → OnErr r (new ≡ s) → StillHolds asked adding other new
  after_union ops (Ok done) ok err = on (λ q h. subst (λ (t : SetBy op_cmp). In t q) (sym ok) ((union_upper op_total s ops).0 q h))
  after_union ops (Err e) ok err = on (λ q h. subst (λ (t : SetBy op_cmp). In t q) (sym err) h)
