-- What is in effect stays the same.
use Rattle.std.specs.Prelude.{◌≡◌, ◌↔◌, List}
use Rattle.std.proofs.Common.{sym, subst}
use Rattle.fl_labels.specs.Cap.{cap_cmp}
use Rattle.fl_labels.specs.SetBy.{SetBy, In}
use Rattle.fl_labels.specs.declared.cap.Cap.{Cap}
use Rattle.fl_ops.specs.declared.op.Op.{Op}
use Rattle.fl_ops.specs.Registry.{InEffect, Listed}

-- the same owner has the same under the same list
one_way : (xs ys : List Op) (s t : SetBy cap_cmp) → xs ≡ ys → s ≡ t → (c : Cap) → InEffect (Listed xs) (In s) c
    → InEffect (Listed ys) (In t) c
one_way xs ys s t e f c h =
    subst (λ l. InEffect (Listed l) (In t) c) e (subst (λ o. InEffect (Listed xs) (In o) c) f h)

pub same_effective : (xs ys : List Op) (s t : SetBy cap_cmp) → xs ≡ ys → s ≡ t → (c : Cap)
    → InEffect (Listed xs) (In s) c ↔ InEffect (Listed ys) (In t) c
same_effective xs ys s t e f c = (one_way xs ys s t e f c, one_way ys xs t s (sym e) (sym f) c)
