-- The first login of a name.
use Rattle.std.specs.Prelude.{◌≡◌, ◌↔◌, refl, false, Option, Some, None}
use Rattle.std.proofs.Common.{sym, ap, ◌∙◌}
use Rattle.std.specs.declared.cmp.Ordering.{Ordering}
use Rattle.std.specs.declared.cmp.Ordering.TheVariants.{Less, Equal, Greater}
use Rattle.std.specs.Ordering.{is_gt, ordering_reverse}
use Rattle.fl_labels.specs.declared.name.Name.{Name}
use Rattle.fl_labels.specs.declared.cap.Cap.{Cap}
use Rattle.fl_ops.specs.declared.digest.Digest.{Digest}
use Rattle.fl_ops.specs.declared.op.Body.{Body}
use Rattle.fl_ops.specs.declared.op.Body.TheVariants.{MakeLogin}
use Rattle.fl_ops.specs.declared.op.Op.{Op}
use Rattle.fl_ops.specs.OpOrder.{op_cmp}
use Rattle.fl_ops.specs.OpLaws.{op_total, op_exact}
use Rattle.fl_ops.specs.Registry.{Registry, login_op}
use Rattle.fl_ops.specs.Logins.{IsFirstLogin, HasNoLogin, FindsLogin}

tie : (r : Ordering) → is_gt r ≡ false → is_gt (ordering_reverse r) ≡ false → r ≡ Equal
tie Less low high = absurd (cc)
tie Equal low high = refl
tie Greater low high = absurd (cc)

-- operations of which neither is above the other are equal
level : (a b : Op) → is_gt (op_cmp a b) ≡ false → is_gt (op_cmp b a) ≡ false → a ≡ b
level a b low high = op_exact a b (tie _ low (ap is_gt (sym (op_total.antisymm b a)) ∙ high))

cap_of : Cap → Body → Cap
cap_of c (MakeLogin d digest) = d
cap_of c other = c

digest_of : Digest → Body → Digest
digest_of x (MakeLogin c digest) = digest
digest_of x other = x

-- a name has one first login
pub one_first : (U : Registry) (login : Name) (c d : Cap) (x y : Digest) → IsFirstLogin U login c x
    → IsFirstLogin U login d y → (c ≡ d) × (x ≡ y)
unfolding cap_of digest_of
one_first U login c d x y first second =
    let same = level (login_op login c x) (login_op login d y) (first.least d y second.member)
    (second.least c x first.member) in
    (ap (λ (op : Op). cap_of c op.body) same, ap (λ (op : Op). digest_of x op.body) same)

-- registries with the same operations have the same first login of a name, or both have none
module _ {U V : Registry} (same : (op : Op) → U op ↔ V op) (login : Name) where
  pub first_kept : (c : Cap) (digest : Digest) → IsFirstLogin U login c digest
      → IsFirstLogin V login c digest
  first_kept c digest first = record {
    member = (same _).0 first.member;
    least = λ d other h. first.least d other ((same _).1 h);
  }

  pub none_kept : HasNoLogin U login → HasNoLogin V login
  none_kept none c digest h = none c digest ((same _).1 h)

  pub answer_kept : (r : Option (Cap × Digest)) → FindsLogin U login r → FindsLogin V login r
  answer_kept None h = none_kept h
  answer_kept (Some l) h = first_kept l.0 l.1 h
