-- A check has one verdict.
use Rattle.std.proofs.Common.{◌≡◌, ◌∙◌, inl, inr, refl, sym, ap, subst, Option, Some, None}
use Rattle.std.specs.Prelude.{false}
use Rattle.std.specs.Cmp.{IsTotalOrder}
use Rattle.std.specs.FinMap.{IsAntisymmetric}
use Rattle.std.specs.declared.cmp.Ordering.{Ordering}
use Rattle.std.specs.declared.cmp.Ordering.TheVariants.{Less, Equal, Greater}
use Rattle.std.specs.Ordering.{is_gt, ordering_reverse}
use Rattle.fl_labels.specs.Found.{IsLeastOutside}
use Rattle.fl_jobs.specs.declared.answer.Refusal.{Refusal}
use Rattle.fl_bench.specs.Checks.{Check, ◌then◌, demand, with, with_found}

abbrev pub OneVerdict : Check → Type 0
OneVerdict check = (v w : Option Refusal) → check v → check w → v ≡ w

-- a check that says its verdict
pub one_said : {verdict : Option Refusal} → OneVerdict (λ v. v ≡ verdict)
one_said v w h k = h ∙ sym k

none_found : {f : Refusal} → None ≡ Some f → ⊥
none_found e = cc

pub one_then : (first second : Check) → OneVerdict first → OneVerdict second
    → OneVerdict (first then second)
one_then first second one two None None h k = refl
one_then first second one two None (Some g) h (inl k) =
    absurd (none_found (one None (Some g) h.0 k))
one_then first second one two None (Some g) h (inr k) = two None (Some g) h.1 k.1
one_then first second one two (Some f) None (inl h) k =
    absurd (none_found (one None (Some f) k.0 h))
one_then first second one two (Some f) None (inr h) k = two (Some f) None h.1 k.1
one_then first second one two (Some f) (Some g) (inl h) (inl k) = one (Some f) (Some g) h k
one_then first second one two (Some f) (Some g) (inl h) (inr k) =
    absurd (none_found (one None (Some f) k.0 h))
one_then first second one two (Some f) (Some g) (inr h) (inl k) =
    absurd (none_found (one None (Some g) h.0 k))
one_then first second one two (Some f) (Some g) (inr h) (inr k) = two (Some f) (Some g) h.1 k.1

module _ {K : Type 0} {R : K → K → Ordering} (total : IsTotalOrder R) (exact : IsAntisymmetric R)
  where
    -- of two least offenders each is no greater than the other
    pub one_least : {P Q : K → Type 0} (x y : K) → IsLeastOutside R P Q x → IsLeastOutside R P Q y
        → x ≡ y
    one_least x y h k =
        exact x y (tied (R x y) (R y x) (total.antisymm x y) (h.least y k.member k.lacking)
        (k.least x h.member h.lacking))
      where
        tied : (o p : Ordering) → o ≡ ordering_reverse p → is_gt o ≡ false → is_gt p ≡ false
            → o ≡ Equal
        tied Equal p e g l = refl
        tied Greater p e g l = absurd (cc)
        tied Less Less e g l = absurd (cc)
        tied Less Equal e g l = absurd (cc)
        tied Less Greater e g l = absurd (cc)

    pub one_demand : (P Q : K → Type 0) (refusal : K → Refusal) → OneVerdict (demand R P Q refusal)
    one_demand P Q refusal None None h k = refl
    one_demand P Q refusal None (Some g) h k = absurd (k.2.lacking (h k.0 k.2.member))
    one_demand P Q refusal (Some f) None h k = absurd (h.2.lacking (k h.0 h.2.member))
    one_demand P Q refusal (Some f) (Some g) h k =
        ap Some (h.1 ∙ ap refusal (one_least h.0 k.0 h.2 k.2) ∙ sym k.1)

pub one_with : {A : Type 0} (found : Option A) (f : Refusal) (more : A → Check)
    → ((x : A) → OneVerdict (more x)) → OneVerdict (with found f more)
one_with None f more one = one_said
one_with (Some x) f more one = one x

-- where one value is found
pub one_with_found : {A : Type 0} (Finds : Option A → Type 0) (f : Refusal) (more : A → Check)
    → ((a b : Option A) → Finds a → Finds b → a ≡ b) → ((x : A) → OneVerdict (more x))
    → OneVerdict (with_found Finds f more)
one_with_found Finds f more single one v w h k =
    one_with k.0 f more one v w (subst (λ o. with o f more v) (single h.0 k.0 h.1 k.1) h.2) k.2
