-- Checks. A check passes (None), or finds why a job is refused.
use Rattle.std.specs.Prelude.{◌≡◌, ◌⊎◌, Bool, cond}
use Rattle.std.specs.declared.cmp.Ordering.{Ordering}
use Rattle.std.specs.declared.option.Option.{Option}
use Rattle.std.specs.declared.option.Option.TheVariants.{None, Some}
use Rattle.fl_labels.specs.Found.{Within, IsLeastOutside}
use Rattle.fl_jobs.specs.declared.answer.Refusal.{Refusal}

abbrev pub Check : Type 1
Check = Option Refusal → Type 0

-- the first check, and where it passes the second
infixr 20 ◌then◌
abbrev pub ◌then◌ : Check → Check → Check
◌then◌ first second None = first None × second None
◌then◌ first second (Some f) = first (Some f) ⊎ (first None × second (Some f))

-- passes always
abbrev pub no_check : Check
no_check verdict = verdict ≡ None

-- fails always
abbrev pub fails : Refusal → Check
fails f verdict = verdict ≡ Some f

-- fails just where the test is true
abbrev pub refuse_if : Bool → Refusal → Check
refuse_if test f verdict = verdict ≡ cond test (Some f) None

-- passes where P is within Q, and else names the least offender
abbrev pub demand : {K : Type 0} → (K → K → Ordering) → (K → Type 0) → (K → Type 0) → (K → Refusal) → Check
demand R P Q refusal None = Within P Q
demand {K} R P Q refusal (Some f) = (x : K) × (f ≡ refusal x) × IsLeastOutside R P Q x

-- fails where there is no value, and else goes on with it
abbrev pub with : {A : Type 0} → Option A → Refusal → (A → Check) → Check
with None f more = fails f
with (Some x) f more = more x

-- the same, with the value that is found so
abbrev pub with_found : {A : Type 0} → (Option A → Type 0) → Refusal → (A → Check) → Check
with_found {A} Finds f more verdict = (found : Option A) × Finds found × with found f more verdict
