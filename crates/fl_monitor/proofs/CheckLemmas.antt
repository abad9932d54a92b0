-- What checks that were made tell.
use Rattle.std.proofs.Common.{◌≡◌, ◌∙◌, inl, inr, refl, sym, ap, subst, Bool, true, false, cond, Option, Some, None, Result, Ok, Err}
use Rattle.std.specs.Prelude.{not, IfErr}
use Rattle.std.specs.Result.{IsErr, IsErrAnd}
use Rattle.std.specs.FinMap as map
use Rattle.fl_labels.specs.Caps.{Caps}
use Rattle.fl_labels.specs.declared.endpoint.Endpoint.{Endpoint}
use Rattle.fl_rules.specs.declared.labels.Labels.{Labels}
use Rattle.fl_mailbox.specs.Endpoints.{Table}
use Rattle.fl_jobs.specs.declared.answer.Refusal.{Refusal}
use Rattle.fl_bench.specs.Guards.{endpoints_check}
use Rattle.fl_bench.specs.Checks.{Check, refuse_if, with, ◌then◌}
use Rattle.fl_monitor.specs.parts.Checked.{Checked}

same_refusal : {T : Type 0} {f g : Refusal} → ◌≡◌ {A = Result T Refusal} (Err f) (Err g) → f ≡ g
same_refusal {f} e = ap (λ r. elim r [ Ok u ↦ f | Err g ↦ g ]) e

module _ {check : Check} where
  -- what was refused failed
  pub has_failed : {r : Result (Unit {0}) Refusal} → Checked check r → (f : Refusal) → r ≡ Err f → check (Some f)
  has_failed (Checked.passed h) f e = absurd (cc)
  has_failed (Checked.failed h) f e = subst (λ g. check (Some g)) (same_refusal e) h

  -- what was let through passed
  pub has_passed : {r : Result (Unit {0}) Refusal} → Checked check r → (u : Unit {0}) → r ≡ Ok u → check None
  has_passed (Checked.passed h) u e = h
  has_passed (Checked.failed h) u e = absurd (cc)

-- a refusal that `?` passes on
pub passed_on : {T : Type 0} (r : Result T Refusal) (f : Refusal) → IsErr r × IsErrAnd r (λ g. g ≡ f) → r ≡ Err f
passed_on (Ok x) f h = absurd h.1
passed_on (Err g) f h = ap Err h.1

-- a check that fails, whose refusal is passed on
pub stops : (check : Check) (f : Refusal) → check (Some f) → (q : Result (Unit {0}) Refusal) → IsErr q × IsErrAnd q (λ g. g ≡ f) → Checked check q
stops check f h q s = subst (Checked check) (sym (passed_on q f s)) (Checked.failed h)

-- of a refusal that is passed on, what was said of it
pub err_is : {T : Type 0} (P : Refusal → Type 0) (f : Refusal) → P f → (q : Result T Refusal) → IsErr q × IsErrAnd q (λ g. g ≡ f) → IfErr q P
err_is P f h (Ok x) s = tt
err_is P f h (Err g) s = subst P (sym s.1) h

-- one check after another
module _ (first second : Check) where
  pub then_stops : {r : Result (Unit {0}) Refusal} → Checked first r → (f : Refusal) → r ≡ Err f → (q : Result (Unit {0}) Refusal) → IsErr q × IsErrAnd q (λ g. g ≡ f) → Checked (first then second) q
  then_stops h f e q s = stops (first then second) f (inl (has_failed h f e)) q s

  pub then_goes_on : {r : Result (Unit {0}) Refusal} → first None → Checked second r → Checked (first then second) r
  then_goes_on p (Checked.passed h) = Checked.passed (p, h)
  then_goes_on p (Checked.failed h) = Checked.failed (inr (p, h))

-- a test that was made
module _ (f : Refusal) (test told : Bool) (is : told ≡ test) where
  pub refuses_if : told ≡ true → refuse_if test f (Some f)
  refuses_if e = sym (ap (λ b. cond b (Some f) None) (sym is ∙ e))

  pub passes_if : told ≡ false → refuse_if test f None
  passes_if e = sym (ap (λ b. cond b (Some f) None) (sym is ∙ e))

  pub refuses_unless : told ≡ false → refuse_if (not test) f (Some f)
  refuses_unless e = sym (ap (λ b. cond (not b) (Some f) None) (sym is ∙ e))

  pub passes_unless : told ≡ true → refuse_if (not test) f None
  passes_unless e = sym (ap (λ b. cond (not b) (Some f) None) (sym is ∙ e))

-- a check of a value that is not there, and of one that is
pub fails_without : {A : Type 0} (found : Option A) (f : Refusal) (more : A → Check) → found ≡ None → with found f more (Some f)
fails_without found f more e = subst (λ o. with o f more (Some f)) (sym e) refl

pub fails_so : {A : Type 0} (found : Option A) (f g : Refusal) (more : A → Check) → f ≡ g → found ≡ None → with found g more (Some f)
fails_so found f g more same e = subst (λ f. with found g more (Some f)) (sym same) (fails_without found g more e)

pub goes_on_with : {A : Type 0} (found : Option A) (f : Refusal) (more : A → Check) (x : A) → found ≡ Some x → (verdict : Option Refusal) → more x verdict → with found f more verdict
goes_on_with found f more x e verdict h = subst (λ o. with o f more verdict) (sym e) h

pub checks_with : {A : Type 0} (found : Option A) (f : Refusal) (more : A → Check) (x : A) → found ≡ Some x → {r : Result (Unit {0}) Refusal} → Checked (more x) r → Checked (with found f more) r
checks_with found f more x e {r} h = subst (λ o. Checked (with o f more) r) (sym e) h

-- where no endpoint is open, all of them are safe
pub nothing_open : (E : Caps) (process : Labels) (table : Table) → ((e : Endpoint) → map.get table e ≡ None) → endpoints_check E process table None
nothing_open E process table closed x (opened, there, crosses) = let e = closed x.endpoint in absurd (cc)
