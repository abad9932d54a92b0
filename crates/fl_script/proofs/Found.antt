-- What is found, or bad.
use Rattle.std.proofs.Common.{◌≡◌, ◌∙◌, sym, subst, refl, Option, None, Some, Result, Ok, Err, ok_or, IfErr, IsErrAnd}
use Rattle.fl_labels.specs.Found.{Finds}
use Rattle.fl_script.specs.declared.unread.Unread.{Unread}
use Rattle.fl_script.specs.declared.unread.Unread.TheVariants.{Bad}
use Rattle.fl_script.specs.parts.Reads.{Reads, StarvesIf}

-- what is found is read, and else the words are bad
pub reads : {T : Type 0} (P : T → Type 0) (found : Option T) → Finds found P → Reads (ok_or found Bad) P
reads P (Some x) s = s
reads P None none = λ e. none

-- bad words are those of no value
pub none_read : {T : Type 0} (P : T → Type 0) (r : Result T Unread) → r ≡ Err Bad → Reads r P → (x : T) → P x → ⊥
none_read P r is h = subst (λ s. Reads s P) is h refl

-- an error that is passed on says as much of what was to be read
pub passed : {U : Type 0} {Q : U → Type 0} {N : Type 0} {e : Unread} (r : Result U Unread) → IsErrAnd r (λ x. x ≡ e) → (e ≡ Bad → N) → (N → (x : U) → Q x → ⊥) → Reads r Q
passed (Ok x) same h none = absurd same
passed (Err x) same h none = λ bad. none (h (sym same ∙ bad))

-- and as much of which error it is
pub passed_on : {U N M : Type 0} {e k : Unread} (r : Result U Unread) → IsErrAnd r (λ x. x ≡ e) → (e ≡ k → N) → (N → M) → IfErr r (λ x. x ≡ k → M)
passed_on (Ok x) same h more = tt
passed_on (Err x) same h more = λ is. more (h (sym same ∙ is))

-- where memory is refused only where P holds, and then Q does too
pub starves_as : {U P Q : Type 0} (r : Result U Unread) → StarvesIf r P → (P → Q) → StarvesIf r Q
starves_as (Ok x) h more = tt
starves_as (Err e) h more = λ memory. more (h memory)
