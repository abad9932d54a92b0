-- What an answer tells, and what a look came upon.
use Rattle.std.specs.Prelude.{◌≡◌, Bool, true, false, Option, None, Some, MatchOption, is_some, refl}
use Rattle.std.proofs.Common.{sym, subst}
use Rattle.std.proofs.lemmas.Bool.{false≢true}
use Rattle.fl_labels.specs.Found.{Tells}

pub told_yes : {P : Type 0} → P → Tells true P
told_yes p = record { holds = λ _. p; fails = λ never. absurd (false≢true (sym never)) }

pub told_no : {P : Type 0} → ¬ P → Tells false P
told_no n = record { holds = λ never. absurd (false≢true never); fails = λ _. n }

pub told : {P Q : Type 0} (b : Bool) → (P → Q) → (Q → P) → Tells b P → Tells b Q
told b to from t = record { holds = λ e. to (t.holds e); fails = λ e h. t.fails e (from h) }

module _ {T : Type 0} where
  pub came_some : (P : Type 0) (Q : T → Type 0) (o : Option T) (x : T) → o ≡ Some x → MatchOption o P Q → Q x
  came_some P Q o x e h = subst (λ r. MatchOption r P Q) e h

  pub came_none : (P : Type 0) (Q : T → Type 0) (o : Option T) → ((x : T) → o ≡ Some x → ⊥) → MatchOption o P Q → P
  came_none P Q None other h = h
  came_none P Q (Some x) other h = absurd (other x refl)

  pub came_nothing : (P : Type 0) (Q : T → Type 0) (o : Option T) → o ≡ None → MatchOption o P Q → P
  came_nothing P Q o e h = subst (λ r. MatchOption r P Q) e h

  -- whether a look came upon something tells Q where that shows it
  pub told_by : (Q : Type 0) (R : T → Type 0) (o : Option T) (b : Bool) → b ≡ is_some o → ((x : T) → R x → Q) → MatchOption o (¬ Q) R → Tells b Q
  told_by Q R None b e shows none = subst (λ t. Tells t Q) (sym e) (told_no none)
  told_by Q R (Some x) b e shows found = subst (λ t. Tells t Q) (sym e) (told_yes (shows x found))
