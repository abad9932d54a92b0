-- What is heard one time after another.
use Rattle.std.specs.Prelude.{◌≡◌, ◌+◌, ◌++◌, [], List, ℕ, Option, IfSome, length, refl}
use Rattle.std.proofs.Common.{◌∙◌, sym, ap, subst, None, Some, arith}
use Rattle.std.proofs.lemmas.List.{append_assoc, append-nil, length-append}
use Rattle.std.proofs.KnownBytes.{Consumes-nil, Consumes-trans}
use Rattle.std.specs.Io.KnownBytes.{append_known}
use Rattle.fl_stream.specs.Served.{Outgrows, CountsPast, plus_known}
use Rattle.fl_stream.specs.Intake.{Hears}

-- known bytes do not grow by none
pub append_known-nil : (h : Option (List ℕ)) → h ≡ append_known h []
append_known-nil None = refl
append_known-nil (Some x) = ap Some (sym (append-nil x))

-- known bytes grow twice
append_known-append : (h : Option (List ℕ)) (a b : List ℕ) → append_known (append_known h a) b ≡ append_known h (a ++ b)
append_known-append None a b = refl
append_known-append (Some x) a b = ap Some (append_assoc x a b)

-- a known number does not grow by none
plus_known-zero : (n : Option ℕ) → n ≡ plus_known n 0
plus_known-zero None = refl
plus_known-zero (Some n) = ap Some (omega arith)

-- a known number grows twice
plus_known-plus : (n : Option ℕ) (a b : ℕ) → plus_known (plus_known n a) b ≡ plus_known n (a + b)
plus_known-plus None a b = refl
plus_known-plus (Some n) a b = ap Some (omega arith)

-- known bytes grew, and then once more
pub grown_then : (h : Option (List ℕ)) {k j : Option (List ℕ)} (xs ys : List ℕ) → k ≡ append_known h xs → j ≡ append_known k ys → j ≡ append_known h (xs ++ ys)
grown_then h xs ys p q = q ∙ ap (λ x. append_known x ys) p ∙ append_known-append h xs ys

-- a known number grew, and then once more
counted_then : (n : Option ℕ) {o p : Option ℕ} (a b : ℕ) → o ≡ plus_known n a → p ≡ plus_known o b → p ≡ plus_known n (a + b)
counted_then n a b p q = q ∙ ap (λ x. plus_known x b) p ∙ plus_known-plus n a b

-- what is said of known bytes that grew
pub if_some_grown : (h k : Option (List ℕ)) (P : List ℕ → Type 0) (bytes : List ℕ) → k ≡ append_known h bytes → IfSome h (λ x. P (x ++ bytes)) → IfSome k P
if_some_grown None k P bytes e p = subst (λ y. IfSome y P) (sym e) tt
if_some_grown (Some x) k P bytes e p = subst (λ y. IfSome y P) (sym e) p

-- nothing was heard yet
pub hears_none : (r h : Option (List ℕ)) (n : Option ℕ) (room : ℕ) → Hears r r h h n n room room []
hears_none r h n room = record { consumed = Consumes-nil r; grown_by = append_known-nil h; counted_by = plus_known-zero n; fits = omega arith }

-- more was heard
pub hears_then : {r l m h k j : Option (List ℕ)} {n o p : Option ℕ} {room less least : ℕ} (xs ys : List ℕ)
    → Hears r l h k n o room less xs → Hears l m k j o p less least ys → Hears r m h j n p room least (xs ++ ys)
hears_then {r} {l} {m} {h} {k} {j} {n} {o} {p} xs ys a b = record {
  consumed = Consumes-trans r l m xs ys a.consumed b.consumed;
  grown_by = grown_then _ xs ys a.grown_by b.grown_by;
  counted_by = counted_then _ (length xs) (length ys) a.counted_by b.counted_by ∙ ap (plus_known n) (sym (length-append xs ys));
  fits = omega (arith, a.fits, b.fits, length-append xs ys);
}

-- more was heard than there was room for at first
pub outgrows_then : {r l h k j : Option (List ℕ)} {n o : Option ℕ} {room less : ℕ} (xs : List ℕ) → Hears r l h k n o room less xs → Outgrows less k j → Outgrows room h j
outgrows_then xs a b = record { bytes = xs ++ b.bytes; grown = grown_then _ xs b.bytes a.grown_by b.grown; many = omega (arith, a.fits, b.many, length-append xs b.bytes) }

pub counts_past_then : {r l h k : Option (List ℕ)} {n o p : Option ℕ} {room less : ℕ} (xs : List ℕ) → Hears r l h k n o room less xs → CountsPast less o p → CountsPast room n p
counts_past_then xs a b = record { more = length xs + b.more; counted = counted_then _ (length xs) b.more a.counted_by b.counted; many = omega (arith, a.fits, b.many) }
