-- Beginnings of lists, as the history tells them and as equations.
use Rattle.std.proofs.Common.{◌≡◌, ℕ, ◌≤◌, nat_le, Bool, true, false, MatchBool, List, [], ◌∷◌, ◌++◌, length, take, refl, ap, sym, ◌∙◌, arith, append_assoc}
use Rattle.std.proofs.lemmas.List.{length-take, take-append-le, take-take}
use Rattle.std.proofs.Math.Seq.{take-length}
use Rattle.std.proofs.lemmas.Bool.Decides.{nat_tests}
use mathlib.Core.List.{IsPrefix}
use Rattle.fl_replica.specs.Boards.{StartsWith}
use Rattle.fl_replica.specs.parts.History.{ops_of}
use Rattle.fl_ops.specs.declared.op.Op.{Op}

-- a beginning as long as the whole is the whole
pub prefix_whole : {A : Type 0} (xs ys : List A) → IsPrefix xs ys → length ys ≤ length xs → xs ≡ ys
prefix_whole [] [] p le = refl
prefix_whole [] (y ∷ ys) p le = absurd (omega arith)
prefix_whole (x ∷ xs) [] p le = absurd (cc (p.1))
prefix_whole (x ∷ xs) (y ∷ ys) p le =
    let rest = prefix_whole xs ys (p.0, cc (p.1)) (omega arith) in cc (p.1, rest)

module _ {A : Type 0} where
  pub starts_whole : (xs : List A) → StartsWith xs xs
  starts_whole xs = take-length xs

  -- a beginning is no longer
  pub starts_length : (xs f : List A) → StartsWith xs f → length f ≤ length xs
  starts_length xs f e = omega (arith, ap length e, length-take (length f) xs)

  pub starts_longer : (xs more f : List A) → StartsWith xs f → StartsWith (xs ++ more) f
  starts_longer xs more f e = let fits = starts_length xs f e in take-append-le (length f) xs more fits ∙ e

  pub starts_more : (xs more : List A) → StartsWith (xs ++ more) xs
  starts_more xs more = starts_longer xs more xs (starts_whole xs)

  pub starts_trans : (xs ys zs : List A) → StartsWith xs ys → StartsWith ys zs → StartsWith xs zs
  starts_trans xs ys zs a b = let fits = starts_length ys zs b in
      sym (take-take (length zs) (length ys) xs fits) ∙ (ap (take (length zs)) a ∙ b)

  -- of two beginnings of one list the shorter begins the longer
  pub starts_shorter : (xs ys zs : List A) → StartsWith zs xs → StartsWith zs ys → length xs ≤ length ys → StartsWith ys xs
  starts_shorter xs ys zs a b le = ap (take (length xs)) (sym b) ∙ (take-take (length xs) (length ys) zs le ∙ a)

  -- a beginning that is as long is the whole
  pub starts_full : (xs f : List A) → StartsWith xs f → length f ≡ length xs → xs ≡ f
  starts_full xs f e n = sym (take-length xs) ∙ (ap (λ k. take k xs) (sym n) ∙ e)

pub ops_append : (xs ys : List (List Op)) → ops_of (xs ++ ys) ≡ ops_of xs ++ ops_of ys
ops_append [] ys = refl
ops_append (b ∷ bs) ys = ap (λ l. b ++ l) (ops_append bs ys) ∙ sym (append_assoc b (ops_of bs) (ops_of ys))

-- a beginning of the batches has a beginning of the operations
pub ops_start : (front log : List (List Op)) → IsPrefix front log → StartsWith (ops_of log) (ops_of front)
ops_start front log p =
    let whole : ops_of log ≡ ops_of front ++ ops_of p.0 = ap ops_of (sym p.1) ∙ ops_append front p.0 in
    ap (take (length (ops_of front))) whole ∙ starts_more (ops_of front) (ops_of p.0)

-- of two beginnings of one history one begins the other, and their lengths tell which
module _ (a b c : List (List Op)) (this : IsPrefix a c) (that : IsPrefix b c) where
  pub which_begins : (n m : ℕ) → n ≡ length (ops_of a) → m ≡ length (ops_of b) → MatchBool (nat_le n m) (StartsWith (ops_of b) (ops_of a)) (StartsWith (ops_of a) (ops_of b))
  which_begins n m p q = by (nat_le n m) refl
    where
      one : StartsWith (ops_of c) (ops_of a)
      one = ops_start a c this

      two : StartsWith (ops_of c) (ops_of b)
      two = ops_start b c that

      by : (t : Bool) → nat_le n m ≡ t → MatchBool t (StartsWith (ops_of b) (ops_of a)) (StartsWith (ops_of a) (ops_of b))
      by true e = let le : length (ops_of a) ≤ length (ops_of b) = grind (arith, nat_tests) in starts_shorter (ops_of a) (ops_of b) (ops_of c) one two le
      by false e = let le : length (ops_of b) ≤ length (ops_of a) = grind (arith, nat_tests) in starts_shorter (ops_of b) (ops_of a) (ops_of c) two one le
