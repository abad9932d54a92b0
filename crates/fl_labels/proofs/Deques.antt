-- What stands behind a front, as it changes.
use Rattle.std.proofs.Common.{arith, ℕ, zero, suc, ◌+◌, ◌-◌, ◌<◌, ◌≤◌, ◌≡◌, List, [], ◌∷◌, ◌++◌, length, take, drop, sym, ap, ◌∙◌, append_assoc}
use Rattle.std.specs.List.{insert, remove}
use Rattle.std.proofs.Math.Seq.{take-append_seam}
use Rattle.std.proofs.lemmas.List.{length-append, length-take, length-drop}

module _ {X : Type 0} where
  pub drop_insert : (b : ℕ) (xs : List X) (i : ℕ) (x : X) → b ≤ length xs → drop b (insert xs (b + i) x) ≡ insert (drop b xs) i x
  drop_insert zero xs i x h = ap (λ n. insert xs n x) (omega arith)
  drop_insert (suc b) [] i x h = absurd (omega (arith, h))
  drop_insert (suc b) (y ∷ ys) i x h =
      let next : suc b + i ≡ suc (b + i) = omega arith in
      ap (λ n. drop (suc b) (insert (y ∷ ys) n x)) next ∙ drop_insert b ys i x (omega (arith, h))

  pub drop_remove : (b : ℕ) (xs : List X) (i : ℕ) → b ≤ length xs → drop b (remove xs (b + i)) ≡ remove (drop b xs) i
  drop_remove zero xs i h = ap (λ n. remove xs n) (omega arith)
  drop_remove (suc b) [] i h = absurd (omega (arith, h))
  drop_remove (suc b) (y ∷ ys) i h =
      let next : suc b + i ≡ suc (b + i) = omega arith in
      ap (λ n. drop (suc b) (remove (y ∷ ys) n)) next ∙ drop_remove b ys i (omega (arith, h))

  -- one place of the front is given up, and what stands behind it, up to a place, moves there
  passed : (a p : ℕ) (xs : List X) (x : X) → a + suc p ≤ length xs
      → drop a (take a xs ++ ((drop 1 (take (suc p) (drop a xs)) ++ x ∷ []) ++ drop (suc p) (drop a xs))) ≡ insert (drop (suc a) xs) p x
  passed zero p [] x h = absurd (omega (arith, h))
  passed zero p (y ∷ ys) x h = append_assoc (take p ys) (x ∷ []) (drop p ys)
  passed (suc a) p [] x h = absurd (omega (arith, h))
  passed (suc a) p (y ∷ ys) x h = passed a p ys x (omega (arith, h))

  pub put_in_front : (b p : ℕ) (xs new : List X) (x : X) → 0 < b → b + p ≤ length xs
      → new ≡ drop 1 (take (b + p - (b - 1)) (drop (b - 1) xs)) ++ x ∷ []
      → drop (b - 1) (take (b - 1) xs ++ (new ++ drop (b + p - (b - 1)) (drop (b - 1) xs))) ≡ insert (drop b xs) p x
  put_in_front b p xs new x some fits is =
      let a = b - 1 in
      let more : b + p - a ≡ suc p = omega (arith, some) in
      let next : suc a ≡ b = omega (arith, some) in
      ap (λ l. drop a (take a xs ++ (l ++ drop (b + p - a) (drop a xs)))) is
      ∙ ap (λ n. drop a (take a xs ++ ((drop 1 (take n (drop a xs)) ++ x ∷ []) ++ drop n (drop a xs)))) more
      ∙ passed a p xs x (omega (arith, some, fits))
      ∙ ap (λ n. insert (drop n xs) p x) next

  -- nothing is gained or lost by that
  pub as_long : (b p : ℕ) (xs new : List X) (x : X) → 0 < b → b + p ≤ length xs
      → new ≡ drop 1 (take (b + p - (b - 1)) (drop (b - 1) xs)) ++ x ∷ []
      → length (take (b - 1) xs ++ (new ++ drop (b + p - (b - 1)) (drop (b - 1) xs))) ≡ length xs
  as_long b p xs new x some fits is =
      let a = b - 1 in
      let k = b + p - a in
      let mid = take k (drop a xs) in
      let all = length-append (take a xs) (new ++ drop k (drop a xs)) in
      let behind = length-append new (drop k (drop a xs)) in
      let front = length-take a xs in
      let rest = length-drop a xs in
      let last = length-drop k (drop a xs) in
      let moved = length-drop 1 mid in
      let some_of = length-take k (drop a xs) in
      let come = ap length is ∙ length-append (drop 1 mid) (x ∷ []) in
      omega (arith, all, behind, front, rest, last, moved, some_of, come, some, fits)

  -- items that are written over as many
  pub written_over : (n : ℕ) (xs ys : List X) → length xs ≡ n → take n (xs ++ ys) ≡ xs
  written_over n xs ys same = ap (λ m. take m (xs ++ ys)) (sym same) ∙ take-append_seam xs ys
