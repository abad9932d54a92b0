-- The order of chains, step by step.
use Rattle.std.specs.Prelude.{◌≡◌, ◌<◌, false, ℕ, List, [], ◌∷◌, ◌++◌, length, map, refl}
use Rattle.std.proofs.Common.{ap, ◌∙◌, arith}
use Rattle.std.specs.Cmp.{ranks}
use Rattle.std.specs.Cmp.Lexicographic.{slice_cmp}
use Rattle.std.specs.Ordering.{nat_cmp, ordering_then, is_gt, MatchOrdering}
use Rattle.std.specs.declared.cmp.Ordering.{Ordering}
use Rattle.std.specs.declared.cmp.Ordering.TheVariants.{Less, Equal, Greater}
use Rattle.fl_labels.specs.declared.cap.Cap.{Cap}
use Rattle.fl_labels.specs.Cap.{cap_cmp}
use Rattle.fl_labels.specs.Name.{name_cmp}
use Rattle.fl_chains.specs.declared.step.Step.{Step}
use Rattle.fl_chains.specs.Chain.{path_of, names_of, path_cmp}

then_itself : (o : Ordering) → ordering_then o Equal ≡ o
then_itself Less = refl
then_itself Equal = refl
then_itself Greater = refl

then_again : (a b c : Ordering)
    → ordering_then a (ordering_then b c) ≡ ordering_then (ordering_then a b) c
then_again Less b c = refl
then_again Equal b c = refl
then_again Greater b c = refl

-- one more at the end of lists of one length
push_cmp : {K : Type 0} (R : K → K → Ordering) (xs ys : List K) (x y : K) → length xs ≡ length ys
    → slice_cmp R (xs ++ x ∷ []) (ys ++ y ∷ []) ≡ ordering_then (slice_cmp R xs ys) (R x y)
push_cmp R [] [] x y e = then_itself (R x y)
push_cmp R [] (b ∷ ys) x y e = absurd (omega (arith, e))
push_cmp R (a ∷ xs) [] x y e = absurd (omega (arith, e))
push_cmp R (a ∷ xs) (b ∷ ys) x y e =
    ap (ordering_then (R a b)) (push_cmp R xs ys x y (omega (arith, e)))
    ∙ then_again (R a b) (slice_cmp R xs ys) (R x y)

map_push : {A B : Type 0} (f : A → B) (xs : List A) (x : A)
    → map f (xs ++ x ∷ []) ≡ map f xs ++ f x ∷ []
map_push f [] x = refl
map_push f (y ∷ xs) x = ap (λ l. f y ∷ l) (map_push f xs x)

length_map : {A B : Type 0} (f : A → B) (xs : List A) → length (map f xs) ≡ length xs
length_map f [] = refl
length_map f (x ∷ xs) = let e = length_map f xs in omega arith

-- by what was before, then by the capability, and by the name at the very end
joined : (A B a b g : Ordering) → is_gt (ordering_then A B) ≡ false
    → (A ≡ Equal → is_gt (ordering_then a (ordering_then b g)) ≡ false)
    → is_gt (ordering_then (ordering_then A a) (ordering_then B b)) ≡ false
joined Less B a b g h last = refl
joined Equal Less Less b g h last = refl
joined Equal Less Equal b g h last = refl
joined Equal Less Greater b g h last = last refl
joined Equal Equal Less b g h last = refl
joined Equal Equal Equal Less g h last = refl
joined Equal Equal Equal Equal g h last = refl
joined Equal Equal Equal Greater g h last = last refl
joined Equal Equal Greater b g h last = last refl
joined Equal Greater a b g h last = absurd (cc)
joined Greater B a b g h last = absurd (cc)

module _ (root other : Cap) (steps others : List Step) (s t : Step)
    (same : length others ≡ length steps) where
  path_push : slice_cmp cap_cmp (path_of root (steps ++ s ∷ [])) (path_of other (others ++ t ∷ []))
      ≡ ordering_then (slice_cmp cap_cmp (path_of root steps) (path_of other others))
      (cap_cmp s.cap t.cap)
  path_push =
      let a = length_map (λ (x : Step). x.cap) steps in
      let b = length_map (λ (x : Step). x.cap) others in
      ap (λ l. slice_cmp cap_cmp (root ∷ l) (path_of other (others ++ t ∷ [])))
      (map_push (λ (x : Step). x.cap) steps s)
      ∙ ap (λ l. slice_cmp cap_cmp (path_of root steps ++ s.cap ∷ []) (other ∷ l))
      (map_push (λ (x : Step). x.cap) others t)
      ∙ push_cmp cap_cmp (path_of root steps) (path_of other others) s.cap t.cap
      (omega (arith, same))

  names_push : slice_cmp name_cmp (names_of (steps ++ s ∷ [])) (names_of (others ++ t ∷ []))
      ≡ ordering_then (slice_cmp name_cmp (names_of steps) (names_of others))
      (name_cmp s.name t.name)
  names_push =
      let a = length_map (λ (x : Step). x.name) steps in
      let b = length_map (λ (x : Step). x.name) others in
      ap (λ l. slice_cmp name_cmp l (names_of (others ++ t ∷ [])))
      (map_push (λ (x : Step). x.name) steps s)
      ∙ ap (λ l. slice_cmp name_cmp (names_of steps ++ s.name ∷ []) l)
      (map_push (λ (x : Step). x.name) others t)
      ∙ push_cmp name_cmp (names_of steps) (names_of others) s.name t.name (omega (arith, same))

  -- what is not behind stays so, where of equal paths the last step is not behind
  pub not_behind : (group : Ordering) → is_gt (path_cmp root steps other others) ≡ false
      → (slice_cmp cap_cmp (path_of root steps) (path_of other others) ≡ Equal
      → is_gt (ordering_then (cap_cmp s.cap t.cap) (ordering_then (name_cmp s.name t.name) group)) ≡
      false)
      → is_gt (path_cmp root (steps ++ s ∷ []) other (others ++ t ∷ [])) ≡ false
  not_behind group h last =
      ap is_gt (λ i. ordering_then (path_push i) (names_push i))
      ∙ joined (slice_cmp cap_cmp (path_of root steps) (path_of other others))
      (slice_cmp name_cmp (names_of steps) (names_of others))
      (cap_cmp s.cap t.cap) (name_cmp s.name t.name) group h last

-- the lengths first
by_length : (m n : ℕ) (P : Ordering) (o : Ordering) → MatchOrdering o (m < n) (m ≡ n) (n < m)
    → ¬ (n < m) → (m ≡ n → is_gt P ≡ false)
    → is_gt (ordering_then o P) ≡ false
by_length m n P Less h never same = refl
by_length m n P Equal h never same = same h
by_length m n P Greater h never same = absurd (never h)

pub shorter_first : (m n : ℕ) (P : Ordering) → ¬ (n < m) → (m ≡ n → is_gt P ≡ false)
    → is_gt (ordering_then (nat_cmp m n) P) ≡ false
shorter_first m n P never same = by_length m n P (nat_cmp m n) (ranks m n) never same

-- paths of no step
pub alone_first : (root other : Cap) → is_gt (cap_cmp root other) ≡ false
    → is_gt (path_cmp root [] other []) ≡ false
alone_first root other h = ap is_gt
    (then_itself (ordering_then (cap_cmp root other) Equal) ∙ then_itself (cap_cmp root other)) ∙ h
