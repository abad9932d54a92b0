-- One entry more is in the list.
use Rattle.std.proofs.Common.{◌≡◌, ◌≢◌, ◌==◌, ℕ, zero, suc, ◌+◌, ◌-◌, ◌<◌, ◌≤◌, Bool, true, false, List, [], ◌∷◌, ◌++◌, length, reverse, get_or, take, refl, sym, ◌∙◌, ap, subst, append-nil, length-append, if◌then◌else◌, arith, eq-eqb, ne_eqb, inl, inr}
use Rattle.std.proofs.lemmas.List.{reverse-append, append_cancel_right, take_more, length-take-le}
use Rattle.std.proofs.lemmas.Bool.Decides.{eqb_tells}
use Rattle.fl_dealing.specs.declared.entry.Entry.{Entry}
use Rattle.fl_dealing.specs.Gathered.{select, StandFrom, IsGathered}

snoc_last : {X : Type 0} (xs ys : List X) (a b : X) → xs ++ a ∷ [] ≡ ys ++ b ∷ [] → a ≡ b
snoc_last xs ys a b e =
    let r : a ∷ reverse xs ≡ b ∷ reverse ys =
    sym (reverse-append xs (a ∷ [])) ∙ ap reverse e ∙ reverse-append ys (b ∷ []) in
    cc

snoc_front : {X : Type 0} (xs ys : List X) (a b : X) → xs ++ a ∷ [] ≡ ys ++ b ∷ [] → xs ≡ ys
snoc_front xs ys a b e =
    append_cancel_right xs ys (b ∷ []) (ap (λ x. xs ++ x ∷ []) (sym (snoc_last xs ys a b e)) ∙ e)

snoc_some : {X : Type 0} (xs : List X) (a : X) → xs ++ a ∷ [] ≡ [] → ⊥
snoc_some [] a e = cc
snoc_some (x ∷ xs) a e = cc

if_append : {X : Type 0} (b : Bool) (x : X) (xs ys : List X)
    → (if b then x ∷ xs ++ ys else xs ++ ys) ≡ (if b then x ∷ xs else xs) ++ ys
if_append true x xs ys = refl
if_append false x xs ys = refl

pub select_append : {X : Type 0} (w : ℕ) (os os' : List ℕ) (xs xs' : List X)
    → length xs ≡ length os
    → select w (os ++ os') (xs ++ xs') ≡ select w os xs ++ select w os' xs'
select_append w [] os' [] xs' h = refl
select_append w [] os' (x ∷ xs) xs' h = absurd (omega (arith, h))
select_append w (o ∷ os) os' [] xs' h = absurd (omega (arith, h))
select_append w (o ∷ os) os' (x ∷ xs) xs' h =
    ap (λ l. if o == w then x ∷ l else l) (select_append w os os' xs xs' (omega (arith, h)))
    ∙ if_append (o == w) x (select w os xs) (select w os' xs')

stand_append : (p : ℕ) (es : List Entry) (e : Entry) → StandFrom p es → e.job ≡ p + length es
    → StandFrom p (es ++ e ∷ [])
stand_append p [] e s h = (omega (arith, h), tt)
stand_append p (x ∷ es) e s h = (s.0, stand_append (p + 1) es e s.1 (omega (arith, h)))

stand_front : (p : ℕ) (es : List Entry) (e : Entry) → StandFrom p (es ++ e ∷ []) → StandFrom p es
stand_front p [] e s = tt
stand_front p (x ∷ es) e s = (s.0, stand_front (p + 1) es e s.1)

stand_last : (p : ℕ) (es : List Entry) (e : Entry) → StandFrom p (es ++ e ∷ [])
    → e.job ≡ p + length es
stand_last p [] e s = omega (arith, s.0)
stand_last p (x ∷ es) e s = omega (arith, stand_last (p + 1) es e s.1)

-- the last one is its owner's, and nobody else's
select_last : {X : Type 0} (w : ℕ) (os : List ℕ) (xs : List X) (x : X) → length xs ≡ length os
    → select w (os ++ w ∷ []) (xs ++ x ∷ []) ≡ select w os xs ++ x ∷ []
select_last w os xs x h =
    select_append w os (w ∷ []) xs (x ∷ []) h
    ∙ ap (λ b. select w os xs ++ (if b then x ∷ [] else [])) (eq-eqb w w refl)

select_other : {X : Type 0} (w o : ℕ) (os : List ℕ) (xs : List X) (x : X)
    → length xs ≡ length os → w ≢ o
    → select w (os ++ o ∷ []) (xs ++ x ∷ []) ≡ select w os xs
select_other w o os xs x h ne =
    select_append w os (o ∷ []) xs (x ∷ []) h
    ∙ ap (λ b. select w os xs ++ (if b then x ∷ [] else [])) (ne_eqb o w (λ e. ne (sym e)))
    ∙ append-nil (select w os xs)

-- the list of the first owners, and one more
module _ (os : List ℕ) (o : ℕ) (before after : ℕ → List Entry) (es : List Entry) (e : Entry)
    (last : before o ≡ after o ++ e ∷ []) (others : (v : ℕ) → v ≢ o → after v ≡ before v) where
  pub gathers_more : e.job ≡ length os → IsGathered os after es
      → IsGathered (os ++ o ∷ []) before (es ++ e ∷ [])
  gathers_more at g = record {
    count = length-append es (e ∷ []) ∙ ap (λ n. n + 1) g.count ∙ sym (length-append os (o ∷ []));
    places = stand_append 0 es e g.places (omega (arith, at, g.count));
    answers = λ w. elim (eqb_tells w o) [
      | inl h ↦ subst (λ v. select v (os ++ o ∷ []) (es ++ e ∷ []) ≡ before v) (sym h.1)
          (select_last o os es e g.count ∙ ap (λ l. l ++ e ∷ []) (g.answers o) ∙ sym last)
      | inr h ↦ select_other w o os es e g.count h.1 ∙ g.answers w ∙ others w h.1
    ];
  }

  module _ (d : Entry) (g : IsGathered (os ++ o ∷ []) before (es ++ d ∷ [])) where
    few : length es ≡ length os
    few = omega (arith, g.count, length-append es (d ∷ []), length-append os (o ∷ []))

    ends : after o ++ e ∷ [] ≡ select o os es ++ d ∷ []
    ends = sym last ∙ sym (g.answers o) ∙ select_last o os es d few

    pub gathers_at : e.job ≡ length os
    gathers_at =
        let same : e.job ≡ d.job =
        ap (λ x. x.job) (snoc_last (after o) (select o os es) e d ends) in
        omega (arith, stand_last 0 es d g.places, few)

    pub gathers_less : IsGathered os after es
    gathers_less = record {
      count = few;
      places = stand_front 0 es d g.places;
      answers = λ w. elim (eqb_tells w o) [
        | inl h ↦ subst (λ v. select v os es ≡ after v) (sym h.1)
            (sym (snoc_front (after o) (select o os es) e d ends))
        | inr h ↦ sym (select_other w o os es d few h.1) ∙ g.answers w ∙ sym (others w h.1)
      ];
    }

-- who has nothing more to say has not the last one
pub gathers_some : (os : List ℕ) (o : ℕ) (before : ℕ → List Entry) (es : List Entry) (d : Entry)
    → before o ≡ [] → IsGathered (os ++ o ∷ []) before (es ++ d ∷ []) → ⊥
gathers_some os o before es d none g =
    let few : length es ≡ length os =
    omega (arith, g.count, length-append es (d ∷ []), length-append os (o ∷ [])) in
    snoc_some (select o os es) d (sym (select_last o os es d few) ∙ g.answers o ∙ none)

take_last : {X : Type 0} (xs : List X) (n : ℕ) (d : X) → 0 < n → n ≤ length xs
    → take n xs ≡ take (n - 1) xs ++ get_or xs (n - 1) d ∷ []
take_last xs n d h k =
    let within : n - 1 < length xs = omega arith in
    let whole : n ≡ n - 1 + 1 = omega arith in
    ap (λ m. take m xs) whole ∙ take_more xs (n - 1) d within

take_some : {X : Type 0} (xs : List X) (n : ℕ) → 0 < n → n ≤ length xs
    → (x : X) × (take n xs ≡ take (n - 1) xs ++ x ∷ [])
take_some [] n h k = absurd (omega arith)
take_some (y ∷ ys) n h k = (get_or (y ∷ ys) (n - 1) y, take_last (y ∷ ys) n y h k)

-- of the first n owners, the last one
module _ (owners : List ℕ) (n : ℕ) (some : 0 < n) (within : n ≤ length owners)
    (before : ℕ → List Entry) where
  first : length (take (n - 1) owners) ≡ n - 1
  first = length-take-le (n - 1) owners (omega arith)

  split : (es : List Entry) → length es ≡ length owners
      → IsGathered (take n owners) before (take n es)
      → (d : Entry) × IsGathered (take (n - 1) owners ++ get_or owners (n - 1) 0 ∷ []) before
      (take (n - 1) es ++ d ∷ [])
  split es count g =
      let p = take_some es n some (omega (arith, count, within)) in (
        p.0,
        subst (λ os. IsGathered os before (take (n - 1) es ++ p.0 ∷ []))
            (take_last owners n 0 some within)
            (subst (λ l. IsGathered (take n owners) before l) p.1 g),
      )

  pub last_some : (es : List Entry) → length es ≡ length owners
      → before (get_or owners (n - 1) 0) ≡ []
      → IsGathered (take n owners) before (take n es) → ⊥
  last_some es count none g =
      let p = split es count g in
      gathers_some (take (n - 1) owners) (get_or owners (n - 1) 0) before (take (n - 1) es) p.0
      none p.1

  module _ (after : ℕ → List Entry) (e : Entry)
      (last : before (get_or owners (n - 1) 0) ≡ after (get_or owners (n - 1) 0) ++ e ∷ [])
      (others : (v : ℕ) → v ≢ get_or owners (n - 1) 0 → after v ≡ before v) where
    pub last_more : (es : List Entry) → e.job ≡ n - 1 → IsGathered (take (n - 1) owners) after es
        → IsGathered (take n owners) before (es ++ e ∷ [])
    last_more es at g =
        subst (λ os. IsGathered os before (es ++ e ∷ []))
        (sym (take_last owners n 0 some within))
        (gathers_more (take (n - 1) owners) (get_or owners (n - 1) 0) before after es e last
        others (at ∙ sym first) g)

    pub last_at : (es : List Entry) → length es ≡ length owners
        → IsGathered (take n owners) before (take n es) → e.job ≡ n - 1
    last_at es count g =
        let p = split es count g in
        gathers_at (take (n - 1) owners) (get_or owners (n - 1) 0) before after (take (n - 1) es) e
        last others p.0 p.1
        ∙ first

    pub last_less : (es : List Entry) → length es ≡ length owners
        → IsGathered (take n owners) before (take n es)
        → IsGathered (take (n - 1) owners) after (take (n - 1) es)
    last_less es count g =
        let p = split es count g in
        gathers_less (take (n - 1) owners) (get_or owners (n - 1) 0) before after
        (take (n - 1) es) e last others p.0 p.1

stand_at : (p : ℕ) (es : List Entry) (k : ℕ) (d : Entry) → StandFrom p es → k < length es
    → (get_or es k d).job ≡ p + k
stand_at p [] k d s h = absurd (omega (arith, h))
stand_at p (e ∷ es) zero d s h = omega (arith, s.0)
stand_at p (e ∷ es) (suc k) d s h = omega (arith, stand_at (p + 1) es k d s.1 (omega (arith, h)))

-- the entry at k is that of the place k
pub at_its_place : (es : List Entry) (k : ℕ) (d : Entry) → StandFrom 0 es → k < length es
    → (get_or es k d).job ≡ k
at_its_place es k d s h = omega (arith, stand_at 0 es k d s h)
