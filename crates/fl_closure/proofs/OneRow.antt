-- A block more or less in the row of a group.
use Rattle.std.specs.Prelude.{◌≡◌, ◌⊎◌, ◌↔◌, Bool, true, false, cond, ℕ, ◌-◌, ◌^◌, ◌<◌, Option, Some, None, IsSome, [], refl, unwrap_or, bit_and, bit_or}
use Rattle.std.proofs.Common.{inl, inr, sym, ap, subst, ◌∙◌}
use Rattle.std.specs.BTreeMap.{BTreeMap, get, is_at, UpdatesBy}
use Rattle.std.specs.Map.{lookup}
use Rattle.std.specs.Int.{bit_at}
use Rattle.std.specs.Int.Bits.{or_zero_l}
use Rattle.std.proofs.lemmas.Bool.{false≢true}
use Rattle.fl_labels.specs.declared.cap.Cap.{Cap}
use Rattle.fl_closure.specs.contracts.place.PlacePartialEq.TheImpl as places
use Rattle.fl_closure.specs.declared.place.Place.{Place}
use Rattle.fl_closure.specs.declared.block.Block.{Block}
use Rattle.fl_closure.specs.declared.row.Row.{Row}
use Rattle.fl_closure.specs.parts.Block.{place_cmp, place_of, bit_of, Marks, IsIn}
use Rattle.fl_closure.specs.parts.Bits.{Bits, Has, Joins, Parts, IsNew}
use Rattle.fl_closure.specs.parts.Row.{bits_in}
use Rattle.fl_closure.proofs.Bits.{or_bit, but_bit, place_tied, place_or, at_itself, at_other, no_marks, bit_below}

-- ---- the bits of one row

-- one place has these bits, and all else is as it was
abbrev pub Puts : Bits → Place → ℕ → Bits → Type 0
Puts old p bits new = (q : Place) → new q ≡ cond (is_at (place_cmp p) q) bits (old q)

module _ (old new : Bits) (p : Place) (bits : ℕ) (is : Puts old p bits new) where
  put_here : (q : Place) → q ≡ p → new q ≡ bits
  put_here q e = is q ∙ ap (λ t. cond t bits (old q)) (ap (is_at (place_cmp p)) e ∙ at_itself p)

  put_elsewhere : (q : Place) → ¬ (q ≡ p) → new q ≡ old q
  put_elsewhere q n = is q ∙ ap (λ t. cond t bits (old q)) (at_other p q n)

pub joined : (old new : Bits) (block : Block) → Puts old block.place (bit_or (old block.place) block.bits) new → Joins old block new
joined old new block is = record { holds = λ c. by_place c (place_or block.place (place_of c)) }
  where
    by_place : (c : Cap) → (place_of c ≡ block.place) ⊎ ¬ (place_of c ≡ block.place) → Has new c ↔ (Has old c ⊎ IsIn block c)
    by_place c (inl e) =
        let now : new (place_of c) ≡ bit_or (old block.place) block.bits = put_here old new block.place _ is (place_of c) e in
        let was : old (place_of c) ≡ old block.place = ap old e in (
          λ h. elim ((or_bit (old block.place) block.bits (bit_of c)).0 (subst (λ b. Marks b c) now h)) [
            | inl m ↦ inl (subst (λ b. Marks b c) (sym was) m)
            | inr m ↦ inr (e, m)
          ],
          λ h. subst (λ b. Marks b c) (sym now) ((or_bit (old block.place) block.bits (bit_of c)).1 (elim h [
            | inl m ↦ inl (subst (λ b. Marks b c) was m)
            | inr two ↦ inr two.1
          ])),
        )
    by_place c (inr n) =
        let now : new (place_of c) ≡ old (place_of c) = put_elsewhere old new block.place _ is (place_of c) n in (
          λ h. inl (subst (λ b. Marks b c) now h),
          λ h. elim h [ inl m ↦ subst (λ b. Marks b c) (sym now) m | inr two ↦ absurd (n two.0) ],
        )

-- at a place where the row has nothing
pub joined_first : (old new : Bits) (block : Block) → old block.place ≡ 0 → Puts old block.place block.bits new → Joins old block new
joined_first old new block e is =
    joined old new block (subst (λ b. Puts old block.place b new) (sym (ap (λ n. bit_or n block.bits) e ∙ or_zero_l block.bits)) is)

pub parted : (old new : Bits) (block : Block) → block.bits < 2 ^ 32
    → Puts old block.place (bit_and (old block.place) (2 ^ 32 - 1 - block.bits)) new → Parts old block new
parted old new block small is = record { holds = λ c. by_place c (place_or block.place (place_of c)) }
  where
    by_place : (c : Cap) → (place_of c ≡ block.place) ⊎ ¬ (place_of c ≡ block.place) → Has new c ↔ (Has old c × ¬ IsIn block c)
    by_place c (inl e) =
        let now : new (place_of c) ≡ bit_and (old block.place) (2 ^ 32 - 1 - block.bits) = put_here old new block.place _ is (place_of c) e in
        let was : old (place_of c) ≡ old block.place = ap old e in
        let but = but_bit (old block.place) block.bits (bit_of c) small (bit_below c) in (
          λ h.
              let two = but.0 (subst (λ b. Marks b c) now h) in
              (subst (λ b. Marks b c) (sym was) two.0, λ m. two.1 m.1),
          λ h. subst (λ b. Marks b c) (sym now) (but.1 (subst (λ b. Marks b c) was h.0, λ m. h.1 (e, m))),
        )
    by_place c (inr n) =
        let now : new (place_of c) ≡ old (place_of c) = put_elsewhere old new block.place _ is (place_of c) n in (
          λ h. (subst (λ b. Marks b c) now h, λ two. n two.0),
          λ h. subst (λ b. Marks b c) (sym now) h.0,
        )

pub new_bits : (old : Bits) (block : Block) (bits : ℕ) → old block.place < 2 ^ 32
    → bits ≡ bit_and block.bits (2 ^ 32 - 1 - old block.place) → IsNew old block bits
new_bits old block bits small is = record { are = λ c. (to c, from c) }
  where
    but : (c : Cap) → (bit_at (bit_and block.bits (2 ^ 32 - 1 - old block.place)) (bit_of c) ≡ 1) ↔ ((bit_at block.bits (bit_of c) ≡ 1) × ¬ (bit_at (old block.place) (bit_of c) ≡ 1))
    but c = but_bit block.bits (old block.place) (bit_of c) small (bit_below c)

    to : (c : Cap) → IsIn (record { place = block.place; bits = bits }) c → IsIn block c × ¬ Has old c
    to c h =
        let two = (but c).0 (subst (λ b. Marks b c) is h.1) in
        ((h.0, two.0), λ m. two.1 (subst (λ b. Marks b c) (ap old h.0) m))

    from : (c : Cap) → IsIn block c × ¬ Has old c → IsIn (record { place = block.place; bits = bits }) c
    from c h = (h.0.0, subst (λ b. Marks b c) (sym is) ((but c).1 (h.0.1, λ m. h.1 (subst (λ b. Marks b c) (sym (ap old h.0.0)) m))))

-- all of it is new where the row has nothing
pub new_all : (old : Bits) (block : Block) → old block.place ≡ 0 → IsNew old block block.bits
new_all old block none = record {
  are = λ c. (
    λ h. (h, λ m. no_marks c (subst (λ b. Marks b c) (ap old h.0 ∙ none) m)),
    λ h. h.0,
  );
}

pub unwrapped : (t : Bool) (bits : ℕ) (o : Option ℕ) → unwrap_or (cond t (Some bits) o) 0 ≡ cond t bits (unwrap_or o 0)
unwrapped true bits o = refl
unwrapped false bits o = refl

pub read_some : {o : Option ℕ} {bits : ℕ} → o ≡ Some bits → unwrap_or o 0 ≡ bits
read_some e = ap (λ o. unwrap_or o 0) e

pub read_none : {o : Option ℕ} → o ≡ None → unwrap_or o 0 ≡ 0
read_none e = ap (λ o. unwrap_or o 0) e

-- ---- the last place and the others

twice : (t : Bool) (x y o : ℕ) → cond t x o ≡ cond t x (cond t y o)
twice true x y o = refl
twice false x y o = refl

swapped : (s t : Bool) → (s ≡ true → t ≡ true → ⊥) → (x y o : ℕ) → cond s x (cond t y o) ≡ cond t y (cond s x o)
swapped true true n x y o = absurd (n refl refl)
swapped true false n x y o = refl
swapped false true n x y o = refl
swapped false false n x y o = refl

-- the bits that the others have
abbrev pub bits_of : BTreeMap Place ℕ → Bits
bits_of others p = unwrap_or (get place_cmp others p) 0

-- the bits of a row of this last place and these others
abbrev pub bits_with : Block → BTreeMap Place ℕ → Bits
bits_with last others p = cond (is_at (place_cmp last.place) p) last.bits (bits_of others p)

module _ (row : Row) (p : Place) where
  pub is_last : places.ghosts.eq row.last.place p ≡ true → bits_in row p ≡ row.last.bits
  is_last e = ap (λ t. cond t row.last.bits (unwrap_or (get place_cmp row.others p) 0)) (sym (place_tied row.last.place p) ∙ e)

  pub is_other : places.ghosts.eq row.last.place p ≡ false → bits_in row p ≡ unwrap_or (get place_cmp row.others p) 0
  is_other e = ap (λ t. cond t row.last.bits (unwrap_or (get place_cmp row.others p) 0)) (sym (place_tied row.last.place p) ∙ e)

  pub two_places : places.ghosts.eq row.last.place p ≡ false → (q : Place) → is_at (place_cmp row.last.place) q ≡ true → is_at (place_cmp p) q ≡ true → ⊥
  two_places e q s t =
      let last : q ≡ row.last.place = same row.last.place q s in
      let this : q ≡ p = same p q t in
      false≢true (sym e ∙ ap (λ r. places.ghosts.eq r p) (sym last ∙ this) ∙ place_tied p p ∙ at_itself p)
    where
      same : (r s : Place) → is_at (place_cmp r) s ≡ true → s ≡ r
      same r s e = elim (place_or r s) [ inl k ↦ k | inr n ↦ absurd (false≢true (sym (at_other r s n) ∙ e)) ]

module _ (old : Row) where
  -- the last place alone changes
  puts_last : (p : Place) (bits : ℕ) → places.ghosts.eq old.last.place p ≡ true
      → Puts (bits_in old) p bits (bits_with (record { place = old.last.place; bits = bits }) old.others)
  puts_last p bits e q =
      twice (is_at (place_cmp old.last.place) q) bits old.last.bits (bits_of old.others q)
      ∙ ap (λ r. cond (is_at (place_cmp r) q) bits (bits_in old q)) last
    where
      last : old.last.place ≡ p
      last = elim (place_or p old.last.place) [ inl k ↦ k | inr n ↦ absurd (false≢true (sym (at_other old.last.place p (λ k. n (sym k))) ∙ sym (place_tied old.last.place p) ∙ e)) ]

  -- another place alone does
  puts_other : (p : Place) (bits : ℕ) (others : BTreeMap Place ℕ) → places.ghosts.eq old.last.place p ≡ false
      → UpdatesBy place_cmp (place_cmp p) old.others others (Some bits) → Puts (bits_in old) p bits (bits_with old.last others)
  puts_other p bits others e up q =
      ap (cond (is_at (place_cmp old.last.place) q) old.last.bits) (ap (λ o. unwrap_or o 0) (up.0 q) ∙ unwrapped (is_at (place_cmp p) q) bits (get place_cmp old.others q))
      ∙ swapped (is_at (place_cmp old.last.place) q) (is_at (place_cmp p) q) (two_places old p e q) old.last.bits bits (bits_of old.others q)

  -- a place that is new becomes the last
  puts_new : (block : Block) (mid others : BTreeMap Place ℕ) → mid ≡ old.others
      → UpdatesBy place_cmp (place_cmp old.last.place) mid others (Some old.last.bits) → Puts (bits_in old) block.place block.bits (bits_with block others)
  puts_new block mid others same up q =
      ap (cond (is_at (place_cmp block.place) q) block.bits)
      (ap (λ o. unwrap_or o 0) (up.0 q) ∙ unwrapped (is_at (place_cmp old.last.place) q) old.last.bits (get place_cmp mid q)
      ∙ ap (λ m. cond (is_at (place_cmp old.last.place) q) old.last.bits (bits_of m q)) same)

  -- as the code has it
  module _ (block : Block) where
    pub join_last : places.ghosts.eq old.last.place block.place ≡ true
        → Joins (bits_in old) block (bits_with (record { place = old.last.place; bits = bit_or old.last.bits block.bits }) old.others)
    join_last e =
        joined (bits_in old) _ block (subst (λ b. Puts (bits_in old) block.place (bit_or b block.bits) (bits_with (record { place = old.last.place; bits = bit_or old.last.bits block.bits }) old.others))
        (sym (is_last old block.place e)) (puts_last block.place (bit_or old.last.bits block.bits) e))

    pub part_last : block.bits < 2 ^ 32 → places.ghosts.eq old.last.place block.place ≡ true
        → Parts (bits_in old) block (bits_with (record { place = old.last.place; bits = bit_and old.last.bits (2 ^ 32 - 1 - block.bits) }) old.others)
    part_last small e =
        parted (bits_in old) _ block small (subst (λ b. Puts (bits_in old) block.place (bit_and b (2 ^ 32 - 1 - block.bits)) (bits_with (record { place = old.last.place; bits = bit_and old.last.bits (2 ^ 32 - 1 - block.bits) }) old.others))
        (sym (is_last old block.place e)) (puts_last block.place (bit_and old.last.bits (2 ^ 32 - 1 - block.bits)) e))

    module _ (bits : ℕ) (others : BTreeMap Place ℕ) (e : places.ghosts.eq old.last.place block.place ≡ false)
        (there : get place_cmp old.others block.place ≡ Some bits) where
      here : bits_in old block.place ≡ bits
      here = is_other old block.place e ∙ read_some there

      pub join_other : (IsSome (get place_cmp old.others block.place) → UpdatesBy place_cmp (place_cmp block.place) old.others others (Some (bit_or bits block.bits)))
          → Joins (bits_in old) block (bits_with old.last others)
      join_other up =
          joined (bits_in old) (bits_with old.last others) block (subst (λ b. Puts (bits_in old) block.place (bit_or b block.bits) (bits_with old.last others)) (sym here)
          (puts_other block.place _ others e (up (subst IsSome (sym there) refl))))

      pub part_other : block.bits < 2 ^ 32
          → (IsSome (get place_cmp old.others block.place) → UpdatesBy place_cmp (place_cmp block.place) old.others others (Some (bit_and bits (2 ^ 32 - 1 - block.bits))))
          → Parts (bits_in old) block (bits_with old.last others)
      part_other small up =
          parted (bits_in old) (bits_with old.last others) block small (subst (λ b. Puts (bits_in old) block.place (bit_and b (2 ^ 32 - 1 - block.bits)) (bits_with old.last others)) (sym here)
          (puts_other block.place _ others e (up (subst IsSome (sym there) refl))))

    pub join_new : (mid others : BTreeMap Place ℕ) → places.ghosts.eq old.last.place block.place ≡ false → get place_cmp old.others block.place ≡ None
        → mid ≡ old.others → UpdatesBy place_cmp (place_cmp old.last.place) mid others (Some old.last.bits)
        → Joins (bits_in old) block (bits_with block others)
    join_new mid others e none same up =
        joined_first (bits_in old) (bits_with block others) block (is_other old block.place e ∙ read_none none) (puts_new block mid others same up)

module _ (row : Row) (block : Block) where
  pub new_last : row.last.bits < 2 ^ 32 → places.ghosts.eq row.last.place block.place ≡ true
      → IsNew (bits_in row) block (bit_and block.bits (2 ^ 32 - 1 - row.last.bits))
  new_last small e =
      new_bits (bits_in row) block _ (subst (λ b. b < 2 ^ 32) (sym (is_last row block.place e)) small) (ap (λ b. bit_and block.bits (2 ^ 32 - 1 - b)) (sym (is_last row block.place e)))

  pub new_other : (bits : ℕ) → bits < 2 ^ 32 → places.ghosts.eq row.last.place block.place ≡ false → get place_cmp row.others block.place ≡ Some bits
      → IsNew (bits_in row) block (bit_and block.bits (2 ^ 32 - 1 - bits))
  new_other bits small e there =
      let here : bits_in row block.place ≡ bits = is_other row block.place e ∙ read_some there in
      new_bits (bits_in row) block _ (subst (λ b. b < 2 ^ 32) (sym here) small) (ap (λ b. bit_and block.bits (2 ^ 32 - 1 - b)) (sym here))

  pub new_first : places.ghosts.eq row.last.place block.place ≡ false → get place_cmp row.others block.place ≡ None → IsNew (bits_in row) block block.bits
  new_first e none = new_all (bits_in row) block (is_other row block.place e ∙ read_none none)

-- a row of this block
pub only_last : (block : Block) (others : BTreeMap Place ℕ) → others.entries ≡ [] → (c : Cap) → Has (bits_with block others) c ↔ IsIn block c
only_last block others empty c = by_place (place_or block.place (place_of c))
  where
    none : bits_of others (place_of c) ≡ 0
    none = ap (λ es. unwrap_or (lookup (is_at (place_cmp (place_of c))) es) 0) empty

    at : (t : Bool) → is_at (place_cmp block.place) (place_of c) ≡ t → bits_with block others (place_of c) ≡ cond t block.bits 0
    at t e = ap (λ b. cond b block.bits (bits_of others (place_of c))) e ∙ ap (cond t block.bits) none

    by_place : (place_of c ≡ block.place) ⊎ ¬ (place_of c ≡ block.place) → Has (bits_with block others) c ↔ IsIn block c
    by_place (inl e) =
        let is : bits_with block others (place_of c) ≡ block.bits = at true (ap (is_at (place_cmp block.place)) e ∙ at_itself block.place) in (
          λ h. (e, subst (λ b. Marks b c) is h),
          λ h. subst (λ b. Marks b c) (sym is) h.1,
        )
    by_place (inr n) =
        let is : bits_with block others (place_of c) ≡ 0 = at false (at_other block.place (place_of c) n) in (
          λ h. absurd (no_marks c (subst (λ b. Marks b c) is h)),
          λ h. absurd (n h.0),
        )
