-- A block more or less in the rows.
use Rattle.std.specs.Prelude.{◌≡◌, ◌⊎◌, ◌↔◌, Bool, true, false, cond, ℕ, ◌-◌, ◌^◌, ◌<◌, Option, Some, None, IsSome, Result, Ok, Err, OnErr, refl, unwrap_or, bit_and, bit_or}
use Rattle.std.proofs.Common.{inl, inr, sym, ap, subst, ◌∙◌}
use Rattle.std.specs.BTreeMap.{is_at}
use Rattle.std.specs.HashMap.{HashMap, get as look, UpdatesBy as ChangesBy}
use Rattle.std.specs.Cmp.{Equal-is, tied_itself}
use Rattle.std.specs.Ordering.{is_eq}
use Rattle.std.proofs.lemmas.Bool.{false≢true}
use Rattle.fl_labels.specs.Name.{name_cmp}
use Rattle.fl_labels.specs.NameOrder.{name_total, name_exact, name_tied}
use Rattle.fl_labels.specs.declared.name.Name.{Name}
use Rattle.fl_labels.specs.declared.cap.Cap.{Cap}
use Rattle.fl_labels.specs.contracts.name.NamePartialEq.TheImpl as names
use Rattle.fl_closure.specs.contracts.place.PlacePartialEq.TheImpl as places
use Rattle.fl_closure.specs.declared.place.Place.{Place}
use Rattle.fl_closure.specs.declared.block.Block.{Block}
use Rattle.fl_closure.specs.declared.row.Row.{Row}
use Rattle.fl_closure.specs.declared.rows.Rows.{Rows}
use Rattle.fl_closure.specs.declared.rows.Owner.{Owner}
use Rattle.fl_closure.specs.declared.rows.Owner.TheVariants.{Everybody, Group}
use Rattle.fl_closure.specs.parts.Block.{place_cmp, place_of, Marks, IsIn}
use Rattle.fl_closure.specs.parts.Bits.{Has, Joins, Parts, IsSameBits, IsNew}
use Rattle.fl_closure.specs.parts.Row.{bits_in}
use Rattle.fl_closure.specs.parts.Rows.{bits_among, row_bits, bits_at, Holds, At, Adds, Takes, IsSameRows}
use Rattle.fl_closure.proofs.Bits.{place_tied, no_marks}
use Rattle.fl_closure.proofs.OneRow.{joined, joined_first, parted, new_bits, unwrapped, read_some, read_none}

-- ---- everybody's row

pub puts_among : {S : Type 0} (old new : HashMap Place ℕ S) (p : Place) (bits : ℕ)
    → ChangesBy places.ghosts.eq (places.ghosts.eq p) old new (Some bits)
    → (q : Place) → unwrap_or (look places.ghosts.eq new q) 0 ≡ cond (is_at (place_cmp p) q) bits (unwrap_or (look places.ghosts.eq old q) 0)
puts_among old new p bits up q =
    ap (λ o. unwrap_or o 0) (up.0 q) ∙ unwrapped (places.ghosts.eq p q) bits (look places.ghosts.eq old q)
    ∙ ap (λ t. cond t bits (unwrap_or (look places.ghosts.eq old q) 0)) (place_tied p q)

module _ {S : Type 0} (row new : HashMap Place ℕ S) (block : Block) where
  pub join_among : (bits : ℕ) → look places.ghosts.eq row block.place ≡ Some bits
      → (IsSome (look places.ghosts.eq row block.place) → ChangesBy places.ghosts.eq (places.ghosts.eq block.place) row new (Some (bit_or bits block.bits)))
      → Joins (bits_among row) block (bits_among new)
  join_among bits there up =
      joined (bits_among row) (bits_among new) block (puts_among row new block.place _ (subst (λ b. ChangesBy places.ghosts.eq (places.ghosts.eq block.place) row new (Some (bit_or b block.bits))) (sym (read_some there)) (up (subst IsSome (sym there) refl))))

  pub part_among : (bits : ℕ) → block.bits < 2 ^ 32 → look places.ghosts.eq row block.place ≡ Some bits
      → (IsSome (look places.ghosts.eq row block.place) → ChangesBy places.ghosts.eq (places.ghosts.eq block.place) row new (Some (bit_and bits (2 ^ 32 - 1 - block.bits))))
      → Parts (bits_among row) block (bits_among new)
  part_among bits small there up =
      parted (bits_among row) (bits_among new) block small (puts_among row new block.place _ (subst (λ b. ChangesBy places.ghosts.eq (places.ghosts.eq block.place) row new (Some (bit_and b (2 ^ 32 - 1 - block.bits)))) (sym (read_some there)) (up (subst IsSome (sym there) refl))))

  pub join_first_among : (mid : HashMap Place ℕ S) → mid ≡ row → look places.ghosts.eq row block.place ≡ None
      → ChangesBy places.ghosts.eq (places.ghosts.eq block.place) mid new (Some block.bits) → Joins (bits_among row) block (bits_among new)
  join_first_among mid same absent up =
      joined_first (bits_among row) (bits_among new) block (read_none absent) (puts_among row new block.place block.bits (subst (λ m. ChangesBy places.ghosts.eq (places.ghosts.eq block.place) m new (Some block.bits)) same up))

pub new_among : {S : Type 0} (row : HashMap Place ℕ S) (block : Block) (bits : ℕ) → bits < 2 ^ 32 → look places.ghosts.eq row block.place ≡ Some bits
    → IsNew (bits_among row) block (bit_and block.bits (2 ^ 32 - 1 - bits))
new_among row block bits small there =
    new_bits (bits_among row) block _ (subst (λ b. b < 2 ^ 32) (sym (read_some there)) small) (ap (λ b. bit_and block.bits (2 ^ 32 - 1 - b)) (sym (read_some there)))

-- ---- owners

pub owner_or : (a b : Owner) → (b ≡ a) ⊎ ¬ (b ≡ a)
owner_or (Group a) (Group b) = by_test (is_at (name_cmp a) b) refl
  where
    by_test : (t : Bool) → is_at (name_cmp a) b ≡ t → (Group b ≡ Group a) ⊎ ¬ (Group b ≡ Group a)
    by_test true e = inl (ap Group (sym (name_exact a b ((Equal-is (name_cmp a b)).0 e))))
    by_test false e = inr (λ same. false≢true (sym e ∙ ap (λ n. is_eq (name_cmp a n)) (names same) ∙ ap is_eq (tied_itself name_total a)))
      where
        names : Group b ≡ Group a → b ≡ a
        names same = cc
owner_or (Group a) Everybody = inr (λ e. absurd (cc))
owner_or Everybody (Group b) = inr (λ e. absurd (cc))
owner_or Everybody Everybody = inl refl

-- the other owners' rows are as they were
abbrev pub KeepsOthers : Rows → Owner → Rows → Type 0
KeepsOthers old owner new = (other : Owner) → ¬ (other ≡ owner) → (p : Place) → bits_at new other p ≡ bits_at old other p

module _ (old new : Rows) (owner : Owner) (block : Block) (others : KeepsOthers old owner new) where
  pub adds_at : Joins (bits_at old owner) block (bits_at new owner) → Adds old (At owner block) new
  adds_at joins = record { holds = λ other c. by_owner other c (owner_or owner other) }
    where
      by_owner : (other : Owner) (c : Cap) → (other ≡ owner) ⊎ ¬ (other ≡ owner) → Holds new other c ↔ (Holds old other c ⊎ At owner block other c)
      by_owner other c (inl e) = (
        λ h. elim ((joins.holds c).0 (subst (λ o. Holds new o c) e h)) [
          | inl m ↦ inl (subst (λ o. Holds old o c) (sym e) m)
          | inr m ↦ inr (e, m)
        ],
        λ h. subst (λ o. Holds new o c) (sym e) ((joins.holds c).1 (elim h [
          | inl m ↦ inl (subst (λ o. Holds old o c) e m)
          | inr two ↦ inr two.1
        ])),
      )
      by_owner other c (inr n) = (
        λ h. inl (subst (λ b. Marks b c) (others other n (place_of c)) h),
        λ h. elim h [ inl m ↦ subst (λ b. Marks b c) (sym (others other n (place_of c))) m | inr two ↦ absurd (n two.0) ],
      )

  pub takes_at : Parts (bits_at old owner) block (bits_at new owner) → Takes old (At owner block) new
  takes_at parts = record { holds = λ other c. by_owner other c (owner_or owner other) }
    where
      by_owner : (other : Owner) (c : Cap) → (other ≡ owner) ⊎ ¬ (other ≡ owner) → Holds new other c ↔ (Holds old other c × ¬ At owner block other c)
      by_owner other c (inl e) = (
        λ h.
            let two = (parts.holds c).0 (subst (λ o. Holds new o c) e h) in
            (subst (λ o. Holds old o c) (sym e) two.0, λ m. two.1 m.1),
        λ h. subst (λ o. Holds new o c) (sym e) ((parts.holds c).1 (subst (λ o. Holds old o c) e h.0, λ m. h.1 (e, m))),
      )
      by_owner other c (inr n) = (
        λ h. (subst (λ b. Marks b c) (others other n (place_of c)) h, λ two. n two.0),
        λ h. subst (λ b. Marks b c) (sym (others other n (place_of c))) h.0,
      )

pub same_at : (old new : Rows) (owner : Owner) → KeepsOthers old owner new → IsSameBits (bits_at old owner) (bits_at new owner) → IsSameRows old new
same_at old new owner others same = record { holds = λ other c. by_owner other c (owner_or owner other) }
  where
    by_owner : (other : Owner) (c : Cap) → (other ≡ owner) ⊎ ¬ (other ≡ owner) → Holds new other c ↔ Holds old other c
    by_owner other c (inl e) = (
      λ h. subst (λ o. Holds old o c) (sym e) ((same.holds c).0 (subst (λ o. Holds new o c) e h)),
      λ h. subst (λ o. Holds new o c) (sym e) ((same.holds c).1 (subst (λ o. Holds old o c) e h)),
    )
    by_owner other c (inr n) = (
      λ h. subst (λ b. Marks b c) (others other n (place_of c)) h,
      λ h. subst (λ b. Marks b c) (sym (others other n (place_of c))) h,
    )

-- everybody's row alone changes
pub others_of_all : (old new : Rows) → new.groups ≡ old.groups → KeepsOthers old Everybody new
others_of_all old new still (Group name) n p = ap (λ m. row_bits (look names.ghosts.eq m name) p) still
others_of_all old new still Everybody n p = absurd (n refl)

-- the row of one group does
module _ (old new : Rows) (name : Name) (still : new.everybody ≡ old.everybody) where
  pub others_of : (row : Option Row) → ChangesBy names.ghosts.eq (names.ghosts.eq name) old.groups new.groups row
      → KeepsOthers old (Group name) new
  others_of row up Everybody n p = ap (λ m. bits_among m p) still
  others_of row up (Group other) n p = ap (λ r. row_bits r p) (up.2 other (name_tied name other ∙ elsewhere (is_at (name_cmp name) other) refl))
    where
      elsewhere : (t : Bool) → is_at (name_cmp name) other ≡ t → is_at (name_cmp name) other ≡ false
      elsewhere true e = absurd (n (ap Group (sym (name_exact name other ((Equal-is (name_cmp name other)).0 e)))))
      elsewhere false e = e

  -- as the code has it, of a row that is there
  module _ (row after : Row) (up : IsSome (look names.ghosts.eq old.groups name) → ChangesBy names.ghosts.eq (names.ghosts.eq name) old.groups new.groups (Some after))
      (there : look names.ghosts.eq old.groups name ≡ Some row) where
    updates : ChangesBy names.ghosts.eq (names.ghosts.eq name) old.groups new.groups (Some after)
    updates = up (subst IsSome (sym there) refl)

    before_is : (p : Place) → bits_at old (Group name) p ≡ bits_in row p
    before_is p = ap (λ r. row_bits r p) there

    after_is : (p : Place) → bits_at new (Group name) p ≡ bits_in after p
    after_is p = ap (λ r. row_bits r p) updates.1

    pub add_through : (block : Block) → Joins (bits_in row) block (bits_in after) → Adds old (At (Group name) block) new
    add_through block joins = adds_at old new (Group name) block (others_of (Some after) updates) (record {
      holds = λ c. (
        λ h. elim ((joins.holds c).0 (subst (λ b. Marks b c) (after_is (place_of c)) h)) [
          | inl m ↦ inl (subst (λ b. Marks b c) (sym (before_is (place_of c))) m)
          | inr m ↦ inr m
        ],
        λ h. subst (λ b. Marks b c) (sym (after_is (place_of c))) ((joins.holds c).1 (elim h [
          | inl m ↦ inl (subst (λ b. Marks b c) (before_is (place_of c)) m)
          | inr m ↦ inr m
        ])),
      );
    })

    pub take_through : (block : Block) → Parts (bits_in row) block (bits_in after) → Takes old (At (Group name) block) new
    take_through block parts = takes_at old new (Group name) block (others_of (Some after) updates) (record {
      holds = λ c. (
        λ h.
            let two = (parts.holds c).0 (subst (λ b. Marks b c) (after_is (place_of c)) h) in
            (subst (λ b. Marks b c) (sym (before_is (place_of c))) two.0, two.1),
        λ h. subst (λ b. Marks b c) (sym (after_is (place_of c))) ((parts.holds c).1 (subst (λ b. Marks b c) (before_is (place_of c)) h.0, h.1)),
      );
    })

    pub left_through : IsSameBits (bits_in row) (bits_in after) → IsSameRows old new
    left_through same = same_at old new (Group name) (others_of (Some after) updates) (record {
      holds = λ c. (
        λ h. subst (λ b. Marks b c) (sym (before_is (place_of c))) ((same.holds c).0 (subst (λ b. Marks b c) (after_is (place_of c)) h)),
        λ h. subst (λ b. Marks b c) (sym (after_is (place_of c))) ((same.holds c).1 (subst (λ b. Marks b c) (before_is (place_of c)) h)),
      );
    })

  -- a first block
  pub add_first : (block : Block) (row : Row) → look names.ghosts.eq old.groups name ≡ None
      → ChangesBy names.ghosts.eq (names.ghosts.eq name) old.groups new.groups (Some row)
      → ((c : Cap) → Has (bits_in row) c ↔ IsIn block c) → Adds old (At (Group name) block) new
  add_first block row absent up is = adds_at old new (Group name) block (others_of (Some row) up) (record {
    holds = λ c. (
      λ h. inr ((is c).0 (subst (λ b. Marks b c) (ap (λ r. row_bits r (place_of c)) up.1) h)),
      λ h. elim h [
        | inl m ↦ absurd (no_marks c (subst (λ b. Marks b c) (ap (λ r. row_bits r (place_of c)) absent) m))
        | inr m ↦ subst (λ b. Marks b c) (sym (ap (λ r. row_bits r (place_of c)) up.1)) ((is c).1 m)
      ],
    );
  })

pub on_err : {A E P : Type 0} (r : Result A E) → P → OnErr r P
on_err (Ok x) p = tt
on_err (Err e) p = p
