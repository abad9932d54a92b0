-- What is added and noted, and taken out again.
use Rattle.std.specs.Prelude.{◌≡◌, ◌⊎◌, ◌↔◌, ℕ, List, [], ◌∷◌, ◌++◌, ◌+◌, ◌<◌, length, get_or, take}
use Rattle.std.proofs.Common.{inl, inr, sym, ap, subst}
use Rattle.fl_labels.specs.Caps.{Caps}
use Rattle.fl_labels.specs.declared.name.Name.{Name}
use Rattle.fl_labels.specs.declared.cap.Cap.{Cap}
use Rattle.fl_closure.specs.declared.block.Block.{Block}
use Rattle.fl_closure.specs.declared.rows.Rows.{Rows}
use Rattle.fl_closure.specs.declared.rows.Note.{Note}
use Rattle.fl_closure.specs.declared.rows.Owner.{Owner}
use Rattle.fl_closure.specs.declared.rows.Owner.TheVariants.{Everybody, Group}
use Rattle.fl_closure.specs.parts.Block.{place_of, IsIn, Marks}
use Rattle.fl_closure.specs.parts.Bits.{IsNew}
use Rattle.fl_closure.specs.parts.Rows.{bits_at, Holds, At, OfOne, IsNamed, OfEach, Adds, Takes, IsSameRows}
use Rattle.fl_closure.specs.parts.Noted.{Into, Gains, Loses}
use Rattle.fl_closure.proofs.Bits.{marks_or, no_marks}
use Rattle.fl_closure.proofs.Exists.{exists_none, exists_none_yet, exists_more, exists_push, contains_more}
use Rattle.fl_closure.proofs.Members.{none}

-- ---- one step after another

pub adds_nothing : (rows : Rows) (P : Owner → Caps) → ((owner : Owner) (c : Cap) → ¬ P owner c) → Adds rows P rows
adds_nothing rows P never = record {
  holds = λ o c. (λ h. inl h, λ h. elim h [ inl m ↦ m | inr p ↦ absurd (never o c p) ]);
}

pub adds_join : (old mid new : Rows) (P Q R : Owner → Caps) → ((owner : Owner) (c : Cap) → R owner c ↔ (P owner c ⊎ Q owner c))
    → Adds old P mid → Adds mid Q new → Adds old R new
adds_join old mid new P Q R is adds more = record { holds = λ o c. (to o c, from o c) }
  where
    on : (o : Owner) (c : Cap) → Holds old o c ⊎ P o c → Holds old o c ⊎ R o c
    on o c (inl m) = inl m
    on o c (inr p) = inr ((is o c).1 (inl p))

    to : (o : Owner) (c : Cap) → Holds new o c → Holds old o c ⊎ R o c
    to o c h = elim ((more.holds o c).0 h) [ inl m ↦ on o c ((adds.holds o c).0 m) | inr q ↦ inr ((is o c).1 (inr q)) ]

    back : (o : Owner) (c : Cap) → P o c ⊎ Q o c → Holds mid o c ⊎ Q o c
    back o c (inl p) = inl ((adds.holds o c).1 (inr p))
    back o c (inr q) = inr q

    from : (o : Owner) (c : Cap) → Holds old o c ⊎ R o c → Holds new o c
    from o c (inl m) = (more.holds o c).1 (inl ((adds.holds o c).1 (inl m)))
    from o c (inr r) = (more.holds o c).1 (back o c ((is o c).0 r))

-- block after block, into one row
pub ofone_none : (owner : Owner) (blocks : List Block) (other : Owner) (c : Cap) → ¬ OfOne owner (take 0 blocks) other c
ofone_none owner blocks other c h = exists_none_yet (λ b. IsIn b c) blocks h.1

pub ofone_more : (owner : Owner) (blocks : List Block) (i : ℕ) (block : Block) → i < length blocks → block ≡ get_or blocks i block
    → (other : Owner) (c : Cap) → OfOne owner (take (i + 1) blocks) other c ↔ (OfOne owner (take i blocks) other c ⊎ At owner block other c)
ofone_more owner blocks i block within at other c =
    let more = exists_more (λ b. IsIn b c) blocks i block within at in (
      λ h. elim (more.0 h.1) [ inl m ↦ inl (h.0, m) | inr m ↦ inr (h.0, m) ],
      λ h. elim h [ inl k ↦ (k.0, more.1 (inl k.1)) | inr k ↦ (k.0, more.1 (inr k.1)) ],
    )

-- group after group
pub ofeach_none : (names : List Name) (blocks : List Block) (other : Owner) (c : Cap) → ¬ OfEach (take 0 names) blocks other c
ofeach_none [] blocks (Group name) c h = none name h.0
ofeach_none (x ∷ xs) blocks (Group name) c h = none name h.0
ofeach_none names blocks Everybody c h = absurd h.0

named_more : (names : List Name) (i : ℕ) (name : Name) → i < length names → name ≡ get_or names i name
    → (other : Owner) → IsNamed (take (i + 1) names) other ↔ (IsNamed (take i names) other ⊎ (other ≡ Group name))
named_more names i name within at (Group other) = (
  λ h. elim ((contains_more names i name within at other).0 h) [ inl m ↦ inl m | inr e ↦ inr (ap Group (sym e)) ],
  λ h. (contains_more names i name within at other).1 (elim h [ inl m ↦ inl m | inr e ↦ inr (same e) ]),
)
  where
    same : Group other ≡ Group name → name ≡ other
    same e = cc
named_more names i name within at Everybody = (
  λ h. absurd h,
  λ h. elim h [ inl m ↦ m | inr e ↦ absurd (never e) ],
)
  where
    never : Everybody ≡ Group name → ⊥
    never e = absurd (cc)

pub ofeach_more : (names : List Name) (blocks : List Block) (i : ℕ) (name : Name) → i < length names → name ≡ get_or names i name
    → (other : Owner) (c : Cap)
    → OfEach (take (i + 1) names) blocks other c ↔ (OfEach (take i names) blocks other c ⊎ OfOne (Group name) blocks other c)
ofeach_more names blocks i name within at other c =
    let more = named_more names i name within at other in (
      λ h. elim (more.0 h.0) [ inl m ↦ inl (m, h.1) | inr e ↦ inr (e, h.1) ],
      λ h. elim h [ inl k ↦ (more.1 (inl k.0), k.1) | inr k ↦ (more.1 (inr k.0), k.1) ],
    )

-- ---- noted

pub gains_none : (rows : Rows) (notes : List Note) → notes ≡ [] → Gains rows notes rows
gains_none rows notes e = subst (λ l. Gains rows l rows) (sym e) (record {
  adds = adds_nothing rows (Into []) (λ o c h. exists_none (λ n. At n.owner n.block o c) h);
  fresh = λ o c h. absurd (exists_none (λ n. At n.owner n.block o c) h);
})

module _ (mid new : Rows) (owner : Owner) (block : Block) (bits : ℕ) (adds : Adds mid (At owner block) new) (is : IsNew (bits_at mid owner) block bits) where
  abbrev fresh_block : Block
  fresh_block = record { place = block.place; bits = bits }

  -- what is new alone
  adds_new : Adds mid (At owner fresh_block) new
  adds_new = record {
    holds = λ o c. (
      λ h. elim ((adds.holds o c).0 h) [ inl m ↦ inl m | inr two ↦ by_mid o c two (marks_or (bits_at mid o (place_of c)) c) ],
      λ h. (adds.holds o c).1 (elim h [ inl m ↦ inl m | inr two ↦ inr (two.0, ((is.are c).0 two.1).0) ]),
    );
  }
    where
      by_mid : (o : Owner) (c : Cap) → At owner block o c → Holds mid o c ⊎ ¬ Holds mid o c → Holds mid o c ⊎ At owner fresh_block o c
      by_mid o c two (inl m) = inl m
      by_mid o c two (inr n) = inr (two.0, (is.are c).1 (two.1, λ m. n (subst (λ k. Holds mid k c) (sym two.0) m)))

  was_not : (o : Owner) (c : Cap) → At owner fresh_block o c → ¬ Holds mid o c
  was_not o c two h = ((is.are c).0 two.1).1 (subst (λ k. Holds mid k c) two.0 h)

  module _ (old : Rows) (notes : List Note) (gains : Gains old notes mid) where
    pub gains_note : Gains old (notes ++ record { owner = owner; block = record { place = block.place; bits = bits } } ∷ []) new
    gains_note = record {
      adds = adds_join old mid new (Into notes) (At owner fresh_block) (Into (notes ++ record { owner = owner; block = fresh_block } ∷ []))
          (λ o c. exists_push (λ n. At n.owner n.block o c) notes (record { owner = owner; block = fresh_block })) gains.adds adds_new;
      fresh = λ o c h there. elim ((exists_push (λ n. At n.owner n.block o c) notes (record { owner = owner; block = fresh_block })).0 h) [
        | inl m ↦ gains.fresh o c m there
        | inr two ↦ was_not o c two ((gains.adds.holds o c).1 (inl there))
      ];
    }

    pub gains_nothing : bits ≡ 0 → Gains old notes new
    gains_nothing e = record {
      adds = adds_join old mid new (Into notes) (At owner fresh_block) (Into notes)
          (λ o c. (λ h. inl h, λ h. elim h [ inl m ↦ m | inr two ↦ absurd (no_marks c (subst (λ b. Marks b c) e two.1.1)) ])) gains.adds adds_new;
      fresh = gains.fresh;
    }

-- rows that are as they were
pub gains_same : (old mid new : Rows) (notes : List Note) → Gains old notes mid → IsSameRows mid new → Gains old notes new
gains_same old mid new notes gains same = record {
  adds = record {
    holds = λ o c. (
      λ h. (gains.adds.holds o c).0 ((same.holds o c).0 h),
      λ h. (same.holds o c).1 ((gains.adds.holds o c).1 h),
    );
  };
  fresh = gains.fresh;
}

-- ---- taken out again

pub loses_none : (rows : Rows) (notes : List Note) → Loses rows (take 0 notes) rows
loses_none rows notes = record {
  holds = λ o c. (λ h. (h, λ p. exists_none_yet (λ n. At n.owner n.block o c) notes p), λ h. h.0);
}

pub loses_at : (notes : List Note) (i : ℕ) (this : Note) (old mid new : Rows) → i < length notes → this ≡ get_or notes i this
    → Loses old (take i notes) mid → Takes mid (At this.owner this.block) new → Loses old (take (i + 1) notes) new
loses_at notes i this old mid new within at loses takes = record {
  holds = λ o c.
      let more = exists_more (λ n. At n.owner n.block o c) notes i this within at in (
        λ h.
            let two = (takes.holds o c).0 h in
            let was = (loses.holds o c).0 two.0 in
            (was.0, λ p. elim (more.0 p) [ inl m ↦ was.1 m | inr m ↦ two.1 m ]),
        λ h. (takes.holds o c).1 ((loses.holds o c).1 (h.0, λ p. h.1 (more.1 (inl p))), λ m. h.1 (more.1 (inr m))),
      );
}

-- what was gained and lost again leaves the rows
pub taken_back : (old mid new : Rows) (notes : List Note) → Gains old notes mid → Loses mid notes new → IsSameRows old new
taken_back old mid new notes gains loses = record {
  holds = λ o c. (
    λ h.
        let was = (loses.holds o c).0 h in
        by_place o c ((gains.adds.holds o c).0 was.0) was.1,
    λ h. (loses.holds o c).1 ((gains.adds.holds o c).1 (inl h), λ m. gains.fresh o c m h),
  );
}
  where
    by_place : (o : Owner) (c : Cap) → Holds old o c ⊎ Into notes o c → ¬ Into notes o c → Holds old o c
    by_place o c (inl m) never = m
    by_place o c (inr m) never = absurd (never m)
