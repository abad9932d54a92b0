-- Blocks and groups in lists.
use Rattle.std.specs.Prelude.{◌≡◌, ◌⊎◌, ◌↔◌, Bool, true, false, cond, ℕ, zero, suc, ◌+◌, ◌*◌, ◌/◌, ◌%◌, ◌^◌, ◌<◌, ◌≤◌, bit_and, Option, Some, None, List, [], ◌∷◌, ◌++◌, length, get_or, take, refl, unwrap_or}
use Rattle.std.proofs.Common.{inl, inr, sym, ap, subst, ◌∙◌, arith}
use Rattle.std.specs.BTreeMap.{BTreeMap, get, is_at, IsOrdered}
use Rattle.std.specs.Int.{bit_at}
use Rattle.std.specs.List.{Contains}
use Rattle.std.proofs.lemmas.Nat.Bits.{bit_at-lt, shr_and_one}
use Rattle.std.proofs.lemmas.Map.Views.{btree_map_get_iff}
use Rattle.std.proofs.lemmas.List.Elements.{Contains-push_cases, Contains-push, Contains-append_left}
use Rattle.fl_labels.specs.declared.name.Name.{Name}
use Rattle.fl_labels.specs.declared.cap.Cap.{Cap}
use Rattle.fl_labels.specs.declared.cap.Cap.TheVariants.{Use}
use Rattle.fl_closure.specs.declared.place.Place.{Place}
use Rattle.fl_closure.specs.declared.block.Block.{Block}
use Rattle.fl_closure.specs.declared.row.Row.{Row}
use Rattle.fl_closure.specs.parts.Block.{place_cmp, place_of, bit_of, Marks, IsIn, AreIn}
use Rattle.fl_labels.specs.Caps.{Caps}
use Rattle.fl_labels.specs.NameOrder.{same_name}
use Rattle.fl_closure.specs.parts.Bits.{Bits, Has, IsNew}
use Rattle.fl_closure.specs.parts.Row.{bits_in}
use Rattle.fl_closure.specs.parts.Rows.{row_bits}
use Rattle.fl_closure.proofs.Bits.{place_total, place_exact, place_or, at_itself, at_other, no_marks, bit_below, use_at, at_use}
use Rattle.fl_closure.proofs.OneRow.{bits_of}
use Rattle.fl_closure.proofs.Exists.{Exists, exists_none, exists_none_yet, exists_push, exists_more, exists_all, exists_cons, exists_one}

-- ---- the blocks of a row

-- one entry has the capability
abbrev pub IsInEntry : Cap → Place × ℕ → Type 0
IsInEntry c e = (place_of c ≡ e.0) × Marks e.1 c

-- one of these entries does
abbrev pub AreInEntries : List (Place × ℕ) → Cap → Type 0
AreInEntries entries c = Exists entries (IsInEntry c)

pub in_entries : (row : BTreeMap Place ℕ) → IsOrdered place_cmp row → (c : Cap) → AreInEntries row.entries c ↔ Has (bits_of row) c
in_entries row ordered c = (to, from (get place_cmp row (place_of c)) refl)
  where
    to : AreInEntries row.entries c → Has (bits_of row) c
    to (e, m, is) =
        let found : get place_cmp row e.0 ≡ Some e.1 = (btree_map_get_iff place_total place_exact row ordered e.0 e.1).1 m in
        subst (λ b. Marks b c) (sym (ap (bits_of row) is.0 ∙ ap (λ o. unwrap_or o 0) found)) is.1

    from : (o : Option ℕ) → get place_cmp row (place_of c) ≡ o → Has (bits_of row) c → AreInEntries row.entries c
    from None e h = absurd (no_marks c (subst (λ b. Marks b c) (ap (λ o. unwrap_or o 0) e) h))
    from (Some bits) e h = (
      (place_of c, bits),
      (btree_map_get_iff place_total place_exact row ordered (place_of c) bits).0 e,
      (refl, subst (λ b. Marks b c) (ap (λ o. unwrap_or o 0) e) h),
    )

-- an entry that moves into a list
pub entry_moves : (blocks now : List Block) (entries rest : List (Place × ℕ)) (p : Place) (bits : ℕ) → entries ≡ (p, bits) ∷ rest
    → now ≡ blocks ++ record { place = p; bits = bits } ∷ []
    → (c : Cap) → (AreIn now c ⊎ AreInEntries rest c) ↔ (AreIn blocks c ⊎ AreInEntries entries c)
entry_moves blocks now entries rest p bits split pushed c =
    let push = exists_push (λ b. IsIn b c) blocks (record { place = p; bits = bits }) in
    let cons = exists_cons (IsInEntry c) (p, bits) rest in (
      λ h. elim h [
        | inl m ↦ elim (push.0 (subst (λ l. AreIn l c) pushed m)) [
          | inl k ↦ inl k
          | inr k ↦ inr (subst (λ l. AreInEntries l c) (sym split) (cons.1 (inl k)))
        ]
        | inr m ↦ inr (subst (λ l. AreInEntries l c) (sym split) (cons.1 (inr m)))
      ],
      λ h. elim h [
        | inl m ↦ inl (subst (λ l. AreIn l c) (sym pushed) (push.1 (inl m)))
        | inr m ↦ elim (cons.0 (subst (λ l. AreInEntries l c) split m)) [
          | inl k ↦ inl (subst (λ l. AreIn l c) (sym pushed) (push.1 (inr k)))
          | inr k ↦ inr k
        ]
      ],
    )

pub moved_on : (A B C : Type 0) → (A ↔ B) → (B ↔ C) → (A ↔ C)
moved_on A B C f g = (λ a. g.0 (f.0 a), λ c. f.1 (g.1 c))

-- what stands at the last place, and at the others
pub in_row : (row : Row) → get place_cmp row.others row.last.place ≡ None → (c : Cap)
    → Has (bits_in row) c ↔ (IsIn row.last c ⊎ Has (bits_of row.others) c)
in_row row apart c = by_place (place_or row.last.place (place_of c))
  where
    at : (t : Bool) → is_at (place_cmp row.last.place) (place_of c) ≡ t → bits_in row (place_of c) ≡ cond t row.last.bits (bits_of row.others (place_of c))
    at t e = ap (λ b. cond b row.last.bits (bits_of row.others (place_of c))) e

    by_place : (place_of c ≡ row.last.place) ⊎ ¬ (place_of c ≡ row.last.place) → Has (bits_in row) c ↔ (IsIn row.last c ⊎ Has (bits_of row.others) c)
    by_place (inl e) =
        let here : bits_in row (place_of c) ≡ row.last.bits = at true (ap (is_at (place_cmp row.last.place)) e ∙ at_itself row.last.place) in
        let none : bits_of row.others (place_of c) ≡ 0 = ap (λ p. unwrap_or (get place_cmp row.others p) 0) e ∙ ap (λ o. unwrap_or o 0) apart in (
          λ h. inl (e, subst (λ b. Marks b c) here h),
          λ h. elim h [ inl m ↦ subst (λ b. Marks b c) (sym here) m.1 | inr m ↦ absurd (no_marks c (subst (λ b. Marks b c) none m)) ],
        )
    by_place (inr n) =
        let there : bits_in row (place_of c) ≡ bits_of row.others (place_of c) = at false (at_other row.last.place (place_of c) n) in (
          λ h. inr (subst (λ b. Marks b c) there h),
          λ h. elim h [ inl m ↦ absurd (n m.0) | inr m ↦ subst (λ b. Marks b c) (sym there) m ],
        )

-- all of them are in the list, behind the last place
pub entries_moved : (row : Row) → IsOrdered place_cmp row.others → get place_cmp row.others row.last.place ≡ None
    → (old roomy begun now : List Block) (entries left : List (Place × ℕ))
    → roomy ≡ old → begun ≡ roomy ++ row.last ∷ [] → entries ≡ row.others.entries → left ≡ []
    → ((c : Cap) → (AreIn now c ⊎ AreInEntries left c) ↔ (AreIn begun c ⊎ AreInEntries entries c))
    → (c : Cap) → AreIn now c ↔ (AreIn old c ⊎ Has (bits_in row) c)
entries_moved row ordered apart old roomy begun now entries left kept first all done moved c =
    let is = in_entries row.others ordered c in
    let row_is = in_row row apart c in
    let push = exists_push (λ b. IsIn b c) roomy row.last in (
      λ h. elim ((moved c).0 (inl h)) [
        | inl m ↦ elim (push.0 (subst (λ l. AreIn l c) first m)) [
          | inl k ↦ inl (subst (λ l. AreIn l c) kept k)
          | inr k ↦ inr (row_is.1 (inl k))
        ]
        | inr m ↦ inr (row_is.1 (inr (is.0 (subst (λ l. AreInEntries l c) all m))))
      ],
      λ h. elim ((moved c).1 (elim h [
        | inl m ↦ inl (subst (λ l. AreIn l c) (sym first) (push.1 (inl (subst (λ l. AreIn l c) (sym kept) m))))
        | inr m ↦ elim (row_is.0 m) [
          | inl k ↦ inl (subst (λ l. AreIn l c) (sym first) (push.1 (inr k)))
          | inr k ↦ inr (subst (λ l. AreInEntries l c) (sym all) (is.1 k))
        ]
      ])) [
        | inl m ↦ m
        | inr m ↦ absurd (exists_none (IsInEntry c) (subst (λ l. AreInEntries l c) done m))
      ],
    )

-- the row of a group behind one capability
module _ (cap : Cap) (only : Block) (empty start : List Block) (one : (c : Cap) → IsIn only c ↔ (c ≡ cap)) (nothing : empty ≡ [])
    (began : start ≡ empty ++ only ∷ []) where
  started : (c : Cap) → AreIn start c ↔ (c ≡ cap)
  started c =
      let is : start ≡ only ∷ [] = began ∙ ap (λ l. l ++ only ∷ []) nothing in (
        λ h. (one c).0 ((exists_one (λ b. IsIn b c) only).0 (subst (λ l. AreIn l c) is h)),
        λ e. subst (λ l. AreIn l c) (sym is) ((exists_one (λ b. IsIn b c) only).1 ((one c).1 e)),
      )

  pub with_row : (now : List Block) (bits : Bits) (held : Caps) → ((c : Cap) → AreIn now c ↔ (AreIn start c ⊎ Has bits c))
      → ((c : Cap) → Has bits c ↔ held c) → (c : Cap) → AreIn now c ↔ ((c ≡ cap) ⊎ held c)
  with_row now bits held more is c = (
    λ h. elim ((more c).0 h) [ inl m ↦ inl ((started c).0 m) | inr m ↦ inr ((is c).0 m) ],
    λ h. (more c).1 (elim h [ inl e ↦ inl ((started c).1 e) | inr m ↦ inr ((is c).1 m) ]),
  )

  pub with_none : (held : Caps) → ((c : Cap) → ¬ held c) → (c : Cap) → AreIn start c ↔ ((c ≡ cap) ⊎ held c)
  with_none held never c = (
    λ h. inl ((started c).0 h),
    λ h. elim h [ inl e ↦ (started c).1 e | inr m ↦ absurd (never c m) ],
  )

-- what a map tells of the row of a group
pub row_held : (o : Option Row) (row : Row) → Some row ≡ o → (c : Cap) → Has (bits_in row) c ↔ Has (row_bits o) c
row_held o row e c = (λ h. subst (λ p. Has (row_bits p) c) e h, λ h. subst (λ p. Has (row_bits p) c) (sym e) h)

pub none_held : (o : Option Row) → None ≡ o → (c : Cap) → ¬ Has (row_bits o) c
none_held o e c h = no_marks c (subst (λ p. Has (row_bits p) c) (sym e) h)

-- ---- what a row lacks

-- those of the blocks that the row lacks are listed
abbrev pub AreLacking : Bits → List Block → List Block → Type 0
AreLacking bits blocks lacking = (c : Cap) → AreIn lacking c ↔ (AreIn blocks c × ¬ Has bits c)

pub lacking_none : (bits : Bits) (blocks lacking : List Block) → lacking ≡ [] → AreLacking bits (take 0 blocks) lacking
lacking_none bits blocks lacking e c = (
  λ h. absurd (exists_none (λ b. IsIn b c) (subst (λ l. AreIn l c) e h)),
  λ h. absurd (exists_none_yet (λ b. IsIn b c) blocks h.0),
)

module _ (bits : Bits) (blocks lacking : List Block) (i : ℕ) (block : Block) (within : i < length blocks) (at : block ≡ get_or blocks i block)
    (so_far : AreLacking bits (take i blocks) lacking) (new : ℕ) (is : IsNew bits block new) where
  pub lacking_more : AreLacking bits (take (i + 1) blocks) (lacking ++ record { place = block.place; bits = new } ∷ [])
  lacking_more c =
      let more = exists_more (λ b. IsIn b c) blocks i block within at in
      let pushed = exists_push (λ b. IsIn b c) lacking (record { place = block.place; bits = new }) in (
        λ h. elim (pushed.0 h) [
          | inl m ↦ let two = (so_far c).0 m in (more.1 (inl two.0), two.1)
          | inr m ↦ let two = (is.are c).0 m in (more.1 (inr two.0), two.1)
        ],
        λ h. pushed.1 (elim (more.0 h.0) [ inl m ↦ inl ((so_far c).1 (m, h.1)) | inr m ↦ inr ((is.are c).1 (m, h.1)) ]),
      )

  pub lacking_same : new ≡ 0 → AreLacking bits (take (i + 1) blocks) lacking
  lacking_same e c =
      let more = exists_more (λ b. IsIn b c) blocks i block within at in (
        λ h. let two = (so_far c).0 h in (more.1 (inl two.0), two.1),
        λ h. elim (more.0 h.0) [
          | inl m ↦ (so_far c).1 (m, h.1)
          | inr m ↦ absurd (no_marks c (subst (λ b. Marks b c) e ((is.are c).1 (m, h.1)).1))
        ],
      )

pub lacking_all : (bits : Bits) (blocks lacking : List Block) (i : ℕ) → length blocks ≤ i → AreLacking bits (take i blocks) lacking
    → AreLacking bits blocks lacking
lacking_all bits blocks lacking i whole so_far c =
    let all = exists_all (λ b. IsIn b c) blocks i whole in (
      λ h. let two = (so_far c).0 h in (all.0 two.0, two.1),
      λ h. (so_far c).1 (all.1 h.0, h.1),
    )

-- ---- groups whose uses are in blocks

-- the list has what it had, and the groups whose uses are in the block, as far as their bits are below this
abbrev pub AreUsedBelow : List Name → Block → ℕ → List Name → Type 0
AreUsedBelow before block i now = (name : Name) → Contains now name ↔ (Contains before name ⊎ (IsIn block (Use name) × bit_of (Use name) < i))

below_cases : (b i : ℕ) → b < i + 1 → (b < i) ⊎ (b ≡ i)
below_cases zero zero h = inr refl
below_cases zero (suc i) h = inl (omega arith)
below_cases (suc b) zero h = absurd (omega arith)
below_cases (suc b) (suc i) h = elim (below_cases b i (omega arith)) [ inl l ↦ inl (omega arith) | inr e ↦ inr (ap suc e) ]

module _ (before now : List Name) (block : Block) (i : ℕ) (so_far : AreUsedBelow before block i now) where
  pub used_more : (this : Name) → IsIn block (Use this) → bit_of (Use this) ≡ i → ((name : Name) → IsIn block (Use name) × (bit_of (Use name) ≡ i) → name ≡ this)
      → AreUsedBelow before block (i + 1) (now ++ this ∷ [])
  used_more this here bit only name = (
    λ h. elim (Contains-push_cases now this name h) [
      | inl m ↦ elim ((so_far name).0 m) [ inl k ↦ inl k | inr two ↦ inr (two.0, omega (arith, two.1)) ]
      | inr e ↦ inr (subst (λ n. IsIn block (Use n)) e here, subst (λ n. bit_of (Use n) < i + 1) e (omega arith))
    ],
    λ h. elim h [
      | inl m ↦ Contains-append_left now (this ∷ []) name ((so_far name).1 (inl m))
      | inr two ↦ elim (below_cases (bit_of (Use name)) i two.1) [
        | inl less ↦ Contains-append_left now (this ∷ []) name ((so_far name).1 (inr (two.0, less)))
        | inr e ↦ subst (Contains (now ++ this ∷ [])) (sym (only name (two.0, e))) (Contains-push now this)
      ]
    ],
  )

  pub used_same : ((name : Name) → ¬ (IsIn block (Use name) × (bit_of (Use name) ≡ i))) → AreUsedBelow before block (i + 1) now
  used_same never name = (
    λ h. elim ((so_far name).0 h) [ inl k ↦ inl k | inr two ↦ inr (two.0, omega (arith, two.1)) ],
    λ h. elim h [
      | inl m ↦ (so_far name).1 (inl m)
      | inr two ↦ elim (below_cases (bit_of (Use name)) i two.1) [
        | inl less ↦ (so_far name).1 (inr (two.0, less))
        | inr e ↦ absurd (never name (two.0, e))
      ]
    ],
  )

pub used_all : (before now : List Name) (block : Block) (i : ℕ) → 32 ≤ i → AreUsedBelow before block i now
    → (name : Name) → Contains now name ↔ (Contains before name ⊎ IsIn block (Use name))
used_all before now block i whole so_far name =
    let below : bit_of (Use name) < 32 = bit_below (Use name) in (
      λ h. elim ((so_far name).0 h) [ inl m ↦ inl m | inr two ↦ inr two.0 ],
      λ h. (so_far name).1 (elim h [ inl m ↦ inl m | inr m ↦ inr (m, omega arith) ]),
    )

-- one bit of a block

pub none_used : (block : Block) (b : ℕ) → ((name : Name) → IsIn block (Use name) → bit_of (Use name) ≡ b → ⊥)
    → (name : Name) → (None ≡ Some name) ↔ (IsIn block (Use name) × (bit_of (Use name) ≡ b))
none_used block b never name = (λ e. absurd (cc), λ h. absurd (never name h.0 h.1))

pub no_bit : (block : Block) (b : ℕ) → bit_and (block.bits / 2 ^ b) 1 ≡ 0 → (name : Name) → IsIn block (Use name) → bit_of (Use name) ≡ b → ⊥
no_bit block b e name here at =
    let one : bit_at block.bits b ≡ 1 = ap (bit_at block.bits) (sym at) ∙ here.1 in
    let none : bit_at block.bits b ≡ 0 = sym (shr_and_one block.bits b) ∙ e in
    absurd (omega arith)

pub no_use : (block : Block) (b : ℕ) → b < 32 → ¬ (block.place.part % 32 ≡ 3) → (name : Name) → IsIn block (Use name) → bit_of (Use name) ≡ b → ⊥
no_use block b low never name here at = never (use_at name block.place b low here.0 at).2

pub no_name : (block : Block) (b : ℕ) → b < 32 → block.place.part / 32 * 32 + b ≡ 0 → (name : Name) → IsIn block (Use name) → bit_of (Use name) ≡ b → ⊥
no_name block b low e name here at =
    let seq : block.place.part / 32 * 32 + b ≡ name.seq = (use_at name block.place b low here.0 at).1 in
    let above : 0 < name.seq = name.seq_in_range.0 in
    absurd (omega arith)

pub some_used : (block : Block) (b : ℕ) → b < 32 → ¬ (bit_and (block.bits / 2 ^ b) 1 ≡ 0) → block.place.part % 32 ≡ 3
    → (this : Name) → this.node ≡ block.place.node → this.seq ≡ block.place.part / 32 * 32 + b
    → (name : Name) → (Some this ≡ Some name) ↔ (IsIn block (Use name) × (bit_of (Use name) ≡ b))
some_used block b low set kind this node seq name = (to, from)
  where
    there : (place_of (Use this) ≡ block.place) × (bit_of (Use this) ≡ b)
    there = at_use this block.place b low kind node seq

    marked : bit_at block.bits b ≡ 1
    marked =
        let two : bit_at block.bits b < 2 = bit_at-lt block.bits b in
        let never : ¬ (bit_at block.bits b ≡ 0) = λ e. set (shr_and_one block.bits b ∙ e) in
        one_of (bit_at block.bits b) two never
      where
        one_of : (n : ℕ) → n < 2 → ¬ (n ≡ 0) → n ≡ 1
        one_of zero l n = absurd (n refl)
        one_of (suc zero) l n = refl
        one_of (suc (suc m)) l n = absurd (omega arith)

    it : IsIn block (Use this) × (bit_of (Use this) ≡ b)
    it = ((there.0, ap (bit_at block.bits) there.1 ∙ marked), there.1)

    same : Some this ≡ Some name → this ≡ name
    same e = cc

    to : Some this ≡ Some name → IsIn block (Use name) × (bit_of (Use name) ≡ b)
    to e = subst (λ n. IsIn block (Use n) × (bit_of (Use n) ≡ b)) (same e) it

    from : IsIn block (Use name) × (bit_of (Use name) ≡ b) → Some this ≡ Some name
    from h =
        let parts = use_at name block.place b low h.0.0 h.1 in
        ap Some (same_name this name (node ∙ parts.0) (seq ∙ parts.1))

-- block after block
abbrev pub AreUsed : List Block → List Name → Type 0
AreUsed blocks names = (name : Name) → Contains names name ↔ AreIn blocks (Use name)

pub all_used_none : (blocks : List Block) (names : List Name) → names ≡ [] → AreUsed (take 0 blocks) names
all_used_none blocks names e name = (
  λ h. absurd (none_in (subst (λ l. Contains l name) e h)),
  λ h. absurd (exists_none_yet (λ b. IsIn b (Use name)) blocks h),
)
  where
    none_in : Contains [] name → ⊥
    none_in h = absurd (omega (arith, h.1))

pub all_used_more : (blocks : List Block) (i : ℕ) (block : Block) (before now : List Name) → i < length blocks → block ≡ get_or blocks i block
    → AreUsed (take i blocks) before → ((name : Name) → Contains now name ↔ (Contains before name ⊎ IsIn block (Use name)))
    → AreUsed (take (i + 1) blocks) now
all_used_more blocks i block before now within at so_far more name =
    let taken = exists_more (λ b. IsIn b (Use name)) blocks i block within at in (
      λ h. taken.1 (elim ((more name).0 h) [ inl m ↦ inl ((so_far name).0 m) | inr m ↦ inr m ]),
      λ h. (more name).1 (elim (taken.0 h) [ inl m ↦ inl ((so_far name).1 m) | inr m ↦ inr m ]),
    )

pub all_used : (blocks : List Block) (i : ℕ) (names : List Name) → length blocks ≤ i → AreUsed (take i blocks) names → AreUsed blocks names
all_used blocks i names whole so_far name =
    let all = exists_all (λ b. IsIn b (Use name)) blocks i whole in
    (λ h. all.0 ((so_far name).0 h), λ h. (so_far name).1 (all.1 h))

pub same_some : {o : Option Name} {this name : Name} → o ≡ Some this → o ≡ Some name → name ≡ this
same_some e f = cc

pub not_some : {o : Option Name} {name : Name} → o ≡ None → o ≡ Some name → ⊥
not_some e f = absurd (cc)
