-- What a set is after changes in turn, and in which pieces they stand.
use Rattle.std.proofs.Common.{◌≡◌, ◌∙◌, refl, sym, ap, ℕ, ◌+◌, ◌<◌, List, [], ◌∷◌, ◌++◌}
use Rattle.std.proofs.Common.{length, take, get_or, append_assoc}
use Rattle.std.specs.Prelude.{map, reverse}
use Rattle.std.specs.List.{flat_map, AllZip}
use Rattle.std.proofs.lemmas.List.{append-nil, flat_map_more, map-append, reverse-append, take_more}
use Rattle.std.proofs.lemmas.List.Concat.{flat_map-append}
use Rattle.fl_labels.specs.Cap.{cap_cmp}
use Rattle.fl_labels.specs.SetBy as set
use Rattle.fl_labels.specs.SetBy.{SetBy}
use Rattle.fl_labels.specs.declared.cap.Cap.{Cap}
use Rattle.fl_bench.specs.parts.Changes.{changed, after}
use Rattle.fl_bench.specs.declared.change.Change.{Change}
use Rattle.fl_bench.specs.declared.change.Change.TheVariants.{Gained}

pub after-append : (s : SetBy cap_cmp) (xs ys : List Change)
    → after s (xs ++ ys) ≡ after (after s xs) ys
after-append s [] ys = refl
after-append s (x ∷ xs) ys = after-append (changed s x) xs ys

-- one change more
pub after_more : (s t u : SetBy cap_cmp) (xs : List Change) (i : ℕ) (x : Change)
    → i < length xs → x ≡ get_or xs i x → t ≡ after s (take i xs) → u ≡ changed t x
    → u ≡ after s (take (i + 1) xs)
after_more s t u xs i x h is e f =
    f
    ∙ ap (λ v. changed v x) e
    ∙ ap (λ y. changed (after s (take i xs)) y) is
    ∙ sym (after-append s (take i xs) (get_or xs i x ∷ []))
    ∙ ap (λ l. after s l) (sym (take_more xs i x h))

flat_more : {X A : Type 0} (f : X → List A) (xs : List X) (i : ℕ) (x : X)
    → i < length xs → x ≡ get_or xs i x
    → flat_map f (take i xs) ++ f x ≡ flat_map f (take (i + 1) xs)
flat_more f xs i x h is =
    ap (λ y. flat_map f (take i xs) ++ f y) is
    ∙ flat_map_more f [] (take i xs) (get_or xs i x)
    ∙ ap (λ l. flat_map f l) (sym (take_more xs i x h))

-- one piece more
pub pieces_more : {X : Type 0} (f : X → List Change) (s t u : SetBy cap_cmp)
    (xs : List X) (i : ℕ) (x : X) → i < length xs → x ≡ get_or xs i x
    → t ≡ after s (flat_map f (take i xs)) → u ≡ after t (f x)
    → u ≡ after s (flat_map f (take (i + 1) xs))
pieces_more f s t u xs i x h is e g =
    g
    ∙ ap (λ v. after v (f x)) e
    ∙ sym (after-append s (flat_map f (take i xs)) (f x))
    ∙ ap (λ l. after s l) (flat_more f xs i x h is)

-- one block more
pub blocks_more : {X B : Type 0} (f : X → List Change) (g : B → List X) (s t u : SetBy cap_cmp)
    (bs : List B) (i : ℕ) (b : B) → i < length bs → b ≡ get_or bs i b
    → t ≡ after s (flat_map f (flat_map g (take i bs)))
    → u ≡ after t (flat_map f (g b)) → u ≡ after s (flat_map f (flat_map g (take (i + 1) bs)))
blocks_more f g s t u bs i b h is e k =
    k
    ∙ ap (λ v. after v (flat_map f (g b))) e
    ∙ sym (after-append s (flat_map f (flat_map g (take i bs))) (flat_map f (g b)))
    ∙ ap (λ l. after s l) (sym (flat_map-append f (flat_map g (take i bs)) (g b)))
    ∙ ap (λ l. after s (flat_map f l)) (flat_more g bs i b h is)

-- one group more
pub groups_more : {X B C : Type 0} (f : X → List Change) (g : B → List X) (h : C → List B)
    (s t u : SetBy cap_cmp) (cs : List C) (i : ℕ) (c : C) → i < length cs → c ≡ get_or cs i c
    → t ≡ after s (flat_map f (flat_map g (flat_map h (take i cs))))
    → u ≡ after t (flat_map f (flat_map g (h c)))
    → u ≡ after s (flat_map f (flat_map g (flat_map h (take (i + 1) cs))))
groups_more f g h s t u cs i c low is e k =
    k
    ∙ ap (λ v. after v (flat_map f (flat_map g (h c)))) e
    ∙ sym (after-append s (flat_map f (flat_map g (flat_map h (take i cs)))) (flat_map f (flat_map g (h c))))
    ∙ ap (λ l. after s l) (sym (flat_map-append f (flat_map g (flat_map h (take i cs))) (flat_map g (h c))))
    ∙ ap (λ l. after s (flat_map f l)) (sym (flat_map-append g (flat_map h (take i cs)) (h c)))
    ∙ ap (λ l. after s (flat_map f (flat_map g l))) (flat_more h cs i c low is)

-- each of these gained, the last one first
pub after_gains : (s : SetBy cap_cmp) (cs : List Cap)
    → after s (map Gained (reverse cs)) ≡ set.insert_all s cs
after_gains s [] = refl
after_gains s (c ∷ cs) =
    ap (λ l. after s (map Gained l)) (reverse-append (c ∷ []) cs)
    ∙ ap (λ l. after s l) (map-append Gained (reverse cs) (c ∷ []))
    ∙ after-append s (map Gained (reverse cs)) (Gained c ∷ [])
    ∙ ap (λ t. set.insert t c) (after_gains s cs)

-- the same set at first, and the same changes
pub begun_alike : (xs ys : List Cap) (cs ds : List Change) → ys ≡ xs → ds ≡ cs
    → after (set.of_list {R = cap_cmp} ys) ds ≡ after (set.of_list {R = cap_cmp} xs) cs
begun_alike xs ys cs ds e f =
    ap (λ (l : List Cap). after (set.of_list {R = cap_cmp} l) ds) e
    ∙ ap (λ l. after (set.of_list {R = cap_cmp} xs) l) f

-- pieces that hold the same changes
abbrev pub AreAlike : {X A : Type 0} → (X → List A) → List X → List X → Type 0
AreAlike f = AllZip (λ x y. f y ≡ f x)

pub flat_alike : {X A : Type 0} (f : X → List A) (xs ys : List X) → AreAlike f xs ys
    → flat_map f ys ≡ flat_map f xs
flat_alike f [] [] h = refl
flat_alike f [] (y ∷ ys) h = absurd h
flat_alike f (x ∷ xs) [] h = absurd h
flat_alike f (x ∷ xs) (y ∷ ys) h =
    ap (λ l. l ++ flat_map f ys) h.0 ∙ ap (λ l. f x ++ l) (flat_alike f xs ys h.1)

module _ {X B A : Type 0} (f : X → List A) (g : B → List X) where
  -- copies of blocks and pieces
  pub flat_copied : (bs cs : List B) (xs ys : List X) → AreAlike g bs cs → AreAlike f xs ys
      → flat_map f (flat_map g cs ++ ys) ≡ flat_map f (flat_map g bs ++ xs)
  flat_copied bs cs xs ys same alike =
      ap (λ l. flat_map f (l ++ ys)) (flat_alike g bs cs same)
      ∙ flat_map-append f (flat_map g bs) ys
      ∙ ap (λ l. flat_map f (flat_map g bs) ++ l) (flat_alike f xs ys alike)
      ∙ sym (flat_map-append f (flat_map g bs) xs)

  -- a block of copies of all pieces
  pub flat_closed : (bs cs : List B) (b : B) (xs ys : List X)
      → cs ≡ bs ++ b ∷ [] → ys ≡ [] → AreAlike f xs (g b)
      → flat_map f (flat_map g cs ++ ys) ≡ flat_map f (flat_map g bs ++ xs)
  flat_closed bs cs b xs ys more none alike =
      ap (λ l. flat_map f (flat_map g cs ++ l)) none
      ∙ ap (λ l. flat_map f l) (append-nil (flat_map g cs))
      ∙ ap (λ l. flat_map f (flat_map g l)) more
      ∙ ap (λ l. flat_map f l) (sym (flat_map_more g [] bs b))
      ∙ flat_map-append f (flat_map g bs) (g b)
      ∙ ap (λ l. flat_map f (flat_map g bs) ++ l) (flat_alike f xs (g b) alike)
      ∙ sym (flat_map-append f (flat_map g bs) xs)

-- copies of pieces behind the same ones
pub flat_behind : {X A : Type 0} (f : X → List A) (ps qs xs ys : List X) → qs ≡ ps
    → AreAlike f xs ys → flat_map f (qs ++ ys) ≡ flat_map f (ps ++ xs)
flat_behind f ps qs xs ys same alike =
    ap (λ l. flat_map f (l ++ ys)) same
    ∙ flat_map-append f ps ys
    ∙ ap (λ l. flat_map f ps ++ l) (flat_alike f xs ys alike)
    ∙ sym (flat_map-append f ps xs)

-- a block behind the others
pub block_behind : {B : Type 0} (gs bs cs : List B) (b : B) → cs ≡ bs ++ b ∷ []
    → gs ++ cs ≡ (gs ++ bs) ++ b ∷ []
block_behind gs bs cs b more = ap (λ l. gs ++ l) more ∙ sym (append_assoc gs bs (b ∷ []))

-- a piece behind the others
pub after_piece : {X : Type 0} (f : X → List Change) (s : SetBy cap_cmp) (bs xs ys : List X) (x : X)
    → ys ≡ xs ++ x ∷ []
    → after s (flat_map f (bs ++ ys)) ≡ after (after s (flat_map f (bs ++ xs))) (f x)
after_piece f s bs xs ys x more =
    ap (λ l. after s (flat_map f l)) (ap (λ l. bs ++ l) more ∙ sym (append_assoc bs xs (x ∷ [])))
    ∙ ap (λ l. after s l) (sym (flat_map_more f [] (bs ++ xs) x))
    ∙ after-append s (flat_map f (bs ++ xs)) (f x)

-- the pieces in blocks, and then the others
pub after_both : {X : Type 0} (f : X → List Change) (s t u : SetBy cap_cmp) (bs xs : List X)
    → t ≡ after s (flat_map f bs) → u ≡ after t (flat_map f xs)
    → u ≡ after s (flat_map f (bs ++ xs))
after_both f s t u bs xs e g =
    g
    ∙ ap (λ v. after v (flat_map f xs)) e
    ∙ sym (after-append s (flat_map f bs) (flat_map f xs))
    ∙ ap (λ l. after s l) (sym (flat_map-append f bs xs))

-- the blocks in groups, and then the others
pub after_groups : {X B : Type 0} (f : X → List Change) (g : B → List X) (s t u : SetBy cap_cmp)
    (bs cs : List B) → t ≡ after s (flat_map f (flat_map g bs))
    → u ≡ after t (flat_map f (flat_map g cs)) → u ≡ after s (flat_map f (flat_map g (bs ++ cs)))
after_groups f g s t u bs cs e h =
    after_both f s t u (flat_map g bs) (flat_map g cs) e h
    ∙ ap (λ l. after s (flat_map f l)) (sym (flat_map-append g bs cs))
