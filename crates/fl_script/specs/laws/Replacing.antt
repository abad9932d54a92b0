-- Words in which aliases are replaced one by one.
use Rattle.std.proofs.Common.{◌≡◌, ◌<◌, ◌≤◌, ◌+◌, ℕ, List, map, Bor, [], ◌∷◌, ◌++◌, length, take, get_or, sym, ap, subst, refl, ◌∙◌, append-nil, take-append-drop, arith}
use Rattle.std.specs.List.{All, AllZip}
use Rattle.std.proofs.lemmas.List.{take_more, drop_all, length-map, get_or-map}
use Rattle.std.proofs.lemmas.List.Elements.{All-head, All-tail, AllZip-get_or}
use Rattle.fl_aliases.specs.Expansion.{Expands, NoDollar}
use Rattle.fl_aliases.specs.Table.{Table}
use Rattle.fl_aliases.specs.laws.Expanding.{plain_itself, plain_alone, one_expansion}
use Rattle.fl_aliases.specs.Words.{Word}

-- a word that is not so is among the words
pub not_all_at : (P : Word → Type 0) (words : List (Bor Word)) (i : ℕ) (d : Bor Word) → i < length words → ¬ P (get_or words i d).now → ¬ All P (map (λ w. w.now) words)
not_all_at P words i d inside not_so = λ all. not_so (subst P (get_or-map (λ w. w.now) words i d [] inside) (all i [] (omega (arith, inside, length-map {A = Bor Word} {B = Word} words (λ w. w.now)))))

take_whole : (l : List Word) (n : ℕ) → length l ≤ n → take n l ≡ l
take_whole l n whole = sym (append-nil (take n l)) ∙ ap (λ r. take n l ++ r) (sym (drop_all n l whole)) ∙ take-append-drop n l

zip_more : (R : Word → Word → Type 0) (xs ys : List Word) (x y : Word) → AllZip R xs ys → R x y → AllZip R (xs ++ x ∷ []) (ys ++ y ∷ [])
zip_more R [] [] x y h r = (r, tt)
zip_more R [] (b ∷ ys) x y h r = absurd h
zip_more R (a ∷ xs) [] x y h r = absurd h
zip_more R (a ∷ xs) (b ∷ ys) x y h r = (h.0, zip_more R xs ys x y h.1 r)

module _ (table : Table) where
  -- nothing is replaced yet
  pub none_yet : (words : List Word) → AllZip (Expands table) (take 0 words) []
  none_yet [] = tt
  none_yet (w ∷ ws) = tt

  -- one more word is replaced
  pub one_more_at : (words : List (Bor Word)) (i : ℕ) (d : Bor Word) (texts : List Word) (text : Word) → i < length words → AllZip (Expands table) (take i (map (λ w. w.now) words)) texts → Expands table (get_or words i d).now text → AllZip (Expands table) (take (i + 1) (map (λ w. w.now) words)) (texts ++ text ∷ [])
  one_more_at words i d texts text inside so_far more =
      let said = map (λ (w : Bor Word). w.now) words in
      let within : i < length said = omega (arith, inside, length-map {A = Bor Word} {B = Word} words (λ w. w.now)) in
      subst (λ ws. AllZip (Expands table) ws (texts ++ text ∷ [])) (sym (take_more said i [] within))
      (zip_more (Expands table) (take i said) texts (get_or said i []) text so_far
      (subst (λ w. Expands table w text) (sym (get_or-map (λ w. w.now) words i d [] inside)) more))

  -- all words are
  pub all_replaced : (words : List (Bor Word)) (n : ℕ) (texts : List Word) → length words ≤ n → AllZip (Expands table) (take n (map (λ w. w.now) words)) texts → AllZip (Expands table) (map (λ w. w.now) words) texts
  all_replaced words n texts whole h =
      let said = map (λ (w : Bor Word). w.now) words in
      subst (λ ws. AllZip (Expands table) ws texts)
      (take_whole said n (omega (arith, whole, length-map {A = Bor Word} {B = Word} words (λ w. w.now)))) h

  -- a word that cannot be expanded is one of the words
  pub none_replaced : (words : List Word) (i : ℕ) → i < length words → ((out : List ℕ) → Expands table (get_or words i []) out → ⊥) → (replaced : List Word) → AllZip (Expands table) words replaced → ⊥
  none_replaced words i inside none replaced h = none (get_or replaced i []) (AllZip-get_or (Expands table) words replaced i [] [] h inside)

  -- the same, of words behind references
  pub none_replaced_at : (words : List (Bor Word)) (i : ℕ) (d : Bor Word) → i < length words → ((out : List ℕ) → Expands table (get_or words i d).now out → ⊥) → (replaced : List Word) → AllZip (Expands table) (map (λ w. w.now) words) replaced → ⊥
  none_replaced_at words i d inside none =
      none_replaced (map (λ w. w.now) words) i (omega (arith, inside, length-map {A = Bor Word} {B = Word} words (λ w. w.now)))
      (λ out h. none out (subst (λ w. Expands table w out) (get_or-map (λ w. w.now) words i d [] inside) h))

  -- words with no `$` are replaced by themselves
  pub clean_stay : (words : List Word) → All NoDollar words → AllZip (Expands table) words words
  clean_stay [] clean = tt
  clean_stay (w ∷ ws) clean = (plain_itself table w (All-head NoDollar w ws clean), clean_stay ws (All-tail NoDollar w ws clean))

  -- words are replaced in one way
  pub same_replaced : (words a b : List Word) → AllZip (Expands table) words a → AllZip (Expands table) words b → a ≡ b
  same_replaced [] [] [] g h = refl
  same_replaced [] (x ∷ a) b g h = absurd g
  same_replaced [] [] (y ∷ b) g h = absurd h
  same_replaced (w ∷ ws) [] b g h = absurd g
  same_replaced (w ∷ ws) (x ∷ a) [] g h = absurd h
  same_replaced (w ∷ ws) (x ∷ a) (y ∷ b) g h = (λ i. one_expansion table g.0 h.0 i ∷ same_replaced ws a b g.1 h.1 i)

  -- the word is still there among the replaced words
  pub record Keeps (word : Word) (replaced : List Word) : Type 0 where
    pub front : List Word
    pub back : List Word
    pub is : replaced ≡ front ++ word ∷ back

  -- a word with no `$` stays where it is
  pub word_stays : (word : Word) → NoDollar word → (front back replaced : List Word) → AllZip (Expands table) (front ++ word ∷ back) replaced → Keeps word replaced
  word_stays word clean [] back [] h = absurd h
  word_stays word clean [] back (x ∷ xs) h = record { front = []; back = xs; is = ap (λ w. w ∷ xs) (plain_alone table word x clean h.0) }
  word_stays word clean (w ∷ front) back [] h = absurd h
  word_stays word clean (w ∷ front) back (x ∷ xs) h = let k = word_stays word clean front back xs h.1 in record { front = x ∷ k.front; back = k.back; is = ap (λ l. x ∷ l) k.is }
