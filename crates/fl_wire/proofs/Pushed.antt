-- What is written one after another.
use Rattle.std.proofs.Common.{◌≡◌, ℕ, ◌+◌, ◌<◌, ◌≤◌, List, [], ◌∷◌, ◌++◌, length, get_or, take, Result, Ok, Err, OnOk, sym, ap, ◌∙◌, append_assoc}
use Rattle.std.specs.List.{flat_map}
use Rattle.std.proofs.lemmas.List.{take_more, flat_map_more, take_all}

-- one item more
pub pushed : {K : Type 0} (spell : K → List ℕ) (base out new : List ℕ) (xs : List K) (i : ℕ) (x : K) → i < length xs → x ≡ get_or xs i x
    → out ≡ base ++ flat_map spell (take i xs) → new ≡ out ++ spell x → new ≡ base ++ flat_map spell (take (i + 1) xs)
pushed spell base out new xs i x inside is before after =
    after ∙ ap (λ l. l ++ spell x) before ∙ flat_map_more spell base (take i xs) x
    ∙ ap (λ y. base ++ flat_map spell (take i xs ++ y ∷ [])) is ∙ ap (λ l. base ++ flat_map spell l) (sym (take_more xs i x inside))

-- all of them, after what says how many they are
pub all_pushed : {K : Type 0} (spell : K → List ℕ) (first base out head : List ℕ) (xs : List K) (n : ℕ) → length xs ≤ n
    → base ≡ first ++ head → out ≡ base ++ flat_map spell (take n xs) → out ≡ first ++ (head ++ flat_map spell xs)
all_pushed spell first base out head xs n whole start end =
    end ∙ (λ i. start i ++ flat_map spell (take_all n xs whole i)) ∙ append_assoc first head (flat_map spell xs)

-- three parts, the last of which may fail
pub three : {A E : Type 0} (r : Result A E) (o a b c d o1 o2 o3 : List ℕ) → o1 ≡ o ++ a → o2 ≡ o1 ++ b → c ≡ d → OnOk r (o3 ≡ o2 ++ c) → OnOk r (o3 ≡ o ++ (a ++ (b ++ d)))
three (Ok x) o a b c d o1 o2 o3 e1 e2 same h =
    h ∙ ap (λ l. l ++ c) (e2 ∙ ap (λ l. l ++ b) e1) ∙ append_assoc (o ++ a) b c ∙ append_assoc o a (b ++ c) ∙ ap (λ l. o ++ (a ++ (b ++ l))) same
three (Err x) o a b c d o1 o2 o3 e1 e2 same h = h

-- four parts, one after another
pub chained : (o a b c d o1 o2 o3 o4 : List ℕ) → o1 ≡ o ++ a → o2 ≡ o1 ++ b → o3 ≡ o2 ++ c → o4 ≡ o3 ++ d → o4 ≡ o ++ ((a ++ (b ++ c)) ++ d)
chained o a b c d o1 o2 o3 o4 e1 e2 e3 e4 =
    e4 ∙ ap (λ l. l ++ d) (e3 ∙ ap (λ l. l ++ c) (e2 ∙ ap (λ l. l ++ b) e1))
    ∙ append_assoc ((o ++ a) ++ b) c d ∙ append_assoc (o ++ a) b (c ++ d) ∙ append_assoc o a (b ++ (c ++ d))
    ∙ ap (λ l. o ++ l) (sym (append_assoc a (b ++ c) d ∙ ap (λ l. a ++ l) (append_assoc b c d)))
