-- Laws of chains.
use Rattle.std.specs.Prelude.{◌≡◌, ◌↔◌, ◌≤◌, ◌<◌, false, ℕ, List, ◌∷◌, length, Option, Some, None, IsSome, refl}
use Rattle.std.proofs.Common.{inl, inr, sym, ◌∙◌, arith}
use Rattle.std.proofs.lemmas.Bool.{false≢true, cases_lt}
use Rattle.std.specs.Cmp.{ranks}
use Rattle.std.specs.Cmp.Lexicographic.{slice_cmp}
use Rattle.std.specs.FinMap.{slice_cmp-IsAntisymmetric}
use Rattle.std.specs.Ordering.{nat_cmp, ordering_then, ordering_reverse, is_gt, MatchOrdering}
use Rattle.std.proofs.lemmas.Cmp.{lists_total, nat_cmp_total}
use Rattle.std.specs.declared.cmp.Ordering.{Ordering}
use Rattle.std.specs.declared.cmp.Ordering.TheVariants.{Less, Equal, Greater}
use Rattle.fl_labels.specs.Caps.{Caps}
use Rattle.fl_labels.specs.declared.cap.Cap.{Cap}
use Rattle.fl_labels.specs.declared.cap.Cap.TheVariants.{Use}
use Rattle.fl_labels.specs.declared.name.Name.{Name}
use Rattle.fl_labels.specs.Cap.{cap_cmp}
use Rattle.fl_labels.specs.CapOrder.{cap_total, cap_exact}
use Rattle.fl_labels.specs.Name.{name_cmp}
use Rattle.fl_labels.specs.NameOrder.{name_total, name_exact}
use Rattle.fl_ops.specs.Registry as registry
use Rattle.fl_ops.specs.Registry.{Registry, Reach, IsGlobal}
use Rattle.fl_chains.specs.declared.step.Step.{Step}
use Rattle.fl_chains.specs.declared.chain.Chain as chains
use Rattle.fl_chains.specs.Giver.{IsGiver}
use Rattle.fl_chains.specs.Chain.{ChainBy, here, step, path_of, names_of, path_cmp, IsLeastChain, FindsChain}
use Rattle.fl_chains.proofs.Gifts.{given_by, by_giver}
use Rattle.fl_chains.proofs.Searching.{with_steps, without_steps}

pub same_chains : (U : Registry) (b c : Cap) → ((steps : List Step) × ChainBy U b steps c)
    ↔ registry.Chain U b c
same_chains U b c = (λ h. without_steps h.1, λ h. with_steps h)

pub given : (U : Registry) (roots : Caps) (c : Cap) (r : Option chains.Chain)
    → FindsChain U roots c r → IsSome r ↔ Reach U roots c
given U roots c None h = (λ e. absurd (false≢true e), λ reach. absurd (h reach))
given U roots c (Some found) h = (λ e. (found.root, h.rooted, without_steps h.leads), λ reach. refl)

pub has_giver : (U : Registry) (c : Cap) → ((name : Name) × IsGiver U c name) ↔ IsGlobal U c
has_giver U c = (
  λ h. by_giver U c h.1.0 h.1.1 h.1.2.0,
  λ g. let by = given_by U c g in (by.0.name, (by.0, by.1, (by.2, refl))),
)

first_decides : (o P : Ordering) → is_gt (ordering_then o P) ≡ false → ¬ (o ≡ Greater)
first_decides Less P h e = absurd (cc)
first_decides Equal P h e = absurd (cc)
first_decides Greater P h e = absurd (cc)

greater : (m n : ℕ) → n < m → nat_cmp m n ≡ Greater
greater m n h = go (nat_cmp m n) (ranks m n)
  where
    go : (o : Ordering) → MatchOrdering o (m < n) (m ≡ n) (n < m) → o ≡ Greater
    go Less k = absurd (omega (arith, h, k))
    go Equal k = absurd (omega (arith, h, k))
    go Greater k = refl

module _ (U : Registry) (roots : Caps) (c root other : Cap) (steps others : List Step)
    (this : IsLeastChain U roots c root steps) where
  pub shortest : roots other → ChainBy U other others c → length steps ≤ length others
  shortest h chain = elim (cases_lt (length others) (length steps)) [
    | inl few ↦ absurd (first_decides _ (path_cmp root steps other others)
        (this.least other others h chain) (greater (length steps) (length others) few))
    | inr many ↦ many
  ]

-- what is behind neither way ties
neither : (A B C : Ordering) (A' B' C' : Ordering) → A' ≡ ordering_reverse A
    → B' ≡ ordering_reverse B → C' ≡ ordering_reverse C
    → is_gt (ordering_then A (ordering_then B C)) ≡ false
    → is_gt (ordering_then A' (ordering_then B' C')) ≡ false → (B ≡ Equal) × (C ≡ Equal)
neither A B C A' B' C' a b c h k =
    go A B C h (sym (λ i. is_gt (ordering_then (a i) (ordering_then (b i) (c i)))) ∙ k)
  where
    go : (A B C : Ordering) → is_gt (ordering_then A (ordering_then B C)) ≡ false
        → is_gt (ordering_then (ordering_reverse A)
        (ordering_then (ordering_reverse B) (ordering_reverse C))) ≡ false → (B ≡ Equal)
        × (C ≡ Equal)
    go Less B C h k = absurd (cc)
    go Greater B C h k = absurd (cc)
    go Equal Less C h k = absurd (cc)
    go Equal Greater C h k = absurd (cc)
    go Equal Equal Less h k = absurd (cc)
    go Equal Equal Greater h k = absurd (cc)
    go Equal Equal Equal h k = (refl, refl)

same_group : (g h : Name) → Use g ≡ Use h → g ≡ h
same_group g h e = cc

-- chains along the same capabilities that rest on operations of the same names are the same
same_steps : {U : Registry} {a b c d : Cap} {xs ys : List Step} → ChainBy U a xs c
    → ChainBy U b ys d → path_of a xs ≡ path_of b ys
    → names_of xs ≡ names_of ys → xs ≡ ys
same_steps here here p n = refl
same_steps here (step u rest) p n = absurd (cc)
same_steps (step u rest) here p n = absurd (cc)
same_steps (step {s} {steps} u rest) (step {s = t} {steps = others} v more) p n =
    let group = same_group s.group t.group (head p) in
    let path = tail p in
    let name : s.name ≡ t.name = head n in
    let on : steps ≡ others = same_steps rest more path (tail n) in
    λ i. (record { cap = head path i; name = name i; group = group i }) ∷ on i
  where
    head : {A : Type 0} {x y : A} {xs ys : List A} → x ∷ xs ≡ y ∷ ys → x ≡ y
    head e = cc

    tail : {A : Type 0} {x y : A} {xs ys : List A} → x ∷ xs ≡ y ∷ ys → xs ≡ ys
    tail e = cc

pub one_least : (U : Registry) (roots : Caps) (c root other : Cap) (steps others : List Step)
    → IsLeastChain U roots c root steps
    → IsLeastChain U roots c other others → (root ≡ other) × (steps ≡ others)
one_least U roots c root other steps others this that =
    let caps = lists_total cap_total in
    let names = lists_total name_total in
    let ties = neither (nat_cmp (length steps) (length others))
    (slice_cmp cap_cmp (path_of root steps) (path_of other others))
    (slice_cmp name_cmp (names_of steps) (names_of others))
    (nat_cmp (length others) (length steps))
    (slice_cmp cap_cmp (path_of other others) (path_of root steps))
    (slice_cmp name_cmp (names_of others) (names_of steps))
    (nat_cmp_total.antisymm (length others) (length steps))
    (caps.antisymm (path_of other others) (path_of root steps))
    (names.antisymm (names_of others) (names_of steps))
    (this.least other others that.rooted that.leads) (that.least root steps this.rooted this.leads)
    in
    let path = slice_cmp-IsAntisymmetric cap_exact (path_of root steps) (path_of other others)
    ties.0 in
    let name = slice_cmp-IsAntisymmetric name_exact (names_of steps) (names_of others) ties.1 in
    (first path, same_steps this.leads that.leads path name)
  where
    first : {x y : Cap} {xs ys : List Cap} → x ∷ xs ≡ y ∷ ys → x ≡ y
    first e = cc
