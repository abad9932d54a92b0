-- What a look into a row tells.
use Rattle.std.specs.Prelude.{◌≡◌, Bool, true, List, ℕ, ◌+◌, ◌<◌, ◌≤◌, ◌++◌, [], ◌∷◌, length, get_or, take}
use Rattle.std.proofs.Common.{inl, inr, sym, ap, subst, ◌∙◌}
use Rattle.std.specs.Cmp.{Equal-is}
use Rattle.std.specs.List.{Contains}
use Rattle.std.proofs.lemmas.List.{take_more}
use Rattle.std.proofs.lemmas.List.Elements.{Contains-get_or, Contains-append_cases}
use Rattle.fl_labels.specs.Cap.{cap_cmp}
use Rattle.fl_labels.specs.CapOrder.{cap_exact, cap_tied}
use Rattle.fl_labels.specs.contracts.cap.CapPartialEq.TheImpl as caps
use Rattle.fl_labels.specs.declared.cap.Cap.{Cap}
use Rattle.fl_closure.proofs.Members.{none, one, in_all}

pub same_cap : (a b : Cap) (r : Bool) → r ≡ caps.ghosts.eq a b → r ≡ true → a ≡ b
same_cap a b r e h = cap_exact a b ((Equal-is (cap_cmp a b)).0 (sym (cap_tied a b) ∙ sym e ∙ h))

-- none of these has P
abbrev pub NoneOf : (Cap → Type 0) → List Cap → Type 0
NoneOf P roots = (root : Cap) → Contains roots root → ¬ P root

module _ (P : Cap → Type 0) (roots : List Cap) where
  pub none_yet : NoneOf P (take 0 roots)
  none_yet root h = by roots h
    where
      by : (xs : List Cap) → Contains (take 0 xs) root → P root → ⊥
      by [] m = absurd (none _ m)
      by (x ∷ xs) m = absurd (none _ m)

  pub none_more : (i : ℕ) (this : Cap) → i < length roots → this ≡ get_or roots i this
      → NoneOf P (take i roots) → ¬ P this → NoneOf P (take (i + 1) roots)
  none_more i this within at front last root h =
      let split = Contains-append_cases (take i roots) (this ∷ []) root (subst (λ xs. Contains xs root) (take_more roots i this within ∙ ap (λ x. take i roots ++ x ∷ []) (sym at)) h) in
      elim split [ inl m ↦ front root m | inr m ↦ λ l. last (subst P (sym (one m)) l) ]

  pub none_at_all : (i : ℕ) → length roots ≤ i → NoneOf P (take i roots) → NoneOf P roots
  none_at_all i whole front root h = front root (in_all roots i root whole h)

  pub one_at : (i : ℕ) (this : Cap) → i < length roots → this ≡ get_or roots i this → P this
      → (root : Cap) × Contains roots root × P root
  one_at i this within at l =
      (this, subst (Contains roots) (sym at) (Contains-get_or roots i this within), l)
