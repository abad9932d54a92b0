-- Pieces that pass one after another, as an iterator gives them.
use Rattle.std.proofs.Common.{◌≡◌, ◌∙◌, ap, subst, sym, ℕ, List, [], ◌∷◌, ◌++◌, Option, Result}
use Rattle.std.proofs.lemmas.List.{append_assoc, append-nil}
use Rattle.std.proofs.lemmas.List.Concat.{flat_map-append}
use Rattle.std.specs.List.{flat_map}
use Rattle.std.specs.Result.{IsErr}
use Rattle.fl_sink.specs.Sink.{Cuts, Passes, Puts}
use Rattle.fl_sink.specs.laws.Passing.{passes_none, passes_then, puts_stop, puts_then}

module _ {X : Type 0} (f : X → List ℕ) (all : List X) where
  -- those before the rest passed
  pub record IsPassed (rest : List X) (before after : Option (List ℕ)) (pending left : List ℕ)
      : Type 0 where
    pub done : List X
    pub split : all ≡ done ++ rest
    pub passes : Passes before after pending (flat_map f done) left

  pub passed_none : (rest : List X) → rest ≡ all → (a : Option (List ℕ)) (pending : List ℕ)
      → IsPassed rest a a pending pending
  passed_none rest is a pending = record {
    done = [];
    split = sym is;
    passes = subst (Passes a a pending []) (append-nil pending) (passes_none a pending []);
  }

  module _ {rest : List X} {a b : Option (List ℕ)} {pending left : List ℕ}
      (so_far : IsPassed rest a b pending left) where
    pub passed_more : (x : X) (later : List X) → rest ≡ x ∷ later → (c : Option (List ℕ))
        (after : List ℕ) → Passes b c left (f x) after → IsPassed later a c pending after
    passed_more x later is c after p = record {
      done = so_far.done ++ x ∷ [];
      split = so_far.split ∙ ap (λ l. so_far.done ++ l) is
          ∙ sym (append_assoc so_far.done (x ∷ []) later);
      passes = subst (λ text. Passes a c pending text after)
          (ap (λ y. flat_map f so_far.done ++ y) (sym (append-nil (f x)))
          ∙ sym (flat_map-append f so_far.done (x ∷ [])))
          (passes_then c (f x) after so_far.passes p);
    }

    whole : flat_map f all ≡ flat_map f so_far.done ++ flat_map f rest
    whole = ap (flat_map f) so_far.split ∙ flat_map-append f so_far.done rest

    pub passed_stop : (x : X) (later : List X) → rest ≡ x ∷ later → {T E : Type 0}
        {r : Result T E} {c : Option (List ℕ)} (after : List ℕ) → Cuts b c left (f x) → IsErr r
        → Puts a c pending (flat_map f all) after r
    passed_stop x later is {r = r} {c = c} after cut err =
        subst (λ text. Puts a c pending text after r)
        (sym (whole ∙ ap (λ l. flat_map f so_far.done ++ flat_map f l) is))
        (puts_then so_far.passes (puts_stop (flat_map f later) after cut err))

    pub passed_all : rest ≡ [] → Passes a b pending (flat_map f all) left
    passed_all is =
        subst (λ text. Passes a b pending text left)
        (sym (whole ∙ ap (λ l. flat_map f so_far.done ++ flat_map f l) is
        ∙ append-nil (flat_map f so_far.done)))
        so_far.passes
