-- What operations give to everybody.
use Rattle.std.specs.Prelude.{◌≡◌, ◌⊎◌, ◌↔◌, Option, None, Some, List, [], ◌∷◌, ◌++◌, ℕ, ◌+◌, ◌<◌, length, get_or, take, refl}
use Rattle.std.proofs.Common.{inl, inr, sym, ap, subst, ◌∙◌}
use Rattle.std.proofs.lemmas.List.{take_more}
use Rattle.std.proofs.lemmas.List.Elements.{Contains-push, Contains-push_cases, Contains-append_left}
use Rattle.fl_labels.specs.declared.cap.Cap.{Cap}
use Rattle.fl_ops.specs.declared.op.Op.{Op}
use Rattle.fl_ops.specs.Registry.{Listed}
use Rattle.fl_closure.specs.declared.globals.Globals.{Globals}
use Rattle.fl_closure.specs.declared.block.Block.{Block}
use Rattle.fl_closure.specs.declared.rows.Owner.TheVariants.{Everybody}
use Rattle.fl_closure.specs.parts.Block.{IsIn}
use Rattle.fl_closure.specs.parts.Closed.{Gives as GivesBy, IsGiven}
use Rattle.fl_closure.specs.parts.Rows.{At, Adds}
use Rattle.fl_closure.specs.parts.Globals.{Has, GivesAll}
use Rattle.fl_closure.proofs.Members.{none}

-- what an operation gives to everybody, as it is told
abbrev IsGift : Op → Option Cap → Type 0
IsGift op told = (c : Cap) → GivesBy op Everybody c ↔ (told ≡ Some c)

cap_in : Cap → Option Cap → Cap
cap_in d None = d
cap_in d (Some c) = c

same : {c d : Cap} → Some c ≡ Some d → c ≡ d
unfolding cap_in
same {c} e = ap (cap_in c) e

pub gives_none : (globals : Globals) → GivesAll globals [] globals
gives_none globals = record {
  has = λ c. (λ h. inl h, λ h. elim h [ inl m ↦ m | inr g ↦ absurd (none g.0 g.1) ]);
}

module _ (old mid : Globals) (front : List Op) (op : Op) (gives : GivesAll old front mid) where
  more : (c : Cap) → Has old c ⊎ IsGiven (Listed front) Everybody c → Has old c ⊎ IsGiven (Listed (front ++ op ∷ [])) Everybody c
  more c (inl m) = inl m
  more c (inr g) = inr (g.0, Contains-append_left front (op ∷ []) _ g.1, g.2)

  by_gift : (c : Cap) → IsGiven (Listed (front ++ op ∷ [])) Everybody c → IsGiven (Listed front) Everybody c ⊎ GivesBy op Everybody c
  by_gift c (o, m, p) = elim (Contains-push_cases front op o m) [
    | inl k ↦ inl (o, k, p)
    | inr e ↦ inr (subst (λ x. GivesBy x Everybody c) (sym e) p)
  ]

  gives_more : (told : Option Cap) (new : Globals) (cap : Cap) (block : Block) → IsGift op told → told ≡ Some cap
      → ((c : Cap) → IsIn block c ↔ (c ≡ cap)) → Adds mid.given (At Everybody block) new.given → GivesAll old (front ++ op ∷ []) new
  gives_more told new cap block gifts is only adds = record {
    has = λ c. (
      λ h. elim ((adds.holds Everybody c).0 h) [
        | inl m ↦ more c ((gives.has c).0 m)
        | inr two ↦ inr (op, Contains-push front op, (gifts c).1 (is ∙ ap Some (sym ((only c).0 two.1))))
      ],
      λ h. (adds.holds Everybody c).1 (elim h [
        | inl m ↦ inl ((gives.has c).1 (inl m))
        | inr g ↦ elim (by_gift c g) [
          | inl k ↦ inl ((gives.has c).1 (inr k))
          | inr p ↦ inr (refl, (only c).1 (same (sym ((gifts c).0 p) ∙ is)))
        ]
      ]),
    );
  }

  gives_other : (told : Option Cap) → IsGift op told → ((c : Cap) → told ≡ Some c → ⊥)
      → GivesAll old (front ++ op ∷ []) mid
  gives_other told gifts never = record {
    has = λ c. (
      λ h. more c ((gives.has c).0 h),
      λ h. elim h [
        | inl m ↦ (gives.has c).1 (inl m)
        | inr g ↦ elim (by_gift c g) [ inl k ↦ (gives.has c).1 (inr k) | inr p ↦ absurd (never c ((gifts c).0 p)) ]
      ],
    );
  }

module _ (old mid : Globals) (ops : List Op) (i : ℕ) (op : Op) (within : i < length ops) (at : op ≡ get_or ops i op)
    (gives : GivesAll old (take i ops) mid) where
  on_to : (new : Globals) → GivesAll old (take i ops ++ op ∷ []) new → GivesAll old (take (i + 1) ops) new
  on_to new h =
      subst (λ xs. GivesAll old xs new) (sym (take_more ops i op within ∙ ap (λ o. take i ops ++ o ∷ []) (sym at))) h

  pub gives_at : (told : Option Cap) (new : Globals) (cap : Cap) (block : Block) → IsGift op told → told ≡ Some cap
      → ((c : Cap) → IsIn block c ↔ (c ≡ cap)) → Adds mid.given (At Everybody block) new.given → GivesAll old (take (i + 1) ops) new
  gives_at told new cap block gifts is only adds = on_to new (gives_more old mid (take i ops) op gives told new cap block gifts is only adds)

  pub gives_at_other : (told : Option Cap) → IsGift op told → ((c : Cap) → told ≡ Some c → ⊥)
      → GivesAll old (take (i + 1) ops) mid
  gives_at_other told gifts never = on_to mid (gives_other old mid (take i ops) op gives told gifts never)
