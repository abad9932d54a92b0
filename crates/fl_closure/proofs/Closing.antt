-- Rows closed under one operation more.
use Rattle.std.specs.Prelude.{◌≡◌, ◌⊎◌, ◌↔◌, Option, Some, None, List, [], ◌∷◌, ◌++◌, ℕ, ◌+◌, ◌<◌, length, get_or, take, refl}
use Rattle.std.proofs.Common.{inl, inr, sym, ap, subst, ◌∙◌}
use Rattle.std.proofs.lemmas.List.{take_more}
use Rattle.std.proofs.lemmas.List.Elements.{Contains-push, Contains-push_cases, Contains-append_left}
use Rattle.fl_labels.specs.SetBy.{SetBy, In}
use Rattle.fl_labels.specs.declared.name.Name.{Name}
use Rattle.fl_labels.specs.declared.cap.Cap.{Cap}
use Rattle.fl_labels.specs.declared.cap.Cap.TheVariants.{Plus, Minus, Use, Grow}
use Rattle.fl_ops.specs.declared.op.Op.{Op}
use Rattle.fl_ops.specs.declared.op.Body.TheVariants.{MakeTag, Open}
use Rattle.fl_ops.specs.declared.op.Policy.TheVariants.{Export, Integrity}
use Rattle.fl_ops.specs.OpOrder.{op_cmp}
use Rattle.fl_ops.specs.Registry.{open_op, IsGlobal}
use Rattle.fl_closure.specs.declared.rows.Rows.{Rows}
use Rattle.fl_closure.specs.declared.rows.Owner.{Owner}
use Rattle.fl_closure.specs.declared.rows.Owner.TheVariants.{Everybody, Group}
use Rattle.fl_closure.specs.declared.closed.Entry.{Entry}
use Rattle.fl_closure.specs.parts.Closed.{entry, Alone, Gives, IsGiven, Renews, With, ClosesWith}
use Rattle.fl_closure.proofs.Members.{none}
use Rattle.fl_closure.proofs.Growing.{GivesMore, renewed, same_gifts}

-- what an operation gives, as it is told
abbrev pub AreGifts : Op → Option Entry → Type 0
AreGifts op told = (h : Owner) (x : Cap) → Gives op h x ↔ (told ≡ Some (entry h x))

-- the parts of what is told
abbrev owner_in : Option Entry → Owner
owner_in None = Everybody
owner_in (Some e) = e.owner

abbrev cap_in : Cap → Option Entry → Cap
cap_in c None = c
cap_in c (Some e) = e.cap

pub first_part : {h k : Owner} {x y : Cap} → Some (entry h x) ≡ Some (entry k y) → h ≡ k
first_part e = ap owner_in e

pub second_part : {h k : Owner} {x y : Cap} → Some (entry h x) ≡ Some (entry k y) → x ≡ y
second_part {x} e = ap (cap_in x) e

-- an operation that opens a group gives everybody the use of it
module _ (name group : Name) where
  abbrev this : Op
  this = open_op name group

  to : (x : Cap) → IsGlobal (Alone this) x → Some (entry Everybody (Use group)) ≡ Some (entry Everybody x)
  to (Plus tag) e = absurd (never (ap (λ (o : Op). o.body) e))
    where
      never : MakeTag Export ≡ Open group → ⊥
      never e = absurd (cc)
  to (Minus tag) e = absurd (never (ap (λ (o : Op). o.body) e))
    where
      never : MakeTag Integrity ≡ Open group → ⊥
      never e = absurd (cc)
  to (Use g) (other, e) = ap (λ k. Some (entry Everybody (Use k))) (same (ap (λ (o : Op). o.body) e))
    where
      same : Open g ≡ Open group → group ≡ g
      same e = cc
  to (Grow g) h = absurd h

  from : (x : Cap) → Some (entry Everybody (Use group)) ≡ Some (entry Everybody x) → IsGlobal (Alone this) x
  from x e = subst (IsGlobal (Alone this)) (second_part e) (name, refl)

  not_group : (g : Name) (x : Cap) → Some (entry Everybody (Use group)) ≡ Some (entry (Group g) x) → ⊥
  not_group g x e = never (first_part e)
    where
      never : Everybody ≡ Group g → ⊥
      never e = absurd (cc)

  opened_gift : AreGifts this (Some (entry Everybody (Use group)))
  opened_gift (Group g) x = (λ p. absurd p, λ e. absurd (not_group g x e))
  opened_gift Everybody x = (to x, from x)

pub open_gift : (op : Op) (group : Name) → op.body ≡ Open group → AreGifts op (Some (entry Everybody (Use group)))
open_gift op group is = subst (λ b. AreGifts (record { name = op.name; body = b }) (Some (entry Everybody (Use group)))) (sym is) (opened_gift op.name group)

pub closes_none : (rows : Rows) → ClosesWith rows [] rows
closes_none rows s closed = same_gifts (λ o h. inl h) only closed
  where
    only : (h : Owner) (x : Cap) → IsGiven (With s []) h x → IsGiven (In s) h x
    only h x (o, inl m, p) = (o, m, p)
    only h x (o, inr m, p) = absurd (none o m)

module _ (s : SetBy op_cmp) (front : List Op) (op : Op) where
  with_more : (o : Op) → With s front o → With s (front ++ op ∷ []) o
  with_more o (inl m) = inl m
  with_more o (inr m) = inr (Contains-append_left front (op ∷ []) o m)

  with_cases : (o : Op) → With s (front ++ op ∷ []) o → With s front o ⊎ (op ≡ o)
  with_cases o (inl m) = inl (inl m)
  with_cases o (inr m) = elim (Contains-push_cases front op o m) [ inl k ↦ inl (inr k) | inr e ↦ inr e ]

  gift_cases : (h : Owner) (x : Cap) → IsGiven (With s (front ++ op ∷ [])) h x → IsGiven (With s front) h x ⊎ Gives op h x
  gift_cases h x p = elim (with_cases p.0 p.1) [
    | inl k ↦ inl (p.0, k, p.2)
    | inr e ↦ inr (subst (λ o. Gives o h x) (sym e) p.2)
  ]

  one_gift : (told : Option Entry) (owner : Owner) (c : Cap) → AreGifts op told → told ≡ Some (entry owner c)
      → GivesMore (With s front) (With s (front ++ op ∷ [])) owner c
  one_gift told owner c gifts is = record {
    more = with_more;
    new = (op, inr (Contains-push front op), (gifts owner c).1 is);
    only = λ h x p. elim (gift_cases h x p) [
      | inl k ↦ inl k
      | inr q ↦ let e = sym ((gifts h x).0 q) ∙ is in inr (first_part e, second_part e)
    ];
  }

  no_gift : (told : Option Entry) → AreGifts op told → told ≡ None → (h : Owner) (x : Cap)
      → IsGiven (With s (front ++ op ∷ [])) h x → IsGiven (With s front) h x
  no_gift told gifts is h x p = elim (gift_cases h x p) [ inl k ↦ k | inr q ↦ absurd (never h x (sym is ∙ (gifts h x).0 q)) ]
    where
      never : (h : Owner) (x : Cap) → None ≡ Some (entry h x) → ⊥
      never h x e = absurd (cc)

module _ (old mid : Rows) (ops : List Op) (i : ℕ) (op : Op) where
  on_to : (new : Rows) → i < length ops → op ≡ get_or ops i op → ClosesWith old (take i ops ++ op ∷ []) new
      → ClosesWith old (take (i + 1) ops) new
  on_to new within at h =
      subst (λ xs. ClosesWith old xs new) (sym (take_more ops i op within ∙ ap (λ o. take i ops ++ o ∷ []) (sym at))) h

  pub closes_gift : (told : Option Entry) (owner : Owner) (c : Cap) → i < length ops → op ≡ get_or ops i op
      → AreGifts op told → told ≡ Some (entry owner c) → ClosesWith old (take i ops) mid → (new : Rows) → Renews mid owner c new
      → ClosesWith old (take (i + 1) ops) new
  closes_gift told owner c within at gifts is closes new renews =
      on_to new within at (λ s k. renewed (closes s k) new (one_gift s (take i ops) op told owner c gifts is) renews)

  pub closes_other : (told : Option Entry) → i < length ops → op ≡ get_or ops i op → AreGifts op told → told ≡ None
      → ClosesWith old (take i ops) mid → ClosesWith old (take (i + 1) ops) mid
  closes_other told within at gifts is closes =
      on_to mid within at (λ s k. same_gifts (with_more s (take i ops) op) (no_gift s (take i ops) op told gifts is) (closes s k))
