-- The tags that are lost on the way from one list to another.
use Rattle.std.proofs.Common.{◌≡◌, ◌↔◌, inl, inr, false, List, [], refl, sym, ap, subst, Option, Some, None, Less, Equal, Greater, Ordering}
use Rattle.std.specs.Ordering.{is_gt, ordering_then}
use Rattle.std.proofs.lemmas.Bool.{false≢true}
use Rattle.fl_labels.specs.declared.name.Name.{Name}
use Rattle.fl_labels.specs.declared.cap.Cap.{Cap}
use Rattle.fl_labels.specs.declared.cap.Cap.TheVariants.{Minus}
use Rattle.fl_labels.specs.Name.{name_cmp}
use Rattle.fl_labels.specs.Cap.{cap_name}
use Rattle.fl_labels.specs.Found.{Found, FoundAs}
use Rattle.fl_labels.specs.laws.Searches.{found_as}
use Rattle.fl_rules.specs.parts.Walk.{OnlyIn, Turns, Heads, Leads}

level : (o : Ordering) → is_gt (ordering_then o Equal) ≡ false → is_gt o ≡ false
level Less e = refl
level Equal e = refl
level Greater e = e

module _ {old new old_rest new_rest : List Name} (D : Name → Type 0) where
  passed_as : (x : Name) → Heads (Minus x) (Turns old new) (Turns old_rest new_rest) → D x → (r : Option Name)
      → FoundAs name_cmp (OnlyIn old_rest new_rest) D r → FoundAs name_cmp (OnlyIn old new) D r
  passed_as x h d None found =
      λ t p. elim ((h.parts (Minus t)).0 p) [ inl same ↦ subst D (sym (ap cap_name same)) d | inr q ↦ found t q ]
  passed_as x h d (Some y) found = record {
    member = (h.parts (Minus y)).1 (inr found.member);
    lacking = found.lacking;
    least =
        λ t p n. elim ((h.parts (Minus t)).0 p) [ inl same ↦ absurd (n (subst D (sym (ap cap_name same)) d)) | inr q ↦ found.least t q n ];
  }

  -- a step that loses no tag
  none_lost : (cap : Option Cap) → Leads cap (Turns old new) (Turns old_rest new_rest)
      → ((x : Name) → cap ≡ Some (Minus x) → ⊥) → (t : Name) → OnlyIn old new t ↔ OnlyIn old_rest new_rest t
  none_lost None leads n t = leads (Minus t)
  none_lost (Some first) h n t =
      (λ p. elim ((h.parts (Minus t)).0 p) [ inl same ↦ absurd (n t (ap Some (sym same))) | inr q ↦ q ], λ q. (h.parts (Minus t)).1 (inr q))

  module _ (cap : Option Cap) (leads : Leads cap (Turns old new) (Turns old_rest new_rest)) where
    pub passed : (x : Name) → cap ≡ Some (Minus x) → D x → (r : Option Name)
        → Found name_cmp (OnlyIn old_rest new_rest) D r → Found name_cmp (OnlyIn old new) D r
    passed x is d r found = record { is = passed_as x (subst (λ o. Leads o (Turns old new) (Turns old_rest new_rest)) is leads) d r found.is }

    pub skipped : ((x : Name) → cap ≡ Some (Minus x) → ⊥) → (r : Option Name)
        → Found name_cmp (OnlyIn old_rest new_rest) D r → Found name_cmp (OnlyIn old new) D r
    skipped n r found =
        let same = none_lost cap leads n in
        found_as r (λ t q. (same t).1 q) (λ t p. (same t).0 p) (λ t d. d) (λ t d. d) found

pub stopped : {old new : List Name} (old_rest new_rest : List Name) (D : Name → Type 0) (cap : Option Cap)
    → Leads cap (Turns old new) (Turns old_rest new_rest)
    → (x : Name) → cap ≡ Some (Minus x) → ¬ D x → Found name_cmp (OnlyIn old new) D (Some x)
stopped {old} {new} old_rest new_rest D cap leads x is n =
    let h : Heads (Minus x) (Turns old new) (Turns old_rest new_rest) = subst (λ o. Leads o (Turns old new) (Turns old_rest new_rest)) is leads in
    record { is = record { member = h.member; lacking = n; least = λ t p _. level (name_cmp x t) (h.least (Minus t) p) } }

-- nothing is left
pub at_end : (D : Name → Type 0) (xs ys : List Name) → xs ≡ [] → Found name_cmp (OnlyIn xs ys) D None
at_end D xs ys e =
    subst (λ l. Found name_cmp (OnlyIn l ys) D None) (sym e) (record { is = λ t h. absurd (false≢true h.here) })
