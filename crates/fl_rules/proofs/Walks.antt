-- Steps along two lists of tags that rise.
use Rattle.std.proofs.Common.{arith, ◌≡◌, ◌↔◌, ◌⊎◌, inl, inr, Bool, true, false, ◌||◌, List, [], ◌∷◌, length, refl, sym, ap, subst, ◌∙◌, Option, Some, None, MatchOption, Ordering, Less, Equal, Greater}
use Rattle.std.specs.Cmp.{Equal-is, tied_itself}
use Rattle.std.specs.List.{AllByRecursion}
use Rattle.std.specs.List.Sorted.{IsStrictlySortedBy}
use Rattle.std.specs.Ordering.{eq_by_cmp, is_eq, is_gt, ordering_then, ordering_reverse}
use Rattle.std.proofs.lemmas.Bool.{or_cases, false≢true}
use Rattle.std.proofs.lemmas.Map.Keys.{sorted_head, sorted_tail}
use Rattle.fl_labels.specs.declared.name.Name.{Name}
use Rattle.fl_labels.specs.declared.cap.Cap.{Cap}
use Rattle.fl_labels.specs.declared.cap.Cap.TheVariants.{Plus, Minus, Use, Grow}
use Rattle.fl_labels.specs.Name.{name_cmp}
use Rattle.fl_labels.specs.Cap.{cap_cmp}
use Rattle.fl_labels.specs.CapOrder.{cap_total}
use Rattle.fl_labels.specs.NameOrder.{name_total, name_exact}
use Rattle.fl_labels.specs.SetBy.{SetBy, members, members_rise, contains-members}
use Rattle.fl_labels.specs.Found.{Found, FoundAs, Within, IsLeastOutside}
use Rattle.fl_labels.specs.Caps.{Caps}
use Rattle.fl_rules.specs.Safety.{Takes, SafeChange}
use Rattle.fl_rules.specs.parts.Walk.{among, OnlyIn, Turns, Heads, Leads, Splits}

-- the tag comes before each of these
abbrev Before : Name → List Name → Type 0
Before x tags = AllByRecursion (λ y. name_cmp x y ≡ Less) tags

or_true : (a b : Bool) → b ≡ true → (a || b) ≡ true
or_true true b e = refl
or_true false b e = e

or_false : (a b : Bool) → (a || b) ≡ false → (a ≡ false) × (b ≡ false)
or_false true b e = absurd (false≢true (sym e))
or_false false b e = (refl, e)

both_false : (a b : Bool) → a ≡ false → b ≡ false → (a || b) ≡ false
both_false a b e h = cc

tied : (t x : Name) → eq_by_cmp name_cmp t x ≡ true → t ≡ x
tied t x e = name_exact t x ((Equal-is (name_cmp t x)).0 e)

itself : (x : Name) → eq_by_cmp name_cmp x x ≡ true
itself x = ap is_eq (tied_itself name_total x)

-- what comes before all of these comes before each
above : (x t : Name) (tags : List Name) → Before x tags → among t tags ≡ true → name_cmp x t ≡ Less
above x t [] all h = absurd (false≢true h)
above x t (y ∷ tags) all h =
    elim (or_cases _ _ h) [ inl e ↦ ap (name_cmp x) (tied t y e) ∙ all.0 | inr e ↦ above x t tags all.1 e ]

-- and is none of them
apart : (x t : Name) (tags : List Name) → Before x tags → among t tags ≡ true → eq_by_cmp name_cmp t x ≡ false
apart x t tags all h = go (eq_by_cmp name_cmp t x) refl
  where
    go : (b : Bool) → eq_by_cmp name_cmp t x ≡ b → b ≡ false
    go false e = refl
    go true e =
        let less : name_cmp x t ≡ Less = above x t tags all h in
        let equal : name_cmp x t ≡ Equal = ap (name_cmp x) (tied t x e) ∙ tied_itself name_total x in
        absurd (cc)

none_of : (x : Name) (tags : List Name) → Before x tags → among x tags ≡ false
none_of x tags all = go (among x tags) refl
  where
    go : (b : Bool) → among x tags ≡ b → b ≡ false
    go false e = refl
    go true e = absurd (false≢true (sym (apart x x tags all e) ∙ itself x))

-- what is less than the first of a list that rises comes before all of it
before_all : (x y : Name) (tags : List Name) → name_cmp x y ≡ Less → Before y tags → Before x tags
before_all x y [] less all = tt
before_all x y (z ∷ tags) less all = (name_total.trans x y z less all.0, before_all x y tags less all.1)

pub before : (x y : Name) (tags : List Name) → name_cmp x y ≡ Less → IsStrictlySortedBy name_cmp (y ∷ tags)
    → Before x (y ∷ tags)
before x y tags less up = (less, before_all x y tags less (sorted_head name_cmp y tags up))

less_first : (x t : Name) (o : Ordering) → name_cmp x t ≡ Less → is_gt (ordering_then (name_cmp x t) o) ≡ false
less_first x t o e = rw e refl

-- a tag that only the first list has
module _ (x : Name) (old new : List Name) (rises : IsStrictlySortedBy name_cmp (x ∷ old)) (first : Before x new) where
  lost_here : OnlyIn (x ∷ old) new x
  lost_here = record { here = subst (λ b. (b || among x old) ≡ true) (sym (itself x)) refl; not_there = none_of x new first }

  lost_to : (cap : Cap) → Turns (x ∷ old) new cap → (cap ≡ Minus x) ⊎ Turns old new cap
  lost_to (Plus t) h = inr (record { here = h.here; not_there = (or_false _ _ h.not_there).1 })
  lost_to (Minus t) h =
      elim (or_cases _ _ h.here) [ inl e ↦ inl (ap Minus (tied t x e)) | inr e ↦ inr (record { here = e; not_there = h.not_there }) ]
  lost_to (Use g) h = absurd h
  lost_to (Grow g) h = absurd h

  lost_more : (cap : Cap) → Turns old new cap → Turns (x ∷ old) new cap
  lost_more (Plus t) h = record { here = h.here; not_there = both_false _ _ (apart x t new first h.here) h.not_there }
  lost_more (Minus t) h = record { here = or_true _ _ h.here; not_there = h.not_there }
  lost_more (Use g) h = h
  lost_more (Grow g) h = h

  lost_from : (cap : Cap) → (cap ≡ Minus x) ⊎ Turns old new cap → Turns (x ∷ old) new cap
  lost_from cap (inl e) = subst (Turns (x ∷ old) new) (sym e) lost_here
  lost_from cap (inr h) = lost_more cap h

  lost_below : (cap : Cap) → Turns old new cap → is_gt (cap_cmp (Minus x) cap) ≡ false
  lost_below (Plus t) h = less_first x t _ (above x t new first h.here)
  lost_below (Minus t) h = less_first x t _ (above x t old (sorted_head name_cmp x old rises) h.here)
  lost_below (Use g) h = absurd h
  lost_below (Grow g) h = absurd h

  lost_least : (cap : Cap) → (cap ≡ Minus x) ⊎ Turns old new cap → is_gt (cap_cmp (Minus x) cap) ≡ false
  lost_least cap (inl e) = ap is_gt (ap (cap_cmp (Minus x)) e ∙ tied_itself cap_total (Minus x))
  lost_least cap (inr h) = lost_below cap h

  pub splits_lost : IsStrictlySortedBy name_cmp new → Splits (x ∷ old) new (Some (Minus x)) old new
  splits_lost up = record {
    old_rises = sorted_tail name_cmp x old rises;
    new_rises = up;
    shorter = omega arith;
    leads = record { member = lost_here; least = λ cap h. lost_least cap (lost_to cap h); parts = λ cap. (lost_to cap, lost_from cap) };
  }

-- a tag that only the second list has
module _ (x : Name) (old new : List Name) (rises : IsStrictlySortedBy name_cmp (x ∷ new)) (first : Before x old) where
  gained_here : OnlyIn (x ∷ new) old x
  gained_here = record { here = subst (λ b. (b || among x new) ≡ true) (sym (itself x)) refl; not_there = none_of x old first }

  gained_to : (cap : Cap) → Turns old (x ∷ new) cap → (cap ≡ Plus x) ⊎ Turns old new cap
  gained_to (Plus t) h =
      elim (or_cases _ _ h.here) [ inl e ↦ inl (ap Plus (tied t x e)) | inr e ↦ inr (record { here = e; not_there = h.not_there }) ]
  gained_to (Minus t) h = inr (record { here = h.here; not_there = (or_false _ _ h.not_there).1 })
  gained_to (Use g) h = absurd h
  gained_to (Grow g) h = absurd h

  gained_more : (cap : Cap) → Turns old new cap → Turns old (x ∷ new) cap
  gained_more (Plus t) h = record { here = or_true _ _ h.here; not_there = h.not_there }
  gained_more (Minus t) h = record { here = h.here; not_there = both_false _ _ (apart x t old first h.here) h.not_there }
  gained_more (Use g) h = h
  gained_more (Grow g) h = h

  gained_from : (cap : Cap) → (cap ≡ Plus x) ⊎ Turns old new cap → Turns old (x ∷ new) cap
  gained_from cap (inl e) = subst (Turns old (x ∷ new)) (sym e) gained_here
  gained_from cap (inr h) = gained_more cap h

  gained_below : (cap : Cap) → Turns old new cap → is_gt (cap_cmp (Plus x) cap) ≡ false
  gained_below (Plus t) h = less_first x t _ (above x t new (sorted_head name_cmp x new rises) h.here)
  gained_below (Minus t) h = less_first x t _ (above x t old first h.here)
  gained_below (Use g) h = absurd h
  gained_below (Grow g) h = absurd h

  gained_least : (cap : Cap) → (cap ≡ Plus x) ⊎ Turns old new cap → is_gt (cap_cmp (Plus x) cap) ≡ false
  gained_least cap (inl e) = ap is_gt (ap (cap_cmp (Plus x)) e ∙ tied_itself cap_total (Plus x))
  gained_least cap (inr h) = gained_below cap h

  pub splits_gained : IsStrictlySortedBy name_cmp old → Splits old (x ∷ new) (Some (Plus x)) old new
  splits_gained up = record {
    old_rises = up;
    new_rises = sorted_tail name_cmp x new rises;
    shorter = omega arith;
    leads = record { member = gained_here; least = λ cap h. gained_least cap (gained_to cap h); parts = λ cap. (gained_to cap, gained_from cap) };
  }

-- a tag that both lists have
module _ (x : Name) (old new : List Name) (old_rises : IsStrictlySortedBy name_cmp (x ∷ old)) (new_rises : IsStrictlySortedBy name_cmp (x ∷ new)) where
  only_rest : (these others : List Name) (t : Name) → OnlyIn (x ∷ these) (x ∷ others) t → OnlyIn these others t
  only_rest these others t h =
      let parts = or_false (eq_by_cmp name_cmp t x) (among t others) h.not_there in
      record { here = elim (or_cases _ _ h.here) [ inl e ↦ absurd (false≢true (sym parts.0 ∙ e)) | inr e ↦ e ]; not_there = parts.1 }

  only_more : (these others : List Name) (t : Name) → Before x these → OnlyIn these others t
      → OnlyIn (x ∷ these) (x ∷ others) t
  only_more these others t first h = record { here = or_true _ _ h.here; not_there = both_false _ _ (apart x t these first h.here) h.not_there }

  both_to : (cap : Cap) → Turns (x ∷ old) (x ∷ new) cap → Turns old new cap
  both_to (Plus t) h = only_rest new old t h
  both_to (Minus t) h = only_rest old new t h
  both_to (Use g) h = h
  both_to (Grow g) h = h

  both_from : (cap : Cap) → Turns old new cap → Turns (x ∷ old) (x ∷ new) cap
  both_from (Plus t) h = only_more new old t (sorted_head name_cmp x new new_rises) h
  both_from (Minus t) h = only_more old new t (sorted_head name_cmp x old old_rises) h
  both_from (Use g) h = h
  both_from (Grow g) h = h

  pub splits_both : Splits (x ∷ old) (x ∷ new) None old new
  splits_both = record {
    old_rises = sorted_tail name_cmp x old old_rises;
    new_rises = sorted_tail name_cmp x new new_rises;
    shorter = omega arith;
    leads = λ cap. (both_to cap, both_from cap);
  }

empty : (tags : List Name) → length tags ≡ 0 → tags ≡ []
empty [] e = refl
empty (x ∷ tags) e = absurd (omega (arith, e))

module _ (x : Name) (xs ys rest : List Name) (e : xs ≡ x ∷ rest) (f : length ys ≡ 0) (up : IsStrictlySortedBy name_cmp xs) (vp : IsStrictlySortedBy name_cmp ys) where
  pub lost_alone : Splits xs ys (Some (Minus x)) rest ys
  lost_alone =
      subst (λ l. Splits l ys (Some (Minus x)) rest ys) (sym e) (splits_lost x rest ys (subst (IsStrictlySortedBy name_cmp) e up) (subst (Before x) (sym (empty ys f)) tt) vp)

  pub gained_alone : Splits ys xs (Some (Plus x)) ys rest
  gained_alone =
      subst (λ l. Splits ys l (Some (Plus x)) ys rest) (sym e) (splits_gained x ys rest (subst (IsStrictlySortedBy name_cmp) e up) (subst (Before x) (sym (empty ys f)) tt) vp)

module _ (x y : Name) (xs ys others rest : List Name) (e : xs ≡ x ∷ others) (f : ys ≡ y ∷ rest) (up : IsStrictlySortedBy name_cmp xs) (vp : IsStrictlySortedBy name_cmp ys) where
  pub lost_first : name_cmp x y ≡ Less → Splits xs ys (Some (Minus x)) others ys
  lost_first less = subst (λ l. Splits l ys (Some (Minus x)) others ys) (sym e)
      (splits_lost x others ys (subst (IsStrictlySortedBy name_cmp) e up) (subst (Before x) (sym f) (before x y rest less (subst (IsStrictlySortedBy name_cmp) f vp))) vp)

  pub gained_first : name_cmp x y ≡ Greater → Splits xs ys (Some (Plus y)) xs rest
  gained_first greater = subst (λ l. Splits xs l (Some (Plus y)) xs rest) (sym f)
      (splits_gained y xs rest (subst (IsStrictlySortedBy name_cmp) f vp) (subst (Before y) (sym e) (before y x others (name_total.antisymm y x ∙ ap ordering_reverse greater) (subst (IsStrictlySortedBy name_cmp) e up))) up)

  pub both_first : name_cmp x y ≡ Equal → Splits xs ys None others rest
  both_first equal =
      let same : y ∷ rest ≡ x ∷ rest = ap (λ n. n ∷ rest) (sym (name_exact x y equal)) in
      subst (λ l. Splits l ys None others rest) (sym e) (subst (λ l. Splits (x ∷ others) l None others rest) (sym (f ∙ same))
      (splits_both x others rest (subst (IsStrictlySortedBy name_cmp) e up) (subst (IsStrictlySortedBy name_cmp) (f ∙ same) vp)))

-- the least that P wants, from the least that Q wants
module _ {P Q : Caps} (E : Caps) where
  module _ (first : Cap) (h : Heads first P Q) where
    passed_as : E first → (r : Option Cap) → FoundAs cap_cmp Q E r → FoundAs cap_cmp P E r
    passed_as e None found = λ cap p. elim ((h.parts cap).0 p) [ inl same ↦ subst E (sym same) e | inr q ↦ found cap q ]
    passed_as e (Some k) found = record {
      member = (h.parts k).1 (inr found.member);
      lacking = found.lacking;
      least =
          λ cap p n. elim ((h.parts cap).0 p) [ inl same ↦ absurd (n (subst E (sym same) e)) | inr q ↦ found.least cap q n ];
    }

  same_as : ((cap : Cap) → P cap ↔ Q cap) → (r : Option Cap) → FoundAs cap_cmp Q E r → FoundAs cap_cmp P E r
  same_as same None found = λ cap p. found cap ((same cap).0 p)
  same_as same (Some k) found = record {
    member = (same k).1 found.member;
    lacking = found.lacking;
    least = λ cap p n. found.least cap ((same cap).0 p) n;
  }

  module _ (cap : Option Cap) (leads : Leads cap P Q) where
    pub passed : (first : Cap) → cap ≡ Some first → E first → (r : Option Cap) → Found cap_cmp Q E r
        → Found cap_cmp P E r
    passed first is e r found = record { is = passed_as first (subst (λ o. Leads o P Q) is leads) e r found.is }

    pub skipped : cap ≡ None → (r : Option Cap) → Found cap_cmp Q E r → Found cap_cmp P E r
    skipped is r found = record { is = same_as (subst (λ o. Leads o P Q) is leads) r found.is }

pub stopped : (E P Q : Caps) (cap : Option Cap) → Leads cap P Q → (first : Cap) → cap ≡ Some first → ¬ E first
    → Found cap_cmp P E (Some first)
stopped E P Q cap leads first is n =
    let heads : Heads first P Q = subst (λ o. Leads o P Q) is leads in
    record { is = record { member = heads.member; lacking = n; least = λ cap p _. heads.least cap p } }

-- nothing is left
pub at_end : (E : Caps) (xs ys : List Name) → xs ≡ [] → ys ≡ [] → Found cap_cmp (Turns xs ys) E None
at_end E xs ys e f =
    subst (λ l. Found cap_cmp (Turns l ys) E None) (sym e) (subst (λ l. Found cap_cmp (Turns [] l) E None) (sym f) (record { is = nothing }))
  where
    nothing : (cap : Cap) → Turns [] [] cap → E cap
    nothing (Plus t) h = absurd (false≢true h.here)
    nothing (Minus t) h = absurd (false≢true h.here)
    nothing (Use g) h = absurd h
    nothing (Grow g) h = absurd h

-- what labels take, their lists of members take
takes_turns : (old new : SetBy name_cmp) (cap : Cap) → Takes old new cap ↔ Turns (members old) (members new) cap
takes_turns old new (Plus t) =
    (λ h. record { here = sym (contains-members new t) ∙ h.here; not_there = sym (contains-members old t) ∙ h.not_there }, λ h. record { here = contains-members new t ∙ h.here; not_there = contains-members old t ∙ h.not_there })
takes_turns old new (Minus t) =
    (λ h. record { here = sym (contains-members old t) ∙ h.here; not_there = sym (contains-members new t) ∙ h.not_there }, λ h. record { here = contains-members old t ∙ h.here; not_there = contains-members new t ∙ h.not_there })
takes_turns old new (Use g) = (λ h. h, λ h. h)
takes_turns old new (Grow g) = (λ h. h, λ h. h)

-- what a search finds, said of each of its answers
found_match : (P E : Caps) (r : Option Cap) → FoundAs cap_cmp P E r
    → MatchOption r (Within P E) (IsLeastOutside cap_cmp P E)
found_match P E None h = h
found_match P E (Some cap) h = h

pub members_take : (E : Caps) (old new : SetBy name_cmp) (xs ys : List Name) (r : Option Cap) → xs ≡ members old
    → ys ≡ members new → Found cap_cmp (Turns xs ys) E r
    → MatchOption r (SafeChange E old new) (IsLeastOutside cap_cmp (Takes old new) E)
members_take E old new xs ys r e f found =
    let all : Found cap_cmp (Turns (members old) (members new)) E r = subst (λ l. Found cap_cmp (Turns (members old) l) E r) f (subst (λ l. Found cap_cmp (Turns l ys) E r) e found) in
    found_match (Takes old new) E r (same_as E (takes_turns old new) r all.is)

pub members_up : (s : SetBy name_cmp) (xs : List Name) → xs ≡ members s → IsStrictlySortedBy name_cmp xs
members_up s xs e = subst (IsStrictlySortedBy name_cmp) (sym e) (members_rise s)
