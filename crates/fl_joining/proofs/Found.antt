-- The least name among those that were found, node by node.
use Rattle.std.proofs.Common.{◌≡◌, ◌∙◌, ◌⊎◌, inl, inr, sym, ap, subst, ℕ, List, [], ◌∷◌, ◌++◌, Option, None}
use Rattle.std.proofs.lemmas.List.{append-nil, append_assoc}
use Rattle.fl_labels.specs.SetBy.{SetBy, In}
use Rattle.fl_labels.specs.declared.name.Name.{Name}
use Rattle.fl_ops.specs.OpOrder.{op_cmp}
use Rattle.fl_gossip.specs.Meeting.{FindsLeast, IsClashOf, IsStrayOf, OfSome, lesser_of}
use Rattle.fl_gossip.specs.laws.Leasts.{least_either, least_of_more, least_of_none, least_same}
use Rattle.fl_node.specs.Over.{NodeOver}
use Rattle.fl_joining.specs.Against.{ClashesWith, StraysWith}

-- the least of the names of those that were seen, before the rest
pub record LeastSoFar {X : Type 0} (P : X → Name → Type 0) (all rest : List X) (least : Option Name) : Type 0 where
  pub seen : List X
  pub split : all ≡ seen ++ rest
  pub finds : FindsLeast (OfSome P seen) least

module _ {X : Type 0} (P : X → Name → Type 0) (all : List X) where
  pub least_start : (rest : List X) → rest ≡ all → LeastSoFar P all rest None
  least_start rest e = record { seen = []; split = sym e; finds = least_of_none P }

  pub least_step : (rest after : List X) (x : X) (a b r : Option Name) → rest ≡ x ∷ after → r ≡ lesser_of a b → LeastSoFar P all rest a
      → FindsLeast (P x) b → LeastSoFar P all after r
  least_step rest after x a b r e is so_far finds = record {
    seen = so_far.seen ++ x ∷ [];
    split = so_far.split ∙ ap (λ l. so_far.seen ++ l) e ∙ sym (append_assoc so_far.seen (x ∷ []) after);
    finds = subst (FindsLeast (OfSome P (so_far.seen ++ x ∷ []))) (sym is) (least_of_more P so_far.seen x a b so_far.finds finds);
  }

  pub least_end : (rest : List X) (a : Option Name) → rest ≡ [] → LeastSoFar P all rest a → FindsLeast (OfSome P all) a
  least_end rest a e so_far =
      subst (λ l. FindsLeast (OfSome P l) a) (sym (so_far.split ∙ ap (λ l. so_far.seen ++ l) e ∙ append-nil so_far.seen)) so_far.finds

-- ---- what was found by one node

pub clash_finds : {K : Type 0} (saved others : SetBy op_cmp) (e : ℕ × NodeOver K) (r : Option Name) → others ≡ e.1.node.saved
    → FindsLeast (IsClashOf (In saved) (In others)) r → FindsLeast (ClashesWith saved e) r
clash_finds saved others e r same h = least_same (IsClashOf (In saved) (In others)) (ClashesWith saved e)
    (λ k c. record { clash = subst (λ s. IsClashOf (In saved) (In s) k) same c })
    (λ k c. subst (λ s. IsClashOf (In saved) (In s) k) (sym same) c.clash) r h

pub stray_finds : {K : Type 0} (saved others : SetBy op_cmp) (number : ℕ) (e : ℕ × NodeOver K) (a b r : Option Name) → others ≡ e.1.node.saved
    → r ≡ lesser_of a b → FindsLeast (IsStrayOf (In saved) (In others) e.0) a → FindsLeast (IsStrayOf (In others) (In saved) number) b
    → FindsLeast (StraysWith number saved e) r
stray_finds saved others number e a b r same is brought awaited =
    subst (FindsLeast (StraysWith number saved e)) (sym is)
    (least_same (λ k. IsStrayOf (In saved) (In others) e.0 k ⊎ IsStrayOf (In others) (In saved) number k) (StraysWith number saved e) to from (lesser_of a b)
    (least_either (IsStrayOf (In saved) (In others) e.0) (IsStrayOf (In others) (In saved) number) a b brought awaited))
  where
    to : (k : Name) → IsStrayOf (In saved) (In others) e.0 k ⊎ IsStrayOf (In others) (In saved) number k → StraysWith number saved e k
    to k (inl h) = StraysWith.brought (subst (λ s. IsStrayOf (In saved) (In s) e.0 k) same h)
    to k (inr h) = StraysWith.awaited (subst (λ s. IsStrayOf (In s) (In saved) number k) same h)

    from : (k : Name) → StraysWith number saved e k → IsStrayOf (In saved) (In others) e.0 k ⊎ IsStrayOf (In others) (In saved) number k
    from k (StraysWith.brought h) = inl (subst (λ s. IsStrayOf (In saved) (In s) e.0 k) (sym same) h)
    from k (StraysWith.awaited h) = inr (subst (λ s. IsStrayOf (In s) (In saved) number k) (sym same) h)
