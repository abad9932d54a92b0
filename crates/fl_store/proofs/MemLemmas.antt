-- What a call of a keeper in memory leaves to the next opening.
use Rattle.std.proofs.Common.{◌≡◌, ◌⊎◌, inl, inr, ◌∙◌, refl, sym, ap, subst, ℕ, true, false, zero, suc, List, [], ◌∷◌, length, get_or, ◌≤◌, ◌<◌, arith}
use Rattle.fl_labels.specs.SetBy as set
use Rattle.fl_labels.specs.SetBy.{SetBy}
use Rattle.fl_ops.specs.declared.op.Op.{Op}
use Rattle.fl_ops.specs.OpOrder.{op_cmp}
use Rattle.fl_ops.specs.OpLaws.{op_total, op_exact}
use Rattle.fl_store.specs.declared.health.Health.{Health}
use Rattle.fl_store.specs.declared.health.Health.TheVariants.{Sound, BreaksAfter, Broken}
use Rattle.fl_store.specs.Kept.{Kept, HasNamesOnce, AreNew, with_batch, with_ops}
use Rattle.fl_store.specs.Keeping.{Held, Follows}
use Rattle.fl_store.specs.MemKeeping.{MemKept, health_after, saved_after, is_broken_at}
use Rattle.fl_store.specs.laws.KeptSets.{once-more, with-none}

-- an opening finds this alone
abbrev pub Just : Kept → Held
Just kept k = k ≡ kept

-- with a set that a save leaves
abbrev pub with_saved : ℕ → ℕ → SetBy op_cmp → Kept
with_saved number boot saved = record { number = number; boot = boot; saved = saved }

module _ (ops : List Op) (kept : Kept) where
  just_saved : (health : Health) → is_broken_at (health_after health) ≡ false
      → Follows (λ k k'. k' ≡ with_batch k ops) (Just kept) (Just (record kept { saved = saved_after health kept.saved ops }))
  just_saved Sound serves after is = (kept, refl, is)
  just_saved (BreaksAfter zero keeps) serves after is = absurd (cc)
  just_saved (BreaksAfter (suc saves) keeps) serves after is = (kept, refl, is)
  just_saved Broken serves after is = absurd (cc)

  just_broken : (health : Health) → is_broken_at (health_after health) ≡ true
      → Follows (λ k k'. (k' ≡ k) ⊎ (k' ≡ with_batch k ops)) (Just kept) (Just (record kept { saved = saved_after health kept.saved ops }))
  just_broken Sound serves after is = absurd (cc)
  just_broken (BreaksAfter zero true) serves after is = (kept, refl, inr is)
  just_broken (BreaksAfter zero false) serves after is = (kept, refl, inl is)
  just_broken (BreaksAfter (suc saves) keeps) serves after is = absurd (cc)
  just_broken Broken serves after is = (kept, refl, inl is)

module _ (ops : List Op) (kept : Kept) (number boot : ℕ) (saved now : SetBy op_cmp) (after health : Health)
    (was : with_saved number boot saved ≡ kept) (is : now ≡ saved_after health saved ops) (so : after ≡ health_after health) where
  same : with_saved number boot now ≡ record kept { saved = saved_after health kept.saved ops }
  same = ap (with_saved number boot) is ∙ ap (λ (k : Kept). record k { saved = saved_after health k.saved ops }) was

  -- a save after which the keeper serves has added the batch
  pub saved_then : is_broken_at after ≡ false
      → Follows (λ k k'. k' ≡ with_batch k ops) (Just kept) (Just (with_saved number boot now))
  saved_then serves = subst (λ k. Follows (λ k k'. k' ≡ with_batch k ops) (Just kept) (Just k)) (sym same)
      (just_saved ops kept health (ap is_broken_at (sym so) ∙ serves))

  -- one after which it is broken has added it or not
  pub broken_then : is_broken_at after ≡ true
      → Follows (λ k k'. (k' ≡ k) ⊎ (k' ≡ with_batch k ops)) (Just kept) (Just (with_saved number boot now))
  broken_then broken = subst (λ k. Follows (λ k k'. (k' ≡ k) ⊎ (k' ≡ with_batch k ops)) (Just kept) (Just k)) (sym same)
      (just_broken ops kept health (ap is_broken_at (sym so) ∙ broken))

-- a keeper that breaks at no save, with a set
abbrev pub sound_with : ℕ → ℕ → SetBy op_cmp → MemKept
sound_with number boot saved = record { kept = with_saved number boot saved; health = Sound }

-- names still differ
pub once_after : (health : Health) (ops : List Op) (saved : SetBy op_cmp) → AreNew ops saved → HasNamesOnce saved
    → HasNamesOnce (saved_after health saved ops)
once_after Sound ops saved new once = once-more ops saved new once
once_after (BreaksAfter zero true) ops saved new once = once-more ops saved new once
once_after (BreaksAfter zero false) ops saved new once = once
once_after (BreaksAfter (suc saves) keeps) ops saved new once = once-more ops saved new once
once_after Broken ops saved new once = once

-- a set of no members has none
pub none_saved : (saved : SetBy op_cmp) → set.len saved ≡ 0 → saved ≡ set.empty
none_saved saved none =
    sym (set.of_list-members op_total op_exact saved)
    ∙ go (set.members saved) (sym (set.len-members saved) ∙ none)
  where
    go : (ops : List Op) → length ops ≡ 0 → set.of_list {R = op_cmp} ops ≡ set.empty
    go [] none = refl
    go (op ∷ ops) none = absurd (omega (arith, none))

-- with the operations of a list that has none
pub add_none : (saved : SetBy op_cmp) (ops : List Op) → length ops ≡ 0 → saved ≡ with_ops saved ops
add_none saved [] none = sym (with-none saved)
add_none saved (op ∷ ops) none = absurd (omega (arith, none))

-- a list of one item
pub one_item : {X : Type 0} (xs : List X) (x : X) → 1 ≤ length xs → length xs < 2 → x ≡ get_or xs 0 x → xs ≡ x ∷ []
one_item [] x some few is = absurd (omega (arith, some))
one_item (y ∷ []) x some few is = ap (λ z. z ∷ []) (sym is)
one_item (y ∷ z ∷ rest) x some few is = absurd (omega (arith, few))
