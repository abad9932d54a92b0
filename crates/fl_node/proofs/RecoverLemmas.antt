-- What a node gets back.
use Rattle.std.proofs.Common.{◌≡◌, ◌⊎◌, inl, inr, ◌∙◌, refl, sym, ap, subst, ℕ, List, [], Bool, true, false, Ok, Result}
use Rattle.std.proofs.Math.Bool.{or-false}
use Rattle.std.specs.Prelude.{◌||◌}
use Rattle.std.proofs.lemmas.Bool.{false≢true}
use Rattle.fl_labels.specs.Found.{Tells, Within}
use Rattle.fl_labels.specs.SetBy.{SetBy, In, of_list, contains, same_set, contains-union, contains-empty}
use Rattle.fl_ops.specs.declared.op.Op.{Op}
use Rattle.fl_ops.specs.OpOrder.{op_cmp}
use Rattle.fl_ops.specs.OpLaws.{op_total, op_exact}
use Rattle.fl_store.specs.Custody.{Custody}
use Rattle.fl_store.specs.Kept.{Kept, with_ops}
use Rattle.fl_store.specs.Keeping.{Follows}
use Rattle.fl_system.specs.declared.answer.Fault.{Fault}
use Rattle.fl_system.specs.declared.state.Pending.TheVariants.{Nothing, Unsaved, Due}
use Rattle.fl_system.specs.declared.state.State.{State}
use Rattle.fl_system.specs.declared.state.State.TheVariants.{Running, Stopped}
use Rattle.fl_system.specs.State.{NodeState}
use Rattle.fl_system.specs.Saves.{Saves}
use Rattle.fl_system.specs.Waiting.{NoneUnsaved, NotRunning}
use Rattle.fl_system.specs.Openings.{OpensAgain, Reopens, Restarts, doubt_of}

-- answers that follow from each other are one
level : (a b : Bool) → (a ≡ true → b ≡ true) → (b ≡ true → a ≡ true) → a ≡ b
level true b f g = sym (f refl)
level false true f g = g refl
level false false f g = refl

-- sets are the same where each has the members of the other
pub tells_same : (s t : SetBy op_cmp) (b : Bool) → Within (In t) (In s) → Tells b (Within (In s) (In t)) → Tells b (s ≡ t)
tells_same s t b within told = record {
  holds = λ yes. same_set op_total op_exact s t (λ q. level _ _ (told.holds yes q) (within q));
  fails = λ no same. told.fails no (λ q h. subst (λ x. In x q) same h);
}

pub not_same : (s t : SetBy op_cmp) (b : Bool) → b ≡ false → Tells b (Within (In t) (In s)) → Tells b (s ≡ t)
not_same s t b lacks told = record {
  holds = λ yes. absurd (false≢true (sym lacks ∙ yes));
  fails = λ no same. told.fails no (λ q h. subst (λ x. In x q) (sym same) h);
}

-- with no operation in doubt
with_none : (saved : SetBy op_cmp) → with_ops saved [] ≡ saved
with_none saved = same_set op_total op_exact _ _ (λ q.
    contains-union op_total saved (of_list []) q ∙ ap (λ b. contains saved q || b) (contains-empty op_cmp q) ∙ or-false (contains saved q))

pub not_own : (found saved : SetBy op_cmp) → ¬ (found ≡ saved) → Tells false ((found ≡ saved) ⊎ (found ≡ with_ops saved []))
not_own found saved differs = record {
  holds = λ e. absurd (false≢true e);
  fails = λ e h. elim h [ inl is ↦ differs is | inr is ↦ differs (is ∙ with_none saved) ];
}

pub own_by : (b : Bool) (found saved both : SetBy op_cmp) (ops : List Op) → ¬ (found ≡ saved) → both ≡ with_ops saved ops → Tells b (found ≡ both) → Tells b ((found ≡ saved) ⊎ (found ≡ with_ops saved ops))
own_by b found saved both ops differs both_is t = record {
  holds = λ yes. inr (t.holds yes ∙ both_is);
  fails = λ no h. elim h [ inl is ↦ differs is | inr is ↦ t.fails no (is ∙ sym both_is) ];
}

module _ (n : NodeState) (keeps : Bool) (k : Kept) (result : Result ℕ Fault) (n' : NodeState) (k' : Kept) where
  by_state : (s : State) → n.state ≡ s → keeps ≡ false → OpensAgain n (doubt_of s) k result n' k' → Restarts n k keeps result n' k'
  by_state (Running Nothing) is lost h = Restarts.idle is h
  by_state (Running (Unsaved batch)) is lost h = Restarts.lost lost is h
  by_state (Running (Due batch)) is lost h = Restarts.due is h
  by_state (Stopped doubt) is lost h = Restarts.stopped is h

  pub restarts_lost : keeps ≡ false → OpensAgain n (doubt_of n.state) k result n' k' → Restarts n k keeps result n' k'
  restarts_lost lost h = by_state n.state refl lost h

  none_by_state : (s : State) (fault : Fault) → n.state ≡ s → NoneUnsaved s fault → OpensAgain n (doubt_of s) k result n' k' → Restarts n k keeps result n' k'
  none_by_state (Running Nothing) fault is none h = Restarts.idle is h
  none_by_state (Running (Unsaved batch)) fault is none h = absurd none
  none_by_state (Running (Due batch)) fault is none h = Restarts.due is h
  none_by_state (Stopped doubt) fault is none h = Restarts.stopped is h

  pub restarts_none : (fault : Fault) → NoneUnsaved n.state fault → OpensAgain n (doubt_of n.state) k result n' k' → Restarts n k keeps result n' k'
  restarts_none fault none h = none_by_state n.state fault refl none h

pub saved_first : (n : NodeState) (keeps : Bool) (k : Kept) (n₁ : NodeState) (k₁ : Kept) (result : Result ℕ Fault) (n' : NodeState) (k' : Kept)
    → keeps ≡ true → Saves n k (Ok tt) n₁ k₁ → OpensAgain n₁ (doubt_of n₁.state) k₁ result n' k' → Restarts n k keeps result n' k'
saved_first n keeps k n₁ k₁ result n' k' kept (Saves.saved pending) h = Restarts.saved kept pending h

pub is_stopped : (s : State) (fault : Fault) → NotRunning s fault → s ≡ Stopped (doubt_of s)
is_stopped (Running pending) fault h = absurd h
is_stopped (Stopped doubt) fault h = refl

-- over another keeper
pub reopens_over : {K : Type 0} (custody : Custody K) (made keeper left : K) (n : NodeState) (result : Result ℕ Fault) (n' : NodeState)
    → made ≡ keeper → n.state ≡ Stopped (doubt_of n.state)
    → (custody.is_honest left → custody.is_honest made × Follows (λ k k'. OpensAgain n (doubt_of n.state) k result n' k') (custody.may_hold made) (custody.may_hold left))
    → custody.is_honest left → custody.is_honest keeper × Follows (λ k k'. Reopens n k result n' k') (custody.may_hold keeper) (custody.may_hold left)
reopens_over custody made keeper left n result n' same stopped h honest =
    let held = h honest in
    subst (λ x. custody.is_honest x × Follows (λ k k'. Reopens n k result n' k') (custody.may_hold x) (custody.may_hold left)) same
    (held.0, λ after is. let b = held.1 after is in (b.0, b.1, Reopens.reopens stopped b.2))
