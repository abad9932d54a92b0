-- What saving leaves.
use Rattle.std.proofs.Common.{◌≡◌, ◌⊎◌, ◌∙◌, inl, refl, sym, subst, ℕ, List, Ok, Err, Some, Bool, true, false}
use Rattle.std.specs.Prelude.{IsTrue, not, ◌&&◌, ◌||◌}
use Rattle.fl_labels.specs.SetBy.{SetBy, contains, of_list, same_set, contains-union, contains-of_list}
use Rattle.fl_ops.specs.declared.op.Op.{Op}
use Rattle.fl_ops.specs.OpOrder.{op_cmp}
use Rattle.fl_ops.specs.OpLaws.{op_total, op_exact}
use Rattle.fl_jobs.specs.declared.answer.Refusal.TheVariants as refusal
use Rattle.fl_store.specs.declared.keeper.KeeperFault.{KeeperFault}
use Rattle.fl_store.specs.declared.keeper.KeeperFault.TheVariants.{Memory, Broken, WrongNode, BadRow, NamesSpent}
use Rattle.fl_store.specs.Kept.{AreNew, Kept, with_ops, with_batch}
use Rattle.fl_store.specs.Keeping.{Held, Follows, Stays, AfterSave, SaveFails}
use Rattle.fl_system.specs.declared.answer.Fault.TheVariants.{Refused, KeeperFailed}
use Rattle.fl_system.specs.declared.state.Batch.{Batch}
use Rattle.fl_system.specs.declared.state.Pending.TheVariants.{Nothing, Unsaved, Due}
use Rattle.fl_system.specs.declared.state.State.{State}
use Rattle.fl_system.specs.declared.state.State.TheVariants.{Running, Stopped}
use Rattle.fl_system.specs.declared.answer.Fault.{Fault}
use Rattle.fl_system.specs.State.{NodeState, ops_of}
use Rattle.fl_node.specs.declared.keeping.Unkept.TheVariants as unkept
use Rattle.fl_opset.specs.Without.{without}
use Rattle.fl_opset.specs.laws.Withouts.{contains-without}
use Rattle.fl_node.specs.parts.Keeping.{Keeps, unkept_of}
use Rattle.fl_system.specs.Saves as steps
use Rattle.fl_system.specs.Saves.{Saves}
use Rattle.fl_system.specs.Waiting.{NoneUnsaved}

back_again : (s a : Bool) → (a ≡ true → s ≡ true → ⊥) → ((s || a) && not a) ≡ s
back_again true true h = absurd (h refl refl)
back_again true false h = refl
back_again false true h = refl
back_again false false h = refl

-- new operations that are put in and taken out again leave the set
pub back : (saved : SetBy op_cmp) (ops : List Op) → AreNew ops saved → without (with_ops saved ops) ops ≡ saved
back saved ops new = same_set op_total op_exact _ _ (λ q.
    contains-without (with_ops saved ops) ops q
    ∙ (λ i. (contains-union op_total saved (of_list ops) q) i && not ((sym (contains-of_list op_total ops q)) i))
    ∙ back_again (contains saved q) (contains (of_list {R = op_cmp} ops) q) (λ has_new has_old. new.unused q q has_new has_old refl))

-- what is kept where the keeper refused
pub unkept_left : (old new : Held) (ops : List Op) (f : KeeperFault) → AfterSave ops old new (Err f) → Keeps ops old new (Err (unkept_of f))
unkept_left old new ops Memory h = h
unkept_left old new ops Broken h = h
unkept_left old new ops BadRow h = absurd h
unkept_left old new ops WrongNode h = absurd h
unkept_left old new ops NamesSpent h = absurd h

pub none_saved : (old : Held) (n : NodeState) (fault : Fault) → NoneUnsaved n.state fault → Follows (λ k k'. Saves n k (Err fault) n k') old old
none_saved old n fault h after is = (after, is, Saves.none h)

module _ (old new : Held) (n : NodeState) where
  module _ (batch : Batch) (pending : n.state ≡ Running (Unsaved batch)) where
    pub is_saved : (saved : SetBy op_cmp) → saved ≡ with_ops n.saved (ops_of batch) → Follows (λ k k'. k' ≡ with_batch k (ops_of batch)) old new
        → Follows (λ k k'. Saves n k (Ok tt) (record n { saved = saved; state = Running (Due batch) }) k') old new
    is_saved saved saved_is h after is =
        let b = h after is in (
          b.0,
          b.1,
          subst (λ s. Saves n b.0 (Ok tt) (record n { saved = s; state = Running (Due batch) }) after) (sym saved_is)
              (subst (λ k. Saves n b.0 (Ok tt) (steps.stored n batch) k) (sym b.2) (Saves.saved pending)),
        )

    pub has_no_room : (saved : SetBy op_cmp) → saved ≡ n.saved → Stays old new → Follows (λ k k'. Saves n k (Err (Refused refusal.Memory)) (record n { saved = saved }) k') old new
    has_no_room saved saved_is h after is =
        let b = h after is in (
          b.0,
          b.1,
          subst (λ s. Saves n b.0 (Err (Refused refusal.Memory)) (record n { saved = s }) after) (sym saved_is)
              (subst (λ k. Saves n b.0 (Err (Refused refusal.Memory)) n k) (sym b.2) (Saves.no_room pending)),
        )

    pub is_in_doubt : (saved : SetBy op_cmp) → saved ≡ n.saved → Follows (λ k k'. (k' ≡ k) ⊎ (k' ≡ with_batch k (ops_of batch))) old new
        → Follows (λ k k'. Saves n k (Err KeeperFailed) (record n { saved = saved; state = Stopped (Some batch) }) k') old new
    is_in_doubt saved saved_is h after is =
        let b = h after is in
        (b.0, b.1, subst (λ s. Saves n b.0 (Err KeeperFailed) (record n { saved = s; state = Stopped (Some batch) }) after) (sym saved_is) (Saves.failed pending b.2))

module _ (n : NodeState) (batch : Batch) (pending : n.state ≡ Running (Unsaved batch)) where
  -- the same of the node alone, whatever is kept beside it
  pub is_saved_by : (saved : SetBy op_cmp) → saved ≡ with_ops n.saved (ops_of batch) → (k : Kept)
      → (left : Kept) × Saves n k (Ok tt) (record n { saved = saved; state = Running (Due batch) }) left
  is_saved_by saved saved_is k =
      let left = with_batch k (ops_of batch) in (
        left,
        subst (λ s. Saves n k (Ok tt) (record n { saved = s; state = Running (Due batch) }) left) (sym saved_is)
            (Saves.saved pending),
      )

  pub has_no_room_by : (saved : SetBy op_cmp) → saved ≡ n.saved → (k : Kept)
      → (left : Kept) × Saves n k (Err (Refused refusal.Memory)) (record n { saved = saved }) left
  has_no_room_by saved saved_is k = (
    k,
    subst (λ s. Saves n k (Err (Refused refusal.Memory)) (record n { saved = s }) k) (sym saved_is)
        (Saves.no_room pending),
  )

  pub is_in_doubt_by : (saved : SetBy op_cmp) → saved ≡ n.saved → (k : Kept)
      → (left : Kept) × Saves n k (Err KeeperFailed) (record n { saved = saved; state = Stopped (Some batch) }) left
  is_in_doubt_by saved saved_is k = (
    k,
    subst (λ s. Saves n k (Err KeeperFailed) (record n { saved = s; state = Stopped (Some batch) }) k)
        (sym saved_is) (Saves.failed pending (inl refl)),
  )

-- where there is nothing to save, the keeper did not fail
pub no_keeper_failed : (s : State) (fault : Fault) → NoneUnsaved s fault → fault ≡ KeeperFailed → ⊥
no_keeper_failed (Running Nothing) fault none failed = cc
no_keeper_failed (Running (Unsaved batch)) fault none failed = none
no_keeper_failed (Running (Due batch)) fault none failed = cc
no_keeper_failed (Stopped doubt) fault none failed = cc

pub save_broke : (broken : Bool) (failed : ℕ) (f : KeeperFault) → SaveFails broken failed f → unkept_of f ≡ unkept.Broken → IsTrue broken
save_broke broken failed Memory h is = absurd (cc)
save_broke broken failed Broken h is = h.0
save_broke broken failed BadRow h is = absurd h
save_broke broken failed WrongNode h is = absurd h
save_broke broken failed NamesSpent h is = absurd h
