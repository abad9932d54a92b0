-- What a ruling does to the books.
use Rattle.std.proofs.Common.{◌≡◌, ℕ, Option, Some, None, Ok, Err, List, [], ◌∷◌, ◌++◌, true, false}
use Rattle.std.proofs.Common.{Bool, Result, OnOk, OnErr, refl, sym, ap, ◌∙◌, subst, append-nil}
use Rattle.std.specs.Option.{is_some}
use Rattle.std.specs.Result.{is_err}
use Rattle.fl_labels.specs.declared.name.Name.{Name}
use Rattle.fl_labels.specs.declared.pid.Pid.{Pid}
use Rattle.fl_ops.specs.declared.op.Body.{Body}
use Rattle.fl_ops.specs.declared.op.Op.{Op}
use Rattle.fl_store.specs.Custody.{Custody}
use Rattle.fl_store.specs.Kept.{Kept, with_batch}
use Rattle.fl_system.specs.declared.answer.Fault.{Fault}
use Rattle.fl_system.specs.declared.answer.Fault.TheVariants.{KeeperFailed}
use Rattle.fl_system.specs.declared.state.Batch.{Batch}
use Rattle.fl_system.specs.declared.state.Batch.TheVariants.{Ordered}
use Rattle.fl_system.specs.declared.state.Pending.TheVariants.{Nothing}
use Rattle.fl_system.specs.declared.state.State.{State}
use Rattle.fl_system.specs.declared.state.State.TheVariants.{Running}
use Rattle.fl_system.specs.State.{NodeState, kept_of, ops_of}
use Rattle.fl_system.specs.Begins.{Begins, order, pending_with}
use Rattle.fl_system.specs.Publishes.{cancelled_with}
use Rattle.fl_system.specs.Saves.{Saves}
use Rattle.fl_node.specs.Over.{NodeOver}
use Rattle.fl_crew_model.specs.declared.record.Ruling.TheVariants.{Made, Late, GivenUp}
use Rattle.fl_crew_model.specs.declared.record.Reason.TheVariants.{Busy, NamesSpent, Memory}
use Rattle.fl_crew_model.specs.declared.record.Deed.{Deed}
use Rattle.fl_crew_model.specs.declared.record.FailedOrder.{FailedOrder}
use Rattle.fl_crew_model.specs.Books.{Books, MakesOne, SavesOne}
use Rattle.fl_replica.specs.Boards.{Pressed}
use Rattle.fl_registrar.specs.declared.awaited.Awaited.{Awaited}
use Rattle.fl_system.specs.Naming.{IsNextAfter}
use Rattle.fl_crew_model.specs.Registering.{Reflects, IsRegistrar, IsOrdered}
use Rattle.fl_registrar.specs.declared.saving.Saving.TheVariants as savings
use Rattle.fl_registrar.specs.declared.waiting.Stage.TheVariants as stages
use Rattle.fl_registrar.specs.declared.waiting.Waiting.{Waiting}
use Rattle.fl_registrar.specs.Over.{RegistrarOver, books_of}
use Rattle.fl_registrar.specs.Listing.{HasListed}
use Rattle.fl_registrar.specs.Passing.{Passes}
use Rattle.fl_registrar.specs.Publishing.{IsSameButList}
use Rattle.fl_registrar.specs.parts.Rules.{Rules}
use Rattle.fl_registrar.specs.parts.Saving.{BecomesOf}
use Rattle.fl_registrar.specs.parts.Sound.{Stands, due_of}
use Rattle.fl_registrar.specs.parts.Stages.{IsAt}
use Rattle.fl_registrar.proofs.Nodes.{order_back, saves_again, spent_as, not_begun}
use Rattle.fl_registrar.proofs.Passed.{stays, weaker}

-- what law_registrar says of an order that is saved
abbrev pub OrderedLaw : Type 0
OrderedLaw =
    (number : ℕ) (r mid after : NodeState) (b : Books) (body : Body) (maker : Option Pid)
    (desk : Option ℕ) (name : Name) (k left : Kept) → IsRegistrar number r b
    → Begins r body maker desk (Ok name) mid → Saves mid k (Ok tt) after left
    → IsOrdered number b (record { name = name; body = body }) after.saved

pub one_op : Name → Body → Op
one_op name body = record { name = name; body = body }

pub no_waiting : (waiting : Option Waiting) → is_some waiting ≡ false → waiting ≡ None
no_waiting None e = refl
no_waiting (Some w) e = absurd (cc)

pub same_books : (b b' : Books) → b'.saved ≡ b.saved → b'.list ≡ b.list → b'.due ≡ b.due → b' ≡ b
same_books b b' saved list due = λ i. record { saved = saved i; list = list i; due = due i }

pub same_kept : (n n' : NodeState) → n'.number ≡ n.number → n'.boot ≡ n.boot → n'.saved ≡ n.saved
    → kept_of n' ≡ kept_of n
same_kept n n' number boot saved =
    λ i. record { number = number i; boot = boot i; saved = saved i }

-- where nothing waits and the registrar runs, nothing is on the node's way, and it has published
-- what the press has
pub all_listed : (stopped : Bool) (waiting : Option Waiting) (n : NodeState) (list : List Op)
    → stopped ≡ false → waiting ≡ None → Stands stopped waiting n list → HasListed n list []
all_listed stopped waiting n list runs none stands =
    subst (λ (w : Option Waiting). Stands false w n list) none
    (subst (λ (s : Bool). Stands s waiting n list) runs stands)

-- where the node stands once nothing waits any more
pub cleared_stands : (stopped : Bool) (waiting : Waiting) (n n' : NodeState) (list list' : List Op)
    → (IsAt waiting.stage n list (ops_of waiting.batch) → HasListed n' list' [])
    → Stands stopped (Some waiting) n list → Stands stopped None n' list'
cleared_stands true waiting n n' list list' f h = tt
cleared_stands false waiting n n' list list' f h = f h

pub moved_stands : (stopped : Bool) (waiting w : Waiting) (n n' : NodeState) (list list' : List Op)
    → (IsAt waiting.stage n list (ops_of waiting.batch) → IsAt w.stage n' list' (ops_of w.batch))
    → Stands stopped (Some waiting) n list → Stands stopped (Some w) n' list'
moved_stands true waiting w n n' list list' f h = tt
moved_stands false waiting w n n' list list' f h = f h

pub in_ok : {T E : Type 0} {P : Type 0} (r : Result T E) → is_err r ≡ false → OnOk r P → P
in_ok (Ok x) e h = h
in_ok (Err x) e h = absurd (cc)

pub in_err : {T E : Type 0} {P : Type 0} (r : Result T E) → is_err r ≡ true → OnErr r P → P
in_err (Ok x) e h = absurd (cc)
in_err (Err x) e h = h

-- the fields of a registrar, as contracts see them
abbrev pub seen : {K : Type 0} → NodeOver K → Pressed → Option Waiting → List (Option Awaited)
    → List Deed → ℕ → Option FailedOrder → Bool
    → RegistrarOver K
seen node press waiting orders deeds rows failed stopped =
    record {
      node = node;
      press = press;
      due = due_of waiting;
      orders = orders;
      deeds = deeds;
      rows = rows;
      failed = failed;
      stopped = stopped;
    }

-- the node, with its keeper, as it was before
pub same_over : {K : Type 0} (a b : NodeOver K) → b.node ≡ a.node → b.keeper ≡ a.keeper → b ≡ a
same_over a b node keeper = λ i. record { node = node i; keeper = keeper i }

module _ {K : Type 0} (custody : Custody K) where
  -- ---- given up

  pub busy_rules : (r : RegistrarOver K) (worker : ℕ) (waiting : Option Waiting)
      → r.due ≡ due_of waiting → is_some waiting ≡ true
      → Passes custody (Rules r worker (Ok (GivenUp Busy)) r) r.node.keeper r.node.keeper
  busy_rules r worker (Some w) is some =
      stays custody _ r.node.keeper r.node.keeper refl (λ honest k held. record {
        changes = record { due = w.batch; is_due = is; same = refl };
        kept = λ runs e. e;
      })
  busy_rules r worker None is some = absurd (cc)

  pub spent_rules : (old new : RegistrarOver K) (worker : ℕ) (body : Body) (fault : Fault)
      → old.due ≡ None → new.due ≡ old.due → new.press.list ≡ old.press.list
      → (custody.is_honest old.node.keeper → (k : Kept) → custody.may_hold old.node.keeper k
      → old.node.node.state ≡ Running Nothing)
      → new.node.keeper ≡ old.node.keeper → Begins old.node.node body None None (Err fault)
      new.node.node
      → Passes custody (Rules old worker (Ok (GivenUp NamesSpent)) new)
      old.node.keeper new.node.keeper
  spent_rules old new worker body fault none due list idle keeper began =
      let same = not_begun old.node.node new.node.node body fault began in
      stays custody _ old.node.keeper new.node.keeper keeper (λ honest k held. record {
        changes = record {
          idle = none;
          is_last = spent_as old.node.node new.node.node body fault (idle honest k held) began;
          same = same_books (books_of old) (books_of new) (ap (λ (n : NodeState). n.saved) same)
              list due;
        };
        kept = λ runs e. e ∙ sym (ap kept_of same);
      })

  -- ---- begun

  module _ (old new : RegistrarOver K) (worker : ℕ) (body : Body) (name : Name)
      (idle : old.node.node.state ≡ Running Nothing) where
    abbrev its_batch : Batch
    its_batch = order name body None None

    pub memory_rules : new.due ≡ old.due → new.press.list ≡ old.press.list
        → Passes custody (λ k k'. BecomesOf (pending_with old.node.node its_batch)
        its_batch k savings.NoMemory new.node.node k') old.node.keeper new.node.keeper
        → Passes custody (Rules old worker (Ok (GivenUp Memory)) new)
        old.node.keeper new.node.keeper
    memory_rules due list =
        weaker custody _ _ old.node.keeper new.node.keeper (λ honest k k' held h.
        let back : new.node.node ≡ old.node.node = h.0 ∙ order_back old.node.node name body idle in
        record {
          changes = same_books (books_of old) (books_of new) (ap (λ (n : NodeState). n.saved) back)
              list due;
          kept = λ runs e. h.1 ∙ e ∙ sym (ap kept_of back);
        })

    pub broken_rules : new.due ≡ old.due → new.press.list ≡ old.press.list → new.stopped ≡ true
        → Passes custody (λ k k'. BecomesOf (pending_with old.node.node its_batch)
        its_batch k savings.Broken new.node.node k') old.node.keeper new.node.keeper
        → Passes custody (Rules old worker (Err KeeperFailed) new) old.node.keeper new.node.keeper
    broken_rules due list stopped =
        weaker custody _ _ old.node.keeper new.node.keeper (λ honest k k' held h. record {
          changes = same_books (books_of old) (books_of new) (ap (λ (n : NodeState). n.saved) h.0)
              list due;
          kept = λ runs e. absurd (cc);
        })

    pub its_op : Op
    its_op = one_op name body

    -- once it is saved
    module _ (law : OrderedLaw) (next : IsNextAfter old.node.node.saved old.node.node.number name)
        (after : NodeOver K) (none : old.due ≡ None) (same : IsSameButList after new.node) where
      ordered_is : (k k' : Kept) → BecomesOf (pending_with old.node.node its_batch)
          its_batch k savings.Saved after.node k' → IsOrdered old.node.node.number (books_of old)
          (record { name = name; body = body }) after.node.saved
      ordered_is k k' h =
          law old.node.node.number old.node.node (pending_with old.node.node its_batch) after.node
          (books_of old) body None None name k k'
          (record {
            numbered = refl;
            saved = refl;
            reflects = subst
                (λ (s : State). Reflects s old.due) (sym idle) none;
          })
          (Begins.begins idle next)
          (saves_again (pending_with old.node.node its_batch) after.node k k' its_batch refl h)

      kept_is : (k k' : Kept) → BecomesOf (pending_with old.node.node its_batch)
          its_batch k savings.Saved after.node k' → k ≡ kept_of old.node.node
          → k' ≡ kept_of new.node.node
      kept_is k k' h e =
          h.1 ∙ ap (λ (x : Kept). with_batch x (ops_of its_batch)) e
          ∙ sym (ap kept_of h.0)
          ∙ sym (same_kept after.node new.node.node same.number same.boot same.saved)

      pub made_rules : new.due ≡ None → new.press.list ≡ old.press.list ++ record
          { name = name; body = body } ∷ []
          → Passes custody (λ k k'. BecomesOf (pending_with old.node.node its_batch)
          its_batch k savings.Saved after.node k') old.node.keeper new.node.keeper
          → Passes custody (Rules old worker (Ok (Made (record { name = name; body = body }))) new)
          old.node.keeper new.node.keeper
      made_rules due list =
          weaker custody _ _ old.node.keeper new.node.keeper (λ honest k k' held h.
          let is = same_books (record {
            saved = after.node.saved;
            list = old.press.list ++ record { name = name; body = body } ∷ [];
            due = None;
          })
          (books_of new) same.saved list due in
          record {
            changes = subst (λ (b : Books). MakesOne old.node.node.number (books_of old)
                (record { name = name; body = body }) b) (sym is) (ordered_is k k' h).made;
            kept = λ runs. kept_is k k' h;
          })

      pub late_rules : (pid : Pid) → new.due ≡ Some (Ordered (record { name = name; body = body })
          (Some pid) (Some worker)) → new.press.list ≡ old.press.list
          → Passes custody (λ k k'. BecomesOf (pending_with old.node.node its_batch)
          its_batch k savings.Saved after.node k') old.node.keeper new.node.keeper
          → Passes custody (Rules old worker (Ok (Late (record { name = name; body = body }) pid))
          new) old.node.keeper new.node.keeper
      late_rules pid due list =
          weaker custody _ _ old.node.keeper new.node.keeper (λ honest k k' held h.
          let is = same_books (record {
            saved = after.node.saved;
            list = old.press.list;
            due = Some (Ordered (record { name = name; body = body }) (Some pid) (Some worker));
          })
          (books_of new) same.saved list due in
          record {
            changes = subst (λ (b : Books). SavesOne old.node.node.number (books_of old) worker
                (record { name = name; body = body }) pid b) (sym is)
                ((ordered_is k k' h).late worker pid);
            kept = λ runs. kept_is k k' h;
          })

  -- ---- where the node is then

  module _ (old new : NodeOver K) (batch : Batch) (stopped : Bool) (waiting : Option Waiting)
      (list : List Op)
      (was : custody.is_honest old.keeper → (k : Kept) → custody.may_hold old.keeper k
      → Stands stopped waiting old.node list) where
    -- what was begun is given up
    pub back_stands : cancelled_with (pending_with old.node batch) batch ≡ old.node
        → Passes custody (λ k k'. BecomesOf (pending_with old.node batch)
        batch k savings.NoMemory new.node k') old.keeper new.keeper
        → custody.is_honest new.keeper → (k : Kept) → custody.may_hold new.keeper k
        → Stands stopped waiting new.node list
    back_stands back passes honest k held =
        let p = passes honest in
        let b = p.1 k held in
        subst (λ (n : NodeState). Stands stopped waiting n list) (sym (b.2.0 ∙ back))
        (was p.0 b.0 b.1)

    -- it is saved, and due
    pub saved_stands : (its : Batch) → ops_of batch ≡ ops_of its → stopped ≡ false
        → waiting ≡ None
        → Passes custody (λ k k'. BecomesOf (pending_with old.node batch)
        batch k savings.Saved new.node k') old.keeper new.keeper
        → custody.is_honest new.keeper → (k : Kept) → custody.may_hold new.keeper k
        → Stands stopped (Some (record { batch = its; stage = stages.Saved })) new.node list
    saved_stands its same runs none passes honest k held =
        let p = passes honest in
        let b = p.1 k held in
        let all = all_listed stopped waiting old.node list runs none (was p.0 b.0 b.1) in
        subst (λ (s : Bool). Stands s (Some (record { batch = its; stage = stages.Saved }))
        new.node list) (sym runs)
        (record {
          batch = batch;
          state = ap (λ (n : NodeState). n.state) b.2.0;
          its = same;
          published = ap (λ (n : NodeState). n.published) b.2.0 ∙ all.published
              ∙ append-nil list;
        })
