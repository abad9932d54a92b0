-- What taking a packet, or declining it, does to the books.
use Rattle.std.proofs.Common.{◌≡◌, ◌<◌, ℕ, Option, Some, None, Result, Ok, Err, List, [], ◌∷◌, ◌++◌}
use Rattle.std.proofs.Common.{Bool, true, false, refl, sym, ap, ◌∙◌, subst}
use Rattle.fl_labels.specs.SetBy as set
use Rattle.fl_labels.specs.SetBy.{SetBy}
use Rattle.fl_ops.specs.OpOrder.{op_cmp}
use Rattle.fl_ops.specs.declared.op.Op.{Op}
use Rattle.fl_jobs.specs.declared.job.Job.{Job}
use Rattle.fl_jobs.specs.declared.answer.Refusal.TheVariants as refusals
use Rattle.fl_store.specs.Custody.{Custody}
use Rattle.fl_store.specs.Kept.{Kept, with_ops, with_batch}
use Rattle.fl_system.specs.declared.answer.Fault.{Fault}
use Rattle.fl_system.specs.declared.answer.Fault.TheVariants as faults
use Rattle.fl_system.specs.declared.state.Batch.{Batch}
use Rattle.fl_system.specs.declared.state.Batch.TheVariants.{Received}
use Rattle.fl_system.specs.declared.state.Pending.TheVariants.{Nothing}
use Rattle.fl_system.specs.declared.state.State.{State}
use Rattle.fl_system.specs.declared.state.State.TheVariants.{Running}
use Rattle.fl_system.specs.State.{NodeState, kept_of, ops_of}
use Rattle.fl_system.specs.Begins.{pending_with}
use Rattle.fl_system.specs.Publishes.{cancelled_with}
use Rattle.fl_system.specs.Receives.{Receives, HasNew}
use Rattle.fl_system.specs.Saves.{Saves}
use Rattle.fl_node.specs.Over.{NodeOver}
use Rattle.fl_crew_model.specs.declared.record.Verdict.TheVariants.{Taken, TakenLate, Declined}
use Rattle.fl_crew_model.specs.declared.record.Delivery.{Delivery}
use Rattle.fl_crew_model.specs.declared.record.Deed.{Deed}
use Rattle.fl_crew_model.specs.declared.record.Deed.TheVariants.{Decided, Delivered}
use Rattle.fl_crew_model.specs.Answered.{AreOwn}
use Rattle.fl_crew_model.specs.Books.{Books, Declines, IsNew, IsDelivery, Recorded, page}
use Rattle.fl_crew_model.specs.Registering.{Reflects, IsRegistrar, IsTaken}
use Rattle.fl_registrar.specs.declared.awaited.Awaited.{Awaited}
use Rattle.fl_registrar.specs.declared.parcel.Receipt.{Receipt}
use Rattle.fl_registrar.specs.declared.saving.Saving.TheVariants as savings
use Rattle.fl_registrar.specs.Over.{RegistrarOver, books_of}
use Rattle.fl_registrar.specs.Apart.{IsFree, AreApart}
use Rattle.fl_registrar.specs.Going.{GoesOn}
use Rattle.fl_registrar.specs.Passing.{Passes}
use Rattle.fl_registrar.specs.Publishing.{IsSameButList}
use Rattle.fl_registrar.specs.Taking.{news_of, delivery_of}
use Rattle.fl_registrar.specs.parts.Saving.{BecomesOf}
use Rattle.fl_registrar.specs.parts.Takes.{Takes}
use Rattle.fl_registrar.proofs.Nodes.{saves_again}
use Rattle.fl_registrar.proofs.Passed.{stays, weaker}
use Rattle.fl_registrar.proofs.Ruled.{same_books, same_kept}
use Rattle.fl_registrar.proofs.Decided.{MoreLaw}
use Rattle.fl_registrar.proofs.Brought.{same_news}

-- what law_registrar says of new operations that are saved
abbrev pub TakenLaw : Type 0
TakenLaw =
    (number : ℕ) (r mid after : NodeState) (b : Books) (ops : SetBy op_cmp) (count : ℕ)
    (k left : Kept) → IsRegistrar number r b → Receives r ops (Ok count) mid → 0 < count
    → Saves mid k (Ok tt) after left → IsTaken number b ops count after.saved

module _ {K : Type 0} (custody : Custody K) where
  -- ---- declined

  pub declined_takes : (old new : RegistrarOver K) (ops : List Op) (receipt : Receipt)
      (answer : Result ℕ Fault) → receipt ≡ record { verdict = Declined; answer = answer }
      → new.node.node ≡ old.node.node → new.node.keeper ≡ old.node.keeper
      → new.press.list ≡ old.press.list → new.due ≡ old.due
      → (custody.is_honest old.node.keeper → (k : Kept) → custody.may_hold old.node.keeper k
      → Declines old.node.node.number (books_of old) (set.of_list ops) answer)
      → Passes custody (Takes old ops (Ok receipt) new) old.node.keeper new.node.keeper
  declined_takes old new ops receipt answer is node keeper list due why =
      stays custody (Takes old ops (Ok receipt) new) old.node.keeper new.node.keeper keeper
      (λ honest k held. subst (λ (r : Receipt). Takes old ops (Ok r) new k k) (sym is) (record {
        changes = λ place. record {
          before = refl;
          after = refl;
          takes = record {
            why = why honest k held;
            same = same_books (books_of old) (books_of new) (ap (λ (n : NodeState). n.saved) node)
                list due;
          };
        };
        kept = λ runs e. e ∙ sym (ap kept_of node);
      }))

  -- ---- begun

  module _ (old new : RegistrarOver K) (ops : List Op) (batch : Batch) where
    pub no_room_takes : (receipt : Receipt)
        → HasNew (page old.node.node.number old.node.node.saved) (set.of_list ops)
        → receipt ≡ record { verdict = Declined; answer = Err (faults.Refused refusals.Memory) }
        → cancelled_with (pending_with old.node.node batch) batch ≡ old.node.node
        → new.press.list ≡ old.press.list → new.due ≡ old.due
        → Passes custody (λ k k'. BecomesOf (pending_with old.node.node batch)
        batch k savings.NoMemory new.node.node k') old.node.keeper new.node.keeper
        → Passes custody (Takes old ops (Ok receipt) new) old.node.keeper new.node.keeper
    no_room_takes receipt some is back list due =
        weaker custody _ _ old.node.keeper new.node.keeper (λ honest k k' held h.
        let node : new.node.node ≡ old.node.node = h.0 ∙ back in
        subst (λ (r : Receipt). Takes old ops (Ok r) new k k') (sym is) (record {
          changes = λ place. record {
            before = refl;
            after = refl;
            takes = record {
              why = Declines.no_room refl some;
              same = same_books (books_of old) (books_of new) (ap (λ (n : NodeState). n.saved) node)
                  list due;
            };
          };
          kept = λ runs e. h.1 ∙ e ∙ sym (ap kept_of node);
        }))

    pub broken_takes : (fault : Fault) → new.press.list ≡ old.press.list → new.due ≡ old.due
        → new.stopped ≡ true
        → Passes custody (λ k k'. BecomesOf (pending_with old.node.node batch)
        batch k savings.Broken new.node.node k') old.node.keeper new.node.keeper
        → Passes custody (Takes old ops (Err fault) new) old.node.keeper new.node.keeper
    broken_takes fault list due stopped =
        weaker custody _ _ old.node.keeper new.node.keeper (λ honest k k' held h. record {
          changes = same_books (books_of old) (books_of new) (ap (λ (n : NodeState). n.saved) h.0)
              list due;
          kept = λ runs e. absurd (cc);
        })

    -- once it is saved
    module _ (law : TakenLaw) (mid : NodeState) (count : ℕ)
        (idle : old.node.node.state ≡ Running Nothing)
        (receives : Receives old.node.node (set.of_list ops) (Ok count) mid) (some : 0 < count)
        (is : mid ≡ pending_with old.node.node batch) (after : NodeOver K) (none : old.due ≡ None)
        (same : IsSameButList after new.node) where
      taken_is : (k k' : Kept) → BecomesOf (pending_with old.node.node batch)
          batch k savings.Saved after.node k'
          → IsTaken old.node.node.number (books_of old) (set.of_list ops) count after.node.saved
      taken_is k k' h =
          law old.node.node.number old.node.node (pending_with old.node.node batch) after.node
          (books_of old) (set.of_list ops) count k k'
          (record {
            numbered = refl;
            saved = refl;
            reflects = subst
                (λ (s : State). Reflects s old.due) (sym idle) none;
          })
          (subst (Receives old.node.node (set.of_list ops) (Ok count)) is receives)
          some
          (saves_again (pending_with old.node.node batch) after.node k k' batch refl h)

      kept_is : (k k' : Kept) → BecomesOf (pending_with old.node.node batch)
          batch k savings.Saved after.node k' → k ≡ kept_of old.node.node
          → k' ≡ kept_of new.node.node
      kept_is k k' h e =
          h.1 ∙ ap (λ (x : Kept). with_batch x (ops_of batch)) e
          ∙ sym (ap kept_of h.0)
          ∙ sym (same_kept after.node new.node.node same.number same.boot same.saved)

      abbrev its_news : SetBy op_cmp
      its_news = news_of old.node.node.saved ops

      pub taken_takes : (receipt : Receipt) → receipt ≡ record
          { verdict = Taken; answer = Ok count }
          → new.press.list ≡ old.press.list ++ set.members (news_of old.node.node.saved ops)
          → new.due ≡ None
          → Passes custody (λ k k'. BecomesOf (pending_with old.node.node batch)
          batch k savings.Saved after.node k') old.node.keeper new.node.keeper
          → Passes custody (Takes old ops (Ok receipt) new) old.node.keeper new.node.keeper
      taken_takes receipt it list due =
          weaker custody _ _ old.node.keeper new.node.keeper (λ honest k k' held h.
          let t = taken_is k k' h in
          let e = same_news old.node.node.number old.node.node.saved ops t.new t.are_new.lacking in
          subst (λ (r : Receipt). Takes old ops (Ok r) new k k') (sym it) (record {
            changes = λ place. record {
              before = refl;
              after = refl;
              takes = record {
                ops = its_news;
                are_new = subst (IsNew old.node.node.number (books_of old) (set.of_list ops))
                    e t.are_new;
                answer = ap Ok (t.counted ∙ ap set.len e);
                new = same_books (record {
                  saved = with_ops old.node.node.saved
                      (set.members its_news);
                  list = old.press.list ++ set.members its_news;
                  due = None;
                }) (books_of new)
                    (same.saved ∙ t.all ∙ ap (λ (s : SetBy op_cmp). with_ops old.node.node.saved
                    (set.members s)) e) list due;
              };
            };
            kept = λ runs. kept_is k k' h;
          }))

      pub late_takes : (receipt : Receipt) → receipt ≡ record
          { verdict = TakenLate; answer = Err (faults.Refused refusals.Memory) }
          → new.press.list ≡ old.press.list → new.due ≡ Some
          (Received (news_of old.node.node.saved ops))
          → Passes custody (λ k k'. BecomesOf (pending_with old.node.node batch)
          batch k savings.Saved after.node k') old.node.keeper new.node.keeper
          → Passes custody (Takes old ops (Ok receipt) new) old.node.keeper new.node.keeper
      late_takes receipt it list due =
          weaker custody _ _ old.node.keeper new.node.keeper (λ honest k k' held h.
          let t = taken_is k k' h in
          let e = same_news old.node.node.number old.node.node.saved ops t.new t.are_new.lacking in
          subst (λ (r : Receipt). Takes old ops (Ok r) new k k') (sym it) (record {
            changes = λ place. record {
              before = refl;
              after = refl;
              takes = record {
                ops = its_news;
                are_new = subst (IsNew old.node.node.number (books_of old) (set.of_list ops))
                    e t.are_new;
                answer = refl;
                new = same_books (record {
                  saved = with_ops old.node.node.saved
                      (set.members its_news);
                  list = old.press.list;
                  due = Some (Received its_news);
                })
                    (books_of new)
                    (same.saved ∙ t.all ∙ ap (λ (s : SetBy op_cmp). with_ops old.node.node.saved
                    (set.members s)) e) list due;
              };
            };
            kept = λ runs. kept_is k k' h;
          }))

  -- ---- the record

  pub delivered_goes : (law : MoreLaw) (old mid : RegistrarOver K) (ops : List Op)
      (receipt : Receipt) (p : Delivery)
      (deeds : List Deed) (rows : ℕ)
      → deeds ≡ old.deeds ++ Delivered p ∷ [] → p ≡ delivery_of old mid p.place ops receipt
      → Passes custody (Takes old ops (Ok receipt) mid) old.node.keeper mid.node.keeper
      → Passes custody (GoesOn old (record mid { deeds = deeds; rows = rows }))
      old.node.keeper mid.node.keeper
  delivered_goes law old mid ops receipt p deeds rows is same =
      weaker custody _ _ old.node.keeper mid.node.keeper (λ honest k k' held takes. record {
        recorded = λ first h. subst (λ (rs : List Deed). Recorded old.node.node.number first rs
            (books_of mid)) (sym is)
            (law old.node.node.number first (books_of old) (books_of mid) old.deeds (Delivered p) h
            (subst (λ (x : Delivery). IsDelivery old.node.node.number (books_of old) x
            (books_of mid)) (sym same) (takes.changes p.place)));
        kept = takes.kept;
      })

  pub undelivered_goes : (old new : RegistrarOver K) (ops : List Op) (fault : Fault)
      → new.deeds ≡ old.deeds
      → Passes custody (Takes old ops (Err fault) new) old.node.keeper new.node.keeper
      → Passes custody (GoesOn old new) old.node.keeper new.node.keeper
  undelivered_goes old new ops fault deeds =
      weaker custody _ _ old.node.keeper new.node.keeper (λ honest k k' held takes. record {
        recorded = λ first h. subst (λ (rs : List Deed). Recorded old.node.node.number first rs
            (books_of new)) (sym deeds)
            (subst (λ (b : Books). Recorded old.node.node.number first old.deeds b)
            (sym takes.changes) h);
        kept = takes.kept;
      })

pub own_delivered : (jobs : ℕ → ℕ → Option Job) (old : List Deed) (p : Delivery) → AreOwn jobs old
    → AreOwn jobs (old ++ Delivered p ∷ [])
own_delivered jobs [] p h = tt
own_delivered jobs (Decided d ∷ deeds) p h = (h.0, own_delivered jobs deeds p h.1)
own_delivered jobs (Delivered q ∷ deeds) p h = own_delivered jobs deeds p h

free_delivered : (place : ℕ) (old : List Deed) (p : Delivery) → IsFree place old
    → IsFree place (old ++ Delivered p ∷ [])
free_delivered place [] p h = tt
free_delivered place (Decided d ∷ deeds) p h = (h.0, free_delivered place deeds p h.1)
free_delivered place (Delivered q ∷ deeds) p h = free_delivered place deeds p h

pub apart_delivered : (orders : List (Option Awaited)) (old : List Deed) (p : Delivery)
    → AreApart orders old → AreApart orders (old ++ Delivered p ∷ [])
apart_delivered orders [] p h = tt
apart_delivered orders (Decided d ∷ deeds) p h =
    (h.0, free_delivered d.place deeds p h.1, apart_delivered orders deeds p h.2)
apart_delivered orders (Delivered q ∷ deeds) p h = apart_delivered orders deeds p h
