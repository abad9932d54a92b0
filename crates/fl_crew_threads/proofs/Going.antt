-- A registrar goes on, step by step.
use Rattle.std.proofs.Common.{◌≡◌, ◌∙◌, ◌+◌, refl, sym, ap, subst, ℕ, List, [], ◌∷◌, ◌++◌, false, true, Err, inl, inr}
use Rattle.std.proofs.Common.{Option, Some, IsTrue, length, slice_get, arith}
use Rattle.std.proofs.lemmas.List.{length-append}
use Rattle.fl_jobs.specs.declared.job.Job.{Job}
use Rattle.fl_store.specs.Custody.{Custody}
use Rattle.fl_system.specs.declared.answer.Fault.{Fault}
use Rattle.fl_system.specs.declared.answer.Fault.TheVariants as faults
use Rattle.fl_crew_model.specs.declared.record.Deed.{Deed}
use Rattle.fl_crew_model.specs.declared.record.Deed.TheVariants.{Decided, Delivered}
use Rattle.fl_crew_model.specs.declared.record.Decision.{Decision}
use Rattle.fl_crew_model.specs.declared.record.Delivery.{Delivery}
use Rattle.fl_crew_model.specs.declared.record.FailedOrder.{FailedOrder}
use Rattle.fl_crew_model.specs.Books.{Recorded}
use Rattle.fl_crew_model.specs.Compared.{Rise, decisions_of}
use Rattle.fl_crew_model.specs.Answered.{AreOwn}
use Rattle.fl_crew_model.specs.Crews.{AllOfWorkers, IsWorker}
use Rattle.fl_labels.specs.SetBy.{SetBy}
use Rattle.fl_labels.specs.declared.name.Name.{Name}
use Rattle.fl_ops.specs.OpOrder.{op_cmp}
use Rattle.fl_ops.specs.declared.op.Body.{Body}
use Rattle.fl_system.specs.Naming.{IsNextAfter}
use Rattle.fl_registrar.specs.Apart.{AreAwaited, AreApart}
use Rattle.fl_registrar.specs.declared.awaited.Awaited.{Awaited}
use Rattle.fl_registrar.specs.Over.{RegistrarOver, books_of}
use Rattle.fl_registrar.specs.Going.{GoesOn}
use Rattle.fl_registrar.specs.Passing.{Passes}
use Rattle.fl_registrar.specs.Ruling.{HasRoom}
use Rattle.fl_registrar.specs.Stopping.{IsHalt, HasFailed, stopped_after}
use Rattle.fl_crew_threads.specs.Registers.{IsStoppedAt, IsStoppedBroken, IsStoppedThere, Registers}

-- one more row, for a worker that is there, or of a packet
decided : (workers : ℕ) (ds : List Deed) (d : Decision) → IsWorker workers d.worker → AllOfWorkers workers ds
    → AllOfWorkers workers (ds ++ Decided d ∷ [])
decided workers [] d is all = (is, tt)
decided workers (Decided x ∷ ds) d is all = (all.0, decided workers ds d is all.1)
decided workers (Delivered p ∷ ds) d is all = decided workers ds d is all

delivered : (workers : ℕ) (ds : List Deed) (p : Delivery) → AllOfWorkers workers ds
    → AllOfWorkers workers (ds ++ Delivered p ∷ [])
delivered workers [] p all = tt
delivered workers (Decided x ∷ ds) p all = (all.0, delivered workers ds p all.1)
delivered workers (Delivered x ∷ ds) p all = delivered workers ds p all

module _ {K : Type 0} (custody : Custody K) (workers : ℕ) where
  pub registers_nothing : (r : RegistrarOver K) → Registers custody workers r r
  registers_nothing r = record {
    number = refl;
    boot = refl;
    board = refl;
    runs = λ runs. runs;
    room = λ room. room;
    of_workers = λ all. all;
    own = λ jobs awaited own. own;
    left = λ jobs awaited. awaited;
    apart = λ apart. apart;
    rises = λ w up. up;
    broken = λ is. is;
    failed = λ is. is;
    goes = λ honest. (honest, λ after is. (after, is, record { recorded = λ first h. h; kept = λ runs k. k }));
  }

  pub registers_more : (a b c : RegistrarOver K) → Registers custody workers a b → Registers custody workers b c
      → Registers custody workers a c
  registers_more a b c ab bc = record {
    number = bc.number ∙ ab.number;
    boot = bc.boot ∙ ab.boot;
    board = bc.board ∙ ab.board;
    runs = λ runs. ab.runs (bc.runs runs);
    room = λ room. ab.room (bc.room room);
    of_workers = λ all. bc.of_workers (ab.of_workers all);
    own = λ jobs awaited own. bc.own jobs (ab.left jobs awaited) (ab.own jobs awaited own);
    left = λ jobs awaited. bc.left jobs (ab.left jobs awaited);
    apart = λ apart. bc.apart (ab.apart apart);
    rises = λ w up. bc.rises w (ab.rises w up);
    broken = λ is. bc.broken (ab.broken is);
    failed = λ is. bc.failed (ab.failed is);
    goes = λ honest.
        let one = bc.goes honest in
        let two = ab.goes one.0 in (
          two.0,
          λ after is.
              let mid = one.1 after is in
              let first = two.1 mid.0 mid.1 in (
                first.0,
                first.1,
                record {
                  recorded = λ start h. subst
                      (λ n. Recorded n start b.deeds (books_of b) → Recorded n start c.deeds (books_of c))
                      ab.number (mid.2.recorded start) (first.2.recorded start h);
                  kept = λ runs k. mid.2.kept runs (first.2.kept (bc.runs runs) k);
                },
              ),
        );
  }

  -- one more row leaves no more room
  module _ (old new : RegistrarOver K) (rows : new.rows ≡ old.rows) (stopped : new.stopped ≡ old.stopped) where
    room_less : (d : Deed) → new.deeds ≡ old.deeds ++ d ∷ [] → HasRoom new → HasRoom old
    room_less d deeds room =
        let more : length new.deeds ≡ length old.deeds + 1 =
        ap length deeds ∙ length-append old.deeds (d ∷ []) in
        let below = room.room in
        record { runs = sym stopped ∙ room.runs; room = omega (arith, more, below, rows) }

  -- where it runs on
  module _ (old new : RegistrarOver K) (runs : old.stopped ≡ false) where
    still_broken : new.stopped ≡ old.stopped → IsStoppedBroken custody old
        → IsStoppedBroken custody new
    still_broken stopped before is =
        let no : true ≡ false = sym is ∙ stopped ∙ runs in absurd (cc)

    pub still_failed : new.failed ≡ old.failed → IsStoppedThere old → IsStoppedThere new
    still_failed at before order is =
        let no : true ≡ false = sym (before order (sym at ∙ is)).stopped ∙ runs in absurd (cc)

  -- where it stops at this order
  pub now_failed : (old new : RegistrarOver K) (order : FailedOrder) (body : Body)
      → slice_get old.orders order.place
      ≡ Some (Some (record { worker = order.worker; body = body }))
      → (name : Name) × IsNextAfter old.node.node.saved old.node.node.number name
      → new.node.node.number ≡ old.node.node.number
      → HasFailed old new → new.stopped ≡ true → new.failed ≡ Some order → IsStoppedThere new
  now_failed old new order body awaited (name, next) number failed stopped at other is =
      let both : Some order ≡ Some other = sym at ∙ is in
      let same : order ≡ other = cc in
      subst (IsStoppedAt new) same (record {
        stopped = stopped;
        due = failed.none;
        body = body;
        awaited = ap (λ (o : List (Option Awaited)). slice_get o order.place) failed.orders
            ∙ awaited;
        named = (
          name,
          subst (λ (n : ℕ). IsNextAfter new.node.node.saved n name) (sym number)
              (subst (λ (s : SetBy op_cmp). IsNextAfter s old.node.node.number name)
              (sym failed.saved) next),
        );
      })

  module _ (old new : RegistrarOver K) (number : new.node.node.number ≡ old.node.node.number)
      (boot : new.node.node.boot ≡ old.node.node.boot)
      (board : new.press.board ≡ old.press.board) (rows : new.rows ≡ old.rows)
      (own : (jobs : ℕ → ℕ → Option Job) → AreAwaited jobs old.orders → AreOwn jobs old.deeds → AreOwn jobs new.deeds)
      (left : (jobs : ℕ → ℕ → Option Job) → AreAwaited jobs old.orders → AreAwaited jobs new.orders)
      (apart : AreApart old.orders old.deeds → AreApart new.orders new.deeds)
      (rises : (w : ℕ) → Rise (decisions_of w old.deeds) → Rise (decisions_of w new.deeds))
      (goes : Passes custody (GoesOn old new) old.node.keeper new.node.keeper) where
    pub registers_decision : (d : Decision) → IsWorker workers d.worker → new.deeds ≡ old.deeds ++ Decided d ∷ []
        → new.stopped ≡ old.stopped → new.failed ≡ old.failed → old.stopped ≡ false
        → Registers custody workers old new
    registers_decision d is deeds stopped at run = record {
      number = number;
      boot = boot;
      board = board;
      runs = λ runs. sym stopped ∙ runs;
      room = room_less old new rows stopped (Decided d) deeds;
      of_workers = λ all. subst (AllOfWorkers workers) (sym deeds) (decided workers old.deeds d is all);
      own = own;
      left = left;
      apart = apart;
      rises = rises;
      broken = still_broken old new run stopped;
      failed = still_failed old new run at;
      goes = goes;
    }

    pub registers_delivery : (p : Delivery) → new.deeds ≡ old.deeds ++ Delivered p ∷ []
        → new.stopped ≡ old.stopped → new.failed ≡ old.failed → old.stopped ≡ false
        → Registers custody workers old new
    registers_delivery p deeds stopped at run = record {
      number = number;
      boot = boot;
      board = board;
      runs = λ runs. sym stopped ∙ runs;
      room = room_less old new rows stopped (Delivered p) deeds;
      of_workers = λ all. subst (AllOfWorkers workers) (sym deeds) (delivered workers old.deeds p all);
      own = own;
      left = left;
      apart = apart;
      rises = rises;
      broken = still_broken old new run stopped;
      failed = still_failed old new run at;
      goes = goes;
    }

    -- where it stopped, its record is as before
    pub registers_halt : new.deeds ≡ old.deeds → new.stopped ≡ true
        → IsTrue (custody.is_broken new.node.keeper) → (IsStoppedThere old → IsStoppedThere new)
        → Registers custody workers old new
    registers_halt deeds stopped broke there = record {
      number = number;
      boot = boot;
      board = board;
      runs = λ runs. let no : true ≡ false = sym stopped ∙ runs in absurd (cc);
      room = λ room. let no : true ≡ false = sym stopped ∙ room.runs in absurd (cc);
      of_workers = λ all. subst (AllOfWorkers workers) (sym deeds) all;
      own = own;
      left = left;
      apart = apart;
      rises = rises;
      broken = λ before is. broke;
      failed = there;
      goes = goes;
    }

    -- where it did not answer, it is as before, or stopped
    pub registers_refusal : (A : Type 0) (fault : Fault) → IsHalt fault → (fault ≡ faults.Stopped → new ≡ old)
        → (fault ≡ faults.KeeperFailed → HasFailed old new)
        → (fault ≡ faults.KeeperFailed → IsTrue (custody.is_broken new.node.keeper))
        → (fault ≡ faults.KeeperFailed → IsStoppedThere old → IsStoppedThere new)
        → new.stopped ≡ stopped_after {A = A} old.stopped (Err fault) → Registers custody workers old new
    registers_refusal A fault (inl is) same failed broke there stopped =
        subst (λ r. Registers custody workers old r) (sym (same is)) (registers_nothing old)
    registers_refusal A fault (inr is) same failed broke there stopped =
        registers_halt ((failed is).deeds)
        (stopped ∙ ap (λ f. stopped_after {A = A} old.stopped (Err f)) is) (broke is) (there is)
