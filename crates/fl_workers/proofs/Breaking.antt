-- Where the keeper of a crew's registrar broke in a batch.
use Rattle.std.proofs.Common.{◌≡◌, ◌∙◌, inl, inr, ℕ, Bool, true, false, IsTrue, List, [], ◌∷◌, ◌++◌}
use Rattle.std.proofs.Common.{Option, None, Some, refl, sym, ap, subst}
use Rattle.fl_labels.specs.declared.name.Name.{Name}
use Rattle.fl_bench.specs.Bench.{BenchState}
use Rattle.fl_system.specs.Naming.{IsNextAfter}
use Rattle.fl_system.specs.State.{first_ops}
use Rattle.fl_store.specs.Custody.{Custody}
use Rattle.fl_crew_model.specs.declared.record.Entry.{Entry}
use Rattle.fl_crew_model.specs.Books.{Books}
use Rattle.fl_crew_model.specs.Crews.{AllHome, Breaks}
use Rattle.fl_crew_threads.specs.Registers.{IsStoppedBroken, IsStoppedThere, Registers}
use Rattle.fl_registrar.specs.declared.awaited.Awaited.{Awaited}
use Rattle.fl_registrar.specs.Over.{RegistrarOver}
use Rattle.fl_settling.specs.Batches.{IsStopFirst}
use Rattle.fl_settling.specs.Settled.{FailsFirst}
use Rattle.fl_worker.specs.declared.worker.Worker.{Worker}
use Rattle.fl_worker.specs.Stops.{StopsAt}
use Rattle.fl_workers.specs.Batches.{BreaksFirst, IsBrokenThere}
use Rattle.fl_manning.specs.Begun.{IsBegun}
use Rattle.fl_manning.specs.Ended.{IsClosed}
use Rattle.fl_workers.specs.Seats.{AreSeated, manned_of}

-- ---- the order at which it broke

pub home_lost : (workers w : ℕ) (good lost : List Entry) → AllHome workers w (good ++ lost)
    → AllHome workers w lost
home_lost workers w [] lost home = home
home_lost workers w (e ∷ good) lost home = home_lost workers w good lost home.1

pub breaks_first : (number : ℕ) (b : Books) (workers w : ℕ) (bench : BenchState)
    (last place : ℕ) (lost : List Entry) → b.due ≡ None
    → (name : Name) × IsNextAfter b.saved number name → AllHome workers w lost
    → FailsFirst place last lost → IsStopFirst b.list bench lost
    → BreaksFirst number b workers w bench last place lost
breaks_first number b workers w bench last place [] idle named home fails stop = absurd fails
breaks_first number b workers w bench last place (e ∷ es) idle (name, next) home fails stop =
    record {
      entry = e;
      rest = es;
      first = refl;
      at = fails.0;
      breaks = by stop.stops;
    }
  where
    by : StopsAt (first_ops e.seen b.list) bench e → Breaks number b workers w bench last e
    by (inl given) = let no = sym fails.1 ∙ given in absurd (cc)
    by (inr lost) = record {
      op = record { name = name; body = lost.body };
      pid = lost.pid;
      left = lost.left;
      idle = idle;
      named = next;
      later = fails.2;
      enough = stop.seen;
      home = home.0;
      does = lost.does;
      is_told = fails.1;
    }

-- ---- the registrar and its keeper

module _ {K : Type 0} (custody : Custody K) (orders : List (Option Awaited)) (ws : List Worker)
    (r0 r1 r2 r3 : RegistrarOver K) (lines procs : ℕ) (seated : AreSeated ws r0 lines procs)
    (begun : IsBegun orders r0 r1) (rules : Registers custody lines r1 r2)
    (closed : IsClosed r2 r3) where
  broken_still : IsStoppedBroken custody r2
  broken_still =
      rules.broken
      (λ is. let no : true ≡ false = sym is ∙ (begun.stopped ∙ seated.runs) in absurd (cc))

  pub there_still : IsStoppedThere r2
  there_still =
      rules.failed (λ order is. let no : None ≡ Some order = sym begun.failed ∙ is in absurd (cc))

  pub failed_same : r2.failed ≡ r3.failed
  failed_same = ap (λ (r : RegistrarOver K). r.failed) (sym closed)

  keeper_same : r2.node.keeper ≡ r3.node.keeper
  keeper_same = ap (λ (r : RegistrarOver K). r.node.keeper) (sym closed)

  -- a keeper that is not broken was not when the batch ended
  pub runs_if_sound : custody.is_broken r3.node.keeper ≡ false → r2.stopped ≡ false
  runs_if_sound sound = by r2.stopped refl
    where
      by : (s : Bool) → r2.stopped ≡ s → r2.stopped ≡ false
      by false is = is
      by true is =
          let no : true ≡ false =
          sym (broken_still is) ∙ (ap custody.is_broken keeper_same ∙ sound) in absurd (cc)

  pub broken_there : (after : List Worker) (next : ℕ) (stopped : Bool)
      → (stopped ≡ false → r2.stopped ≡ false)
      → IsBrokenThere custody (manned_of after r3 next stopped)
  broken_there after next stopped stays order is =
      let at = there_still order (failed_same ∙ is) in
      record {
        broken =
            subst (λ (k : K). IsTrue (custody.is_broken k)) keeper_same
            (broken_still at.stopped);
        stopped = by stopped refl at.stopped;
      }
    where
      by : (s : Bool) → stopped ≡ s → r2.stopped ≡ true → stopped ≡ true
      by true is it = is
      by false is it =
          let no : true ≡ false = sym it ∙ stays is in absurd (cc)
