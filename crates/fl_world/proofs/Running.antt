-- Events that happen one after another.
use Rattle.std.proofs.Common.{◌≡◌, ◌≤◌, ◌+◌, ℕ, refl, sym, subst, List, [], ◌∷◌, ◌++◌, arith}
use Rattle.fl_store.specs.Custody.{Custody}
use Rattle.fl_system.specs.World.{World}
use Rattle.fl_system.specs.WorldSteps.{Step}
use Rattle.fl_system.specs.Runs.{Run}
use Rattle.fl_system.specs.declared.event.Event.{Event}
use Rattle.fl_system.specs.declared.reply.Reply.{Reply}
use Rattle.fl_nodes.specs.Over.{WorldOver}
use Rattle.fl_nodes.specs.Goes.{Goes}

-- a run goes on by one more event
run_then : (w between w' : World) (events : List Event) (replies : List Reply) (event : Event) (reply : Reply)
    → Run w events replies between → Step between event reply w' → Run w (events ++ event ∷ []) (replies ++ reply ∷ []) w'
run_then w between w' [] [] event reply run step = (w', subst (λ x. Step x event reply w') run step, refl)
run_then w between w' (e ∷ events) (r ∷ replies) event reply run step =
    (run.0, run.1, run_then run.0 between w' events replies event reply run.2 step)
run_then w between w' [] (r ∷ replies) event reply run step = absurd run
run_then w between w' (e ∷ events) [] event reply run step = absurd run

-- the events that have happened, what they were answered, and that there is room for the answers to so many more
pub record RunsTo {K : Type 0} (custody : Custody K) (old new : WorldOver K) (events : List Event)
    (replies : List Reply) (len capacity left : ℕ) : Type 0 where
  pub goes : Goes custody old new (λ w w'. Run w events replies w')
  pub room : len + left ≤ capacity

module _ {K : Type 0} (custody : Custody K) where
  pub none_yet : (over : WorldOver K) (replies : List Reply) (len capacity left : ℕ) → replies ≡ [] → len ≡ 0 → left ≤ capacity
      → RunsTo custody over over [] replies len capacity left
  none_yet over replies len capacity left none zero_is enough = record {
    goes = subst (λ r. Goes custody over over (λ w w'. Run w [] r w')) (sym none)
        (record { honest = λ all. all; comes = λ all w is. (w, is, refl) });
    room = omega (arith, zero_is, enough);
  }

  pub one_more : (old new next : WorldOver K) (events : List Event) (replies replies' : List Reply) (event : Event) (reply : Reply)
      (len len' capacity capacity' left left' : ℕ) → RunsTo custody old new events replies len capacity left
      → Goes custody new next (λ w w'. Step w event reply w') → replies' ≡ replies ++ reply ∷ [] → len' ≡ len + 1
      → capacity' ≡ capacity → left ≡ left' + 1
      → RunsTo custody old next (events ++ event ∷ []) replies' len' capacity' left'
  one_more old new next events replies replies' event reply len len' capacity capacity' left left' so_far goes grown longer same fewer = record {
    goes = subst (λ r. Goes custody old next (λ w w'. Run w (events ++ event ∷ []) r w')) (sym grown) (record {
      honest = λ all. so_far.goes.honest (goes.honest all);
      comes = λ all after is.
          let between = goes.comes all after is in
          let before = so_far.goes.comes (goes.honest all) between.0 between.1 in
          (before.0, before.1, run_then before.0 between.0 after events replies event reply before.2 between.2);
    });
    room = omega (arith, so_far.room, longer, same, fewer);
  }

  pub all_done : (old new : WorldOver K) (events all : List Event) (replies : List Reply) (len capacity left : ℕ)
      → RunsTo custody old new events replies len capacity left → events ≡ all
      → Goes custody old new (λ w w'. Run w all replies w')
  all_done old new events all replies len capacity left so_far is =
      subst (λ e. Goes custody old new (λ w w'. Run w e replies w')) is so_far.goes
