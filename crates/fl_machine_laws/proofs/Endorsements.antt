-- What touches a process among machines touches it in the world that they are.
use Rattle.std.proofs.Common.{ℕ, List}
use Rattle.fl_labels.specs.declared.cap.Cap.TheVariants.{Plus}
use Rattle.fl_labels.specs.declared.name.Name.{Name}
use Rattle.fl_labels.specs.declared.pid.Pid.{Pid}
use Rattle.fl_system.specs.World.{empty_world}
use Rattle.fl_system.specs.Runs.{Moment, end}
use Rattle.fl_safety_laws.specs.Endorsing.{IsEndorser, Touches}
use Rattle.fl_machine_model.specs.Machines.{Turn, last, no_machine}
use Rattle.fl_machine_laws.specs.Endorsing.{IsEndorserOn, TouchesOn}
use Rattle.fl_machine_laws.proofs.Deeds.{Follows, AllGo}
use Rattle.fl_machine_laws.proofs.Safer.{effective_more}
use Rattle.fl_machine_laws.proofs.Tainting.{ever_on, turn_at, bearing_in, sending_in, arrival_in}
use Rattle.fl_machine_laws.proofs.Together.{union_saved}

module _ (desks : ℕ) (ts : List Turn) (xs : List Moment)
    (all : AllGo (no_machine desks) (empty_world desks) ts xs)
    (ends : Follows (last (no_machine desks) ts) (end (empty_world desks) xs)) (tag : Name) where
  pub endorser_on : (pid : Pid) → IsEndorser (empty_world desks) xs tag pid
      → IsEndorserOn (no_machine desks) ts tag pid
  endorser_on pid h =
      let ever = ever_on desks ts xs all ends tag h.moment pid h.process h.lives in
      record {
        moment = ever.0;
        process = h.process;
        lives = ever.1;
        able = effective_more (union_saved ends) h.process (Plus tag) h.able;
      }

  module _ (P Q : Pid → Type 0) (more : (pid : Pid) → P pid → Q pid) where
    pub touches_in : {i : ℕ} {p : Pid} {j : ℕ} {pid : Pid}
        → TouchesOn (no_machine desks) ts P i p j pid
        → Touches (empty_world desks) xs Q i p j pid
    touches_in TouchesOn.itself = Touches.itself
    touches_in (TouchesOn.later before) = Touches.later (touches_in before)
    touches_in (TouchesOn.born {j} {t} {child = child} before at bears holds) =
        let r = turn_at desks ts xs all ends tag j t at in
        Touches.born (touches_in before) r.there (bearing_in r.is bears) (more child holds)
    touches_in (TouchesOn.received {j} {k} {t = t} {t' = u} {receiver = receiver} before at sends
        later there arrives holds) =
        let r = turn_at desks ts xs all ends tag j t at in
        let q = turn_at desks ts xs all ends tag k u there in
        Touches.received (touches_in before) r.there (sending_in r.is sends) later q.there
        (arrival_in q.is arrives) (more receiver holds)
