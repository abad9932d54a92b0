use Rattle.std.proofs.Common.{◌≡◌, ℕ, Bool, Err, refl, subst}
use Rattle.fl_bench.specs.laws.Puts.{same_found}
use Rattle.fl_store.specs.Kept.{Kept}
use Rattle.fl_system.specs.declared.answer.Fault.TheVariants.{WrongNode}
use Rattle.fl_system.specs.declared.event.Event.TheVariants.{Restart}
use Rattle.fl_system.specs.declared.reply.Reply.TheVariants.{Refused}
use Rattle.fl_system.specs.State.{NodeState, kept_of}
use Rattle.fl_system.specs.Waiting.{IsRunning}
use Rattle.fl_system.specs.Openings.{Restarts}
use Rattle.fl_system.specs.World.{World, KeptNode}
use Rattle.fl_system.specs.WorldCalls.{RestartAt}
use Rattle.fl_system.specs.WorldSteps.{IsAt, Step}
use Rattle.fl_system_laws.specs.laws.Finding.{restarts_other}
use Rattle.fl_world_laws.specs.laws.Keeping.{reached_kept}
use Rattle.fl_world_laws.proofs.laws.law_kept.Goals as goal

-- the restart of a node over its own is not refused as another's
over_its_own : (s : KeptNode) (keeps : Bool) → IsRunning s.node.state → s.kept ≡ kept_of s.node
    → {n : NodeState} {k : Kept} → ¬ Restarts s.node s.kept keeps (Err WrongNode) n k
over_its_own s keeps running own {n} {k} h =
    restarts_other s.node keeps running (subst (λ (x : Kept). Restarts s.node x keeps (Err WrongNode) n k) own h) refl

at_node : (w : World) (number : ℕ) (keeps : Bool) (s : KeptNode) → IsRunning s.node.state → s.kept ≡ kept_of s.node
    → {w' : World} → ¬ RestartAt w number s keeps (Refused WrongNode) w'
at_node w number keeps s running own (RestartAt.refused does) = over_its_own s keeps running own does

in_world : (w : World) (number : ℕ) (keeps : Bool) (s : KeptNode) → IsAt w number s → IsRunning s.node.state
    → s.kept ≡ kept_of s.node → {w' : World} → ¬ Step w (Restart number keeps) (Refused WrongNode) w'
in_world w number keeps s at running own (Step.restart {s = x} there h) =
    let same : s ≡ x = same_found at there in
    at_node w number keeps x (subst (λ (y : KeptNode). IsRunning y.node.state) same running)
    (subst (λ (y : KeptNode). y.kept ≡ kept_of y.node) same own) h

pub returns-clause-own : goal.returns-clause-own
returns-clause-own c = λ w number s reached at running. ((reached_kept w reached).each number s at).own.own running

pub returns-clause-restart : goal.returns-clause-restart
returns-clause-restart c = λ w after number keeps s reached at running.
    in_world w number keeps s at running (((reached_kept w reached).each number s at).own.own running)
