-- What is kept of each node of a world that is reached, and what of its saved set is published.
use Rattle.std.proofs.Common.{ℕ, List, [], ◌∷◌, refl, subst}
use Rattle.std.specs.FinMap as map
use Rattle.std.specs.Ordering.{nat_cmp}
use Rattle.fl_bench.specs.laws.Puts.{none_some}
use Rattle.fl_store.specs.Kept.{Kept, raised}
use Rattle.fl_system.specs.State.{NodeState}
use Rattle.fl_system.specs.Openings.{opened}
use Rattle.fl_system.specs.World.{World, KeptNode, empty_world}
use Rattle.fl_system.specs.WorldSteps.{IsAt}
use Rattle.fl_system.specs.Runs.{Moment, IsRun, end, IsReached}
use Rattle.fl_system_laws.specs.Owned.{IsKeptOwn, IsWhole}
use Rattle.fl_system_laws.specs.Goes.{Calls, Goes}
use Rattle.fl_system_laws.specs.laws.Going.{moves_goes}
use Rattle.fl_system_laws.specs.laws.Owning as owning
use Rattle.fl_system_laws.specs.laws.Wholes as wholes
use Rattle.fl_world_laws.specs.laws.Nodes.{Now, is_new, is_old, now}

-- what is kept of the node is its own, and what it saved is published or due
pub record IsKept (s : KeptNode) : Type 0 where
  pub own : IsKeptOwn s.node s.kept
  pub whole : IsWhole s.node

calls_own : {w : World} {s : KeptNode} {n : NodeState} {k : Kept} → IsKeptOwn s.node s.kept → Calls w s n k
    → IsKeptOwn n k
calls_own h (Calls.jobs does) = owning.jobs_own h does
calls_own h (Calls.looks seen look is) = owning.looks_own seen h look
calls_own h (Calls.receives sent there does) = owning.receives_own h does
calls_own h (Calls.arrives does) = owning.arrives_own h does
calls_own h (Calls.saves does) = owning.saves_own h does
calls_own h (Calls.publishes does) = owning.publishes_own h does
calls_own h (Calls.cancels does) = owning.cancels_own h does
calls_own h (Calls.restarts does) = owning.restarts_own h does
calls_own h (Calls.reopens is does) = owning.again_own does

calls_whole : {w : World} {s : KeptNode} {n : NodeState} {k : Kept} → IsWhole s.node → Calls w s n k → IsWhole n
calls_whole h (Calls.jobs does) = wholes.jobs_whole h does
calls_whole h (Calls.looks seen look is) = wholes.looks_whole seen h look
calls_whole h (Calls.receives sent there does) = wholes.receives_whole h does
calls_whole h (Calls.arrives does) = wholes.arrives_whole h does
calls_whole h (Calls.saves does) = wholes.saves_whole h does
calls_whole h (Calls.publishes does) = wholes.publishes_whole h does
calls_whole h (Calls.cancels does) = wholes.cancels_whole h does
calls_whole h (Calls.restarts does) = wholes.restarts_whole h does
calls_whole h (Calls.reopens is does) = wholes.again_whole does

pub record AllKept (w : World) : Type 0 where
  pub each : (number : ℕ) (s : KeptNode) → IsAt w number s → IsKept s

-- with another node at a number
put_kept : (w : World) (number : ℕ) (new : KeptNode) → AllKept w → IsKept new → (m : ℕ) (x : KeptNode)
    → Now w.nodes number new m x → IsKept x
put_kept w number new h its m x (is_new is same) = subst IsKept same its
put_kept w number new h its m x (is_old other at) = h.each m x at

goes_kept : {w w' : World} → AllKept w → Goes w w' → AllKept w'
goes_kept h Goes.stays = h
goes_kept h (Goes.tells number told at saved) = record { each = h.each }
goes_kept {w} h (Goes.calls number {s = s} {n = n} {k = k} sent admitted at does none) =
    let was = h.each number s at in
    let new : KeptNode = record { node = n; kept = k } in
    let its : IsKept new = record { own = calls_own was.own does; whole = calls_whole was.whole does } in
    record { each = λ m x e. put_kept w number new h its m x (now w.nodes number new m x e) }
goes_kept {w} h (Goes.joins number {k = k} may) =
    let new : KeptNode = record { node = opened w.desks k; kept = raised k } in
    let its : IsKept new = record { own = record { own = λ running. refl }; whole = wholes.opened_whole w.desks k } in
    record { each = λ m x e. put_kept w number new h its m x (now w.nodes number new m x e) }

run_kept : (w : World) (ms : List Moment) → AllKept w → IsRun w ms → AllKept (end w ms)
run_kept w [] h run = h
run_kept w (m ∷ ms) h run =
    run_kept m.after ms (goes_kept h (moves_goes w m.move m.reply m.after run.0)) run.1

pub reached_kept : (w : World) → IsReached w → AllKept w
reached_kept w r =
    let empty : AllKept (empty_world r.desks) = record {
      each = λ number s e. absurd (none_some (map.get-empty nat_cmp number) e);
    } in
    subst AllKept r.leads (run_kept (empty_world r.desks) r.moments empty r.is_run)
