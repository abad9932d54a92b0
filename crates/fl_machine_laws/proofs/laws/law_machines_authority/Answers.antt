use Rattle.std.proofs.Common.{◌⊎◌, inl, inr, refl, ℕ, List}
use Rattle.fl_labels.specs.declared.cap.Cap.{Cap}
use Rattle.fl_labels.specs.declared.pid.Pid.{Pid}
use Rattle.fl_system.specs.Taint.{world_at}
use Rattle.fl_system.specs.Runs.{IsRun, Moment}
use Rattle.fl_system.specs.Union.{Union}
use Rattle.fl_system.specs.World.{empty_world}
use Rattle.fl_authority_laws.specs.Authority.{Has, IsFree, IsGranted, Living}
use Rattle.fl_machine_model.specs.Machines.{Turn, AreTurns, no_machine}
use Rattle.fl_machine_laws.specs.Authority.{HasBy, IsGrantedOn, SavedByRunning}
use Rattle.fl_machine_laws.specs.Places.{AllSaved}
use Rattle.fl_machine_laws.specs.Taint.{machines_at}
use Rattle.fl_machine_laws.proofs.Beginnings.{begun_on, only_on}
use Rattle.fl_machine_laws.proofs.Deeds.{turns_go, empty_follows}
use Rattle.fl_machine_laws.proofs.Granting.{HaveOwnNode, free_more, granted_on, has_in}
use Rattle.fl_machine_laws.proofs.Tainting.{follows_at}
use Rattle.fl_machine_laws.proofs.Together.{union_saved}
use Rattle.fl_machine_laws.proofs.laws.law_machines_authority.Goals as goal

-- the law of worlds, as it is known here
abbrev Grants : Type 0
Grants =
    (desks : ℕ) (ms : List Moment) (i : ℕ) (pid : Pid) (cap : Cap) → IsRun (empty_world desks) ms
    → Has (world_at (empty_world desks) ms i) pid cap
    → IsGranted (empty_world desks) ms i (Living pid) cap
    ⊎ IsFree (Union (world_at (empty_world desks) ms i)) cap

granted : Grants → HaveOwnNode → (desks : ℕ) (turns : List Turn) (i : ℕ) (pid : Pid) (cap : Cap)
    → AreTurns (no_machine desks) turns
    → HasBy (SavedByRunning (machines_at (no_machine desks) turns i))
    (machines_at (no_machine desks) turns i) pid cap
    → IsGrantedOn (no_machine desks) turns i (Living pid) cap
    ⊎ IsFree (AllSaved (machines_at (no_machine desks) turns i)) cap
granted law own desks turns i pid cap are has =
    let g = turns_go (no_machine desks) (empty_world desks) turns (empty_follows desks) are in
    let f = follows_at (no_machine desks) (empty_world desks) turns g.moments g.all i in
    elim (law desks g.moments i pid cap g.is_run (has_in f pid cap has)) [
      | inl given ↦ inl (granted_on desks turns are g.moments g.all own i (Living pid) cap given)
      | inr free ↦ inr (free_more (union_saved f) cap free)
    ]

pub returns-clause-granted : goal.returns-clause-granted
returns-clause-granted c = λ desks turns i pid cap are has.
    granted c.law_authority.ensures.granted c.law_pids.ensures.there desks turns i pid cap are has

pub returns-clause-begins : goal.returns-clause-begins
returns-clause-begins c = λ m turns i bearer cap given. begun_on i bearer given

pub returns-clause-kept : goal.returns-clause-kept
returns-clause-kept c =
    λ m turns i pid cap given keeps. only_on m turns cap keeps i (Living pid) cap given refl

pub returns-clause-nobody_else : goal.returns-clause-nobody_else
returns-clause-nobody_else c = λ desks turns i pid cap are keeps bound has.
    elim (granted c.law_authority.ensures.granted c.law_pids.ensures.there desks turns i pid cap
    are has) [
      | inl given ↦ only_on (no_machine desks) turns cap keeps i (Living pid) cap given refl
      | inr free ↦ absurd (bound free)
    ]
