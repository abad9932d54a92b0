use Rattle.std.proofs.Common.{inl, inr, ℕ, List}
use Rattle.std.specs.List.{Contains}
use Rattle.fl_system.specs.World.{empty_world}
use Rattle.fl_safety_laws.specs.Endorsing.{IsEndorser}
use Rattle.fl_machine_model.specs.Machines.{Turn, AreTurns, no_machine}
use Rattle.fl_machine_laws.specs.Endorsing.{IsEndorserOn}
use Rattle.fl_machine_laws.proofs.Deeds.{GoOn, turns_go, empty_follows}
use Rattle.fl_machine_laws.proofs.Endorsements.{endorser_on, touches_in}
use Rattle.fl_machine_laws.proofs.Tainting.{lives_at}
use Rattle.fl_machine_laws.proofs.laws.law_machines_endorsed.Goals as goal

goes : (desks : ℕ) (turns : List Turn) → AreTurns (no_machine desks) turns
    → GoOn (no_machine desks) (empty_world desks) turns
goes desks turns are =
    turns_go (no_machine desks) (empty_world desks) turns (empty_follows desks) are

pub returns-clause-touched : goal.returns-clause-touched
returns-clause-touched c =
    λ desks turns tag i j first pid before now are touches was is has.
    let g = goes desks turns are in
    let on = endorser_on desks turns g.moments g.all g.follows tag in
    elim (c.law_endorsed.ensures.touched (empty_world desks) g.moments tag i j first pid before now
    (empty_follows desks).reached g.is_run
    (touches_in desks turns g.moments g.all g.follows tag
    (λ other. ¬ IsEndorserOn (no_machine desks) turns tag other)
    (λ other. ¬ IsEndorser (empty_world desks) g.moments tag other)
    (λ other never endorses. never (on other endorses)) touches)
    (lives_at desks turns g.moments g.all g.follows tag i first before was)
    (lives_at desks turns g.moments g.all g.follows tag j pid now is) has) [
      | inl had ↦ inl had
      | inr endorses ↦ inr (on first endorses)
    ]

pub returns-clause-signed : goal.returns-clause-signed
returns-clause-signed c =
    λ desks turns tag endorsers i j first pid before now are only touches was is has.
    let g = goes desks turns are in
    let on = endorser_on desks turns g.moments g.all g.follows tag in
    c.law_endorsed.ensures.signed (empty_world desks) g.moments tag endorsers i j first pid before
    now (empty_follows desks).reached g.is_run (λ other endorses. only other (on other endorses))
    (touches_in desks turns g.moments g.all g.follows tag (λ other. ¬ Contains endorsers other)
    (λ other. ¬ Contains endorsers other) (λ other none. none) touches)
    (lives_at desks turns g.moments g.all g.follows tag i first before was)
    (lives_at desks turns g.moments g.all g.follows tag j pid now is) has
