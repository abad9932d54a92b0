use Rattle.fl_turns.specs.Session.{begun}
use Rattle.fl_turns.specs.laws.Leads.{turn_leads, run_leads, is_reached}
use Rattle.fl_turn_laws.proofs.laws.law_worlds.Goals as goal

pub returns-clause-turn : goal.returns-clause-turn
returns-clause-turn g c = λ maker old new line answer turn. turn_leads _ old line answer new turn

pub returns-clause-script : goal.returns-clause-script
returns-clause-script g c = λ maker lines answers end run. is_reached end.world (run_leads _ begun lines answers end run)
