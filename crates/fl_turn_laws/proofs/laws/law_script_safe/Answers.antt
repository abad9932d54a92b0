use Rattle.fl_turns.specs.Session.{begun}
use Rattle.fl_turns.specs.laws.Chains.{script_answered}
use Rattle.fl_turns.specs.laws.Lasting.{run_lasts}
use Rattle.fl_turns.specs.laws.Leads.{run_leads, is_reached}
use Rattle.fl_turn_laws.proofs.laws.law_script_safe.Goals as goal

pub returns-clause-safe : goal.returns-clause-safe
returns-clause-safe g c = λ maker lines text status end h.
    let all = script_answered g.M.K.Keeper.custody g.M.MakesKeepers.making
    maker lines h.outputs end h.run in
    record {
      each = λ honest w is.
          let answered = all.each honest w is in
          c.law_headline.ensures w (is_reached w (run_leads _ begun lines answered.answers _ answered.run));
    }

pub returns-clause-lasting : goal.returns-clause-lasting
returns-clause-lasting g c = λ maker lines text status end h.
    let all = script_answered g.M.K.Keeper.custody g.M.MakesKeepers.making
    maker lines h.outputs end h.run in
    record {
      each = λ honest w is.
          let answered = all.each honest w is in
          c.law_lasting.ensures w (is_reached w (run_leads _ begun lines answered.answers _ answered.run));
    }

pub returns-clause-along : goal.returns-clause-along
returns-clause-along g c = λ maker lines answers end.
    run_lasts c.law_headline.ensures c.law_lasting.ensures c.law_exchange.ensures.spreads
    c.law_exchange.ensures.union _ lines answers end
