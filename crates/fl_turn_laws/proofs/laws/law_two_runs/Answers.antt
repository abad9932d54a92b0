use Rattle.fl_turn_laws.proofs.TwoRuns.{answered_is_kept, found_next, second_run}
use Rattle.fl_turn_laws.proofs.laws.law_two_runs.Goals as goal

pub returns-clause-finds : goal.returns-clause-finds
returns-clause-finds g c = λ maker left lines text status end writes back. record {
  each = λ honest w is. found_next g.M.K.Keeper.custody g.M.MakesKeepers.making
      maker lines text status end writes honest w is left back;
}

pub returns-clause-second : goal.returns-clause-second
returns-clause-second g c = λ maker left lines others text rest status worst end last writes back then_. record {
  each = λ honest w is. record {
    each = second_run g.M.K.Keeper.custody g.M.MakesKeepers.making
        maker lines text status end writes honest w is left back others rest worst last then_;
  };
}

pub returns-clause-kept : goal.returns-clause-kept
returns-clause-kept g c = λ maker lines text status end writes honest.
    answered_is_kept g.M.K.Keeper.custody g.M.MakesKeepers.making
    maker lines text status end writes honest c.law_headline.ensures c.law_lasting.ensures
    c.law_exchange.ensures.spreads c.law_exchange.ensures.union
