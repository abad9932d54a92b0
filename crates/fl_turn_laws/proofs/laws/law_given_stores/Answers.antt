use Rattle.fl_calls.specs.Over.{openings_of}
use Rattle.fl_turn_laws.proofs.Given.{given_one, given_first, given_text}
use Rattle.fl_turn_laws.proofs.laws.law_given_stores.Goals as goal

pub returns-clause-answers : goal.returns-clause-answers
returns-clause-answers g c = λ stores maker other lines a b m n.
    given_one c.law_one_packet.ensures.one c.law_one_packet.ensures.whole stores
    (openings_of g.M.K.Keeper.custody g.M.MakesKeepers.making maker)
    (openings_of g.N.K.Keeper.custody g.N.MakesKeepers.making other) lines a b m n

pub returns-clause-first : goal.returns-clause-first
returns-clause-first g c = λ stores maker other first later rest a b m n.
    given_first c.law_one_packet.ensures.one c.law_one_packet.ensures.whole stores
    (openings_of g.M.K.Keeper.custody g.M.MakesKeepers.making maker)
    (openings_of g.N.K.Keeper.custody g.N.MakesKeepers.making other) first later rest a b m n

pub returns-clause-text : goal.returns-clause-text
returns-clause-text g c = λ stores maker other lines text rest status worst m n.
    given_text c.law_one_packet.ensures.one c.law_one_packet.ensures.whole stores
    (openings_of g.M.K.Keeper.custody g.M.MakesKeepers.making maker)
    (openings_of g.N.K.Keeper.custody g.N.MakesKeepers.making other) lines text rest status worst m n
