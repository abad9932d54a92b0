use Rattle.fl_crew_lines.proofs.Opening.{once_done, once_shut, still_there}
use Rattle.fl_crew_lines.proofs.asking.union.Goals as goal

pub returns-in-Err : goal.returns-in-Err
returns-in-Err g c =
    once_shut g.M.K.Keeper.custody g.M.MakesKeepers.making c.args.crews.now c.open.new.self c.args.first c.open.result c.in-Err.fault _
    c.refused.result c.in-Err.is c.refused.ensures c.open.ensures.opens

pub returns-in-Err-open : goal.returns-in-Err-open
returns-in-Err-open g c =
    once_done g.M.K.Keeper.custody g.M.MakesKeepers.making c.args.crews.now c.open.new.self c.open-2.new.self c.args.first c.open.result
    c.in_default.field-0 _ _ c.in_default.is c.open.ensures.opens
    (once_shut g.M.K.Keeper.custody g.M.MakesKeepers.making c.open.new.self c.open-2.new.self c.args.second c.open-2.result
    c.in-Err-open.fault _ c.refused-in-Err-open.result c.in-Err-open.is c.refused-in-Err-open.ensures c.open-2.ensures.opens)

pub unite-requires-clause-first : goal.unite-requires-clause-first
unite-requires-clause-first g c κs within =
    still_there g.M.K.Keeper.custody g.M.MakesKeepers.making c.open.new.self c.args.second c.args.first c.open-2.result c.open-2.new.self
    c.open-2.ensures.opens c.in_default.ensures.there

pub returns : goal.returns
returns g c =
    once_done g.M.K.Keeper.custody g.M.MakesKeepers.making c.args.crews.now c.open.new.self c.open-2.new.self c.args.first c.open.result
    c.in_default.field-0 _ _ c.in_default.is c.open.ensures.opens
    (once_done g.M.K.Keeper.custody g.M.MakesKeepers.making c.open.new.self c.open-2.new.self c.open-2.new.self c.args.second
    c.open-2.result c.in_default-open.field-0 _ _ c.in_default-open.is c.open-2.ensures.opens c.unite.ensures)
