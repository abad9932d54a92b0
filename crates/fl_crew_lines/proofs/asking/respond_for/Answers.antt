use Rattle.std.proofs.Common.{sym}
use Rattle.fl_crew_lines.proofs.Opening.{asked, is_none, not_asked, was_not_sent}
use Rattle.fl_crew_lines.proofs.asking.respond_for.Goals.{then-not-is_of_crews-via-then-not-is_of_crews, then-not-is_of_crews-via-else-not-is_of_crews+then-names_no_packet}
use Rattle.fl_crew_lines.proofs.asking.respond_for.Goals as goal

pub returns-then-not-is_of_crews : goal.returns-then-not-is_of_crews
returns-then-not-is_of_crews g c = elim c.then-not-is_of_crews.branch [
  | then-not-is_of_crews-via-then-not-is_of_crews w ↦
      is_none g.M.K.Keeper.custody g.M.MakesKeepers.making c.args.crews.now c.args.number c.args.request (sym w.if-not-is_of_crews.ensures)
  | then-not-is_of_crews-via-else-not-is_of_crews+then-names_no_packet w ↦
      was_not_sent g.M.K.Keeper.custody g.M.MakesKeepers.making c.args.crews.now c.args.number c.args.request (sym w.if-names_no_packet.ensures)
]

pub returns-in-Ok : goal.returns-in-Ok
returns-in-Ok g c =
    asked g.M.K.Keeper.custody g.M.MakesKeepers.making c.args.crews.now c.open.new.self c.ask.new.crews c.args.number c.args.request
    c.open.result c.in-Ok.field-0 _ (sym c.if-not-is_of_crews.ensures) c.in-Ok.is c.open.ensures.opens c.ask.ensures

pub returns-in-Err : goal.returns-in-Err
returns-in-Err g c =
    not_asked g.M.K.Keeper.custody g.M.MakesKeepers.making c.args.crews.now c.open.new.self c.args.number c.args.request
    c.open.result c.in-Err.fault c.refused.result (sym c.if-not-is_of_crews.ensures) (sym c.if-names_no_packet.ensures)
    c.in-Err.is c.refused.ensures c.open.ensures.opens
