use Rattle.std.proofs.Common.{◌∙◌, arith}
use Rattle.fl_crew_calls.proofs.Maps.{sends, sends_none}
use Rattle.fl_crew_calls.proofs.crews.Crews.send_all.Goals as goal

pub returns-in-Ok : goal.returns-in-Ok
returns-in-Ok g c =
    sends _ _ c.self.inside.all.entries c.self.inside.sent.items c.args.self.now c.self.view_is
    c.args.packets.items c.append.new.self.items c.len.result c.len-count.result
    (c.len.ensures ∙ c.self.inside.sent.ok.0) (c.len-count.ensures ∙ c.args.packets.ok.0)
    c.in-Ok.ensures.items

pub returns : goal.returns
returns g c =
    sends_none _ _ c.self.inside.all.entries c.self.inside.sent.items c.args.self.now
    c.self.view_is c.args.packets.items c.append.new.self.items c.in-Err.ensures.items
    (omega (arith, c.in-Err.ensures.full, c.self.inside.sent.ok.1, c.args.packets.ok.0))
