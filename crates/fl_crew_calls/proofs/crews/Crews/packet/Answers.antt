use Rattle.std.proofs.Common.{◌≡◌, ◌∙◌, Bor, MatchOption, None, Some, ap, subst}
use Rattle.fl_system.specs.Numbered.{item_at}
use Rattle.fl_wire.specs.declared.packet.Packet.{Packet}
use Rattle.fl_crew_calls.specs.Over.{CrewsOver}
use Rattle.fl_crew_calls.proofs.Numbers.{none_unnumbered, numbered}
use Rattle.fl_crew_calls.proofs.crews.Crews.packet.Goals as goal

pub returns-in_err-before : goal.returns-in_err-before
returns-in_err-before g c =
    rw c.from_residual.ensures (none_unnumbered c.args.self.now.sent c.args.number
    c.in_err-before.ensures)

pub returns : goal.returns
returns g c =
    subst (λ sent. MatchOption c.get.result (item_at sent c.args.number ≡ None)
    (λ packet. item_at sent c.args.number ≡ Some packet.now))
    (c.deref.ensures.value
    ∙ ap (λ (crews : CrewsOver g.row.M-K.Denot g.row.M.Denot). crews.sent) c.self.view_is)
    (numbered (λ (packet : Bor Packet). packet.now) c.deref.result.now c.args.number
    c.in_ok-before.before c.get.result c.in_ok-before.ensures.0 c.in_ok-before.ensures.1
    c.get.ensures.lookup.3)
