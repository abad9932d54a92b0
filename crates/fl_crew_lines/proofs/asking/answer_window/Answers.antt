use Rattle.std.proofs.Common.{◌≡◌, Some, refl, rules, subst}
use Rattle.fl_wire.specs.declared.packet.Packet.TheVariants as packets
use Rattle.fl_system.specs.Numbered.{item_at}
use Rattle.fl_system.specs.declared.reply.Reply.TheVariants.{Refused}
use Rattle.fl_crew_calls.specs.Asking.{AnswersWindow}
use Rattle.fl_crew_lines.proofs.Bringing.{answered_nothing, same_window}
use Rattle.fl_crew_lines.proofs.asking.answer_window.Goals as goal

pub returns-in-Ok : goal.returns-in-Ok
returns-in-Ok g c window at =
    let there : item_at c.args.crews.now.sent c.args.packet ≡ Some (packets.Have c.in-Some-Some-Have.window) = search rules in
    subst (λ w. AnswersWindow c.args.crews.now c.args.number w c.send_all.result c.send_all.new.self)
    (same_window c.args.crews.now.sent c.args.packet c.in-Some-Some-Have.window window there at)
    (AnswersWindow.answers c.in-Some-Some-Have.ensures.some c.in-Ok.ensures.running c.in-Ok.ensures.ok c.send_all.ensures)

pub returns-in-Err : goal.returns-in-Err
returns-in-Err g c window at =
    let there : item_at c.args.crews.now.sent c.args.packet ≡ Some (packets.Have c.in-Some-Some-Have.window) = search rules in
    subst (λ w. AnswersWindow c.args.crews.now c.args.number w (Refused c.in-Err.fault) c.args.crews.now)
    (same_window c.args.crews.now.sent c.args.packet c.in-Some-Some-Have.window window there at)
    (answered_nothing c.args.crews.now c.args.number c.in-Some-Some-Have.crew.now c.in-Some-Some-Have.window _ c.in-Err.fault refl
    c.in-Some-Some-Have.ensures.some (λ is. cc (c.in-Err.ensures.stopped is)) c.in-Err.ensures.err)
