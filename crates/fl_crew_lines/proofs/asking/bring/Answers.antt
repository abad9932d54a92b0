use Rattle.std.proofs.Common.{◌≡◌, false, subst}
use Rattle.fl_crew_calls.specs.Asking.{Comes, is_window}
use Rattle.fl_crew_lines.proofs.Bringing.{same_sent, window_comes, window_sent}
use Rattle.fl_crew_lines.proofs.asking.bring.Goals as goal

pub answer_window-requires-clause-window : goal.answer_window-requires-clause-window
answer_window-requires-clause-window g c κs within =
    window_sent c.args.crews.now.sent c.args.packet c.in-Some.sent.now c.in-Ok-None.field-0 c.in-Some.ensures
    c.in-Ok-None.field-0-is c.in-Ok-None.ensures.none

pub returns-in-Ok-None : goal.returns-in-Ok-None
returns-in-Ok-None g c sent at =
    window_comes g.M.K.Keeper.custody c.args.crews.now c.answer_window.new.crews c.args.number c.args.packet sent c.answer_window.result
    (window_sent c.args.crews.now.sent c.args.packet c.in-Some.sent.now c.in-Ok-None.field-0 c.in-Some.ensures
    c.in-Ok-None.field-0-is c.in-Ok-None.ensures.none) at c.answer_window.ensures

pub returns-in-Err : goal.returns-in-Err
returns-in-Err g c sent at =
    Comes.no_room (subst (λ p. is_window p ≡ false)
    (same_sent c.args.crews.now.sent c.args.packet c.in-Some.sent.now sent c.in-Some.ensures at) c.in-Err.ensures.err)
