use Rattle.fl_closure.proofs.Giving.{led_by_use, led_alone, if_ok}
use Rattle.fl_closure.proofs.closed.ClosedRows.led.Goals as goal

pub returns-in-Use : goal.returns-in-Use
returns-in-Use c =
    if_ok c.blocks_with.result (λ blocks are. led_by_use c.args.self.now.reached c.args.cap c.in-Use.group blocks.items c.in-Use.is are) c.blocks_with.ensures

pub returns : goal.returns
returns c =
    led_alone c.args.self.now.reached c.args.cap _ _ _ c.in_default.not-Use c.new-blocks.ensures.items c.in_ok-push.ensures.items c.only.ensures
