use Rattle.fl_gossip.specs.laws.Leasts.{least_either}
use Rattle.fl_crew_calls.proofs.joining.stray_in.Goals as goal

pub returns-in-Some : goal.returns-in-Some
returns-in-Some g c =
    let brought = rw (c.saved-theirs.ensures.saved, c.node.ensures, c.crew.ensures) at c.least_stray-brought.ensures in
    let awaited = rw (c.saved-theirs.ensures.saved, c.node.ensures, c.crew.ensures) at c.least_stray-awaited.ensures in
    rw (c.in-Some.is, c.lesser.ensures.value) (least_either _ _ _ _ brought awaited)
