use Rattle.fl_joining.proofs.Found.{stray_finds}
use Rattle.fl_joining.proofs.searching.stray_between.Goals as goal

pub returns : goal.returns
returns g c =
    stray_finds c.args.saved.now _ c.args.number (c.args.other, c.args.node.now) _ _ _ c.saved-theirs.ensures.saved c.lesser.ensures.value
    c.least_stray-brought.ensures c.least_stray-awaited.ensures
