use Rattle.std.proofs.Common.{take}
use Rattle.fl_crew_turns.proofs.Dollars.{cut_dollar}
use Rattle.fl_crew_turns.proofs.naming.behind_dollar.Goals as goal

pub returns : goal.returns
returns c =
    let found = c.in_ok-at.ensures in
    (take c.in_ok-at.at c.args.text.now, cut_dollar c.args.text.now c.in_ok-at.at found.0 found.1, found.2)
