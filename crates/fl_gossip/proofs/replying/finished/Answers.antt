use Rattle.std.proofs.Common.{◌≡◌, length, arith}
use Rattle.std.proofs.lemmas.Bool.Decides.{nat_tests}
use Rattle.fl_gossip.proofs.Deltas.{last_delta, no_last_delta, last_rises}
use Rattle.fl_gossip.proofs.replying.finished.Goals as goal

pub returns-then-is_empty-clause-ok : goal.returns-then-is_empty-clause-ok
returns-then-is_empty-clause-ok c =
    let none : length c.args.waiting.items ≡ 0 = grind (arith, nat_tests, c.is_empty.ensures, c.if-is_empty.true, c.args.waiting.ok) in
    no_last_delta _ _ c.requires.full none

pub delta_of-requires-clause-rise : goal.delta_of-requires-clause-rise
delta_of-requires-clause-rise c = last_rises c.args.deltas.items c.args.waiting.items c.requires.rise

pub returns-clause-ok : goal.returns-clause-ok
returns-clause-ok c = last_delta _ _ _ c.delta_of.result c.requires.full c.delta_of.ensures c.in_ok-push.ensures.items
