use Rattle.std.proofs.lemmas.Map.Iter.{rest_all, rest_more}
use Rattle.std.specs.Map.Iter.{deref_pair}
use Rattle.fl_joining.specs.Against.{ClashesWith}
use Rattle.fl_joining.proofs.Found.{clash_finds, least_end, least_step}
use Rattle.fl_joining.proofs.searching.least_clash_with.Goals as goal

pub loop-node-preserved : goal.loop-node-preserved
loop-node-preserved g c =
    least_step (ClashesWith c.args.saved.now) c.args.all.now.entries c.loop-node.node-iterator c.next.new.self (deref_pair (c.in-Some.field-0-0, c.in-Some.node))
    c.loop-node.least _ c.lesser-least.result (rest_more deref_pair _ _ _ _ c.in-Some.is c.next.ensures.steps) c.lesser-least.ensures.value
    c.loop-node.invariant (clash_finds c.args.saved.now _ (deref_pair (c.in-Some.field-0-0, c.in-Some.node)) _ c.saved.ensures.saved c.least_clash.ensures)

pub returns-clause-least : goal.returns-clause-least
returns-clause-least g c =
    least_end (ClashesWith c.args.saved.now) c.args.all.now.entries c.loop-node.node-iterator c.loop-node.least
    (rest_all deref_pair _ _ _ c.in-None.is c.next.ensures.steps) c.loop-node.invariant
