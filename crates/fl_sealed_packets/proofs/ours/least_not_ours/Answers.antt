use Rattle.std.proofs.Common.{◌∙◌, sym, subst, arith}
use Rattle.std.proofs.lemmas.List.Elements.{Contains-get_or}
use Rattle.fl_gossip.specs.Meeting.{FindsLeast}
use Rattle.fl_sealed_packets.specs.parts.Rows.{IsMissing}
use Rattle.fl_sealed_packets.proofs.NotOurs.{numbers_rise, one_more, of_another, none_here, least_here, none_at_all}
use Rattle.fl_sealed_packets.proofs.ours.least_not_ours.Goals as goal
use Rattle.fl_sealed_packets.proofs.ours.least_not_ours.Goals.{then-span-number+in_default, else-span-number}

pub least_missing-requires-clause-rise : goal.least_missing-requires-clause-rise
least_missing-requires-clause-rise c =
    let e = c.of_node-ops.ensures in
    numbers_rise c.args.number c.args.saved.now c.requires c.of_node-ops.result.now e.rise e.only

pub least_missing-requires-clause-node : goal.least_missing-requires-clause-node
least_missing-requires-clause-node c = λ k d inside.
    (c.of_node-ops.ensures.only _ (Contains-get_or c.of_node-ops.result.now k d inside)).1 ∙ sym c.if-span-number.true

pub returns-in-Some : goal.returns-in-Some
returns-in-Some c =
    let e = c.of_node-ops.ensures in
    let ops = c.of_node-ops.result.now in
    let x = c.span-item.result in
    least_here c.args.number c.args.saved.now c.args.window.now c.as_slice-spans.result.now c.as_slice-spans.ensures _ x c.loop-span-test.true c.span-item.is
    ops e.only e.all c.if-span-number.true c.loop-span.invariant c.in-Some.name (subst (FindsLeast (IsMissing x ops)) c.in-Some.is c.least_missing.ensures)

pub loop-span-preserved : goal.loop-span-preserved
loop-span-preserved c =
    let e = c.of_node-ops.ensures in
    let ops = c.of_node-ops.result.now in
    let n = c.args.number in
    let saved = c.args.saved.now in
    let window = c.args.window.now in
    let spans = c.as_slice-spans.result.now in
    let same = c.as_slice-spans.ensures in
    let x = c.span-item.result in
    one_more n saved window spans same _ x c.loop-span-test.true c.span-item.is c.loop-span.invariant
    (elim c.if-span-number.branch [
      | then-span-number+in_default w ↦ none_here n saved window spans same _ x c.loop-span-test.true c.span-item.is ops e.only e.all (subst (FindsLeast (IsMissing x ops)) w.in_default.is w.least_missing.ensures)
      | else-span-number w ↦ of_another n saved window spans same _ x c.loop-span-test.true c.span-item.is w.if-span-number.false
    ])

pub returns : goal.returns
returns c =
    none_at_all c.args.number c.args.saved.now c.args.window.now c.as_slice-spans.result.now c.as_slice-spans.ensures c.loop-span.span-index (omega (arith, c.loop-span-test.false)) c.loop-span.invariant
