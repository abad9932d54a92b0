use Rattle.std.proofs.Common.{◌++◌, ◌∙◌, length, sym, ap, subst, arith}
use Rattle.std.specs.List.{All, filter}
use Rattle.std.proofs.lemmas.List.Elements.{All-filter}
use Rattle.fl_opset.specs.ByNode.{AreOfNode}
use Rattle.fl_opset.specs.Windows.{is_lacking}
use Rattle.fl_opset.proofs.Between.{is_between, ranks_of_entry, node_more, some_of_node, lacking_walked, lacking_full, some_between}
use Rattle.fl_opset.proofs.Front.{front_short}
use Rattle.fl_opset.proofs.MergeLemmas.{on_error}
use Rattle.fl_opset.proofs.walks.lacking_of.Goals as goal

pub returns-then-len-most-clause-ok : goal.returns-then-len-most-clause-ok
returns-then-len-most-clause-ok c =
    lacking_full c.args.window.now c.args.nodes.now _ c.requires.each c.nodes_between-it-items.ensures c.args.most c.loop-it.it-index _ c.loop-it.invariant.taken (omega (arith, c.if-len-most.true, c.len.ensures, c.loop-it.lacking.ok))

pub add_lacking-requires-clause-rise : goal.add_lacking-requires-clause-rise
add_lacking-requires-clause-rise c =
    let w = c.args.window.now in
    let own = subst (All AreOfNode) (sym c.nodes_between-it-items.ensures) (All-filter (is_between w.from.node w.to.node) AreOfNode c.args.nodes.now c.requires.each) in
    ranks_of_entry _ c.loop-it.it-index c.it-item.result c.deref.result.now own c.loop-it-test.true c.it-item.is c.deref.ensures.value

pub loop-it-preserved : goal.loop-it-preserved
loop-it-preserved c =
    let w = c.args.window.now in
    let more = node_more w c.args.most c.nodes_between-it-items.result.now c.loop-it.it-index c.it-item.result c.loop-it-test.true c.it-item.is c.deref.result.now _ c.deref.ensures.value c.loop-it.invariant.taken in
    record {
      few = omega (arith, ap length c.in_ok-add_lacking.ensures.ok, front_short c.args.most (c.loop-it.lacking.items ++ filter (is_lacking w) c.deref.result.now));
      taken = c.in_ok-add_lacking.ensures.ok ∙ more;
    }

pub returns-clause-ok : goal.returns-clause-ok
returns-clause-ok c = lacking_walked c.args.window.now c.args.nodes.now _ c.requires.each c.nodes_between-it-items.ensures c.args.most c.loop-it.it-index _ c.loop-it.invariant.taken c.loop-it-test.false

pub returns-in_err-add_lacking-clause-wants : goal.returns-in_err-add_lacking-clause-wants
returns-in_err-add_lacking-clause-wants c =
    let w = c.args.window.now in
    let mid = c.nodes_between-it-items in
    let some = some_of_node w c.args.most mid.result.now c.loop-it.it-index c.it-item.result c.loop-it-test.true c.it-item.is c.deref.result.now _ c.deref.ensures.value c.loop-it.invariant.taken c.in_err-add_lacking.ensures.wants in
    on_error c.from_residual.result (some_between w c.args.nodes.now mid.result.now c.requires.each mid.ensures c.args.most some)
