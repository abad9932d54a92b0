use Rattle.fl_ops.specs.Registry.{Listed}
use Rattle.fl_chains.proofs.Rooting.{told_yes, told_no}
use Rattle.fl_chains.proofs.Ways.{GivesWay, given_way, item_there, none_more, none_all, none_given, nothing_given, other_given}
use Rattle.fl_chains.proofs.groups.everybodys_lead.Goals.{in-Some+else-leads, in_default}
use Rattle.fl_chains.proofs.groups.everybodys_lead.Goals as goal

pub returns-then-leads : goal.returns-then-leads
returns-then-leads c =
    let ops = c.args.target.ops.now in
    told_yes (given_way (Listed ops) c.args.target.cap c.op-item.result c.gift.result
    c.gift.ensures (item_there ops _ c.op-item.result c.loop-op-test.true c.op-item.is)
    c.in-Some.cap c.in-Some.is (c.leads.ensures.holds c.if-leads.true))

pub loop-op-preserved : goal.loop-op-preserved
loop-op-preserved c =
    let ops = c.args.target.ops.now in
    none_more (GivesWay (Listed ops) c.args.target.cap) ops _ c.op-item.result
    c.loop-op-test.true c.op-item.is (elim c.match-gift.branch [
      | in-Some+else-leads w ↦ other_given (Listed ops) c.args.target.cap c.op-item.result
          c.gift.result c.gift.ensures w.in-Some.cap w.in-Some.is
          (w.leads.ensures.fails w.if-leads.false)
      | in_default w ↦ nothing_given (Listed ops) c.args.target.cap c.op-item.result
          c.gift.result c.gift.ensures w.in_default.is
    ]) c.loop-op.invariant

pub returns : goal.returns
returns c =
    let ops = c.args.target.ops.now in
    told_no (none_given ops c.args.target.cap
    (none_all (GivesWay (Listed ops) c.args.target.cap) ops _ c.loop-op-test.false
    c.loop-op.invariant))
