use Rattle.fl_ops.specs.Registry.{From, Listed, Reach}
use Rattle.fl_chains.proofs.Rooting.{told_yes, told_no}
use Rattle.fl_chains.proofs.Ways.{item_there, none_more, none_all, one_way, no_way}
use Rattle.fl_chains.proofs.groups.one_leads.Goals as goal

pub returns-then-leads : goal.returns-then-leads
returns-then-leads c = told_yes (one_way (Listed c.args.target.ops.now) c.args.target.cap
    c.args.caps.now c.cap-item.result
    (item_there c.args.caps.now _ c.cap-item.result c.loop-cap-test.true c.cap-item.is)
    (c.leads.ensures.holds c.if-leads.true))

pub loop-cap-preserved : goal.loop-cap-preserved
loop-cap-preserved c =
    none_more (λ a. Reach (Listed c.args.target.ops.now) (From a) c.args.target.cap)
    c.args.caps.now _ c.cap-item.result c.loop-cap-test.true c.cap-item.is
    (c.leads.ensures.fails c.if-leads.false) c.loop-cap.invariant

pub returns : goal.returns
returns c = told_no (no_way (Listed c.args.target.ops.now) c.args.target.cap c.args.caps.now
    (none_all (λ a. Reach (Listed c.args.target.ops.now) (From a) c.args.target.cap)
    c.args.caps.now _ c.loop-cap-test.false c.loop-cap.invariant))
