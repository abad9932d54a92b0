use Rattle.std.proofs.Common.{sym, ◌∙◌}
use Rattle.fl_ops.specs.Registry.{Listed}
use Rattle.fl_chains.proofs.Equal.{caps_same, caps_other}
use Rattle.fl_chains.proofs.Rooting.{told_yes, told_no}
use Rattle.fl_chains.proofs.Ways.{PutsOne, item_there, none_more, none_all, puts_this, puts_other, puts_nothing, puts_never}
use Rattle.fl_chains.proofs.groups.is_put.Goals.{in-Some+else-eq, in_default}
use Rattle.fl_chains.proofs.groups.is_put.Goals as goal

pub returns-then-eq : goal.returns-then-eq
returns-then-eq c = told_yes (puts_this c.args.cap c.op-item.result c.of.result c.of.ensures
    (Listed c.args.ops.now) (item_there c.args.ops.now _ c.op-item.result c.loop-op-test.true
    c.op-item.is) c.in-Some.step c.in-Some.is (caps_same (sym c.eq.ensures ∙ c.if-eq.true)))

pub loop-op-preserved : goal.loop-op-preserved
loop-op-preserved c =
    none_more (PutsOne c.args.cap) c.args.ops.now _ c.op-item.result c.loop-op-test.true
    c.op-item.is (elim c.match-of.branch [
      | in-Some+else-eq w ↦ puts_other c.args.cap c.op-item.result c.of.result c.of.ensures
          w.in-Some.step w.in-Some.is (caps_other (sym w.eq.ensures ∙ w.if-eq.false))
      | in_default w ↦ puts_nothing c.args.cap c.op-item.result c.of.result c.of.ensures
          w.in_default.is
    ]) c.loop-op.invariant

pub returns : goal.returns
returns c = told_no (puts_never c.args.ops.now c.args.cap
    (none_all (PutsOne c.args.cap) c.args.ops.now _ c.loop-op-test.false c.loop-op.invariant))
