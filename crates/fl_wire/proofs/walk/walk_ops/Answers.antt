use Rattle.std.proofs.Common.{◌+◌, ◌-◌, ◌∷◌, [], length, leb, arith}
use Rattle.std.proofs.lemmas.Result.{err_from_is_err_and}
use Rattle.fl_wire.specs.PacketGrammar.{ops_fields}
use Rattle.fl_wire.proofs.OpsRead.{ops_unwalked, ops_walk, ops_bad, ops_past}
use Rattle.fl_wire.proofs.Walks.{are_walked}
use Rattle.fl_wire.proofs.walk.walk_ops.Goals as goal

pub loop-i-init : goal.loop-i-init
loop-i-init c = ops_unwalked _ (omega arith)

pub walk_op-requires : goal.walk_op-requires
walk_op-requires c = omega (arith, c.loop-i.invariant.near, c.requires.place, c.requires.few)

pub loop-i-preserved : goal.loop-i-preserved
loop-i-preserved c =
    let e = c.in_ok-name.ensures in
    ops_walk c.loop-i.place (c.args.count - c.loop-i.i) c.loop-i.before c.in_ok-name.name c.in_ok-name.end (c.args.count - (c.loop-i.i + 1)) c.loop-i.invariant e.0 e.1 e.2 e.3 (omega arith)

pub returns-in_err-name : goal.returns-in_err-name
returns-in_err-name c =
    let p = err_from_is_err_and c.from_residual.result c.from_residual.ensures.1 in
    rw (p.1, p.2) (ops_bad c.loop-i.place (c.args.count - c.loop-i.i) c.loop-i.before (c.args.count - (c.loop-i.i + 1)) c.in_err-name.field-0.0 c.loop-i.invariant (omega arith) c.in_err-name.ensures)

pub returns : goal.returns
returns c =
    let bs = c.args.bytes.now in
    are_walked (ops_fields c.args.format bs c.args.at [] c.args.count) ((c.loop-i.place, leb (length bs) c.loop-i.place) ∷ []) c.end_of.result
    (ops_past c.loop-i.place (c.args.count - c.loop-i.i) c.loop-i.before c.loop-i.invariant (omega arith)) c.end_of.ensures
