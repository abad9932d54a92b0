use Rattle.fl_closure.proofs.Held.{no_global, global_of, not_global}
use Rattle.fl_closure.proofs.closed.global_gift.Goals as goal

pub returns-in_err-entry : goal.returns-in_err-entry
returns-in_err-entry c =
    no_global c.args.op.now _ _ c.gift.ensures c.in_err-entry.was c.from_residual.ensures

pub returns-in-Everybody : goal.returns-in-Everybody
returns-in-Everybody c =
    global_of c.args.op.now _ c.in_ok-entry.entry c.gift.ensures c.in_ok-entry.was c.in-Everybody.is

pub returns-in-Group : goal.returns-in-Group
returns-in-Group c =
    not_global c.args.op.now _ c.in_ok-entry.entry c.in-Group.field-0 c.gift.ensures c.in_ok-entry.was c.in-Group.is
