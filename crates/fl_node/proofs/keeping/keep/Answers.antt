use Rattle.std.proofs.Common.{◌∙◌, sym, ap, subst, Err}
use Rattle.fl_system.specs.State.{ops_of}
use Rattle.fl_opset.specs.Without.{without}
use Rattle.fl_node.specs.parts.Keeping.{Keeps, unkept_of}
use Rattle.fl_node.proofs.NodeLemmas.{err_same}
use Rattle.fl_node.proofs.SaveLemmas.{back, save_broke, unkept_left}
use Rattle.fl_node.proofs.keeping.keep.Goals as goal

pub returns-in-Ok-save-clause-held : goal.returns-in-Ok-save-clause-held
returns-in-Ok-save-clause-held g c = rw c.ops_of_batch.ensures at c.in-Ok-save.ensures.held

pub returns-in-Err-clause-err : goal.returns-in-Err-clause-err
returns-in-Err-clause-err g c =
    c.remove_all.ensures
    ∙ ap (without c.add_batch.new.saved) c.ops_of_batch-in-Err.ensures
    ∙ ap (λ s. without s (ops_of c.args.batch.now)) c.in-Ok.ensures.ok
    ∙ back c.args.saved.now (ops_of c.args.batch.now) c.requires.new

pub returns-in-Err-clause-held : goal.returns-in-Err-clause-held
returns-in-Err-clause-held g c = rw c.reason.ensures (λ honest.
    let held = c.in-Err.ensures.held honest in
    (held.0, subst (λ ops. Keeps ops (g.K.Keeper.custody.may_hold c.args.keeper.now) (g.K.Keeper.custody.may_hold c.save.new.self) (Err (unkept_of c.in-Err.fault))) c.ops_of_batch.ensures (unkept_left _ _ c.ops_of_batch.result.now c.in-Err.fault held.1)))

pub returns-in-Err-clause-broken : goal.returns-in-Err-clause-broken
returns-in-Err-clause-broken g c failed = save_broke _ _ c.in-Err.fault c.in-Err.ensures.cause (sym c.reason.ensures ∙ err_same failed)
