use Rattle.std.proofs.Common.{sym, subst, Some}
use Rattle.std.proofs.lemmas.Result.{err_from_is_err_and}
use Rattle.fl_system.specs.Waiting.{IsRunning}
use Rattle.fl_node.proofs.NodeLemmas.{err_same}
use Rattle.fl_node.proofs.Sounds.{saves_on, stays_on, halts}
use Rattle.fl_system.specs.Saves.{Saves}
use Rattle.fl_node.proofs.SaveLemmas.{no_keeper_failed, none_saved, is_saved, has_no_room, is_in_doubt}
use Rattle.fl_node.proofs.SaveLemmas.{is_saved_by, has_no_room_by, is_in_doubt_by}
use Rattle.fl_node.proofs.node.Node.save.Goals as goal

pub returns-in_err-batch-clause-saves : goal.returns-in_err-batch-clause-saves
returns-in_err-batch-clause-saves g c =
    let p = err_from_is_err_and c.from_residual.result c.from_residual.ensures.1 in
    rw (p.1, p.2, ← c.self.view_is) (λ honest. (honest, none_saved _ _ _ c.in_err-batch.ensures.err))

pub invariant_of-self : goal.invariant_of-self
invariant_of-self g c = rw (c.saved.ensures c.in_ok-batch.batch.now c.in_ok-batch.ensures.ok) (
    saves_on c.in_ok-batch.batch.now c.in-Ok.ensures.ok c.in-Ok.ensures.held (rw c.in_ok-batch.ensures.ok at c.self.invariant))

pub invariant_of-self-in-Err-Memory : goal.invariant_of-self-in-Err-Memory
invariant_of-self-in-Err-Memory g c =
    stays_on c.self.inside.state (subst IsRunning (sym c.in_ok-batch.ensures.ok) tt) c.in-Err-Memory.ensures.err (rw c.in-Err-Memory.field-0-is at c.in-Err-Memory.ensures.held) c.self.invariant

pub invariant_of-self-in-Err-Broken : goal.invariant_of-self-in-Err-Broken
invariant_of-self-in-Err-Broken g c = rw (c.doubted.ensures c.in_ok-batch.batch.now c.in_ok-batch.ensures.ok) (halts c.self.inside.state (Some c.in_ok-batch.batch.now) c.in-Err-Broken.ensures.err c.self.invariant)

pub returns-in-Ok-clause-saves : goal.returns-in-Ok-clause-saves
returns-in-Ok-clause-saves g c = rw (c.saved.ensures c.in_ok-batch.batch.now c.in_ok-batch.ensures.ok, ← c.self.view_is) (λ honest.
    let held = c.in-Ok.ensures.held honest in
    (held.0, is_saved _ _ _ c.in_ok-batch.batch.now c.in_ok-batch.ensures.ok _ c.in-Ok.ensures.ok held.1))

pub returns-in-Err-Memory-clause-saves : goal.returns-in-Err-Memory-clause-saves
returns-in-Err-Memory-clause-saves g c = rw (← c.self.view_is) (λ honest.
    let held = (rw c.in-Err-Memory.field-0-is at c.in-Err-Memory.ensures.held) honest in
    (held.0, has_no_room _ _ _ c.in_ok-batch.batch.now c.in_ok-batch.ensures.ok _ c.in-Err-Memory.ensures.err held.1))

pub returns-in-Err-Broken-clause-saves : goal.returns-in-Err-Broken-clause-saves
returns-in-Err-Broken-clause-saves g c = rw (c.doubted.ensures c.in_ok-batch.batch.now c.in_ok-batch.ensures.ok, ← c.self.view_is) (λ honest.
    let held = (rw c.in-Err-Broken.field-0-is at c.in-Err-Broken.ensures.held) honest in
    (held.0, is_in_doubt _ _ _ c.in_ok-batch.batch.now c.in_ok-batch.ensures.ok _ c.in-Err-Broken.ensures.err held.1))

pub returns-in_err-batch-clause-cause : goal.returns-in_err-batch-clause-cause
returns-in_err-batch-clause-cause g c =
    let p = err_from_is_err_and c.from_residual.result c.from_residual.ensures.1 in
    rw (p.1, p.2) (λ failed. absurd (no_keeper_failed _ _ c.in_err-batch.ensures.err (err_same failed)))

pub returns-in_err-batch-clause-node : goal.returns-in_err-batch-clause-node
returns-in_err-batch-clause-node g c =
    let p = err_from_is_err_and c.from_residual.result c.from_residual.ensures.1 in
    rw (p.1, p.2, ← c.self.view_is) (λ k. (k, Saves.none c.in_err-batch.ensures.err))

pub returns-in-Ok-clause-node : goal.returns-in-Ok-clause-node
returns-in-Ok-clause-node g c = rw (c.saved.ensures c.in_ok-batch.batch.now c.in_ok-batch.ensures.ok, ← c.self.view_is)
    (is_saved_by _ c.in_ok-batch.batch.now c.in_ok-batch.ensures.ok _ c.in-Ok.ensures.ok)

pub returns-in-Err-Memory-clause-node : goal.returns-in-Err-Memory-clause-node
returns-in-Err-Memory-clause-node g c = rw (← c.self.view_is)
    (has_no_room_by _ c.in_ok-batch.batch.now c.in_ok-batch.ensures.ok _ c.in-Err-Memory.ensures.err)

pub returns-in-Err-Broken-clause-node : goal.returns-in-Err-Broken-clause-node
returns-in-Err-Broken-clause-node g c = rw (c.doubted.ensures c.in_ok-batch.batch.now c.in_ok-batch.ensures.ok, ← c.self.view_is)
    (is_in_doubt_by _ c.in_ok-batch.batch.now c.in_ok-batch.ensures.ok _ c.in-Err-Broken.ensures.err)
