use Rattle.std.proofs.Common.{◌≡◌, ◌<◌, ◌∙◌, arith, ap, subst, [], ◌∷◌}
use Rattle.sqlite.specs.Held.{state}
use Rattle.sqlite.specs.State.{HasCleanDisk}
use Rattle.fl_sql_tables.specs.Stored.{PutsIn}
use Rattle.fl_sql_tables.proofs.StateLemmas.{puts_next, keeps_on, survives_on, clean_before}
use Rattle.fl_sql_tables.specs.Failing.{FailsToPut}
use Rattle.fl_sql_tables.proofs.FailLemmas.{goes_on, save_fault, handed_on}
use Rattle.fl_sql_tables.proofs.put.put_ops.Goals as goal

pub ops-preserved : goal.ops-preserved
ops-preserved g c =
    let old = state g.S.Store c.args.tx.now.conn.now in
    let mid = state g.S.Store c.ops.tx.conn.now in
    let new = state g.S.Store c.put_op.new.tx.conn.now in
    let before = λ (clean : HasCleanDisk new). clean_before mid new _ c.put_op.ensures.survives clean in
    record {
      same_reference = c.put_op.ensures.same_reference ∙ c.ops.invariant.same_reference;
      first = λ none. absurd (omega arith);
      ok = λ clean inside ours _.
          puts_next old mid new c.args.ops.now c.ops.op-index c.op-item.result (omega arith) (λ start. ap (state g.S.Store) (c.ops.invariant.first start))
          (c.ops.invariant.ok (before clean) inside ours) inside ours (λ inside ours. subst (λ o. PutsIn (o ∷ []) mid new) c.op-item.is (c.in_ok-put_op.ensures.ok clean inside ours));
      kept = λ clean. keeps_on old mid new (c.ops.invariant.kept (before clean)) (c.put_op.ensures.kept clean);
      survives = survives_on old mid new c.ops.invariant.survives c.put_op.ensures.survives;
    }

pub returns-in_err-put_op-clause-fails : goal.returns-in_err-put_op-clause-fails
returns-in_err-put_op-clause-fails g c clean inside ours is_open =
    let old = state g.S.Store c.args.tx.now.conn.now in
    let mid = state g.S.Store c.ops.tx.conn.now in
    let new = state g.S.Store c.put_op.new.tx.conn.now in
    let before = clean_before mid new _ c.put_op.ensures.survives clean in
    let so_far = λ (more : 0 < c.ops.op-index). c.ops.invariant.ok before inside ours more in
    let first = λ (start : c.ops.op-index ≡ 0). ap (state g.S.Store) (c.ops.invariant.first start) in
    let on = goes_on old mid _ c.ops.op-index first so_far inside ours is_open in
    let failed = subst (λ o. FailsToPut o mid new c.in_err-put_op.field-0.0) c.op-item.is (c.in_err-put_op.ensures.fails clean on.0 on.1 on.2) in
    handed_on _ _ _ c.from_residual.ensures.1
    (save_fault old mid new c.args.ops.now c.ops.op-index c.op-item.result (omega arith) first so_far ours is_open c.ops.invariant.survives.counts c.ops.invariant.survives.limit _ failed)
