use Rattle.std.proofs.Common.{rules, arith, refl, true}
use Rattle.sqlite.specs.Held.{state}
use Rattle.sqlite.specs.State.{HasCleanDisk, Survives}
use Rattle.fl_sql_tables.proofs.FailLemmas.{handed_on}
use Rattle.fl_sql_tables.proofs.MigrateLemmas.{migrate_within}
use Rattle.fl_sql_tables.proofs.migrate.migrate.Goals as goal

pub returns-in_err-rewrite-clause-fails : goal.returns-in_err-rewrite-clause-fails
returns-in_err-rewrite-clause-fails g c clean =
    let old = state g.S.Store c.args.conn.now in
    let begun = state g.S.Store (record c.args.conn.now { in_transaction = true }) in
    let mid = state g.S.Store c.rewrite.new.tx.conn.now in
    let new = state g.S.Store c.conn-1.given.0 in
    let last : Survives mid new (λ _. ⊥) = search rules in
    let late : HasCleanDisk mid = omega (arith, last.clean, clean) in
    let fails = rw c.transaction-tx.ensures.begun at c.in_err-rewrite.ensures.fails in
    handed_on _ _ _ c.from_residual.ensures.1 (migrate_within old begun mid new c.args.ops.now _ refl (omega arith) last.counts refl (fails late refl))
