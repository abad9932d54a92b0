use Rattle.std.proofs.Common.{◌∙◌, arith}
use Rattle.sqlite.specs.Held.{state}
use Rattle.fl_sql_tables.proofs.StateLemmas.{clean_before}
use Rattle.fl_sql_tables.proofs.FoundLemmas.{start_after}
use Rattle.fl_sql_tables.proofs.found.make_tables.Goals as goal

pub returns-clause-fails : goal.returns-clause-fails
returns-clause-fails g c clean inside is_open =
    let old = state g.S.Store c.args.tx.now.conn.now in
    let mid = state g.S.Store c.create_self.new.tx.conn.now in
    let made = state g.S.Store c.create_ops.new.tx.conn.now in
    let new = state g.S.Store c.insert_self.new.tx.conn.now in
    let late = clean_before made new _ c.insert_self.ensures.survives clean in
    let early = clean_before mid made _ c.create_ops.ensures.survives late in
    let first = c.create_self.ensures.survives in
    let second = c.create_ops.ensures.survives in
    let itself = c.in_ok-create_self.ensures.ok early inside in
    let ops = c.in_ok-create_ops.ensures.ok late itself.shown.mode itself.schema in
    let failed = c.insert_self.ensures.fails clean ops.shown.mode ops.schema ops.shown.is_open in
    start_after old made new c.args.number c.insert_self.result (record { schema = ops.schema; itself = ops.itself ∙ itself.none; ops = ops.none; listed = ops.listed })
    (omega (arith, first.counts, second.counts)) (second.limit ∙ first.limit) failed
