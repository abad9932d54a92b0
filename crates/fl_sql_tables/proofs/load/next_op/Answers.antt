use Rattle.std.proofs.Common.{sym, ◌∙◌, rules, Some}
use Rattle.sqlite.specs.Given.{Advances}
use Rattle.fl_sql_tables.proofs.load.next_op.Goals as goal

pub returns-in-Some-read_op-clause-ok : goal.returns-in-Some-read_op-clause-ok
returns-in-Some-read_op-clause-ok g c clean =
    let step : Advances g.S.Store c.args.rows.now.conn.now c.advance.new.self.conn.now (Some c.in-Some.row.now) = search rules in
    (c.in-Some.row.now, step, sym c.read_op.ensures ∙ c.in-Some-read_op.is)
