use Rattle.std.proofs.Common.{sym}
use Rattle.fl_calls.proofs.Bringing.{no_text, stopped_text}
use Rattle.fl_calls.proofs.cluster.Cluster.write_text.Goals as goal

pub returns-in-Err-clause-puts : goal.returns-in-Err-clause-puts
returns-in-Err-clause-puts g c =
    rw (stopped_text _ _ _ c.args.number c.in-Some.node.now c.in-Err.field-0 c.self.view_is (sym (rw c.in-Some.is at c.node.ensures))
    (rw c.in-Err.is at c.runs.ensures.err)) c.put_all.ensures.puts

pub returns-in-None-clause-puts : goal.returns-in-None-clause-puts
returns-in-None-clause-puts g c =
    rw (no_text _ _ _ c.args.number c.self.view_is (sym (rw c.in-None.is at c.node.ensures))) c.put_all-in-None.ensures.puts
