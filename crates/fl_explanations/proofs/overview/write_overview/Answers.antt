use Rattle.std.specs.Option.{option_copied}
use Rattle.fl_explanations.specs.Lines.{processes_at}
use Rattle.fl_explanations.proofs.Overviews.{overview_text}
use Rattle.fl_sink.specs.laws.Passing.{puts_then, puts_stop}
use Rattle.fl_explanations.proofs.overview.write_overview.Goals as goal

pub returns-in_err-write_count-clause-puts : goal.returns-in_err-write_count-clause-puts
returns-in_err-write_count-clause-puts g c =
    rw (overview_text _ _ _ _ (processes_at (option_copied c.args.bench)) c.args.pids.now c.requires)
    (puts_stop _ _ c.in_err-write_count.ensures.puts.is c.from_residual.ensures.0)

pub returns-in_err-write_node-clause-puts : goal.returns-in_err-write_node-clause-puts
returns-in_err-write_node-clause-puts g c =
    rw (overview_text _ _ _ _ (processes_at (option_copied c.args.bench)) c.args.pids.now c.requires)
    (puts_then c.in_ok-write_count.ensures.puts.is
    (puts_stop _ _ c.in_err-write_node.ensures.puts.is c.from_residual-in_err-write_node.ensures.0))

pub returns-clause-puts : goal.returns-clause-puts
returns-clause-puts g c =
    rw (overview_text _ _ _ _ (processes_at (option_copied c.args.bench)) c.args.pids.now c.requires)
    (puts_then c.in_ok-write_count.ensures.puts.is
    (puts_then c.in_ok-write_node.ensures.puts.is
    (c.write_all.ensures.puts)))
