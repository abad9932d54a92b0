use Rattle.std.proofs.lemmas.Option.{IfSome_then}
use Rattle.std.proofs.lemmas.Result.{IfOk-weaker, on_err_weaker}
use Rattle.fl_machine.proofs.Runs.{answered_behind, first_behind, output_behind, runs_first}
use Rattle.fl_machine.proofs.Runs.{runs_machine, runs_none, some_always}
use Rattle.fl_machine.proofs.run.converse.Goals as goal

pub returns-in-Err-clause-first_run : goal.returns-in-Err-clause-first_run
returns-in-Err-clause-first_run g c = λ found started.
    some_always _ (λ script. runs_none g.K.Keeper.custody (g.K.Keeper.custody.may_hold found)
    c.args.session started _ _ script c.in-Err.ensures.writes.is)

pub converse-requires-clause-due : goal.converse-requires-clause-due
converse-requires-clause-due g c = λ heard said mid answered live.
    c.requires.due heard said mid
    (answered_behind g.K.Keeper.custody c.args.session mid _ _ _ _ c.in_default.ensures.writes.is
    heard answered) live

pub returns-clause-one_run : goal.returns-clause-one_run
returns-clause-one_run g c = λ found started.
    IfOk-weaker c.converse.result.1 _ _ (λ status h. IfSome_then _ h (λ script p.
    runs_machine g.K.Keeper.custody (g.K.Keeper.custody.may_hold found) c.args.session
    c.converse.result.0 started _ _ script status
    (output_behind g.K.Keeper.custody c.args.session c.converse.result.0 _ _ _ _
    c.in_default.ensures.writes.is script status p))) c.converse.ensures.ok

pub returns-clause-first_run : goal.returns-clause-first_run
returns-clause-first_run g c = λ found started.
    on_err_weaker c.converse.result.1 (λ h. IfSome_then _ h (λ script p.
    runs_first g.K.Keeper.custody (g.K.Keeper.custody.may_hold found) c.args.session
    c.converse.result.0 started _ _ script
    (first_behind g.K.Keeper.custody c.args.session c.converse.result.0 _ _ _ _
    c.in_default.ensures.writes.is script p))) c.converse.ensures.err
