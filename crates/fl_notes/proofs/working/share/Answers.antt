use Rattle.fl_sink.specs.laws.Passing.{on_err_always}
use Rattle.fl_notes.proofs.WorkLemmas.{any_noted}
use Rattle.fl_notes.proofs.working.share.Goals.{else-not-names_any-via-then-not-names_any+else-not-names_tuner, else-not-names_any-via-else-not-names_any}
use Rattle.fl_notes.proofs.working.share.Goals as goal

pub returns-in-By-clause-err : goal.returns-in-By-clause-err
returns-in-By-clause-err g c =
    let n = c.args.node.now.node in
    elim c.else-not-names_any.branch [
      | else-not-names_any-via-then-not-names_any+else-not-names_tuner w ↦
          on_err_always _ (w.names_tuner.ensures.may_be w.if-not-names_tuner.false)
      | else-not-names_any-via-else-not-names_any w ↦
          any_noted _ n c.args.job.now _ _ c.in-By.is (c.names_any.ensures.may_be w.if-not-names_any.false) c.share.ensures.err
    ]
