use Rattle.fl_sink.specs.laws.Passing.{on_err_always}
use Rattle.fl_cluster.proofs.Turning.{passes_answer, cuts_answer}
use Rattle.fl_cluster.proofs.session.Session.say.Goals as goal

pub returns-in_err-write_response-clause-err : goal.returns-in_err-write_response-clause-err
returns-in_err-write_response-clause-err g c old bytes turned fails =
    on_err_always _ (cuts_answer g.M.K.Keeper.custody g.M.MakesKeepers.making
    _ old _ bytes c.args.response turned fails c.in_err-write_response.ensures.puts.is)

pub returns-clause-ok : goal.returns-clause-ok
returns-clause-ok g c old bytes turned fails =
    passes_answer g.M.K.Keeper.custody g.M.MakesKeepers.making
    _ old _ bytes _ _ c.status.ensures turned fails c.in_ok-write_response.ensures.puts.is
