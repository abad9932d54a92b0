use Rattle.fl_cluster.proofs.Failures.{one_is_not_three}
use Rattle.fl_cluster.proofs.Turning.{turns_bad}
use Rattle.fl_cluster.proofs.session.Session.answer_bad.Goals as goal

pub returns-clause-ok : goal.returns-clause-ok
returns-clause-ok g c bytes says =
    c.say.ensures.ok c.args.self.now bytes
    (rw c.bad_line.ensures (turns_bad g.M.K.Keeper.custody g.M.MakesKeepers.making _ bytes says))
    (rw c.bad_line.ensures (λ three. absurd (one_is_not_three three)))

pub returns-clause-err : goal.returns-clause-err
returns-clause-err g c bytes says =
    c.say.ensures.err c.args.self.now bytes
    (rw c.bad_line.ensures (turns_bad g.M.K.Keeper.custody g.M.MakesKeepers.making _ bytes says))
    (rw c.bad_line.ensures (λ three. absurd (one_is_not_three three)))
