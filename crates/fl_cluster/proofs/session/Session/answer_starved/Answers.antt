use Rattle.std.proofs.Common.{inl}
use Rattle.fl_cluster.proofs.Failures.{no_three}
use Rattle.fl_cluster.proofs.Turning.{turns_starved}
use Rattle.fl_cluster.proofs.session.Session.answer_starved.Goals as goal

pub returns-clause-ok : goal.returns-clause-ok
returns-clause-ok g c bytes takes =
    c.say.ensures.ok c.args.self.now bytes
    (rw c.starved.ensures (turns_starved g.M.K.Keeper.custody g.M.MakesKeepers.making _ bytes (inl takes)))
    (rw c.starved.ensures (λ three. absurd (no_three three)))

pub returns-clause-err : goal.returns-clause-err
returns-clause-err g c bytes takes =
    c.say.ensures.err c.args.self.now bytes
    (rw c.starved.ensures (turns_starved g.M.K.Keeper.custody g.M.MakesKeepers.making _ bytes (inl takes)))
    (rw c.starved.ensures (λ three. absurd (no_three three)))
