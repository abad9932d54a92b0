use Rattle.fl_cluster.proofs.session.Session.answer_meant.Goals as goal

pub returns-clause-ok : goal.returns-clause-ok
returns-clause-ok g c bytes says =
    c.say.ensures.ok c.args.self.now bytes (c.respond-response.ensures.turns bytes says) (c.respond-response.ensures.cause bytes says)

pub returns-clause-err : goal.returns-clause-err
returns-clause-err g c bytes says =
    c.say.ensures.err c.args.self.now bytes (c.respond-response.ensures.turns bytes says) (c.respond-response.ensures.cause bytes says)
