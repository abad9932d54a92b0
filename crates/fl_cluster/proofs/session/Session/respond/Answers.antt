use Rattle.std.proofs.Common.{None, Some}
use Rattle.fl_cluster.proofs.Turning.{turns_named, turns_placed}
use Rattle.fl_cluster.proofs.session.Session.respond.Goals as goal

pub returns-in-None-clause-turns : goal.returns-in-None-clause-turns
returns-in-None-clause-turns g c = λ bytes says.
    turns_named g.M.K.Keeper.custody g.M.MakesKeepers.making
    _ _ bytes c.args.line None c.answer.result (rw c.in-None.is at says) c.answer.ensures.names

pub returns-in-Some-clause-turns : goal.returns-in-Some-clause-turns
returns-in-Some-clause-turns g c = λ bytes says.
    turns_placed g.M.K.Keeper.custody g.M.MakesKeepers.making
    _ _ bytes c.args.line c.in-Some.alias c.answer_named.result (rw c.in-Some.is at says) c.answer_named.ensures.names

pub returns-in-None-clause-cause : goal.returns-in-None-clause-cause
returns-in-None-clause-cause g c bytes says three = record {
  line = c.args.line;
  alias = None;
  says = rw c.in-None.is at says;
  fails = c.answer.ensures.cause three;
}

pub returns-in-Some-clause-cause : goal.returns-in-Some-clause-cause
returns-in-Some-clause-cause g c bytes says three = record {
  line = c.args.line;
  alias = Some c.in-Some.alias;
  says = rw c.in-Some.is at says;
  fails = c.answer_named.ensures.cause three;
}
