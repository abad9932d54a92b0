use Rattle.std.proofs.lemmas.Result.{MatchResult-weaker}
use Rattle.fl_machine_calls.specs.Saying.{saying_of}
use Rattle.fl_machine_calls.specs.parts.Emitting.{MayGoOn}
use Rattle.fl_machine_calls.proofs.Guards.{may_not_go_on}
use Rattle.fl_machine_calls.proofs.Numbers.{still_same}
use Rattle.fl_machine_calls.proofs.guarding.ask_first.Goals as goal

pub returns-in-Some-clause-passes : goal.returns-in-Some-clause-passes
returns-in-Some-clause-passes g c =
    MatchResult-weaker c.emit_nothing.result c.emit_nothing.ensures.out
    (λ count out. MayGoOn.passes c.in-Some.ensures.0 c.in-Some.ensures.1 out)
    (λ held h. h)

pub returns-in-Some-clause-held : goal.returns-in-Some-clause-held
returns-in-Some-clause-held g c =
    MatchResult-weaker c.emit_nothing.result c.emit_nothing.ensures.held
    (λ count h. h)
    (λ held h. may_not_go_on g.K.Keeper.custody c.args.node.now c.emit_nothing.new.node
    c.args.guards c.args.job.now c.in-Some.pid c.in-Some.ensures.0 c.in-Some.ensures.1 held.1
    (saying_of held.0) h)

pub returns-in-None-clause-passes : goal.returns-in-None-clause-passes
returns-in-None-clause-passes g c = MayGoOn.free c.in-None.ensures

pub returns-in-None-clause-same : goal.returns-in-None-clause-same
returns-in-None-clause-same g c = still_same _
