use Rattle.std.proofs.Common.{refl, sym, rules}
use Rattle.fl_script.specs.Reading.{IsReading}
use Rattle.fl_script.specs.declared.reading.Reading.TheVariants as reading
use Rattle.fl_cluster.specs.declared.response.Response.TheVariants as response
use Rattle.fl_cluster.proofs.Failures.{no_three}
use Rattle.fl_cluster.proofs.Turning.{turns_quiet, passes_answer, passes_nothing}
use Rattle.fl_cluster.proofs.session.SessionResponder.answer.Goals as goal

pub returns-in-Ok-Quiet-clause-ok : goal.returns-in-Ok-Quiet-clause-ok
returns-in-Ok-Quiet-clause-ok g c =
    let says : IsReading c.self.inside.aliases c.args.line.now reading.Quiet = search rules in
    rw (sym c.self.view_is) (passes_answer g.M.K.Keeper.custody g.M.MakesKeepers.making _ _ _ _ response.Silence _ refl
    (turns_quiet g.M.K.Keeper.custody g.M.MakesKeepers.making _ c.args.line.now says)
    (λ three. absurd (no_three three)) (passes_nothing _ c.args.sink.now))

pub returns-in-Ok-Means-clause-ok : goal.returns-in-Ok-Means-clause-ok
returns-in-Ok-Means-clause-ok g c = rw (sym c.self.view_is) (c.answer_meant.ensures.ok c.args.line.now (search rules))

pub returns-in-Ok-Means-clause-err : goal.returns-in-Ok-Means-clause-err
returns-in-Ok-Means-clause-err g c = rw (sym c.self.view_is) (c.answer_meant.ensures.err c.args.line.now (search rules))

pub returns-in-Ok-Bad-clause-ok : goal.returns-in-Ok-Bad-clause-ok
returns-in-Ok-Bad-clause-ok g c = rw (sym c.self.view_is) (c.answer_bad.ensures.ok c.args.line.now (search rules))

pub returns-in-Ok-Bad-clause-err : goal.returns-in-Ok-Bad-clause-err
returns-in-Ok-Bad-clause-err g c = rw (sym c.self.view_is) (c.answer_bad.ensures.err c.args.line.now (search rules))

pub returns-in-Err-clause-ok : goal.returns-in-Err-clause-ok
returns-in-Err-clause-ok g c = rw (sym c.self.view_is) (c.answer_starved.ensures.ok c.args.line.now (search rules))

pub returns-in-Err-clause-err : goal.returns-in-Err-clause-err
returns-in-Err-clause-err g c = rw (sym c.self.view_is) (c.answer_starved.ensures.err c.args.line.now (search rules))
