use Rattle.std.proofs.Common.{refl}
use Rattle.fl_script.specs.declared.line.Line.TheVariants as line
use Rattle.fl_script.specs.declared.request.Request.TheVariants as requests
use Rattle.fl_calls.specs.declared.response.Response.TheVariants as calls
use Rattle.fl_cluster.specs.declared.response.Response.TheVariants as response
use Rattle.fl_cluster.proofs.Failures.{asked_job}
use Rattle.fl_cluster.proofs.Turning.{names_none, responds_asked}
use Rattle.fl_cluster.proofs.session.Session.work.Goals as goal

pub returns-clause-names : goal.returns-clause-names
returns-clause-names g c =
    rw (← c.self.view_is) (names_none g.M.K.Keeper.custody g.M.MakesKeepers.making
    (record { cluster = c.self.inside.cluster; aliases = c.self.inside.aliases })
    (record { cluster = c.job.new.self; aliases = c.self.inside.aliases })
    (line.Node c.args.node (requests.Job c.args.job.now)) (response.Said (calls.Reply c.job.result)) refl
    (responds_asked g.M.K.Keeper.custody g.M.MakesKeepers.making _ _ c.args.node (requests.Job c.args.job.now) (calls.Reply c.job.result)
    c.job.ensures.goes))

pub returns-clause-cause : goal.returns-clause-cause
returns-clause-cause g c failed =
    rw (← c.self.view_is) (asked_job g.M.K.Keeper.custody g.M.MakesKeepers.making _ _ _ _ _ (c.job.ensures.cause failed))
