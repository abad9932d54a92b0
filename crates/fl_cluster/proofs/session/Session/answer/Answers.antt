use Rattle.std.proofs.Common.{refl}
use Rattle.fl_cluster.proofs.Turning.{names_none}
use Rattle.fl_cluster.proofs.session.Session.answer.Goals as goal

pub returns-clause-names : goal.returns-clause-names
returns-clause-names g c =
    rw (← c.self.view_is) (names_none g.M.K.Keeper.custody g.M.MakesKeepers.making
    (record { cluster = c.self.inside.cluster; aliases = c.self.inside.aliases })
    (record { cluster = c.respond_to.new.cluster; aliases = c.self.inside.aliases })
    c.args.line c.respond_to.result refl c.respond_to.ensures.responds)

pub returns-clause-cause : goal.returns-clause-cause
returns-clause-cause g c = rw (← c.self.view_is) c.respond_to.ensures.cause
