use Rattle.std.proofs.Common.{inl}
use Rattle.fl_cluster.proofs.Failures.{no_three}
use Rattle.fl_cluster.proofs.Naming.{placed, placed_is_set}
use Rattle.fl_cluster.proofs.Turning.{names_some}
use Rattle.fl_cluster.proofs.session.Session.answer_named.Goals as goal

pub settle-requires : goal.settle-requires
settle-requires g c = placed_is_set (placed _ _ _ _ _ c.in-Ok.ensures.new c.in-Ok.ensures.ok)

pub returns-clause-names : goal.returns-clause-names
returns-clause-names g c =
    let set = placed _ _ _ _ _ c.in-Ok.ensures.new c.in-Ok.ensures.ok in
    rw (← c.self.view_is) (inl (names_some g.M.K.Keeper.custody g.M.MakesKeepers.making
    (record { cluster = c.self.inside.cluster; aliases = c.self.inside.aliases })
    (record { cluster = c.respond_to-response.new.cluster; aliases = c.settle.new.aliases })
    c.args.line c.args.alias c.respond_to-response.result c.made.result c.requires.makes
    (c.settle.ensures c.self.inside.aliases set) c.made.ensures c.respond_to-response.ensures.responds))

pub returns-in_default-clause-cause : goal.returns-in_default-clause-cause
returns-in_default-clause-cause g c = rw c.starved.ensures (λ three. absurd (no_three three))

pub returns-clause-cause : goal.returns-clause-cause
returns-clause-cause g c = rw (← c.self.view_is) c.respond_to-response.ensures.cause
