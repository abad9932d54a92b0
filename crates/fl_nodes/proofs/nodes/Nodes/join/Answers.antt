use Rattle.std.proofs.Common.{◌∙◌, refl, sym, subst}
use Rattle.fl_gossip.specs.Meeting.{FindsLeast}
use Rattle.fl_system.specs.Joins.{IsClashAt}
use Rattle.fl_nodes.specs.Joining.{DoesNotJoin, GivesBack}
use Rattle.fl_nodes.specs.parts.Joined.{IsStrayWith}
use Rattle.fl_store.specs.Breaking.{IsLeftBroken}
use Rattle.fl_node.specs.Causes.{KeeperFails}
use Rattle.fl_nodes.proofs.FailLemmas.{no_room, not_failed}
use Rattle.fl_nodes.proofs.Newcomers.{handed_on, is_not_there, is_there, refused_clash, refused_memory, refused_opening, refused_stray, refused_there, some_none, takes_in}
use Rattle.fl_nodes.proofs.nodes.Nodes.join.Goals as goal

pub returns-then-has-clause-refused : goal.returns-then-has-clause-refused
returns-then-has-clause-refused g c =
    let s = is_there _ _ c.has.ensures c.if-has.true in
    refused_there g.K.Keeper.custody c.args.self.now _ c.args.number c.args.keeper s.what refl s.is

pub returns-in_err-node-clause-refused : goal.returns-in_err-node-clause-refused
returns-in_err-node-clause-refused g c =
    handed_on c.from_residual.result (λ e. GivesBack g.K.Keeper.custody c.args.self.now c.args.keeper c.args.self.now e.1 (DoesNotJoin c.args.number e.0)) c.in_err-node.field-0.0
    c.from_residual.ensures.1 (refused_opening g.K.Keeper.custody c.args.self.now c.desks.result (sym c.desks.ensures.desks) c.args.number c.args.keeper
    (is_not_there _ _ c.has.ensures c.if-has.false) _ refl _ _ c.in_err-node.ensures.err)

pub returns-in-Some-clause-refused : goal.returns-in-Some-clause-refused
returns-in-Some-clause-refused g c =
    refused_clash g.K.Keeper.custody c.args.self.now c.desks.result (sym c.desks.ensures.desks) c.args.number c.args.keeper
    (is_not_there _ _ c.has.ensures c.if-has.false) c.in_ok-node.node c.in_ok-node.ensures.ok
    _ refl c.into_keeper.result c.into_keeper.ensures c.in-Some.name
    (λ w are. subst (FindsLeast (IsClashAt w c.in_ok-node.node.node.saved)) c.in-Some.is (subst (λ s. FindsLeast (IsClashAt w s) c.clash.result) c.saved.ensures.saved (c.clash.ensures w are)))

pub returns-in_err-take_in-clause-refused : goal.returns-in_err-take_in-clause-refused
returns-in_err-take_in-clause-refused g c =
    handed_on c.from_residual-in_err-take_in.result (λ e. GivesBack g.K.Keeper.custody c.args.self.now c.args.keeper c.take_in.new.self e.1 (DoesNotJoin c.args.number e.0)) c.in_err-take_in.field-0.0
    c.from_residual-in_err-take_in.ensures.1 (refused_memory g.K.Keeper.custody c.args.self.now c.desks.result (sym c.desks.ensures.desks) c.args.number c.args.keeper
    (is_not_there _ _ c.has.ensures c.if-has.false) c.in_ok-node.node c.in_ok-node.ensures.ok
    _ c.in_err-take_in.ensures.same _ c.in_err-take_in.ensures.given _ c.in_err-take_in.ensures.fault)

pub returns-clause-joins : goal.returns-clause-joins
returns-clause-joins g c =
    takes_in g.K.Keeper.custody c.args.self.now c.desks.result (sym c.desks.ensures.desks) c.args.number c.args.keeper
    (is_not_there _ _ c.has.ensures c.if-has.false) c.in_ok-node.node c.in_ok-node.ensures.ok
    (λ w are. subst (FindsLeast (IsClashAt w c.in_ok-node.node.node.saved)) c.in_default.is (subst (λ s. FindsLeast (IsClashAt w s) c.clash.result) c.saved.ensures.saved (c.clash.ensures w are)))
    _ c.in_ok-take_in.ensures.ok c.boot-boot.result c.boot-boot.ensures.boot c.saved.ensures.names
    (λ w are. subst (FindsLeast (IsStrayWith w c.args.number c.in_ok-node.node.node.saved)) c.in_default-stray.is (subst (λ s. FindsLeast (IsStrayWith w c.args.number s) c.stray.result) c.saved-2.ensures.saved (c.stray.ensures w are)))

pub returns-in-Some-stray-clause-refused : goal.returns-in-Some-stray-clause-refused
returns-in-Some-stray-clause-refused g c =
    refused_stray g.K.Keeper.custody c.args.self.now c.desks.result (sym c.desks.ensures.desks) c.args.number c.args.keeper
    (is_not_there _ _ c.has.ensures c.if-has.false) c.in_ok-node.node c.in_ok-node.ensures.ok
    (λ w are. subst (FindsLeast (IsClashAt w c.in_ok-node.node.node.saved)) c.in_default.is (subst (λ s. FindsLeast (IsClashAt w s) c.clash.result) c.saved.ensures.saved (c.clash.ensures w are)))
    _ refl c.into_keeper-in-Some-stray.result c.into_keeper-in-Some-stray.ensures c.in-Some-stray.name
    (λ w are. subst (FindsLeast (IsStrayWith w c.args.number c.in_ok-node.node.node.saved)) c.in-Some-stray.is (subst (λ s. FindsLeast (IsStrayWith w c.args.number s) c.stray.result) c.saved-2.ensures.saved (c.stray.ensures w are)))

pub returns-in_err-node-clause-there : goal.returns-in_err-node-clause-there
returns-in_err-node-clause-there g c n at = absurd (some_none n (sym at ∙ is_not_there _ _ c.has.ensures c.if-has.false))

pub returns-in-Some-clause-there : goal.returns-in-Some-clause-there
returns-in-Some-clause-there g c n at = absurd (some_none n (sym at ∙ is_not_there _ _ c.has.ensures c.if-has.false))

pub returns-in_err-take_in-clause-there : goal.returns-in_err-take_in-clause-there
returns-in_err-take_in-clause-there g c n at = absurd (some_none n (sym at ∙ is_not_there _ _ c.has.ensures c.if-has.false))

pub returns-clause-there : goal.returns-clause-there
returns-clause-there g c n at = absurd (some_none n (sym at ∙ is_not_there _ _ c.has.ensures c.if-has.false))

pub returns-in-Some-stray-clause-there : goal.returns-in-Some-stray-clause-there
returns-in-Some-stray-clause-there g c n at = absurd (some_none n (sym at ∙ is_not_there _ _ c.has.ensures c.if-has.false))

pub returns-in_err-node-clause-cause : goal.returns-in_err-node-clause-cause
returns-in_err-node-clause-cause g c =
    handed_on c.from_residual.result (λ e. KeeperFails (IsLeftBroken g.K.Keeper.custody c.args.keeper e.1) (g.K.Keeper.custody.is_honest e.1) (g.K.Keeper.custody.has_bad_row c.args.keeper) e.0) c.in_err-node.field-0.0
    c.from_residual.ensures.1 c.in_err-node.ensures.cause

pub returns-in_err-take_in-clause-cause : goal.returns-in_err-take_in-clause-cause
returns-in_err-take_in-clause-cause g c =
    handed_on c.from_residual-in_err-take_in.result (λ e. KeeperFails (IsLeftBroken g.K.Keeper.custody c.args.keeper e.1) (g.K.Keeper.custody.is_honest e.1) (g.K.Keeper.custody.has_bad_row c.args.keeper) e.0) c.in_err-take_in.field-0.0
    c.from_residual-in_err-take_in.ensures.1 (not_failed _ (no_room _ c.in_err-take_in.ensures.fault))
