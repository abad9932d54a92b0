use Rattle.std.proofs.Common.{◌∙◌, refl, sym, ap, subst, Some, IsSome}
use Rattle.fl_bench.specs.Process.{standing_at}
use Rattle.fl_monitor.proofs.Given.{on_err, there, nobody, same_put}
use Rattle.fl_monitor.proofs.processes.Processes.share.Goals as goal

pub returns-in_default-clause-ok : goal.returns-in_default-clause-ok
returns-in_default-clause-ok c =
    ap standing_at (sym (nobody c.self.inside.all c.args.self.now c.args.pid c.self.view_is
    c.in_default.ensures.value))

pub returns-in_err-share-clause-err : goal.returns-in_err-share-clause-err
returns-in_err-share-clause-err c =
    let is_there = there c.self.inside.all c.args.self.now c.args.pid c.self.view_is
    c.in-Some.process.now c.in-Some.ensures.value in
    on_err _ (subst IsSome (sym is_there) refl)

pub returns-in_err-share-clause-same : goal.returns-in_err-share-clause-same
returns-in_err-share-clause-same c =
    same_put c.self.inside.all c.args.self.now c.args.pid c.self.view_is c.in-Some.process.now
    c.share.new.self c.in-Some.ensures.value c.share.ensures.same

pub returns-clause-ok : goal.returns-clause-ok
returns-clause-ok c =
    let is_there = there c.self.inside.all c.args.self.now c.args.pid c.self.view_is
    c.in-Some.process.now c.in-Some.ensures.value in
    ap Some c.in_ok-share.ensures.shared ∙ ap standing_at (sym is_there)

pub returns-clause-same : goal.returns-clause-same
returns-clause-same c =
    same_put c.self.inside.all c.args.self.now c.args.pid c.self.view_is c.in-Some.process.now
    c.share.new.self c.in-Some.ensures.value c.share.ensures.same
