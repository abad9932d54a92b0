use Rattle.fl_labels.specs.declared.cap.Cap.TheVariants.{Use}
use Rattle.fl_ops.specs.Registry.{From}
use Rattle.fl_explanations.specs.Why.{BeginsWithUse}
use Rattle.fl_machine_lines.specs.declared.explaining.Explanation.TheVariants.{Log, Why, WhyGroup, Who, Show, ShowProcess}
use Rattle.fl_machine_turns.specs.Explaining.{Explains}
use Rattle.fl_machine.specs.Shown.{Shows}
use Rattle.fl_machine.specs.declared.response.Response.TheVariants as response
use Rattle.fl_machine.proofs.Explanations.{explains_not, explains_so, shows_more, shows_why}
use Rattle.fl_machine.proofs.Statuses.{no_three}
use Rattle.fl_machine.proofs.explaining.explain.Goals as goal

pub returns-in-Err : goal.returns-in-Err
returns-in-Err g c = λ keys.
    rw c.refused.ensures (explains_not g.K.Keeper.custody c.args.node.now keys
    (λ n. Explains n c.args.what) c.in-Err.fault c.in-Err.ensures.err)

pub returns-in-Log : goal.returns-in-Log
returns-in-Log g c = λ keys.
    rw c.in-Log.is (explains_so g.K.Keeper.custody c.args.node.now keys
    (λ n. Explains n (Log c.in-Log.place))
    (response.Log c.in-Log.place) c.in_default.ensures.ok
    (record { answer = _; shows = Shows.log; is = Explains.log; quiet = no_three }))

pub returns-in-Why : goal.returns-in-Why
returns-in-Why g c = λ keys.
    rw c.in-Why.is (explains_so g.K.Keeper.custody c.args.node.now keys
    (λ n. Explains n (Why c.in-Why.pid c.in-Why.cap)) c.why_process.result c.in_default.ensures.ok
    (c.why_process.ensures keys))

pub returns-in-WhyGroup : goal.returns-in-WhyGroup
returns-in-WhyGroup g c = λ keys.
    let n = c.args.node.now.node in
    let group = c.in-WhyGroup.group in
    rw (c.in-WhyGroup.is, c.told.ensures) (explains_so g.K.Keeper.custody c.args.node.now keys
    (λ n. Explains n (WhyGroup group c.in-WhyGroup.cap)) _ c.in_default.ensures.ok
    (shows_more (λ answer told. Explains.why_group told)
    (shows_why keys n n.published (From (Use group)) (BeginsWithUse group) c.in-WhyGroup.cap
    c.why_group.result (rw c.published.ensures at c.why_group.ensures.found)
    c.why_group.ensures.memory)))

pub returns-in-Who : goal.returns-in-Who
returns-in-Who g c = λ keys.
    rw c.in-Who.is (explains_so g.K.Keeper.custody c.args.node.now keys
    (λ n. Explains n (Who c.in-Who.cap)) c.named.result c.in_default.ensures.ok (c.named.ensures keys))

pub returns-in-Show : goal.returns-in-Show
returns-in-Show g c = λ keys.
    rw c.in-Show.is (explains_so g.K.Keeper.custody c.args.node.now keys
    (λ n. Explains n Show) c.overview.result c.in_default.ensures.ok (c.overview.ensures keys))

pub returns-in-ShowProcess : goal.returns-in-ShowProcess
returns-in-ShowProcess g c = λ keys.
    rw c.in-ShowProcess.is (explains_so g.K.Keeper.custody c.args.node.now keys
    (λ n. Explains n (ShowProcess c.in-ShowProcess.pid)) (response.Process c.in-ShowProcess.pid)
    c.in_default.ensures.ok
    (record { answer = _; shows = Shows.process; is = Explains.show_process; quiet = no_three }))
