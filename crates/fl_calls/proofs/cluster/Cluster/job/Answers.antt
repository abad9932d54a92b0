use Rattle.std.proofs.Common.{◌∙◌, refl, sym, subst, Ok}
use Rattle.fl_system.specs.declared.event.Event.TheVariants as event
use Rattle.fl_calls.specs.Answer.{replied}
use Rattle.fl_calls.specs.Calls.{Asks, Says}
use Rattle.fl_calls.specs.Completing.{Completes}
use Rattle.fl_calls.specs.Failing.{FailsCompleting, FailsOnceOpen}
use Rattle.fl_calls.specs.Over.{GoesOn}
use Rattle.fl_calls.proofs.Failures.{as_before, once_asked, once_finished, one_there}
use Rattle.fl_calls.proofs.Finishing.{goes_at_once, goes_in_steps}
use Rattle.fl_calls.proofs.Going.{goes_as}
use Rattle.fl_calls.proofs.Opening.{entered_as, once_open}
use Rattle.fl_calls.proofs.cluster.Cluster.job.Goals as goal

-- the node is not there, and nothing has changed

pub returns-then-is_nowhere-clause-goes : goal.returns-then-is_nowhere-clause-goes
returns-then-is_nowhere-clause-goes g c =
    let same = c.job-reply.ensures.left (c.is_nowhere.ensures.yes c.if-is_nowhere.true) in
    let new = c.job_once_open.new.self in
    let old = as_before c.self.inside.world c.self.inside.maker c.args.self.now c.self.view_is c.job-reply.new.self same.0 in
    subst (λ o. GoesOn g.M.K.Keeper.custody g.M.MakesKeepers.making o new
    (λ openings w w'. Asks openings w (event.Job c.args.number c.args.look.desk c.args.look.upto c.args.job.now) (replied c.job_once_open.result) w')) old
    (rw (c.replace.ensures.value ∙ same.1) at c.job_once_open.ensures.goes)

pub returns-then-is_nowhere-clause-cause : goal.returns-then-is_nowhere-clause-cause
returns-then-is_nowhere-clause-cause g c says =
    let same = c.job-reply.ensures.left (c.is_nowhere.ensures.yes c.if-is_nowhere.true) in
    let new = c.job_once_open.new.self in
    let old = as_before c.self.inside.world c.self.inside.maker c.args.self.now c.self.view_is c.job-reply.new.self same.0 in
    subst (λ o. FailsOnceOpen g.M.K.Keeper.custody g.M.MakesKeepers.making o new c.args.number
    (λ between. FailsCompleting g.M.K.Keeper.custody between.world new.world (event.Job c.args.number c.args.look.desk c.args.look.upto c.args.job.now))) old
    (rw (c.replace.ensures.value ∙ same.1) at (c.job_once_open.ensures.cause says))

-- it is there

pub returns-then-begins-clause-goes : goal.returns-then-begins-clause-goes
returns-then-begins-clause-goes g c =
    let asked = event.Job c.args.number c.args.look.desk c.args.look.upto c.args.job.now in
    let at = one_there c.self.inside.world c.self.inside.maker c.args.self.now c.self.view_is c.args.number
    (λ none. c.is_nowhere.ensures.no c.if-is_nowhere.false (c.job-reply.ensures.nowhere none)) in
    once_open g.M.K.Keeper.custody g.M.MakesKeepers.making _ _ _ _ _ _ (Ok tt) _
    (λ v. Says replied (Completes v asked)) (replied c.finish.result) c.self.view_is refl
    (entered_as g.M.K.Keeper.custody g.M.MakesKeepers.making c.args.self.now c.args.number at.0 at.1)
    (goes_as g.M.K.Keeper.custody _ _ _ _ (λ w w' done. (c.finish.result, refl, done))
    (goes_in_steps g.M.K.Keeper.custody _ _ _ asked c.args.number _ _ (sym c.begins.ensures ∙ c.if-begins.true)
    refl c.job-reply.ensures.goes c.finish.ensures.goes))

pub returns-then-begins-clause-cause : goal.returns-then-begins-clause-cause
returns-then-begins-clause-cause g c says =
    let asked = event.Job c.args.number c.args.look.desk c.args.look.upto c.args.job.now in
    let at = one_there c.self.inside.world c.self.inside.maker c.args.self.now c.self.view_is c.args.number
    (λ none. c.is_nowhere.ensures.no c.if-is_nowhere.false (c.job-reply.ensures.nowhere none)) in
    once_asked g.M.K.Keeper.custody g.M.MakesKeepers.making _ _ _ _ _ _ (Ok tt) _ _
    (λ between. FailsCompleting g.M.K.Keeper.custody between c.finish.new.world asked) c.self.view_is refl
    (entered_as g.M.K.Keeper.custody g.M.MakesKeepers.making c.args.self.now c.args.number at.0 at.1) (λ n there. refl)
    (goes_in_steps g.M.K.Keeper.custody _ _ _ asked c.args.number _ _ (sym c.begins.ensures ∙ c.if-begins.true)
    refl c.job-reply.ensures.goes c.finish.ensures.goes)
    (once_finished g.M.K.Keeper.custody _ _ asked c.args.number refl (c.finish.ensures.cause says))

pub returns-clause-goes : goal.returns-clause-goes
returns-clause-goes g c =
    let asked = event.Job c.args.number c.args.look.desk c.args.look.upto c.args.job.now in
    let at = one_there c.self.inside.world c.self.inside.maker c.args.self.now c.self.view_is c.args.number
    (λ none. c.is_nowhere.ensures.no c.if-is_nowhere.false (c.job-reply.ensures.nowhere none)) in
    once_open g.M.K.Keeper.custody g.M.MakesKeepers.making _ _ _ _ _ _ (Ok tt) _
    (λ v. Says replied (Completes v asked)) (replied c.job-reply.result) c.self.view_is refl
    (entered_as g.M.K.Keeper.custody g.M.MakesKeepers.making c.args.self.now c.args.number at.0 at.1)
    (goes_as g.M.K.Keeper.custody _ _ _ _ (λ w w' done. (c.job-reply.result, refl, done))
    (goes_at_once g.M.K.Keeper.custody _ _ asked _ (sym c.begins.ensures ∙ c.if-begins.false) c.job-reply.ensures.goes))

pub returns-clause-cause : goal.returns-clause-cause
returns-clause-cause g c says = absurd (c.job-reply.ensures.cause says)
