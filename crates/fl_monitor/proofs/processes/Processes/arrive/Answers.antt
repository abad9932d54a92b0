use Rattle.std.proofs.Common.{◌∙◌, sym, subst, Err}
use Rattle.std.specs.FinMap as map
use Rattle.fl_jobs.specs.declared.answer.Refusal.TheVariants.{NoProcess}
use Rattle.fl_monitor.specs.parts.Acts.{ArrivesAt}
use Rattle.fl_monitor.proofs.Given.{there, nobody, put, one_message}
use Rattle.fl_monitor.proofs.processes.Processes.arrive.Goals as goal

pub returns-in_default-get_mut : goal.returns-in_default-get_mut
returns-in_default-get_mut c e is =
    let old = c.args.self.now in
    let d = c.into_inner-data.result in
    let none = nobody c.self.inside.all old d.receiver c.self.view_is c.in_default-get_mut.ensures.value in
    let same = c.into_inner-data.ensures ∙ one_message _ _ e c.in-Arrive.is is in
    subst (λ x. ArrivesAt old x (Err (NoProcess d.receiver)) c.self.inside.all) same
    (subst (ArrivesAt old d (Err (NoProcess d.receiver))) (sym c.self.view_is)
    (ArrivesAt.nobody none))

pub returns : goal.returns
returns c e is =
    let old = c.args.self.now in
    let d = c.into_inner-data.result in
    let all = c.self.inside.all in
    let is_there = there all old d.receiver c.self.view_is c.in-Some.process.now c.in-Some.ensures.value in
    let same = c.into_inner-data.ensures ∙ one_message _ _ e c.in-Arrive.is is in
    subst (λ x. ArrivesAt old x c.arrive.result (map.insert all d.receiver c.arrive.new.process)) same
    (subst (ArrivesAt old d c.arrive.result)
    (sym (put all old d.receiver c.self.view_is c.arrive.new.process))
    (ArrivesAt.came is_there c.arrive.ensures))
