use Rattle.std.proofs.Common.{inl, inr, subst}
use Rattle.fl_jobs.specs.declared.job.Act.TheVariants.{Ask}
use Rattle.fl_jobs.specs.declared.job.Job.TheVariants.{By, Member}
use Rattle.fl_system.specs.declared.event.Event.TheVariants.{Job}
use Rattle.fl_system.specs.Runs.{end}
use Rattle.fl_system.specs.WorldSteps.{Step}
use Rattle.fl_world_laws.specs.laws.Naming.{reached_named}
use Rattle.fl_agreement_laws.proofs.Answering.{answer_is, member_stays, ask_stays}
use Rattle.fl_agreement_laws.proofs.laws.law_yes.Goals as goal

pub returns-clause-member : goal.returns-clause-member
returns-clause-member c = λ w after last ms number desk upto other upto' root x reply reached says run knows is again.
    elim (answer_is reply is) [
      | inl said ↦ said
      | inr other_said ↦ absurd (member_stays w after last ms number desk upto other upto' (reached_named w reached) run
          knows root x says
          (subst (λ r. Step (end after ms) (Job number other upto' (Member root x)) r last) other_said again))
    ]

pub returns-clause-ask : goal.returns-clause-ask
returns-clause-ask c =
    λ w after last ms number desk upto other upto' pid pid' p p' x reply reached says run knows has has' owned is again.
    elim (answer_is reply is) [
      | inl said ↦ said
      | inr other_said ↦ absurd (ask_stays w after last ms number desk upto other upto' (reached_named w reached) run
          knows pid pid' p p' x says has has' owned
          (subst (λ r. Step (end after ms) (Job number other upto' (By pid' (Ask x))) r last) other_said again))
    ]
