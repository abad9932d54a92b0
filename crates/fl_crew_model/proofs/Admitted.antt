-- What a turn admits is safe under the list after it: the view of the job is a beginning of that
-- list.
use Rattle.std.proofs.Common.{◌≡◌, ℕ, List, ◌++◌, Result, Ok, Err, sym, ap, subst}
use Rattle.std.proofs.lemmas.List.Elements.{Contains-append_left}
use Rattle.fl_labels.specs.Found.{Within}
use Rattle.fl_ops.specs.Registry.{Listed}
use Rattle.fl_ops.specs.declared.op.Op.{Op}
use Rattle.fl_jobs.specs.declared.job.Job.{Job}
use Rattle.fl_jobs.specs.declared.job.Job.TheVariants.{Arrive}
use Rattle.fl_message.specs.declared.message.Data.{Data}
use Rattle.fl_system.specs.declared.answer.Answer.{Answer}
use Rattle.fl_system.specs.declared.answer.Answer.TheVariants as answers
use Rattle.fl_system.specs.declared.answer.Fault.{Fault}
use Rattle.fl_system.specs.State.{NodeState}
use Rattle.fl_system.specs.Jobs.{Jobs}
use Rattle.fl_safety_laws.proofs.Entries.{EntriesSafe, no_entry, entries_safe}
use Rattle.fl_crew_model.specs.declared.record.Entry.{Entry}
use Rattle.fl_crew_model.specs.Woven.{placed, said, answered, noted, admitted, Goes}

pub turn_safe : (n : NodeState) (w : ℕ) (e : Entry) (n' : NodeState) (more : List Op)
    → n'.published ≡ n.published ++ more → Goes n w e n'
    → EntriesSafe (Listed n'.published) (admitted n w e)
turn_safe n w e n' more grows goes = by_goes goes
  where
    wider : Within (Listed n.published) (Listed n'.published)
    wider o h =
        subst (λ (l : List Op). Listed l o) (sym grows) (Contains-append_left n.published more o h)

    by_job : (result : Result Answer Fault) (after : NodeState) → answered e.told e.ruling ≡ result
        → Jobs (placed n w) w e.seen e.job.value result after
        → EntriesSafe (Listed n'.published) (admitted n w e)
    by_job (Ok answer) after is job =
        subst (λ (r : Result Answer Fault). EntriesSafe (Listed n'.published)
        (noted (placed n w) e.job.value r)) (sym is)
        (entries_safe (placed n w) wider w e.seen e.job.value job)
    by_job (Err fault) after is job =
        subst (λ (r : Result Answer Fault). EntriesSafe (Listed n'.published)
        (noted (placed n w) e.job.value r)) (sym is) (no_entry (Listed n'.published))

    arrival : (d : Data) (result : Result Answer Fault)
        → EntriesSafe (Listed n'.published) (noted (placed n w) (Arrive d) result)
    arrival d (Ok answer) = no_entry (Listed n'.published)
    arrival d (Err fault) = no_entry (Listed n'.published)

    by_goes : Goes n w e n' → EntriesSafe (Listed n'.published) (admitted n w e)
    by_goes (Goes.alone none other job) = by_job (said e.told) n' (ap (answered e.told) none) job
    by_goes (Goes.arrived d result none is told came) =
        subst (λ (j : Job). EntriesSafe (Listed n'.published)
        (noted (placed n w) j (answered e.told e.ruling))) (sym is)
        (arrival d (answered e.told e.ruling))
    by_goes (Goes.made op begun saved is told job saves publishes) =
        by_job (Ok (answers.Begun op.name)) begun (ap (answered e.told) is) job
    by_goes (Goes.late op maker begun is told job saves publishes) =
        by_job (Ok (answers.Begun op.name)) begun (ap (answered e.told) is) job
    by_goes (Goes.given_up reason is told job) = by_job _ n' (ap (answered e.told) is) job
