use Rattle.std.proofs.Common.{refl, subst}
use Rattle.fl_script.specs.Grammar.{SpellsJob}
use Rattle.fl_script.specs.declared.request.Request.TheVariants.{Job}
use Rattle.fl_script.proofs.Found.{passed}
use Rattle.fl_script.proofs.OfProcess.{first_word}
use Rattle.fl_machine_lines.proofs.asked.job_asked.Goals as goal

pub returns-in_err-job-clause-ok : goal.returns-in_err-job-clause-ok
returns-in_err-job-clause-ok c =
    let front = first_word c.args.rest.now _ _ c.in-len1-up.len_at_least refl in
    passed _ c.from_residual.ensures.1 c.in_err-job.ensures.ok
    (λ none job s. none (Job job) (subst (SpellsJob job) front s.1))
