-- What a node tells of a job that it does not do: what it would answer, and what is wanting for it.
-- Nothing changes by it.
use Rattle.std.specs.Prelude.{◌≡◌, Bool, true, false}
use Rattle.std.specs.declared.result.Result.{Result}
use Rattle.std.specs.declared.result.Result.TheVariants.{Ok, Err}
use Rattle.fl_labels.specs.Cap.{cap_cmp}
use Rattle.fl_labels.specs.SetBy.{SetBy}
use Rattle.fl_labels.specs.declared.cap.Cap.{Cap}
use Rattle.fl_explanations.specs.Lines.{missing_lines}
use Rattle.fl_jobs.specs.declared.answer.Refusal.{Refusal}
use Rattle.fl_jobs.specs.declared.answer.Refusal.TheVariants.{MissingCap, Secrecy}
use Rattle.fl_jobs.specs.declared.answer.Reply.{Reply}
use Rattle.fl_jobs.specs.declared.job.Job.{Job}
use Rattle.fl_node.specs.Foresight.{AreWantingAt, CouldAt, IsBehind, WantsAt}
use Rattle.fl_system.specs.State.{NodeState}
use Rattle.fl_system.specs.World.{KeptNode}
use Rattle.fl_system.specs.declared.answer.Fault.TheVariants as faults
use Rattle.fl_system.specs.declared.reply.Reply.TheVariants as replies
use Rattle.fl_calls.specs.Answer as says
use Rattle.fl_machine_turns.specs.Answer.{Answer, said, explained, starved_line}
use Rattle.fl_machine_turns.specs.Explaining.{WhereRunning}

-- as the answer of the line that it is asked of
abbrev pub foretold : Result Reply Refusal → Answer
foretold (Ok reply) = said (says.replied (replies.Job reply))
foretold (Err refusal) = said (says.replied (replies.Refused (faults.Refused refusal)))

-- What the job would be answered. Where the desk has not seen all that is published, there may be
-- no memory to look at it.
pub data Foretells (guards : Bool) (n : NodeState) (job : Job) : Answer → Type 0 where
  told : {result : Result Reply Refusal} → CouldAt guards n job result
      → Foretells guards n job (foretold result)
  no_room : IsBehind n 1 → Foretells guards n job starved_line

-- it is refused for what no capability mends
abbrev pub is_past_mending : Result Reply Refusal → Bool
is_past_mending (Ok reply) = false
is_past_mending (Err (MissingCap cap)) = false
is_past_mending (Err (Secrecy tag)) = false
is_past_mending (Err refusal) = true

-- Which capabilities are wanting for the job, or why none mends it. There may be no memory where the
-- desk has not seen all, or for what is wanting.
pub data FindsWanting (guards : Bool) (n : NodeState) (job : Job) : Answer → Type 0 where
  found : {result : Result Reply Refusal} {wanting : SetBy cap_cmp} → CouldAt guards n job result
      → is_past_mending result ≡ false → AreWantingAt guards n job wanting
      → FindsWanting guards n job (explained (missing_lines wanting))
  refused : {result : Result Reply Refusal} → CouldAt guards n job result
      → is_past_mending result ≡ true → FindsWanting guards n job (foretold result)
  behind : IsBehind n 1 → FindsWanting guards n job starved_line
  no_room : {result : Result Reply Refusal} (cap : Cap) → CouldAt guards n job result
      → is_past_mending result ≡ false → WantsAt guards n job cap
      → FindsWanting guards n job starved_line

-- what a node tells, where it runs
abbrev pub IsForetold : Bool → KeptNode → Job → Answer → Type 0
IsForetold guards s job = WhereRunning s (λ n. Foretells guards n job)

abbrev pub IsFoundWanting : Bool → KeptNode → Job → Answer → Type 0
IsFoundWanting guards s job = WhereRunning s (λ n. FindsWanting guards n job)
