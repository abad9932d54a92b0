-- What a script without workers has a node do with a job, at its first desk, which looks up to a
-- length, with a message that comes to it, and with operations. What is begun is saved and
-- published at once.
use Rattle.std.specs.Prelude.{◌≡◌, ℕ, ◌<◌, List, [], ◌∷◌, length}
use Rattle.std.specs.declared.result.Result.{Result}
use Rattle.std.specs.declared.result.Result.TheVariants.{Ok, Err}
use Rattle.fl_labels.specs.SetBy.{SetBy}
use Rattle.fl_labels.specs.declared.name.Name.{Name}
use Rattle.fl_message.specs.declared.message.Data.{Data}
use Rattle.fl_ops.specs.OpOrder.{op_cmp}
use Rattle.fl_jobs.specs.declared.job.Job.{Job}
use Rattle.fl_jobs.specs.declared.job.Job.TheVariants.{Proc, By, Member, Arrive}
use Rattle.fl_jobs.specs.declared.answer.Reply.{Reply}
use Rattle.fl_jobs.specs.declared.answer.Refusal.TheVariants.{Memory}
use Rattle.fl_store.specs.Kept.{Kept}
use Rattle.fl_system.specs.declared.answer.Answer.TheVariants as answers
use Rattle.fl_system.specs.declared.answer.Fault.{Fault}
use Rattle.fl_system.specs.declared.answer.Fault.TheVariants.{Refused}
use Rattle.fl_system.specs.State.{NodeState}
use Rattle.fl_system.specs.Arrives.{Arrives}
use Rattle.fl_system.specs.Jobs.{Jobs}
use Rattle.fl_system.specs.Receives.{Receives}
use Rattle.fl_system.specs.Saves.{Saves}
use Rattle.fl_system.specs.Publishes.{Publishes}
use Rattle.fl_crew_model.specs.declared.record.Told.{Told}
use Rattle.fl_crew_model.specs.Woven.{told_of}

-- The job is told so, and leaves the node so, and what is kept of it.
pub data JobCompletes (upto : ℕ) (n : NodeState) (k : Kept) (job : Job)
    : Told → NodeState → Kept → Type 0 where
  replied : {reply : Reply} {n' : NodeState} → Jobs n 1 upto job (Ok (answers.Reply reply)) n'
      → JobCompletes upto n k job (Told.Reply reply) n' k
  sent : {message : Data} {n' : NodeState} → Jobs n 1 upto job (Ok (answers.Out message)) n'
      → JobCompletes upto n k job (Told.Out message) n' k
  refused : {fault : Fault} {n' : NodeState} → Jobs n 1 upto job (Err fault) n'
      → JobCompletes upto n k job (Told.Refused fault) n' k
  published : {name : Name} {begun saved n' : NodeState} {k' : Kept}
      → Jobs n 1 upto job (Ok (answers.Begun name)) begun → Saves begun k (Ok tt) saved k'
      → Publishes saved (Ok (length n'.published)) n'
      → JobCompletes upto n k job (Told.Published name) n' k'
  -- there was no room to publish it: it stays due
  due : {name : Name} {begun n' : NodeState} {k' : Kept}
      → Jobs n 1 upto job (Ok (answers.Begun name)) begun → Saves begun k (Ok tt) n' k'
      → Publishes n' (Err (Refused Memory)) n'
      → JobCompletes upto n k job (Told.Refused (Refused Memory)) n' k'

-- the message comes, and is told so
pub record MessageCompletes (n : NodeState) (k : Kept) (message : Data) (told : Told)
    (n' : NodeState) (k' : Kept) : Type 0 where
  pub result : Result Reply Fault
  pub is_told : told ≡ told_of result
  pub arrives : Arrives n message result n'
  pub kept : k' ≡ k

-- a message that comes is no job at a desk
abbrev pub Completes : ℕ → NodeState → Kept → Job → Told → NodeState → Kept → Type 0
Completes upto n k Proc = JobCompletes upto n k Proc
Completes upto n k (By pid act) = JobCompletes upto n k (By pid act)
Completes upto n k (Member root c) = JobCompletes upto n k (Member root c)
Completes upto n k (Arrive message) = MessageCompletes n k message

-- the jobs are told so, one after another
abbrev pub AllComplete : ℕ → NodeState → Kept → List Job → List Told → NodeState → Kept → Type 0
AllComplete upto n k [] [] n' k' = (n' ≡ n) × (k' ≡ k)
AllComplete upto n k (job ∷ jobs) (told ∷ later) n' k' =
    (mid : NodeState) × (kept : Kept) × Completes upto n k job told mid kept
    × AllComplete upto mid kept jobs later n' k'
AllComplete upto n k [] (told ∷ later) n' k' = ⊥
AllComplete upto n k (job ∷ jobs) [] n' k' = ⊥

-- Operations come, and those that are new are taken: the answer is how many.
pub data OpsComplete (n : NodeState) (k : Kept) (ops : SetBy op_cmp)
    : Result ℕ Fault → NodeState → Kept → Type 0 where
  nothing_new : {n' : NodeState} → Receives n ops (Ok 0) n' → OpsComplete n k ops (Ok 0) n' k
  refused : {fault : Fault} {n' : NodeState} → Receives n ops (Err fault) n'
      → OpsComplete n k ops (Err fault) n' k
  taken : {count : ℕ} {begun saved n' : NodeState} {k' : Kept} → 0 < count
      → Receives n ops (Ok count) begun → Saves begun k (Ok tt) saved k'
      → Publishes saved (Ok (length n'.published)) n' → OpsComplete n k ops (Ok count) n' k'
  due : {count : ℕ} {begun n' : NodeState} {k' : Kept} → 0 < count
      → Receives n ops (Ok count) begun → Saves begun k (Ok tt) n' k'
      → Publishes n' (Err (Refused Memory)) n' → OpsComplete n k ops (Err (Refused Memory)) n' k'
