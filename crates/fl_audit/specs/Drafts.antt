-- What is noted of a job before it is done, and what becomes of that once it is answered.
use Rattle.std.specs.Prelude.{◌≡◌, ◌++◌, ℕ, Bool, true, false, List, [], ◌∷◌}
use Rattle.std.specs.declared.option.Option.{Option}
use Rattle.std.specs.declared.option.Option.TheVariants.{None, Some}
use Rattle.fl_labels.specs.declared.cap.Cap.{Cap}
use Rattle.fl_labels.specs.declared.name.Name.{Name}
use Rattle.fl_rules.specs.declared.endpoint.Mode.{Mode}
use Rattle.fl_jobs.specs.declared.secret.Secret.{Secret}
use Rattle.fl_jobs.specs.declared.answer.Reply.TheVariants as replies
use Rattle.fl_jobs.specs.declared.job.Job.{Job}
use Rattle.fl_jobs.specs.declared.job.Job.TheVariants.{Proc, By, Member, Arrive}
use Rattle.fl_bench.specs.Secrets.{digest_of}
use Rattle.fl_bench.specs.declared.process.Process.{Process}
use Rattle.fl_bench.specs.declared.standing.Standing.{Standing}
use Rattle.fl_system.specs.Audit.{if_yes, if_entered}
use Rattle.fl_system.specs.Processes.{process_of}
use Rattle.fl_system.specs.State.{NodeState}
use Rattle.fl_system.specs.declared.admission.Admission.{Admission}
use Rattle.fl_system.specs.declared.admission.Admission.TheVariants.{Entry}
use Rattle.fl_system.specs.declared.admission.Party.{Party}
use Rattle.fl_system.specs.declared.answer.Answer.{Answer}
use Rattle.fl_system.specs.declared.answer.Answer.TheVariants as answers
use Rattle.fl_audit.specs.Noted.{IsNotedWith, job_tunes}
use Rattle.fl_audit.specs.declared.draft.Draft.{Draft}
use Rattle.fl_audit.specs.declared.draft.Draft.TheVariants.{Always, IfYes, IfEntered}

-- none, or one
abbrev pub listed : {A : Type 0} → Option A → List A
listed None = []
listed (Some x) = x ∷ []

-- the answer is yes
abbrev pub is_yes : Answer → Bool
is_yes (answers.Reply replies.Yes) = true
is_yes other = false

-- the capability that the login gave, where the answer is one
abbrev pub entered : Answer → Option Cap
entered (answers.Reply (replies.Entered c)) = Some c
entered other = None

-- From what was noted before a job to what is noted of it before it is done: so that, once it is answered, the draft
-- leaves of it what is to be noted with that answer.
pub data IsDrafted (before after : List Admission) (noted : Answer → List Admission)
    : Draft → Type 0 where
  always : (entries : List Admission) → after ≡ before ++ entries → ((a : Answer) → entries ≡ noted a)
      → IsDrafted before after noted Always
  on_yes : (entry : Admission) → after ≡ before ++ entry ∷ [] → ((a : Answer) → if_yes a entry ≡ noted a)
      → IsDrafted before after noted IfYes
  -- the capability is known with the answer
  on_entry : (p : Party) (login : Name) (c : Cap) (secret : Secret)
      → after ≡ before ++ Entry p login c (digest_of secret) ∷ []
      → ((a : Answer) → if_entered a p login secret ≡ noted a) → IsDrafted before after noted IfEntered

-- the process that asks for the job at the node, if one does
abbrev pub asker_of : NodeState → Job → Option Process
asker_of n Proc = None
asker_of n (By pid act) = process_of n pid
asker_of n (Member root c) = None
asker_of n (Arrive d) = None

-- the node has this number and boot, and this process there asks for the job, if one does
pub record IsAskedAt (number boot : ℕ) (asker : Option Process) (job : Job) (n : NodeState)
    : Type 0 where
  pub number_is : n.number ≡ number
  pub boot_is : n.boot ≡ boot
  pub asker_is : asker_of n job ≡ asker

-- The node has this number and boot, and there this is the mode of the endpoint that the job tunes, if one, and how who
-- asks for it stands.
pub record IsNotedAt (number boot : ℕ) (tuned : Option Mode) (standing : Option Standing) (job : Job) (n : NodeState)
    : Type 0 where
  pub number_is : n.number ≡ number
  pub boot_is : n.boot ≡ boot
  pub tuned_is : job_tunes (asker_of n job) job ≡ tuned
  pub stands : IsNotedWith (asker_of n job) job standing
