-- Which jobs are noted, where their answer is the right one, with how those who ask for them stand.
use Rattle.std.specs.Prelude.{◌≡◌, Bool, true, false, not, is_some, IsSome}
use Rattle.std.specs.FinMap as map
use Rattle.std.specs.declared.option.Option.{Option}
use Rattle.std.specs.declared.option.Option.TheVariants.{None, Some}
use Rattle.std.specs.declared.result.Result.TheVariants.{Ok, Err}
use Rattle.fl_rules.specs.declared.endpoint.Mode.{Mode}
use Rattle.fl_mailbox.specs.declared.endpoints.OpenEndpoint.{OpenEndpoint}
use Rattle.fl_mailbox.specs.declared.mailbox.Mailbox.{Mailbox}
use Rattle.fl_jobs.specs.Given.{labels_of}
use Rattle.fl_jobs.specs.declared.job.Act.{Act}
use Rattle.fl_jobs.specs.declared.job.Act.TheVariants.{Order, Relabel, Ask, Spawn, Exit}
use Rattle.fl_jobs.specs.declared.job.Act.TheVariants.{Drop, Enter, Emit, Mail}
use Rattle.fl_jobs.specs.declared.job.GivenLabels.{GivenLabels}
use Rattle.fl_jobs.specs.declared.job.Job.{Job}
use Rattle.fl_jobs.specs.declared.job.Job.TheVariants.{Proc, By, Member, Arrive}
use Rattle.fl_jobs.specs.declared.job.Mail as mails
use Rattle.fl_jobs.specs.declared.job.Mail.TheVariants.{Open, Tune, Close, Send, Take}
use Rattle.fl_bench.specs.Process.{standing_at, takes_nothing}
use Rattle.fl_bench.specs.declared.process.Process.{Process}
use Rattle.fl_bench.specs.declared.standing.Standing.{Standing}

abbrev pub tuned_noted : Option OpenEndpoint → GivenLabels → Bool
tuned_noted None given = false
tuned_noted (Some opened) given = is_some (labels_of given)

abbrev pub mail_noted : Mailbox → mails.Mail → Bool
mail_noted ch (Open mode given) = is_some (labels_of given)
mail_noted ch (Tune e given) = tuned_noted (map.get ch.endpoints e) given
mail_noted ch (Close e) = false
mail_noted ch (Send from receiver to message) = true
mail_noted ch Take = false

-- of an act of this process
abbrev pub act_noted : Process → Act → Bool
act_noted p (Order order) = not (takes_nothing order)
act_noted p (Relabel side (Ok label)) = true
act_noted p (Relabel side (Err long)) = false
act_noted p (Ask c) = true
act_noted p (Spawn caps) = true
act_noted p Exit = false
act_noted p (Drop c) = false
act_noted p (Enter login secret) = true
act_noted p (Emit bytes) = true
act_noted p (Mail c) = mail_noted p.mailbox c

-- of the job that this process asks for, if one does
abbrev pub asker_noted : Option Process → Job → Bool
asker_noted None job = false
asker_noted (Some p) Proc = false
asker_noted (Some p) (By pid act) = act_noted p act
asker_noted (Some p) (Member root c) = false
asker_noted (Some p) (Arrive d) = false

-- the mode of the endpoint, where it is open
abbrev pub mode_at : Option OpenEndpoint → Option Mode
mode_at None = None
mode_at (Some opened) = Some opened.mode

-- the mode of the endpoint that is tuned, if one is and it is open
abbrev pub mail_tunes : Mailbox → mails.Mail → Option Mode
mail_tunes ch (Tune e given) = mode_at (map.get ch.endpoints e)
mail_tunes ch other = None

-- by an act of this process
abbrev pub act_tunes : Process → Act → Option Mode
act_tunes p (Mail c) = mail_tunes p.mailbox c
act_tunes p other = None

-- by the job that this process asks for, if one does
abbrev pub job_tunes : Option Process → Job → Option Mode
job_tunes (Some p) (By pid act) = act_tunes p act
job_tunes asker job = None

-- This, if anything, may be handed over to note the job: it is given where the job is noted, and is how who asks stands.
pub record IsNotedWith (asker : Option Process) (job : Job) (standing : Option Standing) : Type 0 where
  pub given : asker_noted asker job ≡ true → IsSome standing
  pub right : (s : Standing) → standing ≡ Some s → standing_at asker ≡ Some s
