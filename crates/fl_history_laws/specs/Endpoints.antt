-- How the open endpoints of a process change.
use Rattle.std.specs.Prelude.{◌≡◌}
use Rattle.std.specs.declared.option.Option.TheVariants.{Some}
use Rattle.std.specs.FinMap as map
use Rattle.fl_labels.specs.declared.endpoint.Endpoint.{Endpoint}
use Rattle.fl_labels.specs.declared.pid.Pid.{Pid}
use Rattle.fl_rules.specs.declared.endpoint.Mode.{Mode}
use Rattle.fl_rules.specs.declared.labels.Labels.{Labels}
use Rattle.fl_mailbox.specs.Endpoints.{IsLeastFree, Table}
use Rattle.fl_mailbox.specs.declared.endpoints.OpenEndpoint.{OpenEndpoint}
use Rattle.fl_jobs.specs.Given.{labels_of}
use Rattle.fl_jobs.specs.declared.job.GivenLabels.{GivenLabels}
use Rattle.fl_jobs.specs.declared.job.Act.TheVariants.{Mail}
use Rattle.fl_jobs.specs.declared.job.Job.TheVariants.{By}
use Rattle.fl_jobs.specs.declared.job.Mail as mails
use Rattle.fl_jobs.specs.declared.job.Mail.TheVariants.{Close, Open, Tune}
use Rattle.fl_jobs.specs.declared.answer.Reply.TheVariants.{Done, Opened}
use Rattle.fl_system.specs.declared.reply.Reply.{Reply}
use Rattle.fl_system.specs.declared.reply.Reply.TheVariants.{Job as Answered}
use Rattle.fl_system.specs.Runs.{Move}
use Rattle.fl_system.specs.World.{World}
use Rattle.fl_history_laws.specs.Doing.{IsDone}

-- the move is what the process does with its mailbox
abbrev pub Mails : World → Move → Pid → mails.Mail → Type 0
Mails w move pid mail = IsDone w move pid.node (By pid (Mail mail))

-- The process had these open endpoints before the move, and has those after it: it opens one, under the least number that is
-- free, tunes one, or closes one; or all stay.
pub data Retunes (w : World) (move : Move) (reply : Reply) (pid : Pid) (old new : Table) : Type 0 where
  keeps : new ≡ old → Retunes w move reply pid old new
  opens : {mode : Mode} {given : GivenLabels} {labels : Labels} {e : Endpoint}
      → Mails w move pid (Open mode given) → reply ≡ Answered (Opened e) → labels_of given ≡ Some labels
      → IsLeastFree old (Some e) → new ≡ map.insert old e (record { mode = mode; labels = labels })
      → Retunes w move reply pid old new
  tunes : {e : Endpoint} {given : GivenLabels} {labels : Labels} {opened : OpenEndpoint}
      → Mails w move pid (Tune e given) → reply ≡ Answered Done → labels_of given ≡ Some labels
      → map.get old e ≡ Some opened → new ≡ map.insert old e (record opened { labels = labels })
      → Retunes w move reply pid old new
  closes : {e : Endpoint} → Mails w move pid (Close e) → reply ≡ Answered Done → new ≡ map.remove old e
      → Retunes w move reply pid old new
