-- What acts would be answered, where nothing is done.
use Rattle.std.specs.Prelude.{◌≡◌, Bool, true, false}
use Rattle.std.specs.declared.option.Option.TheVariants.{None, Some}
use Rattle.std.specs.declared.result.Result.{Result}
use Rattle.std.specs.declared.result.Result.TheVariants.{Ok, Err}
use Rattle.std.specs.FinMap as map
use Rattle.fl_labels.specs.Cap.{cap_cmp}
use Rattle.fl_labels.specs.Caps.{Caps}
use Rattle.fl_labels.specs.Name.{name_cmp}
use Rattle.fl_labels.specs.Pid.{pid_cmp}
use Rattle.fl_labels.specs.SetBy.{SetBy}
use Rattle.fl_labels.specs.declared.pid.Pid.{Pid}
use Rattle.fl_ops.specs.Registry.{Registry}
use Rattle.fl_jobs.specs.declared.answer.Outcome.{Outcome}
use Rattle.fl_jobs.specs.declared.answer.Refusal.{Refusal}
use Rattle.fl_jobs.specs.declared.answer.Refusal.TheVariants.{Busy, NoProcess}
use Rattle.fl_jobs.specs.declared.answer.Reply.{Reply}
use Rattle.fl_jobs.specs.declared.answer.Reply.TheVariants.{Done}
use Rattle.fl_jobs.specs.declared.job.Act.{Act}
use Rattle.fl_jobs.specs.declared.job.Act.TheVariants.{Order, Ask}
use Rattle.fl_rules.specs.declared.labels.Labels.{Labels}
use Rattle.fl_message.specs.declared.message.Data.{Data}
use Rattle.fl_mailbox.specs.declared.mailbox.Mailbox.{Mailbox}
use Rattle.fl_bench.specs.Checks.{Check, no_check, refuse_if, with, ◌then◌}
use Rattle.fl_bench.specs.Jobs.{Answers, checks_of, emission_check}
use Rattle.fl_bench.specs.Mailbox.{arrival_checks}
use Rattle.fl_bench.specs.Process.{effective, is_busy}
use Rattle.fl_bench.specs.declared.process.Holding.TheVariants.{Idle}
use Rattle.fl_bench.specs.declared.process.Process.{Process}

-- an idle process
abbrev pub idle_with : Labels → SetBy cap_cmp → Mailbox → Process
idle_with labels owned mailbox = record { labels = labels; owned = Idle owned; mailbox = mailbox }

-- what an order is checked for first, where orders are guarded, by who has E in effect
abbrev pub guard_check : Bool → Caps → SetBy name_cmp → Act → Check
guard_check false E secrecy act = no_check
guard_check true E secrecy (Order order) = emission_check E secrecy
guard_check true E secrecy act = no_check

-- what an act of the process is checked for, where orders are guarded or not
abbrev pub could_checks : Bool → Registry → Process → Act → Check
could_checks guards V p act = refuse_if (is_busy p) Busy
    then (guard_check guards (effective V p) p.labels.secrecy act then checks_of V p act)

-- of a question its answer, and of any other act that it would be done
abbrev pub ForetellsBy : Caps → Act → Reply → Type 0
ForetellsBy E (Ask c) reply = Answers (Outcome.Reply reply) (E c)
ForetellsBy E act reply = reply ≡ Done

-- the process would be answered so
pub data ActCould (guards : Bool) (V : Registry) (p : Process) (act : Act) : Result Reply Refusal
    → Type 0 where
  passed : {reply : Reply} → could_checks guards V p act None → ForetellsBy (effective V p) act reply
      → ActCould guards V p act (Ok reply)
  failed : {f : Refusal} → could_checks guards V p act (Some f) → ActCould guards V p act (Err f)

-- one process of many would be answered so
pub data CouldBy (guards : Bool) (V : Registry) (m : map.FinMap pid_cmp Process) (pid : Pid)
    (act : Act) : Result Reply Refusal → Type 0 where
  nobody : map.get m pid ≡ None → CouldBy guards V m pid act (Err (NoProcess pid))
  could : {p : Process} {result : Result Reply Refusal} → map.get m pid ≡ Some p
      → ActCould guards V p act result → CouldBy guards V m pid act result

-- what a message is checked for that comes to one process of many
abbrev pub coming_checks : map.FinMap pid_cmp Process → Data → Check
coming_checks m d = with (map.get m d.receiver) (NoProcess d.receiver) (λ q.
    refuse_if (is_busy q) Busy then arrival_checks q.mailbox d)
