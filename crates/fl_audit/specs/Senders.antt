-- Who sends a message by a job.
use Rattle.std.specs.declared.option.Option.{Option}
use Rattle.std.specs.declared.option.Option.TheVariants.{None, Some}
use Rattle.fl_labels.specs.declared.pid.Pid.{Pid}
use Rattle.fl_jobs.specs.declared.job.Act.TheVariants.{Mail}
use Rattle.fl_jobs.specs.declared.job.Mail.TheVariants.{Send}
use Rattle.fl_jobs.specs.declared.job.Job.{Job}
use Rattle.fl_jobs.specs.declared.job.Job.TheVariants.{By}
use Rattle.fl_bench.specs.declared.process.Process.{Process}
use Rattle.fl_bench.specs.declared.standing.Standing.{Standing}
use Rattle.fl_system.specs.WorldJobs.{party_at}
use Rattle.fl_system.specs.declared.admission.Party.{Party}

-- by a job that this process asks for, if one does
abbrev pub sender_of : Option Process → Job → Option Party
sender_of p (By pid (Mail (Send from receiver to message))) = party_at pid p
sender_of p other = None

-- the process that stands so, where there is one
abbrev pub party_of : Pid → Option Standing → Option Party
party_of pid None = None
party_of pid (Some standing) = Some (record { pid = pid; standing = standing })
