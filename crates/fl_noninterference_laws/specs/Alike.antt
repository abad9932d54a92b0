-- Benches that differ in processes with a tag alone, and in what waits for these.
use Rattle.std.specs.Prelude.{◌≡◌, ◌⊎◌}
use Rattle.std.specs.FinMap as map
use Rattle.std.specs.declared.option.Option.{Option}
use Rattle.std.specs.declared.result.Result.{Result}
use Rattle.fl_labels.specs.declared.name.Name.{Name}
use Rattle.fl_labels.specs.declared.pid.Pid.{Pid}
use Rattle.fl_ops.specs.Registry.{Registry}
use Rattle.fl_jobs.specs.declared.job.Act.{Act}
use Rattle.fl_jobs.specs.declared.job.Act.TheVariants.{Spawn}
use Rattle.fl_jobs.specs.declared.job.Job.{Job}
use Rattle.fl_jobs.specs.declared.job.Job.TheVariants.{Proc, By, Member, Arrive}
use Rattle.fl_jobs.specs.declared.answer.Outcome.{Outcome}
use Rattle.fl_jobs.specs.declared.answer.Refusal.{Refusal}
use Rattle.fl_bench.specs.Bench.{BenchState}
use Rattle.fl_bench.specs.Jobs.{Does}
use Rattle.fl_bench.specs.declared.process.Process.{Process}
use Rattle.fl_noninterference_laws.specs.Tainted.{IsVeiled}

-- the same process stands at both, or at each nobody but who has the tag
abbrev pub AlikeAt : Name → Option Process → Option Process → Type 0
AlikeAt tag o other = (o ≡ other) ⊎ (IsVeiled tag o × IsVeiled tag other)

-- the benches give the same pids, and each stands at both alike
pub record AreAlikeBenches (tag : Name) (b c : BenchState) : Type 0 where
  pub node : b.node ≡ c.node
  pub boot : b.boot ≡ c.boot
  pub next : b.next ≡ c.next
  pub stride : b.stride ≡ c.stride
  pub each : (pid : Pid) → AlikeAt tag (map.get b.processes pid) (map.get c.processes pid)

-- the act is no birth, which would use up a serial
abbrev pub IsNoBirth : Act → Type 0
IsNoBirth (Spawn caps) = ⊥
IsNoBirth act = Unit {0}

-- the job is nobody's, or that of a process without the tag
abbrev pub IsOpenAt : Name → BenchState → Job → Type 0
IsOpenAt tag b Proc = Unit {0}
IsOpenAt tag b (By pid act) = ¬ IsVeiled tag (map.get b.processes pid)
IsOpenAt tag b (Member root c) = Unit {0}
IsOpenAt tag b (Arrive d) = ¬ IsVeiled tag (map.get b.processes d.receiver)

-- at the bench c the job may have this result too, and leaves it as one that is alike
pub record DoesToo (tag : Name) (V : Registry) (c : BenchState) (job : Job)
    (result : Result Outcome Refusal) (after : BenchState) : Type 0 where
  pub left : BenchState
  pub does : Does V c job result left
  pub alike : AreAlikeBenches tag after left

-- the same result, at benches that are left alike
pub record AreSame (tag : Name) (r s : Result Outcome Refusal) (after left : BenchState)
    : Type 0 where
  pub result : r ≡ s
  pub benches : AreAlikeBenches tag after left
