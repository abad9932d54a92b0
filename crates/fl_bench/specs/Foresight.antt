-- What a job would be answered now, and which capabilities an act takes that are wanting.
use Rattle.std.specs.Prelude.{◌≡◌, ◌⊎◌, Bool, true, false}
use Rattle.std.specs.declared.option.Option.{Option}
use Rattle.std.specs.declared.option.Option.TheVariants.{None, Some}
use Rattle.std.specs.declared.result.Result.{Result}
use Rattle.std.specs.declared.result.Result.TheVariants.{Ok, Err}
use Rattle.std.specs.FinMap as map
use Rattle.fl_labels.specs.Caps.{Caps}
use Rattle.fl_labels.specs.Name.{name_cmp}
use Rattle.fl_labels.specs.SetBy.{SetBy, In}
use Rattle.fl_labels.specs.declared.cap.Cap.{Cap}
use Rattle.fl_labels.specs.declared.cap.Cap.TheVariants.{Plus, Minus, Use, Grow}
use Rattle.fl_labels.specs.declared.pid.Pid.{Pid}
use Rattle.fl_ops.specs.Registry.{Registry}
use Rattle.fl_rules.specs.Safety.{Takes}
use Rattle.fl_jobs.specs.declared.answer.Outcome.{Outcome}
use Rattle.fl_jobs.specs.declared.answer.Refusal.{Refusal}
use Rattle.fl_jobs.specs.declared.answer.Refusal.TheVariants.{NoProcess, Busy}
use Rattle.fl_jobs.specs.declared.answer.Reply.{Reply}
use Rattle.fl_jobs.specs.declared.answer.Reply.TheVariants.{Done}
use Rattle.fl_jobs.specs.declared.job.Act.{Act}
use Rattle.fl_jobs.specs.declared.job.Act.TheVariants.{Order, Relabel, Ask, Spawn, Exit, Drop, Enter, Emit, Mail as Mails}
use Rattle.fl_jobs.specs.declared.job.Job.{Job}
use Rattle.fl_jobs.specs.declared.job.Job.TheVariants.{Proc, By, Member, Arrive}
use Rattle.fl_jobs.specs.declared.job.Mail.{Mail}
use Rattle.fl_jobs.specs.declared.job.Mail.TheVariants.{Open, Tune, Close, Send, Take}
use Rattle.fl_bench.specs.Bench.{BenchState}
use Rattle.fl_bench.specs.Checks.{Check, no_check, refuse_if, with, ◌then◌}
use Rattle.fl_bench.specs.Jobs.{Effect, checks, emission_check}
use Rattle.fl_bench.specs.Process.{effective, is_busy, order_takes, side_of}
use Rattle.fl_bench.specs.declared.process.Process.{Process}

-- ---- what it would be answered

-- what an order of the process asks first, where orders are guarded: what an emission asks
abbrev pub guard_checks : Registry → BenchState → Job → Check
guard_checks V b (By pid (Order order)) =
    with (map.get b.processes pid) (NoProcess pid) (λ p.
    refuse_if (is_busy p) Busy then emission_check (effective V p) p.labels.secrecy)
guard_checks V b job = no_check

-- all that a job is checked for at its bench, in this order, where orders are guarded or not
abbrev pub all_checks : Bool → Registry → BenchState → Job → Check
all_checks true V b job = guard_checks V b job then checks V b job
all_checks false V b job = checks V b job

-- of a question its answer, and of any other job that it would be done
abbrev pub Foretells : Registry → BenchState → Job → Reply → Type 0
Foretells V b (Member root c) reply = Effect V b (Member root c) (Outcome.Reply reply) b
Foretells V b (By pid (Ask c)) reply = Effect V b (By pid (Ask c)) (Outcome.Reply reply) b
Foretells V b job reply = reply ≡ Done

-- What the job would be answered at the bench now, but for want of memory: why it is refused, or
-- what is foretold.
pub data Could (guards : Bool) (V : Registry) (b : BenchState) (job : Job) : Result Reply Refusal
    → Type 0 where
  passed : {reply : Reply} → all_checks guards V b job None → Foretells V b job reply
      → Could guards V b job (Ok reply)
  failed : {f : Refusal} → all_checks guards V b job (Some f) → Could guards V b job (Err f)

-- ---- what is wanting for it

-- to add and to remove each tag of the label
abbrev pub Both : SetBy name_cmp → Caps
Both label (Plus tag) = In label tag
Both label (Minus tag) = In label tag
Both label (Use group) = ⊥
Both label (Grow group) = ⊥

-- what an act of the process takes of its capabilities, where orders are guarded or not
abbrev pub Demands : Bool → Process → Act → Caps
Demands guards p (Order order) c =
    In (order_takes order) c ⊎ ((guards ≡ true) × Both p.labels.secrecy c)
Demands guards p (Relabel side (Err e)) c = ⊥
Demands guards p (Relabel side (Ok label)) c = Takes (side_of side p.labels) label c
Demands guards p (Ask asked) c = ⊥
Demands guards p (Spawn caps) c = In caps c
Demands guards p Exit c = ⊥
Demands guards p (Drop dropped) c = ⊥
Demands guards p (Enter login secret) c = ⊥
Demands guards p (Emit bytes) c = Both p.labels.secrecy c
Demands guards p (Mails (Open mode given)) c = ⊥
Demands guards p (Mails (Tune e given)) c = ⊥
Demands guards p (Mails (Close e)) c = ⊥
Demands guards p (Mails (Send from receiver to message)) c = In message.caps c
Demands guards p (Mails Take) c = ⊥

-- of these, what the process has not in effect
abbrev pub WantsBy : Bool → Registry → Process → Act → Caps
WantsBy guards V p act c = Demands guards p act c × ¬ effective V p c
