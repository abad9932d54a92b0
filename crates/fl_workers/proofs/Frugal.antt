-- A job that takes no memory is not refused for want of it.
use Rattle.std.proofs.Common.{◌≡◌, ◌≢◌, ℕ, zero, suc, List, [], ◌∷◌, Option, Some, None, Result, Ok, Err, slice_get, subst}
use Rattle.fl_ops.specs.Registry.{Registry, Listed}
use Rattle.fl_ops.specs.declared.op.Body.{Body}
use Rattle.fl_ops.specs.declared.op.Op.{Op}
use Rattle.fl_labels.specs.declared.pid.Pid.{Pid}
use Rattle.fl_jobs.specs.declared.answer.Outcome.{Outcome}
use Rattle.fl_jobs.specs.declared.answer.Refusal.{Refusal}
use Rattle.fl_jobs.specs.declared.answer.Refusal.TheVariants.{Memory}
use Rattle.fl_jobs.specs.declared.job.Job.{Job}
use Rattle.fl_jobs.specs.declared.job.Job.TheVariants.{Proc, By, Member, Arrive}
use Rattle.fl_jobs.specs.declared.job.Act.{Act}
use Rattle.fl_jobs.specs.declared.job.Act.TheVariants.{Order, Relabel, Ask, Spawn, Exit, Drop, Enter, Emit}
use Rattle.fl_jobs.specs.declared.job.Act.TheVariants as acts
use Rattle.fl_jobs.specs.declared.job.Mail.{Mail}
use Rattle.fl_jobs.specs.declared.job.Mail.TheVariants.{Open, Tune, Close, Send, Take}
use Rattle.fl_bench.specs.Bench.{BenchState}
use Rattle.fl_bench.specs.Jobs.{Does, JobNeedsRoom, NeedsRoom, TakesMemory}
use Rattle.fl_bench.specs.Mailbox.{MailNeedsRoom}
use Rattle.fl_bench.specs.laws.Orders.{order_at}
use Rattle.fl_bench.specs.declared.process.Process.{Process}
use Rattle.fl_system.specs.declared.answer.Fault.TheVariants.{Refused}
use Rattle.fl_crew_model.specs.declared.record.Entry.{Entry}
use Rattle.fl_crew_model.specs.declared.record.Ruling.{Ruling}
use Rattle.fl_crew_model.specs.declared.record.Ruling.TheVariants.{Made, Late, GivenUp}
use Rattle.fl_crew_model.specs.declared.record.Told.{Told}
use Rattle.fl_crew_model.specs.Served.{Served, Serves, IsTold}
use Rattle.fl_workers.specs.Frugal.{IsFrugal, IsFrugalAct, IsFrugalMail}

-- what a law of benches says
abbrev pub WantsTruly : Type 0
WantsTruly =
    (ops : List Op) (b after : BenchState) (job : Job) → Does (Listed ops) b job (Err Memory) after
    → TakesMemory (Listed ops) b job

no_mail : (mail : Mail) → IsFrugalMail mail → MailNeedsRoom mail → ⊥
no_mail (Open mode labels) frugal needs = frugal
no_mail (Tune endpoint labels) frugal needs = needs
no_mail (Close endpoint) frugal needs = needs
no_mail (Send from receiver to message) frugal needs = frugal
no_mail Take frugal needs = needs

no_act : (V : Registry) (p : Process) (act : Act) → IsFrugalAct act → NeedsRoom V p act → ⊥
no_act V p (Order order) frugal needs = frugal
no_act V p (Relabel side label) frugal needs = needs
no_act V p (Ask c) frugal needs = needs
no_act V p (Spawn caps) frugal needs = frugal
no_act V p Exit frugal needs = needs
no_act V p (Drop c) frugal needs = needs
no_act V p (Enter login secret) frugal needs = frugal
no_act V p (Emit bytes) frugal needs = needs
no_act V p (acts.Mail mail) frugal needs = no_mail mail frugal needs

no_need : (V : Registry) (b : BenchState) (job : Job) → IsFrugal job → JobNeedsRoom V b job → ⊥
no_need V b Proc frugal needs = frugal
no_need V b (By pid act) frugal (p, there, needs) = no_act V p act frugal needs
no_need V b (Member root c) frugal needs = needs
no_need V b (Arrive d) frugal needs = frugal

module _ (law : WantsTruly) (ops : List Op) where
  alone : (b after : BenchState) (job : Job) (told : Told) (result : Result Outcome Refusal)
      → Does (Listed ops) b job result after → IsTold result told → IsFrugal job
      → told ≢ Told.Refused (Refused Memory)
  alone b after job told (Ok (Outcome.Reply reply)) does is frugal same = cc
  alone b after job told (Ok (Outcome.Out packet)) does is frugal same = cc
  alone b after job told (Ok (Outcome.Order body pid)) does is frugal same = is
  alone b after job told (Err refusal) does is frugal same =
      let memory : refusal ≡ Memory = cc in
      no_need (Listed ops) b job frugal
      (law ops b after job
      (subst (λ (r : Refusal). Does (Listed ops) b job (Err r) after) memory does)).1

  -- an order takes memory
  no_order : (b after : BenchState) (job : Job) (body : Body) (pid : Pid)
      → Does (Listed ops) b job (Ok (Outcome.Order body pid)) after → IsFrugal job → ⊥
  no_order b after job body pid does frugal =
      let order = order_at does in subst IsFrugal order.asked frugal

  pub not_starved : (b after : BenchState) (job : Job) (told : Told) (ruling : Option Ruling)
      → Serves (Listed ops) b job told ruling after → IsFrugal job
      → told ≢ Told.Refused (Refused Memory)
  not_starved b after job told None h frugal same =
      alone b after job told h.result h.does h.is_told frugal same
  not_starved b after job told (Some (Made op)) h frugal same =
      no_order b h.left job op.body h.pid h.does frugal
  not_starved b after job told (Some (Late op pid)) h frugal same =
      no_order b after job op.body pid h.does frugal
  not_starved b after job told (Some (GivenUp reason)) h frugal same =
      no_order b h.left job h.body h.pid h.does frugal

pub none_starved : WantsTruly → (list : List Op) (b after : BenchState) (es : List Entry)
    → Served list b es after → (i : ℕ) (e : Entry) → slice_get es i ≡ Some e → IsFrugal e.job.value
    → e.told ≢ Told.Refused (Refused Memory)
none_starved law list b after [] served i e at frugal = absurd (cc)
none_starved law list b after (f ∷ fs) (mid, here, served) zero e at frugal =
    let same : f ≡ e = cc in
    subst (λ (x : Entry). IsFrugal x.job.value → x.told ≢ Told.Refused (Refused Memory)) same
    (not_starved law _ b mid f.job.value f.told f.ruling here.serves) frugal
none_starved law list b after (f ∷ fs) (mid, here, served) (suc i) e at frugal =
    none_starved law list mid after fs served i e at frugal
