-- A job is answered that it made a process only with the next pid of its bench.
use Rattle.std.proofs.Common.{◌≡◌, ◌+◌, inl, inr, ap, subst, Option, Some, None, Ok, Err}
use Rattle.fl_labels.specs.declared.pid.Pid.{Pid}
use Rattle.fl_ops.specs.declared.op.Op.{Op}
use Rattle.fl_jobs.specs.declared.job.Act.{Act}
use Rattle.fl_jobs.specs.declared.job.Act.TheVariants.{Order, Relabel, Ask, Spawn, Exit, Drop, Enter, Emit, Mail as Mails}
use Rattle.fl_jobs.specs.declared.job.Job.{Job}
use Rattle.fl_jobs.specs.declared.job.Job.TheVariants.{Proc, By, Member, Arrive}
use Rattle.fl_jobs.specs.declared.job.Mail.{Mail}
use Rattle.fl_jobs.specs.declared.job.Mail.TheVariants.{Open, Tune, Close, Send, Take}
use Rattle.fl_jobs.specs.declared.answer.Reply.TheVariants.{Made}
use Rattle.fl_jobs.specs.declared.answer.Outcome.{Outcome}
use Rattle.fl_mailbox.specs.declared.mailbox.Mailbox.{Mailbox}
use Rattle.fl_bench.specs.Bench.{BenchState, IsNext, born}
use Rattle.fl_bench.specs.Jobs.{Does, Performs, Effect}
use Rattle.fl_bench.specs.Mailbox.{MailDoes, taken}
use Rattle.fl_mailbox.specs.Mailbox.{oldest}
use Rattle.fl_message.specs.declared.message.Letter.{Letter}
use Rattle.fl_bench.specs.declared.process.Process.{Process}

-- the pid was next, and the serial after it is next now
pub record Gives (b after : BenchState) (pid : Pid) : Type 0 where
  pub next : IsNext b pid
  pub then_next : after.next ≡ b.next + b.stride

bears : (b : BenchState) (pid child : Pid) (p : Process) (after : BenchState) → IsNext b child
    → Outcome.Reply (Made pid) ≡ Outcome.Reply (Made child) → after ≡ born b child p → Gives b after pid
bears b pid child p after next said is =
    let same : child ≡ pid = cc in
    record { next = subst (IsNext b) same next; then_next = ap (λ (x : BenchState). x.next) is }

mail_made : (pid child : Pid) (ch : Mailbox) (m : Mail) (after : Mailbox)
    → ¬ MailDoes pid ch m (Outcome.Reply (Made child)) after
mail_made pid child ch (Open mode given) after (labels, e, endpoint, free, said, is) = cc
mail_made pid child ch (Tune e given) after (labels, f, opened, there, said, is) = cc
mail_made pid child ch (Close e) after (said, is) = cc
mail_made pid child ch (Send from receiver to message) after (opened, there, d, sent, said, is) = cc
mail_made pid child ch Take after (said, is) = by_oldest (oldest ch.inbox) said
  where
    by_oldest : (o : Option Letter) → ¬ (Outcome.Reply (Made child) ≡ Outcome.Reply (taken o))
    by_oldest None e = cc
    by_oldest (Some x) e = cc

module _ (V : Op → Type 0) (b : BenchState) (pid : Pid) (after : BenchState) where
  act_made : (asker : Pid) (p : Process) (act : Act) → Performs V b asker p act (Outcome.Reply (Made pid)) after
      → Gives b after pid
  act_made asker p (Order order) (said, is) = absurd (cc)
  act_made asker p (Relabel side (Err e)) h = absurd h
  act_made asker p (Relabel side (Ok label)) (said, is) = absurd (cc)
  act_made asker p (Ask c) (said, is) =
      elim said [ inl yes_is ↦ absurd (cc (yes_is.0)) | inr no_is ↦ absurd (cc (no_is.0)) ]
  act_made asker p (Spawn caps) (child, next, said, is) = bears b pid child _ after next said is
  act_made asker p Exit (said, is) = absurd (cc)
  act_made asker p (Drop c) (said, is) = absurd (cc)
  act_made asker p (Enter login secret) (c, first, said, is) = absurd (cc)
  act_made asker p (Emit bytes) (said, is) = absurd (cc)
  act_made asker p (Mails m) (ch, does, is) = absurd (mail_made asker pid p.mailbox m ch does)

  effect_made : (job : Job) → Effect V b job (Outcome.Reply (Made pid)) after → Gives b after pid
  effect_made Proc (child, next, said, is) = bears b pid child _ after next said is
  effect_made (By asker act) (p, there, does) = act_made asker p act does
  effect_made (Member root c) (said, is) =
      elim said [ inl yes_is ↦ absurd (cc (yes_is.0)) | inr no_is ↦ absurd (cc (no_is.0)) ]
  effect_made (Arrive d) (q, there, said, is) = absurd (cc)

  pub does_made : (job : Job) → Does V b job (Ok (Outcome.Reply (Made pid))) after → Gives b after pid
  does_made job (Does.passed checks effect) = effect_made job effect
