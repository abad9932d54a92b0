-- A message arrives only where a packet is delivered that was sent.
use Rattle.std.proofs.Common.{◌≡◌, inl, inr, refl, ℕ, Option, Some, None, Ok, Err}
use Rattle.fl_labels.specs.declared.pid.Pid.{Pid}
use Rattle.fl_ops.specs.declared.op.Op.{Op}
use Rattle.fl_message.specs.declared.message.Data.{Data}
use Rattle.fl_message.specs.declared.message.Letter.{Letter}
use Rattle.fl_mailbox.specs.Mailbox.{oldest}
use Rattle.fl_mailbox.specs.declared.mailbox.Mailbox.{Mailbox}
use Rattle.fl_jobs.specs.declared.job.Act.{Act}
use Rattle.fl_jobs.specs.declared.job.Act.TheVariants.{Order, Relabel, Ask, Spawn, Exit, Drop, Enter, Emit, Mail as Mails}
use Rattle.fl_jobs.specs.declared.job.Job.{Job as AnyJob}
use Rattle.fl_jobs.specs.declared.job.Job.TheVariants.{Proc, By, Member, Arrive}
use Rattle.fl_jobs.specs.declared.job.Mail.{Mail}
use Rattle.fl_jobs.specs.declared.job.Mail.TheVariants.{Open, Tune, Close, Send, Take}
use Rattle.fl_jobs.specs.declared.answer.Outcome.{Outcome}
use Rattle.fl_jobs.specs.declared.answer.Reply.TheVariants.{Arrived}
use Rattle.fl_bench.specs.Bench.{BenchState}
use Rattle.fl_bench.specs.Jobs.{Does, Effect, Performs}
use Rattle.fl_bench.specs.Mailbox.{MailDoes, taken}
use Rattle.fl_bench.specs.declared.process.Process.{Process}
use Rattle.fl_system.specs.declared.event.Event.{Event}
use Rattle.fl_system.specs.declared.reply.Reply.TheVariants.{Job as Answered}
use Rattle.fl_system.specs.declared.sent.Sent.{Sent}
use Rattle.fl_system.specs.Arrives.{Arrives}
use Rattle.fl_system.specs.Deliveries.{DeliverAt, MessageAt}
use Rattle.fl_system.specs.Jobs.{Jobs}
use Rattle.fl_system.specs.Runs.{Comes, Happens, Move, Moves, Returns}
use Rattle.fl_system.specs.World.{KeptNode, World}
use Rattle.fl_system.specs.WorldJobs.{JobAt}
use Rattle.fl_system.specs.WorldSteps.{IsArrival, Step}
use Rattle.fl_history_laws.specs.Sent.{Delivers}

-- a job that is answered so is no job of a process
no_mail : (pid child : Pid) (ch : Mailbox) (m : Mail) (after : Mailbox)
    → ¬ MailDoes pid ch m (Outcome.Reply (Arrived child)) after
no_mail pid child ch (Open mode given) after (labels, e, endpoint, free, said, is) = cc
no_mail pid child ch (Tune e given) after (labels, f, opened, there, said, is) = cc
no_mail pid child ch (Close e) after (said, is) = cc
no_mail pid child ch (Send from receiver to message) after (opened, there, d, sent, said, is) = cc
no_mail pid child ch Take after (said, is) = by_oldest (oldest ch.inbox) said
  where
    by_oldest : (o : Option Letter) → ¬ (Outcome.Reply (Arrived child) ≡ Outcome.Reply (taken o))
    by_oldest None e = cc
    by_oldest (Some x) e = cc

module _ (V : Op → Type 0) (b : BenchState) (pid : Pid) (after : BenchState) where
  no_act : (asker : Pid) (p : Process) (act : Act)
      → ¬ Performs V b asker p act (Outcome.Reply (Arrived pid)) after
  no_act asker p (Order order) (said, is) = absurd (cc)
  no_act asker p (Relabel side (Err e)) h = absurd h
  no_act asker p (Relabel side (Ok label)) (said, is) = absurd (cc)
  no_act asker p (Ask c) (said, is) =
      elim said [ inl yes_is ↦ absurd (cc (yes_is.0)) | inr no_is ↦ absurd (cc (no_is.0)) ]
  no_act asker p (Spawn caps) (child, next, said, is) = absurd (cc)
  no_act asker p Exit (said, is) = absurd (cc)
  no_act asker p (Drop c) (said, is) = absurd (cc)
  no_act asker p (Enter login secret) (c, first, said, is) = absurd (cc)
  no_act asker p (Emit bytes) (said, is) = absurd (cc)
  no_act asker p (Mails m) (ch, does, is) = absurd (no_mail asker pid p.mailbox m ch does)

  no_effect : (job : AnyJob) → ¬ IsArrival job → ¬ Effect V b job (Outcome.Reply (Arrived pid)) after
  no_effect Proc asks (child, next, said, is) = absurd (cc)
  no_effect (By asker act) asks (p, there, does) = no_act asker p act does
  no_effect (Member root c) asks (said, is) =
      elim said [ inl yes_is ↦ absurd (cc (yes_is.0)) | inr no_is ↦ absurd (cc (no_is.0)) ]
  no_effect (Arrive d) asks h = asks tt

  no_arrival : (job : AnyJob) → ¬ IsArrival job → ¬ Does V b job (Ok (Outcome.Reply (Arrived pid))) after
  no_arrival job asks (Does.passed checks effect) = no_effect job asks effect

arrived_by : {V : Op → Type 0} {b : BenchState} {d : Data} {pid : Pid} {after : BenchState}
    → Does V b (Arrive d) (Ok (Outcome.Reply (Arrived pid))) after → d.receiver ≡ pid
arrived_by (Does.passed checks (q, there, said, is)) = cc

-- ---- in a world

module _ (w : World) (pid : Pid) where
  arrived_job : {number desk upto : ℕ} {job : AnyJob} {s : KeptNode} {after : World} → ¬ IsArrival job
      → ¬ JobAt w number s desk upto job (Answered (Arrived pid)) after
  arrived_job {job = job} asks (JobAt.replied (Jobs.replied {left = left} look d)) =
      no_arrival _ d.bench pid left job asks d.does

  arrived_message : {number : ℕ} {s : KeptNode} {sent : Sent} (d : Data) {after : World}
      → MessageAt w number s sent d (Answered (Arrived pid)) after → d.receiver ≡ pid
  arrived_message d (MessageAt.arrives (Arrives.arrives x)) = arrived_by x.does

  arrived_step : {event : Event} (after : World) → Step w event (Answered (Arrived pid)) after
      → Delivers w (Happens event) pid
  arrived_step after (Step.job at is h) = absurd (arrived_job is h)
  arrived_step after (Step.save at h) = elim h [ ]
  arrived_step after (Step.publish at h) = elim h [ ]
  arrived_step after (Step.cancel at h) = elim h [ ]
  arrived_step after (Step.restart at h) = elim h [ ]
  arrived_step after (Step.tell at h) = elim h [ ]
  arrived_step after (Step.deliver e at (DeliverAt.have is h)) = elim h [ ]
  arrived_step after (Step.deliver e at (DeliverAt.ops is h)) = elim h [ ]
  arrived_step after (Step.deliver {packet} {number} {sent = sent} e at (DeliverAt.message {d} is h)) =
      record {
        number = number;
        d = d;
        brings = record { packet = packet; move_is = refl; sent = sent; was_sent = e; of = is };
        receiver_is = arrived_message d h;
      }

  pub arrived_delivers : (move : Move) (after : World) → Moves w move (Answered (Arrived pid)) after
      → Delivers w move pid
  arrived_delivers (Happens event) after h = arrived_step after h
  arrived_delivers (Comes number k) after h = elim h [ ]
  arrived_delivers (Returns number k) after h = elim h [ ]
