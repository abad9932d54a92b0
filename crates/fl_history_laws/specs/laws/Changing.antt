-- How the open endpoints and the labels of a process change at a move.
use Rattle.std.proofs.Common.{◌≡◌, refl, sym, ap, subst, Ok}
use Rattle.fl_labels.specs.Name.{name_cmp}
use Rattle.fl_labels.specs.SetBy.{SetBy}
use Rattle.fl_labels.specs.declared.pid.Pid.{Pid}
use Rattle.fl_mailbox.specs.declared.mailbox.Mailbox.{Mailbox}
use Rattle.fl_rules.specs.Safety.{SafeChange}
use Rattle.fl_jobs.specs.declared.job.Side.{Side}
use Rattle.fl_jobs.specs.declared.job.Act.TheVariants.{Mail, Relabel}
use Rattle.fl_jobs.specs.declared.job.Job.{Job}
use Rattle.fl_jobs.specs.declared.job.Job.TheVariants.{By}
use Rattle.fl_jobs.specs.declared.job.Mail as mails
use Rattle.fl_jobs.specs.declared.job.Mail.TheVariants.{Close, Open, Send, Take, Tune}
use Rattle.fl_jobs.specs.declared.answer.Reply.TheVariants.{Done}
use Rattle.fl_jobs.specs.declared.answer.Outcome.{Outcome}
use Rattle.fl_bench.specs.Mailbox.{MailDoes}
use Rattle.fl_bench.specs.Process.{effective, side_of}
use Rattle.fl_bench.specs.declared.process.Process.{Process}
use Rattle.fl_system.specs.declared.reply.Reply.{Reply}
use Rattle.fl_system.specs.declared.reply.Reply.TheVariants.{Job as Answered}
use Rattle.fl_system.specs.Runs.{Move}
use Rattle.fl_system.specs.World.{World}
use Rattle.fl_history_laws.specs.Doing.{IsAnswered, IsDone, seen}
use Rattle.fl_history_laws.specs.Endpoints.{Retunes, closes, opens, tunes}
use Rattle.fl_history_laws.specs.Endpoints as endpoints
use Rattle.fl_history_laws.specs.Labels.{Relabels, Sets, sets}
use Rattle.fl_history_laws.specs.Labels as labels
use Rattle.fl_history_laws.specs.laws.Fates.{Turns}
use Rattle.fl_history_laws.specs.laws.Stories.{Alters}

module _ {w : World} {move : Move} {reply : Reply} {pid : Pid} where
  -- ---- endpoints

  mail_retunes : (x : Outcome) (before after : Mailbox) (mail : mails.Mail)
      → IsDone w move pid.node (By pid (Mail mail)) → IsAnswered w x reply → MailDoes pid before mail x after
      → Retunes w move reply pid before.endpoints after.endpoints
  mail_retunes x before after (Open mode given) done said (labels, labels_are, e, least, is, after_is) =
      opens done (subst (λ x. IsAnswered w x reply) is said) labels_are least
      (ap (λ (m : Mailbox). m.endpoints) after_is)
  mail_retunes x before after (Tune e given) done said (labels, labels_are, opened, there, is, after_is) =
      tunes done (subst (λ x. IsAnswered w x reply) is said) labels_are there
      (ap (λ (m : Mailbox). m.endpoints) after_is)
  mail_retunes x before after (Close e) done said (is, after_is) =
      closes done (subst (λ x. IsAnswered w x reply) is said) (ap (λ (m : Mailbox). m.endpoints) after_is)
  mail_retunes x before after (Send from receiver to message) done said (opened, there, d, sent, is, after_is) =
      endpoints.keeps (ap (λ (m : Mailbox). m.endpoints) after_is)
  mail_retunes x before after Take done said (is, after_is) = endpoints.keeps (ap (λ (m : Mailbox). m.endpoints) after_is)

  turn_retunes : {job : Job} {x : Outcome} {p q : Process} (done : IsDone w move pid.node job) → IsAnswered w x reply
      → Turns (seen done) job x pid p q → Retunes w move reply pid p.mailbox.endpoints q.mailbox.endpoints
  turn_retunes done said Turns.stays = endpoints.keeps refl
  turn_retunes done said (Turns.orders_it asked) = endpoints.keeps refl
  turn_retunes done said (Turns.relabels asked is safe) = endpoints.keeps refl
  turn_retunes done said (Turns.drops asked is) = endpoints.keeps refl
  turn_retunes done said (Turns.enters asked is) = endpoints.keeps refl
  turn_retunes done said (Turns.mails_it {mail} asked does) =
      mail_retunes _ _ _ mail (subst (IsDone w move pid.node) asked done) said does
  turn_retunes done said (Turns.hears asked its is) = endpoints.keeps refl

  pub retuned : {p q : Process} → Alters w move reply pid p q
      → Retunes w move reply pid p.mailbox.endpoints q.mailbox.endpoints
  retuned Alters.stays = endpoints.keeps refl
  retuned (Alters.works done asks said turn) = turn_retunes done said turn
  retuned (Alters.hears brings its said) = endpoints.keeps refl
  retuned (Alters.gets published) = endpoints.keeps refl
  retuned (Alters.gives_up cancelled) = endpoints.keeps refl

  -- ---- labels

  -- what is said of the job is said of what it is
  sets_it : {p : Process} {side : Side} {label : SetBy name_cmp} {job : Job} → job ≡ By pid (Relabel side (Ok label))
      → (done : IsDone w move pid.node job) → SafeChange (effective (seen done) p) (side_of side p.labels) label
      → reply ≡ Answered Done → Sets w move reply pid p side label
  sets_it {p} {side} {label} asked =
      subst (λ j. (done : IsDone w move pid.node j) → SafeChange (effective (seen done) p) (side_of side p.labels) label
      → reply ≡ Answered Done → Sets w move reply pid p side label) (sym asked)
      (λ done safe answered. record { done = done; answered = answered; safe = safe })

  turn_relabels : {job : Job} {x : Outcome} {p q : Process} (done : IsDone w move pid.node job)
      → IsAnswered w x reply → Turns (seen done) job x pid p q → Relabels w move reply pid p q
  turn_relabels done said Turns.stays = labels.keeps refl
  turn_relabels done said (Turns.orders_it asked) = labels.keeps refl
  turn_relabels {p = p} done said (Turns.relabels {side} {label} asked is safe) =
      sets (sets_it {p = p} {side = side} {label = label} asked done safe (subst (λ x. IsAnswered w x reply) is said)) refl
  turn_relabels done said (Turns.drops asked is) = labels.keeps refl
  turn_relabels done said (Turns.enters asked is) = labels.keeps refl
  turn_relabels done said (Turns.mails_it asked does) = labels.keeps refl
  turn_relabels done said (Turns.hears asked its is) = labels.keeps refl

  pub relabelled : {p q : Process} → Alters w move reply pid p q → Relabels w move reply pid p q
  relabelled Alters.stays = labels.keeps refl
  relabelled (Alters.works done asks said turn) = turn_relabels done said turn
  relabelled (Alters.hears brings its said) = labels.keeps refl
  relabelled (Alters.gets published) = labels.keeps refl
  relabelled (Alters.gives_up cancelled) = labels.keeps refl
