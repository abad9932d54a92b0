-- What a process does with its endpoints and messages.
use Rattle.std.specs.Prelude.{◌≡◌, ◌∷◌, [], ◌++◌, not, nat_le, length}
use Rattle.std.specs.declared.option.Option.{Option}
use Rattle.std.specs.declared.option.Option.TheVariants.{None, Some}
use Rattle.std.specs.FinMap as map
use Rattle.fl_labels.specs.Caps.{Caps}
use Rattle.fl_labels.specs.declared.endpoint.Endpoint.{Endpoint}
use Rattle.fl_labels.specs.declared.pid.Pid.{Pid}
use Rattle.fl_rules.specs.Endpoint.{writes}
use Rattle.fl_rules.specs.declared.labels.Labels.{Labels}
use Rattle.fl_message.specs.declared.message.Data.{Data}
use Rattle.fl_message.specs.declared.message.Letter.{Letter}
use Rattle.fl_message.specs.declared.message.Message.{Message}
use Rattle.fl_mailbox.specs.Mailbox.{oldest, without_oldest}
use Rattle.fl_mailbox.specs.Endpoints.{IsLeastFree}
use Rattle.fl_mailbox.specs.declared.mailbox.Mailbox.{Mailbox}
use Rattle.fl_mailbox.specs.declared.endpoints.OpenEndpoint.{OpenEndpoint}
use Rattle.fl_jobs.specs.Given.{labels_of}
use Rattle.fl_jobs.specs.declared.job.Mail.{Mail}
use Rattle.fl_jobs.specs.declared.job.Mail.TheVariants.{Open, Tune, Close, Send, Take}
use Rattle.fl_jobs.specs.declared.answer.Refusal.TheVariants.{NoEndpoint, EndpointsFull}
use Rattle.fl_jobs.specs.declared.answer.Refusal.TheVariants.{NotWritable, LabelTooLong, InboxFull}
use Rattle.fl_jobs.specs.declared.answer.Reply.{Reply}
use Rattle.fl_jobs.specs.declared.answer.Reply.TheVariants.{Done, Opened as Answers_opened, Taken, Empty}
use Rattle.fl_jobs.specs.declared.answer.Outcome.{Outcome}
use Rattle.fl_bench.specs.Checks.{Check, no_check, refuse_if, with, with_found, ◌then◌}
use Rattle.fl_bench.specs.Guards.{grant_check, endpoint_check, pair_check}

-- ---- checks

-- by a process of these labels and mailbox, which has E in effect
abbrev pub mail_checks : Caps → Labels → Mailbox → Mail → Check
mail_checks E process ch (Open mode given) =
    with (labels_of given) LabelTooLong (λ labels.
    with_found (IsLeastFree ch.endpoints) EndpointsFull (λ e.
    endpoint_check E process e mode labels))
mail_checks E process ch (Tune e given) =
    with (labels_of given) LabelTooLong (λ labels.
    with (map.get ch.endpoints e) (NoEndpoint e) (λ opened.
    endpoint_check E process e opened.mode labels))
mail_checks E process ch (Close e) = with (map.get ch.endpoints e) (NoEndpoint e) (λ _. no_check)
mail_checks E process ch (Send from receiver to message) =
    with (map.get ch.endpoints from) (NoEndpoint from) (λ opened.
    refuse_if (not (writes opened.mode)) (NotWritable from) then grant_check E message.caps)
mail_checks E process ch Take = no_check

-- of a message that comes to these mailbox
abbrev pub arrival_checks : Mailbox → Data → Check
arrival_checks ch d = with (map.get ch.endpoints d.to) (NoEndpoint d.to) (λ opened.
    pair_check d opened then refuse_if (nat_le 256 (length ch.inbox)) InboxFull)

-- ---- effects

-- the packet is of the message, from this endpoint of the process, with its labels
pub record IsSent (sender : Pid) (from : Endpoint) (labels : Labels) (receiver : Pid)
    (to : Endpoint) (message : Message) (d : Data) : Type 0 where
  pub sender_is : d.sender ≡ sender
  pub from_is : d.from ≡ from
  pub receiver_is : d.receiver ≡ receiver
  pub to_is : d.to ≡ to
  pub secrecy_is : d.secrecy ≡ labels.secrecy
  pub integrity_is : d.integrity ≡ labels.integrity
  pub message_is : d.message ≡ message

abbrev pub taken : Option Letter → Reply
taken None = Empty
taken (Some letter) = Taken letter

-- by the process, which has these mailbox, and then those
abbrev pub MailDoes : Pid → Mailbox → Mail → Outcome → Mailbox → Type 0
MailDoes pid ch (Open mode given) outcome ch' =
    (labels : Labels) × (labels_of given ≡ Some labels) × (e : Endpoint) × IsLeastFree ch.endpoints (Some e)
    × (outcome ≡ Outcome.Reply (Answers_opened e))
    × (ch' ≡ record ch { endpoints = map.insert ch.endpoints e (record { mode = mode; labels = labels }) })
MailDoes pid ch (Tune e given) outcome ch' =
    (labels : Labels) × (labels_of given ≡ Some labels) × (opened : OpenEndpoint)
    × (map.get ch.endpoints e ≡ Some opened)
    × (outcome ≡ Outcome.Reply Done)
    × (ch' ≡ record ch { endpoints = map.insert ch.endpoints e (record opened { labels = labels }) })
MailDoes pid ch (Close e) outcome ch' =
    (outcome ≡ Outcome.Reply Done) × (ch' ≡ record ch { endpoints = map.remove ch.endpoints e })
MailDoes pid ch (Send from receiver to message) outcome ch' =
    (opened : OpenEndpoint) × (map.get ch.endpoints from ≡ Some opened) × (d : Data)
    × IsSent pid from opened.labels receiver to message d
    × (outcome ≡ Outcome.Out d) × (ch' ≡ ch)
MailDoes pid ch Take outcome ch' =
    (outcome ≡ Outcome.Reply (taken (oldest ch.inbox))) × (ch' ≡ record ch { inbox = without_oldest ch.inbox })

-- with the message that came, as the last
abbrev pub entered : Mailbox → Data → Mailbox
entered ch d = record ch { inbox = ch.inbox ++ record { sender = d.sender; message = d.message } ∷ [] }

-- ---- what needs room

-- it opens an endpoint, or sends a message
abbrev pub MailNeedsRoom : Mail → Type 0
MailNeedsRoom (Open mode given) = Unit {0}
MailNeedsRoom (Send from receiver to message) = Unit {0}
MailNeedsRoom mail = ⊥
