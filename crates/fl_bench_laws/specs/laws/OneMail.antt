-- What a process does with its endpoints and messages has one verdict, and one end.
use Rattle.fl_message.specs.laws.SameData.{same_data}
use Rattle.std.proofs.Common.{◌≡◌, ◌∙◌, refl, sym, ap, Some, None}
use Rattle.std.specs.Prelude.{nat_le, length}
use Rattle.std.proofs.lemmas.Bool.{false≢true}
use Rattle.std.specs.FinMap as map
use Rattle.fl_labels.specs.CapOrder.{cap_total, cap_exact}
use Rattle.fl_labels.specs.NameOrder.{name_total, name_exact}
use Rattle.fl_labels.specs.declared.cap.Cap.{Cap}
use Rattle.fl_labels.specs.declared.endpoint.Endpoint.{Endpoint}
use Rattle.fl_labels.specs.declared.pid.Pid.{Pid}
use Rattle.fl_rules.specs.Pair as pairs
use Rattle.fl_rules.specs.Pair.{SafePair, PairFails}
use Rattle.fl_rules.specs.declared.labels.Labels.{Labels}
use Rattle.fl_rules.specs.declared.pair.PairFault.{PairFault}
use Rattle.fl_rules.specs.declared.pair.PairFault.TheVariants as faults
use Rattle.fl_message.specs.declared.message.Data.{Data}
use Rattle.fl_message.specs.declared.message.Message.{Message}
use Rattle.fl_mailbox.specs.TableLaws.{one_least_free}
use Rattle.fl_mailbox.specs.declared.mailbox.Mailbox.{Mailbox}
use Rattle.fl_mailbox.specs.declared.endpoints.OpenEndpoint.{OpenEndpoint}
use Rattle.fl_jobs.specs.Given.{labels_of}
use Rattle.fl_jobs.specs.declared.job.Mail.{Mail}
use Rattle.fl_jobs.specs.declared.job.Mail.TheVariants.{Open, Tune, Close, Send, Take}
use Rattle.fl_jobs.specs.declared.answer.Refusal.TheVariants.{MissingCap, UnsafeEndpoint, InboxFull}
use Rattle.fl_jobs.specs.declared.answer.Reply.TheVariants as replies
use Rattle.fl_jobs.specs.declared.answer.Outcome.{Outcome}
use Rattle.fl_bench.specs.Checks.{refuse_if}
use Rattle.fl_bench.specs.Guards.{pair_check, entry_refusal}
use Rattle.fl_bench.specs.Mailbox.{mail_checks, arrival_checks, MailDoes, IsSent}
use Rattle.fl_bench.specs.laws.Puts.{same_found}
use Rattle.fl_bench_laws.specs.laws.OneCheck.{OneVerdict, one_said, one_then, one_least, one_demand}
use Rattle.fl_bench_laws.specs.laws.OneCheck.{one_with, one_with_found}

-- ---- checks

pub one_mail_check : (E : Cap → Type 0) (process : Labels) (ch : Mailbox) (work : Mail)
    → OneVerdict (mail_checks E process ch work)
one_mail_check E process ch (Open mode given) =
    one_with (labels_of given) _ _ (λ labels. one_with_found _ _ _ (one_least_free ch.endpoints)
    (λ e. one_demand name_total name_exact _ _ (UnsafeEndpoint e)))
one_mail_check E process ch (Tune e given) =
    one_with (labels_of given) _ _ (λ labels. one_with (map.get ch.endpoints e) _ _
    (λ opened. one_demand name_total name_exact _ _ (UnsafeEndpoint e)))
one_mail_check E process ch (Close e) = one_with (map.get ch.endpoints e) _ _ (λ opened. one_said)
one_mail_check E process ch (Send from receiver to message) =
    one_with (map.get ch.endpoints from) _ _
    (λ opened. one_then _ _ one_said (one_demand cap_total cap_exact _ _ MissingCap))
one_mail_check E process ch Take = one_said

module _ {sender receiver : pairs.End} where
  -- a safe pair has no fault
  no_fault : (fault : PairFault) → SafePair sender receiver → PairFails sender receiver fault → ⊥
  no_fault fault h (PairFails.not_writable e) = false≢true (sym e ∙ h.writable)
  no_fault fault h (PairFails.not_readable w e) = false≢true (sym e ∙ h.readable)
  no_fault fault h (PairFails.secrecy {tag} w r k) = k.lacking (h.secrecy tag k.member)
  no_fault fault h (PairFails.integrity {tag} w r s k) = k.lacking (h.integrity tag k.member)

  -- and any other has one
  one_fault : (f g : PairFault) → PairFails sender receiver f → PairFails sender receiver g → f ≡ g
  one_fault f g (PairFails.not_writable e) (PairFails.not_writable e') = refl
  one_fault f g (PairFails.not_writable e) (PairFails.not_readable w e') =
      absurd (false≢true (sym e ∙ w))
  one_fault f g (PairFails.not_writable e) (PairFails.secrecy w r k) =
      absurd (false≢true (sym e ∙ w))
  one_fault f g (PairFails.not_writable e) (PairFails.integrity w r s k) =
      absurd (false≢true (sym e ∙ w))
  one_fault f g (PairFails.not_readable w e) (PairFails.not_writable e') =
      absurd (false≢true (sym e' ∙ w))
  one_fault f g (PairFails.not_readable w e) (PairFails.not_readable w' e') = refl
  one_fault f g (PairFails.not_readable w e) (PairFails.secrecy w' r k) =
      absurd (false≢true (sym e ∙ r))
  one_fault f g (PairFails.not_readable w e) (PairFails.integrity w' r s k) =
      absurd (false≢true (sym e ∙ r))
  one_fault f g (PairFails.secrecy w r k) (PairFails.not_writable e) =
      absurd (false≢true (sym e ∙ w))
  one_fault f g (PairFails.secrecy w r k) (PairFails.not_readable w' e) =
      absurd (false≢true (sym e ∙ r))
  one_fault f g (PairFails.secrecy {tag} w r k) (PairFails.secrecy {tag = other} w' r' k') =
      ap faults.Secrecy (one_least name_total name_exact tag other k k')
  one_fault f g (PairFails.secrecy {tag} w r k) (PairFails.integrity w' r' s k') =
      absurd (k.lacking (s tag k.member))
  one_fault f g (PairFails.integrity w r s k) (PairFails.not_writable e) =
      absurd (false≢true (sym e ∙ w))
  one_fault f g (PairFails.integrity w r s k) (PairFails.not_readable w' e) =
      absurd (false≢true (sym e ∙ r))
  one_fault f g (PairFails.integrity w r s k) (PairFails.secrecy {tag} w' r' k') =
      absurd (k'.lacking (s tag k'.member))
  one_fault f g (PairFails.integrity {tag} w r s k) (PairFails.integrity {tag = other} w' r' s' k')
      =
      ap faults.Integrity (one_least name_total name_exact tag other k k')

one_pair_check : (d : Data) (opened : OpenEndpoint) → OneVerdict (pair_check d opened)
one_pair_check d opened None None h k = refl
one_pair_check d opened None (Some g) h k = absurd (no_fault k.0 h k.2)
one_pair_check d opened (Some f) None h k = absurd (no_fault h.0 k h.2)
one_pair_check d opened (Some f) (Some g) h k =
    ap Some (h.1 ∙ ap (entry_refusal d.to) (one_fault h.0 k.0 h.2 k.2) ∙ sym k.1)

pub one_arrival_check : (ch : Mailbox) (d : Data) → OneVerdict (arrival_checks ch d)
one_arrival_check ch d =
    one_with (map.get ch.endpoints d.to) _ _
    (λ opened. one_then (pair_check d opened) (refuse_if (nat_le 256 (length ch.inbox)) InboxFull)
    (one_pair_check d opened) one_said)

-- ---- effects

-- a message becomes one packet
one_sent : {sender receiver : Pid} {from to : Endpoint} {message : Message} (l m : Labels)
    (a b : Data)
    → l ≡ m → IsSent sender from l receiver to message a
    → IsSent sender from m receiver to message b → a ≡ b
one_sent l m a b same h k =
    same_data a b (h.sender_is ∙ sym k.sender_is) (h.from_is ∙ sym k.from_is)
    (h.receiver_is ∙ sym k.receiver_is) (h.to_is ∙ sym k.to_is)
    (h.secrecy_is ∙ ap (λ (l : Labels). l.secrecy) same ∙ sym k.secrecy_is)
    (h.integrity_is ∙ ap (λ (l : Labels). l.integrity) same ∙ sym k.integrity_is)
    (h.message_is ∙ sym k.message_is)

pub one_mail_does : (pid : Pid) (ch : Mailbox) (work : Mail) (x y : Outcome) (c d : Mailbox)
    → MailDoes pid ch work x c → MailDoes pid ch work y d → (x ≡ y) × (c ≡ d)
one_mail_does pid ch (Open mode given) x y c d h k =
    let l : h.0 ≡ k.0 = same_found h.1 k.1 in
    let e : h.2 ≡ k.2 = same_found refl (one_least_free ch.endpoints (Some h.2) (Some k.2) h.3 k.3)
    in (
      h.4 ∙ ap (λ e. Outcome.Reply (replies.Opened e)) e ∙ sym k.4,
      h.5 ∙
          (λ i. record ch {
            endpoints = map.insert ch.endpoints (e i)
                (record { mode = mode; labels = l i });
          }) ∙ sym k.5,
    )
one_mail_does pid ch (Tune e given) x y c d h k =
    let l : h.0 ≡ k.0 = same_found h.1 k.1 in
    let o : h.2 ≡ k.2 = same_found h.3 k.3 in (
      h.4 ∙ sym k.4,
      h.5 ∙ (λ i. record ch
          { endpoints = map.insert ch.endpoints e (record (o i) { labels = l i }) }) ∙ sym k.5,
    )
one_mail_does pid ch (Close e) x y c d h k = (h.0 ∙ sym k.0, h.1 ∙ sym k.1)
one_mail_does pid ch (Send from receiver to message) x y c d h k =
    let o : h.0 ≡ k.0 = same_found h.1 k.1 in
    let e : h.2 ≡ k.2 = one_sent h.0.labels k.0.labels h.2 k.2
    (ap (λ (o : OpenEndpoint). o.labels) o) h.3 k.3 in
    (h.4 ∙ ap Outcome.Out e ∙ sym k.4, h.5 ∙ sym k.5)
one_mail_does pid ch Take x y c d h k = (h.0 ∙ sym k.0, h.1 ∙ sym k.1)
