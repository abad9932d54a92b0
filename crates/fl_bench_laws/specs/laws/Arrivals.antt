-- A message that comes to a guarded bench is safe from its sender to its receiver, whatever views
-- both benches worked under.
use Rattle.std.proofs.Common.{◌≡◌, inl, inr, refl, sym, subst, Option, Some, None, Ok}
use Rattle.std.specs.Prelude.{nat_le, length}
use Rattle.std.proofs.lemmas.Bool.{false≢true}
use Rattle.std.specs.FinMap as map
use Rattle.fl_labels.specs.Found.{Within}
use Rattle.fl_labels.specs.declared.cap.Cap.{Cap}
use Rattle.fl_labels.specs.declared.endpoint.Endpoint.{Endpoint}
use Rattle.fl_ops.specs.declared.op.Op.{Op}
use Rattle.fl_rules.specs.Endpoint.{Crosses, SafeEndpoint}
use Rattle.fl_rules.specs.Message.{SafeMessage}
use Rattle.fl_rules.specs.Pair.{SafePair}
use Rattle.fl_labels.specs.Caps.{Dual}
use Rattle.fl_rules.specs.declared.endpoint.Mode.{Mode}
use Rattle.fl_rules.specs.declared.endpoint.Mode.TheVariants.{Read, Write, Both}
use Rattle.fl_rules.specs.declared.labels.Labels.{Labels}
use Rattle.fl_rules.specs.laws.Messages.{message_safe}
use Rattle.fl_message.specs.declared.message.Data.{Data}
use Rattle.fl_mailbox.specs.Endpoints.{end_of}
use Rattle.fl_mailbox.specs.declared.mailbox.Mailbox.{Mailbox}
use Rattle.fl_mailbox.specs.declared.endpoints.OpenEndpoint.{OpenEndpoint}
use Rattle.fl_jobs.specs.declared.job.Job.{Job}
use Rattle.fl_jobs.specs.declared.job.Job.TheVariants.{Arrive}
use Rattle.fl_jobs.specs.declared.answer.Refusal.TheVariants.{NoProcess, NoEndpoint, Busy, InboxFull}
use Rattle.fl_jobs.specs.declared.answer.Outcome.{Outcome}
use Rattle.fl_bench.specs.Checks.{refuse_if, with, ◌then◌}
use Rattle.fl_bench.specs.Guards.{pair_check, sent_from}
use Rattle.fl_bench.specs.Mailbox.{arrival_checks}
use Rattle.fl_bench.specs.Process.{is_busy, effective}
use Rattle.fl_bench.specs.Bench.{BenchState}
use Rattle.fl_bench.specs.Guarded.{Guarded, IsGuarded}
use Rattle.fl_bench.specs.Jobs.{Does, passed}
use Rattle.fl_bench.specs.declared.process.Process.{Process}
use Rattle.fl_bench.specs.laws.Puts.{same_found}
use Rattle.fl_bench.specs.Summary.{IsSending}
use Rattle.fl_bench.specs.laws.Orders.{sending_at}

-- ---- open endpoints

ways_safe : (E : Cap → Type 0) (mode : Mode) (process endpoint : Labels)
    → Within (Crosses mode process endpoint) (Dual E) → SafeEndpoint E mode process endpoint
ways_safe E Read process endpoint h = record { read = λ e. h; write = λ e. absurd (false≢true e) }
ways_safe E Write process endpoint h = record { read = λ e. absurd (false≢true e); write = λ e. h }
ways_safe E Both process endpoint h =
    record { read = λ e tag c. h tag (inl c); write = λ e tag c. h tag (inr c) }

-- one of a guarded process
pub open_safe : (V : Op → Type 0) (p : Process) (e : Endpoint) (end : OpenEndpoint) → Guarded V p
    → map.get p.mailbox.endpoints e ≡ Some end
    → SafeEndpoint (effective V p) end.mode p.labels end.labels
open_safe V p e end h is =
    ways_safe (effective V p) end.mode p.labels end.labels
    (λ tag c. h (record { endpoint = e; tag = tag }) (end, is, c))

-- ---- the receiver

-- the endpoint that a message came to, and that it may enter
record Entered (ch : Mailbox) (d : Data) : Type 0 where
  end : OpenEndpoint
  is_open : map.get ch.endpoints d.to ≡ Some end
  pair : SafePair (sent_from d) (end_of end)

entered_at : (ch : Mailbox) (d : Data) → arrival_checks ch d None → Entered ch d
entered_at ch d h = by_found (map.get ch.endpoints d.to) refl h
  where
    by_found : (o : Option OpenEndpoint) → map.get ch.endpoints d.to ≡ o
        → with o (NoEndpoint d.to) (λ end. pair_check d end then refuse_if
        (nat_le 256 (length ch.inbox)) InboxFull) None
        → Entered ch d
    by_found None e h = absurd (cc)
    by_found (Some end) e h = record { end = end; is_open = e; pair = h.0 }

module _ {V : Op → Type 0} {b after : BenchState} {d : Data} {x : Outcome} (q : Process)
    (lives : map.get b.processes d.receiver ≡ Some q) where
  entered : Does V b (Arrive d) (Ok x) after → Entered q.mailbox d
  entered (passed s f) =
      entered_at q.mailbox d (subst (λ o. with o (NoProcess d.receiver)
      (λ q. refuse_if (is_busy q) Busy then arrival_checks q.mailbox d) None) lives s).1

  -- a message from a safe endpoint of a process of these labels, which has E in effect
  pub arrival_safe : {W : Op → Type 0} {E : Cap → Type 0} {p : Labels} → IsGuarded W b
      → Does V b (Arrive d) (Ok x) after → SafeEndpoint E (sent_from d).mode p (sent_from d).labels
      → SafeMessage E p (effective W q) q.labels
  arrival_safe {W} {E} {p} h does left =
      let at = entered does in
      message_safe {e = sent_from d} {f = end_of at.end} (λ c e. e) (λ c e. e) left
      (open_safe W q d.to at.end (h.each d.receiver q lives) at.is_open) at.pair

-- ---- the sender

module _ {V W : Op → Type 0} {b : BenchState} {job : Job} where
  left_safe : (d : Data) (s : IsSending V b job d) → IsGuarded W b
      → SafeEndpoint (effective W s.process) Write s.process.labels (sent_from d).labels
  left_safe d s h =
      let safe = open_safe W s.process d.from s.opened (h.each d.sender s.process s.lived)
      s.is_open in
      let same : s.opened.labels ≡ (sent_from d).labels = λ i. record
      { secrecy = sym s.secrecy_is i; integrity = sym s.integrity_is i } in
      subst (λ l. SafeEndpoint (effective W s.process) Write s.process.labels l) same
      (record { read = λ e. absurd (false≢true e); write = λ e. safe.write s.writable })

  -- a message that is sent left a safe endpoint
  pub sent_safe : {after : BenchState} (d : Data) (p : Process)
      → map.get b.processes d.sender ≡ Some p → IsGuarded W b
      → Does V b job (Ok (Outcome.Out d)) after
      → SafeEndpoint (effective W p) (sent_from d).mode p.labels (sent_from d).labels
  sent_safe d p lived h does =
      let s = sending_at does in
      let who : s.process ≡ p = same_found s.lived lived in
      subst (λ (r : Process). SafeEndpoint (effective W r) Write r.labels (sent_from d).labels) who
      (left_safe d s h)
