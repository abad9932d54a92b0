-- What a node does with a packet that comes to it.
use Rattle.std.proofs.Common.{◌≡◌, ◌≢◌, ◌<◌, ◌++◌, ◌∙◌, sym, ap, subst, ℕ, List, [], Option, Ok, Err, arith, inl, inr}
use Rattle.std.proofs.lemmas.List.{append-nil}
use Rattle.fl_labels.specs.SetBy.{SetBy}
use Rattle.fl_ops.specs.OpOrder.{op_cmp}
use Rattle.fl_message.specs.declared.message.Data.{Data}
use Rattle.fl_jobs.specs.declared.answer.Reply as jobs
use Rattle.fl_jobs.specs.declared.answer.Refusal.TheVariants.{Memory}
use Rattle.fl_system.specs.declared.admission.Admission.{Admission}
use Rattle.fl_system.specs.declared.admission.Party.{Party}
use Rattle.fl_system.specs.declared.answer.Fault.{Fault}
use Rattle.fl_system.specs.declared.answer.Fault.TheVariants as faults
use Rattle.fl_system.specs.declared.reply.Reply.TheVariants as reply
use Rattle.fl_system.specs.Arrives.{Arrives}
use Rattle.fl_system.specs.Audit.{message_entries}
use Rattle.fl_system.specs.Processes.{process_of}
use Rattle.fl_system.specs.Receives.{Receives}
use Rattle.fl_system.specs.State.{NodeState}
use Rattle.fl_audit.specs.Drafts.{listed}
use Rattle.fl_node.specs.Telling.{TellsNothing}
use Rattle.fl_machine_model.specs.Alone.{BatchAlone, MessageAlone}
use Rattle.fl_notes.specs.Bringing.{Brought}

-- ---- messages

module _ (n : NodeState) (sender : Option Party) (d : Data) (audit audit_after : List Admission) where
  -- nothing is noted
  unnoted : (fault : Fault) (n' : NodeState) → audit_after ≡ audit → MessageAlone n sender d (reply.Refused fault) n' []
      → Brought n sender d (reply.Refused fault) n' audit audit_after
  unnoted fault n' same brings = record { admitted = []; admitted_is = same ∙ sym (append-nil audit); brings = brings }

  pub unready : (fault : Fault) → audit_after ≡ audit → TellsNothing n.state fault → Brought n sender d (reply.Refused fault) n audit audit_after
  unready fault same (inl h) = unnoted fault n same (MessageAlone.refused (Arrives.stopped h))
  unready fault same (inr h) =
      subst (λ f. Brought n sender d (reply.Refused f) n audit audit_after) (sym h.1) (unnoted (faults.Refused Memory) n same (MessageAlone.no_room h.0))

  pub not_brought : (copy : Data) (fault : Fault) (n' : NodeState) → copy ≡ d → audit_after ≡ audit → Arrives n copy (Err fault) n'
      → Brought n sender d (reply.Refused fault) n' audit audit_after
  not_brought copy fault n' is same h = unnoted fault n' same (MessageAlone.refused (subst (λ m. Arrives n m (Err fault) n') is h))

  pub brought : (copy : Data) (answer : jobs.Reply) (n' : NodeState) (entry : Option Admission) → copy ≡ d
      → listed entry ≡ message_entries sender d.receiver (process_of n d.receiver) → audit_after ≡ audit ++ listed entry → Arrives n copy (Ok answer) n'
      → Brought n sender d (reply.Job answer) n' audit audit_after
  brought copy answer n' entry is entry_is noted h = record {
    admitted = message_entries sender d.receiver (process_of n d.receiver);
    admitted_is = noted ∙ ap (λ l. audit ++ l) entry_is;
    brings = MessageAlone.arrives (subst (λ m. Arrives n m (Ok answer) n') is h);
  }

-- ---- operations

pub takes_none : (n : NodeState) (ops : SetBy op_cmp) (n' : NodeState) (count : ℕ) → count ≡ 0 → Receives n ops (Ok count) n' → BatchAlone n ops (reply.Took 0) n'
takes_none n ops n' count e h = BatchAlone.nothing_new (subst (λ k. Receives n ops (Ok k) n') e h)

pub takes_some : (n : NodeState) (ops : SetBy op_cmp) (n' : NodeState) (count : ℕ) → count ≢ 0 → Receives n ops (Ok count) n' → BatchAlone n ops (reply.Taking count) n'
takes_some n ops n' count some h =
    let more : 0 < count = omega (arith, some) in
    BatchAlone.takes h more
