-- A job at a node as a step of the world.
use Rattle.std.proofs.Common.{◌<◌, ◌≤◌, ltb, false, ◌≡◌, ◌++◌, ◌∙◌, refl, sym, ap, subst, ℕ, zero, suc, List, [], ◌∷◌, length, Option, Some, None, arith}
use Rattle.std.proofs.lemmas.Bool.Decides.{nat_tests}
use Rattle.std.proofs.lemmas.Cmp.{nat_cmp_total}
use Rattle.std.proofs.lemmas.List.{append-nil}
use Rattle.std.specs.BTreeMap.{is_at}
use Rattle.std.specs.FinMap as map
use Rattle.std.specs.FinMap.{nat_cmp-IsAntisymmetric}
use Rattle.std.specs.Map.{lookup, set_value}
use Rattle.std.specs.Ordering.{nat_cmp}
use Rattle.fl_mailbox.specs.laws.Tables.{put_same, put_through}
use Rattle.fl_store.specs.Custody.{Custody}
use Rattle.fl_store.specs.Kept.{Kept}
use Rattle.fl_message.specs.declared.message.Data.{Data}
use Rattle.fl_jobs.specs.declared.job.Job.{Job}
use Rattle.fl_jobs.specs.declared.job.Job.TheVariants.{Proc, By, Member, Arrive}
use Rattle.fl_system.specs.declared.admission.Admission.{Admission}
use Rattle.fl_system.specs.declared.event.Event.TheVariants as event
use Rattle.fl_system.specs.declared.reply.Reply.{Reply}
use Rattle.fl_system.specs.declared.reply.Reply.TheVariants as reply
use Rattle.fl_system.specs.declared.sent.Sent.{Sent}
use Rattle.fl_system.specs.Numbered.{item_at}
use Rattle.fl_system.specs.State.{NodeState}
use Rattle.fl_system.specs.World.{World, went}
use Rattle.fl_system.specs.WorldJobs.{JobAt, sent_message}
use Rattle.fl_system.specs.Audit.{entries}
use Rattle.fl_system.specs.declared.answer.Answer.TheVariants as answers
use Rattle.fl_system.specs.WorldSteps.{Step, IsArrival}
use Rattle.fl_node.specs.Over.{NodeOver}
use Rattle.fl_nodes.specs.Over.{WorldOver}
use Rattle.fl_nodes.specs.Goes.{Goes}
use Rattle.fl_nodes.specs.parts.There.{IsNoSuch, IsThere}
use Rattle.fl_machine_model.specs.Alone.{JobAlone}
use Rattle.fl_notes.specs.Working.{Worked}
use Rattle.fl_nodes.proofs.Lifting.{StandsAs, lifts_kept, node_there, over_went, stays, with_kept}
use Rattle.fl_nodes.proofs.Entries.{changed, held, of_entries}

pub not_below : (m n : ℕ) → ltb m n ≡ false → n ≤ m
not_below m n e = grind (arith, nat_tests)

-- there is no desk 0, and none beyond the last
pub no_desk_zero : (views : List ℕ) → item_at views 0 ≡ None
no_desk_zero [] = refl
no_desk_zero (x ∷ rest) = refl

pub no_desk_beyond : (views : List ℕ) (desk : ℕ) → length views < desk → item_at views desk ≡ None
no_desk_beyond [] desk more = refl
no_desk_beyond (x ∷ rest) zero more = refl
no_desk_beyond (x ∷ rest) (suc zero) more = absurd (omega (arith, more))
no_desk_beyond (x ∷ rest) (suc (suc k)) more = no_desk_beyond rest (suc k) (omega (arith, more))

pub not_arrival : (job : Job) → ((d : Data) → job ≡ Arrive d → ⊥) → IsArrival job → ⊥
not_arrival (Arrive d) h k = h d refl
not_arrival Proc h k = k
not_arrival (By pid act) h k = k
not_arrival (Member root c) h k = k

no_both : {X : Type 0} (o : Option X) (x : X) → o ≡ None → o ≡ Some x → ⊥
no_both o x none some = cc

-- a node that is there always answers something
pub answers_always : {number desk upto count : ℕ} {n n' : NodeState} {job : Job} {result : Reply} {sent : List Sent} {admitted : List Admission}
    → JobAlone number n desk upto job count result n' sent admitted → result ≡ reply.NoSuch → ⊥
answers_always (JobAlone.refused h) e = cc
answers_always (JobAlone.replied h) e = cc
answers_always (JobAlone.begun h) e = cc
answers_always (JobAlone.sends h) e = cc
answers_always (JobAlone.no_room look seen noted) e = cc

job_at : (w : World) (number desk upto count : ℕ) (n n' : NodeState) (k : Kept) (job : Job) (result : Reply) (sent : List Sent) (admitted : List Admission)
    → count ≡ length w.packets → JobAlone number n desk upto job count result n' sent admitted
    → JobAt w number (with_kept n k) desk upto job result (went w number n' k sent admitted)
job_at w number desk upto count n n' k job result sent admitted e (JobAlone.refused h) = JobAt.refused h
job_at w number desk upto count n n' k job result sent admitted e (JobAlone.replied h) = JobAt.replied h
job_at w number desk upto count n n' k job result sent admitted e (JobAlone.begun h) = JobAt.begun h
job_at w number desk upto count n n' k job result sent admitted e (JobAlone.sends {d} h) =
    subst (λ c. JobAt w number (with_kept n k) desk upto job (reply.Sent (suc c) 1)
    (went w number n' k (sent_message number n d ∷ []) (entries n job (answers.Out d)))) (sym e) (JobAt.sends h)
job_at w number desk upto count n n' k job result sent admitted e (JobAlone.no_room look seen noted) = JobAt.no_room look seen noted

module _ {K : Type 0} (custody : Custody K) {desks : ℕ} (es fs : List (ℕ × NodeOver K)) (packets : List Sent)
    (audit : List Admission) (old : WorldOver K) (is : of_entries desks es packets audit ≡ old) (number desk upto : ℕ) (job : Job)
    (x y : NodeOver K) (there : lookup (is_at (nat_cmp number)) es ≡ Some x) (left : fs ≡ set_value (is_at (nat_cmp number)) es y) where
  at_old : map.get old.nodes number ≡ Some x
  at_old = sym (held es es packets audit old is number) ∙ there

  -- the node is left, and so is all
  pub left_same : y ≡ x → of_entries desks fs packets audit ≡ old
  left_same same =
      changed es fs packets audit old is number x y there left
      ∙ (λ i. record {
        desks = old.desks;
        nodes = (ap (λ n. map.insert old.nodes number n) same ∙ put_same nat_cmp_total nat_cmp-IsAntisymmetric old.nodes number x at_old) i;
        packets = append-nil old.packets i;
        audit = append-nil old.audit i;
      })

  -- what the job names is not there, and the node is left
  pub no_such_job : y ≡ x → IsNoSuch x.node desk job
      → Goes custody old (of_entries desks fs packets audit) (λ w w'. Step w (event.Job number desk upto job) reply.NoSuch w')
  no_such_job same none =
      subst (λ n. Goes custody old n (λ w w'. Step w (event.Job number desk upto job) reply.NoSuch w')) (sym (left_same same))
      (stays custody old _ (λ w may_be. by_cause w (node_there custody old w number x at_old may_be) none))
    where
      by_cause : (w : World) → StandsAs custody x (map.get w.nodes number) → IsNoSuch x.node desk job
          → Step w (event.Job number desk upto job) reply.NoSuch w
      by_cause w s (IsNoSuch.no_desk h) = Step.no_desk s.there h
      by_cause w s (IsNoSuch.no_job h) = Step.no_such_job h

  -- where there is no node, none was found
  pub found_one : map.get old.nodes number ≡ None → ⊥
  found_one none = no_both _ x none at_old

  -- the job is done at the node
  pub worked : (result : Reply) (packets_after : List Sent) (audit_after : List Admission) → y.keeper ≡ x.keeper → IsThere x.node desk job
      → Worked number x.node desk upto job result y.node packets packets_after audit audit_after
      → Goes custody old (of_entries desks fs packets_after audit_after) (λ w w'. Step w (event.Job number desk upto job) result w')
  worked result packets_after audit_after same given work =
      lifts_kept custody old number x y work.sent work.admitted at_old (of_entries desks fs packets_after audit_after) _ is_new same
      (λ w k at may_be. Step.job at given.asked
      (job_at w number desk upto (length packets) x.node y.node k job result work.sent work.admitted
      (ap length (same_packets ∙ sym may_be.packets)) work.works))
    where
      same_packets : packets ≡ old.packets
      same_packets = ap (λ (w : WorldOver K). w.packets) is

      same_audit : audit ≡ old.audit
      same_audit = ap (λ (w : WorldOver K). w.audit) is

      nodes_are : map.from_entries fs ≡ map.insert old.nodes number y
      nodes_are = put_through nat_cmp_total nat_cmp-IsAntisymmetric es fs old.nodes number x y (ap (λ (w : WorldOver K). w.nodes) is) there left

      is_new : of_entries desks fs packets_after audit_after ≡ over_went old number y work.sent work.admitted
      is_new = λ i. record {
        desks = (ap (λ (w : WorldOver K). w.desks) is) i;
        nodes = nodes_are i;
        packets = (work.sent_is ∙ ap (λ l. l ++ work.sent) same_packets) i;
        audit = (work.admitted_is ∙ ap (λ l. l ++ work.admitted) same_audit) i;
      }
