-- What a node does with a job is what the line of the job does in a world where the node stands.
use Rattle.std.proofs.Common.{◌≡◌, ℕ, suc, ◌+◌, List, [], ◌∷◌, ◌++◌, map, length, Option, Some}
use Rattle.std.proofs.Common.{None}
use Rattle.std.proofs.Common.{Result, Ok, Err, refl, sym, ap, ◌∙◌, subst, arith, append_assoc}
use Rattle.std.proofs.lemmas.List.{append-nil, length-map}
use Rattle.fl_labels.specs.declared.name.Name.{Name}
use Rattle.fl_labels.specs.declared.pid.Pid.{Pid}
use Rattle.fl_message.specs.declared.message.Data.{Data}
use Rattle.fl_ops.specs.declared.op.Op.{Op}
use Rattle.fl_ops.specs.declared.op.Body.{Body}
use Rattle.fl_jobs.specs.declared.job.Job.{Job}
use Rattle.fl_jobs.specs.declared.job.Job.TheVariants.{Proc, By, Member, Arrive}
use Rattle.fl_jobs.specs.declared.answer.Refusal.TheVariants.{Memory}
use Rattle.fl_store.specs.Kept.{Kept}
use Rattle.fl_system.specs.declared.admission.Admission.{Admission}
use Rattle.fl_system.specs.declared.answer.Answer.{Answer}
use Rattle.fl_system.specs.declared.answer.Answer.TheVariants as answers
use Rattle.fl_system.specs.declared.answer.Fault.{Fault}
use Rattle.fl_system.specs.declared.answer.Fault.TheVariants as faults
use Rattle.fl_system.specs.declared.event.Event.{Event}
use Rattle.fl_system.specs.declared.reply.Reply as world
use Rattle.fl_system.specs.declared.reply.Reply.TheVariants as replies
use Rattle.fl_system.specs.declared.sent.Sent.{Sent}
use Rattle.fl_system.specs.declared.state.Batch.{Batch}
use Rattle.fl_system.specs.declared.state.Batch.TheVariants.{Ordered}
use Rattle.fl_system.specs.declared.state.Pending.TheVariants.{Unsaved, Due}
use Rattle.fl_system.specs.declared.state.State.TheVariants.{Running}
use Rattle.fl_system.specs.Audit.{entries}
use Rattle.fl_system.specs.Begins.{Begins}
use Rattle.fl_system.specs.Jobs.{Jobs}
use Rattle.fl_system.specs.Publishes.{Publishes}
use Rattle.fl_system.specs.Saves.{Saves}
use Rattle.fl_system.specs.State.{NodeState, kept_of}
use Rattle.fl_system.specs.World.{World, KeptNode, went}
use Rattle.fl_system.specs.WorldCalls.{SaveAt, PublishAt}
use Rattle.fl_system.specs.WorldJobs.{JobAt, next_packet, sent_message}
use Rattle.fl_system.specs.WorldSteps.{IsArrival, IsAt, Step}
use Rattle.fl_wire.specs.declared.packet.Packet.{Packet}
use Rattle.fl_wire.specs.declared.packet.Packet.TheVariants as packets
use Rattle.fl_calls.specs.Completing.{Completes, Finishes}
use Rattle.fl_turns.specs.Turn.{job_at}
use Rattle.fl_crew_model.specs.declared.record.Told.{Told}
use Rattle.fl_dealing.specs.declared.entry.Entry.{Entry}
use Rattle.fl_dealing.specs.declared.entry.Reply.{Reply}
use Rattle.fl_crew_calls.specs.Told.{all_sent, replies_behind, reply_behind, sent_by}
use Rattle.fl_one_worker_laws.specs.Completing.{AllComplete, Completes as NodeCompletes}
use Rattle.fl_one_worker_laws.specs.Completing.{JobCompletes}
use Rattle.fl_one_worker_laws.specs.Single.{reply_in, replied}
use Rattle.fl_one_worker_calls.specs.Worlds.{AreAsked, CompletesAll, IsElsewhere, jobs_at}
use Rattle.fl_one_worker_calls.specs.Worlds.{packet_in}
use Rattle.fl_one_worker_calls.specs.Worlds.{packets_in}
use Rattle.fl_one_worker_calls.proofs.Places.{at_number, elsewhere, elsewhere_same, elsewhere_still}
use Rattle.fl_one_worker_calls.proofs.Places.{packets_went}

abbrev pub most : ℕ
most = 18446744073709551615

-- ---- what was begun is an order of that name

record IsBegun (n : NodeState) (name : Name) : Type 0 where
  pub op : Op
  pub maker : Option Pid
  pub desk : Option ℕ
  pub state : n.state ≡ Running (Unsaved (Ordered op maker desk))
  pub named : op.name ≡ name

record IsDue (n : NodeState) (name : Name) : Type 0 where
  pub op : Op
  pub maker : Option Pid
  pub desk : Option ℕ
  pub state : n.state ≡ Running (Due (Ordered op maker desk))
  pub named : op.name ≡ name

begins_as : {n : NodeState} {body : Body} {maker : Option Pid} {desk : Option ℕ}
    {r : Result Name Fault} {n' : NodeState} (name : Name) → Begins n body maker desk r n'
    → r ≡ Ok name → IsBegun n' name
begins_as {n} {body} {maker} {desk} name (Begins.begins {name = its} idle next) is = record {
  op = record { name = its; body = body };
  maker = maker;
  desk = desk;
  state = refl;
  named = cc;
}
begins_as name (Begins.taken why) is = absurd (cc)
begins_as name (Begins.spent idle last) is = absurd (cc)

job_begins : {n : NodeState} {desk upto : ℕ} {job : Job} {r : Result Answer Fault} {n' : NodeState}
    (name : Name) → Jobs n desk upto job r n' → r ≡ Ok (answers.Begun name) → IsBegun n' name
job_begins name (Jobs.stopped why) is = absurd (cc)
job_begins name (Jobs.no_room look more which) is = absurd (cc)
job_begins name (Jobs.refused look d) is = absurd (cc)
job_begins name (Jobs.replied look d) is = absurd (cc)
job_begins name (Jobs.sent look d) is = absurd (cc)
job_begins name (Jobs.begun {v} {body} {pid} {left} {name = its} look d begin) is =
    let same : its ≡ name = cc in begins_as name begin (ap Ok same)
job_begins name (Jobs.not_begun look d begin) is = absurd (cc)

saved_due : {n : NodeState} {k : Kept} {r : Result (Unit {0}) Fault} {n' : NodeState} {k' : Kept}
    (name : Name) → IsBegun n name → Saves n k r n' k' → r ≡ Ok tt → IsDue n' name
saved_due name begun (Saves.saved {batch} is) fine =
    let at = begun.state in
    let same : batch ≡ Ordered begun.op begun.maker begun.desk = cc in
    record {
      op = begun.op;
      maker = begun.maker;
      desk = begun.desk;
      state = ap (λ (b : Batch). Running (Due b)) same;
      named = begun.named;
    }
saved_due name begun (Saves.no_room is) fine = absurd (cc)
saved_due name begun (Saves.failed is left) fine = absurd (cc)
saved_due name begun (Saves.none why) fine = absurd (cc)

-- ---- one line

-- the event happens so, and leaves the node so, and what is kept of it
pub record Lifted (w : World) (number : ℕ) (event : Event) (reply : world.Reply)
    (sent : List Packet) (n' : NodeState) (k' : Kept) : Type 0 where
  pub world : World
  pub completes : Completes w event reply world
  pub there : IsAt world number (record { node = n'; kept = k' })
  pub elsewhere : IsElsewhere number w world
  pub packets : packets_in world ≡ packets_in w ++ sent

-- at once
pub at_once : (w : World) (number : ℕ) (k : Kept) (event : Event) (reply : world.Reply)
    (n' : NodeState) (sent : List Sent) (admitted : List Admission)
    → Completes w event reply (went w number n' k sent admitted)
    → Lifted w number event reply (map packet_in sent) n' k
at_once w number k event reply n' sent admitted completes = record {
  world = went w number n' k sent admitted;
  completes = completes;
  there = at_number w number n' k sent admitted;
  elsewhere = elsewhere w number n' k sent admitted;
  packets = packets_went w number n' k sent admitted;
}

-- what is begun is saved, and then published or not
pub in_steps : (w : World) (number : ℕ) (k : Kept) (event : Event) (admitted : List Admission)
    (begun saved n' : NodeState) (k' : Kept) (reply : world.Reply)
    → ((w' : World) → Finishes (went w number begun k [] admitted) number reply w'
    → Completes w event reply w')
    → Saves begun k (Ok tt) saved k'
    → ((v : World) → PublishAt v number (record { node = saved; kept = k' }) reply
    (went v number n' k' [] []))
    → Lifted w number event reply [] n' k'
in_steps w number k event admitted begun saved n' k' reply finish saves publish =
    let a = went w number begun k [] admitted in
    let b = went a number saved k' [] [] in
    record {
      world = went b number n' k' [] [];
      completes =
          finish (went b number n' k' [] [])
          (Finishes.saved (Step.save (at_number w number begun k [] admitted) (SaveAt.saved saves))
          (Step.publish (at_number a number saved k' [] []) (publish b)));
      there = at_number b number n' k' [] [];
      elsewhere =
          elsewhere_still (elsewhere w number begun k [] admitted)
          (elsewhere_still (elsewhere a number saved k' [] []) (elsewhere b number n' k' [] []));
      packets =
          packets_went b number n' k' [] []
          ∙ (append-nil (packets_in b)
          ∙ (packets_went a number saved k' [] []
          ∙ (append-nil (packets_in a) ∙ packets_went w number begun k [] admitted)));
    }

module _ (w : World) (number : ℕ) (s : KeptNode) (at : IsAt w number s) (job : Job)
    (other : ¬ IsArrival job) where
  job_finishes : (name : Name) (begun : NodeState)
      → Jobs s.node 1 most job (Ok (answers.Begun name)) begun
      → (reply : world.Reply) (w' : World)
      → Finishes (went w number begun s.kept [] (entries s.node job (answers.Begun name))) number
      reply w' → Completes w (job_at number job) reply w'
  job_finishes name begun h reply w' finishes =
      Completes.in_steps refl (Step.job at other (JobAt.begun h)) finishes

  pub lifted : (told : Told) (n' : NodeState) (k' : Kept)
      → JobCompletes most s.node s.kept job told n' k'
      → Lifted w number (job_at number job)
      (reply_behind (length (packets_in w)) (Reply.Told told)) (sent_by (Reply.Told told)) n' k'
  lifted told n' k' (JobCompletes.replied {reply} h) =
      at_once w number s.kept (job_at number job) (replies.Job reply) n' [] _
      (Completes.at_once refl (Step.job at other (JobAt.replied h)))
  lifted told n' k' (JobCompletes.sent {message} h) =
      let count : suc (length w.packets) ≡ length (packets_in w) + 1 =
      (let same = length-map w.packets packet_in in omega arith) in
      subst (λ (c : ℕ). Lifted w number (job_at number job) (replies.Sent c 1)
      (packets.Data message ∷ []) n' s.kept) count
      (at_once w number s.kept (job_at number job) (replies.Sent (next_packet w) 1) n'
      (sent_message number s.node message ∷ []) _
      (Completes.at_once refl (Step.job at other (JobAt.sends h))))
  lifted told n' k' (JobCompletes.refused {fault} h) =
      at_once w number s.kept (job_at number job) (replies.Refused fault) n' [] _
      (Completes.at_once refl (Step.job at other (JobAt.refused h)))
  lifted told n' k' (JobCompletes.published {name} {begun} {saved} h saves publishes) =
      let due = saved_due name (job_begins name h refl) saves refl in
      in_steps w number s.kept (job_at number job) _ begun saved n' k' (replies.Published name)
      (job_finishes name begun h (replies.Published name)) saves
      (λ v. subst (λ (its : Name). PublishAt v number (record { node = saved; kept = k' })
      (replies.Published its) (went v number n' k' [] [])) due.named
      (PublishAt.ordered due.state publishes))
  lifted told n' k' (JobCompletes.due {name} {begun} h saves publishes) =
      in_steps w number s.kept (job_at number job) _ begun n' n' k'
      (replies.Refused (faults.Refused Memory))
      (job_finishes name begun h (replies.Refused (faults.Refused Memory))) saves
      (λ v. PublishAt.refused publishes)

-- ---- all lines

pub record AllLifted (w : World) (number : ℕ) (events : List Event) (said : List world.Reply)
    (sent : List Packet) (n' : NodeState) (k' : Kept) : Type 0 where
  pub world : World
  pub completes : CompletesAll w events said world
  pub there : IsAt world number (record { node = n'; kept = k' })
  pub elsewhere : IsElsewhere number w world
  pub packets : packets_in world ≡ packets_in w ++ sent

own_job : (upto : ℕ) (n : NodeState) (k : Kept) (job : Job) (told : Told) (n' : NodeState)
    (k' : Kept) → ¬ IsArrival job → NodeCompletes upto n k job told n' k' → JobCompletes upto n k job told n' k'
own_job upto n k Proc told n' k' other h = h
own_job upto n k (By pid act) told n' k' other h = h
own_job upto n k (Member root c) told n' k' other h = h
own_job upto n k (Arrive d) told n' k' other h = absurd (other tt)

pub all_lifted : (w : World) (number : ℕ) (s : KeptNode) (jobs : List Job) (told : List Told)
    (es : List Entry) (n' : NodeState) (k' : Kept) → IsAt w number s → AreAsked jobs
    → AllComplete most s.node s.kept jobs told n' k' → map reply_in es ≡ map replied told
    → AllLifted w number (jobs_at number jobs) (replies_behind (packets_in w) es) (all_sent es) n'
    k'
all_lifted w number s [] [] [] n' k' at asked h said = record {
  world = w;
  completes = refl;
  there =
      subst (λ (n : NodeState). IsAt w number (record { node = n; kept = k' })) (sym h.0)
      (subst (λ (k : Kept). IsAt w number (record { node = s.node; kept = k })) (sym h.1) at);
  elsewhere = elsewhere_same;
  packets = sym (append-nil (packets_in w));
}
all_lifted w number s [] [] (e ∷ es) n' k' at asked h said = absurd (cc)
all_lifted w number s [] (t ∷ told) es n' k' at asked h said = absurd h
all_lifted w number s (job ∷ jobs) [] es n' k' at asked h said = absurd h
all_lifted w number s (job ∷ jobs) (t ∷ told) [] n' k' at asked h said = absurd (cc)
all_lifted w number s (job ∷ jobs) (t ∷ told) (e ∷ es) n' k' at asked (mid, kept, one, later) said =
    let is : e.reply ≡ Reply.Told t = cc in
    let rest : map reply_in es ≡ map replied told = cc in
    let first =
    subst (λ (r : Reply). Lifted w number (job_at number job)
    (reply_behind (length (packets_in w)) r) (sent_by r) mid kept) (sym is)
    (lifted w number s at job asked.0 t mid kept
    (own_job most s.node s.kept job t mid kept asked.0 one)) in
    let tail =
    all_lifted first.world number (record { node = mid; kept = kept }) jobs told es n' k'
    first.there asked.1 later rest in
    record {
      world = tail.world;
      completes = (
        first.world,
        first.completes,
        subst (λ (l : List Packet). CompletesAll first.world (jobs_at number jobs)
            (replies_behind l es) tail.world) first.packets tail.completes,
      );
      there = tail.there;
      elsewhere = elsewhere_still first.elsewhere tail.elsewhere;
      packets =
          tail.packets
          ∙ (ap (λ l. l ++ all_sent es) first.packets
          ∙ append_assoc (packets_in w) (sent_by e.reply) (all_sent es));
    }
