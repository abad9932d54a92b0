-- The turn of an entry of a crew's run, as moments of a world.
use Rattle.std.proofs.Common.{◌≡◌, ◌∙◌, ℕ, ◌≤◌, List, [], ◌∷◌, ◌++◌, Some}
use Rattle.std.proofs.Common.{Result, Ok, Err, refl, sym, subst, arith}
use Rattle.std.proofs.lemmas.List.Elements.{Contains-append_left, Contains-append_right}
use Rattle.fl_labels.specs.declared.name.Name.{Name}
use Rattle.fl_message.specs.declared.message.Data.{Data}
use Rattle.fl_ops.specs.declared.op.Op.{Op}
use Rattle.fl_jobs.specs.declared.answer.Refusal.TheVariants.{Memory}
use Rattle.fl_jobs.specs.declared.answer.Reply as jobs
use Rattle.fl_jobs.specs.declared.job.Job.{Job}
use Rattle.fl_jobs.specs.declared.job.Job.TheVariants.{Proc, By, Member, Arrive}
use Rattle.fl_store.specs.Kept.{Kept, with_batch}
use Rattle.fl_system.specs.declared.admission.Admission.{Admission}
use Rattle.fl_system.specs.declared.answer.Answer.{Answer}
use Rattle.fl_system.specs.declared.answer.Answer.TheVariants as answers
use Rattle.fl_system.specs.declared.answer.Fault.{Fault}
use Rattle.fl_system.specs.declared.answer.Fault.TheVariants as faults
use Rattle.fl_system.specs.declared.event.Event.{Event}
use Rattle.fl_system.specs.declared.event.Event.TheVariants as events
use Rattle.fl_system.specs.declared.reply.Reply as world
use Rattle.fl_system.specs.declared.reply.Reply.TheVariants as replies
use Rattle.fl_system.specs.declared.sent.Sent.{Sent}
use Rattle.fl_system.specs.Arrives.{Arrives}
use Rattle.fl_system.specs.Audit.{entries, message_entries}
use Rattle.fl_system.specs.Deliveries.{DeliverAt, MessageAt}
use Rattle.fl_system.specs.Jobs.{Jobs}
use Rattle.fl_system.specs.Numbered.{item_at}
use Rattle.fl_system.specs.Processes.{process_of}
use Rattle.fl_system.specs.Publishes.{Publishes}
use Rattle.fl_system.specs.Runs.{Moment, Happens, end}
use Rattle.fl_system.specs.State.{NodeState, kept_of}
use Rattle.fl_system.specs.World.{World, went}
use Rattle.fl_system.specs.WorldCalls.{SaveAt, PublishAt}
use Rattle.fl_system.specs.WorldJobs.{JobAt, next_packet, sent_message}
use Rattle.fl_system.specs.WorldSteps.{IsArrival, IsAt, Step}
use Rattle.fl_system_laws.specs.laws.Steps.{in_none}
use Rattle.fl_wire.specs.declared.packet.Packet.{Packet}
use Rattle.fl_wire.specs.declared.packet.Packet.TheVariants as packets
use Rattle.fl_crew_model.specs.declared.record.Entry.{Entry}
use Rattle.fl_crew_model.specs.declared.record.Ruling.{Ruling}
use Rattle.fl_crew_model.specs.declared.record.Told.{Told}
use Rattle.fl_crew_model.specs.Reasons.{refusal_of}
use Rattle.fl_crew_model.specs.Woven.{Goes, SavesAll, placed, said, told_of}
use Rattle.fl_dealing.specs.declared.entry.Reply.{Reply}
use Rattle.fl_crew_calls.specs.Told.{reply_behind, sent_by}
use Rattle.fl_one_worker_laws.proofs.Single.{jobs_list}
use Rattle.fl_one_worker_laws.proofs.Turning.{IsPlain}
use Rattle.fl_one_worker_calls.proofs.Places.{at_number}
use Rattle.fl_crew_worlds.specs.Worlds.{AreAmong, Has, Means, starved}
use Rattle.fl_crew_worlds.proofs.Begun.{job_begins, saved_due}
use Rattle.fl_crew_worlds.proofs.Moments.{IsPart, Led, first_in, has_in, has_more, item_left}
use Rattle.fl_crew_worlds.proofs.Moments.{means_more, none_led, one_led, only_in, then_led}
use Rattle.fl_crew_worlds.proofs.Rotating.{Rotated, to_place}
use Rattle.fl_crew_worlds.proofs.Wide.{Follows, IsWide, arrives_wide, jobs_wide, placed_wide}
use Rattle.fl_crew_worlds.proofs.Wide.{publishes_wide, saves_wide, stays, then_follows}

-- ---- what is said of a turn

-- the event by which a job is done: a message comes as the packet of some number
abbrev pub Asks : (ℕ → Packet → Type 0) → ℕ → Job → Event → Type 0
Asks from number Proc what =
    (desk : ℕ) × (upto : ℕ) × (what ≡ events.Job number desk upto Proc)
Asks from number (By pid act) what =
    (desk : ℕ) × (upto : ℕ) × (what ≡ events.Job number desk upto (By pid act))
Asks from number (Member root c) what =
    (desk : ℕ) × (upto : ℕ) × (what ≡ events.Job number desk upto (Member root c))
Asks from number (Arrive d) what =
    (index : ℕ) × from index (packets.Data d) × (what ≡ events.Deliver index number)

-- these packets are there, where they are said to come from
abbrev pub Brings : (ℕ → Packet → Type 0) → List Sent → Type 0
Brings from sents =
    (index : ℕ) (p : Packet) → from index p
    → (sent : Sent) × (item_at sents index ≡ Some sent) × (sent.packet ≡ p)

-- and if the job is a message, it comes from somewhere
abbrev pub Comes : (ℕ → Packet → Type 0) → Job → Type 0
Comes from job = (d : Data) → job ≡ Arrive d → (index : ℕ) × from index (packets.Data d)

pub brings_more : (from : ℕ → Packet → Type 0) (sents more : List Sent) → Brings from sents
    → Brings from (sents ++ more)
brings_more from sents more h index p is =
    let it = h index p is in
    (it.0, item_left sents more index it.0 it.1, it.2)

-- the job is among the moments, and is answered so; what it sends is sent
pub record DoneBy (from : ℕ → Packet → Type 0) (number : ℕ) (job : Job) (told : Told)
    (ms : List Moment) (more : List Sent) : Type 0 where
  pub what : Event
  pub asks : Asks from number job what
  pub first : world.Reply
  pub there : Has ms what first
  pub means : (count : ℕ) → Means number ms first (reply_behind count (Reply.Told told))
  pub sends : AreAmong (sent_by (Reply.Told told)) more

-- what holds of moments and packets holds of more
abbrev pub Lasts : (List Moment → List Sent → Type 0) → Type 0
Lasts D =
    (ms later : List Moment) (more others : List Sent) → IsPart ms later → IsPart more others
    → D ms more → D later others

pub done_lasts : (from : ℕ → Packet → Type 0) (number : ℕ) (job : Job) (told : Told)
    → Lasts (DoneBy from number job told)
done_lasts from number job told ms later more others part sents h = record {
  what = h.what;
  asks = h.asks;
  first = h.first;
  there = has_more part h.there;
  means = λ count. means_more part (h.means count);
  sends = λ p there. let it = h.sends p there in (it.0, sents it.0 it.1, it.2);
}

-- Moments lead from one node to another, with what is kept of it, and this holds of them.
pub record Turned (size number : ℕ) (w : World) (n : NodeState) (k : Kept) (n' : NodeState)
    (D : List Moment → List Sent → Type 0) : Type 0 where
  pub moments : List Moment
  pub more : List Sent
  pub kept : Kept
  pub led : Led number w moments more n' kept
  pub same : k ≡ kept_of n → kept ≡ kept_of n'
  pub on : Follows size n n'
  pub done : D moments more

-- no moment
pub none_turned : (size number : ℕ) (w : World) (n : NodeState) (k : Kept)
    (D : List Moment → List Sent → Type 0) → IsAt w number (record { node = n; kept = k })
    → IsWide size n → D [] [] → Turned size number w n k n D
none_turned size number w n k D at wide done = record {
  moments = [];
  more = [];
  kept = k;
  led = none_led number w n k at;
  same = λ same. same;
  on = stays wide;
  done = done;
}

-- some, and then others
pub then_turned : {size number : ℕ} {w : World} {n : NodeState} {k : Kept} {mid n' : NodeState}
    (D E : List Moment → List Sent → Type 0) → Lasts D → Lasts E
    → (first : Turned size number w n k mid D)
    → Turned size number (end w first.moments) mid first.kept n' E
    → Turned size number w n k n' (λ ms more. D ms more × E ms more)
then_turned D E lasts last first next = record {
  moments = first.moments ++ next.moments;
  more = first.more ++ next.more;
  kept = next.kept;
  led = then_led first.led next.led;
  same = λ same. next.same (first.same same);
  on = then_follows first.on next.on;
  done = (
    lasts first.moments (first.moments ++ next.moments) first.more (first.more ++ next.more)
        (Contains-append_left first.moments next.moments)
        (Contains-append_left first.more next.more) first.done,
    last next.moments (first.moments ++ next.moments) next.more (first.more ++ next.more)
        (Contains-append_right first.moments next.moments)
        (Contains-append_right first.more next.more) next.done,
  );
}

own_asks : (from : ℕ → Packet → Type 0) (number desk upto : ℕ) (job : Job) → ¬ IsArrival job
    → Asks from number job (events.Job number desk upto job)
own_asks from number desk upto Proc other = (desk, upto, refl)
own_asks from number desk upto (By pid act) other = (desk, upto, refl)
own_asks from number desk upto (Member root c) other = (desk, upto, refl)
own_asks from number desk upto (Arrive d) other = absurd (other tt)

-- where the registrar was asked the job is no arrival
asked_by : (e : Entry) (ruling : Ruling) → IsPlain e → e.ruling ≡ Some ruling
    → ¬ IsArrival e.job.value
asked_by e ruling plain asked = by e.job.value refl
  where
    by : (job : Job) → e.job.value ≡ job → ¬ IsArrival job
    by Proc is h = h
    by (By pid act) is h = h
    by (Member root c) is h = h
    by (Arrive d) is h = let q = sym asked ∙ plain.message d is in cc

-- ---- the turn of one entry

module _ (size number : ℕ) (from : ℕ → Packet → Type 0) (w : World) (n : NodeState) (k : Kept)
    (at : IsAt w number (record { node = n; kept = k })) (wide : IsWide size n) where
  -- a message comes
  message_turned : (d : Data) (result : Result jobs.Reply Fault) (n' : NodeState)
      → (index : ℕ) × from index (packets.Data d) → Brings from w.packets
      → Arrives n d result n'
      → Turned size number w n k n' (DoneBy from number (Arrive d) (told_of result))
  message_turned d (Ok reply) n' comes brings h =
      let it = brings comes.0 (packets.Data d) comes.1 in
      let what = events.Deliver comes.0 number in
      let noted = message_entries it.0.sender d.receiver (process_of n d.receiver) in
      let after = went w number n' k [] noted in
      let m : Moment =
      record { move = Happens what; reply = replies.Job reply; after = after } in
      let on = arrives_wide wide h in
      record {
        moments = m ∷ [];
        more = [];
        kept = k;
        led =
            one_led number w what (replies.Job reply) n' k [] noted
            (Step.deliver it.1 at (DeliverAt.message it.2 (MessageAt.arrives h)));
        same = λ same. same ∙ sym on.1;
        on = on.0;
        done = record {
          what = what;
          asks = (comes.0, comes.1, refl);
          first = replies.Job reply;
          there = has_in (m ∷ []) what (replies.Job reply) after (first_in m []);
          means = λ count. Means.same;
          sends = λ p there. in_none p there;
        };
      }
  message_turned d (Err fault) n' comes brings h =
      let it = brings comes.0 (packets.Data d) comes.1 in
      let what = events.Deliver comes.0 number in
      let after = went w number n' k [] [] in
      let m : Moment =
      record { move = Happens what; reply = replies.Refused fault; after = after } in
      let on = arrives_wide wide h in
      record {
        moments = m ∷ [];
        more = [];
        kept = k;
        led =
            one_led number w what (replies.Refused fault) n' k [] []
            (Step.deliver it.1 at (DeliverAt.message it.2 (MessageAt.refused h)));
        same = λ same. same ∙ sym on.1;
        on = on.0;
        done = record {
          what = what;
          asks = (comes.0, comes.1, refl);
          first = replies.Refused fault;
          there = has_in (m ∷ []) what (replies.Refused fault) after (first_in m []);
          means = λ count. Means.same;
          sends = λ p there. in_none p there;
        };
      }

  module _ (v : ℕ) (some : 1 ≤ v) (high : v ≤ size) where
    -- first the next process is to be born on the bench of this worker
    first_placed : Rotated number w (placed n v) k
    first_placed =
        let desks = wide.desks in
        let places = wide.places in
        let births = wide.births in
        to_place number k w n at wide.running (omega (arith, desks, some, high))
        (omega (arith, places, births)) v some (omega (arith, places, high))

    abbrev mid : World
    mid = end w first_placed.moments

    there_placed : IsAt mid number (record { node = placed n v; kept = k })
    there_placed = first_placed.led.there

    -- a job that is done at once
    at_once : {r : Result Answer Fault} (seen : ℕ) (job : Job) (told : Told) (n' : NodeState)
        (reply : world.Reply) (sent : List Sent) (admitted : List Admission) → ¬ IsArrival job
        → Jobs (placed n v) v seen job r n'
        → Step mid (events.Job number v seen job) reply (went mid number n' k sent admitted)
        → ((ms : List Moment) (count : ℕ)
        → Means number ms reply (reply_behind count (Reply.Told told)))
        → AreAmong (sent_by (Reply.Told told)) sent
        → Turned size number w n k n' (DoneBy from number job told)
    at_once seen job told n' reply sent admitted other h step means sends =
        let what = events.Job number v seen job in
        let after = went mid number n' k sent admitted in
        let m : Moment = record { move = Happens what; reply = reply; after = after } in
        let all = first_placed.moments ++ m ∷ [] in
        let on = jobs_wide (placed_wide size n v wide some high) h in
        record {
          moments = all;
          more = sent;
          kept = k;
          led =
              then_led first_placed.led (one_led number mid what reply n' k sent admitted step);
          same = λ same. same ∙ sym (jobs_list h).1;
          on = record { wide = on.wide; boot = on.boot };
          done = record {
            what = what;
            asks = own_asks from number v seen job other;
            first = reply;
            there =
                has_in all what reply after
                (Contains-append_right first_placed.moments (m ∷ []) m (first_in m []));
            means = means all;
            sends = sends;
          };
        }

    alone_turned : (seen : ℕ) (job : Job) (told : Told) (n' : NodeState) → ¬ IsArrival job
        → Jobs (placed n v) v seen job (said told) n'
        → ((name : Name) → ¬ (told ≡ Told.Published name))
        → Turned size number w n k n' (DoneBy from number job told)
    alone_turned seen job (Told.Reply reply) n' other h unnamed =
        at_once seen job (Told.Reply reply) n' (replies.Job reply) []
        (entries (placed n v) job (answers.Reply reply)) other h
        (Step.job there_placed other (JobAt.replied h)) (λ ms count. Means.same)
        (λ p there. in_none p there)
    alone_turned seen job (Told.Out message) n' other h unnamed =
        let sent = sent_message number (placed n v) message in
        at_once seen job (Told.Out message) n' (replies.Sent (next_packet mid) 1) (sent ∷ [])
        (entries (placed n v) job (answers.Out message)) other h
        (Step.job there_placed other (JobAt.sends h)) (λ ms count. Means.sent)
        (λ p there. (sent, first_in sent [], only_in (packets.Data message) p there))
    alone_turned seen job (Told.Published name) n' other h unnamed = absurd (unnamed name refl)
    alone_turned seen job (Told.Refused fault) n' other h unnamed =
        at_once seen job (Told.Refused fault) n' (replies.Refused fault) [] [] other h
        (Step.job there_placed other (JobAt.refused h)) (λ ms count. Means.same)
        (λ p there. in_none p there)

    -- an order: it is begun and saved, and then published or not
    in_steps : {p : Result ℕ Fault} (seen : ℕ) (job : Job) (told : Told) (name : Name)
        (ops : List Op) (begun saved n' : NodeState) (reply : world.Reply) → ¬ IsArrival job
        → Jobs (placed n v) v seen job (Ok (answers.Begun name)) begun
        → SavesAll begun ops saved → Publishes saved p n'
        → ((u : World) → PublishAt u number (record { node = saved; kept = with_batch k ops }) reply
        (went u number n' (with_batch k ops) [] []))
        → ((ms : List Moment) (count : ℕ) → Has ms (events.Publish number) reply
        → Means number ms (replies.Begun name) (reply_behind count (Reply.Told told)))
        → AreAmong (sent_by (Reply.Told told)) []
        → Turned size number w n k n' (DoneBy from number job told)
    in_steps seen job told name ops begun saved n' reply other h saves publishes publish means
        sends =
        let kept = with_batch k ops in
        let noted = entries (placed n v) job (answers.Begun name) in
        let what = events.Job number v seen job in
        let a = went mid number begun k [] noted in
        let b = went a number saved kept [] [] in
        let c = went b number n' kept [] [] in
        let l : Moment =
        record { move = Happens what; reply = replies.Begun name; after = a } in
        let m : Moment =
        record { move = Happens (events.Save number); reply = replies.Done; after = b } in
        let o : Moment =
        record { move = Happens (events.Publish number); reply = reply; after = c } in
        let three = l ∷ m ∷ o ∷ [] in
        let all = first_placed.moments ++ three in
        let on = jobs_wide (placed_wide size n v wide some high) h in
        let second = saves_wide on.wide (saves k) in
        let last = publishes_wide second.on.wide publishes in
        record {
          moments = all;
          more = [];
          kept = kept;
          led =
              then_led first_placed.led
              (then_led
              (one_led number mid what (replies.Begun name) begun k [] noted
              (Step.job there_placed other (JobAt.begun h)))
              (then_led
              (one_led number a (events.Save number) replies.Done saved kept [] []
              (Step.save (at_number mid number begun k [] noted) (SaveAt.saved (saves k))))
              (one_led number b (events.Publish number) reply n' kept [] []
              (Step.publish (at_number a number saved kept [] []) (publish b)))));
          same = λ same. second.kept (same ∙ sym (jobs_list h).1) ∙ sym last.1;
          on =
              then_follows (record { wide = on.wide; boot = on.boot })
              (then_follows second.on last.0);
          done = record {
            what = what;
            asks = own_asks from number v seen job other;
            first = replies.Begun name;
            there =
                has_in all what (replies.Begun name) a
                (Contains-append_right first_placed.moments three l (first_in l (m ∷ o ∷ [])));
            means = λ count.
                means all count
                (has_in all (events.Publish number) reply c
                (Contains-append_right first_placed.moments three o
                (Contains-append_right (l ∷ m ∷ []) (o ∷ []) o (first_in o []))));
            sends = sends;
          };
        }

    pub entry_turned : (e : Entry) (n' : NodeState) → IsPlain e → Comes from e.job.value
        → Brings from w.packets → Goes n v e n'
        → Turned size number w n k n' (DoneBy from number e.job.value e.told)
    entry_turned e n' plain comes brings (Goes.alone none other job) =
        alone_turned e.seen e.job.value e.told n' other job
        (λ name named. plain.named name named none)
    entry_turned e n' plain comes brings (Goes.arrived d result none job told h) =
        subst (λ (j : Job). Turned size number w n k n' (DoneBy from number j e.told)) (sym job)
        (subst (λ (t : Told). Turned size number w n k n' (DoneBy from number (Arrive d) t))
        (sym told) (message_turned d result n' (comes d job) brings h))
    entry_turned e n' plain comes brings (Goes.made op begun saved ruled told job saves publishes) =
        let due = saved_due op.name (job_begins op.name job refl) (saves k) refl in
        subst (λ (t : Told). Turned size number w n k n' (DoneBy from number e.job.value t))
        (sym told)
        (in_steps e.seen e.job.value (Told.Published op.name) op.name (op ∷ []) begun saved n'
        (replies.Published op.name) (asked_by e _ plain ruled) job saves publishes
        (λ u. subst (λ (its : Name). PublishAt u number
        (record { node = saved; kept = with_batch k (op ∷ []) }) (replies.Published its)
        (went u number n' (with_batch k (op ∷ [])) [] [])) due.named
        (PublishAt.ordered due.state publishes))
        (λ ms count has. Means.published has) (λ p there. in_none p there))
    entry_turned e n' plain comes brings (Goes.late op maker begun ruled told job saves publishes) =
        subst (λ (t : Told). Turned size number w n k n' (DoneBy from number e.job.value t))
        (sym told)
        (in_steps e.seen e.job.value (Told.Refused (faults.Refused Memory)) op.name (op ∷ [])
        begun n' n' starved (asked_by e _ plain ruled) job saves publishes
        (λ u. PublishAt.refused publishes) (λ ms count has. Means.late has)
        (λ p there. in_none p there))
    entry_turned e n' plain comes brings (Goes.given_up reason ruled told job) =
        subst (λ (t : Told). Turned size number w n k n' (DoneBy from number e.job.value t))
        (sym told)
        (at_once e.seen e.job.value (Told.Refused (faults.Refused (refusal_of reason))) n'
        (replies.Refused (faults.Refused (refusal_of reason))) [] []
        (asked_by e _ plain ruled) job
        (Step.job there_placed (asked_by e _ plain ruled) (JobAt.refused job))
        (λ ms count. Means.same) (λ p there. in_none p there))
