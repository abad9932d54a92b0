-- A batch of a crew is a run of a world.
use Rattle.std.proofs.Common.{◌≡◌, ◌∙◌, ℕ, ◌+◌, ◌<◌, List, [], ◌∷◌, ◌++◌, map, length, Option, Some}
use Rattle.std.proofs.Common.{None, Result, inl, inr, refl, sym, ap, subst, arith}
use Rattle.std.proofs.lemmas.List.{append-nil, length-append, length-map}
use Rattle.std.proofs.lemmas.List.Elements.{Contains-append_cases}
use Rattle.fl_labels.specs.SetBy as set
use Rattle.fl_jobs.specs.declared.job.Job.{Job}
use Rattle.fl_jobs.specs.declared.job.Job.TheVariants.{Proc, By, Member, Arrive}
use Rattle.fl_store.specs.Kept.{Kept}
use Rattle.fl_system.specs.declared.answer.Fault.{Fault}
use Rattle.fl_system.specs.declared.event.Event.{Event}
use Rattle.fl_system.specs.declared.event.Event.TheVariants as events
use Rattle.fl_system.specs.declared.reply.Reply as world
use Rattle.fl_system.specs.declared.reply.Reply.TheVariants as replies
use Rattle.fl_system.specs.declared.sent.Sent.{Sent}
use Rattle.fl_system.specs.declared.state.Batch.{Batch}
use Rattle.fl_system.specs.declared.state.Batch.TheVariants.{Ordered, Received}
use Rattle.fl_system.specs.Publishes.{Publishes}
use Rattle.fl_system.specs.Runs.{Moment, Happens, end}
use Rattle.fl_system.specs.State.{NodeState}
use Rattle.fl_system.specs.World.{World, went}
use Rattle.fl_system.specs.WorldCalls.{PublishAt}
use Rattle.fl_system.specs.WorldSteps.{IsArrival, IsAt, Step}
use Rattle.fl_system_laws.specs.laws.Steps.{in_none}
use Rattle.fl_wire.specs.declared.packet.Packet.{Packet}
use Rattle.fl_crew_model.specs.declared.record.Deed.{Deed}
use Rattle.fl_crew_model.specs.declared.record.Deed.TheVariants.{Decided, Delivered}
use Rattle.fl_crew_model.specs.declared.record.Delivery.{Delivery}
use Rattle.fl_crew_model.specs.declared.record.Entry as told_entry
use Rattle.fl_crew_model.specs.declared.record.Told.{Told}
use Rattle.fl_crew_model.specs.Books as books
use Rattle.fl_crew_model.specs.Crews.{IsCrew, IsDueHome, IsWorker}
use Rattle.fl_crew_model.proofs.Turns.{runs}
use Rattle.fl_crew_threads.specs.Receiving.{AreDecisions, AreReceived}
use Rattle.fl_crew_threads.specs.declared.ruling.Placed.{Placed}
use Rattle.fl_dealing.specs.Dealt.{owners_of, parcels_of, tasks_of}
use Rattle.fl_dealing.specs.Gathered.{select}
use Rattle.fl_dealing.specs.Items.{item_of, job_item}
use Rattle.fl_dealing.specs.Shown.{shown}
use Rattle.fl_dealing.specs.declared.entry.Entry.{Entry}
use Rattle.fl_dealing.specs.declared.entry.Reply.{Reply}
use Rattle.fl_dealing.specs.declared.entry.Taken.{Taken}
use Rattle.fl_dealing.specs.declared.item.Item.{Item}
use Rattle.fl_worker.specs.Tasks.{AreOf}
use Rattle.fl_workers.specs.Batches.{Clears, IsTakenAll, items_for}
use Rattle.fl_workers.specs.Over.{CrewOver, bench_at, books_of}
use Rattle.fl_workers.specs.Plans.{packet_at, packet_in}
use Rattle.fl_crew_calls.specs.Told.{all_sent, replies_behind, reply_behind, sent_by}
use Rattle.fl_one_worker_laws.proofs.Places.{all_plain}
use Rattle.fl_one_worker_laws.proofs.Turning.{ArePlain}
use Rattle.fl_one_worker_calls.specs.Worlds.{AreAsked}
use Rattle.fl_crew_worlds.specs.Worlds.{AllDoneIn, AreAmong, Has, IsDone, IsDoneIn, IsNodeOf}
use Rattle.fl_crew_worlds.specs.Worlds.{Leads, RunsJobs, Stands}
use Rattle.fl_crew_worlds.proofs.Moments.{one_led}
use Rattle.fl_crew_worlds.proofs.Places.{AllJobs, AllPaired, AllShown, Shows, all_entries}
use Rattle.fl_crew_worlds.proofs.Places.{all_paired, all_shown, all_tasks, births_behind}
use Rattle.fl_crew_worlds.proofs.Running.{AllOf, AllPackets, AllTurned, IsFit, PacketsTurn}
use Rattle.fl_crew_worlds.proofs.Running.{all_lasts, all_turned, packet_done, worker_done}
use Rattle.fl_crew_worlds.proofs.Turning.{Asks, Brings, Comes, DoneBy, Lasts, Turned, brings_more}
use Rattle.fl_crew_worlds.proofs.Turning.{none_turned, then_turned}
use Rattle.fl_crew_worlds.proofs.Wide.{IsWide, publishes_wide}

-- ---- what was due is published first

module _ (size number : ℕ) (w : World) (n : NodeState) (k : Kept)
    (at : IsAt w number (record { node = n; kept = k })) (wide : IsWide size n) where
  publish_turned : {said : Result ℕ Fault} (n' : NodeState) (reply : world.Reply)
      → Publishes n said n'
      → PublishAt w number (record { node = n; kept = k }) reply (went w number n' k [] [])
      → Turned size number w n k n' (λ ms more. Unit {0})
  publish_turned n' reply publishes h =
      let after = went w number n' k [] [] in
      let on = publishes_wide wide publishes in
      record {
        moments =
            record {
              move = Happens (events.Publish number);
              reply = reply;
              after = after;
            } ∷ [];
        more = [];
        kept = k;
        led =
            one_led number w (events.Publish number) reply n' k [] [] (Step.publish at h);
        same = λ same. same ∙ sym on.1;
        on = on.0;
        done = tt;
      }

  cleared : (begun : NodeState) (due : Option Batch) → books.IsAt n.state due
      → Clears n due begun → Turned size number w n k begun (λ ms more. Unit {0})
  cleared begun None state clears =
      subst (λ (x : NodeState). Turned size number w n k x (λ ms more. Unit {0})) (sym clears)
      (none_turned size number w n k (λ ms more. Unit {0}) at wide tt)
  cleared begun (Some (Ordered op maker desk)) state publishes =
      publish_turned begun (replies.Published op.name) publishes
      (PublishAt.ordered state publishes)
  cleared begun (Some (Received ops)) state publishes =
      publish_turned begun (replies.Took (set.len ops)) publishes
      (PublishAt.received state publishes)

-- ---- where no packet of operations is among the items, the registrar ruled on orders alone

pub decisions_only : (P : Delivery → Type 0) (ds : List Deed) → AreDecisions ds → AllPackets P ds
decisions_only P [] h = tt
decisions_only P (Decided d ∷ ds) h = decisions_only P ds h
decisions_only P (Delivered p ∷ ds) h = absurd h

no_placed : (placed : List Placed) → map packet_at placed ≡ [] → placed ≡ []
no_placed [] h = refl
no_placed (p ∷ ps) h = absurd (cc)

no_rows : (told : List Taken) (rows : List Deed) → AreReceived [] told rows → rows ≡ []
no_rows [] rows h = h
no_rows (t ∷ ts) rows h = absurd h

pub packets_none : (P : Delivery → Type 0) (is : List Item) (owners : List ℕ) (es : List Entry)
    (deeds : List Deed) → parcels_of 0 is ≡ [] → IsTakenAll is owners es deeds
    → AllPackets P deeds
packets_none P is owners es deeds none taken =
    let placed : taken.placed ≡ [] =
    no_placed taken.placed (taken.packets ∙ ap (map packet_in) none) in
    let rows : taken.rows ≡ [] =
    no_rows taken.told taken.rows
    (subst (λ (ps : List Placed). AreReceived ps taken.told taken.rows) placed
    taken.received) in
    subst (AllPackets P) (sym (taken.deeds_are ∙ ap (λ l. l ++ taken.later) rows))
    (decisions_only P taken.later taken.decisions)

-- ---- the run of a batch

-- the moments have what is said of each entry, at its place, and of the packet that comes first in
-- the record
pub record Ran {K : Type 0} (w : World) (number : ℕ) (new : CrewOver K)
    (from : ℕ → Packet → Type 0) (T : Delivery → List Moment → List Sent → Type 0)
    (is : List Item) (es : List Entry) (deeds : List Deed) : Type 0 where
  pub moments : List Moment
  pub more : List Sent
  pub leads : Leads w number new moments more
  pub paired : AllPaired
      (Shows (λ (e : told_entry.Entry). DoneBy from number e.job.value e.told moments more)) is es
  pub packet : (p : Delivery) (rest : List Deed) → deeds ≡ Delivered p ∷ rest
      → T p moments more

fit_all : (from : ℕ → Packet → Type 0) (es : List told_entry.Entry) → ArePlain es
    → AllOf (λ (e : told_entry.Entry). Comes from e.job.value) es → AllOf (IsFit from) es
fit_all from [] plain comes = tt
fit_all from (e ∷ es) plain comes =
    ((plain.0, comes.0), fit_all from es plain.1 comes.1)

module _ {K : Type 0} (w : World) (number : ℕ) (old new : CrewOver K) (jobs : List Job)
    (packets : List Packet) (es : List Entry) (stands : Stands w number old)
    (done : IsDone old new jobs packets es) where
  abbrev all_items : List Item
  all_items = items_for jobs packets

  abbrev all_owners : List ℕ
  all_owners = owners_of old.size old.procs all_items

  abbrev start : NodeState
  start = stands.place.node

  start_wide : IsWide old.size start
  start_wide =
      let node = stands.is_node in
      record {
        desks = node.crew.desks;
        places = node.crew.places;
        births = node.births;
        running = runs start.state old.due node.crew.holds.state;
      }

  -- what a run of the crew ends at is its node
  node_at_end : (last : NodeState) (seen : ℕ → ℕ)
      → IsCrew old.node.node.number old.size last (books_of new) (bench_at new.benches) seen
      → last.boot ≡ start.boot → last.procs < old.size → IsNodeOf new last
  node_at_end last seen crew boot births =
      let node = stands.is_node in
      let still = done.still in
      record {
        crew = record {
          numbered = crew.numbered ∙ sym still.number;
          desks = crew.desks ∙ sym still.size;
          places = crew.places ∙ sym still.size;
          holds = crew.holds;
          due = subst (λ (k : ℕ). IsDueHome k new.due) (sym still.size) crew.due;
          seen = λ u worker.
              let sees = crew.seen u (subst (λ (k : ℕ). IsWorker k u) still.size worker) in
              (sees.0, sees.1, sees.2, sees.2);
          stands = λ u worker.
              crew.stands u (subst (λ (k : ℕ). IsWorker k u) still.size worker);
        };
        boot = boot ∙ (node.boot ∙ sym still.boot);
        births = subst (λ (k : ℕ). last.procs < k) (sym still.size) births;
        births_here =
            subst (λ (k : ℕ). new.procs < k) (sym still.size)
            (subst (λ (k : ℕ). k < old.size) (sym done.procs)
            (births_behind old.size old.procs all_items node.births_here));
      }

  none_lost : (u : ℕ) → IsWorker old.size u
      → done.served.good u ++ done.served.lost u ≡ done.served.good u
  none_lost u worker =
      ap (λ l. done.served.good u ++ l) (done.served.whole done.runs u worker).0
      ∙ append-nil (done.served.good u)

  of_tasks : (u : ℕ) → IsWorker old.size u
      → AreOf (tasks_of u 0 all_owners all_items) (done.served.good u)
  of_tasks u worker =
      subst (λ (l : List told_entry.Entry). AreOf (tasks_of u 0 all_owners all_items) l)
      (none_lost u worker) (done.served.tasks u worker)

  shown_all : (u : ℕ) → IsWorker old.size u
      → select u all_owners es ≡ map shown (done.served.good u)
  shown_all u worker =
      done.served.are_shown u worker ∙ ap (map shown) (none_lost u worker)

  as_many : length es ≡ length all_items
  as_many =
      let sum = length-append (map job_item jobs) (map item_of packets) in
      let first = length-map jobs job_item in
      let other = length-map packets item_of in
      let count = done.count in
      omega (arith, sum, first, other, count)

  module _ (from : ℕ → Packet → Type 0) (brings : Brings from w.packets)
      (comes : AllJobs (Comes from) all_items) where
    fits : (u : ℕ) → IsWorker old.size u → AllOf (IsFit from) (done.served.good u)
    fits u worker =
        fit_all from (done.served.good u)
        (all_plain (books_of new).list _ _ (done.served.good u)
        (done.served.front.promises u worker).served)
        (all_entries (Comes from) (tasks_of u 0 all_owners all_items) (done.served.good u)
        (of_tasks u worker) (all_tasks (Comes from) u 0 all_owners all_items comes))

    module _ (P : Delivery → Type 0) (T : Delivery → List Moment → List Sent → Type 0)
        (lasts : (p : Delivery) → Lasts (T p))
        (deliver : PacketsTurn old.size number from P T)
        (carried : AllPackets P done.served.deeds) where
      pub ran : Ran w number new from T all_items es done.served.deeds
      ran =
          let node = stands.is_node in
          let it = done.served.woven done.runs start (λ u. length old.list) node.crew in
          let weave = it.weave in
          let first =
          cleared old.size number w start stands.place.kept stands.there start_wide it.begun
          old.due node.crew.holds.state it.clears in
          let later =
          all_turned number from T lasts old.size P deliver weave.turns done.served.deeds
          (end w first.moments) it.begun first.kept weave.end first.led.there first.on.wide
          (subst (Brings from) (sym first.led.packets)
          (brings_more from w.packets first.more brings)) weave.run
          (λ u worker. subst (AllOf (IsFit from)) (sym (weave.owns u worker)) (fits u worker))
          carried in
          let whole =
          then_turned (λ ms more. Unit {0})
          (λ ms more. AllTurned number from T weave.turns ms more)
          (λ ms l more o part sents h. tt) (all_lasts number from T lasts weave.turns) first
          later in
          record {
            moments = whole.moments;
            more = whole.more;
            leads = record {
              is_run = whole.led.is_run;
              stands = record {
                place = record { node = weave.end; kept = whole.kept };
                there = whole.led.there;
                is_node =
                    node_at_end weave.end done.served.last weave.crew whole.on.boot
                    whole.on.wide.births;
                kept = whole.same stands.kept;
              };
              elsewhere = whole.led.elsewhere;
              packets = whole.led.packets;
            };
            paired =
                let D = λ (e : told_entry.Entry).
                DoneBy from number e.job.value e.told whole.moments whole.more in
                all_paired (Shows D) old.size old.procs 0 all_items es node.births_here as_many
                (λ u worker. subst
                (λ (l : List Entry). AllShown (Shows D) (tasks_of u 0 all_owners all_items) l)
                (sym (shown_all u worker))
                (all_shown D (tasks_of u 0 all_owners all_items) (done.served.good u)
                (of_tasks u worker)
                (subst (AllOf D) (weave.owns u worker)
                (worker_done number from T weave.turns whole.moments whole.more u
                whole.done.1))));
            packet = λ p rest is.
                packet_done number from T weave.turns done.served.deeds rest it.begun weave.end p
                whole.moments whole.more weave.run is whole.done.1;
          }

-- ---- what is said of the jobs

job_asks : (from : ℕ → Packet → Type 0) (number : ℕ) (job : Job) (what : Event)
    → ¬ IsArrival job → Asks from number job what
    → (desk : ℕ) × (upto : ℕ) × (what ≡ events.Job number desk upto job)
job_asks from number Proc what other h = h
job_asks from number (By pid act) what other h = h
job_asks from number (Member root c) what other h = h
job_asks from number (Arrive d) what other h = absurd (other tt)

module _ (from : ℕ → Packet → Type 0) (number : ℕ) (ms : List Moment) (more : List Sent) where
  abbrev Holds : told_entry.Entry → Type 0
  Holds e = DoneBy from number e.job.value e.told ms more

  -- the entry shows what is told of its job
  pub shown_of : (job : Job) (e : Entry) → Shows Holds job e
      → (told : Told) × (e.reply ≡ Reply.Told told) × DoneBy from number job told ms more
  shown_of job e h = (
    h.entry.told,
    ap (λ (x : Entry). x.reply) h.is_shown,
    subst (λ (j : Job). DoneBy from number j h.entry.told ms more) h.of_job h.holds,
  )

  pub sends_of : (job : Job) (e : Entry) → Shows Holds job e → AreAmong (sent_by e.reply) more
  sends_of job e h =
      let it = shown_of job e h in
      subst (λ (r : Reply). AreAmong (sent_by r) more) (sym it.1) it.2.sends

  one_done : (job : Job) (e : Entry) (count : ℕ) → ¬ IsArrival job → Shows Holds job e
      → IsDoneIn number ms job (reply_behind count e.reply)
  one_done job e count other h =
      let it = shown_of job e h in
      let asks = job_asks from number job it.2.what other it.2.asks in
      subst (λ (r : Reply). IsDoneIn number ms job (reply_behind count r)) (sym it.1)
      (record {
        desk = asks.0;
        upto = asks.1;
        first = it.2.first;
        there = subst (λ (what : Event). Has ms what it.2.first) asks.2 it.2.there;
        means = it.2.means count;
      })

  all_done : (jobs : List Job) (es : List Entry) (sent : List Packet) → AreAsked jobs
      → AllPaired (Shows Holds) (items_for jobs []) es
      → AllDoneIn number ms jobs (replies_behind sent es)
  all_done [] [] sent asked h = tt
  all_done [] (e ∷ es) sent asked h = absurd h
  all_done (job ∷ jobs) [] sent asked h = absurd h
  all_done (job ∷ jobs) (e ∷ es) sent asked h = (
    one_done job e (length sent) asked.0 h.0,
    all_done jobs es (sent ++ sent_by e.reply) asked.1 h.1,
  )

  all_among : (jobs : List Job) (es : List Entry)
      → AllPaired (Shows Holds) (items_for jobs []) es → AreAmong (all_sent es) more
  all_among [] [] h = λ p there. in_none p there
  all_among [] (e ∷ es) h = absurd h
  all_among (job ∷ jobs) [] h = absurd h
  all_among (job ∷ jobs) (e ∷ es) h = λ p there.
      elim (Contains-append_cases (sent_by e.reply) (all_sent es) p there) [
        | inl here ↦ sends_of job e h.0 p here
        | inr later ↦ all_among jobs es h.1 p later
      ]

-- ---- a batch of jobs

-- no packet comes from anywhere
abbrev no_source : ℕ → Packet → Type 0
no_source index p = ⊥

jobs_come : (jobs : List Job) → AreAsked jobs → AllJobs (Comes no_source) (items_for jobs [])
jobs_come [] asked = tt
jobs_come (job ∷ jobs) asked =
    ((λ d is. absurd (asked.0 (subst IsArrival (sym is) tt))), jobs_come jobs asked.1)

jobs_parcels : (place : ℕ) (jobs : List Job) → parcels_of place (items_for jobs []) ≡ []
jobs_parcels place [] = refl
jobs_parcels place (job ∷ jobs) = jobs_parcels (place + 1) jobs

pub jobs_run : {K : Type 0} (w : World) (number : ℕ) (old new : CrewOver K) (jobs : List Job)
    (es : List Entry) → Stands w number old → AreAsked jobs → IsDone old new jobs [] es
    → RunsJobs w number new jobs es
jobs_run w number old new jobs es stands asked done =
    let it =
    ran w number old new jobs [] es stands done no_source (λ index p h. absurd h)
    (jobs_come jobs asked) (λ p. ⊥) (λ p ms more. ⊥) (λ p ms later more others part sents h. h)
    (λ v n k n' p at wide brings h goes. absurd h)
    (packets_none (λ p. ⊥) (items_for jobs [])
    (owners_of old.size old.procs (items_for jobs [])) es done.served.deeds
    (jobs_parcels 0 jobs) done.served.taken) in
    record {
      moments = it.moments;
      more = it.more;
      leads = it.leads;
      sends = all_among no_source number it.moments it.more jobs es it.paired;
      done = λ sent. all_done no_source number it.moments it.more jobs es sent asked it.paired;
    }
