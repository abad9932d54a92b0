-- One turn: from a worker's promise and the decision on its order to events of the node.
use Rattle.std.proofs.Common.{◌≡◌, ◌≢◌, ℕ, ◌≤◌, max, min, List, [], ◌∷◌, ◌++◌, length, Option, Some}
use Rattle.std.proofs.Common.{None, Result, Ok, Err, refl, sym, ap, ◌∙◌, subst, arith}
use Rattle.fl_labels.specs.declared.pid.Pid.{Pid}
use Rattle.fl_ops.specs.declared.op.Op.{Op}
use Rattle.fl_ops.specs.declared.op.Body.{Body}
use Rattle.fl_message.specs.declared.message.Data.{Data}
use Rattle.fl_jobs.specs.declared.job.Job.{Job}
use Rattle.fl_jobs.specs.declared.job.Job.TheVariants.{Proc, By, Member, Arrive}
use Rattle.fl_jobs.specs.declared.answer.Reply.{Reply}
use Rattle.fl_jobs.specs.declared.answer.Refusal.{Refusal}
use Rattle.fl_jobs.specs.declared.answer.Refusal.TheVariants as refusals
use Rattle.fl_jobs.specs.declared.answer.Outcome.{Outcome}
use Rattle.fl_bench.specs.Bench.{BenchState}
use Rattle.fl_bench.specs.Gifts.{finished}
use Rattle.fl_bench.specs.Jobs.{Does, checks, JobNeedsRoom}
use Rattle.fl_bench.specs.laws.Orders.{order_at, cancel_back, sending_at}
use Rattle.fl_store.specs.Kept.{with_ops}
use Rattle.fl_system.specs.declared.answer.Answer.TheVariants as answers
use Rattle.fl_system.specs.declared.answer.Fault.{Fault}
use Rattle.fl_system.specs.declared.answer.Fault.TheVariants as faults
use Rattle.fl_system.specs.declared.state.Batch.{Batch}
use Rattle.fl_system.specs.declared.state.Batch.TheVariants.{Ordered}
use Rattle.fl_system.specs.declared.state.Pending.TheVariants.{Nothing, Due}
use Rattle.fl_system.specs.declared.state.State.{State}
use Rattle.fl_system.specs.declared.state.State.TheVariants.{Running}
use Rattle.fl_system.specs.Numbered.{item_at, change_item, with_item}
use Rattle.fl_system.specs.State.{NodeState, first_ops}
use Rattle.fl_system.specs.Waiting.{IsRunning, IsTaken}
use Rattle.fl_system.specs.Naming.{IsLast, IsNextAfter}
use Rattle.fl_system.specs.Begins.{Begins, pending_with}
use Rattle.fl_system.specs.Jobs.{Jobs, Looks, Decides, bench_of, place_of, looking, worked}
use Rattle.fl_system.specs.Arrives.{Unasked, Arrives, delivered}
use Rattle.fl_system.specs.Saves.{Saves, stored}
use Rattle.fl_system.specs.Publishes.{Publishes, published_with}
use Rattle.fl_system.specs.WorldSteps.{IsArrival}
use Rattle.fl_system_laws.specs.laws.Numbered.{length-change, length-with, changed_at, others_stay}
use Rattle.fl_crew_model.specs.declared.record.Told.{Told}
use Rattle.fl_crew_model.specs.declared.record.Reason.{Reason}
use Rattle.fl_crew_model.specs.declared.record.Reason.TheVariants.{Busy, NamesSpent, Memory}
use Rattle.fl_crew_model.specs.declared.record.Ruling.TheVariants.{Made, Late, GivenUp}
use Rattle.fl_crew_model.specs.declared.record.Entry.{Entry}
use Rattle.fl_crew_model.specs.Reasons.{refusal_of}
use Rattle.fl_crew_model.specs.Served.{IsTold, Alone, Finished, LeftDue, Cancelled}
use Rattle.fl_crew_model.specs.Books.{Books, Holds, IsAt}
use Rattle.fl_crew_model.specs.Woven.{placed, IsHome, said, told_of, Goes}

-- what a turn of worker w leaves: its desk has seen no more than `next`, its bench is this one, and
-- those of others are
-- as before
pub record After (n : NodeState) (w next : ℕ) (bench : BenchState) (n' : NodeState) : Type 0 where
  pub number : n'.number ≡ n.number
  pub desks : length n'.views ≡ length n.views
  pub places : length n'.benches ≡ length n.benches
  pub v : ℕ
  pub has_seen : item_at n'.views w ≡ Some v
  pub no_more : v ≤ next
  pub stands : item_at n'.benches w ≡ Some bench
  pub others_seen : (i : ℕ) → i ≢ w → item_at n'.views i ≡ item_at n.views i
  pub others_bench : (i : ℕ) → i ≢ w → item_at n'.benches i ≡ item_at n.benches i

module _ {X : Type 0} where
  -- an item that was there is another one
  pub put_at : (xs : List X) (k : ℕ) (old x : X) → item_at xs k ≡ Some old
      → item_at (with_item xs k x) k ≡ Some x
  put_at xs k old x there = changed_at (λ _. x) xs k old there

  pub put_other : (xs : List X) (k i : ℕ) (x : X) → i ≢ k
      → item_at (with_item xs k x) i ≡ item_at xs i
  put_other xs k i x ne = others_stay (λ _. x) xs k i ne

-- where the worker of the entry stands, before its turn
pub record Before (n : NodeState) (w : ℕ) (e : Entry) (bench : BenchState) : Type 0 where
  pub v : ℕ
  pub has_seen : item_at n.views w ≡ Some v
  pub no_more : v ≤ e.seen
  pub enough : e.seen ≤ length n.published
  pub stands : item_at n.benches w ≡ Some bench
  pub home : IsHome n w e

-- the node runs
pub runs : (s : State) (due : Option Batch) → IsAt s due → IsRunning s
runs s None h = subst IsRunning (sym h) tt
runs s (Some batch) h = subst IsRunning (sym h) tt

-- what is known of the registry has no part in an arrival
arrival : {V : Op → Type 0} {b : BenchState} {d : Data} {result : Result Outcome Refusal}
    {left : BenchState} → Does V b (Arrive d) result left → Does Unasked b (Arrive d) result left
arrival (Does.passed h effect) = Does.passed h effect
arrival (Does.failed finds) = Does.failed finds
arrival (Does.no_room takes) = Does.no_room takes

record Came (b : BenchState) (d : Data) (told : Told) (left : BenchState) : Type 0 where
  pub reply : Result Reply Fault
  pub is_told : told ≡ told_of reply
  pub arrives : (n : NodeState) → IsRunning n.state
      → item_at n.benches (place_of n (Arrive d)) ≡ Some b → Arrives n d reply (delivered n d left)

came : (b : BenchState) (d : Data) (told : Told) (left : BenchState)
    (result : Result Outcome Refusal) → Does Unasked b (Arrive d) result left → IsTold result told
    → Came b d told left
came b d told left (Ok (Outcome.Reply reply)) does is =
    record {
      reply = Ok reply;
      is_told = is;
      arrives = λ n running stands. Arrives.arrives (record {
        running = running;
        bench = b;
        stands = stands;
        does = does;
      });
    }
came b d told left (Ok (Outcome.Out packet)) does is =
    absurd (let e = (sending_at does).asked in cc)
came b d told left (Ok (Outcome.Order body pid)) does is = absurd is
came b d told left (Err refusal) does is =
    record {
      reply = Err (faults.Refused refusal);
      is_told = is;
      arrives = λ n running stands. Arrives.refused (record {
        running = running;
        bench = b;
        stands = stands;
        does = does;
      });
    }

-- an order may want memory
passes : {V : Op → Type 0} {b : BenchState} {job : Job} {outcome : Outcome} {left : BenchState}
    → Does V b job (Ok outcome) left → checks V b job None
passes (Does.passed h effect) = h

no_room_for : {V : Op → Type 0} {b : BenchState} {job : Job} {body : Body} {pid : Pid}
    {left : BenchState} → Does V b job (Ok (Outcome.Order body pid)) left
    → Does V b job (Err refusals.Memory) b
no_room_for {V} {b} {job} does =
    let order = order_at does in
    Does.no_room (
      passes does,
      subst (λ (j : Job). JobNeedsRoom V b j) (sym order.asked)
          (order.process, order.lived, tt),
    )

-- ---- an entry that the bench answered alone

pub record Went (n : NodeState) (w : ℕ) (e : Entry) (next : ℕ) (bench : BenchState) (b : Books)
    : Type 0 where
  pub node : NodeState
  pub goes : Goes n w e node
  pub after : After n w next bench node
  pub holds : Holds node b

module _ (n : NodeState) (w : ℕ) (e : Entry) (bench : BenchState) (b : Books)
    (before : Before n w e bench) (holds : Holds n b) where
  running : IsRunning n.state
  running = runs n.state b.due holds.state

  pub looks : Looks (placed n w) w e.seen e.seen
  looks =
      let low = before.no_more in
      let high = before.enough in
      let v = before.v in
      record {
        running = running;
        seen = before.v;
        has_seen = before.has_seen;
        sees = (let is : e.seen ≡ max v (min e.seen (length n.published)) = omega arith in is);
      }

  -- a job that its bench decides so is decided so in the run
  pub decides : (result : Result Outcome Refusal) (left : BenchState)
      → Does (first_ops e.seen n.published) bench e.job.value result left
      → Decides (placed n w) e.seen e.job.value result left
  decides result left does = record {
    bench = bench;
    stands = ap (item_at n.benches) before.home ∙ before.stands;
    does = does;
  }

  abbrev pub work : BenchState → NodeState
  work left = worked (placed n w) w e.seen e.job.value left

  -- the bench at its place is another
  pub bench_left : (left : BenchState)
      → item_at (with_item n.benches (place_of (placed n w) e.job.value) left) w ≡ Some left
  bench_left left =
      ap (λ q. item_at (with_item n.benches q left) w) before.home
      ∙ put_at n.benches w bench left before.stands

  pub benches_left : (left : BenchState) (i : ℕ) → i ≢ w
      → item_at (with_item n.benches (place_of (placed n w) e.job.value) left) i
      ≡ item_at n.benches i
  benches_left left i ne =
      ap (λ q. item_at (with_item n.benches q left) i) before.home ∙ put_other n.benches w i left ne

  pub after_it : (left : BenchState) → After n w e.seen left (work left)
  after_it left =
      record {
        number = refl;
        desks = length-with n.views w e.seen;
        places = length-with n.benches (place_of (placed n w) e.job.value) left;
        v = e.seen;
        has_seen = put_at n.views w before.v e.seen before.has_seen;
        no_more = omega arith;
        stands = bench_left left;
        others_seen = λ i ne. put_other n.views w i e.seen ne;
        others_bench = λ i ne. benches_left left i ne;
      }

  pub holds_it : (left : BenchState) → Holds (work left) b
  holds_it left = record { saved = holds.saved; list = holds.list; state = holds.state }

  went_alone : (left : BenchState) (told : Told) → e.told ≡ told → e.ruling ≡ None
      → ¬ IsArrival e.job.value → Jobs (placed n w) w e.seen e.job.value (said told) (work left)
      → Went n w e e.seen left b
  went_alone left told is none other job =
      record {
        node = work left;
        goes =
            Goes.alone none other
            (subst (λ (t : Told). Jobs (placed n w) w e.seen e.job.value (said t) (work left))
            (sym is) job);
        after = after_it left;
        holds = holds_it left;
      }

  job_alone : (left : BenchState) (result : Result Outcome Refusal) → e.ruling ≡ None
      → ¬ IsArrival e.job.value → IsTold result e.told
      → Does (first_ops e.seen n.published) bench e.job.value result left → Went n w e e.seen left b
  job_alone left (Ok (Outcome.Reply reply)) none other is does =
      went_alone left (Told.Reply reply) is none other
      (Jobs.replied looks (decides (Ok (Outcome.Reply reply)) left does))
  job_alone left (Ok (Outcome.Out packet)) none other is does =
      went_alone left (Told.Out packet) is none other
      (Jobs.sent looks (decides (Ok (Outcome.Out packet)) left does))
  job_alone left (Ok (Outcome.Order body pid)) none other is does = absurd is
  job_alone left (Err refusal) none other is does =
      went_alone left (Told.Refused (faults.Refused refusal)) is none other
      (Jobs.refused looks (decides (Err refusal) left does))

  arrival_alone : (left : BenchState) (d : Data) (result : Result Outcome Refusal) → e.ruling ≡ None
      → e.job.value ≡ Arrive d → IsTold result e.told
      → Does (first_ops e.seen n.published) bench (Arrive d) result left → Went n w e e.seen left b
  arrival_alone left d result none job is does =
      let it = came bench d e.told left result (arrival does) is in
      let k = bench_of (length n.benches) d.receiver.serial in
      let home : k ≡ w = subst (λ (j : Job). place_of (placed n w) j ≡ w) job before.home in
      record {
        node = delivered n d left;
        goes =
            Goes.arrived d it.reply none job it.is_told
            (it.arrives n running (ap (item_at n.benches) home ∙ before.stands));
        after = record {
          number = refl;
          desks = refl;
          places = length-with n.benches k left;
          v = before.v;
          has_seen = before.has_seen;
          no_more = before.no_more;
          stands =
              ap (λ q. item_at (with_item n.benches q left) w) home
              ∙ put_at n.benches w bench left before.stands;
          others_seen = λ i ne. refl;
          others_bench =
              λ i ne. ap (λ q. item_at (with_item n.benches q left) i) home
              ∙ put_other n.benches w i left ne;
        };
        holds = record { saved = holds.saved; list = holds.list; state = holds.state };
      }

  by_job : (left : BenchState) (job : Job) → e.job.value ≡ job → e.ruling ≡ None
      → Alone (first_ops e.seen n.published) bench e.job.value e.told left
      → Went n w e e.seen left b
  by_job left Proc is none alone =
      job_alone left alone.result none (λ a. subst IsArrival is a) alone.is_told alone.does
  by_job left (Member root c) is none alone =
      job_alone left alone.result none (λ a. subst IsArrival is a) alone.is_told alone.does
  by_job left (By pid act) is none alone =
      job_alone left alone.result none (λ a. subst IsArrival is a) alone.is_told alone.does
  by_job left (Arrive d) is none alone =
      arrival_alone left d alone.result none is alone.is_told
      (subst (λ (j : Job). Does (first_ops e.seen n.published) bench j alone.result left) is
      alone.does)

  -- an entry that its bench answered alone may stand here
  pub alone_turn : (left : BenchState) → e.ruling ≡ None
      → Alone (first_ops e.seen n.published) bench e.job.value e.told left
      → Went n w e e.seen left b
  alone_turn left none alone = by_job left e.job.value refl none alone

-- ---- an order that the registrar decided

module _ (n : NodeState) (w : ℕ) (e : Entry) (bench : BenchState) (b : Books)
    (before : Before n w e bench) (holds : Holds n b) where
  -- the steps of an order that is published: begun, saved, published
  abbrev pub order_of : Op → Pid → Batch
  order_of op pid = Ordered op (Some pid) (Some w)

  abbrev pub begun_at : BenchState → Op → Pid → NodeState
  begun_at left op pid = pending_with (work n w e bench b before holds left) (order_of op pid)

  abbrev pub saved_at : BenchState → Op → Pid → NodeState
  saved_at left op pid = stored (begun_at left op pid) (order_of op pid)

  abbrev pub last_at : BenchState → Op → Pid → NodeState
  last_at left op pid = published_with (saved_at left op pid) (order_of op pid)

  idle_here : b.due ≡ None → n.state ≡ Running Nothing
  idle_here idle = subst (IsAt n.state) idle holds.state

  pub begins_it : (left : BenchState) (op : Op) (pid : Pid) → b.due ≡ None
      → IsNextAfter n.saved n.number op.name
      → Does (first_ops e.seen n.published) bench e.job.value (Ok (Outcome.Order op.body pid)) left
      → Jobs (placed n w) w e.seen e.job.value (Ok (answers.Begun op.name)) (begun_at left op pid)
  begins_it left op pid idle next does =
      Jobs.begun (looks n w e bench b before holds)
      (decides n w e bench b before holds (Ok (Outcome.Order op.body pid)) left does)
      (Begins.begins (idle_here idle) next)

  -- the maker's bench is the worker's
  pub maker_home : {body : Body} {pid : Pid} {left : BenchState}
      → Does (first_ops e.seen n.published) bench e.job.value (Ok (Outcome.Order body pid)) left
      → bench_of (length n.benches) pid.serial ≡ w
  maker_home does =
      subst (λ (j : Job). place_of (placed n w) j ≡ w) (order_at does).asked before.home

  -- once it is published, the maker has its capabilities, and its desk has seen the whole list
  after_last : (left : BenchState) (op : Op) (pid : Pid)
      → Does (first_ops e.seen n.published) bench e.job.value (Ok (Outcome.Order op.body pid)) left
      → After n w (length (n.published ++ op ∷ [])) (finished left pid op) (last_at left op pid)
  after_last left op pid does =
      let x = place_of (placed n w) e.job.value in
      let benches = with_item n.benches x left in
      let k = bench_of (length benches) pid.serial in
      let count : length benches ≡ length n.benches = length-with n.benches x left in
      let at : k ≡ w = ap (λ c. bench_of c pid.serial) count ∙ maker_home does in
      let give = λ (s : BenchState). finished s pid op in
      let longer = length (n.published ++ op ∷ []) in
      let looked = with_item n.views w e.seen in
      record {
        number = refl;
        desks = length-with looked w longer ∙ length-with n.views w e.seen;
        places = length-change give benches k ∙ count;
        v = longer;
        has_seen = put_at looked w e.seen longer (put_at n.views w before.v e.seen before.has_seen);
        no_more = omega arith;
        stands =
            ap (λ q. item_at (change_item give benches q) w) at
            ∙ changed_at give benches w left (bench_left n w e bench b before holds left);
        others_seen = λ i ne. put_other looked w i longer ne ∙ put_other n.views w i e.seen ne;
        others_bench =
            λ i ne. ap (λ q. item_at (change_item give benches q) i) at
            ∙ (others_stay give benches w i ne ∙ benches_left n w e bench b before holds left i ne);
      }

  after_saved : (left : BenchState) (op : Op) (pid : Pid)
      → After n w e.seen left (saved_at left op pid)
  after_saved left op pid =
      let a = after_it n w e bench b before holds left in
      record {
        number = refl;
        desks = a.desks;
        places = a.places;
        v = a.v;
        has_seen = a.has_seen;
        no_more = a.no_more;
        stands = a.stands;
        others_seen = a.others_seen;
        others_bench = a.others_bench;
      }

  -- the decision on an order that is published stands here
  pub made_turn : (op : Op) (left : BenchState) → e.ruling ≡ Some (Made op) → b.due ≡ None
      → IsNextAfter n.saved n.number op.name
      → Finished (first_ops e.seen n.published) bench e.job.value e.told op left
      → Went n w e (length (n.published ++ op ∷ [])) left (record {
        saved = with_ops b.saved (op ∷ []);
        list = b.list ++ op ∷ [];
        due = None;
      })
  made_turn op left is idle next served =
      let begun = begun_at served.left op served.pid in
      let saved = saved_at served.left op served.pid in
      let last = last_at served.left op served.pid in
      record {
        node = last;
        goes =
            Goes.made op begun saved is served.is_told
            (begins_it served.left op served.pid idle next served.does) (λ k. Saves.saved refl)
            (Publishes.published refl);
        after =
            subst (λ (x : BenchState). After n w (length (n.published ++ op ∷ [])) x last)
            (sym served.bench) (after_last served.left op served.pid served.does);
        holds = record {
          saved = ap (λ x. with_ops x (op ∷ [])) holds.saved;
          list = ap (λ l. l ++ op ∷ []) holds.list;
          state = refl;
        };
      }

  pub late_turn : (op : Op) (pid : Pid) (left : BenchState) → e.ruling ≡ Some (Late op pid)
      → b.due ≡ None → IsNextAfter n.saved n.number op.name
      → LeftDue (first_ops e.seen n.published) bench e.job.value e.told op pid left
      → Went n w e e.seen left (record {
        saved = with_ops b.saved (op ∷ []);
        list = b.list;
        due = Some (order_of op pid);
      })
  late_turn op pid left is idle next served =
      record {
        node = saved_at left op pid;
        goes =
            Goes.late op pid (begun_at left op pid) is served.is_told
            (begins_it left op pid idle next served.does) (λ k. Saves.saved refl)
            (Publishes.no_room refl);
        after = after_saved left op pid;
        holds = record {
          saved = ap (λ x. with_ops x (op ∷ [])) holds.saved;
          list = holds.list;
          state = refl;
        };
      }

  -- the desk has looked, and that is all
  after_looking : After n w e.seen bench (looking (placed n w) w e.seen)
  after_looking = record {
    number = refl;
    desks = length-with n.views w e.seen;
    places = refl;
    v = e.seen;
    has_seen = put_at n.views w before.v e.seen before.has_seen;
    no_more = omega arith;
    stands = before.stands;
    others_seen = λ i ne. put_other n.views w i e.seen ne;
    others_bench = λ i ne. refl;
  }

  -- it is given up, and its bench is as before
  given_up : (reason : Reason) (left : BenchState) (n' : NodeState)
      → e.ruling ≡ Some (GivenUp reason)
      → (served : Cancelled (first_ops e.seen n.published) bench e.job.value e.told reason left)
      → Jobs (placed n w) w e.seen e.job.value (Err (faults.Refused (refusal_of reason))) n'
      → After n w e.seen bench n' → Holds n' b → Went n w e e.seen left b
  given_up reason left n' is served job after h =
      let back : bench ≡ left = sym (served.bench ∙ cancel_back served.does) in
      record {
        node = n';
        goes = Goes.given_up reason is served.is_told job;
        after = subst (λ (x : BenchState). After n w e.seen x n') back after;
        holds = h;
      }

  pub memory_turn : (left : BenchState) → e.ruling ≡ Some (GivenUp Memory)
      → Cancelled (first_ops e.seen n.published) bench e.job.value e.told Memory left
      → Went n w e e.seen left b
  memory_turn left is served =
      given_up Memory left (work n w e bench b before holds bench) is served
      (Jobs.refused (looks n w e bench b before holds)
      (decides n w e bench b before holds (Err refusals.Memory) bench
      (no_room_for served.does)))
      (after_it n w e bench b before holds bench) (holds_it n w e bench b before holds bench)

  looking_holds : Holds (looking (placed n w) w e.seen) b
  looking_holds = record { saved = holds.saved; list = holds.list; state = holds.state }

  not_begun : (reason : Reason) (left : BenchState) → e.ruling ≡ Some (GivenUp reason)
      → (served : Cancelled (first_ops e.seen n.published) bench e.job.value e.told reason left)
      → Begins (work n w e bench b before holds served.left) served.body (Some served.pid) (Some w)
      (Err (faults.Refused (refusal_of reason))) (work n w e bench b before holds served.left)
      → Went n w e e.seen left b
  not_begun reason left is served begin =
      given_up reason left (looking (placed n w) w e.seen) is served
      (Jobs.not_begun (looks n w e bench b before holds)
      (decides n w e bench b before holds (Ok (Outcome.Order served.body served.pid))
      served.left served.does) begin)
      after_looking looking_holds

  pub busy_turn : (left : BenchState) (due : Batch) → e.ruling ≡ Some (GivenUp Busy)
      → b.due ≡ Some due → Cancelled (first_ops e.seen n.published) bench e.job.value e.told Busy
      left → Went n w e e.seen left b
  busy_turn left due is at served =
      let waits : n.state ≡ Running (Due due) = subst (IsAt n.state) at holds.state in
      not_begun Busy left is served
      (Begins.taken
      (subst (λ (s : State). IsTaken s (faults.Refused refusals.Busy)) (sym waits) refl))

  pub spent_turn : (left : BenchState) → e.ruling ≡ Some (GivenUp NamesSpent) → b.due ≡ None
      → IsLast n.saved n.number 4294967295
      → Cancelled (first_ops e.seen n.published) bench e.job.value e.told NamesSpent left
      → Went n w e e.seen left b
  spent_turn left is idle last served =
      not_begun NamesSpent left is served (Begins.spent (idle_here idle) last)
