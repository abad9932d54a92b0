-- How the places of a batch of an only worker stand to its entries.
use Rattle.std.proofs.Common.{◌≡◌, ◌==◌, ℕ, ◌+◌, List, [], ◌∷◌, ◌++◌, map, length, Option, Some}
use Rattle.std.proofs.Common.{None}
use Rattle.std.proofs.Common.{Result, Ok, Err, refl, sym, ap, ◌∙◌, subst, arith, if◌then◌else◌}
use Rattle.fl_labels.specs.declared.name.Name.{Name}
use Rattle.fl_message.specs.declared.message.Data.{Data}
use Rattle.fl_ops.specs.Registry.{Registry}
use Rattle.fl_ops.specs.declared.op.Op.{Op}
use Rattle.fl_jobs.specs.declared.job.Job.{Job}
use Rattle.fl_jobs.specs.declared.job.Job.TheVariants.{Proc, By, Member, Arrive}
use Rattle.fl_jobs.specs.declared.answer.Outcome.{Outcome}
use Rattle.fl_jobs.specs.declared.answer.Refusal.{Refusal}
use Rattle.fl_bench.specs.Bench.{BenchState}
use Rattle.fl_bench.specs.laws.Orders.{order_at}
use Rattle.fl_system.specs.State.{first_ops}
use Rattle.fl_system.specs.Jobs.{bench_for, procs_after}
use Rattle.fl_wire.specs.declared.packet.Packet.TheVariants as packets
use Rattle.fl_crew_model.specs.declared.record.Told.{Told}
use Rattle.fl_crew_model.specs.declared.record.Ruling.{Ruling}
use Rattle.fl_crew_model.specs.declared.record.Ruling.TheVariants.{Made, Late, GivenUp}
use Rattle.fl_crew_model.specs.declared.record.Entry as told_entry
use Rattle.fl_crew_model.specs.Served.{IsTold, Serves, Served}
use Rattle.fl_worker.specs.Tasks.{AreOf}
use Rattle.fl_worker.specs.declared.task.Task.{Task}
use Rattle.fl_dealing.specs.Dealt.{owners_of, procs_behind, tasks_of, task_at}
use Rattle.fl_dealing.specs.Dealt.{parcels_of}
use Rattle.fl_dealing.specs.Gathered.{select}
use Rattle.fl_dealing.specs.Items.{item_of, job_item}
use Rattle.fl_dealing.specs.Shown.{shown}
use Rattle.fl_dealing.specs.declared.entry.Entry.{Entry}
use Rattle.fl_dealing.specs.declared.item.Item.{Item}
use Rattle.fl_dealing.specs.declared.item.Item.TheVariants as items
use Rattle.fl_workers.specs.Batches.{items_for}
use Rattle.fl_one_worker_laws.specs.Single.{arrival_of, reply_in, replied}
use Rattle.fl_one_worker_laws.proofs.Single.{births_on}
use Rattle.fl_one_worker_laws.proofs.Turning.{ArePlain, job_in, told_in}

-- ---- messages are jobs too

pub messages_items : (messages : List Data)
    → map item_of (map packets.Data messages) ≡ map job_item (map arrival_of messages)
messages_items [] = refl
messages_items (d ∷ ds) = ap (λ l. items.Job (Arrive d) ∷ l) (messages_items ds)

pub all_items : (jobs : List Job) (messages : List Data)
    → items_for jobs (map packets.Data messages) ≡ map job_item (jobs ++ map arrival_of messages)
all_items [] messages = messages_items messages
all_items (job ∷ jobs) messages = ap (λ l. items.Job job ∷ l) (all_items jobs messages)

-- ---- who sees to them

bench_one : (procs : ℕ) (job : Job) → procs ≡ 0 → bench_for 1 procs job ≡ 1
bench_one procs Proc none = omega arith
bench_one procs (By pid act) none = omega arith
bench_one procs (Member root c) none = refl
bench_one procs (Arrive d) none = omega arith

pub births_past : (procs : ℕ) (is : List Item) → procs ≡ 0 → procs_behind 1 procs is ≡ 0
births_past procs [] none = none
births_past procs (items.Job job ∷ is) none =
    births_past (procs_after 1 procs job) is (births_on 1 procs job refl none)
births_past procs (items.Packet packet ∷ is) none = births_past procs is none

pub all_selected : (procs : ℕ) (jobs : List Job) (es : List Entry) → procs ≡ 0
    → length es ≡ length jobs → select 1 (owners_of 1 procs (map job_item jobs)) es ≡ es
all_selected procs [] [] none count = refl
all_selected procs [] (e ∷ es) none count = absurd (omega (arith, count))
all_selected procs (job ∷ jobs) [] none count = absurd (omega (arith, count))
all_selected procs (job ∷ jobs) (e ∷ es) none count =
    let later = owners_of 1 (procs_after 1 procs job) (map job_item jobs) in
    ap (λ o. if o == 1 then e ∷ select 1 later es else select 1 later es) (bench_one procs job none)
    ∙ ap (λ l. e ∷ l)
    (all_selected (procs_after 1 procs job) jobs es (births_on 1 procs job refl none)
    (omega (arith, count)))

abbrev job_of_task : Task → Job
job_of_task t = t.job

pub jobs_of_tasks : (procs place : ℕ) (jobs : List Job) → procs ≡ 0
    → map job_of_task (tasks_of 1 place (owners_of 1 procs (map job_item jobs)) (map job_item jobs))
    ≡ jobs
jobs_of_tasks procs place [] none = refl
jobs_of_tasks procs place (job ∷ jobs) none =
    let next = procs_after 1 procs job in
    let later = tasks_of 1 (place + 1) (owners_of 1 next (map job_item jobs)) (map job_item jobs) in
    ap (λ o. map job_of_task (if o == 1 then task_at place job ∷ later else later))
    (bench_one procs job none)
    ∙ ap (λ l. job ∷ l)
    (jobs_of_tasks next (place + 1) jobs (births_on 1 procs job refl none))

jobs_of_entries : (ts : List Task) (es : List told_entry.Entry) → AreOf ts es
    → map job_in es ≡ map job_of_task ts
jobs_of_entries [] [] h = refl
jobs_of_entries [] (e ∷ es) h = absurd h
jobs_of_entries (t ∷ ts) [] h = absurd h
jobs_of_entries (t ∷ ts) (e ∷ es) h =
    let here = h.0.job in
    let rest = jobs_of_entries ts es h.1 in
    cc

-- the entries of the only worker are of the jobs, in their order
pub jobs_done : (procs : ℕ) (jobs : List Job) (es : List told_entry.Entry) → procs ≡ 0
    → AreOf (tasks_of 1 0 (owners_of 1 procs (map job_item jobs)) (map job_item jobs)) es
    → map job_in es ≡ jobs
jobs_done procs jobs es none h = jobs_of_entries _ es h ∙ jobs_of_tasks procs 0 jobs none

pub replies_shown : (es : List told_entry.Entry)
    → map reply_in (map shown es) ≡ map replied (map told_in es)
replies_shown [] = refl
replies_shown (e ∷ es) = ap (λ l. replied e.told ∷ l) (replies_shown es)

pub no_parcels : (place : ℕ) (jobs : List Job) → parcels_of place (map job_item jobs) ≡ []
no_parcels place [] = refl
no_parcels place (job ∷ jobs) = no_parcels (place + 1) jobs

-- ---- what is asked of entries follows from the steps of their bench

message_alone : (V : Registry) (b : BenchState) (d : Data) (told : Told) (b' : BenchState)
    (ruling : Option Ruling) → Serves V b (Arrive d) told ruling b' → ruling ≡ None
message_alone V b d told b' None h = refl
message_alone V b d told b' (Some (Made op)) h = absurd (let q = (order_at h.does).asked in cc)
message_alone V b d told b' (Some (Late op pid)) h = absurd (let q = (order_at h.does).asked in cc)
message_alone V b d told b' (Some (GivenUp reason)) h =
    absurd (let q = (order_at h.does).asked in cc)

not_named : (result : Result Outcome Refusal) (told : Told) (name : Name) → IsTold result told
    → ¬ (told ≡ Told.Published name)
not_named (Ok (Outcome.Reply reply)) told name is named = let q = sym is ∙ named in cc
not_named (Ok (Outcome.Out packet)) told name is named = let q = sym is ∙ named in cc
not_named (Ok (Outcome.Order body pid)) told name is named = is
not_named (Err refusal) told name is named = let q = sym is ∙ named in cc

named_asks : (V : Registry) (b : BenchState) (job : Job) (told : Told) (b' : BenchState)
    (name : Name) (ruling : Option Ruling) → Serves V b job told ruling b'
    → told ≡ Told.Published name → ¬ (ruling ≡ None)
named_asks V b job told b' name None h named unasked =
    not_named h.result told name h.is_told named
named_asks V b job told b' name (Some ruling) h named unasked = cc

pub all_plain : (list : List Op) (b b' : BenchState) (es : List told_entry.Entry)
    → Served list b es b' → ArePlain es
all_plain list b b' [] h = tt
all_plain list b b' (e ∷ es) (mid, one, later) = (
  record {
    message = λ d is.
        message_alone (first_ops e.seen list) b d e.told mid e.ruling
        (subst (λ (j : Job). Serves (first_ops e.seen list) b j e.told e.ruling mid) is one.serves);
    named = λ name named.
        named_asks (first_ops e.seen list) b e.job.value e.told mid name e.ruling one.serves named;
  },
  all_plain list mid b' es later,
)
