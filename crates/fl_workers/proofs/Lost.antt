-- The jobs of a batch that were not done.
use Rattle.std.proofs.Common.{◌≡◌, ◌≢◌, ◌⊎◌, ◌∙◌, inl, inr, ℕ, zero, suc, ◌<◌, ◌+◌, Bool, true, false}
use Rattle.std.proofs.Common.{List, [], ◌∷◌, ◌++◌, All, slice_get, Option, None, Some}
use Rattle.std.proofs.Common.{eqb, if◌then◌else◌, refl, sym, ap, subst, arith}
use Rattle.std.proofs.lemmas.Bool.Decides.{eqb_tells}
use Rattle.fl_jobs.specs.declared.job.Job.{Job}
use Rattle.fl_jobs.specs.declared.job.Job.TheVariants.{Proc, By, Member, Arrive}
use Rattle.fl_ops.specs.declared.op.Body.{Body}
use Rattle.fl_system.specs.Jobs.{bench_for, procs_after}
use Rattle.fl_crew_model.specs.declared.record.Decision.{Decision}
use Rattle.fl_crew_model.specs.declared.record.Deed.{Deed}
use Rattle.fl_crew_model.specs.declared.record.Deed.TheVariants.{Decided, Delivered}
use Rattle.fl_crew_model.specs.declared.record.Entry.{Entry}
use Rattle.fl_crew_model.specs.declared.record.Ruling.{Ruling}
use Rattle.fl_crew_model.specs.declared.record.Ruling.TheVariants.{Made, Late, GivenUp}
use Rattle.fl_crew_model.specs.Answered.{AreOwn, HasDecision, IsOrderFor, IsOwn}
use Rattle.fl_crew_model.specs.Crews.{IsWorker}
use Rattle.fl_dealing.specs.Dealt.{owners_of, tasks_of, task_at}
use Rattle.fl_dealing.specs.declared.item.Item.{Item}
use Rattle.fl_dealing.specs.declared.item.Item.TheVariants as items
use Rattle.fl_manning.specs.Orders.{job_for}
use Rattle.fl_registrar.specs.Apart.{AreApart, IsDone}
use Rattle.fl_registrar.specs.declared.awaited.Awaited.{Awaited}
use Rattle.fl_worker.specs.declared.task.Task.{Task}
use Rattle.fl_worker.specs.Tasks.{AreOf}
use Rattle.fl_workers.proofs.Ends.{past_low}

-- ---- a worker has a task where it has a job

record HasTask (ts : List Task) (place : ℕ) : Type 0 where
  pub index : ℕ
  pub task : Task
  pub there : slice_get ts index ≡ Some task
  pub at : task.place ≡ place

behind : (t : Task) (ts : List Task) (place : ℕ) → HasTask ts place → HasTask (t ∷ ts) place
behind t ts place h = record { index = suc h.index; task = h.task; there = h.there; at = h.at }

moved : (ts : List Task) (place other : ℕ) → place ≡ other → HasTask ts place → HasTask ts other
moved ts place other same h = subst (HasTask ts) same h

either : (test : Bool) (t : Task) (ts : List Task) (place : ℕ) → HasTask ts place
    → HasTask (if test then t ∷ ts else ts) place
either true t ts place h = behind t ts place h
either false t ts place h = h

first_task : (test : Bool) (t : Task) (ts : List Task) (job : Option Job) (is : Job)
    → (if test then job else None) ≡ Some is → HasTask (if test then t ∷ ts else ts) t.place
first_task true t ts job is e = record { index = 0; task = t; there = refl; at = refl }
first_task false t ts job is e = absurd (cc)

none_there : (test : Bool) (is : Job) → (if test then None else None) ≡ Some is → ⊥
none_there true is e = absurd (cc)
none_there false is e = absurd (cc)

has_task : (w from place : ℕ) (os : List ℕ) (is : List Item) (job : Job)
    → job_for os is w place ≡ Some job → HasTask (tasks_of w from os is) (from + place)
has_task w from place [] is job e = absurd (cc)
has_task w from place (o ∷ os) [] job e = absurd (cc)
has_task w from zero (o ∷ os) (items.Packet packet ∷ is) job e =
    absurd (none_there (eqb o w) job e)
has_task w from zero (o ∷ os) (items.Job its ∷ is) job e =
    moved _ from (from + 0) (omega arith)
    (first_task (eqb o w) (task_at from its) (tasks_of w (from + 1) os is) (Some its) job e)
has_task w from (suc place) (o ∷ os) (items.Packet packet ∷ is) job e =
    moved _ (from + 1 + place) (from + suc place) (omega arith)
    (has_task w (from + 1) place os is job e)
has_task w from (suc place) (o ∷ os) (items.Job its ∷ is) job e =
    moved _ (from + 1 + place) (from + suc place) (omega arith)
    (either (eqb o w) (task_at from its) (tasks_of w (from + 1) os is) (from + 1 + place)
    (has_task w (from + 1) place os is job e))

-- ---- and so an entry

pub record HasEntry (es : List Entry) (place : ℕ) : Type 0 where
  pub index : ℕ
  pub entry : Entry
  pub there : slice_get es index ≡ Some entry
  pub at : entry.place ≡ place

entry_of : (ts : List Task) (es : List Entry) (i place : ℕ) (t : Task) → AreOf ts es
    → slice_get ts i ≡ Some t → t.place ≡ place → HasEntry es place
entry_of [] es i place t of e at = absurd (cc)
entry_of (x ∷ ts) [] i place t of e at = absurd of
entry_of (x ∷ ts) (f ∷ es) zero place t of e at =
    let same : x ≡ t = cc in
    record {
      index = 0;
      entry = f;
      there = refl;
      at = of.0.place ∙ (ap (λ (u : Task). u.place) same ∙ at);
    }
entry_of (x ∷ ts) (f ∷ es) (suc i) place t of e at =
    let h = entry_of ts es i place t of.1 e at in
    record { index = suc h.index; entry = h.entry; there = h.there; at = h.at }

-- ---- of the good ones, or of the others

pub split : (good lost : List Entry) (place : ℕ) → HasEntry (good ++ lost) place
    → HasEntry good place ⊎ HasEntry lost place
split good lost place h = by good lost h.index h.entry h.there h.at
  where
    by : (good lost : List Entry) (i : ℕ) (e : Entry) → slice_get (good ++ lost) i ≡ Some e
        → e.place ≡ place → HasEntry good place ⊎ HasEntry lost place
    by [] lost i e there at = inr (record { index = i; entry = e; there = there; at = at })
    by (g ∷ good) lost zero e there at =
        let same : g ≡ e = cc in
        inl (record {
          index = 0;
          entry = g;
          there = refl;
          at = ap (λ (f : Entry). f.place) same ∙ at;
        })
    by (g ∷ good) lost (suc i) e there at = more (by good lost i e there at)
      where
        more : HasEntry good place ⊎ HasEntry lost place
            → HasEntry (g ∷ good) place ⊎ HasEntry lost place
        more (inl h) =
            inl (record { index = suc h.index; entry = h.entry; there = h.there; at = h.at })
        more (inr h) = inr h

-- ---- what is so of each
pub all_at : (P : Entry → Type 0) (es : List Entry) (i : ℕ) (e : Entry) → All P es
    → slice_get es i ≡ Some e → P e
all_at P [] i e all there = absurd (cc)
all_at P (f ∷ es) zero e all there =
    let same : f ≡ e = cc in subst P same (all 0 f (omega arith))
all_at P (f ∷ es) (suc i) e all there =
    all_at P es i e (λ k d below. all (suc k) d (omega (arith, below))) there

pub none_at : (es : List Entry) (i : ℕ) (e : Entry) → es ≡ [] → slice_get es i ≡ Some e → ⊥
none_at [] i e none there = absurd (cc)
none_at (f ∷ es) i e none there = absurd (cc)

-- ---- decisions of the record

pub own_in : (jobs : ℕ → ℕ → Option Job) (ds : List Deed) (d : Decision) → AreOwn jobs ds
    → HasDecision ds d → IsOwn (jobs d.worker d.place) d.ruling
own_in jobs [] d all h = absurd h
own_in jobs (Decided x ∷ ds) d all (inl same) =
    subst (λ (q : Decision). IsOwn (jobs q.worker q.place) q.ruling) same all.0
own_in jobs (Decided x ∷ ds) d all (inr h) = own_in jobs ds d all.1 h
own_in jobs (Delivered p ∷ ds) d all h = own_in jobs ds d all h

pub done_in : (orders : List (Option Awaited)) (ds : List Deed) (d : Decision)
    → AreApart orders ds → HasDecision ds d → IsDone orders d.place
done_in orders [] d apart h = absurd h
done_in orders (Decided x ∷ ds) d apart (inl same) =
    subst (λ (q : Decision). IsDone orders q.place) same apart.0
done_in orders (Decided x ∷ ds) d apart (inr h) = done_in orders ds d apart.2 h
done_in orders (Delivered p ∷ ds) d apart h = done_in orders ds d apart h

-- ---- where an order stands

pub order_job : (job : Option Job) (body : Body) → IsOrderFor job body → (is : Job) × (job ≡ Some is)
order_job None body h = absurd h
order_job (Some is) body h = (is, refl)

own_body : (job : Option Job) (ruling : Ruling) → IsOwn job ruling
    → (body : Body) × IsOrderFor job body
own_body job (Made op) own = (op.body, own)
own_body job (Late op pid) own = (op.body, own)
own_body job (GivenUp reason) own = own

-- the owner of a job is a worker
owner_worker : (n procs : ℕ) (job : Job) → procs < n → IsWorker n (bench_for n procs job)
owner_worker n procs Proc below = record { low = omega arith; high = omega arith }
owner_worker n procs (By pid act) below = record { low = omega arith; high = omega arith }
owner_worker n procs (Member root c) below = record { low = omega arith; high = omega arith }
owner_worker n procs (Arrive d) below = record { low = omega arith; high = omega arith }

chosen : (o w : ℕ) (job : Option Job) (is : Job) → (if eqb o w then job else None) ≡ Some is
    → o ≡ w
chosen o w job is e = by (eqb_tells o w)
  where
    by : ((eqb o w ≡ true) × (o ≡ w)) ⊎ ((eqb o w ≡ false) × (o ≢ w)) → o ≡ w
    by (inl same) = same.1
    by (inr other) =
        let no : None ≡ Some is =
        sym (ap (λ t. if t then job else None) other.0) ∙ e in absurd (cc)

pub job_worker : (n procs w place : ℕ) (is : List Item) (job : Job) → procs < n
    → job_for (owners_of n procs is) is w place ≡ Some job → IsWorker n w
job_worker n procs w place [] job below e = absurd (cc)
job_worker n procs w zero (items.Packet packet ∷ is) job below e =
    absurd (none_there (eqb 0 w) job e)
job_worker n procs w zero (items.Job its ∷ is) job below e =
    subst (IsWorker n) (chosen (bench_for n procs its) w (Some its) job e)
    (owner_worker n procs its below)
job_worker n procs w (suc place) (items.Packet packet ∷ is) job below e =
    job_worker n procs w place is job below e
job_worker n procs w (suc place) (items.Job its ∷ is) job below e =
    job_worker n (procs_after n procs its) w place is job (past_low n procs its below) e

module _ (owners : List ℕ) (is : List Item) (w place : ℕ) (good lost : List Entry)
    (of : AreOf (tasks_of w 0 owners is) (good ++ lost)) where
  pub ordered_entry : (body : Body) → IsOrderFor (job_for owners is w place) body
      → HasEntry (good ++ lost) place
  ordered_entry body order =
      let job = order_job (job_for owners is w place) body order in
      let task = has_task w 0 place owners is job.0 job.1 in
      let same : 0 + place ≡ place = omega arith in
      entry_of (tasks_of w 0 owners is) (good ++ lost) task.index place task.task of task.there
      (task.at ∙ same)

  pub ruled_entry : (ruling : Ruling) → IsOwn (job_for owners is w place) ruling
      → HasEntry (good ++ lost) place
  ruled_entry ruling own =
      let body = own_body (job_for owners is w place) ruling own in
      ordered_entry body.0 body.1
