-- The tasks of a worker are at home there, and their places rise.
use Rattle.std.proofs.Common.{◌≡◌, ◌==◌, ℕ, ◌+◌, ◌<◌, ◌≤◌, Bool, true, false, List, [], ◌∷◌, length, refl, if◌then◌else◌, arith, eqb-true}
use Rattle.fl_jobs.specs.declared.job.Job.{Job}
use Rattle.fl_jobs.specs.declared.job.Job.TheVariants.{Proc, By, Member, Arrive}
use Rattle.fl_system.specs.Jobs.{bench_for, procs_after}
use Rattle.fl_crew_model.specs.Crews.{home_of}
use Rattle.fl_worker.specs.declared.task.Task.{Task}
use Rattle.fl_dealing.specs.declared.item.Item.{Item}
use Rattle.fl_dealing.specs.declared.item.Item.TheVariants as items
use Rattle.fl_dealing.specs.Dealt.{owners_of, tasks_of, task_at, AreHome, Rise}

home_at : (n w procs : ℕ) (job : Job) → bench_for n procs job ≡ w → home_of n w job ≡ w
home_at n w procs Proc e = refl
home_at n w procs (By pid act) e = e
home_at n w procs (Member root c) e = e
home_at n w procs (Arrive d) e = e

home_next : (n w : ℕ) (b : Bool) (t : Task) (ts : List Task)
    → (b ≡ true → home_of n w t.job ≡ w) → AreHome n w ts
    → AreHome n w (if b then t ∷ ts else ts)
home_next n w true t ts h hs = (h refl, hs)
home_next n w false t ts h hs = hs

pub homes : (n procs w place : ℕ) (is : List Item)
    → AreHome n w (tasks_of w place (owners_of n procs is) is)
homes n procs w place [] = tt
homes n procs w place (items.Packet packet ∷ is) = homes n procs w (place + 1) is
homes n procs w place (items.Job job ∷ is) =
    home_next n w (bench_for n procs job == w) (task_at place job) _
    (λ e. home_at n w procs job (eqb-true (bench_for n procs job) w e))
    (homes n (procs_after n procs job) w (place + 1) is)

rise_low : (low high : ℕ) (ts : List Task) → Rise (low + 1) high ts → Rise low high ts
rise_low low high [] r = tt
rise_low low high (t ∷ ts) r = (omega (arith, r.0), r.1, r.2)

rise_next : (place high : ℕ) (b : Bool) (job : Job) (ts : List Task)
    → place < high → Rise (place + 1) high ts
    → Rise place high (if b then task_at place job ∷ ts else ts)
rise_next place high true job ts h r = (omega arith, h, r)
rise_next place high false job ts h r = rise_low place high ts r

pub rises : (w place high : ℕ) (os : List ℕ) (is : List Item) → place + length is ≤ high
    → Rise place high (tasks_of w place os is)
rises w place high [] is h = tt
rises w place high (o ∷ os) [] h = tt
rises w place high (o ∷ os) (items.Packet packet ∷ is) h =
    rise_low place high _ (rises w (place + 1) high os is (omega (arith, h)))
rises w place high (o ∷ os) (items.Job job ∷ is) h =
    rise_next place high (o == w) job _ (omega (arith, h))
    (rises w (place + 1) high os is (omega (arith, h)))
