-- The workers of a batch that has begun.
use Rattle.std.proofs.Common.{◌≡◌, ◌∙◌, ℕ, zero, suc, ◌<◌, ◌+◌, List, [], ◌∷◌, length, get_or, sym, ap, subst, arith}
use Rattle.fl_crew_model.specs.Crews.{IsWorker}
use Rattle.fl_dealing.specs.Dealt as dealt
use Rattle.fl_dealing.specs.Dealt.{owners_of, tasks_of}
use Rattle.fl_dealing.specs.declared.item.Item.{Item}
use Rattle.fl_settling.specs.Batches as batches
use Rattle.fl_settling.specs.Batches.{AreBack}
use Rattle.fl_settling.specs.Each.{Each}
use Rattle.fl_settling.specs.Numbers.{AreNumbered, part_of, tasks_by}
use Rattle.fl_settling.proofs.Choosing.{item_get, some_item}
use Rattle.fl_system.specs.declared.state.Batch.{Batch}
use Rattle.fl_worker.specs.declared.task.Task.{Task}
use Rattle.fl_worker.specs.declared.worker.Worker.{Worker}
use Rattle.fl_worker.specs.Done.{IsDone}
use Rattle.std.specs.declared.option.Option.{Option}
use Rattle.fl_manning.specs.Begun.{AreBegun, IsAtDesk}
use Rattle.fl_workers.specs.Plans.{IsPlan}
use Rattle.fl_workers.specs.declared.planning.Plan.{Plan}
use Rattle.fl_workers.proofs.Lists.{numbers_kept}

home_all : (n w : ℕ) (ts : List Task) → dealt.AreHome n w ts → batches.AreHome n w ts
home_all n w [] h k d below = absurd (omega arith)
home_all n w (t ∷ ts) h zero d below = h.0
home_all n w (t ∷ ts) h (suc k) d below = home_all n w ts h.1 k d (omega arith)

module _ (procs : ℕ) (is : List Item) (plan : Plan) (due : Option Batch) (old new : List Worker)
    (planned : IsPlan (length old) procs is plan)
    (begun : AreBegun plan.queues.items due old new) where
  -- its tasks are those of its queue
  tasks_are : (k : ℕ) (d : Worker) → k < length old
      → (get_or new k d).tasks.items ≡ tasks_of (suc k) 0 (owners_of (length old) procs is) is
  tasks_are k d below =
      let within : k < length plan.queues.items = omega (arith, planned.count, below) in
      let q = some_item plan.queues.items k within in
      begun.tasks k d q below ∙ planned.tasks k q below

  pub tasks_of_each : (k : ℕ) (d : Worker) → k < length old
      → (get_or new k d).tasks.items ≡ tasks_of (k + 1) 0 (owners_of (length old) procs is) is
  tasks_of_each k d below =
      let one : suc k ≡ k + 1 = omega arith in
      tasks_are k d below
      ∙ ap (λ (w : ℕ). tasks_of w 0 (owners_of (length old) procs is) is) one

  home : (k : ℕ) (d : Worker) → k < length old
      → batches.AreHome (length old) (suc k) (get_or new k d).tasks.items
  home k d below =
      let within : k < length plan.queues.items = omega (arith, planned.count, below) in
      let q = some_item plan.queues.items k within in
      home_all (length old) (suc k) (get_or new k d).tasks.items
      (subst (λ (ts : List Task). dealt.AreHome (length old) (suc k) ts)
      (sym (begun.tasks k d q below)) (planned.homes k q below))

  pub are_back : AreNumbered old → (now : List Worker) → Each IsDone new now → AreBack new now
  are_back numbered now done = record {
    numbered = numbers_kept IsAtDesk old new begun.at (λ v w r. r.number) numbered;
    home = λ k d below.
        let count = begun.at.count in
        let within : k < length old = omega (arith, count, below) in
        let one : suc k ≡ k + 1 = omega arith in
        subst (λ (n : ℕ). batches.AreHome n (k + 1) (get_or new k d).tasks.items) (sym count)
        (subst (λ (w : ℕ). batches.AreHome (length old) w (get_or new k d).tasks.items) one
        (home k d within));
    done = done;
  }

  pub tasks_at : (w : ℕ) → IsWorker (length old) w
      → tasks_by new w ≡ tasks_of w 0 (owners_of (length old) procs is) is
  tasks_at zero is_one = absurd (let low = is_one.low in omega (arith, low))
  tasks_at (suc k) is_one =
      let high = is_one.high in
      let below : k < length old = omega (arith, high) in
      let within : k < length new = omega (arith, below, begun.at.count) in
      let d = some_item new k within in
      ap (part_of (λ (v : Worker). v.tasks.items)) (item_get new k d within) ∙ tasks_are k d below
