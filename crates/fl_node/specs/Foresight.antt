-- What a node would answer to a job now, and which capabilities are wanting for it.
use Rattle.std.specs.Prelude.{◌≡◌, ◌<◌, Bool, true, false, ℕ, length}
use Rattle.std.specs.declared.option.Option.TheVariants.{None, Some}
use Rattle.std.specs.declared.result.Result.{Result}
use Rattle.std.specs.declared.result.Result.TheVariants.{Ok, Err}
use Rattle.fl_labels.specs.Cap.{cap_cmp}
use Rattle.fl_labels.specs.Caps.{Caps}
use Rattle.fl_labels.specs.SetBy.{SetBy}
use Rattle.fl_labels.specs.declared.name.Name.{Name}
use Rattle.fl_ops.specs.Registry.{Listed}
use Rattle.fl_jobs.specs.declared.answer.Refusal.{Refusal}
use Rattle.fl_jobs.specs.declared.answer.Refusal.TheVariants.{Busy, NamesSpent}
use Rattle.fl_jobs.specs.declared.answer.Reply.{Reply}
use Rattle.fl_jobs.specs.declared.job.Act.TheVariants.{Order}
use Rattle.fl_jobs.specs.declared.job.Job.{Job}
use Rattle.fl_jobs.specs.declared.job.Job.TheVariants.{By}
use Rattle.fl_bench.specs.Bench.{BenchState}
use Rattle.fl_bench.specs.Checks.{Check, no_check, refuse_if, ◌then◌}
use Rattle.fl_bench.specs.Foresight.{Foretells, all_checks}
use Rattle.fl_monitor.specs.Wanting.{AreAll, Lacks}
use Rattle.fl_system.specs.declared.state.Pending.TheVariants.{Nothing, Unsaved, Due}
use Rattle.fl_system.specs.declared.state.State.{State}
use Rattle.fl_system.specs.declared.state.State.TheVariants.{Running, Stopped}
use Rattle.fl_system.specs.Jobs.{place_of}
use Rattle.fl_system.specs.Naming.{IsLast, IsNextAfter}
use Rattle.fl_system.specs.Numbered.{item_at}
use Rattle.fl_system.specs.State.{NodeState}

-- whether no operation can be begun
abbrev pub is_taken : State → Bool
is_taken (Running Nothing) = false
is_taken (Running (Unsaved batch)) = true
is_taken (Running (Due batch)) = true
is_taken (Stopped doubt) = true

-- that a name is left
abbrev pub name_check : NodeState → Check
name_check n None = (name : Name) × IsNextAfter n.saved n.number name
name_check n (Some f) = (f ≡ NamesSpent) × IsLast n.saved n.number 4294967295

-- that an operation can be begun
abbrev pub begin_check : NodeState → Check
begin_check n = refuse_if (is_taken n.state) Busy then name_check n

-- what the node asks of an order that its bench admits
abbrev pub order_check : NodeState → Job → Check
order_check n (By pid (Order order)) = begin_check n
order_check n job = no_check

-- all that a job is checked for, in this order, under what is published, where orders are guarded
-- or not
abbrev pub checks_at : Bool → NodeState → BenchState → Job → Check
checks_at guards n b job = all_checks guards (Listed n.published) b job then order_check n job

-- What the job would be answered now, but for want of memory and a keeper that fails: why it is
-- refused, or what is foretold.
pub data CouldAt (guards : Bool) (n : NodeState) (job : Job) : Result Reply Refusal → Type 0 where
  passed : {b : BenchState} {reply : Reply} → item_at n.benches (place_of n job) ≡ Some b
      → checks_at guards n b job None → Foretells (Listed n.published) b job reply
      → CouldAt guards n job (Ok reply)
  failed : {b : BenchState} {f : Refusal} → item_at n.benches (place_of n job) ≡ Some b
      → checks_at guards n b job (Some f) → CouldAt guards n job (Err f)

-- the capabilities that are wanting for a job at its bench: those that it takes and that its process,
-- where no operation of that is under way, has not in effect
abbrev pub WantsAt : Bool → NodeState → Job → Caps
WantsAt guards n job c =
    (b : BenchState) × (item_at n.benches (place_of n job) ≡ Some b)
    × Lacks guards (Listed n.published) b job c

-- all of them
abbrev pub AreWantingAt : Bool → NodeState → Job → SetBy cap_cmp → Type 0
AreWantingAt guards n job = AreAll (WantsAt guards n job)

-- the desk has not seen all that is published
abbrev pub IsBehind : NodeState → ℕ → Type 0
IsBehind n desk =
    (seen : ℕ) × (item_at n.views desk ≡ Some seen) × (seen < length n.published)
