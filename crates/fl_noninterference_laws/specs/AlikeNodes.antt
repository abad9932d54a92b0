-- Nodes that differ in processes with a tag alone, and in what waits for these.
use Rattle.std.specs.Prelude.{◌≡◌, ℕ, List, [], ◌∷◌, length}
use Rattle.std.specs.declared.result.Result.{Result}
use Rattle.fl_labels.specs.declared.name.Name.{Name}
use Rattle.fl_jobs.specs.declared.job.Job.{Job}
use Rattle.fl_jobs.specs.declared.job.Job.TheVariants.{Proc, By, Member, Arrive}
use Rattle.fl_bench.specs.Bench.{BenchState}
use Rattle.fl_system.specs.declared.answer.Answer.{Answer}
use Rattle.fl_system.specs.declared.answer.Fault.{Fault}
use Rattle.fl_system.specs.Jobs.{Jobs}
use Rattle.fl_system.specs.Processes.{process_of}
use Rattle.fl_system.specs.State.{NodeState}
use Rattle.fl_system.specs.World.{KeptNode}
use Rattle.fl_noninterference_laws.specs.Alike.{AreAlikeBenches}
use Rattle.fl_noninterference_laws.specs.Tainted.{IsVeiled}

-- one by one
abbrev pub AreAlikeLists : Name → List BenchState → List BenchState → Type 0
AreAlikeLists tag [] [] = Unit {0}
AreAlikeLists tag (b ∷ bs) (c ∷ cs) = AreAlikeBenches tag b c × AreAlikeLists tag bs cs
AreAlikeLists tag [] (c ∷ cs) = ⊥
AreAlikeLists tag (b ∷ bs) [] = ⊥

-- The nodes have saved and published the same, the same is on its way, and their benches are alike.
-- How much of the list each desk has looked at may differ.
pub record AreAlike (tag : Name) (n m : NodeState) : Type 0 where
  pub number : n.number ≡ m.number
  pub boot : n.boot ≡ m.boot
  pub saved : n.saved ≡ m.saved
  pub published : n.published ≡ m.published
  pub desks : length n.views ≡ length m.views
  pub state : n.state ≡ m.state
  pub procs : n.procs ≡ m.procs
  pub benches : AreAlikeLists tag n.benches m.benches

-- with the same kept of both
pub record AreKeptAlike (tag : Name) (s r : KeptNode) : Type 0 where
  pub nodes : AreAlike tag s.node r.node
  pub kept : s.kept ≡ r.kept

-- the job is nobody's, or that of a process without the tag
abbrev pub IsOpen : Name → NodeState → Job → Type 0
IsOpen tag n Proc = Unit {0}
IsOpen tag n (By pid act) = ¬ IsVeiled tag (process_of n pid)
IsOpen tag n (Member root c) = Unit {0}
IsOpen tag n (Arrive d) = ¬ IsVeiled tag (process_of n d.receiver)

-- at the node m the job may be answered so too, and leaves it as one that is alike
pub record JobsToo (tag : Name) (m : NodeState) (desk upto : ℕ) (job : Job)
    (result : Result Answer Fault) (after : NodeState) : Type 0 where
  pub left : NodeState
  pub does : Jobs m desk upto job result left
  pub alike : AreAlike tag after left
