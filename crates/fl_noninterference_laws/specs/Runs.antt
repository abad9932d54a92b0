-- Two runs of a machine side by side: in one of them who has the tag does nothing and gets nothing.
use Rattle.std.specs.Prelude.{◌≡◌, ◌⊎◌, ℕ, List, [], ◌∷◌}
use Rattle.std.specs.declared.option.Option.{Option}
use Rattle.std.specs.declared.option.Option.TheVariants.{None, Some}
use Rattle.fl_labels.specs.SetBy.{In}
use Rattle.fl_labels.specs.declared.name.Name.{Name}
use Rattle.fl_ops.specs.Registry.{Listed}
use Rattle.fl_wire.specs.declared.packet.Packet.TheVariants.{Data}
use Rattle.fl_jobs.specs.declared.job.Job.TheVariants.{By, Arrive}
use Rattle.fl_bench.specs.declared.process.Process.{Process}
use Rattle.fl_system.specs.Processes.{process_of}
use Rattle.fl_system.specs.State.{NodeState}
use Rattle.fl_machine_model.specs.Acts.{Act, Job, Receive, Saying}
use Rattle.fl_machine_model.specs.Machines.{Machine, Up, Down}
use Rattle.fl_machine_model.specs.Processes.{Doing, Begins, Does, Stops, Goes}
use Rattle.fl_noninterference_laws.specs.Acts.{LooksAtAll, IsAmple, ComesToSame}
use Rattle.fl_noninterference_laws.specs.Alike.{IsNoBirth}
use Rattle.fl_noninterference_laws.specs.AlikeNodes.{AreKeptAlike}
use Rattle.fl_noninterference_laws.specs.Tainted.{IsVeiled, LacksMinus}

-- ---- what concerns who has the tag

-- a job of such a process, or of one that is gone; a message that comes to such a one, or has the
-- tag; and what is no job
abbrev pub IsHidden : Name → NodeState → Act → Type 0
IsHidden tag n (Job desk upto (By pid act)) = IsVeiled tag (process_of n pid)
IsHidden tag n (Job desk upto (Arrive d)) = IsVeiled tag (process_of n d.receiver)
IsHidden tag n (Receive (Data d)) = IsVeiled tag (process_of n d.receiver) ⊎ In d.secrecy tag
IsHidden tag n act = ⊥

-- who acts, or gets the message
abbrev pub concerned : NodeState → Act → Option Process
concerned n (Job desk upto (By pid act)) = process_of n pid
concerned n (Receive (Data d)) = process_of n d.receiver
concerned n act = None

-- it bears nobody
abbrev pub IsNoBearing : Act → Type 0
IsNoBearing (Job desk upto (By pid act)) = IsNoBirth act
IsNoBearing act = Unit {0}

-- What the runs rest on, act by act: who has the tag, or gets a message with it, does not have its
-- minus in effect, and bears nobody; for others a desk looks at all that is published, and nothing
-- is refused for want of memory.
pub record IsSealed (tag : Name) (n : NodeState) (act : Act) (saying : Saying) : Type 0 where
  pub lacks : IsHidden tag n act → LacksMinus (Listed n.published) tag (concerned n act)
  pub bears : IsHidden tag n act → IsNoBearing act
  pub looks : ¬ IsHidden tag n act → LooksAtAll n act
  pub ample : ¬ IsHidden tag n act → IsAmple saying

-- ---- the same of a machine

abbrev pub IsHiddenDoing : Name → Option Machine → Doing → Type 0
IsHiddenDoing tag (Some (Up s)) (Does act o) = IsHidden tag s.node act
IsHiddenDoing tag old d = ⊥

abbrev pub IsSealedDoing : Name → Option Machine → Doing → Type 0
IsSealedDoing tag (Some (Up s)) (Does act o) = IsSealed tag s.node act o.says
IsSealedDoing tag old d = Unit {0}

-- one after another, each of them sealed
abbrev pub GoesSealed : Name → ℕ → ℕ → Option Machine → List Doing → Option Machine → Type 0
GoesSealed tag desks number old [] new = new ≡ old
GoesSealed tag desks number old (d ∷ ds) new =
    (mid : Option Machine) × Goes desks number old d mid × IsSealedDoing tag old d
    × GoesSealed tag desks number mid ds new

-- machines with nodes that are alike, or files that hold the same
abbrev pub AreAlikeMachines : Name → Option Machine → Option Machine → Type 0
AreAlikeMachines tag None None = Unit {0}
AreAlikeMachines tag (Some (Up s)) (Some (Up r)) = AreKeptAlike tag s r
AreAlikeMachines tag (Some (Down k)) (Some (Down j)) = k ≡ j
AreAlikeMachines tag old other = ⊥

-- the same is asked, and comes of it
abbrev pub IsSameDoing : Doing → Doing → Type 0
IsSameDoing (Begins k saying) (Begins j said) = (k ≡ j) × (saying ≡ said)
IsSameDoing (Does act o) (Does what came) = (act ≡ what) × ComesToSame o came
IsSameDoing (Stops k) (Stops j) = k ≡ j
IsSameDoing d e = ⊥

-- The two runs, from the one machine to its last, and from the other to its last: what concerns who
-- has the tag is done in the first alone, and all else in both.
pub data SideBySide (tag : Name) (desks number : ℕ)
    : Option Machine → Option Machine → List Doing → List Doing → Option Machine
    → Option Machine → Type 0 where
  ends : {old other : Option Machine} → SideBySide tag desks number old other [] [] old other
  alone : {old other mid new last : Option Machine} {d : Doing} {ds es : List Doing}
      → Goes desks number old d mid → IsHiddenDoing tag old d
      → SideBySide tag desks number mid other ds es new last
      → SideBySide tag desks number old other (d ∷ ds) es new last
  both : {old other mid between new last : Option Machine} {d e : Doing} {ds es : List Doing}
      → Goes desks number old d mid → ¬ IsHiddenDoing tag old d
      → Goes desks number other e between → IsSameDoing d e
      → SideBySide tag desks number mid between ds es new last
      → SideBySide tag desks number old other (d ∷ ds) (e ∷ es) new last

-- there is such a run of the other machine, and it leaves it as one that is alike
pub record RunsToo (tag : Name) (desks number : ℕ) (old other : Option Machine)
    (ds : List Doing) (new : Option Machine) : Type 0 where
  pub others : List Doing
  pub last : Option Machine
  pub runs : SideBySide tag desks number old other ds others new last
  pub alike : AreAlikeMachines tag new last
