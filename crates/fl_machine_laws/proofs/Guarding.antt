-- An order just behind an emission of its process, among the turns of its machine.
use Rattle.std.proofs.Common.{◌≡◌, ◌≢◌, ◌∙◌, ◌<◌, ◌≤◌, inl, inr, ℕ, zero, suc, List, [], ◌∷◌, length}
use Rattle.std.proofs.Common.{None, Some, Ok, slice_get, refl, sym, ap, subst, arith, eq-or-lt_of_le}
use Rattle.std.specs.FinMap as map
use Rattle.std.specs.declared.option.Option.{Option}
use Rattle.fl_labels.specs.declared.name.Name.{Name}
use Rattle.fl_labels.specs.declared.pid.Pid.{Pid}
use Rattle.fl_jobs.specs.declared.answer.Outcome.{Outcome as JobOutcome}
use Rattle.fl_jobs.specs.declared.answer.Reply.{Reply as JobReply}
use Rattle.fl_jobs.specs.declared.job.Act.TheVariants.{Emit}
use Rattle.fl_jobs.specs.declared.job.Job.TheVariants.{By}
use Rattle.fl_bench.specs.Bench.{BenchState}
use Rattle.fl_bench.specs.Jobs.{Does, passed}
use Rattle.fl_bench.specs.declared.process.Process.{Process}
use Rattle.fl_ops.specs.Registry.{Registry}
use Rattle.fl_system.specs.declared.answer.Answer.TheVariants as answer
use Rattle.fl_system.specs.declared.admission.Admission.{Admission}
use Rattle.fl_system.specs.declared.reply.Reply.{Reply}
use Rattle.fl_system.specs.declared.reply.Reply.TheVariants.{Job as Answered}
use Rattle.fl_system.specs.declared.sent.Sent.{Sent}
use Rattle.fl_system.specs.Jobs.{Jobs, bench_of, worked}
use Rattle.fl_system.specs.Numbered.{item_at, with_item}
use Rattle.fl_system.specs.Processes.{process_at, process_of}
use Rattle.fl_system.specs.State.{NodeState}
use Rattle.fl_system.specs.World.{KeptNode}
use Rattle.fl_system_laws.specs.laws.Numbered.{changed_at, length-with}
use Rattle.fl_world_laws.specs.laws.Nodes.{Stays, is_replaced, is_still, stays_there, at_key}
use Rattle.fl_machine_model.specs.Acts.{Act, Job, Saying, Replies, Outcome, said_of}
use Rattle.fl_machine_model.specs.Alone.{MachineStep, JobAlone}
use Rattle.fl_machine_model.specs.Machines.{Machine, Up, Down, Machines, Deed, Acts, Happens, Turn}
use Rattle.fl_machine_model.specs.Machines.{AreTurns}
use Rattle.fl_machine_laws.specs.Guards.{number_of}
use Rattle.fl_machine_laws.specs.Places.{IsUp}
use Rattle.fl_machine_laws.specs.Taint.{machines_at, IsHeldOn, IsPureOn}

-- ---- at a place

same_turn : {t u : Turn} → Some t ≡ Some u → t ≡ u
same_turn e = cc

pub happens_at : (m : Machines) (ts : List Turn) → AreTurns m ts → (i : ℕ) (t : Turn)
    → slice_get ts i ≡ Some t
    → Happens (machines_at m ts i) t.deed (machines_at m ts (suc i))
happens_at m [] are i t e = absurd (cc)
happens_at m (u ∷ ts) are zero t e =
    subst (λ (y : Turn). Happens m y.deed u.after) (same_turn e) are.0
happens_at m (u ∷ ts) are (suc i) t e = happens_at u.after ts are.1 i t e

past_end : (m : Machines) (ts : List Turn) (i : ℕ) → slice_get ts i ≡ None
    → machines_at m ts (suc i) ≡ machines_at m ts i
past_end m [] zero e = refl
past_end m [] (suc i) e = refl
past_end m (u ∷ ts) zero e = absurd (cc)
past_end m (u ∷ ts) (suc i) e = past_end u.after ts i e

-- ---- what another machine does

module _ (m : Machines) (number : ℕ) (s : KeptNode) (up : IsUp m number s) where
  after_put : (k : ℕ) (machine : Machine) → k ≢ number
      → map.get (map.insert m.nodes k machine) number ≡ Some (Up s)
  after_put k machine apart = by_stay (stays_there m.nodes k machine number (Up s) up)
    where
      by_stay : Stays m.nodes k machine number (Up s)
          → map.get (map.insert m.nodes k machine) number ≡ Some (Up s)
      by_stay (is_replaced is) = absurd (apart (sym is))
      by_stay (is_still stands) = stands

  stays_up : {deed : Deed} {m' : Machines} → Happens m deed m' → number_of deed ≢ number
      → IsUp m' number s
  stays_up (Happens.born {number = k} free blank opening) apart = after_put k (Up _) apart
  stays_up (Happens.not_born free blank opening) apart = up
  stays_up (Happens.opens {number = k} there opening) apart = after_put k (Up _) apart
  stays_up (Happens.not_opened {number = k} {left = left} there opening) apart =
      after_put k (Down left) apart
  stays_up (Happens.acts {number = k} there other step) apart = after_put k (Up _) apart
  stays_up (Happens.gets {number = k} there was step) apart = after_put k (Up _) apart
  stays_up (Happens.ends {number = k} there leaves) apart = after_put k (Down _) apart

module _ (m : Machines) (ts : List Turn) (are : AreTurns m ts) (number : ℕ) (s : KeptNode) where
  -- of the machine of the number there is no turn from the one place to before the other
  abbrev IsAlone : ℕ → ℕ → Type 0
  IsAlone i j = (k : ℕ) (t : Turn) → i ≤ k → k < j → slice_get ts k ≡ Some t
      → number_of t.deed ≢ number

  one_later : (k : ℕ) → IsUp (machines_at m ts k) number s
      → ((t : Turn) → slice_get ts k ≡ Some t → number_of t.deed ≢ number)
      → IsUp (machines_at m ts (suc k)) number s
  one_later k up apart = by_turn (slice_get ts k) refl
    where
      by_turn : (o : Option Turn) → slice_get ts k ≡ o → IsUp (machines_at m ts (suc k)) number s
      by_turn None e =
          subst (λ (x : Machines). IsUp x number s) (sym (past_end m ts k e)) up
      by_turn (Some t) e =
          stays_up (machines_at m ts k) number s up (happens_at m ts are k t e) (apart t e)

  pub up_later : (i j : ℕ) → IsUp (machines_at m ts i) number s → i ≤ j → IsAlone i j
      → IsUp (machines_at m ts j) number s
  up_later i zero up le alone =
      let is : i ≡ 0 = omega (arith, le) in
      subst (λ k. IsUp (machines_at m ts k) number s) is up
  up_later i (suc j) up le alone = elim (eq-or-lt_of_le le) [
    | inl is ↦ subst (λ k. IsUp (machines_at m ts k) number s) is up
    | inr below ↦
        let low : i ≤ j = omega (arith, below) in
        one_later j
        (up_later i j up low (λ k t from to at. alone k t from (omega (arith, to)) at))
        (λ t at. alone j t low (omega arith) at)
  ]

-- ---- an emission

-- the process stands at the node, and stands there still
pub record Emitter (n n' : NodeState) (pid : Pid) : Type 0 where
  pub process : Process
  pub stands : process_of n pid ≡ Some process
  pub still : process_of n' pid ≡ Some process

module _ (n : NodeState) (pid : Pid) where
  place : ℕ
  place = bench_of (length n.benches) pid.serial

  stands_still : (b left : BenchState) (p : Process) → item_at n.benches place ≡ Some b
      → map.get b.processes pid ≡ Some p → left ≡ b
      → process_at (item_at (with_item n.benches place left)
      (bench_of (length (with_item n.benches place left)) pid.serial)) pid ≡ Some p
  unfolding place
  stands_still b left p has_b at same =
      ap (λ count. process_at (item_at (with_item n.benches place left)
      (bench_of count pid.serial)) pid) (length-with n.benches place left)
      ∙ ap (λ o. process_at o pid) (changed_at (λ _. left) n.benches place b has_b)
      ∙ ap (λ (x : BenchState). map.get x.processes pid) same ∙ at

from_jobs : {n : NodeState} {desk upto : ℕ} {pid : Pid} {bytes : List ℕ} {reply : JobReply}
    {n' : NodeState} → Jobs n desk upto (By pid (Emit bytes)) (Ok (answer.Reply reply)) n'
    → Emitter n n' pid
unfolding place
from_jobs {n} {desk} {pid = pid} {bytes} (Jobs.replied {v} {left = left} look d) = by_does d.does
  where
    by_does : {V : Registry} {x : JobOutcome} → Does V d.bench (By pid (Emit bytes)) (Ok x) left
        → Emitter n (worked n desk v (By pid (Emit bytes)) left) pid
    by_does (passed checked f) =
        record {
          process = f.0;
          stands = ap (λ o. process_at o pid) d.stands ∙ f.1;
          still = stands_still n pid d.bench left f.0 d.stands f.1 f.2.1;
        }

emitted_by : {number desk upto : ℕ} {n n' : NodeState} {pid : Pid} {bytes : List ℕ} {told : Reply}
    {reply : JobReply} {sent : List Sent} {admitted : List Admission}
    → JobAlone number n desk upto (By pid (Emit bytes)) 0 told n' sent admitted
    → said_of told sent ≡ Replies (Answered reply) → Emitter n n' pid
emitted_by (JobAlone.refused does) e = absurd (cc)
emitted_by (JobAlone.replied does) e = from_jobs does
emitted_by (JobAlone.begun does) e = absurd (cc)
emitted_by (JobAlone.sends does) e = absurd (cc)
emitted_by (JobAlone.no_room look seen noted) e = absurd (cc)

pub emitted : {number : ℕ} {s : KeptNode} {desk upto : ℕ} {pid : Pid} {bytes : List ℕ}
    {reply : JobReply} {o : Outcome}
    → MachineStep number s (Job desk upto (By pid (Emit bytes))) o
    → o.says ≡ Replies (Answered reply)
    → Emitter s.node o.after.node pid
emitted (MachineStep.no_desk none) e = absurd (cc)
emitted (MachineStep.no_such_job is) e = absurd (cc)
emitted (MachineStep.job real does) e = emitted_by does e

-- what a machine did
pub record Acted (m : Machines) (number : ℕ) (act : Act) (saying : Saying) (m' : Machines)
    : Type 0 where
  pub s : KeptNode
  pub up : IsUp m number s
  pub o : Outcome
  pub step : MachineStep number s act o
  pub says : o.says ≡ saying
  pub later : IsUp m' number o.after

pub acted : {m : Machines} {number : ℕ} {act : Act} {saying : Saying} {m' : Machines}
    → Happens m (Acts number act saying) m' → Acted m number act saying m'
acted {m} (Happens.acts {number} {s} {o = o} there other step) =
    record {
      s = s;
      up = there;
      o = o;
      step = step;
      says = refl;
      later = at_key m.nodes number (Up o.after);
    }

-- a process that is pure never holds the tag's minus
pub never_held : {m : Machines} {ts : List Turn} {tag : Name} {i : ℕ} {pid : Pid}
    → IsPureOn m ts tag i pid → ¬ IsHeldOn m ts tag pid
never_held (IsPureOn.labelled lives has never) = never
never_held (IsPureOn.later before) = never_held before
never_held (IsPureOn.born before at bears never) = never
never_held (IsPureOn.received before at sends later there arrives never) = never
