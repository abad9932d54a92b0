-- A job behind what it asks first.
use Rattle.std.proofs.Common.{◌≡◌, ◌≢◌, ◌+◌, refl, sym, subst, ℕ, Bool, true}
use Rattle.std.proofs.Common.{List, [], ◌∷◌, Some, arith}
use Rattle.fl_labels.specs.declared.pid.Pid.{Pid}
use Rattle.fl_jobs.specs.declared.job.Job.{Job}
use Rattle.fl_jobs.specs.declared.job.Job.TheVariants.{By}
use Rattle.fl_jobs.specs.declared.job.Act.TheVariants.{Emit}
use Rattle.fl_store.specs.Custody.{Custody}
use Rattle.fl_system.specs.World.{KeptNode}
use Rattle.fl_node.specs.Over.{NodeOver}
use Rattle.fl_machine_model.specs.Acts.{Act, Saying}
use Rattle.fl_machine_turns.specs.Done.{Did, did, AreCounted}
use Rattle.fl_machine_turns.specs.Guarding.{Guarded, emits_nothing, job_at, let_out, maker_of}
use Rattle.fl_machine_calls.specs.Going.{MayGo, GoesAlone, DoesAlone}
use Rattle.fl_machine_calls.specs.parts.Emitting.{IsHeldBack, MayGoOn, MayNotGoOn}
use Rattle.fl_machine_calls.proofs.Counts.{one_counted, more_counted}

-- ---- an emission of nothing

module _ {K : Type 0} (custody : Custody K) (x y : NodeOver K) (pid : Pid) (bytes : List ℕ)
    (count : ℕ) (saying : Saying) (none : bytes ≡ []) where
  of_nothing : GoesAlone custody x (job_at (By pid (Emit bytes))) count saying y
      → GoesAlone custody x (emits_nothing pid) count saying y
  of_nothing goes =
      subst (λ (b : List ℕ). GoesAlone custody x (job_at (By pid (Emit b))) count saying y) none
      goes

  pub lets_out : GoesAlone custody x (job_at (By pid (Emit bytes))) count saying y
      → saying ≡ let_out → GoesAlone custody x (emits_nothing pid) count let_out y
  lets_out goes out =
      subst (λ z. GoesAlone custody x (emits_nothing pid) count z y) out (of_nothing goes)

  pub holds_back : GoesAlone custody x (job_at (By pid (Emit bytes))) count saying y
      → saying ≢ let_out → IsHeldBack custody x pid count saying y
  holds_back goes other = IsHeldBack.refused (of_nothing goes) other

-- ---- what is asked first

module _ {K : Type 0} (custody : Custody K) (x y : NodeOver K) (guards : Bool) (job : Job)
    (pid : Pid) (on : guards ≡ true) (makes : maker_of job ≡ Some pid) (count : ℕ) where
  pub may_not_go_on : (saying : Saying) → IsHeldBack custody x pid count saying y
      → MayNotGoOn custody x guards job count saying y
  may_not_go_on saying held =
      record { guarded = on; pid = pid; maker = makes; held = held }

-- ---- a job behind that

-- what is done from a node on, for a job
abbrev Doing : Type 1
Doing = ℕ → KeptNode → Act → List Did → Saying → KeptNode → Type 0

module _ (does : Doing) (guards : Bool) (job : Job) (pid : Pid) (on : guards ≡ true)
    (makes : maker_of job ≡ Some pid) (s mid s' : KeptNode) (count : ℕ) where
  passed : mid.node.number ≡ s.node.number
      → MayGo s.node.number s (emits_nothing pid) count let_out mid
      → (more : ℕ) (saying : Saying)
      → ((ds : List Did) × does mid.node.number mid (job_at job) ds saying s' × AreCounted ds more)
      → (ds : List Did) × Guarded s.node.number guards s job (does s.node.number) ds saying s'
      × AreCounted ds (count + more)
  passed same first more saying second = (
    did (emits_nothing pid) first.came ∷ second.0,
    Guarded.passes on makes first.step first.says
        (subst (λ (x : KeptNode). does s.node.number x (job_at job) second.0 saying s')
        (sym first.after)
        (subst (λ n. does n mid (job_at job) second.0 saying s') same second.1)),
    more_counted (emits_nothing pid) first.came second.0 count more first.counted second.2,
  )

  held : (saying : Saying) → MayGo s.node.number s (emits_nothing pid) count saying mid
      → saying ≢ let_out
      → (ds : List Did) × Guarded s.node.number guards s job (does s.node.number) ds saying mid
      × AreCounted ds count
  held saying first other = (
    did (emits_nothing pid) first.came ∷ [],
    subst (λ (x : KeptNode). Guarded s.node.number guards s job (does s.node.number)
        (did (emits_nothing pid) first.came ∷ []) saying x) first.after
        (subst (λ x. Guarded s.node.number guards s job (does s.node.number)
        (did (emits_nothing pid) first.came ∷ []) x first.came.after) first.says
        (Guarded.held_back on makes first.step
        (subst (λ x. x ≢ let_out) (sym first.says) other))),
    one_counted (emits_nothing pid) first.came count first.counted,
  )

same_sum : (n : ℕ) → n ≡ 0 + n
same_sum n = omega arith

module _ {K : Type 0} (custody : Custody K) (does : Doing) (guards : Bool) (job : Job)
    (x : NodeOver K) where
  -- what is done with the job, guarded
  abbrev Does : ℕ → Saying → NodeOver K → Type 0
  Does = DoesAlone custody x (λ s. Guarded x.node.number guards s job (does x.node.number))

  pub goes_on : (y z : NodeOver K) (first second : ℕ) (saying : Saying)
      → y.node.number ≡ x.node.number → MayGoOn custody x guards job first y
      → DoesAlone custody y (λ s. does y.node.number s (job_at job)) second saying z
      → Does (first + second) saying z
  goes_on y z first second saying same (MayGoOn.free why) rest =
      record {
        honest = rest.honest;
        comes = λ h after kept.
            let a = rest.comes h after kept in (
              a.0,
              a.1,
              (
                a.2.0,
                Guarded.free why a.2.1,
                subst (λ n. AreCounted a.2.0 n) (same_sum second) a.2.2,
              ),
            );
      }
  goes_on y z first second saying same (MayGoOn.passes {pid = pid} on makes emits) rest =
      record {
        honest = λ h. emits.honest (rest.honest h);
        comes = λ h after kept.
            let b = rest.comes h after kept in
            let a = emits.comes (rest.honest h) b.0 b.1 in (
              a.0,
              a.1,
              passed does guards job pid on makes (record { node = x.node; kept = a.0 })
                  (record { node = y.node; kept = b.0 })
                  (record { node = z.node; kept = after }) first same a.2 second saying b.2,
            );
      }

  by_cause : (pid : Pid) (y : NodeOver K) (count : ℕ) (saying : Saying) → guards ≡ true
      → maker_of job ≡ Some pid → IsHeldBack custody x pid count saying y → Does count saying y
  by_cause pid y count saying on makes IsHeldBack.no_room =
      record {
        honest = λ h. h;
        comes = λ h after kept. (after, kept, ([], Guarded.no_room on makes, refl));
      }
  by_cause pid y count saying on makes (IsHeldBack.refused emits other) =
      record {
        honest = emits.honest;
        comes = λ h after kept.
            let a = emits.comes h after kept in (
              a.0,
              a.1,
              held does guards job pid on makes (record { node = x.node; kept = a.0 })
                  (record { node = y.node; kept = after })
                  (record { node = y.node; kept = after }) count saying a.2 other,
            );
      }

  pub held_back : (y : NodeOver K) (count : ℕ) (saying : Saying)
      → MayNotGoOn custody x guards job count saying y → Does count saying y
  held_back y count saying h = by_cause h.pid y count saying h.guarded h.maker h.held
