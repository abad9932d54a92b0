-- What is wanting for an act, and for a job at a bench.
use Rattle.std.proofs.Common.{◌≡◌, ◌⊎◌, inl, inr, refl, sym, ap, subst, ◌∙◌, Bool, true, false, Option, Some, None, Result, Ok, Err, IfOk, OnOk, OnErr}
use Rattle.std.proofs.lemmas.Bool.{false≢true}
use Rattle.std.specs.declared.alloc.AllocError.{AllocError}
use Rattle.std.specs.FinMap as map
use Rattle.fl_labels.specs.Cap.{cap_cmp}
use Rattle.fl_labels.specs.Caps.{Caps}
use Rattle.fl_labels.specs.Name.{name_cmp}
use Rattle.fl_labels.specs.SetBy.{SetBy, In, contains, empty, contains-empty}
use Rattle.fl_labels.specs.declared.cap.Cap.{Cap}
use Rattle.fl_labels.specs.declared.endpoint.Endpoint.{Endpoint}
use Rattle.fl_labels.specs.declared.pid.Pid.{Pid}
use Rattle.fl_message.specs.declared.message.Message.{Message}
use Rattle.fl_ops.specs.Registry.{Registry, InEffect}
use Rattle.fl_jobs.specs.declared.job.Act.{Act}
use Rattle.fl_jobs.specs.declared.job.Act.TheVariants.{Relabel, Mail as Mails}
use Rattle.fl_jobs.specs.declared.job.Mail.TheVariants.{Send}
use Rattle.fl_jobs.specs.declared.job.Side.{Side}
use Rattle.fl_jobs.specs.declared.job.Job.{Job}
use Rattle.fl_jobs.specs.declared.job.Job.TheVariants.{Proc, By, Member, Arrive}
use Rattle.fl_rules.specs.Safety.{Takes}
use Rattle.fl_bench.specs.Bench.{BenchState}
use Rattle.fl_bench.specs.Foresight.{Demands}
use Rattle.fl_bench.specs.Process.{effective, held, is_under_way, owns, side_of}
use Rattle.fl_bench.specs.declared.process.Holding.{Holding}
use Rattle.fl_bench.specs.declared.process.Holding.TheVariants.{Idle, Ordering}
use Rattle.fl_bench.specs.declared.process.Process.{Process}
use Rattle.fl_monitor.specs.Wanting.{AreAll, Lacks, LacksBy}
use Rattle.fl_monitor.specs.parts.Gathers.{Gathers, IsLacking}

-- the set of nothing has all of what nothing is
pub all_of_nothing : (P : Caps) (s : SetBy cap_cmp) → s ≡ empty → ((c : Cap) → ¬ P c) → AreAll P s
all_of_nothing P s e none = record {
  each = λ c. (
    λ h. absurd (false≢true (sym (ap (λ t. contains t c) e ∙ contains-empty cap_cmp c) ∙ h)),
    λ p. absurd (none c p),
  );
}

-- what an act demands, by what it is
module _ (E : Caps) (guards : Bool) (p : Process) (act : Act) where
  pub relabel_lacks : (side : Side) (label from to : SetBy name_cmp)
      (r : Result (Unit {0}) AllocError) → act ≡ Relabel side (Ok label)
      → from ≡ side_of side p.labels → to ≡ label → OnErr r (IsLacking E (Takes from to))
      → OnErr r (IsLacking E (Demands guards p act))
  relabel_lacks side label from to r is e f h = rw (is, ← e, ← f) h

  module _ (from : Endpoint) (receiver : Pid) (to : Endpoint) (message : Message) where
    pub sends : (s t : SetBy cap_cmp) (r : Result (Unit {0}) AllocError)
        → act ≡ Mails (Send from receiver to message)
        → OnOk r (Gathers E (In message.caps) s t) → OnOk r (Gathers E (Demands guards p act) s t)
    sends s t r is h = rw is h

    pub send_lacks : (r : Result (Unit {0}) AllocError)
        → act ≡ Mails (Send from receiver to message) → OnErr r (IsLacking E (In message.caps))
        → OnErr r (IsLacking E (Demands guards p act))
    send_lacks r is h = rw is h

module _ (guards : Bool) (V : Registry) (p : Process) (act : Act) where
  not_idle : (h : Holding) → ((owned : SetBy cap_cmp) → h ≡ Idle owned → ⊥) → ¬ (is_under_way h ≡ false)
  not_idle (Idle owned) n e = n owned refl
  not_idle (Ordering owned) n e = false≢true (sym e)

  pub none_while_busy : ((owned : SetBy cap_cmp) → p.owned ≡ Idle owned → ⊥) → (c : Cap)
      → ¬ LacksBy guards V p act c
  none_while_busy n c h = not_idle p.owned n h.0

  module _ (owned caps : SetBy cap_cmp) (idle : p.owned ≡ Idle owned) (is : caps ≡ owned) where
    is_owned : caps ≡ owns p
    is_owned = is ∙ sym (ap held idle)

    pub all_wanting : (s t : SetBy cap_cmp) → s ≡ empty
        → Gathers (InEffect V (In caps)) (Demands guards p act) s t
        → AreAll (LacksBy guards V p act) t
    all_wanting s t none gathered =
        let those = subst (λ o. Gathers (InEffect V (In o)) (Demands guards p act) s t) is_owned gathered in
        record {
          each = λ c. (
            λ h. elim ((those.each c).0 h) [
              | inl m ↦ absurd (false≢true (sym (ap (λ t. contains t c) none ∙ contains-empty cap_cmp c) ∙ m))
              | inr w ↦ (ap is_under_way idle, w)
            ],
            λ h. (those.each c).1 (inr h.1),
          );
        }

    pub some_wanting : IsLacking (InEffect V (In caps)) (Demands guards p act)
        → (c : Cap) × LacksBy guards V p act c
    some_wanting lacking =
        let one = subst (λ o. IsLacking (InEffect V (In o)) (Demands guards p act)) is_owned lacking in
        (one.0, (ap is_under_way idle, (one.1, one.2)))

-- ---- at a bench

module _ (guards : Bool) (V : Registry) (b : BenchState) where
  pub asks_nothing : (job : Job) → ((pid : Pid) (act : Act) → job ≡ By pid act → ⊥) → (c : Cap)
      → ¬ Lacks guards V b job c
  asks_nothing Proc n c h = h
  asks_nothing (By pid act) n c h = n pid act refl
  asks_nothing (Member root cap) n c h = h
  asks_nothing (Arrive d) n c h = h

  module _ (pid : Pid) (act : Act) where
    pub lacks_nobody : map.get b.processes pid ≡ None → (c : Cap) → ¬ Lacks guards V b (By pid act) c
    lacks_nobody none c h = absurd (cc (none, h.1))

    module _ (p : Process) (stands : map.get b.processes pid ≡ Some p) where
      lacks_to : (c : Cap) → LacksBy guards V p act c → Lacks guards V b (By pid act) c
      lacks_to c h = (p, stands, h)

      lacks_from : (c : Cap) → Lacks guards V b (By pid act) c → LacksBy guards V p act c
      lacks_from c h =
          let same : h.0 ≡ p = cc (stands, h.1) in
          subst (λ q. LacksBy guards V q act c) same h.2

      pub all_at : (r : Result (SetBy cap_cmp) AllocError) → IfOk r (AreAll (LacksBy guards V p act))
          → IfOk r (AreAll (Lacks guards V b (By pid act)))
      all_at (Ok found) are = record {
        each = λ c. (λ h. lacks_to c ((are.each c).0 h), λ h. (are.each c).1 (lacks_from c h));
      }
      all_at (Err e) are = are

      pub some_at : (r : Result (SetBy cap_cmp) AllocError)
          → OnErr r ((c : Cap) × LacksBy guards V p act c)
          → OnErr r ((c : Cap) × Lacks guards V b (By pid act) c)
      some_at (Ok found) some = some
      some_at (Err e) some = (some.0, lacks_to some.0 some.1)
