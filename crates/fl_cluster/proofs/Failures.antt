-- Why a line of a script is answered that a keeper failed, from what is asked of the cluster.
use Rattle.std.proofs.Common.{◌≡◌, inl, inr, ℕ, Bool, refl, arith}
use Rattle.fl_store.specs.Custody.{Custody}
use Rattle.fl_makers.specs.Making.{Making}
use Rattle.fl_jobs.specs.declared.job.Job.{Job}
use Rattle.fl_script.specs.declared.request.Request.{Request}
use Rattle.fl_script.specs.declared.request.Request.TheVariants as requests
use Rattle.fl_system.specs.declared.answer.Fault.{Fault}
use Rattle.fl_system.specs.declared.answer.Fault.TheVariants.{KeeperFailed}
use Rattle.fl_system.specs.declared.event.Event.{Event}
use Rattle.fl_system.specs.declared.event.Event.TheVariants as event
use Rattle.fl_system.specs.declared.reply.Reply.{Reply}
use Rattle.fl_system.specs.declared.reply.Reply.TheVariants.{Refused}
use Rattle.fl_system.specs.WorldSteps.{node_of}
use Rattle.fl_nodes.specs.Failing.{FailsIn, saving, restarting, IsBrokenAt}
use Rattle.fl_nodes.specs.Over.{WorldOver}
use Rattle.fl_calls.specs.Failing.{SaysFailed, FailsOnceOpen, shut, there, opened, FailsCompleting}
use Rattle.fl_calls.specs.Over.{ClusterOver}
use Rattle.fl_calls.specs.declared.response.Response.{Response as Said}
use Rattle.fl_calls.specs.declared.response.Response.TheVariants as calls
use Rattle.fl_turns.specs.Answer.{fault_status}
use Rattle.fl_turns.specs.Failing.{FailsAsked}
use Rattle.fl_turns.specs.Turn.{job_at}
use Rattle.fl_cluster.specs.Shown.{status_said}
use Rattle.fl_cluster.specs.declared.response.Response.TheVariants as response

-- ---- a status of 3

pub no_three : ◌≡◌ {A = ℕ} 0 3 → ⊥
no_three e = omega (arith, e)

pub one_is_not_three : ◌≡◌ {A = ℕ} 1 3 → ⊥
one_is_not_three e = omega (arith, e)

refused_says : (fault : Fault) → fault_status fault ≡ 3 → SaysFailed (calls.Reply (Refused fault))
refused_says KeeperFailed e = SaysFailed.refused
refused_says other e = absurd (no_three e)

dropped_says : (fault : Fault) → fault_status fault ≡ 3 → SaysFailed (calls.Dropped fault)
dropped_says KeeperFailed e = SaysFailed.dropped
dropped_says other e = absurd (no_three e)

pub says_reply : (reply : Reply) → SaysFailed (calls.Reply reply) → reply ≡ Refused KeeperFailed
says_reply reply SaysFailed.refused = refl

pub says_failed : (said : Said) → status_said (response.Said said) ≡ 3 → SaysFailed said
says_failed (calls.Reply (Refused fault)) e = refused_says fault e
says_failed (calls.Dropped fault) e = dropped_says fault e
says_failed calls.Unknown e = absurd (one_is_not_three e)
says_failed other e = absurd (no_three e)

-- ---- a request of a node

-- an event that restarts no node
abbrev IsNoRestart : Event → Type 0
IsNoRestart e = (number : ℕ) (kept : Bool) → ¬ (e ≡ event.Restart number kept)

module _ {K M : Type 0} (custody : Custody K) (making : Making M K) (old new : ClusterOver K M) where
  leads : (number : ℕ) (fails fails' : ClusterOver K M → Type 0) → ((between : ClusterOver K M) → fails between → fails' between)
      → FailsOnceOpen custody making old new number fails → FailsOnceOpen custody making old new number fails'
  leads number fails fails' to (shut absent refused) = shut absent refused
  leads number fails fails' to (there at why) = there at (to old why)
  leads number fails fails' to (opened {between = between} absent goes honest why) = opened absent goes honest (to between why)

  broken_in : (between : WorldOver K) (e : Event) → IsNoRestart e → FailsIn custody between new.world e → IsBrokenAt custody new.world (node_of e)
  broken_in between e not (saving broken) = broken
  broken_in between e not (restarting {number = number} {keeps = kept} fails) = absurd (not number kept refl)

  broken_by : (between : WorldOver K) (e : Event) → IsNoRestart e → FailsCompleting custody between new.world e → IsBrokenAt custody new.world (node_of e)
  broken_by between e not (inl fails) = broken_in between e not fails
  broken_by between e not (inr broken) = broken

  asked_by : (e : Event) (request : Request) → IsNoRestart e
      → FailsOnceOpen custody making old new (node_of e) (λ between. FailsCompleting custody between.world new.world e)
      → FailsOnceOpen custody making old new (node_of e) (λ between. FailsAsked custody between.world new.world (node_of e) request)
  asked_by e request not = leads (node_of e) _ _ (λ between fails. FailsAsked.broken (broken_by between.world e not fails))

  pub asked_job : (number : ℕ) (job : Job) (request : Request)
      → FailsOnceOpen custody making old new number (λ between. FailsCompleting custody between.world new.world (job_at number job))
      → FailsOnceOpen custody making old new number (λ between. FailsAsked custody between.world new.world number request)
  asked_job number job request = asked_by (job_at number job) request (λ n kept e. cc)

  pub begun_job : (number : ℕ) (job : Job) (request : Request)
      → FailsOnceOpen custody making old new number (λ between. FailsIn custody between.world new.world (job_at number job))
      → FailsOnceOpen custody making old new number (λ between. FailsAsked custody between.world new.world number request)
  begun_job number job request =
      leads number _ _ (λ between fails. FailsAsked.broken (broken_in between.world (job_at number job) (λ n kept e. cc) fails))

  pub asked_tell : (number : ℕ) (request : Request)
      → FailsOnceOpen custody making old new number (λ between. FailsCompleting custody between.world new.world (event.Tell number))
      → FailsOnceOpen custody making old new number (λ between. FailsAsked custody between.world new.world number request)
  asked_tell number request = asked_by (event.Tell number) request (λ n kept e. cc)

  pub asked_save : (number : ℕ) (request : Request)
      → FailsOnceOpen custody making old new number (λ between. FailsCompleting custody between.world new.world (event.Save number))
      → FailsOnceOpen custody making old new number (λ between. FailsAsked custody between.world new.world number request)
  asked_save number request = asked_by (event.Save number) request (λ n kept e. cc)

  pub asked_publish : (number : ℕ) (request : Request)
      → FailsOnceOpen custody making old new number (λ between. FailsCompleting custody between.world new.world (event.Publish number))
      → FailsOnceOpen custody making old new number (λ between. FailsAsked custody between.world new.world number request)
  asked_publish number request = asked_by (event.Publish number) request (λ n kept e. cc)

  pub asked_cancel : (number : ℕ) (request : Request)
      → FailsOnceOpen custody making old new number (λ between. FailsCompleting custody between.world new.world (event.Cancel number))
      → FailsOnceOpen custody making old new number (λ between. FailsAsked custody between.world new.world number request)
  asked_cancel number request = asked_by (event.Cancel number) request (λ n kept e. cc)

  restarts : (between : WorldOver K) (number : ℕ) (kept : Bool) → FailsCompleting custody between new.world (event.Restart number kept)
      → FailsAsked custody between new.world number (requests.Restart kept)
  restarts between number kept (inl (restarting fails)) = FailsAsked.restarting fails
  restarts between number kept (inr broken) = FailsAsked.broken broken

  pub asked_restart : (number : ℕ) (kept : Bool)
      → FailsOnceOpen custody making old new number (λ between. FailsCompleting custody between.world new.world (event.Restart number kept))
      → FailsOnceOpen custody making old new number (λ between. FailsAsked custody between.world new.world number (requests.Restart kept))
  asked_restart number kept = leads number _ _ (λ between. restarts between.world number kept)

  pub delivered : (number : ℕ) (request : Request)
      → FailsOnceOpen custody making old new number (λ between. IsBrokenAt custody new.world number)
      → FailsOnceOpen custody making old new number (λ between. FailsAsked custody between.world new.world number request)
  delivered number request = leads number _ _ (λ between broken. FailsAsked.broken broken)

  pub only_asked : (number : ℕ) (request : Request) → FailsOnceOpen custody making old new number (λ between. ⊥)
      → FailsOnceOpen custody making old new number (λ between. FailsAsked custody between.world new.world number request)
  only_asked number request = leads number _ _ (λ between none. absurd none)
