-- What a node that runs saved is what its keeper holds, by each call.
use Rattle.std.proofs.Common.{◌≡◌, ℕ, Bool, Result, Ok, Some, refl, sym, ◌∙◌, ap, subst}
use Rattle.std.specs.declared.option.Option.{Option}
use Rattle.fl_labels.specs.declared.name.Name.{Name}
use Rattle.fl_labels.specs.declared.pid.Pid.{Pid}
use Rattle.fl_labels.specs.SetBy.{SetBy}
use Rattle.fl_ops.specs.declared.op.Body.{Body}
use Rattle.fl_ops.specs.OpOrder.{op_cmp}
use Rattle.fl_message.specs.declared.message.Data.{Data}
use Rattle.fl_jobs.specs.declared.answer.Reply.{Reply}
use Rattle.fl_jobs.specs.declared.job.Job.{Job}
use Rattle.fl_store.specs.Kept.{Kept, with_batch}
use Rattle.fl_system.specs.declared.answer.Answer.{Answer}
use Rattle.fl_system.specs.declared.answer.Fault.{Fault}
use Rattle.fl_system.specs.declared.state.Batch.{Batch}
use Rattle.fl_system.specs.declared.state.State.{State}
use Rattle.fl_system.specs.declared.state.State.TheVariants.{Stopped}
use Rattle.fl_system.specs.State.{NodeState, ops_of, kept_of}
use Rattle.fl_system.specs.Waiting.{IsRunning}
use Rattle.fl_system.specs.Begins.{Begins}
use Rattle.fl_system.specs.Jobs.{Jobs, Looks, looking, worked}
use Rattle.fl_system.specs.Receives.{Receives}
use Rattle.fl_system.specs.Arrives.{Arrives}
use Rattle.fl_system.specs.Saves.{Saves, stored}
use Rattle.fl_system.specs.Publishes.{Publishes, Cancels}
use Rattle.fl_system.specs.Openings.{Opens, OpensAgain, Restarts, Reopens, opened}
use Rattle.fl_system_laws.specs.Owned.{IsKeptOwn}

-- a node that ran, and goes on
runs_on : {n n' : NodeState} {k : Kept} → IsRunning n.state → kept_of n ≡ kept_of n' → IsKeptOwn n k → IsKeptOwn n' k
runs_on running e h = record { own = λ still. h.own running ∙ e }

runs_as : {s t : State} → s ≡ t → IsRunning t → IsRunning s
runs_as e running = subst IsRunning (sym e) running

pub begins_own : {n : NodeState} {body : Body} {maker : Option Pid} {desk : Option ℕ} {result : Result Name Fault}
    {n' : NodeState} {k : Kept} → IsKeptOwn n k → Begins n body maker desk result n' → IsKeptOwn n' k
begins_own h (Begins.begins idle next) = runs_on (runs_as idle tt) refl h
begins_own h (Begins.taken why) = h
begins_own h (Begins.spent idle last) = h

pub jobs_own : {n : NodeState} {desk upto : ℕ} {job : Job} {result : Result Answer Fault} {n' : NodeState} {k : Kept}
    → IsKeptOwn n k → Jobs n desk upto job result n' → IsKeptOwn n' k
jobs_own h (Jobs.stopped why) = h
jobs_own h (Jobs.no_room look less left) = runs_on look.running refl h
jobs_own h (Jobs.refused look decided) = runs_on look.running refl h
jobs_own h (Jobs.replied look decided) = runs_on look.running refl h
jobs_own h (Jobs.sent look decided) = runs_on look.running refl h
jobs_own {n} {desk} {upto} {job} h (Jobs.begun {v = v} {left = left} look decided begun) =
    begins_own {n = worked n desk v job left} (runs_on look.running refl h) begun
jobs_own h (Jobs.not_begun look decided begun) = runs_on look.running refl h

pub looks_own : {n : NodeState} {desk upto v : ℕ} (seen : ℕ) {k : Kept} → IsKeptOwn n k → Looks n desk upto v
    → IsKeptOwn (looking n desk seen) k
looks_own seen h look = runs_on look.running refl h

pub arrives_own : {n : NodeState} {d : Data} {result : Result Reply Fault} {n' : NodeState} {k : Kept}
    → IsKeptOwn n k → Arrives n d result n' → IsKeptOwn n' k
arrives_own h (Arrives.stopped why) = h
arrives_own h (Arrives.refused at) = runs_on at.running refl h
arrives_own h (Arrives.arrives at) = runs_on at.running refl h

pub receives_own : {n : NodeState} {ops : SetBy op_cmp} {result : Result ℕ Fault} {n' : NodeState} {k : Kept}
    → IsKeptOwn n k → Receives n ops result n' → IsKeptOwn n' k
receives_own h (Receives.stopped why) = h
receives_own h (Receives.no_room is some) = h
receives_own h (Receives.impostor is least fault) = h
receives_own h (Receives.clash is least fault) = h
receives_own h (Receives.nothing_new is can all) = h
receives_own h (Receives.taken op is can there lacks why) = h
receives_own h (Receives.receives is can lacking some) = runs_on (runs_as is tt) refl h

-- what is stored is kept
stored_own : (n : NodeState) (k : Kept) (batch : Batch) → IsRunning n.state → IsKeptOwn n k
    → IsKeptOwn (stored n batch) (with_batch k (ops_of batch))
stored_own n k batch running h =
    record { own = λ still. ap (λ (x : Kept). with_batch x (ops_of batch)) (h.own running) }

-- a node that is stopped
stops : {n : NodeState} {k : Kept} (doubt : Option Batch) → n.state ≡ Stopped doubt → IsKeptOwn n k
stops doubt is = record { own = λ running. absurd (subst IsRunning is running) }

pub saves_own : {n : NodeState} {k : Kept} {result : Result (Unit {0}) Fault} {n' : NodeState} {k' : Kept}
    → IsKeptOwn n k → Saves n k result n' k' → IsKeptOwn n' k'
saves_own {n} {k} h (Saves.saved {batch = batch} is) = stored_own n k batch (runs_as is tt) h
saves_own h (Saves.no_room is) = h
saves_own h (Saves.failed {batch = batch} is left) = stops (Some batch) refl
saves_own h (Saves.none why) = h

pub publishes_own : {n : NodeState} {result : Result ℕ Fault} {n' : NodeState} {k : Kept}
    → IsKeptOwn n k → Publishes n result n' → IsKeptOwn n' k
publishes_own h (Publishes.published is) = runs_on (runs_as is tt) refl h
publishes_own h (Publishes.no_room is) = h
publishes_own h (Publishes.none why) = h

pub cancels_own : {n : NodeState} {result : Result (Unit {0}) Fault} {n' : NodeState} {k : Kept}
    → IsKeptOwn n k → Cancels n result n' → IsKeptOwn n' k
cancels_own h (Cancels.given_up is) = runs_on (runs_as is tt) refl h
cancels_own h (Cancels.none why) = h

pub opened_own : (desks : ℕ) (k : Kept) → IsKeptOwn (opened desks k) (record k { boot = (opened desks k).boot })
opened_own desks k = record { own = λ running. refl }

pub again_own : {n : NodeState} {doubt : Option Batch} {k : Kept} {result : Result ℕ Fault} {n' : NodeState} {k' : Kept}
    → OpensAgain n doubt k result n' k' → IsKeptOwn n' k'
again_own (OpensAgain.opens (Opens.opens own left)) = record { own = λ running. refl }
again_own {doubt = doubt} (OpensAgain.stays h) = stops doubt refl

pub restarts_own : {n : NodeState} {k : Kept} {keeps : Bool} {result : Result ℕ Fault} {n' : NodeState} {k' : Kept}
    → IsKeptOwn n k → Restarts n k keeps result n' k' → IsKeptOwn n' k'
restarts_own h (Restarts.not_saved kept is f) = saves_own h f
restarts_own h (Restarts.saved kept is again) = again_own again
restarts_own h (Restarts.lost lost is again) = again_own again
restarts_own h (Restarts.idle is again) = again_own again
restarts_own h (Restarts.due is again) = again_own again
restarts_own h (Restarts.stopped is again) = again_own again

pub reopened_own : {n : NodeState} {k : Kept} {boot : ℕ} {n' : NodeState} {k' : Kept}
    → Reopens n k (Ok boot) n' k' → IsKeptOwn n' k'
reopened_own (Reopens.reopens is again) = again_own again
