-- A node that runs has published all that it saved, but for what is due, by each call.
use Rattle.std.proofs.Common.{◌≡◌, inl, inr, ℕ, Bool, Result, Some, length, refl, sym, subst}
use Rattle.std.specs.List.{Contains}
use Rattle.std.specs.declared.option.Option.{Option}
use Rattle.std.proofs.lemmas.List.Elements.{Contains-append_left, Contains-append_right}
use Rattle.fl_labels.specs.declared.name.Name.{Name}
use Rattle.fl_labels.specs.declared.pid.Pid.{Pid}
use Rattle.fl_labels.specs.SetBy.{SetBy, In}
use Rattle.fl_ops.specs.declared.op.Op.{Op}
use Rattle.fl_ops.specs.declared.op.Body.{Body}
use Rattle.fl_ops.specs.OpOrder.{op_cmp}
use Rattle.fl_opset.specs.laws.Members.{member_listed}
use Rattle.fl_message.specs.declared.message.Data.{Data}
use Rattle.fl_jobs.specs.declared.answer.Reply.{Reply}
use Rattle.fl_jobs.specs.declared.job.Job.{Job}
use Rattle.fl_store.specs.Kept.{Kept}
use Rattle.fl_system.specs.declared.answer.Answer.{Answer}
use Rattle.fl_system.specs.declared.answer.Fault.{Fault}
use Rattle.fl_system.specs.declared.state.Batch.{Batch}
use Rattle.fl_system.specs.declared.state.Pending.TheVariants.{Nothing}
use Rattle.fl_system.specs.declared.state.State.{State}
use Rattle.fl_system.specs.declared.state.State.TheVariants.{Running, Stopped}
use Rattle.fl_system.specs.State.{NodeState, ops_of}
use Rattle.fl_system.specs.Waiting.{IsRunning}
use Rattle.fl_system.specs.Begins.{Begins}
use Rattle.fl_system.specs.Jobs.{Jobs, Looks, looking, worked}
use Rattle.fl_system.specs.Receives.{Receives}
use Rattle.fl_system.specs.Arrives.{Arrives}
use Rattle.fl_system.specs.Saves.{Saves}
use Rattle.fl_system.specs.Publishes.{Publishes, Cancels}
use Rattle.fl_system.specs.Openings.{Opens, OpensAgain, Restarts, Reopens, opened}
use Rattle.fl_system_laws.specs.Sound.{IsDue}
use Rattle.fl_system_laws.specs.Owned.{IsWhole}
use Rattle.fl_system_laws.specs.laws.Steps.{with_ops_cases}

-- a node with the same operations and the same on the way
same_whole : {n n' : NodeState} → n.saved ≡ n'.saved → n.published ≡ n'.published → n.state ≡ n'.state
    → IsWhole n → IsWhole n'
same_whole {n} {n'} saved published state h =
    record {
      whole =
          λ running op i. elim (h.whole (subst IsRunning (sym state) running) op (subst (λ s. In s op) (sym saved) i)) [
            | inl p ↦ inl (subst (λ l. Contains l op) published p)
            | inr d ↦ inr (subst (λ (s : State). IsDue s op) state d)
          ];
    }

runs_as : {s t : State} → s ≡ t → IsRunning t → IsRunning s
runs_as e running = subst IsRunning (sym e) running

-- where nothing was due, all that is saved is published, whatever is on the way then
pub all_published : {n : NodeState} → IsWhole n → IsRunning n.state → ((op : Op) → ¬ IsDue n.state op) → (op : Op)
    → In n.saved op → Contains n.published op
all_published h running none op i = elim (h.whole running op i) [ inl p ↦ p | inr d ↦ absurd (none op d) ]

nothing_due : {s t : State} → s ≡ t → ((op : Op) → ¬ IsDue t op) → (op : Op) → ¬ IsDue s op
nothing_due e none op = subst (λ (s : State). ¬ IsDue s op) (sym e) (none op)

-- Where nothing was due, and the saved set and the list stay.
undue_whole : {n n' : NodeState} {to : State} → n.state ≡ to → IsRunning to → ((op : Op) → ¬ IsDue to op)
    → n.saved ≡ n'.saved → n.published ≡ n'.published → IsWhole n → IsWhole n'
undue_whole {n} {n'} is runs none saved published h =
    record {
      whole = λ running op i. inl (subst (λ l. Contains l op) published (
          all_published h (runs_as is runs) (nothing_due is none) op (subst (λ s. In s op) (sym saved) i)));
    }

pub begins_whole : {n : NodeState} {body : Body} {maker : Option Pid} {desk : Option ℕ} {result : Result Name Fault}
    {n' : NodeState} → IsWhole n → Begins n body maker desk result n' → IsWhole n'
begins_whole h (Begins.begins idle next) = undue_whole idle tt (λ op d. d) refl refl h
begins_whole h (Begins.taken why) = h
begins_whole h (Begins.spent idle last) = h

pub jobs_whole : {n : NodeState} {desk upto : ℕ} {job : Job} {result : Result Answer Fault} {n' : NodeState}
    → IsWhole n → Jobs n desk upto job result n' → IsWhole n'
jobs_whole h (Jobs.stopped why) = h
jobs_whole h (Jobs.no_room look less left) = same_whole refl refl refl h
jobs_whole h (Jobs.refused look decided) = same_whole refl refl refl h
jobs_whole h (Jobs.replied look decided) = same_whole refl refl refl h
jobs_whole h (Jobs.sent look decided) = same_whole refl refl refl h
jobs_whole {n} {desk} {upto} {job} h (Jobs.begun {v = v} {left = left} look decided begun) =
    begins_whole {n = worked n desk v job left} (same_whole refl refl refl h) begun
jobs_whole h (Jobs.not_begun look decided begun) = same_whole refl refl refl h

pub looks_whole : {n : NodeState} {desk upto v : ℕ} (seen : ℕ) → IsWhole n → Looks n desk upto v
    → IsWhole (looking n desk seen)
looks_whole seen h look = same_whole refl refl refl h

pub arrives_whole : {n : NodeState} {d : Data} {result : Result Reply Fault} {n' : NodeState}
    → IsWhole n → Arrives n d result n' → IsWhole n'
arrives_whole h (Arrives.stopped why) = h
arrives_whole h (Arrives.refused at) = same_whole refl refl refl h
arrives_whole h (Arrives.arrives at) = same_whole refl refl refl h

pub receives_whole : {n : NodeState} {ops : SetBy op_cmp} {result : Result ℕ Fault} {n' : NodeState}
    → IsWhole n → Receives n ops result n' → IsWhole n'
receives_whole h (Receives.stopped why) = h
receives_whole h (Receives.no_room is some) = h
receives_whole h (Receives.impostor is least fault) = h
receives_whole h (Receives.clash is least fault) = h
receives_whole h (Receives.nothing_new is can all) = h
receives_whole h (Receives.taken op is can there lacks why) = h
receives_whole h (Receives.receives is can lacking some) = undue_whole is tt (λ op d. d) refl refl h

-- a node that is stopped
stops : {n : NodeState} (doubt : Option Batch) → n.state ≡ Stopped doubt → IsWhole n
stops doubt is = record { whole = λ running op i. absurd (subst IsRunning is running) }

pub saves_whole : {n : NodeState} {k : Kept} {result : Result (Unit {0}) Fault} {n' : NodeState} {k' : Kept}
    → IsWhole n → Saves n k result n' k' → IsWhole n'
saves_whole {n} h (Saves.saved {batch = batch} is) =
    record {
      whole = λ running op i. elim (with_ops_cases n.saved (ops_of batch) op i) [
        | inl was ↦ inl (all_published h (runs_as is tt) (nothing_due is (λ op d. d)) op was)
        | inr new ↦ inr new
      ];
    }
saves_whole h (Saves.no_room is) = h
saves_whole h (Saves.failed {batch = batch} is left) = stops (Some batch) refl
saves_whole h (Saves.none why) = h

pub publishes_whole : {n : NodeState} {result : Result ℕ Fault} {n' : NodeState}
    → IsWhole n → Publishes n result n' → IsWhole n'
publishes_whole {n} h (Publishes.published {batch = batch} is) =
    record {
      whole = λ running op i. elim (h.whole (runs_as is tt) op i) [
        | inl p ↦ inl (Contains-append_left n.published (ops_of batch) op p)
        | inr d ↦ inl (Contains-append_right n.published (ops_of batch) op (subst (λ (s : State). IsDue s op) is d))
      ];
    }
publishes_whole h (Publishes.no_room is) = h
publishes_whole h (Publishes.none why) = h

pub cancels_whole : {n : NodeState} {result : Result (Unit {0}) Fault} {n' : NodeState}
    → IsWhole n → Cancels n result n' → IsWhole n'
cancels_whole h (Cancels.given_up is) = undue_whole is tt (λ op d. d) refl refl h
cancels_whole h (Cancels.none why) = h

pub opened_whole : (desks : ℕ) (k : Kept) → IsWhole (opened desks k)
opened_whole desks k = record { whole = λ running op i. inl (member_listed k.saved op i) }

pub again_whole : {n : NodeState} {doubt : Option Batch} {k : Kept} {result : Result ℕ Fault} {n' : NodeState}
    {k' : Kept}
    → OpensAgain n doubt k result n' k' → IsWhole n'
again_whole {n} {k = k} (OpensAgain.opens (Opens.opens own left)) = opened_whole (length n.views) k
again_whole {doubt = doubt} (OpensAgain.stays h) = stops doubt refl

pub restarts_whole : {n : NodeState} {k : Kept} {keeps : Bool} {result : Result ℕ Fault} {n' : NodeState} {k' : Kept}
    → IsWhole n → Restarts n k keeps result n' k' → IsWhole n'
restarts_whole h (Restarts.not_saved kept is f) = saves_whole h f
restarts_whole h (Restarts.saved kept is again) = again_whole again
restarts_whole h (Restarts.lost lost is again) = again_whole again
restarts_whole h (Restarts.idle is again) = again_whole again
restarts_whole h (Restarts.due is again) = again_whole again
restarts_whole h (Restarts.stopped is again) = again_whole again

pub reopens_whole : {n : NodeState} {k : Kept} {result : Result ℕ Fault} {n' : NodeState} {k' : Kept}
    → IsWhole n → Reopens n k result n' k' → IsWhole n'
reopens_whole h (Reopens.reopens is again) = again_whole again
reopens_whole h (Reopens.running is) = h

-- where nothing is pending, all that is saved is published
pub idle_whole : {n : NodeState} → IsWhole n → n.state ≡ Running Nothing → (op : Op) → In n.saved op
    → Contains n.published op
idle_whole h is op i = all_published h (runs_as is tt) (nothing_due is (λ o d. d)) op i
