-- Each node of a world that a run leads to has as many desks as the world says.
use Rattle.std.proofs.Common.{◌≡◌, ◌≢◌, ◌<◌, ◌≤◌, ◌∙◌, inr, ℕ, zero, suc, Bool, List, [], ◌∷◌, length, Option, None, Some, Result, refl, subst, arith}
use Rattle.std.specs.FinMap as map
use Rattle.std.specs.Ordering.{nat_cmp}
use Rattle.fl_labels.specs.declared.name.Name.{Name}
use Rattle.fl_labels.specs.declared.pid.Pid.{Pid}
use Rattle.fl_labels.specs.SetBy.{SetBy}
use Rattle.fl_ops.specs.OpOrder.{op_cmp}
use Rattle.fl_ops.specs.declared.op.Body.{Body}
use Rattle.fl_message.specs.declared.message.Data.{Data}
use Rattle.fl_jobs.specs.declared.job.Job.{Job as AnyJob}
use Rattle.fl_jobs.specs.declared.answer.Reply.{Reply as JobReply}
use Rattle.fl_bench.specs.laws.Puts.{none_some}
use Rattle.fl_store.specs.Kept.{Kept, raised}
use Rattle.fl_system.specs.declared.answer.Answer.{Answer}
use Rattle.fl_system.specs.declared.answer.Fault.{Fault}
use Rattle.fl_system.specs.declared.event.Event.{Event}
use Rattle.fl_system.specs.declared.event.Event.TheVariants.{Job, Save, Publish, Cancel, Restart, Tell, Deliver}
use Rattle.fl_system.specs.declared.reply.Reply.{Reply}
use Rattle.fl_system.specs.declared.state.Batch.{Batch}
use Rattle.fl_system.specs.declared.state.Batch.TheVariants.{Ordered, Received}
use Rattle.fl_system.specs.Numbered.{item_at}
use Rattle.fl_system.specs.State.{NodeState}
use Rattle.fl_system.specs.Begins.{Begins}
use Rattle.fl_system.specs.Jobs.{Jobs}
use Rattle.fl_system.specs.Receives.{Receives}
use Rattle.fl_system.specs.Arrives.{Arrives}
use Rattle.fl_system.specs.Saves.{Saves}
use Rattle.fl_system.specs.Publishes.{Publishes, Cancels, told}
use Rattle.fl_system.specs.Openings.{Opens, OpensAgain, Restarts, opened}
use Rattle.fl_system.specs.World.{World, KeptNode, empty_world}
use Rattle.fl_system.specs.WorldSteps.{IsAt, Step}
use Rattle.fl_system.specs.Runs.{Moment, Happens, IsRun, IsReached, end}
use Rattle.fl_system_laws.specs.Goes.{Goes, Calls}
use Rattle.fl_system_laws.specs.laws.Going.{moves_goes}
use Rattle.fl_system_laws.specs.laws.Numbered.{length-with, length-items}
use Rattle.fl_world_laws.specs.laws.Nodes.{Now, is_new, is_old, now}
use Rattle.fl_one_laws.specs.Ample.{HasDesk, IsAtDesk}

-- there is an item of each number up to the length
pub item_within : {A : Type 0} (xs : List A) (k : ℕ) → 0 < k → k ≤ length xs → item_at xs k ≢ None
item_within [] k some within e = omega (arith, some, within)
item_within (x ∷ xs) zero some within e = omega (arith, some)
item_within (x ∷ xs) (suc zero) some within e = cc
item_within (x ∷ xs) (suc (suc k)) some within e =
    item_within xs (suc k) (omega arith) (omega (arith, within)) e

-- ---- a call leaves the number of desks

-- as many desks as before
abbrev Keeps : NodeState → NodeState → Type 0
Keeps n n' = length n'.views ≡ length n.views

begins_keeps : {n : NodeState} {body : Body} {maker : Option Pid} {desk : Option ℕ} {r : Result Name Fault} {a : NodeState}
    → Begins n body maker desk r a → Keeps n a
begins_keeps (Begins.begins idle next) = refl
begins_keeps (Begins.taken why) = refl
begins_keeps (Begins.spent idle last) = refl

jobs_keeps : {n : NodeState} {desk upto : ℕ} {job : AnyJob} {r : Result Answer Fault} {a : NodeState}
    → Jobs n desk upto job r a → Keeps n a
jobs_keeps (Jobs.stopped why) = refl
jobs_keeps {n} {desk} (Jobs.no_room {w = v} look more seen) = length-with n.views desk v
jobs_keeps {n} {desk} (Jobs.refused {v} look decides) = length-with n.views desk v
jobs_keeps {n} {desk} (Jobs.replied {v} look decides) = length-with n.views desk v
jobs_keeps {n} {desk} (Jobs.sent {v} look decides) = length-with n.views desk v
jobs_keeps {n} {desk} (Jobs.begun {v} look decides start) = begins_keeps start ∙ length-with n.views desk v
jobs_keeps {n} {desk} (Jobs.not_begun {v} look decides start) = length-with n.views desk v

receives_keeps : {n : NodeState} {ops : SetBy op_cmp} {r : Result ℕ Fault} {a : NodeState} → Receives n ops r a → Keeps n a
receives_keeps (Receives.stopped why) = refl
receives_keeps (Receives.no_room runs some) = refl
receives_keeps (Receives.impostor runs first bad) = refl
receives_keeps (Receives.clash runs first bad) = refl
receives_keeps (Receives.nothing_new runs can all) = refl
receives_keeps (Receives.taken op runs can there new busy) = refl
receives_keeps (Receives.receives idle can are some) = refl

arrives_keeps : {n : NodeState} {d : Data} {r : Result JobReply Fault} {a : NodeState} → Arrives n d r a → Keeps n a
arrives_keeps (Arrives.stopped why) = refl
arrives_keeps (Arrives.refused h) = refl
arrives_keeps (Arrives.arrives h) = refl

saves_keeps : {n : NodeState} {k : Kept} {r : Result (Unit {0}) Fault} {a : NodeState} {x : Kept} → Saves n k r a x → Keeps n a
saves_keeps (Saves.saved e) = refl
saves_keeps (Saves.no_room e) = refl
saves_keeps (Saves.failed e left) = refl
saves_keeps (Saves.none why) = refl

told_keeps : (batch : Batch) (count : ℕ) (views : List ℕ) → length (told batch count views) ≡ length views
told_keeps (Ordered op maker None) count views = refl
told_keeps (Ordered op maker (Some desk)) count views = length-with views desk count
told_keeps (Received ops) count views = refl

publishes_keeps : {n : NodeState} {r : Result ℕ Fault} {a : NodeState} → Publishes n r a → Keeps n a
publishes_keeps {n} (Publishes.published {batch} e) = told_keeps batch _ n.views
publishes_keeps (Publishes.no_room e) = refl
publishes_keeps (Publishes.none why) = refl

cancels_keeps : {n : NodeState} {r : Result (Unit {0}) Fault} {a : NodeState} → Cancels n r a → Keeps n a
cancels_keeps (Cancels.given_up e) = refl
cancels_keeps (Cancels.none why) = refl

opened_desks : (desks : ℕ) (k : Kept) → length (opened desks k).views ≡ desks
opened_desks desks k = length-items desks _

again_keeps : {n : NodeState} {doubt : Option Batch} {k : Kept} {r : Result ℕ Fault} {a : NodeState} {x : Kept}
    → OpensAgain n doubt k r a x → Keeps n a
again_keeps {n} {k = k} (OpensAgain.opens (Opens.opens own left)) = opened_desks (length n.views) k
again_keeps (OpensAgain.stays fails) = refl

restarts_keeps : {n : NodeState} {k : Kept} {keeps : Bool} {r : Result ℕ Fault} {a : NodeState} {x : Kept}
    → Restarts n k keeps r a x → Keeps n a
restarts_keeps (Restarts.not_saved on e h) = saves_keeps h
restarts_keeps (Restarts.saved on e h) = again_keeps h
restarts_keeps (Restarts.lost off e h) = again_keeps h
restarts_keeps (Restarts.idle e h) = again_keeps h
restarts_keeps (Restarts.due e h) = again_keeps h
restarts_keeps (Restarts.stopped e h) = again_keeps h

calls_keeps : {w : World} {s : KeptNode} {a : NodeState} {x : Kept} → Calls w s a x → Keeps s.node a
calls_keeps (Calls.jobs h) = jobs_keeps h
calls_keeps {s = s} (Calls.looks {desk} seen look is) = length-with s.node.views desk seen
calls_keeps (Calls.receives sent there h) = receives_keeps h
calls_keeps (Calls.arrives h) = arrives_keeps h
calls_keeps (Calls.saves h) = saves_keeps h
calls_keeps (Calls.publishes h) = publishes_keeps h
calls_keeps (Calls.cancels h) = cancels_keeps h
calls_keeps (Calls.restarts h) = restarts_keeps h
calls_keeps (Calls.reopens e h) = again_keeps h

-- ---- worlds

-- each node has as many desks as the world says
abbrev pub HaveDesks : World → Type 0
HaveDesks w = (number : ℕ) (s : KeptNode) → IsAt w number s → length s.node.views ≡ w.desks

put_desks : (w : World) (number : ℕ) (new : KeptNode) → HaveDesks w → length new.node.views ≡ w.desks
    → (m : ℕ) (x : KeptNode) → map.get (map.insert w.nodes number new) m ≡ Some x → length x.node.views ≡ w.desks
put_desks w number new have is m x e = by_now (now w.nodes number new m x e)
  where
    by_now : Now w.nodes number new m x → length x.node.views ≡ w.desks
    by_now (is_new at same) = subst (λ (y : KeptNode). length y.node.views ≡ w.desks) same is
    by_now (is_old other there) = have m x there

goes_desks : {w a : World} → Goes w a → HaveDesks w → HaveDesks a × (a.desks ≡ w.desks)
goes_desks Goes.stays have = (have, refl)
goes_desks (Goes.tells number told at saved) have = (have, refl)
goes_desks {w} (Goes.calls number {s} {n} {k} sent admitted at does none) have =
    (put_desks w number (record { node = n; kept = k }) have (calls_keeps does ∙ have number s at), refl)
goes_desks {w} (Goes.joins number {k} may) have =
    (put_desks w number (record { node = opened w.desks k; kept = raised k }) have (opened_desks w.desks k), refl)

pub step_desks : {w a : World} {event : Event} {r : Reply} → Step w event r a → HaveDesks w
    → HaveDesks a × (a.desks ≡ w.desks)
step_desks {w} {a} {event} {r} h have = goes_desks (moves_goes w (Happens event) r a h) have

run_desks : (w : World) (ms : List Moment) → IsRun w ms → HaveDesks w → HaveDesks (end w ms)
run_desks w [] run have = have
run_desks w (m ∷ ms) run have =
    run_desks m.after ms run.1 (goes_desks (moves_goes w m.move m.reply m.after run.0) have).0

pub reached_desks : (w : World) → IsReached w → HaveDesks w
reached_desks w reached =
    subst HaveDesks reached.leads (run_desks (empty_world reached.desks) reached.moments reached.is_run
    (λ number s e. absurd (none_some (map.get-empty nat_cmp number) e)))

-- each of so many desks is there
pub at_desk : (w : World) → HaveDesks w → (event : Event) → IsAtDesk w.desks event → HasDesk w event
at_desk w have (Job number desk upto job) is =
    λ s at. let count = have number s at in inr (item_within s.node.views desk is.0 (omega (arith, count, is.1)))
at_desk w have (Save number) is = tt
at_desk w have (Publish number) is = tt
at_desk w have (Cancel number) is = tt
at_desk w have (Restart number keeps) is = tt
at_desk w have (Tell number) is = tt
at_desk w have (Deliver packet number) is = tt
