-- A weave is one run of the node, event by event, and what is kept is what the node has saved,
-- before and after.
use Rattle.std.proofs.Common.{◌≡◌, ℕ, List, [], ◌∷◌, ◌++◌, Option, Result, Ok, refl, sym, ap, ◌∙◌}
use Rattle.std.proofs.Common.{subst}
use Rattle.fl_labels.specs.declared.name.Name.{Name}
use Rattle.fl_labels.specs.declared.pid.Pid.{Pid}
use Rattle.fl_ops.specs.declared.op.Op.{Op}
use Rattle.fl_ops.specs.declared.op.Body.{Body}
use Rattle.fl_message.specs.declared.message.Data.{Data}
use Rattle.fl_jobs.specs.declared.job.Job.{Job}
use Rattle.fl_jobs.specs.declared.job.Job.TheVariants as jobs
use Rattle.fl_jobs.specs.declared.answer.Reply.{Reply}
use Rattle.fl_store.specs.Kept.{Kept, with_batch}
use Rattle.fl_system.specs.declared.answer.Answer.{Answer}
use Rattle.fl_system.specs.declared.answer.Fault.{Fault}
use Rattle.fl_system.specs.State.{NodeState, kept_of, ops_of}
use Rattle.fl_system.specs.Begins.{Begins}
use Rattle.fl_system.specs.Jobs.{Jobs}
use Rattle.fl_system.specs.Arrives.{Arrives}
use Rattle.fl_system.specs.Receives.{Receives}
use Rattle.fl_system.specs.Saves.{Saves}
use Rattle.fl_system.specs.Publishes.{Publishes}
use Rattle.fl_system.specs.WorldSteps.{IsArrival}
use Rattle.fl_labels.specs.SetBy.{SetBy}
use Rattle.fl_ops.specs.OpOrder.{op_cmp}
use Rattle.fl_crew_model.specs.declared.record.Ruling.{Ruling}
use Rattle.fl_crew_model.specs.declared.record.Entry.{Entry}
use Rattle.fl_crew_model.specs.declared.record.Verdict.{Verdict}
use Rattle.fl_crew_model.specs.declared.record.Delivery.{Delivery}
use Rattle.fl_crew_model.specs.declared.record.Deed.{Deed}
use Rattle.fl_crew_model.specs.Woven.{placed, SavesAll, Receiving, Goes, Delivers, Turn, Entered}
use Rattle.fl_crew_model.specs.Woven.{Packet, IsTurn, Woven}
use Rattle.fl_crew_model.specs.Run.{Event, Runs, job_event, entry_events, packet_events}
use Rattle.fl_crew_model.specs.Run.{turn_events, events}

-- ---- what a call leaves as it was

begins_kept : {n : NodeState} {body : Body} {maker : Option Pid} {desk : Option ℕ}
    {r : Result Name Fault} {n' : NodeState} → Begins n body maker desk r n'
    → kept_of n' ≡ kept_of n
begins_kept (Begins.begins idle next) = refl
begins_kept (Begins.taken why) = refl
begins_kept (Begins.spent idle last) = refl

jobs_kept : {n : NodeState} {desk upto : ℕ} {job : Job} {r : Result Answer Fault} {n' : NodeState}
    → Jobs n desk upto job r n' → kept_of n' ≡ kept_of n
jobs_kept (Jobs.stopped why) = refl
jobs_kept (Jobs.no_room look more w) = refl
jobs_kept (Jobs.refused look d) = refl
jobs_kept (Jobs.replied look d) = refl
jobs_kept (Jobs.sent look d) = refl
jobs_kept (Jobs.begun look d begin) = begins_kept begin
jobs_kept (Jobs.not_begun look d begin) = refl

arrives_kept : {n : NodeState} {d : Data} {r : Result Reply Fault} {n' : NodeState}
    → Arrives n d r n' → kept_of n' ≡ kept_of n
arrives_kept (Arrives.stopped why) = refl
arrives_kept (Arrives.refused at) = refl
arrives_kept (Arrives.arrives at) = refl

receives_kept : {n : NodeState} {ops : SetBy op_cmp} {r : Result ℕ Fault} {n' : NodeState}
    → Receives n ops r n' → kept_of n' ≡ kept_of n
receives_kept (Receives.stopped why) = refl
receives_kept (Receives.no_room on some) = refl
receives_kept (Receives.impostor on first bad) = refl
receives_kept (Receives.clash on first bad) = refl
receives_kept (Receives.nothing_new on may all) = refl
receives_kept (Receives.taken op on may there new why) = refl
receives_kept (Receives.receives idle may lacking some) = refl

publishes_kept : {n : NodeState} {r : Result ℕ Fault} {n' : NodeState} → Publishes n r n'
    → kept_of n' ≡ kept_of n
publishes_kept (Publishes.published is) = refl
publishes_kept (Publishes.no_room is) = refl
publishes_kept (Publishes.none why) = refl

-- what is kept after a saving is what the node has saved
saves_kept : {n : NodeState} {k : Kept} {r : Result (Unit {0}) Fault} {n' : NodeState} {k' : Kept}
    → Saves n k r n' k' → r ≡ Ok tt → k ≡ kept_of n → k' ≡ kept_of n'
saves_kept (Saves.saved {batch} is) fine same = ap (λ (x : Kept). with_batch x (ops_of batch)) same
saves_kept (Saves.no_room is) fine same = absurd (cc)
saves_kept (Saves.failed is left) fine same = absurd (cc)
saves_kept (Saves.none why) fine same = absurd (cc)

-- ---- one turn

-- where what is kept is what the node has saved
abbrev GoesOn : NodeState → List Event → NodeState → Type 0
GoesOn n es n' = Runs n (kept_of n) es n' (kept_of n')

follows : (n mid n' : NodeState) (k kept k' : Kept) (xs ys : List Event) → Runs n k xs mid kept
    → Runs mid kept ys n' k' → Runs n k (xs ++ ys) n' k'
follows n mid n' k kept k' [] ys h g =
    subst (λ (x : NodeState). Runs x k ys n' k') h.0
    (subst (λ (x : Kept). Runs mid x ys n' k') h.1 g)
follows n mid n' k kept k' (x ∷ xs) ys (next, held, step, h) g =
    (next, held, step, follows next mid n' held kept k' xs ys h g)

one_job : (n : NodeState) (w seen : ℕ) (job : Job) (r : Result Answer Fault) (n' : NodeState)
    → Jobs (placed n w) w seen job r n' → GoesOn n (Event.Do w seen job ∷ []) n'
one_job n w seen job r n' h = (n', kept_of n, (r, h, refl), (refl, jobs_kept h))

own_job : (n : NodeState) (w seen : ℕ) (job : Job) (r : Result Answer Fault) (n' : NodeState)
    → ¬ IsArrival job → Jobs (placed n w) w seen job r n' → GoesOn n (job_event w seen job ∷ []) n'
own_job n w seen jobs.Proc r n' other h = one_job n w seen jobs.Proc r n' h
own_job n w seen (jobs.Member root c) r n' other h = one_job n w seen (jobs.Member root c) r n' h
own_job n w seen (jobs.By pid act) r n' other h = one_job n w seen (jobs.By pid act) r n' h
own_job n w seen (jobs.Arrive d) r n' other h = absurd (other tt)

-- the saving and the publication behind it
stored_and_told : (n mid n' : NodeState) (ops : List Op) (r : Result ℕ Fault) → SavesAll n ops mid
    → Publishes mid r n' → GoesOn n (Event.Save ∷ Event.Publish ∷ []) n'
stored_and_told n mid n' ops r saves publishes =
    let kept : with_batch (kept_of n) ops ≡ kept_of mid =
    saves_kept (saves (kept_of n)) refl refl in (
      mid,
      with_batch (kept_of n) ops,
      (Ok tt, saves (kept_of n)),
      (
        n',
        with_batch (kept_of n) ops,
        (r, publishes, refl),
        (refl, publishes_kept publishes ∙ sym kept),
      ),
    )

before_it : (n mid n' : NodeState) (event : Event) (es : List Event) → GoesOn n (event ∷ []) mid
    → GoesOn mid es n' → GoesOn n (event ∷ es) n'
before_it n mid n' event es h g =
    follows n mid n' (kept_of n) (kept_of mid) (kept_of n') (event ∷ []) es h g

entry_runs : (n : NodeState) (w : ℕ) (e : Entry) (n' : NodeState) → Goes n w e n'
    → GoesOn n (entry_events w e.seen e.job.value e.ruling) n'
entry_runs n w e n' (Goes.alone none other h) =
    subst (λ (a : Option Ruling). GoesOn n (entry_events w e.seen e.job.value a) n') (sym none)
    (own_job n w e.seen e.job.value _ n' other h)
entry_runs n w e n' (Goes.arrived d r none job is h) =
    subst (λ (a : Option Ruling). GoesOn n (entry_events w e.seen e.job.value a) n') (sym none)
    (subst (λ (j : Job). GoesOn n (job_event w e.seen j ∷ []) n') (sym job)
    (n', kept_of n, (r, h, refl), (refl, arrives_kept h)))
entry_runs n w e n' (Goes.made op begun saved is told job saves publishes) =
    subst (λ (a : Option Ruling). GoesOn n (entry_events w e.seen e.job.value a) n') (sym is)
    (before_it n begun n' (Event.Do w e.seen e.job.value) (Event.Save ∷ Event.Publish ∷ [])
    (one_job n w e.seen e.job.value _ begun job)
    (stored_and_told begun saved n' (op ∷ []) _ saves publishes))
entry_runs n w e n' (Goes.late op maker begun is told job saves publishes) =
    subst (λ (a : Option Ruling). GoesOn n (entry_events w e.seen e.job.value a) n') (sym is)
    (before_it n begun n' (Event.Do w e.seen e.job.value) (Event.Save ∷ Event.Publish ∷ [])
    (one_job n w e.seen e.job.value _ begun job)
    (stored_and_told begun n' n' (op ∷ []) _ saves publishes))
entry_runs n w e n' (Goes.given_up reason is told job) =
    subst (λ (a : Option Ruling). GoesOn n (entry_events w e.seen e.job.value a) n') (sym is)
    (one_job n w e.seen e.job.value _ n' job)

one_receive : (n : NodeState) (p : Delivery) (r : Result ℕ Fault) (n' : NodeState)
    → Receiving n p.ops r n' → GoesOn n (Event.Receive p.ops ∷ []) n'
one_receive n p r n' h = (n', kept_of n, (r, h, refl), (refl, receives_kept h))

packet_runs : (n : NodeState) (p : Delivery) (n' : NodeState) → Delivers n p n'
    → GoesOn n (packet_events p.ops p.verdict) n'
packet_runs n p n' (Delivers.taken count new begun saved is some answer took saves publishes) =
    subst (λ (v : Verdict). GoesOn n (packet_events p.ops v) n') (sym is)
    (before_it n begun n' (Event.Receive p.ops) (Event.Save ∷ Event.Publish ∷ [])
    (one_receive n p _ begun took) (stored_and_told begun saved n' new _ saves publishes))
packet_runs n p n' (Delivers.late count new begun is some answer took saves publishes) =
    subst (λ (v : Verdict). GoesOn n (packet_events p.ops v) n') (sym is)
    (before_it n begun n' (Event.Receive p.ops) (Event.Save ∷ Event.Publish ∷ [])
    (one_receive n p _ begun took) (stored_and_told begun n' n' new _ saves publishes))
packet_runs n p n' (Delivers.declined is took) =
    subst (λ (v : Verdict). GoesOn n (packet_events p.ops v) n') (sym is)
    (one_receive n p _ n' took)

turn_runs : (n : NodeState) (rs : List Deed) (t : Turn) (n' : NodeState) (rest : List Deed)
    → IsTurn n rs t n' rest → GoesOn n (turn_events t) n'
turn_runs n rs (Entered w e) n' rest h = entry_runs n w e n' h.goes
turn_runs n rs (Packet p) n' rest h = packet_runs n p n' h.goes

pub woven_runs : (n : NodeState) (rs : List Deed) (ts : List Turn) (n' : NodeState)
    → Woven n rs ts n' → Runs n (kept_of n) (events ts) n' (kept_of n')
woven_runs n rs [] n' h = (h.0, ap kept_of h.0)
woven_runs n rs (t ∷ ts) n' (mid, rest, turn, h) =
    follows n mid n' (kept_of n) (kept_of mid) (kept_of n') (turn_events t) (events ts)
    (turn_runs n rs t mid rest turn) (woven_runs mid rest ts n' h)
