-- What an order, a packet that is sent, a refusal, a finish and a cancel leave.
use Rattle.std.proofs.Common.{◌≡◌, ◌∙◌, refl, ap, false, List, Ok, Err, []}
use Rattle.std.specs.FinMap as map
use Rattle.fl_labels.specs.SetBy as set
use Rattle.fl_labels.specs.PidOrder.{pid_total, pid_exact}
use Rattle.fl_labels.specs.declared.cap.Cap.{Cap}
use Rattle.fl_labels.specs.declared.pid.Pid.{Pid}
use Rattle.fl_ops.specs.declared.op.Op.{Op}
use Rattle.fl_ops.specs.declared.op.Body.{Body}
use Rattle.fl_jobs.specs.declared.job.Job.{Job}
use Rattle.fl_jobs.specs.declared.answer.Refusal.{Refusal}
use Rattle.fl_jobs.specs.declared.answer.Outcome.{Outcome}
use Rattle.fl_message.specs.declared.message.Data.{Data}
use Rattle.fl_bench.specs.Process.{owns, is_busy, ordering}
use Rattle.fl_bench.specs.Bench.{BenchState, has_at}
use Rattle.fl_bench.specs.Gifts.{given, receives, settles, finished, cancelled}
use Rattle.fl_bench.specs.Jobs.{Does}
use Rattle.fl_bench.specs.declared.process.Holding.{Holding}
use Rattle.fl_bench.specs.declared.process.Holding.TheVariants.{Idle, Ordering}
use Rattle.fl_bench.specs.declared.process.Process.{Process}
use Rattle.fl_bench.specs.laws.Puts.{get_here, put_twice}
use Rattle.fl_mailbox.specs.laws.Tables.{put_same}
use Rattle.fl_bench.specs.laws.Steps.{does_step}
use Rattle.fl_bench.specs.Summary.{Summary, sends, orders, refuses, IsSending, IsOrder}

-- a process whose operation is over, and gave it these
abbrev pub rested : Process → List Cap → Process
rested p caps = record p { owned = Idle (set.insert_all (owns p) caps) }

-- at a bench where pid has its operation under way, it is settled as this process
settles_at : (b : BenchState) (pid : Pid) (p : Process) (caps : List Cap)
    → settles (has_at b pid (ordering p)) pid caps ≡ has_at b pid (rested p caps)
settles_at b pid p caps =
    ap (λ o. record b { processes = receives (map.insert b.processes pid (ordering p)) pid caps o })
    (get_here pid_total b.processes pid (ordering p))
    ∙ ap (λ m. record b { processes = m })
    (put_twice pid_total pid_exact b.processes pid (ordering p) (rested p caps))

-- an idle process that was given nothing
rested_same : (p : Process) → is_busy p ≡ false → rested p [] ≡ p
rested_same p e = by_holding p.owned e
  where
    by_holding : (h : Holding) → is_busy (record p { owned = h }) ≡ false
        → rested (record p { owned = h }) [] ≡ record p { owned = h }
    by_holding (Idle caps) e = refl
    by_holding (Ordering caps) e = absurd (cc)

module _ {V : Op → Type 0} {b : BenchState} {job : Job} where
  module _ {body : Body} {pid : Pid} {after : BenchState} where
    -- an order is one of an idle process, and leaves it with an operation under way
    pub order_at : Does V b job (Ok (Outcome.Order body pid)) after → IsOrder V b job body pid after
    order_at d = by_step (does_step V b d)
      where
        by_step : Summary V b job (Ok (Outcome.Order body pid)) after
            → IsOrder V b job body pid after
        by_step (orders o) = o

    settled_at : (o : IsOrder V b job body pid after) (caps : List Cap)
        → settles after pid caps ≡ has_at b pid (rested o.process caps)
    settled_at o caps =
        ap (λ (x : BenchState). settles x pid caps) o.leaves ∙ settles_at b pid o.process caps

    -- which has what the operation gives when it is finished
    pub finished_at : (o : IsOrder V b job body pid after) (op : Op)
        → finished after pid op ≡ has_at b pid (rested o.process (given op))
    finished_at o op = settled_at o (given op)

    -- and leaves the bench as it was when it is cancelled
    pub cancel_back : Does V b job (Ok (Outcome.Order body pid)) after → cancelled after pid ≡ b
    cancel_back d =
        let o = order_at d in
        settled_at o [] ∙ ap (has_at b pid) (rested_same o.process o.idle) ∙ ap
        (λ m. record b { processes = m })
        (put_same pid_total pid_exact b.processes pid o.process o.lived)

  module _ {packet : Data} {after : BenchState} where
    step_sends : Summary V b job (Ok (Outcome.Out packet)) after
        → IsSending V b job packet × (after ≡ b)
    step_sends (sends h is) = (h, is)

    -- a packet is sent by a process that may
    pub sending_at : Does V b job (Ok (Outcome.Out packet)) after → IsSending V b job packet
    sending_at d = (step_sends (does_step V b d)).0

    -- and leaves the bench as it was
    pub sending_leaves : Does V b job (Ok (Outcome.Out packet)) after → after ≡ b
    sending_leaves d = (step_sends (does_step V b d)).1

-- a refusal leaves the bench as it was
refused_same : {V : Op → Type 0} {b : BenchState} {job : Job} {refusal : Refusal}
    {after : BenchState}
    → Summary V b job (Err refusal) after → after ≡ b
refused_same refuses = refl

pub refusal_leaves : {V : Op → Type 0} {b : BenchState} {job : Job} {refusal : Refusal}
    {after : BenchState}
    → Does V b job (Err refusal) after → after ≡ b
refusal_leaves {V} {b} d = refused_same (does_step V b d)
