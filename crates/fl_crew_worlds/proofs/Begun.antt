-- What is begun at a node, saved and due there is an order of that name, or so many operations.
use Rattle.std.proofs.Common.{◌≡◌, ℕ, ◌<◌, Option, Result, Ok, refl, ap, arith}
use Rattle.fl_labels.specs.SetBy as set
use Rattle.fl_labels.specs.SetBy.{SetBy}
use Rattle.fl_labels.specs.declared.name.Name.{Name}
use Rattle.fl_labels.specs.declared.pid.Pid.{Pid}
use Rattle.fl_ops.specs.OpOrder.{op_cmp}
use Rattle.fl_ops.specs.declared.op.Body.{Body}
use Rattle.fl_ops.specs.declared.op.Op.{Op}
use Rattle.fl_jobs.specs.declared.job.Job.{Job}
use Rattle.fl_store.specs.Kept.{Kept}
use Rattle.fl_system.specs.declared.answer.Answer.{Answer}
use Rattle.fl_system.specs.declared.answer.Answer.TheVariants as answers
use Rattle.fl_system.specs.declared.answer.Fault.{Fault}
use Rattle.fl_system.specs.declared.state.Batch.{Batch}
use Rattle.fl_system.specs.declared.state.Batch.TheVariants.{Ordered, Received}
use Rattle.fl_system.specs.declared.state.Pending.TheVariants.{Unsaved, Due}
use Rattle.fl_system.specs.declared.state.State.TheVariants.{Running}
use Rattle.fl_system.specs.Begins.{Begins}
use Rattle.fl_system.specs.Jobs.{Jobs}
use Rattle.fl_system.specs.Receives.{Receives}
use Rattle.fl_system.specs.Saves.{Saves}
use Rattle.fl_system.specs.State.{NodeState}

-- ---- an order

pub record IsBegun (n : NodeState) (name : Name) : Type 0 where
  pub op : Op
  pub maker : Option Pid
  pub desk : Option ℕ
  pub state : n.state ≡ Running (Unsaved (Ordered op maker desk))
  pub named : op.name ≡ name

pub record IsDue (n : NodeState) (name : Name) : Type 0 where
  pub op : Op
  pub maker : Option Pid
  pub desk : Option ℕ
  pub state : n.state ≡ Running (Due (Ordered op maker desk))
  pub named : op.name ≡ name

begins_as : {n : NodeState} {body : Body} {maker : Option Pid} {desk : Option ℕ}
    {r : Result Name Fault} {n' : NodeState} (name : Name) → Begins n body maker desk r n'
    → r ≡ Ok name → IsBegun n' name
begins_as {n} {body} {maker} {desk} name (Begins.begins {name = its} idle next) is = record {
  op = record { name = its; body = body };
  maker = maker;
  desk = desk;
  state = refl;
  named = cc;
}
begins_as name (Begins.taken why) is = absurd (cc)
begins_as name (Begins.spent idle last) is = absurd (cc)

pub job_begins : {n : NodeState} {desk upto : ℕ} {job : Job} {r : Result Answer Fault}
    {n' : NodeState} (name : Name) → Jobs n desk upto job r n' → r ≡ Ok (answers.Begun name)
    → IsBegun n' name
job_begins name (Jobs.stopped why) is = absurd (cc)
job_begins name (Jobs.no_room look more which) is = absurd (cc)
job_begins name (Jobs.refused look d) is = absurd (cc)
job_begins name (Jobs.replied look d) is = absurd (cc)
job_begins name (Jobs.sent look d) is = absurd (cc)
job_begins name (Jobs.begun {v} {body} {pid} {left} {name = its} look d begin) is =
    let same : its ≡ name = cc in begins_as name begin (ap Ok same)
job_begins name (Jobs.not_begun look d begin) is = absurd (cc)

pub saved_due : {n : NodeState} {k : Kept} {r : Result (Unit {0}) Fault} {n' : NodeState}
    {k' : Kept} (name : Name) → IsBegun n name → Saves n k r n' k' → r ≡ Ok tt → IsDue n' name
saved_due name begun (Saves.saved {batch} is) fine =
    let at = begun.state in
    let same : batch ≡ Ordered begun.op begun.maker begun.desk = cc in
    record {
      op = begun.op;
      maker = begun.maker;
      desk = begun.desk;
      state = ap (λ (b : Batch). Running (Due b)) same;
      named = begun.named;
    }
saved_due name begun (Saves.no_room is) fine = absurd (cc)
saved_due name begun (Saves.failed is left) fine = absurd (cc)
saved_due name begun (Saves.none why) fine = absurd (cc)

-- ---- operations

pub record IsTaking (n : NodeState) (count : ℕ) : Type 0 where
  pub ops : SetBy op_cmp
  pub state : n.state ≡ Running (Unsaved (Received ops))
  pub counted : set.len ops ≡ count

pub record IsTaken (n : NodeState) (count : ℕ) : Type 0 where
  pub ops : SetBy op_cmp
  pub state : n.state ≡ Running (Due (Received ops))
  pub counted : set.len ops ≡ count

pub receives_as : {n : NodeState} {ops : SetBy op_cmp} {r : Result ℕ Fault} {n' : NodeState}
    (count : ℕ) → 0 < count → Receives n ops r n' → r ≡ Ok count → IsTaking n' count
receives_as count some (Receives.stopped why) is = absurd (cc)
receives_as count some (Receives.no_room on new) is = absurd (cc)
receives_as count some (Receives.impostor on first bad) is = absurd (cc)
receives_as count some (Receives.clash on first bad) is = absurd (cc)
receives_as count some (Receives.nothing_new on may all) is =
    absurd (let zero : 0 ≡ count = cc in omega arith)
receives_as count some (Receives.taken op on may there new why) is = absurd (cc)
receives_as count some (Receives.receives {new} idle may lacking more) is = record {
  ops = new;
  state = refl;
  counted = cc;
}

pub saves_as : {n : NodeState} {k : Kept} {r : Result (Unit {0}) Fault} {n' : NodeState}
    {k' : Kept} (count : ℕ) → IsTaking n count → Saves n k r n' k' → r ≡ Ok tt
    → IsTaken n' count
saves_as count taking (Saves.saved {batch} is) fine =
    let at = taking.state in
    let same : batch ≡ Received taking.ops = cc in
    record {
      ops = taking.ops;
      state = ap (λ (b : Batch). Running (Due b)) same;
      counted = taking.counted;
    }
saves_as count taking (Saves.no_room is) fine = absurd (cc)
saves_as count taking (Saves.failed is left) fine = absurd (cc)
saves_as count taking (Saves.none why) fine = absurd (cc)
