-- What a batch says of an order that was answered a name, and of the operations that its list
-- gains.
use Rattle.std.specs.Prelude.{◌≡◌, ◌≢◌, ◌⊎◌, ℕ, ◌<◌, ◌≤◌, List, [], ◌∷◌, length}
use Rattle.std.specs.List.{Contains, slice_get}
use Rattle.std.specs.declared.option.Option.{Option}
use Rattle.std.specs.declared.option.Option.TheVariants.{Some}
use Rattle.fl_labels.specs.declared.name.Name.{Name}
use Rattle.fl_labels.specs.SetBy as set
use Rattle.fl_labels.specs.SetBy.{In}
use Rattle.fl_ops.specs.OpOrder.{op_cmp}
use Rattle.fl_ops.specs.declared.op.Op.{Op}
use Rattle.fl_ops.specs.declared.op.Body.{Body}
use Rattle.fl_jobs.specs.declared.job.Act.TheVariants.{Order}
use Rattle.fl_jobs.specs.declared.job.Job.{Job}
use Rattle.fl_jobs.specs.declared.job.Job.TheVariants.{By}
use Rattle.fl_bench.specs.Process.{body_of}
use Rattle.fl_system.specs.State.{first_ops}
use Rattle.fl_crew_model.specs.declared.record.Told.{Told}
use Rattle.fl_crew_model.specs.declared.record.Ruling.{Ruling}
use Rattle.fl_crew_model.specs.declared.record.Ruling.TheVariants.{Made, Late, GivenUp}
use Rattle.fl_crew_model.specs.declared.record.Entry.{Entry}
use Rattle.fl_crew_model.specs.declared.record.Decision.{Decision}
use Rattle.fl_crew_model.specs.declared.record.Verdict.TheVariants.{Taken}
use Rattle.fl_crew_model.specs.declared.record.Delivery.{Delivery}
use Rattle.fl_crew_model.specs.declared.record.Deed.{Deed}
use Rattle.fl_crew_model.specs.declared.record.Deed.TheVariants.{Decided, Delivered}
use Rattle.fl_crew_model.specs.Compared.{Rise, decisions_of}
use Rattle.fl_crew_model.specs.Books.{Books}
use Rattle.fl_crew_model.specs.Crews.{IsWorker}

-- the decision is in the record
abbrev pub HasDecision : List Deed → Decision → Type 0
HasDecision [] d = ⊥
HasDecision (Decided x ∷ rs) d = (x ≡ d) ⊎ HasDecision rs d
HasDecision (Delivered p ∷ rs) d = HasDecision rs d

-- The operation stands in the list, behind all that was seen, and it is the one that was recorded
-- for this place.
pub record IsAnswered (list : List Op) (rs : List Deed) (e : Entry) (op : Op) : Type 0 where
  pub decision : Decision
  pub there : HasDecision rs decision
  pub place : decision.place ≡ e.place
  pub same : decision.ruling ≡ Made op
  pub behind : e.seen ≤ decision.before
  pub stands : slice_get list decision.before ≡ Some op

-- ---- where the operations of the list come from

-- it is among these
abbrev pub IsAmong : List Decision → Decision → Type 0
IsAmong [] d = ⊥
IsAmong (x ∷ xs) d = (x ≡ d) ⊎ IsAmong xs d

-- the packet is in the record
abbrev pub HasPacket : List Deed → Delivery → Type 0
HasPacket [] p = ⊥
HasPacket (Decided d ∷ rs) p = HasPacket rs p
HasPacket (Delivered q ∷ rs) p = (q ≡ p) ⊎ HasPacket rs p

-- The operation is one of an order that was answered its name, or of one that its worker, which
-- stopped, answered no more; or it came in a packet.
pub data IsGained (workers : ℕ) (rs : List Deed) (es : ℕ → List Entry) (left : ℕ → List Decision)
    (op : Op) : Type 0 where
  told : (w i : ℕ) (e : Entry) → IsWorker workers w → slice_get (es w) i ≡ Some e
      → e.ruling ≡ Some (Made op) → IsGained workers rs es left op
  untold : (w : ℕ) (d : Decision) → IsWorker workers w → IsAmong (left w) d → d.ruling ≡ Made op
      → IsGained workers rs es left op
  taken : (p : Delivery) → HasPacket rs p → p.verdict ≡ Taken
      → In (set.of_list {R = op_cmp} p.ops) op → IsGained workers rs es left op

-- ---- whose orders they are

-- the job is an order for an operation of this body
abbrev pub IsOrderFor : Option Job → Body → Type 0
IsOrderFor (Some (By pid (Order order))) body = body ≡ body_of order
IsOrderFor other body = ⊥

-- a ruling is on an order, and one with an operation on an order for it
abbrev pub IsOwn : Option Job → Ruling → Type 0
IsOwn job (Made op) = IsOrderFor job op.body
IsOwn job (Late op pid) = IsOrderFor job op.body
IsOwn job (GivenUp reason) = (body : Body) × IsOrderFor job body

-- each decision of the record is on the order that the worker has at that place
abbrev pub AreOwn : (ℕ → ℕ → Option Job) → List Deed → Type 0
AreOwn jobs [] = Unit {0}
AreOwn jobs (Decided d ∷ rs) = IsOwn (jobs d.worker d.place) d.ruling × AreOwn jobs rs
AreOwn jobs (Delivered p ∷ rs) = AreOwn jobs rs

-- the decisions on the orders of each worker are on later and later places
abbrev pub AllRise : ℕ → List Deed → Type 0
AllRise workers rs = (w : ℕ) → IsWorker workers w → Rise (decisions_of w rs)

-- ---- what a batch says of the entries of each worker, up to where it stopped, if it did

pub record AreTold (workers : ℕ) (b b' : Books) (rs : List Deed) (es : ℕ → List Entry)
    (left : ℕ → List Decision) : Type 0 where
  -- each has seen the list that the batch began with, and no less than an earlier one
  pub low : (w i : ℕ) (e : Entry) → IsWorker workers w → slice_get (es w) i ≡ Some e
      → length b.list ≤ e.seen
  pub rises : (w i j : ℕ) (e f : Entry) → IsWorker workers w → i < j → slice_get (es w) i ≡ Some e
      → slice_get (es w) j ≡ Some f → e.seen ≤ f.seen
  -- who is told a name gave an order, whose operation of that name was made
  pub told : (w i : ℕ) (e : Entry) (name : Name) → IsWorker workers w → slice_get (es w) i ≡ Some e
      → e.told ≡ Told.Published name → (op : Op) × (e.ruling ≡ Some (Made op)) × (op.name ≡ name)
  -- the operation is that of the order
  pub asked : (w i : ℕ) (e : Entry) (op : Op) → IsWorker workers w → slice_get (es w) i ≡ Some e
      → e.ruling ≡ Some (Made op) → IsOrderFor (Some e.job.value) op.body
  -- it stands in the list, behind all that was seen, as it was recorded for that place
  pub stands : (w i : ℕ) (e : Entry) (op : Op) → IsWorker workers w → slice_get (es w) i ≡ Some e
      → e.ruling ≡ Some (Made op) → IsAnswered b'.list rs e op
  -- and the worker's later entries see it
  pub seen : (w i j : ℕ) (e f : Entry) (op : Op) → IsWorker workers w
      → slice_get (es w) i ≡ Some e → e.ruling ≡ Some (Made op) → i < j
      → slice_get (es w) j ≡ Some f → first_ops f.seen b'.list op
  -- all names that were given differ
  pub names : (v w i j : ℕ) (e f : Entry) (op other : Op) → IsWorker workers v → IsWorker workers w
      → slice_get (es v) i ≡ Some e → slice_get (es w) j ≡ Some f → e.ruling ≡ Some (Made op)
      → f.ruling ≡ Some (Made other) → (v ≢ w) ⊎ (i ≢ j) → op.name ≢ other.name
  -- and no two decisions made operations of one name, also where they are left over
  pub named : (c d : Decision) (op other : Op) → HasDecision rs c → HasDecision rs d
      → c.ruling ≡ Made op → d.ruling ≡ Made other → op.name ≡ other.name → c ≡ d
  -- no other operation is gained
  pub gained : (op : Op) → Contains b'.list op → Contains b.list op ⊎ IsGained workers rs es left op
  -- A decision that is left is of the record, on an order of that worker,
  pub there : (w : ℕ) (d : Decision) → IsWorker workers w → IsAmong (left w) d
      → HasDecision rs d × (d.worker ≡ w)
  -- and on a later place than each of its entries,
  pub untold : (w i : ℕ) (e : Entry) (d : Decision) → IsWorker workers w
      → slice_get (es w) i ≡ Some e → IsAmong (left w) d → e.place < d.place
  -- and on each place there is one at most.
  pub once : (w : ℕ) → IsWorker workers w → Rise (left w)
  -- Its operation is of the order at that place, where the record's are.
  pub own : (jobs : ℕ → ℕ → Option Job) → AreOwn jobs rs → (w : ℕ) (d : Decision) (op : Op)
      → IsWorker workers w → IsAmong (left w) d → d.ruling ≡ Made op
      → IsOrderFor (jobs w d.place) op.body
