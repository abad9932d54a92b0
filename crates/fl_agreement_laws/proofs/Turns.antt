-- What each call of a node adds to its list, and where what is on the way then comes from.
use Rattle.std.proofs.Common.{◌≡◌, ◌⊎◌, ◌∙◌, ◌<◌, ◌++◌, inl, inr, ℕ, Bool, List, [], ◌∷◌, Result, Ok, Err, Some, refl, sym, ap, subst, arith, append-nil}
use Rattle.std.specs.List.{Contains}
use Rattle.std.specs.declared.option.Option.{Option}
use Rattle.fl_labels.specs.Found.{Within}
use Rattle.fl_labels.specs.SetBy.{SetBy, In}
use Rattle.fl_labels.specs.declared.name.Name.{Name}
use Rattle.fl_labels.specs.declared.pid.Pid.{Pid}
use Rattle.fl_ops.specs.OpOrder.{op_cmp}
use Rattle.fl_ops.specs.declared.op.Op.{Op}
use Rattle.fl_ops.specs.declared.op.Body.{Body}
use Rattle.fl_opset.specs.laws.Members.{listed_member}
use Rattle.fl_message.specs.declared.message.Data.{Data}
use Rattle.fl_jobs.specs.declared.answer.Reply.{Reply}
use Rattle.fl_jobs.specs.declared.job.Job.{Job}
use Rattle.fl_jobs.specs.declared.job.Job.TheVariants.{By}
use Rattle.fl_jobs.specs.declared.job.Act.TheVariants.{Order}
use Rattle.fl_jobs.specs.declared.job.Order as orders
use Rattle.fl_bench.specs.Process.{body_of}
use Rattle.fl_bench.specs.laws.Orders.{order_at}
use Rattle.fl_store.specs.Kept.{Kept}
use Rattle.fl_system.specs.declared.answer.Answer.{Answer}
use Rattle.fl_system.specs.declared.answer.Answer.TheVariants as answers
use Rattle.fl_system.specs.declared.answer.Fault.{Fault}
use Rattle.fl_system.specs.declared.state.Batch.{Batch}
use Rattle.fl_system.specs.declared.state.Pending.TheVariants.{Nothing, Unsaved, Due}
use Rattle.fl_system.specs.declared.state.State.{State}
use Rattle.fl_system.specs.declared.state.State.TheVariants.{Running, Stopped}
use Rattle.fl_system.specs.State.{NodeState, ops_in}
use Rattle.fl_system.specs.Begins.{Begins}
use Rattle.fl_system.specs.Jobs.{Jobs, looking}
use Rattle.fl_system.specs.Receives.{Receives}
use Rattle.fl_system.specs.Arrives.{Arrives}
use Rattle.fl_system.specs.Saves.{Saves}
use Rattle.fl_system.specs.Publishes.{Publishes, Cancels}
use Rattle.fl_system.specs.Openings.{Opens, OpensAgain, Restarts}
use Rattle.fl_system.specs.Whereabouts.{IsOnItsWay}
use Rattle.fl_system_laws.specs.laws.Steps.{in_none, only_one}
use Rattle.fl_agreement_laws.specs.Gains.{due_in}

-- the list goes on by these operations, or the node was opened
pub data Extends (x y : NodeState) (ops : List Op) : Type 0 where
  by_these : y.published ≡ x.published ++ ops → Extends x y ops
  reopened : x.boot < y.boot → Extends x y ops

-- and what is on the way then was so before, or is of these
pub record Turns (x y : NodeState) (ops : List Op) (B : Op → Type 0) : Type 0 where
  pub extends : Extends x y ops
  pub from : (op : Op) → IsOnItsWay y.state op → IsOnItsWay x.state op ⊎ B op

pub turns_within : {x y : NodeState} {ops : List Op} {A B : Op → Type 0} → Within A B → Turns x y ops A
    → Turns x y ops B
turns_within more t =
    record {
      extends = t.extends;
      from = λ op h. elim (t.from op h) [ inl was ↦ inl was | inr new ↦ inr (more op new) ];
    }

same_list : (x y : NodeState) → y.published ≡ x.published → Extends x y []
same_list x y e = by_these (e ∙ sym (append-nil x.published))

none_doubted : (n : NodeState) → Within (Contains {X = Op} []) (IsOnItsWay n.state)
none_doubted n op h = in_none op h

module _ {B : Op → Type 0} where
  -- the list and what is on the way are as they were
  pub rests : (x y : NodeState) → y.published ≡ x.published → y.state ≡ x.state → Turns x y [] B
  rests x y list state =
      record {
        extends = same_list x y list;
        from = λ op h. inl (subst (λ (st : State). IsOnItsWay st op) state h);
      }

  -- the same operations are on the way, in another state
  turned : (x y : NodeState) (st st' : State) → y.published ≡ x.published → x.state ≡ st → y.state ≡ st'
      → Within (IsOnItsWay st') (IsOnItsWay st) → Turns x y [] B
  turned x y st st' list e f more =
      record {
        extends = same_list x y list;
        from = λ op h. inl (subst (λ (s : State). IsOnItsWay s op) (sym e)
            (more op (subst (λ (s : State). IsOnItsWay s op) f h)));
      }

  -- nothing is on the way then
  nothing_left : (x y : NodeState) (ops : List Op) → Extends x y ops → y.state ≡ Running Nothing → Turns x y ops B
  nothing_left x y ops extends e =
      record { extends = extends; from = λ op h. absurd (subst (λ (s : State). IsOnItsWay s op) e h) }

  pub looks_turn : (n : NodeState) (desk seen : ℕ) → Turns n (looking n desk seen) [] B
  looks_turn n desk seen = rests n (looking n desk seen) refl refl

  pub arrives_turn : {n : NodeState} {d : Data} {result : Result Reply Fault} {n' : NodeState} → Arrives n d result n'
      → Turns n n' [] B
  arrives_turn (Arrives.stopped why) = rests _ _ refl refl
  arrives_turn (Arrives.refused at) = rests _ _ refl refl
  arrives_turn (Arrives.arrives at) = rests _ _ refl refl

  pub saves_turn : {n : NodeState} {k : Kept} {result : Result (Unit {0}) Fault} {n' : NodeState} {k' : Kept}
      → Saves n k result n' k' → Turns n n' [] B
  saves_turn {n = n} (Saves.saved {batch = batch} is) =
      turned n _ (Running (Unsaved batch)) (Running (Due batch)) refl is refl (λ op h. h)
  saves_turn (Saves.no_room is) = rests _ _ refl refl
  saves_turn {n = n} (Saves.failed {batch = batch} is left) =
      turned n _ (Running (Unsaved batch)) (Stopped (Some batch)) refl is refl (λ op h. h)
  saves_turn (Saves.none why) = rests _ _ refl refl

  -- what is due is published
  pub publishes_turn : {n : NodeState} {count : ℕ} {n' : NodeState} → Publishes n (Ok count) n'
      → Turns n n' (due_in n.state) B
  publishes_turn {n = n} (Publishes.published {batch = batch} is) =
      nothing_left n _ (due_in n.state) (by_these (ap (λ (st : State). n.published ++ due_in st) (sym is))) refl

  pub unpublished_turn : {n : NodeState} {fault : Fault} {n' : NodeState} → Publishes n (Err fault) n' → Turns n n' [] B
  unpublished_turn (Publishes.no_room is) = rests _ _ refl refl
  unpublished_turn (Publishes.none why) = rests _ _ refl refl

  pub cancels_turn : {n : NodeState} {result : Result (Unit {0}) Fault} {n' : NodeState} → Cancels n result n'
      → Turns n n' [] B
  cancels_turn {n = n} (Cancels.given_up is) = nothing_left n _ [] (same_list n _ refl) refl
  cancels_turn (Cancels.none why) = rests _ _ refl refl

  -- Where the node n, or n with more saved, is opened again, with that in doubt which was on the way.
  pub again_turn : (n m : NodeState) → m.boot ≡ n.boot → m.published ≡ n.published → {doubt : Option Batch}
      → Within (Contains (ops_in doubt)) (IsOnItsWay n.state) → {k : Kept} {result : Result ℕ Fault} {n' : NodeState}
      {k' : Kept} → OpensAgain m doubt k result n' k' → Turns n n' [] B
  again_turn n m boot list doubts {k} (OpensAgain.opens (Opens.opens own left)) =
      let higher = own.boot in
      nothing_left n _ [] (reopened (omega (arith, higher, boot))) refl
  again_turn n m boot list doubts (OpensAgain.stays why) =
      record { extends = same_list n _ list; from = λ op h. inl (doubts op h) }

  pub doubt_turn : (n : NodeState) {doubt : Option Batch} → n.state ≡ Stopped doubt
      → {k : Kept} {result : Result ℕ Fault} {n' : NodeState} {k' : Kept} → OpensAgain n doubt k result n' k'
      → Turns n n' [] B
  doubt_turn n is again =
      again_turn n n refl refl (λ op h. subst (λ (s : State). IsOnItsWay s op) (sym is) h) again

  pub restarts_turn : {n : NodeState} {k : Kept} {keeps : Bool} {result : Result ℕ Fault} {n' : NodeState} {k' : Kept}
      → Restarts n k keeps result n' k' → Turns n n' [] B
  restarts_turn (Restarts.not_saved kept is f) = saves_turn f
  restarts_turn {n = n} (Restarts.saved kept is again) = again_turn n _ refl refl (none_doubted n) again
  restarts_turn {n = n} (Restarts.lost lost is again) = again_turn n n refl refl (none_doubted n) again
  restarts_turn {n = n} (Restarts.idle is again) = again_turn n n refl refl (none_doubted n) again
  restarts_turn {n = n} (Restarts.due is again) = again_turn n n refl refl (none_doubted n) again
  restarts_turn {n = n} (Restarts.stopped is again) = doubt_turn n is again

-- ---- what is begun

-- the job is an order of this body
pub record IsOrderOf (job : Job) (body : Body) : Type 0 where
  pub pid : Pid
  pub order : orders.Order
  pub asked : job ≡ By pid (Order order)
  pub body_is : body ≡ body_of order

-- the job was answered that the operation is begun
abbrev pub IsBegunBy : Job → Result Answer Fault → Op → Type 0
IsBegunBy job (Ok (answers.Begun name)) op = (name ≡ op.name) × IsOrderOf job op.body
IsBegunBy job other op = ⊥

-- the one operation that is begun
one_begun : (job : Job) (name : Name) (body : Body) → IsOrderOf job body → (op : Op)
    → Contains (record { name = name; body = body } ∷ []) op → IsBegunBy job (Ok (answers.Begun name)) op
one_begun job name body order op h =
    subst (λ (x : Op). (name ≡ x.name) × IsOrderOf job x.body) (only_one (record { name = name; body = body }) op h)
    (refl, order)

pub jobs_turn : {n : NodeState} {desk upto : ℕ} {job : Job} {result : Result Answer Fault} {n' : NodeState}
    → Jobs n desk upto job result n' → Turns n n' [] (IsBegunBy job result)
jobs_turn (Jobs.stopped why) = rests _ _ refl refl
jobs_turn (Jobs.no_room look less left) = rests _ _ refl refl
jobs_turn (Jobs.refused look d) = rests _ _ refl refl
jobs_turn (Jobs.replied look d) = rests _ _ refl refl
jobs_turn (Jobs.sent look d) = rests _ _ refl refl
jobs_turn {n} {job = job} (Jobs.begun {body = body} {pid = pid} {name = name} look d (Begins.begins idle next)) =
    let o = order_at d.does in
    let order : IsOrderOf job body = record { pid = pid; order = o.order; asked = o.asked; body_is = o.body_is } in
    record { extends = same_list n _ refl; from = λ op h. inr (one_begun job name body order op h) }
jobs_turn (Jobs.not_begun look d begun) = rests _ _ refl refl

-- some operations were received
abbrev pub HasSome : Result ℕ Fault → Type 0
HasSome (Ok count) = 0 < count
HasSome (Err fault) = ⊥

pub receives_turn : {n : NodeState} {ops : SetBy op_cmp} {result : Result ℕ Fault} {n' : NodeState}
    → Receives n ops result n' → Turns n n' [] (λ op. HasSome result × In ops op)
receives_turn (Receives.stopped why) = rests _ _ refl refl
receives_turn (Receives.no_room is some) = rests _ _ refl refl
receives_turn (Receives.impostor is least fault) = rests _ _ refl refl
receives_turn (Receives.clash is least fault) = rests _ _ refl refl
receives_turn (Receives.nothing_new is can all) = rests _ _ refl refl
receives_turn (Receives.taken op is can there lacks why) = rests _ _ refl refl
receives_turn {n} (Receives.receives {new = new} is can lacking some) =
    record {
      extends = same_list n _ refl;
      from = λ op h. inr (some, ((lacking op).0 (listed_member new op h)).0);
    }
