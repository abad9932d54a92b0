-- What orders leave.
use Rattle.std.proofs.Common.{◌≡◌, refl, subst, Err, ℕ}
use Rattle.std.specs.declared.option.Option.{Option}
use Rattle.fl_labels.specs.declared.pid.Pid.{Pid}
use Rattle.fl_ops.specs.declared.op.Body.{Body}
use Rattle.fl_system.specs.declared.answer.Fault.{Fault}
use Rattle.fl_system.specs.State.{NodeState}
use Rattle.fl_system.specs.Begins.{Begins}

-- where nothing is begun, the node is as before
begins_same : {n n' : NodeState} {body : Body} {maker : Option Pid} {desk : Option ℕ} {fault : Fault} → Begins n body maker desk (Err fault) n' → n' ≡ n
begins_same (Begins.taken h) = refl
begins_same (Begins.spent h last) = refl

pub not_begun_here : {n n' : NodeState} {body : Body} {maker : Option Pid} {desk : Option ℕ} {fault : Fault} → Begins n body maker desk (Err fault) n' → Begins n body maker desk (Err fault) n × (n' ≡ n)
not_begun_here {n} {n'} {body} {maker} {desk} {fault} h = (subst (λ m. Begins n body maker desk (Err fault) m) (begins_same h) h, begins_same h)
