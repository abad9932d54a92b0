-- What comes of an order that the bench admits.
use Rattle.std.specs.Prelude.{◌≡◌, ℕ}
use Rattle.std.specs.declared.option.Option.TheVariants.{Some}
use Rattle.std.specs.declared.result.Result.{Result}
use Rattle.std.specs.declared.result.Result.TheVariants.{Ok, Err}
use Rattle.fl_labels.specs.declared.name.Name.{Name}
use Rattle.fl_labels.specs.declared.pid.Pid.{Pid}
use Rattle.fl_ops.specs.declared.op.Body.{Body}
use Rattle.fl_bench.specs.Gifts.{cancelled}
use Rattle.fl_system.specs.declared.answer.Answer.{Answer}
use Rattle.fl_system.specs.declared.answer.Answer.TheVariants as answer
use Rattle.fl_system.specs.declared.answer.Fault.{Fault}
use Rattle.fl_system.specs.State.{NodeState}
use Rattle.fl_system.specs.Publishes.{at_bench_of}
use Rattle.fl_system.specs.Begins.{Begins}

-- its operation is begun at the desk, or the bench of its maker goes on without it
abbrev pub Orders : NodeState → Body → Pid → ℕ → Result Answer Fault → NodeState → Type 0
Orders n body pid desk (Ok result) n' =
    (name : Name) × (result ≡ answer.Begun name) × Begins n body (Some pid) (Some desk) (Ok name) n'
Orders n body pid desk (Err fault) n' = Begins n body (Some pid) (Some desk) (Err fault) n
    × (n' ≡ record n { benches = at_bench_of pid (λ b. cancelled b pid) n.benches })
