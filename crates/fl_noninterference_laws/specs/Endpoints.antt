-- Nodes and machines whose open endpoints are safe under what they have published.
use Rattle.std.specs.Prelude.{◌≡◌, ℕ}
use Rattle.std.specs.declared.option.Option.{Option}
use Rattle.std.specs.declared.option.Option.TheVariants.{Some}
use Rattle.fl_ops.specs.Registry.{Listed}
use Rattle.fl_bench.specs.Bench.{BenchState}
use Rattle.fl_bench.specs.Guarded.{IsGuarded}
use Rattle.fl_system.specs.Numbered.{item_at}
use Rattle.fl_system.specs.State.{NodeState}
use Rattle.fl_machine_model.specs.Machines.{Machine, Up}

abbrev pub HasSafeEndpoints : NodeState → Type 0
HasSafeEndpoints n = (k : ℕ) (b : BenchState) → item_at n.benches k ≡ Some b
    → IsGuarded (Listed n.published) b

-- the same of a machine that is up
abbrev pub IsSafeMachine : Option Machine → Type 0
IsSafeMachine (Some (Up s)) = HasSafeEndpoints s.node
IsSafeMachine old = Unit {0}
