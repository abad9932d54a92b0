-- How the text of a node is written.
use Rattle.std.specs.Prelude.{◌≡◌, ℕ, List}
use Rattle.std.specs.declared.option.Option.{Option}
use Rattle.std.specs.declared.option.Option.TheVariants.{None, Some}
use Rattle.std.specs.declared.result.Result.{Result}
use Rattle.std.specs.declared.result.Result.TheVariants.{Ok, Err}
use Rattle.fl_labels.specs.SetBy as set
use Rattle.fl_opset.specs.RegistryText.{registry_text}
use Rattle.fl_sink.specs.Sink.{Writes}
use Rattle.fl_sink.specs.declared.sink.WriteFault.{WriteFault}
use Rattle.fl_system.specs.declared.answer.Fault.{Fault}
use Rattle.fl_system.specs.State.{NodeState}
use Rattle.fl_system.specs.Waiting.{IsRunning, NotRunning}
use Rattle.fl_node.specs.Over.{NodeOver}

-- of a node: the text of its registry; of a stopped one nothing
abbrev pub TextOf : Option (List ℕ) → Option (List ℕ) → NodeState
    → Result (Result (Unit {0}) WriteFault) Fault → Type 0
TextOf old new n (Ok written) =
    IsRunning n.state × Writes old new (registry_text (set.of_list n.published)) written
TextOf old new n (Err fault) = NotRunning n.state fault × (new ≡ old)

-- of the node of a number: nothing where it is not there
abbrev pub TextAt : {K : Type 0} → Option (List ℕ) → Option (List ℕ) → Option (NodeOver K)
    → Option (Result (Result (Unit {0}) WriteFault) Fault) → Type 0
TextAt old new None None = new ≡ old
TextAt old new None (Some result) = ⊥
TextAt old new (Some n) None = ⊥
TextAt old new (Some n) (Some result) = TextOf old new n.node result
