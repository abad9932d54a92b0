-- Names of a node's own that a window has, and the node has not.
use Rattle.std.specs.Prelude.{◌≡◌, ℕ, true}
use Rattle.std.specs.List.{list_any}
use Rattle.fl_labels.specs.SetBy.{SetBy, In}
use Rattle.fl_labels.specs.declared.name.Name.{Name}
use Rattle.fl_ops.specs.OpOrder.{op_cmp}
use Rattle.fl_opset.specs.Spans.{in_span}
use Rattle.fl_opset.specs.Windows.{IsName}
use Rattle.fl_opset.specs.declared.intervals.Intervals.{Intervals}

-- the window has the name, it has this number, and no operation of the set has it
pub record IsNotOurs (number : ℕ) (saved : SetBy op_cmp) (window : Intervals) (name : Name)
    : Type 0 where
  pub own : name.node ≡ number
  pub held : list_any (λ s. in_span s name) window.spans ≡ true
  pub unsaved : ¬ IsName (In saved) name
