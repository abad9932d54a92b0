-- Operations of one node by their numbers.
use Rattle.std.specs.Prelude.{◌≡◌, ◌<◌, ℕ, true, List, length, get_or}
use Rattle.fl_labels.specs.declared.name.Name.{Name}
use Rattle.fl_ops.specs.declared.op.Op.{Op}
use Rattle.fl_ops.specs.Registry.{Listed}
use Rattle.fl_opset.specs.Spans.{in_span}
use Rattle.fl_opset.specs.Windows.{IsName}
use Rattle.fl_opset.specs.declared.span.Span.{Span}

-- the number of each is above that of the one before
pub record RiseByNumber (ops : List Op) : Type 0 where
  pub rise : (i j : ℕ) (d : Op) → i < j → j < length ops
      → (get_or ops i d).name.seq < (get_or ops j d).name.seq

-- a name of the span that none of the operations has
pub record IsMissing (span : Span) (ops : List Op) (name : Name) : Type 0 where
  pub held : in_span span name ≡ true
  pub unsaved : ¬ IsName (Listed ops) name
