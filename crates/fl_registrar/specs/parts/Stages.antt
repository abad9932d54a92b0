-- Where a node and a press are, by how far what is saved has come.
use Rattle.std.specs.Prelude.{List, []}
use Rattle.fl_ops.specs.declared.op.Op.{Op}
use Rattle.fl_system.specs.State.{NodeState}
use Rattle.fl_registrar.specs.Listing.{HasListed, Owes}
use Rattle.fl_registrar.specs.declared.waiting.Stage.{Stage}
use Rattle.fl_registrar.specs.declared.waiting.Stage.TheVariants.{Saved, Listed, Staged}

-- these operations are due in the node, or it has published them, where the press has this list
abbrev pub IsAt : Stage → NodeState → List Op → List Op → Type 0
IsAt Saved n list ops = Owes n list ops
IsAt Listed n list ops = HasListed n list ops
IsAt Staged n list ops = HasListed n list ops

-- the node has published it
abbrev pub IsListed : Stage → Type 0
IsListed Saved = ⊥
IsListed Listed = Unit {0}
IsListed Staged = Unit {0}

-- what of its operations the press has staged, and what it has not
abbrev pub staged_at : Stage → List Op → List Op
staged_at Saved ops = []
staged_at Listed ops = []
staged_at Staged ops = ops

abbrev pub unstaged_at : Stage → List Op → List Op
unstaged_at Saved ops = ops
unstaged_at Listed ops = ops
unstaged_at Staged ops = []
