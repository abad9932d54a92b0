use Rattle.std.proofs.Common.{arith}
use Rattle.fl_opset.specs.Windows.{IsLeastName}
use Rattle.fl_opset.proofs.Covers.{covers}
use Rattle.fl_opset.proofs.laws.law_windows.Goals as goal

pub returns : goal.returns
returns c = λ a windows have n.
    covers IsLeastName windows n have.cut
    (λ from least. omega (arith, least.0, least.1, n.node_in_range.0, n.seq_in_range.0))
