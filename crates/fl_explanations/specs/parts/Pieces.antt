-- Parts of explanations.
use Rattle.std.specs.Prelude.{ℕ, List, ◌++◌, codes}
use Rattle.fl_labels.specs.Text.{caps_text, label_text}
use Rattle.fl_bench.specs.Process.{owns}
use Rattle.fl_bench.specs.declared.process.Process.{Process}
use Rattle.fl_explanations.specs.Lines.{list_line}

-- the lines of the labels of a process, and of what it owns
abbrev pub owner_text : Process → List ℕ
owner_text p =
    (list_line (codes "S ") (label_text p.labels.secrecy)
    ++ list_line (codes "I ") (label_text p.labels.integrity))
    ++ list_line (codes "owns ") (caps_text (owns p))
