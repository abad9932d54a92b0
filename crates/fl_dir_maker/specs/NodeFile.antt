-- Where a node is kept.
use Rattle.std.specs.Prelude.{ℕ, List, ◌++◌, codes}
use Rattle.std.specs.Fmt.{decimal}

-- the path of its file in a directory
abbrev pub node_file : List ℕ → ℕ → List ℕ
node_file dir number = dir ++ (codes "/node-" ++ (decimal number ++ codes ".db"))
