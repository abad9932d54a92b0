-- No file is that of two nodes.
use Rattle.std.proofs.Common.{◌≡◌, ◌<◌, ◌^◌, ℕ, List, ◌++◌, codes, sym, ◌∙◌, arith}
use Rattle.std.specs.Fmt.{decimal}
use Rattle.std.proofs.lemmas.Fmt.{decimal_injective}
use Rattle.std.proofs.lemmas.List.{append_cancel_left, append_cancel_right}
use Rattle.fl_dir_maker.specs.NodeFile.{node_file}

wide : (n : ℕ) → n < 2 ^ 32 → n < 2 ^ 64
wide n small = omega arith

pub own_file : (path dir : List ℕ) (number other : ℕ) → number < 2 ^ 32 → other < 2 ^ 32
    → path ≡ node_file dir number → path ≡ node_file dir other → other ≡ number
own_file path dir number other small low here there =
    let whole : node_file dir other ≡ node_file dir number = sym there ∙ here in
    let name : codes "/node-" ++ (decimal other ++ codes ".db") ≡ codes "/node-" ++ (decimal number ++ codes ".db") =
    append_cancel_left dir _ _ whole in
    let digits : decimal other ++ codes ".db" ≡ decimal number ++ codes ".db" =
    append_cancel_left (codes "/node-") _ _ name in
    decimal_injective other number (wide other low) (wide number small)
    (append_cancel_right (decimal other) (decimal number) (codes ".db") digits)
