-- The lines of a node.
use Rattle.std.proofs.Common.{◌≡◌, ◌∙◌, ◌+◌, ap, arith, length, sym, ℕ, List, ◌++◌, codes, map}
use Rattle.std.proofs.lemmas.List.{length-map}
use Rattle.std.proofs.lemmas.List.Folds.{flat_map-map}
use Rattle.std.specs.List.{flat_map}
use Rattle.fl_labels.specs.declared.pid.Pid.{Pid}
use Rattle.fl_bench.specs.declared.process.Process.{Process}
use Rattle.fl_replies.specs.ReplyText.{count_text}
use Rattle.fl_system.specs.declared.state.State.{State}
use Rattle.fl_explanations.specs.Lines.{lines_text, node_line, node_lines, standing_line}

module _ (number boot published : ℕ) (state : State) (processes : List (Pid × Process))
    (pids : List Pid) (are : pids ≡ map (λ it. it.0) processes) where
  count : length processes ≡ length pids
  count = sym (ap length are ∙ length-map processes (λ (it : Pid × Process). it.0))

  line_count : length (node_lines number boot published state processes) ≡ length pids + 1
  line_count =
      let lines = length-map processes standing_line in
      let same = count in
      omega (arith, lines, same)

  pub overview_text : lines_text (node_lines number boot published state processes)
      ≡ count_text (codes "lines ") (length pids + 1)
      ++ (node_line number boot published state (length pids) ++ flat_map standing_line processes)
  overview_text =
      ap (λ n. count_text (codes "lines ") n
      ++ flat_map (λ (line : List ℕ). line) (node_lines number boot published state processes))
      line_count
      ∙ ap (λ n. count_text (codes "lines ") (length pids + 1)
      ++ (node_line number boot published state n
      ++ flat_map (λ (line : List ℕ). line) (map standing_line processes))) count
      ∙ ap (λ l. count_text (codes "lines ") (length pids + 1)
      ++ (node_line number boot published state (length pids) ++ l))
      (flat_map-map (λ (line : List ℕ). line) standing_line processes)
