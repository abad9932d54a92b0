-- The lines of a process.
use Rattle.std.proofs.Common.{◌≡◌, ◌∙◌, ◌+◌, ap, arith, length, length-append, sym, ℕ, List, ◌++◌, codes, map}
use Rattle.std.proofs.lemmas.List.{append_assoc, length-map}
use Rattle.std.proofs.lemmas.List.Concat.{flat_map-append}
use Rattle.std.proofs.lemmas.List.Folds.{flat_map-map}
use Rattle.std.specs.FinMap as maps
use Rattle.std.specs.List.{flat_map}
use Rattle.fl_labels.specs.Text.{caps_text, label_text}
use Rattle.fl_labels.specs.declared.endpoint.Endpoint.{Endpoint}
use Rattle.fl_mailbox.specs.declared.endpoints.OpenEndpoint.{OpenEndpoint}
use Rattle.fl_bench.specs.Process.{owns}
use Rattle.fl_bench.specs.declared.process.Process.{Process}
use Rattle.fl_replies.specs.ReplyText.{count_text}
use Rattle.fl_explanations.specs.Lines.{end_line, lines_text, list_line, process_lines, waits_line}
use Rattle.fl_explanations.specs.parts.Pieces.{owner_text}

module _ (p : Process) where
  abbrev pub ends_of : List (Endpoint × OpenEndpoint)
  ends_of = maps.entries p.mailbox.endpoints

  process_count : length (process_lines p)
      ≡ 3 + (length ends_of + length p.mailbox.inbox)
  process_count =
      let more = length-append (map end_line ends_of) (map waits_line p.mailbox.inbox) in
      let ends = length-map ends_of end_line in
      let waits = length-map p.mailbox.inbox waits_line in
      omega (arith, more, ends, waits)

  behind : flat_map (λ (line : List ℕ). line)
      (map end_line ends_of ++ map waits_line p.mailbox.inbox)
      ≡ flat_map end_line ends_of ++ flat_map waits_line p.mailbox.inbox
  behind =
      flat_map-append (λ (line : List ℕ). line) (map end_line ends_of)
      (map waits_line p.mailbox.inbox)
      ∙ ap (λ l. l ++ flat_map (λ (line : List ℕ). line) (map waits_line p.mailbox.inbox))
      (flat_map-map (λ (line : List ℕ). line) end_line ends_of)
      ∙ ap (λ l. flat_map end_line ends_of ++ l)
      (flat_map-map (λ (line : List ℕ). line) waits_line p.mailbox.inbox)

  process_parts : flat_map (λ (line : List ℕ). line) (process_lines p)
      ≡ owner_text p ++ (flat_map end_line ends_of ++ flat_map waits_line p.mailbox.inbox)
  process_parts =
      let s = list_line (codes "S ") (label_text p.labels.secrecy) in
      let i = list_line (codes "I ") (label_text p.labels.integrity) in
      let o = list_line (codes "owns ") (caps_text (owns p)) in
      let more = flat_map end_line ends_of ++ flat_map waits_line p.mailbox.inbox in
      ap (λ l. s ++ (i ++ (o ++ l))) behind
      ∙ sym (append_assoc s i (o ++ more)) ∙ sym (append_assoc (s ++ i) o more)

  pub process_text : (count : ℕ) → count ≡ 3 + (length ends_of + length p.mailbox.inbox)
      → lines_text (process_lines p) ≡ count_text (codes "lines ") count
      ++ (owner_text p ++ (flat_map end_line ends_of ++ flat_map waits_line p.mailbox.inbox))
  process_text count is =
      ap (λ n. count_text (codes "lines ") n
      ++ flat_map (λ (line : List ℕ). line) (process_lines p)) (process_count ∙ sym is)
      ∙ ap (λ l. count_text (codes "lines ") count ++ l) process_parts
