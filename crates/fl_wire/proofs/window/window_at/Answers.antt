use Rattle.std.proofs.Common.{◌≤◌, ◌+◌, ◌*◌, ◌++◌, length, sym, ap, subst, ◌∙◌, arith}
use Rattle.std.specs.Int.{w16, to_be_bytes}
use Rattle.std.specs.List.{flat_map, AllByRecursion}
use Rattle.fl_ops.specs.Bytes.{name_bytes}
use Rattle.fl_opset.specs.Rank.{name_rank}
use Rattle.fl_wire.specs.PacketBytes.{span_bytes}
use Rattle.fl_wire.specs.PacketFits.{HasSpan}
use Rattle.fl_wire.specs.parts.SpansRead.{AreSpansAt}
use Rattle.fl_wire.proofs.Windows.{window_found}
use Rattle.fl_wire.proofs.window.window_at.Goals as goal

pub returns : goal.returns
returns c =
    let f = c.args.format in
    let bs = c.args.bytes.now in
    let from = c.in_ok-from.from in
    let to = c.in_ok-to.to in
    let size = c.name_size-size.result in
    let items = c.in_ok-spans_at.field-0.items in
    let at = c.args.at + (2 * size + 2) in
    let ordered : name_rank from ≤ name_rank to = omega (arith, c.if-rank.false, c.rank.ensures, c.rank-2.ensures) in
    let spans = subst (λ r. AreSpansAt f bs at r (name_rank to) c.from-count.result items) c.rank-3.ensures
    (subst (λ r. AreSpansAt f bs at c.rank-3.result r c.from-count.result items) c.rank-4.ensures c.in_ok-spans_at.ensures) in
    let found = window_found f bs c.args.at size c.in_ok-short_at.field-0 c.from-count.result from to items c.name_size-size.ensures c.in_ok-from.ensures c.in_ok-to.ensures ordered c.in_ok-short_at.ensures c.from-count.ensures spans in
    let view = c.from_vec-spans.ensures in (
      found.0,
      record { from = c.in_ok-from.ensures.1; to = c.in_ok-to.ensures.1; spans = subst (AllByRecursion (HasSpan f)) (sym view) spans.has },
      found.1 ∙ ap (λ l. name_bytes f from ++ (name_bytes f to ++ (to_be_bytes w16 (length l) ++ flat_map (span_bytes f) l))) (sym view),
    )
