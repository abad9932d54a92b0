use Rattle.std.proofs.Common.{◌≡◌, ◌<◌, length, get_or, ap, arith}
use Rattle.std.proofs.lemmas.Str.{IsCharBoundary-after_ascii}
use Rattle.fl_labels.proofs.list.inner_of.Goals as goal

pub range-requires-clause-start_boundary : goal.range-requires-clause-start_boundary
range-requires-clause-start_boundary c = λ _.
    let text = c.args.text.now in
    let same : get_or c.as_bytes.result.now 0 0 ≡ get_or text 0 0 =
    ap (λ l. get_or l 0 0) c.as_bytes.ensures.value in
    let long = ap length c.as_bytes.ensures.value in
    let inside : 0 < length text = omega (arith, long) in
    IsCharBoundary-after_ascii text 0 c.utf8.text inside (omega (arith, same))
