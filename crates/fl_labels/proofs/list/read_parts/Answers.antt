use Rattle.std.proofs.Common.{◌≡◌, ◌≢◌, ◌<◌, ◌≤◌, ◌+◌, ◌++◌, [], ◌∷◌, append-nil, false, None, Some, length, drop, get_or, map, ap, sym, ◌∙◌, arith, rules}
use Rattle.std.specs.List.{slice_split}
use Rattle.std.proofs.lemmas.Bool.{ne_eqb}
use Rattle.std.proofs.lemmas.Str.{IsCharBoundary-start}
use Rattle.fl_labels.specs.Words.{is_comma}
use Rattle.fl_labels.proofs.Cut.{no_part, parts_at, parts_end, parts_more, joined, comma_there, behind_comma, piece_none, piece_more, last_piece, one_part, read_some}
use Rattle.fl_labels.proofs.list.read_parts.Goals as goal

pub loop-at-init : goal.loop-at-init
loop-at-init g c = record {
  so_far = ap (λ items. map g.T.Item.text items ++ slice_split is_comma c.args.inner.now)
      (sym c.new-items.ensures.items);
  low = omega arith;
  boundary = IsCharBoundary-start c.args.inner.now c.utf8.inner;
  piece = piece_none c.args.inner.now 0;
}

pub loop-at-preserved-then-byte-ne44 : goal.loop-at-preserved-then-byte-ne44
loop-at-preserved-then-byte-ne44 g c =
    let inner = c.args.inner.now in
    let at = c.loop-at.at in
    let long = ap length c.as_bytes-byte-items.ensures.value in
    let inside : at < length inner = omega (arith, long) in
    let same : get_or c.as_bytes-byte-items.result.now at 0 ≡ get_or inner at 0 =
    ap (λ l. get_or l at 0) c.as_bytes-byte-items.ensures.value in
    let other : is_comma (get_or inner at 0) ≡ false =
    ne_eqb (get_or inner at 0) 44 (λ e. c.if-byte-ne44.true (same ∙ e)) in
    record {
      so_far = c.loop-at.invariant.so_far;
      low = omega arith;
      boundary = c.loop-at.invariant.boundary;
      piece = piece_more inner c.loop-at.start at c.loop-at.invariant.low inside other
          c.loop-at.invariant.piece;
    }

pub returns-in_err-item-clause-bad_text : goal.returns-in_err-item-clause-bad_text
returns-in_err-item-clause-bad_text g c = λ _ items e.
    let inner = c.args.inner.now in
    let at = c.loop-at.at in
    let long = ap length c.as_bytes-byte-items.ensures.value in
    let inside : at < length inner = omega (arith, long) in
    let is : get_or inner at 0 ≡ 44 =
    sym (ap (λ l. get_or l at 0) c.as_bytes-byte-items.ensures.value) ∙ c.if-byte-ne44.false in
    let cut = c.loop-at.invariant.so_far
    ∙ ap (λ r. map g.T.Item.text c.loop-at.items.items ++ r)
    (parts_at (drop c.loop-at.start inner) _ (drop (at + 1) inner) c.loop-at.invariant.piece
    (comma_there inner c.loop-at.start at c.loop-at.invariant.low inside is)
    ∙ ap (λ p. p ∷ slice_split is_comma (drop (at + 1) inner)) (sym c.range.ensures.value)) in
    let some : length inner ≢ 0 = search rules in
    let none : c.read.result ≡ None = grind arith in
    no_part g.T.Item.text g.met.T.Item.no_comma inner c.loop-at.items.items items c.range.result.now
    _ c.read.result some e cut c.read.ensures none

pub loop-at-preserved : goal.loop-at-preserved
loop-at-preserved g c =
    let inner = c.args.inner.now in
    let at = c.loop-at.at in
    let long = ap length c.as_bytes-byte-items.ensures.value in
    let inside : at < length inner = omega (arith, long) in
    let is : get_or inner at 0 ≡ 44 =
    sym (ap (λ l. get_or l at 0) c.as_bytes-byte-items.ensures.value) ∙ c.if-byte-ne44.false in
    let some : c.read.result ≡ Some c.in_ok-item.item = grind arith in
    let spelled =
    read_some g.T.Item.text c.range.result.now c.read.result c.in_ok-item.item c.read.ensures
    some in
    record {
      so_far = c.loop-at.invariant.so_far
          ∙ ap (λ r. map g.T.Item.text c.loop-at.items.items ++ r)
          (parts_at (drop c.loop-at.start inner) _ (drop (at + 1) inner) c.loop-at.invariant.piece
          (comma_there inner c.loop-at.start at c.loop-at.invariant.low inside is)
          ∙ ap (λ p. p ∷ slice_split is_comma (drop (at + 1) inner)) (sym c.range.ensures.value))
          ∙ parts_more g.T.Item.text c.loop-at.items.items c.in_ok-item.item c.range.result.now _
          spelled
          ∙ ap (λ items. map g.T.Item.text items ++ slice_split is_comma (drop (at + 1) inner))
          (sym c.in_ok-push.ensures.items);
      low = omega arith;
      boundary = behind_comma inner at c.utf8.inner inside is;
      piece = piece_none inner (at + 1);
    }

pub returns-in_err-last-clause-bad_text : goal.returns-in_err-last-clause-bad_text
returns-in_err-last-clause-bad_text g c = λ _ items e.
    let inner = c.args.inner.now in
    let long = ap length c.as_bytes-byte-items.ensures.value in
    let past : length inner ≤ c.loop-at.at = omega (arith, long) in
    let rest =
    last_piece inner c.loop-at.start c.loop-at.at c.loop-at.invariant.low past
    c.loop-at.invariant.piece in
    let cut = c.loop-at.invariant.so_far
    ∙ ap (λ r. map g.T.Item.text c.loop-at.items.items ++ r)
    (parts_end (drop c.loop-at.start inner) rest
    ∙ ap (λ p. p ∷ []) (sym c.range_from.ensures.value)) in
    let some : length inner ≢ 0 = search rules in
    let none : c.read-2.result ≡ None = grind arith in
    no_part g.T.Item.text g.met.T.Item.no_comma inner c.loop-at.items.items items
    c.range_from.result.now _ c.read-2.result some e cut c.read-2.ensures none

pub returns-clause-ok : goal.returns-clause-ok
returns-clause-ok g c =
    let inner = c.args.inner.now in
    let long = ap length c.as_bytes-byte-items.ensures.value in
    let past : length inner ≤ c.loop-at.at = omega (arith, long) in
    let rest =
    last_piece inner c.loop-at.start c.loop-at.at c.loop-at.invariant.low past
    c.loop-at.invariant.piece in
    let some : c.read-2.result ≡ Some c.in_ok-last.last = grind arith in
    let spelled =
    read_some g.T.Item.text c.range_from.result.now c.read-2.result c.in_ok-last.last
    c.read-2.ensures some in
    joined inner _ (c.loop-at.invariant.so_far
    ∙ ap (λ r. map g.T.Item.text c.loop-at.items.items ++ r)
    (parts_end (drop c.loop-at.start inner) rest
    ∙ ap (λ p. p ∷ []) (sym c.range_from.ensures.value))
    ∙ parts_more g.T.Item.text c.loop-at.items.items c.in_ok-last.last c.range_from.result.now []
    spelled
    ∙ append-nil _
    ∙ ap (λ items. map g.T.Item.text items) (sym c.in_ok-push-2.ensures.items))

pub returns-in_err-push-2-clause-one : goal.returns-in_err-push-2-clause-one
returns-in_err-push-2-clause-one g c = λ _ plain.
    let inner = c.args.inner.now in
    let long = ap length c.as_bytes-byte-items.ensures.value in
    let past : length inner ≤ c.loop-at.at = omega (arith, long) in
    let rest =
    last_piece inner c.loop-at.start c.loop-at.at c.loop-at.invariant.low past
    c.loop-at.invariant.piece in
    let some : c.read-2.result ≡ Some c.in_ok-last.last = grind arith in
    let spelled =
    read_some g.T.Item.text c.range_from.result.now c.read-2.result c.in_ok-last.last
    c.read-2.ensures some in (
      c.in_ok-last.last,
      one_part inner c.range_from.result.now (map g.T.Item.text c.loop-at.items.items) plain
          (c.loop-at.invariant.so_far
          ∙ ap (λ r. map g.T.Item.text c.loop-at.items.items ++ r)
          (parts_end (drop c.loop-at.start inner) rest
          ∙ ap (λ p. p ∷ []) (sym c.range_from.ensures.value)))
          ∙ spelled,
    )
