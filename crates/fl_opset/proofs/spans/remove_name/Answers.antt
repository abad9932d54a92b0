use Rattle.std.proofs.Common.{◌+◌, ◌<◌, ◌≤◌, length, drop, refl, ap, ◌∙◌, arith, add-one}
use Rattle.std.specs.List.{insert}
use Rattle.fl_opset.specs.declared.span.Span.{Span}
use Rattle.fl_opset.specs.Rank.{name_rank, last_rank}
use Rattle.fl_opset.proofs.Changes.{Starts}
use Rattle.fl_opset.proofs.Places.{in_node, place, one_item, ends_here, starts_past, starts_here, not_there, removed, without_first, without_last, parted}
use Rattle.fl_opset.proofs.spans.remove_name.Goals as goal
use Rattle.fl_opset.proofs.spans.remove_name.Goals.{then-place-len-via-then-place-len, then-place-len-via-else-place-len+then-at-rank}

pub returns-then-place-len-clause-ok : goal.returns-then-place-len-clause-ok
returns-then-place-len-clause-ok c =
    let xs = c.args.spans.now.items in
    let p = c.count_below-place.result in
    let r = name_rank c.args.name in
    let at = place xs c.deref.result.now p r c.rank-at.result c.deref.ensures.value c.requires c.rank-at.ensures c.count_below-place.ensures.below in
    let next : Starts (r + 1) (drop p xs) =
    elim c.then-place-len.branch [
      | then-place-len-via-then-place-len w ↦ starts_past xs p (r + 1) (omega (arith, c.args.spans.now.ok.0, c.len.ensures, w.if-place-len.true))
      | then-place-len-via-else-place-len+then-at-rank w ↦
          starts_here xs p (r + 1) w.index.result.now
          (omega (arith, c.args.spans.now.ok.0, c.count_below-place.ensures.bound, c.deref.ensures.len, c.len.ensures, w.if-place-len.false)) w.index.ensures
          (omega (arith, w.if-at-rank.true, w.rank.ensures, c.rank-at.ensures))
    ] in
    not_there xs _ p r at next refl

pub returns-then-ends-clause-ok : goal.returns-then-ends-clause-ok
returns-then-ends-clause-ok c =
    let xs = c.args.spans.now.items in
    let p = c.count_below-place.result in
    let r = name_rank c.args.name in
    let at = place xs c.deref.result.now p r c.rank-at.result c.deref.ensures.value c.requires c.rank-at.ensures c.count_below-place.ensures.below in
    let s = c.index-2.result.now in
    let inside : p < length xs = omega (arith, c.args.spans.now.ok.0, c.count_below-place.ensures.bound, c.deref.ensures.len, c.len.ensures, c.if-place-len.false) in
    let low : name_rank s.first ≤ r = omega (arith, ap (λ (x : Span). name_rank x.first) (one_item xs p c.index.result.now s inside c.index.ensures c.index-2.ensures), c.rank.ensures, c.rank-at.ensures, c.if-at-rank.false) in
    let high : r ≤ last_rank s = omega (arith, c.rank-at.ensures, ends_here xs c.deref.result.now p c.rank-at.result s c.deref.ensures.value c.count_below-place.ensures.above inside c.index-2.ensures) in
    removed xs _ p r at s s inside c.index-2.ensures (omega (arith, c.rank-2.ensures, c.rank-at.ensures, c.if-begins.true))
    (omega (arith, c.last_rank_of.ensures, c.rank-at.ensures, c.if-ends.true)) c.remove.ensures.items

pub returns-then-begins-2-clause-ok : goal.returns-then-begins-2-clause-ok
returns-then-begins-2-clause-ok c =
    let xs = c.args.spans.now.items in
    let p = c.count_below-place.result in
    let r = name_rank c.args.name in
    let at = place xs c.deref.result.now p r c.rank-at.result c.deref.ensures.value c.requires c.rank-at.ensures c.count_below-place.ensures.below in
    let s = c.index-2.result.now in
    let inside : p < length xs = omega (arith, c.args.spans.now.ok.0, c.count_below-place.ensures.bound, c.deref.ensures.len, c.len.ensures, c.if-place-len.false) in
    let low : name_rank s.first ≤ r = omega (arith, ap (λ (x : Span). name_rank x.first) (one_item xs p c.index.result.now s inside c.index.ensures c.index-2.ensures), c.rank.ensures, c.rank-at.ensures, c.if-at-rank.false) in
    let high : r ≤ last_rank s = omega (arith, c.rank-at.ensures, ends_here xs c.deref.result.now p c.rank-at.result s c.deref.ensures.value c.count_below-place.ensures.above inside c.index-2.ensures) in
    without_first xs _ p r at s c.after.result inside c.index-2.ensures (omega (arith, c.rank-2.ensures, c.rank-at.ensures, c.if-begins-2.true))
    high c.after.ensures.first c.after.ensures.last refl

pub returns-then-ends-2-clause-ok : goal.returns-then-ends-2-clause-ok
returns-then-ends-2-clause-ok c =
    let xs = c.args.spans.now.items in
    let p = c.count_below-place.result in
    let r = name_rank c.args.name in
    let at = place xs c.deref.result.now p r c.rank-at.result c.deref.ensures.value c.requires c.rank-at.ensures c.count_below-place.ensures.below in
    let s = c.index-2.result.now in
    let inside : p < length xs = omega (arith, c.args.spans.now.ok.0, c.count_below-place.ensures.bound, c.deref.ensures.len, c.len.ensures, c.if-place-len.false) in
    let low : name_rank s.first ≤ r = omega (arith, ap (λ (x : Span). name_rank x.first) (one_item xs p c.index.result.now s inside c.index.ensures c.index-2.ensures), c.rank.ensures, c.rank-at.ensures, c.if-at-rank.false) in
    let high : r ≤ last_rank s = omega (arith, c.rank-at.ensures, ends_here xs c.deref.result.now p c.rank-at.result s c.deref.ensures.value c.count_below-place.ensures.above inside c.index-2.ensures) in
    without_last xs _ p r at s c.before-then-ends-2.result inside c.index-2.ensures (omega (arith, c.last_rank_of.ensures, c.rank-at.ensures, c.if-ends-2.true))
    c.before-then-ends-2.ensures.last (ap name_rank c.before-then-ends-2.ensures.first) refl

pub after-requires-2-clause-node : goal.after-requires-2-clause-node
after-requires-2-clause-node c =
    let xs = c.args.spans.now.items in
    let p = c.count_below-place.result in
    let r = name_rank c.args.name in
    let at = place xs c.deref.result.now p r c.rank-at.result c.deref.ensures.value c.requires c.rank-at.ensures c.count_below-place.ensures.below in
    let s = c.index-2.result.now in
    let inside : p < length xs = omega (arith, c.args.spans.now.ok.0, c.count_below-place.ensures.bound, c.deref.ensures.len, c.len.ensures, c.if-place-len.false) in
    let low : name_rank s.first ≤ r = omega (arith, ap (λ (x : Span). name_rank x.first) (one_item xs p c.index.result.now s inside c.index.ensures c.index-2.ensures), c.rank.ensures, c.rank-at.ensures, c.if-at-rank.false) in
    let high : r ≤ last_rank s = omega (arith, c.rank-at.ensures, ends_here xs c.deref.result.now p c.rank-at.result s c.deref.ensures.value c.count_below-place.ensures.above inside c.index-2.ensures) in
    in_node s c.args.name low high

pub after-requires-2-clause-rise : goal.after-requires-2-clause-rise
after-requires-2-clause-rise c =
    let xs = c.args.spans.now.items in
    let p = c.count_below-place.result in
    let r = name_rank c.args.name in
    let at = place xs c.deref.result.now p r c.rank-at.result c.deref.ensures.value c.requires c.rank-at.ensures c.count_below-place.ensures.below in
    let s = c.index-2.result.now in
    let inside : p < length xs = omega (arith, c.args.spans.now.ok.0, c.count_below-place.ensures.bound, c.deref.ensures.len, c.len.ensures, c.if-place-len.false) in
    let low : name_rank s.first ≤ r = omega (arith, ap (λ (x : Span). name_rank x.first) (one_item xs p c.index.result.now s inside c.index.ensures c.index-2.ensures), c.rank.ensures, c.rank-at.ensures, c.if-at-rank.false) in
    let high : r ≤ last_rank s = omega (arith, c.rank-at.ensures, ends_here xs c.deref.result.now p c.rank-at.result s c.deref.ensures.value c.count_below-place.ensures.above inside c.index-2.ensures) in
    omega (arith, high, c.last_rank_of.ensures, c.rank-at.ensures, c.if-ends-2.false)

pub returns-clause-ok : goal.returns-clause-ok
returns-clause-ok c =
    let xs = c.args.spans.now.items in
    let p = c.count_below-place.result in
    let r = name_rank c.args.name in
    let at = place xs c.deref.result.now p r c.rank-at.result c.deref.ensures.value c.requires c.rank-at.ensures c.count_below-place.ensures.below in
    let s = c.index-2.result.now in
    let inside : p < length xs = omega (arith, c.args.spans.now.ok.0, c.count_below-place.ensures.bound, c.deref.ensures.len, c.len.ensures, c.if-place-len.false) in
    let low : name_rank s.first ≤ r = omega (arith, ap (λ (x : Span). name_rank x.first) (one_item xs p c.index.result.now s inside c.index.ensures c.index-2.ensures), c.rank.ensures, c.rank-at.ensures, c.if-at-rank.false) in
    let high : r ≤ last_rank s = omega (arith, c.rank-at.ensures, ends_here xs c.deref.result.now p c.rank-at.result s c.deref.ensures.value c.count_below-place.ensures.above inside c.index-2.ensures) in
    parted xs _ p r at s c.before-2.result inside c.index-2.ensures c.after-2.result c.insert.new.self.items high
    (ap name_rank c.before-2.ensures.first) c.before-2.ensures.last c.after-2.ensures.first c.after-2.ensures.last
    (c.in_ok-insert.ensures.items ∙ ap (λ n. insert xs n c.after-2.result) (add-one p)) refl
