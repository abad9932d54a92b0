use Rattle.std.proofs.Common.{◌≡◌, ◌+◌, ◌-◌, ◌<◌, ◌≤◌, suc, length, get_or, drop, refl, sym, ap, ◌∙◌, arith, add-one}
use Rattle.std.specs.List.{remove}
use Rattle.fl_labels.specs.declared.name.Name.{Name}
use Rattle.fl_opset.specs.declared.span.Span.{Span}
use Rattle.fl_opset.specs.Rank.{name_rank, last_rank}
use Rattle.fl_opset.proofs.Changes.{Starts}
use Rattle.fl_opset.proofs.Places.{same_node, next_node, least, add_place, one_item, ends_here, starts_past, starts_here, starts_next, inserted, down, up, both}
use Rattle.fl_opset.proofs.spans.add_name.Goals as goal
use Rattle.fl_opset.proofs.spans.add_name.Goals.{then-place-len-via-then-place-len, then-place-len-via-else-place-len+then-at-rank, then-place-len-2+else-rank-at, else-place-len-2}

pub returns-then-place-len-clause-ok : goal.returns-then-place-len-clause-ok
returns-then-place-len-clause-ok c =
    let xs = c.args.spans.now.items in
    let p = c.count_below-place.result in
    let r = name_rank c.args.name in
    let at = add_place xs c.deref.result.now p r c.rank-at.result c.deref.ensures.value c.requires c.rank-at.ensures (least c.args.name) c.count_below-place.ensures.below in
    let next : Starts (r + 2) (drop p xs) =
    elim c.then-place-len.branch [
      | then-place-len-via-then-place-len w ↦ starts_past xs p (r + 2) (omega (arith, c.args.spans.now.ok.0, c.len.ensures, w.if-place-len.true))
      | then-place-len-via-else-place-len+then-at-rank w ↦
          starts_here xs p (r + 2) w.index.result.now
          (omega (arith, c.args.spans.now.ok.0, c.count_below-place.ensures.bound, c.deref.ensures.len, c.len.ensures, w.if-place-len.false)) w.index.ensures
          (omega (arith, w.if-at-rank.true, w.rank.ensures, c.rank-at.ensures))
    ] in
    inserted xs _ p r at c.lone.result (ap name_rank c.lone.ensures.first) c.lone.ensures.last next c.in_ok-insert.ensures.items

pub returns-then-at-rank-2-clause-ok : goal.returns-then-at-rank-2-clause-ok
returns-then-at-rank-2-clause-ok c =
    let xs = c.args.spans.now.items in
    let p = c.count_below-place.result in
    let r = name_rank c.args.name in
    let at = add_place xs c.deref.result.now p r c.rank-at.result c.deref.ensures.value c.requires c.rank-at.ensures (least c.args.name) c.count_below-place.ensures.below in
    let s = c.index-2.result.now in
    let inside : p < length xs = omega (arith, c.args.spans.now.ok.0, c.count_below-place.ensures.bound, c.deref.ensures.len, c.len.ensures, c.if-place-len.false) in
    let low : name_rank s.first ≤ r + 1 = omega (arith, ap (λ (x : Span). name_rank x.first) (one_item xs p c.index.result.now s inside c.index.ensures c.index-2.ensures), c.rank.ensures, c.rank-at.ensures, c.if-at-rank.false) in
    let high : c.rank-at.result - 1 ≤ last_rank s = ends_here xs c.deref.result.now p (c.rank-at.result - 1) s c.deref.ensures.value c.count_below-place.ensures.above inside c.index-2.ensures in
    let next : r + 1 ≡ name_rank s.first = omega (arith, low, c.rank-2.ensures, c.rank-at.ensures, c.if-at-rank-2.true) in
    down xs _ p r at s c.joined.result inside c.index-2.ensures next
    (ap name_rank (c.joined.ensures.first ∙ c.lone-then-at-rank-2.ensures.first)) c.joined.ensures.last refl

pub joined-requires-then-rank-at-clause-node : goal.joined-requires-then-rank-at-clause-node
joined-requires-then-rank-at-clause-node c =
    let xs = c.args.spans.now.items in
    let p = c.count_below-place.result in
    let r = name_rank c.args.name in
    let at = add_place xs c.deref.result.now p r c.rank-at.result c.deref.ensures.value c.requires c.rank-at.ensures (least c.args.name) c.count_below-place.ensures.below in
    let s = c.index-2.result.now in
    let inside : p < length xs = omega (arith, c.args.spans.now.ok.0, c.count_below-place.ensures.bound, c.deref.ensures.len, c.len.ensures, c.if-place-len.false) in
    let low : name_rank s.first ≤ r + 1 = omega (arith, ap (λ (x : Span). name_rank x.first) (one_item xs p c.index.result.now s inside c.index.ensures c.index-2.ensures), c.rank.ensures, c.rank-at.ensures, c.if-at-rank.false) in
    let high : c.rank-at.result - 1 ≤ last_rank s = ends_here xs c.deref.result.now p (c.rank-at.result - 1) s c.deref.ensures.value c.count_below-place.ensures.above inside c.index-2.ensures in
    let next : last_rank s + 1 ≡ r = omega (arith, low, high, c.rank-at.ensures, c.rank-2.ensures, c.last_rank_of.ensures, c.if-at-last_rank_of.false) in
    let more : suc p < length xs = omega (arith, c.args.spans.now.ok.0, c.len-2.ensures, c.if-place-len-2.true) in
    let t = c.index-next.result.now in
    let follows : t ≡ get_or xs (suc p) t = c.index-next.ensures ∙ ap (λ n. get_or xs n t) (add-one p) in
    let near : name_rank t.first ≡ r + 1 = omega (arith, c.rank-then-place-len-2.ensures, c.rank-at.ensures, c.if-rank-at.true) in
    same_node s c.args.name next ∙ next_node c.args.name t.first (sym near)

pub returns-then-rank-at-clause-ok : goal.returns-then-rank-at-clause-ok
returns-then-rank-at-clause-ok c =
    let xs = c.args.spans.now.items in
    let p = c.count_below-place.result in
    let r = name_rank c.args.name in
    let at = add_place xs c.deref.result.now p r c.rank-at.result c.deref.ensures.value c.requires c.rank-at.ensures (least c.args.name) c.count_below-place.ensures.below in
    let s = c.index-2.result.now in
    let inside : p < length xs = omega (arith, c.args.spans.now.ok.0, c.count_below-place.ensures.bound, c.deref.ensures.len, c.len.ensures, c.if-place-len.false) in
    let low : name_rank s.first ≤ r + 1 = omega (arith, ap (λ (x : Span). name_rank x.first) (one_item xs p c.index.result.now s inside c.index.ensures c.index-2.ensures), c.rank.ensures, c.rank-at.ensures, c.if-at-rank.false) in
    let high : c.rank-at.result - 1 ≤ last_rank s = ends_here xs c.deref.result.now p (c.rank-at.result - 1) s c.deref.ensures.value c.count_below-place.ensures.above inside c.index-2.ensures in
    let next : last_rank s + 1 ≡ r = omega (arith, low, high, c.rank-at.ensures, c.rank-2.ensures, c.last_rank_of.ensures, c.if-at-last_rank_of.false) in
    let more : suc p < length xs = omega (arith, c.args.spans.now.ok.0, c.len-2.ensures, c.if-place-len-2.true) in
    let t = c.index-next.result.now in
    let follows : t ≡ get_or xs (suc p) t = c.index-next.ensures ∙ ap (λ n. get_or xs n t) (add-one p) in
    let near : name_rank t.first ≡ r + 1 = omega (arith, c.rank-then-place-len-2.ensures, c.rank-at.ensures, c.if-rank-at.true) in
    both xs _ p r at s c.joined-then-rank-at.result inside c.index-2.ensures t c.remove.new.self.items more follows next near
    (ap name_rank c.joined-then-rank-at.ensures.first) c.joined-then-rank-at.ensures.last (c.remove.ensures.items ∙ ap (remove xs) (add-one p)) refl

pub joined-requires-2-clause-node : goal.joined-requires-2-clause-node
joined-requires-2-clause-node c =
    let xs = c.args.spans.now.items in
    let p = c.count_below-place.result in
    let r = name_rank c.args.name in
    let at = add_place xs c.deref.result.now p r c.rank-at.result c.deref.ensures.value c.requires c.rank-at.ensures (least c.args.name) c.count_below-place.ensures.below in
    let s = c.index-2.result.now in
    let inside : p < length xs = omega (arith, c.args.spans.now.ok.0, c.count_below-place.ensures.bound, c.deref.ensures.len, c.len.ensures, c.if-place-len.false) in
    let low : name_rank s.first ≤ r + 1 = omega (arith, ap (λ (x : Span). name_rank x.first) (one_item xs p c.index.result.now s inside c.index.ensures c.index-2.ensures), c.rank.ensures, c.rank-at.ensures, c.if-at-rank.false) in
    let high : c.rank-at.result - 1 ≤ last_rank s = ends_here xs c.deref.result.now p (c.rank-at.result - 1) s c.deref.ensures.value c.count_below-place.ensures.above inside c.index-2.ensures in
    let next : last_rank s + 1 ≡ r = omega (arith, low, high, c.rank-at.ensures, c.rank-2.ensures, c.last_rank_of.ensures, c.if-at-last_rank_of.false) in
    same_node s c.args.name next ∙ ap (λ (n : Name). n.node) (sym c.lone-2.ensures.first)

pub returns-clause-ok : goal.returns-clause-ok
returns-clause-ok c =
    let xs = c.args.spans.now.items in
    let p = c.count_below-place.result in
    let r = name_rank c.args.name in
    let at = add_place xs c.deref.result.now p r c.rank-at.result c.deref.ensures.value c.requires c.rank-at.ensures (least c.args.name) c.count_below-place.ensures.below in
    let s = c.index-2.result.now in
    let inside : p < length xs = omega (arith, c.args.spans.now.ok.0, c.count_below-place.ensures.bound, c.deref.ensures.len, c.len.ensures, c.if-place-len.false) in
    let low : name_rank s.first ≤ r + 1 = omega (arith, ap (λ (x : Span). name_rank x.first) (one_item xs p c.index.result.now s inside c.index.ensures c.index-2.ensures), c.rank.ensures, c.rank-at.ensures, c.if-at-rank.false) in
    let high : c.rank-at.result - 1 ≤ last_rank s = ends_here xs c.deref.result.now p (c.rank-at.result - 1) s c.deref.ensures.value c.count_below-place.ensures.above inside c.index-2.ensures in
    let next : last_rank s + 1 ≡ r = omega (arith, low, high, c.rank-at.ensures, c.rank-2.ensures, c.last_rank_of.ensures, c.if-at-last_rank_of.false) in
    let more : Starts (r + 2) (drop (suc p) xs) =
    elim c.if-place-len-2.branch [
      | then-place-len-2+else-rank-at w ↦
          starts_next xs p r s w.index-next.result.now at.at inside c.index-2.ensures
          (omega (arith, c.args.spans.now.ok.0, c.len-2.ensures, w.if-place-len-2.true))
          (w.index-next.ensures ∙ ap (λ n. get_or xs n w.index-next.result.now) (add-one p)) next
          (λ same. w.if-rank-at.false (omega (arith, w.rank-then-place-len-2.ensures, c.rank-at.ensures, same)))
      | else-place-len-2 w ↦ starts_past xs (suc p) (r + 2) (omega (arith, c.args.spans.now.ok.0, c.len-2.ensures, w.if-place-len-2.false))
    ] in
    up xs _ p r at s c.joined-2.result inside c.index-2.ensures next
    (ap name_rank c.joined-2.ensures.first) (c.joined-2.ensures.last ∙ c.lone-2.ensures.last) more refl
