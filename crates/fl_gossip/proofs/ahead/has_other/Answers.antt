use Rattle.std.proofs.Common.{sym, ◌∙◌}
use Rattle.std.proofs.lemmas.List.{get_or_default}
use Rattle.fl_gossip.proofs.Fronts.{apart, alike, first_other, single, twice}
use Rattle.fl_gossip.proofs.ahead.has_other.Goals as goal

pub returns-then-ne-clause-other : goal.returns-then-ne-clause-other
returns-then-ne-clause-other c = λ _.
    let xs = c.args.ops.now in
    let op = c.args.op.now in
    let x = c.index-ops-0.result in
    let begins = c.requires.begins in
    first_other xs c.requires.rise op c.requires.from begins x (λ d. get_or_default xs 0 d x begins.some ∙ sym c.index-ops-0.is) (apart x op _ c.ne.ensures c.if-ne.true)

pub returns-clause-other : goal.returns-clause-other
returns-clause-other c = λ more.
    let xs = c.args.ops.now in
    let op = c.args.op.now in
    let x = c.index-ops-0.result in
    let begins = c.requires.begins in
    twice xs c.requires.rise op.name c.requires.from c.split_at.result.1.now c.split_at.ensures.back begins op
    (λ d. get_or_default xs 0 d x begins.some ∙ sym c.index-ops-0.is ∙ alike x op _ c.ne.ensures c.if-ne.false) (c.begins_with.ensures.holds more)

pub returns-clause-alone : goal.returns-clause-alone
returns-clause-alone c = λ last.
    let xs = c.args.ops.now in
    let op = c.args.op.now in
    let x = c.index-ops-0.result in
    let begins = c.requires.begins in
    single xs c.requires.rise op.name c.requires.from c.split_at.result.1.now c.split_at.ensures.back begins op
    (λ d. get_or_default xs 0 d x begins.some ∙ sym c.index-ops-0.is ∙ alike x op _ c.ne.ensures c.if-ne.false) (c.begins_with.ensures.fails last)
