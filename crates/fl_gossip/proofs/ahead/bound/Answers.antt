use Rattle.std.proofs.Common.{◌≡◌, sym, ◌∙◌, rules}
use Rattle.std.specs.Cmp.Rules.{comparing}
use Rattle.std.specs.Ordering.{is_ge}
use Rattle.fl_labels.specs.Name.{name_cmp}
use Rattle.fl_gossip.proofs.Fronts.{ge_not_lt, rest_not_below}
use Rattle.fl_gossip.proofs.ahead.bound.Goals as goal

pub returns-then-ge-clause-above : goal.returns-then-ge-clause-above
returns-then-ge-clause-above c =
    let x = c.index-ops-bound.result in
    let e : c.ge.result ≡ is_ge (name_cmp x.name c.args.name) = first_of (search rules, search (comparing, rules)) in
    rest_not_below c.args.ops.now c.requires c.args.name c.loop-bound.bound x c.loop-bound-test.true c.index-ops-bound.is (ge_not_lt (name_cmp x.name c.args.name) (sym e ∙ c.if-ge.true))
