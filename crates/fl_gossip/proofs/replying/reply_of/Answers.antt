use Rattle.std.proofs.Common.{IfOk, OnErr, ◌<◌, length, take, sym, subst, ◌∙◌}
use Rattle.std.specs.List.Sorted.{IsStrictlySortedBy}
use Rattle.fl_opset.specs.Windows.{lacking}
use Rattle.fl_wire.specs.NameOrder.{by_name}
use Rattle.fl_gossip.specs.Replying.{AreInDeltas}
use Rattle.fl_gossip.specs.laws.Cutting.{lacking_rises}
use Rattle.fl_gossip.proofs.Deltas.{taken_rises, nothing_lacks, none_filled}
use Rattle.fl_gossip.proofs.replying.reply_of.Goals as goal

pub first_of-requires : goal.first_of-requires
first_of-requires c =
    let lacks = nothing_lacks c.args.window.now (c.is_of_nothing.ensures.holds c.if-is_of_nothing.true) c.args.saved.now in
    subst (IsStrictlySortedBy by_name) (sym (c.by_node.ensures.whole ∙ sym lacks)) (lacking_rises c.args.saved.now c.args.window.now c.requires)

pub returns-then-is_of_nothing-clause-ok : goal.returns-then-is_of_nothing-clause-ok
returns-then-is_of_nothing-clause-ok c =
    let lacks = nothing_lacks c.args.window.now (c.is_of_nothing.ensures.holds c.if-is_of_nothing.true) c.args.saved.now in
    subst (λ ops. IfOk c.first_of.result (λ packets. AreInDeltas (take c.args.most ops) packets.items)) (c.by_node.ensures.whole ∙ sym lacks) c.first_of.ensures.ok

pub returns-then-is_of_nothing-clause-wants : goal.returns-then-is_of_nothing-clause-wants
returns-then-is_of_nothing-clause-wants c =
    let lacks = nothing_lacks c.args.window.now (c.is_of_nothing.ensures.holds c.if-is_of_nothing.true) c.args.saved.now in
    subst (λ ops. OnErr c.first_of.result (0 < length (take c.args.most ops))) (c.by_node.ensures.whole ∙ sym lacks) c.first_of.ensures.wants

pub fill-requires-clause-rise : goal.fill-requires-clause-rise
fill-requires-clause-rise c =
    subst (IsStrictlySortedBy by_name) (sym (none_filled _ _ _ c.new-deltas.ensures.items c.new-waiting.ensures.items ∙ c.deref.ensures.value ∙ c.in_ok-ops.ensures.ok))
    (taken_rises by_name c.args.most (lacking c.args.saved.now c.args.window.now) (lacking_rises c.args.saved.now c.args.window.now c.requires))

pub finished-requires-clause-rise : goal.finished-requires-clause-rise
finished-requires-clause-rise c =
    let whole = c.in_ok-fill.ensures.whole ∙ none_filled _ _ _ c.new-deltas.ensures.items c.new-waiting.ensures.items ∙ c.deref.ensures.value ∙ c.in_ok-ops.ensures.ok in
    subst (IsStrictlySortedBy by_name) (sym whole) (taken_rises by_name c.args.most (lacking c.args.saved.now c.args.window.now) (lacking_rises c.args.saved.now c.args.window.now c.requires))

pub returns-clause-ok : goal.returns-clause-ok
returns-clause-ok c =
    let whole = c.in_ok-fill.ensures.whole ∙ none_filled _ _ _ c.new-deltas.ensures.items c.new-waiting.ensures.items ∙ c.deref.ensures.value ∙ c.in_ok-ops.ensures.ok in
    subst (λ ops. IfOk c.finished.result (λ packets. AreInDeltas ops packets.items)) whole c.finished.ensures.ok
