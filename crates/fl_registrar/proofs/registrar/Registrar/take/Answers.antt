use Rattle.std.proofs.Common.{◌≡◌, ◌<◌, ◌∙◌, ◌++◌, true, Ok, Err, Some, ℕ, sym, ap, subst, refl}
use Rattle.std.proofs.Common.{arith}
use Rattle.std.specs.Prelude.{vec_capacity}
use Rattle.std.specs.List.Sorted.{IsStrictlySortedBy}
use Rattle.fl_labels.specs.SetBy as set
use Rattle.fl_labels.specs.SetBy.{SetBy}
use Rattle.fl_ops.specs.OpOrder.{op_cmp}
use Rattle.fl_gossip.specs.Taking.{ops_of}
use Rattle.fl_gossip.specs.laws.Rising.{brought_rise}
use Rattle.fl_jobs.specs.declared.answer.Refusal.TheVariants as refusals
use Rattle.fl_system.specs.declared.answer.Fault.TheVariants as faults
use Rattle.fl_system.specs.declared.state.Batch.TheVariants.{Received}
use Rattle.fl_system.specs.State.{NodeState}
use Rattle.fl_system.specs.Begins.{pending_with}
use Rattle.fl_system.specs.Receives.{Receives}
use Rattle.fl_node.specs.Over.{NodeOver}
use Rattle.fl_crew_model.specs.Books.{Declines}
use Rattle.fl_registrar.specs.declared.saving.Saving.TheVariants as savings
use Rattle.fl_registrar.specs.Over.{RegistrarOver}
use Rattle.fl_registrar.specs.Passing.{Passes}
use Rattle.fl_registrar.specs.Taking.{news_of}
use Rattle.fl_registrar.specs.parts.Saving.{BecomesOf}
use Rattle.fl_registrar.specs.parts.Sound.{IsSound, due_of, staged_of}
use Rattle.fl_registrar.proofs.Passed.{become}
use Rattle.fl_registrar.proofs.Ruled.{seen, in_ok, in_err, no_waiting, same_over}
use Rattle.fl_registrar.proofs.Ruled.{back_stands, saved_stands}
use Rattle.fl_registrar.proofs.Brought.{not_broken, not_received, none_received, brings}
use Rattle.fl_registrar.proofs.Brought.{packet_back, undone}
use Rattle.fl_registrar.proofs.Brought.{declines_by, brought_new, busy_waiting, same_news}
use Rattle.fl_registrar.proofs.Taken.{declined_takes, no_room_takes, broken_takes, taken_takes}
use Rattle.fl_registrar.proofs.Taken.{late_takes}
use Rattle.fl_registrar.proofs.registrar.Registrar.take.Goals as goal

pub news-requires : goal.news-requires
news-requires g c =
    let these = c.as_slice.ensures ∙ c.args.parcel.now.same in
    subst (IsStrictlySortedBy op_cmp) (sym these) (brought_rise c.args.parcel.now.packet)

pub invariant_of-self : goal.invariant_of-self
invariant_of-self g c =
    let i = c.self.inside in
    let ops = ops_of c.args.parcel.now.packet in
    let node = not_received i.node.node c.receive.new.self.node (set.of_list ops)
    c.in-Err.fault c.in-Err.ensures.receives in
    let keeper = c.in-Err.ensures.keeper in
    subst (λ (n : NodeOver g.row.K.Denot). IsSound g.K.Keeper.custody n.keeper n.node
    i.press i.due i.is_stopped) (sym (same_over i.node c.receive.new.self node keeper))
    c.self.invariant

pub returns-in-Err-clause-number : goal.returns-in-Err-clause-number
returns-in-Err-clause-number g c =
    let i = c.self.inside in
    let ops = ops_of c.args.parcel.now.packet in
    let node = not_received i.node.node c.receive.new.self.node (set.of_list ops)
    c.in-Err.fault c.in-Err.ensures.receives in
    rw (← c.self.view_is) (ap (λ (n : NodeState). n.number) node)

pub returns-in-Err-clause-boot : goal.returns-in-Err-clause-boot
returns-in-Err-clause-boot g c =
    let i = c.self.inside in
    let ops = ops_of c.args.parcel.now.packet in
    let node = not_received i.node.node c.receive.new.self.node (set.of_list ops)
    c.in-Err.fault c.in-Err.ensures.receives in
    rw (← c.self.view_is) (ap (λ (n : NodeState). n.boot) node)

pub returns-in-Err-clause-takes : goal.returns-in-Err-clause-takes
returns-in-Err-clause-takes g c =
    let i = c.self.inside in
    let ops = ops_of c.args.parcel.now.packet in
    let runs = ap (λ (r : RegistrarOver g.row.K.Denot). r.stopped) c.self.view_is ∙ c.requires in
    let node = not_received i.node.node c.receive.new.self.node (set.of_list ops)
    c.in-Err.fault c.in-Err.ensures.receives in
    rw (← c.self.view_is) (declined_takes g.K.Keeper.custody
    (seen i.node i.press i.due i.orders.items i.deeds.items (vec_capacity i.deeds) i.failed i.is_stopped)
    (seen c.receive.new.self i.press i.due i.orders.items i.deeds.items (vec_capacity i.deeds) i.failed
    i.is_stopped) ops c.declined.result (Err c.in-Err.fault)
    c.declined.ensures node c.in-Err.ensures.keeper refl refl
    (λ honest k held. declines_by i.node.node i.press.list (set.of_list ops) (Err c.in-Err.fault)
    (λ b registrar. (c.law_registrar.ensures.declined i.node.node.number i.node.node
    c.receive.new.self.node b (set.of_list ops) c.in-Err.fault registrar
    c.in-Err.ensures.receives).0)
    i.is_stopped i.due runs (c.self.invariant.stands honest k held)))

pub returns-then-count-eq0-clause-takes : goal.returns-then-count-eq0-clause-takes
returns-then-count-eq0-clause-takes g c =
    let i = c.self.inside in
    let ops = ops_of c.args.parcel.now.packet in
    let runs = ap (λ (r : RegistrarOver g.row.K.Denot). r.stopped) c.self.view_is ∙ c.requires in
    let node = none_received i.node.node c.receive.new.self.node (set.of_list ops)
    c.in-Ok.count c.if-count-eq0.true c.in-Ok.ensures.receives in
    let receives = subst (λ (count : ℕ). Receives i.node.node (set.of_list ops) (Ok count)
    c.receive.new.self.node) c.if-count-eq0.true c.in-Ok.ensures.receives in
    rw (← c.self.view_is) (declined_takes g.K.Keeper.custody
    (seen i.node i.press i.due i.orders.items i.deeds.items (vec_capacity i.deeds) i.failed i.is_stopped)
    (seen c.receive.new.self i.press i.due i.orders.items i.deeds.items (vec_capacity i.deeds) i.failed
    i.is_stopped) ops c.declined-then-count-eq0.result (Ok 0)
    c.declined-then-count-eq0.ensures node c.in-Ok.ensures.keeper refl refl
    (λ honest k held. declines_by i.node.node i.press.list (set.of_list ops) (Ok 0)
    (λ b registrar. (c.law_registrar.ensures.nothing i.node.node.number i.node.node
    c.receive.new.self.node b (set.of_list ops) registrar receives).0)
    i.is_stopped i.due runs (c.self.invariant.stands honest k held)))

pub invariant_of-self-then-is_some : goal.invariant_of-self-then-is_some
invariant_of-self-then-is_some g c =
    let i = c.self.inside in
    let ops = ops_of c.args.parcel.now.packet in
    let some : 0 < c.in-Ok.count = omega arith in
    let b = brings i.node.node c.receive.new.self.node (set.of_list ops)
    c.in-Ok.count some c.in-Ok.ensures.receives in
    let node = undone i.node.node c.receive.new.self.node c.cancel.new.self.node (set.of_list ops)
    c.in-Ok.count c.cancel.result b c.cancel.ensures.cancels in
    let keeper = c.cancel.ensures.keeper ∙ c.in-Ok.ensures.keeper in
    subst (λ (n : NodeOver g.row.K.Denot). IsSound g.K.Keeper.custody n.keeper n.node
    i.press i.due i.is_stopped) (sym (same_over i.node c.cancel.new.self node keeper))
    c.self.invariant

pub returns-then-is_some-clause-number : goal.returns-then-is_some-clause-number
returns-then-is_some-clause-number g c =
    let i = c.self.inside in
    let ops = ops_of c.args.parcel.now.packet in
    let some : 0 < c.in-Ok.count = omega arith in
    let b = brings i.node.node c.receive.new.self.node (set.of_list ops)
    c.in-Ok.count some c.in-Ok.ensures.receives in
    let node = undone i.node.node c.receive.new.self.node c.cancel.new.self.node (set.of_list ops)
    c.in-Ok.count c.cancel.result b c.cancel.ensures.cancels in
    let keeper = c.cancel.ensures.keeper ∙ c.in-Ok.ensures.keeper in
    rw (← c.self.view_is) (ap (λ (n : NodeState). n.number) node)

pub returns-then-is_some-clause-boot : goal.returns-then-is_some-clause-boot
returns-then-is_some-clause-boot g c =
    let i = c.self.inside in
    let ops = ops_of c.args.parcel.now.packet in
    let some : 0 < c.in-Ok.count = omega arith in
    let b = brings i.node.node c.receive.new.self.node (set.of_list ops)
    c.in-Ok.count some c.in-Ok.ensures.receives in
    let node = undone i.node.node c.receive.new.self.node c.cancel.new.self.node (set.of_list ops)
    c.in-Ok.count c.cancel.result b c.cancel.ensures.cancels in
    let keeper = c.cancel.ensures.keeper ∙ c.in-Ok.ensures.keeper in
    rw (← c.self.view_is) (ap (λ (n : NodeState). n.boot) node)

pub returns-then-is_some-clause-takes : goal.returns-then-is_some-clause-takes
returns-then-is_some-clause-takes g c =
    let i = c.self.inside in
    let ops = ops_of c.args.parcel.now.packet in
    let some : 0 < c.in-Ok.count = omega arith in
    let b = brings i.node.node c.receive.new.self.node (set.of_list ops)
    c.in-Ok.count some c.in-Ok.ensures.receives in
    let node = undone i.node.node c.receive.new.self.node c.cancel.new.self.node (set.of_list ops)
    c.in-Ok.count c.cancel.result b c.cancel.ensures.cancels in
    let keeper = c.cancel.ensures.keeper ∙ c.in-Ok.ensures.keeper in
    rw (← c.self.view_is) (declined_takes g.K.Keeper.custody
    (seen i.node i.press i.due i.orders.items i.deeds.items (vec_capacity i.deeds) i.failed i.is_stopped)
    (seen c.cancel.new.self i.press i.due i.orders.items i.deeds.items (vec_capacity i.deeds) i.failed
    i.is_stopped) ops c.declined-then-is_some.result (Err (faults.Refused refusals.Busy))
    c.declined-then-is_some.ensures node keeper refl refl
    (λ honest k held. busy_waiting i.node.node c.receive.new.self.node i.press.list
    (set.of_list ops) c.in-Ok.count i.due (sym c.is_some.ensures ∙ c.if-is_some.true) b))

pub invariant_of-self-in_default : goal.invariant_of-self-in_default
invariant_of-self-in_default g c =
    let i = c.self.inside in
    let ops = ops_of c.args.parcel.now.packet in
    let some : 0 < c.in-Ok.count = omega arith in
    let b = brings i.node.node c.receive.new.self.node (set.of_list ops)
    c.in-Ok.count some c.in-Ok.ensures.receives in
    let node = undone i.node.node c.receive.new.self.node c.cancel-in_default.new.self.node
    (set.of_list ops) c.in-Ok.count c.cancel-in_default.result b
    c.cancel-in_default.ensures.cancels in
    let keeper = c.cancel-in_default.ensures.keeper ∙ c.in-Ok.ensures.keeper in
    subst (λ (n : NodeOver g.row.K.Denot). IsSound g.K.Keeper.custody n.keeper n.node
    i.press i.due i.is_stopped) (sym (same_over i.node c.cancel-in_default.new.self node
    keeper)) c.self.invariant

pub returns-in_default-clause-number : goal.returns-in_default-clause-number
returns-in_default-clause-number g c =
    let i = c.self.inside in
    let ops = ops_of c.args.parcel.now.packet in
    let some : 0 < c.in-Ok.count = omega arith in
    let b = brings i.node.node c.receive.new.self.node (set.of_list ops)
    c.in-Ok.count some c.in-Ok.ensures.receives in
    let node = undone i.node.node c.receive.new.self.node c.cancel-in_default.new.self.node
    (set.of_list ops) c.in-Ok.count c.cancel-in_default.result b
    c.cancel-in_default.ensures.cancels in
    let keeper = c.cancel-in_default.ensures.keeper ∙ c.in-Ok.ensures.keeper in
    rw (← c.self.view_is) (ap (λ (n : NodeState). n.number) node)

pub returns-in_default-clause-boot : goal.returns-in_default-clause-boot
returns-in_default-clause-boot g c =
    let i = c.self.inside in
    let ops = ops_of c.args.parcel.now.packet in
    let some : 0 < c.in-Ok.count = omega arith in
    let b = brings i.node.node c.receive.new.self.node (set.of_list ops)
    c.in-Ok.count some c.in-Ok.ensures.receives in
    let node = undone i.node.node c.receive.new.self.node c.cancel-in_default.new.self.node
    (set.of_list ops) c.in-Ok.count c.cancel-in_default.result b
    c.cancel-in_default.ensures.cancels in
    let keeper = c.cancel-in_default.ensures.keeper ∙ c.in-Ok.ensures.keeper in
    rw (← c.self.view_is) (ap (λ (n : NodeState). n.boot) node)

pub returns-in_default-clause-takes : goal.returns-in_default-clause-takes
returns-in_default-clause-takes g c =
    let i = c.self.inside in
    let ops = ops_of c.args.parcel.now.packet in
    let some : 0 < c.in-Ok.count = omega arith in
    let b = brings i.node.node c.receive.new.self.node (set.of_list ops)
    c.in-Ok.count some c.in-Ok.ensures.receives in
    let node = undone i.node.node c.receive.new.self.node c.cancel-in_default.new.self.node
    (set.of_list ops) c.in-Ok.count c.cancel-in_default.result b
    c.cancel-in_default.ensures.cancels in
    let keeper = c.cancel-in_default.ensures.keeper ∙ c.in-Ok.ensures.keeper in
    rw (← c.self.view_is) (declined_takes g.K.Keeper.custody
    (seen i.node i.press i.due i.orders.items i.deeds.items (vec_capacity i.deeds) i.failed i.is_stopped)
    (seen c.cancel-in_default.new.self i.press i.due i.orders.items i.deeds.items
    (vec_capacity i.deeds) i.failed i.is_stopped) ops c.declined-in_default.result
    (Err (faults.Refused refusals.Memory)) c.declined-in_default.ensures node keeper refl refl
    (λ honest k held. Declines.no_room refl (brought_new i.node.node c.receive.new.self.node
    (set.of_list ops) c.in-Ok.count b)))

pub invariant_of-self-in-NoMemory : goal.invariant_of-self-in-NoMemory
invariant_of-self-in-NoMemory g c =
    let i = c.self.inside in
    let ops = ops_of c.args.parcel.now.packet in
    let some : 0 < c.in-Ok.count = omega arith in
    let b = brings i.node.node c.receive.new.self.node (set.of_list ops)
    c.in-Ok.count some c.in-Ok.ensures.receives in
    let passes = become g.K.Keeper.custody i.node c.receive.new.self c.save.new.node
    (Received b.new) savings.NoMemory b.is c.in-Ok.ensures.keeper c.in-NoMemory.ensures.becomes
    in
    record {
      staged_is = c.self.invariant.staged_is;
      stands = back_stands g.K.Keeper.custody i.node c.save.new.node (Received b.new)
          i.is_stopped i.due i.press.list c.self.invariant.stands
          (packet_back i.node.node b.new b.idle) passes;
    }

pub returns-in-NoMemory-clause-takes : goal.returns-in-NoMemory-clause-takes
returns-in-NoMemory-clause-takes g c =
    let i = c.self.inside in
    let ops = ops_of c.args.parcel.now.packet in
    let some : 0 < c.in-Ok.count = omega arith in
    let b = brings i.node.node c.receive.new.self.node (set.of_list ops)
    c.in-Ok.count some c.in-Ok.ensures.receives in
    let passes = become g.K.Keeper.custody i.node c.receive.new.self c.save.new.node
    (Received b.new) savings.NoMemory b.is c.in-Ok.ensures.keeper c.in-NoMemory.ensures.becomes
    in
    rw (← c.self.view_is) (no_room_takes g.K.Keeper.custody
    (seen i.node i.press i.due i.orders.items i.deeds.items (vec_capacity i.deeds) i.failed i.is_stopped)
    (seen c.save.new.node i.press i.due i.orders.items i.deeds.items (vec_capacity i.deeds) i.failed
    i.is_stopped) ops (Received b.new) c.declined-in-NoMemory.result
    (brought_new i.node.node c.receive.new.self.node (set.of_list ops) c.in-Ok.count b)
    c.declined-in-NoMemory.ensures (packet_back i.node.node b.new b.idle) refl refl passes)

pub returns-in-Broken-clause-takes : goal.returns-in-Broken-clause-takes
returns-in-Broken-clause-takes g c =
    let i = c.self.inside in
    let ops = ops_of c.args.parcel.now.packet in
    let some : 0 < c.in-Ok.count = omega arith in
    let b = brings i.node.node c.receive.new.self.node (set.of_list ops)
    c.in-Ok.count some c.in-Ok.ensures.receives in
    let passes = become g.K.Keeper.custody i.node c.receive.new.self c.save.new.node
    (Received b.new) savings.Broken b.is c.in-Ok.ensures.keeper c.in-Broken.ensures.becomes in
    rw (← c.self.view_is) (broken_takes g.K.Keeper.custody
    (seen i.node i.press i.due i.orders.items i.deeds.items (vec_capacity i.deeds) i.failed i.is_stopped)
    (seen c.save.new.node i.press i.due i.orders.items i.deeds.items (vec_capacity i.deeds) i.failed
    true) ops (Received b.new) faults.KeeperFailed refl refl refl passes)

pub invariant_of-self-2 : goal.invariant_of-self-2
invariant_of-self-2 g c =
    let i = c.self.inside in
    let ops = ops_of c.args.parcel.now.packet in
    let runs = ap (λ (r : RegistrarOver g.row.K.Denot). r.stopped) c.self.view_is ∙ c.requires in
    let none = no_waiting i.due (sym c.is_some.ensures ∙ c.if-is_some.false) in
    let some : 0 < c.in-Ok.count = omega arith in
    let b = brings i.node.node c.receive.new.self.node (set.of_list ops)
    c.in-Ok.count some c.in-Ok.ensures.receives in
    let passes = become g.K.Keeper.custody i.node c.receive.new.self c.save.new.node
    (Received b.new) savings.Saved b.is c.in-Ok.ensures.keeper c.in-Saved.ensures.becomes in
    let from = c.saved.ensures.saved ∙ ap (λ (n : NodeState). n.saved) b.is in
    let these = c.as_slice.ensures ∙ c.args.parcel.now.same in
    let it : c.in-Ok-news.new ≡ news_of i.node.node.saved ops = c.in-Ok-news.ensures
    ∙ (λ j. news_of (from j) (these j)) in
    let same : b.new ≡ c.in-Ok-news.new =
    same_news i.node.node.number i.node.node.saved ops b.new b.lacking ∙ sym it in
    record {
      staged_is = c.self.invariant.staged_is ∙ ap staged_of none;
      stands = saved_stands g.K.Keeper.custody i.node c.save.new.node (Received b.new)
          i.is_stopped i.due i.press.list c.self.invariant.stands (Received c.in-Ok-news.new)
          (ap set.members same) runs none passes;
    }

pub returns-then-is_err-clause-takes : goal.returns-then-is_err-clause-takes
returns-then-is_err-clause-takes g c =
    let i = c.self.inside in
    let ops = ops_of c.args.parcel.now.packet in
    let none = no_waiting i.due (sym c.is_some.ensures ∙ c.if-is_some.false) in
    let some : 0 < c.in-Ok.count = omega arith in
    let b = brings i.node.node c.receive.new.self.node (set.of_list ops)
    c.in-Ok.count some c.in-Ok.ensures.receives in
    let passes = become g.K.Keeper.custody i.node c.receive.new.self c.save.new.node
    (Received b.new) savings.Saved b.is c.in-Ok.ensures.keeper c.in-Saved.ensures.becomes in
    let from = c.saved.ensures.saved ∙ ap (λ (n : NodeState). n.saved) b.is in
    let these = c.as_slice.ensures ∙ c.args.parcel.now.same in
    let it : c.in-Ok-news.new ≡ news_of i.node.node.saved ops = c.in-Ok-news.ensures
    ∙ (λ j. news_of (from j) (these j)) in
    let same = c.clear.ensures.node in
    let left = subst (λ (keeper : g.row.K.Denot). Passes g.K.Keeper.custody
    (λ k k'. BecomesOf (pending_with i.node.node (Received b.new)) (Received b.new)
    k savings.Saved c.save.new.node.node k') i.node.keeper keeper) (sym same.keeper) passes in
    let failed = sym c.is_err.ensures.value ∙ c.if-is_err.true in
    rw (← c.self.view_is) (late_takes g.K.Keeper.custody
    (seen i.node i.press i.due i.orders.items i.deeds.items (vec_capacity i.deeds) i.failed i.is_stopped)
    c.clear.new.self ops (Received b.new) c.law_registrar.ensures.taken c.receive.new.self.node
    c.in-Ok.count b.idle c.in-Ok.ensures.receives some b.is c.save.new.node (ap due_of none)
    same c.late.result c.late.ensures
    (in_err c.clear.result failed c.clear.ensures.err) (in_err c.clear.result failed
    c.clear.ensures.due ∙ ap (λ (s : SetBy op_cmp). Some (Received s)) it) left)

pub returns-clause-takes : goal.returns-clause-takes
returns-clause-takes g c =
    let i = c.self.inside in
    let ops = ops_of c.args.parcel.now.packet in
    let none = no_waiting i.due (sym c.is_some.ensures ∙ c.if-is_some.false) in
    let some : 0 < c.in-Ok.count = omega arith in
    let b = brings i.node.node c.receive.new.self.node (set.of_list ops)
    c.in-Ok.count some c.in-Ok.ensures.receives in
    let passes = become g.K.Keeper.custody i.node c.receive.new.self c.save.new.node
    (Received b.new) savings.Saved b.is c.in-Ok.ensures.keeper c.in-Saved.ensures.becomes in
    let from = c.saved.ensures.saved ∙ ap (λ (n : NodeState). n.saved) b.is in
    let these = c.as_slice.ensures ∙ c.args.parcel.now.same in
    let it : c.in-Ok-news.new ≡ news_of i.node.node.saved ops = c.in-Ok-news.ensures
    ∙ (λ j. news_of (from j) (these j)) in
    let same = c.clear.ensures.node in
    let left = subst (λ (keeper : g.row.K.Denot). Passes g.K.Keeper.custody
    (λ k k'. BecomesOf (pending_with i.node.node (Received b.new)) (Received b.new)
    k savings.Saved c.save.new.node.node k') i.node.keeper keeper) (sym same.keeper) passes in
    let done = sym c.is_err.ensures.value ∙ c.if-is_err.false in
    rw (← c.self.view_is) (taken_takes g.K.Keeper.custody
    (seen i.node i.press i.due i.orders.items i.deeds.items (vec_capacity i.deeds) i.failed i.is_stopped)
    c.clear.new.self ops (Received b.new) c.law_registrar.ensures.taken c.receive.new.self.node
    c.in-Ok.count b.idle c.in-Ok.ensures.receives some b.is c.save.new.node (ap due_of none)
    same c.taken.result c.taken.ensures
    (in_ok c.clear.result done c.clear.ensures.ok ∙ ap (λ (s : SetBy op_cmp). i.press.list ++
    set.members s) it) (in_ok c.clear.result done c.clear.ensures.none) left)

pub returns-in-Err-clause-answer : goal.returns-in-Err-clause-answer
returns-in-Err-clause-answer g c =
    let i = c.self.inside in
    let ops = ops_of c.args.parcel.now.packet in
    let other = not_broken i.node.node c.receive.new.self.node (set.of_list ops) c.in-Err.fault
    c.in-Err.ensures.receives in
    rw c.declined.ensures (λ is. other (let e = is in cc))
