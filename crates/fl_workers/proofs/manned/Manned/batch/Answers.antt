use Rattle.std.proofs.Common.{◌≡◌, ◌∙◌, ℕ, List, All, length, sym, ap, subst, arith}
use Rattle.fl_dealing.specs.Dealt.{owners_of}
use Rattle.fl_dealing.specs.Gathered.{IsGathered}
use Rattle.fl_dealing.specs.declared.item.Item.{Item}
use Rattle.fl_replica.specs.Boards.{Pressed}
use Rattle.fl_workers.specs.Batches.{items_for}
use Rattle.fl_manning.specs.Ended.{AreAllAnswered, IsRuledOn, said_of}
use Rattle.fl_workers.specs.Plans.{IsPlan}
use Rattle.fl_workers.proofs.Breaking.{broken_there}
use Rattle.fl_workers.proofs.Manning.{manned_still, unbegun, boards_after, answered_after, manned_after, entries_count, not_not}
use Rattle.fl_workers.proofs.Serving.{serves}
use Rattle.fl_workers.proofs.manned.Manned.batch.Goals as goal

pub invariant_of-self : goal.invariant_of-self
invariant_of-self g c =
    let i = c.self.inside in
    manned_still i.workers.items c.begin.new.workers.items i.registrar c.begin.new.registrar
    i.lines.workers i.procs i.is_stopped c.in_default.ensures.unmoved
    c.in_default.ensures.err c.self.invariant

pub returns-in_default-clause-err : goal.returns-in_default-clause-err
returns-in_default-clause-err g c =
    let i = c.self.inside in
    rw (← c.self.view_is)
    (unbegun i.workers.items c.begin.new.workers.items i.registrar c.begin.new.registrar
    i.lines.workers i.procs i.is_stopped c.in_default.ensures.unmoved
    c.in_default.ensures.err)

pub settle-fine-requires-clause-boards : goal.settle-fine-requires-clause-boards
settle-fine-requires-clause-boards g c =
    let i = c.self.inside in
    let ws = i.workers.items in
    let r2 = c.work.new.registrar in
    boards_after g.K.Keeper.custody ws c.begin.new.workers.items c.work.new.workers.items ws ws
    i.registrar c.begin.new.registrar r2 r2 i.lines.workers i.procs
    c.in_ok-queues.field-0 c.in_ok-items.items.items (c.self.invariant.seated c.if-self.false)
    c.in-Ok.ensures.begun c.in-Ok.ensures.workers c.work.ensures.done
    c.work.ensures.rules

pub collect-requires-clause-answered : goal.collect-requires-clause-answered
collect-requires-clause-answered g c =
    let i = c.self.inside in
    let ws = i.workers.items in
    let r2 = c.work.new.registrar in
    let count : c.len.result ≡ length ws = omega (arith, c.len.ensures) in
    let planned =
    subst (λ (n : ℕ). IsPlan n i.procs c.in_ok-items.items.items c.in_ok-queues.field-0) count
    c.in_ok-queues.ensures in
    subst
    (λ (os : List ℕ). AreAllAnswered os c.settle-fine.new.workers.items c.work.new.taken.items)
    (sym c.deref-2.ensures.value)
    (answered_after g.K.Keeper.custody ws c.begin.new.workers.items c.work.new.workers.items
    c.settle-fine.new.workers.items ws i.registrar c.begin.new.registrar r2 r2
    i.lines.workers i.procs c.in_ok-queues.field-0 c.in_ok-items.items.items
    (c.self.invariant.seated c.if-self.false) c.in-Ok.ensures.begun
    c.in-Ok.ensures.workers c.work.ensures.done c.work.ensures.rules planned
    c.settle-fine.ensures.settled c.work.new.taken.items _ planned.room.no_taken
    c.work.ensures.places)

pub invariant_of-self-2 : goal.invariant_of-self-2
invariant_of-self-2 g c =
    let i = c.self.inside in
    let ws = i.workers.items in
    let count : c.len.result ≡ length ws = omega (arith, c.len.ensures) in
    let planned =
    subst (λ (n : ℕ). IsPlan n i.procs c.in_ok-items.items.items c.in_ok-queues.field-0) count
    c.in_ok-queues.ensures in
    let next = planned.next in
    let some = c.self.invariant.some in
    let few = c.self.invariant.few in
    manned_after g.K.Keeper.custody ws c.begin.new.workers.items c.work.new.workers.items
    c.settle-fine.new.workers.items c.collect.new.workers.items i.registrar
    c.begin.new.registrar c.work.new.registrar c.settle-fine.new.registrar
    i.lines.workers i.procs c.in_ok-queues.field-0 c.in_ok-items.items.items
    (c.self.invariant.seated c.if-self.false) c.in-Ok.ensures.begun c.in-Ok.ensures.workers
    c.work.ensures.done c.work.ensures.rules planned c.settle-fine.ensures.settled
    c.in_ok-queues.field-0.procs c.work.new.lines.workers _ next
    c.collect.ensures.same c.settle-fine.ensures.closed
    (λ goes.
    c.goes_on.ensures.lines (not_not c.goes_on.result goes) ∙ ap length c.deref.ensures.value)
    (λ goes. c.settle-fine.ensures.runs (c.goes_on.ensures.fine (not_not c.goes_on.result goes)))
    some few

pub returns-clause-count : goal.returns-clause-count
returns-clause-count g c =
    let i = c.self.inside in
    let ws = i.workers.items in
    let count : c.len.result ≡ length ws = omega (arith, c.len.ensures) in
    let planned =
    subst (λ (n : ℕ). IsPlan n i.procs c.in_ok-items.items.items c.in_ok-queues.field-0) count
    c.in_ok-queues.ensures in
    entries_count (length ws) i.procs c.args.jobs.items c.args.packets.items
    c.deref-2.result.now (said_of c.settle-fine.new.workers.items c.work.new.taken.items)
    c.collect.result.items
    (c.deref-2.ensures.value ∙ (planned.owners
    ∙ ap (λ (xs : List Item). owners_of (length ws) i.procs xs) c.in_ok-items.ensures))
    c.collect.ensures.gathered

pub returns-clause-serves : goal.returns-clause-serves
returns-clause-serves g c =
    let i = c.self.inside in
    let ws = i.workers.items in
    let count : c.len.result ≡ length ws = omega (arith, c.len.ensures) in
    let planned =
    subst (λ (n : ℕ). IsPlan n i.procs c.in_ok-items.items.items c.in_ok-queues.field-0) count
    c.in_ok-queues.ensures in
    let first = ap length (c.list.ensures ∙ ap (λ (p : Pressed). p.list) c.press.ensures) in
    let fine = c.settle-fine in
    rw (← c.self.view_is)
    (serves g.K.Keeper.custody i.procs c.in_ok-queues.field-0.procs c.in_ok-items.items.items
    c.in_ok-queues.field-0 ws c.begin.new.workers.items c.work.new.workers.items
    fine.new.workers.items c.collect.new.workers.items i.registrar c.begin.new.registrar
    c.work.new.registrar fine.new.registrar i.lines.workers
    (c.self.invariant.seated c.if-self.false) planned c.in-Ok.ensures.begun
    c.in-Ok.ensures.workers c.work.ensures.done c.work.ensures.rules fine.ensures.closed
    fine.ensures.settled c.collect.ensures.same c.work.new.taken.items c.collect.result.items
    (subst
    (λ (os : List ℕ). IsGathered os (said_of fine.new.workers.items c.work.new.taken.items)
    c.collect.result.items)
    (c.deref-2.ensures.value ∙ planned.owners) c.collect.ensures.gathered)
    fine.result fine.ensures.whole i.is_stopped _
    (λ goes.
    let t = c.goes_on.ensures.fine (not_not c.goes_on.result goes) in (t, fine.ensures.runs t))
    (λ number b b' start e l recorded of back.
    fine.ensures.batch number b b' start (first ∙ e) l recorded of back)
    c.law_answered.ensures
    (λ t. subst (All IsRuledOn) c.as_slice.ensures.value (fine.ensures.ruled t)) c.law_memory.ensures c.law_answered-2.ensures
    c.law_weave.ensures.built c.law_weave.ensures.due _ planned.room.no_taken
    c.work.ensures.received (items_for c.args.jobs.items c.args.packets.items)
    c.in_ok-items.ensures)

pub returns-clause-broken : goal.returns-clause-broken
returns-clause-broken g c =
    let i = c.self.inside in
    let fine = c.settle-fine in
    broken_there g.K.Keeper.custody c.in_ok-queues.field-0.orders.items i.workers.items i.registrar
    c.begin.new.registrar c.work.new.registrar fine.new.registrar
    i.lines.workers i.procs (c.self.invariant.seated c.if-self.false)
    c.in-Ok.ensures.begun c.work.ensures.rules fine.ensures.closed c.collect.new.workers.items
    c.in_ok-queues.field-0.procs _
    (λ goes. fine.ensures.runs (c.goes_on.ensures.fine (not_not c.goes_on.result goes)))
