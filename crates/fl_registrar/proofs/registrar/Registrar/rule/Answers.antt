use Rattle.std.proofs.Common.{◌∙◌, true, Some, None, sym, ap, subst, refl}
use Rattle.std.specs.Prelude.{vec_capacity}
use Rattle.fl_system.specs.State.{NodeState}
use Rattle.fl_system.specs.Begins.{order, pending_with}
use Rattle.fl_node.specs.Over.{NodeOver}
use Rattle.fl_registrar.specs.Over.{RegistrarOver}
use Rattle.fl_system.specs.declared.state.Batch.TheVariants.{Ordered}
use Rattle.fl_registrar.specs.parts.Saving.{BecomesOf}
use Rattle.fl_registrar.specs.parts.Sound.{IsSound, due_of, staged_of}
use Rattle.fl_registrar.proofs.Nodes.{begun_as, not_begun, order_back}
use Rattle.fl_registrar.proofs.Passed.{become}
use Rattle.fl_registrar.specs.declared.saving.Saving.TheVariants as savings
use Rattle.fl_registrar.specs.Passing.{Passes}
use Rattle.fl_registrar.proofs.Ruled.{in_ok, in_err, saved_stands, back_stands, seen, no_waiting}
use Rattle.fl_registrar.proofs.Ruled.{all_listed, same_over, busy_rules, spent_rules, memory_rules}
use Rattle.fl_registrar.proofs.Ruled.{broken_rules, made_rules, late_rules}
use Rattle.fl_registrar.proofs.registrar.Registrar.rule.Goals as goal

pub returns-then-is_some-clause-rules : goal.returns-then-is_some-clause-rules
returns-then-is_some-clause-rules g c =
    busy_rules g.K.Keeper.custody c.args.self.now c.args.worker c.self.inside.due
    (sym (ap (λ (r : RegistrarOver g.row.K.Denot). r.due) c.self.view_is))
    (sym c.is_some.ensures ∙ c.if-is_some.true)

pub invariant_of-self : goal.invariant_of-self
invariant_of-self g c =
    let custody = g.K.Keeper.custody in
    let node = c.self.inside.node in
    let same = same_over node c.begin.new.self (not_begun node.node c.begin.new.self.node
    c.args.body c.in_default.field-0 c.in_default.ensures.begins) c.in_default.ensures.keeper in
    subst (λ (n : NodeOver g.row.K.Denot). IsSound custody n.keeper n.node
    c.self.inside.press c.self.inside.due c.self.inside.is_stopped) (sym same)
    c.self.invariant

pub returns-in_default-clause-number : goal.returns-in_default-clause-number
returns-in_default-clause-number g c =
    rw (← c.self.view_is) (ap (λ (n : NodeState). n.number)
    (not_begun _ _ _ _ c.in_default.ensures.begins))

pub returns-in_default-clause-boot : goal.returns-in_default-clause-boot
returns-in_default-clause-boot g c =
    rw (← c.self.view_is) (ap (λ (n : NodeState). n.boot)
    (not_begun _ _ _ _ c.in_default.ensures.begins))

pub returns-in_default-clause-rules : goal.returns-in_default-clause-rules
returns-in_default-clause-rules g c =
    let custody = g.K.Keeper.custody in
    let node = c.self.inside.node in
    let waiting = no_waiting c.self.inside.due (sym c.is_some.ensures ∙ c.if-is_some.false) in
    rw (← c.self.view_is) (spent_rules custody (seen c.self.inside.node c.self.inside.press
    c.self.inside.due c.self.inside.orders.items c.self.inside.deeds.items
    (vec_capacity c.self.inside.deeds) c.self.inside.failed c.self.inside.is_stopped)
    (seen c.begin.new.self c.self.inside.press c.self.inside.due c.self.inside.orders.items
    c.self.inside.deeds.items (vec_capacity c.self.inside.deeds) c.self.inside.failed c.self.inside.is_stopped)
    c.args.worker c.args.body c.in_default.field-0 (ap due_of waiting) refl refl
    (λ honest k held. (all_listed c.self.inside.is_stopped c.self.inside.due node.node
    c.self.inside.press.list
    (ap (λ (r : RegistrarOver g.row.K.Denot). r.stopped) c.self.view_is ∙ c.requires) waiting
    (c.self.invariant.stands honest k held)).state)
    c.in_default.ensures.keeper c.in_default.ensures.begins)

pub invariant_of-self-in-NoMemory : goal.invariant_of-self-in-NoMemory
invariant_of-self-in-NoMemory g c =
    let custody = g.K.Keeper.custody in
    let node = c.self.inside.node in
    let begun = begun_as node.node c.begin.new.self.node c.args.body c.in-Ok.name
    c.in-Ok.ensures.begins in
    let passes = become custody node c.begin.new.self c.save.new.node
    (order c.in-Ok.name c.args.body None None) savings.NoMemory begun.is c.in-Ok.ensures.keeper
    c.in-NoMemory.ensures.becomes in
    record {
      staged_is = c.self.invariant.staged_is;
      stands = back_stands custody node c.save.new.node (order c.in-Ok.name c.args.body None None)
          c.self.inside.is_stopped c.self.inside.due c.self.inside.press.list
          c.self.invariant.stands (order_back node.node c.in-Ok.name c.args.body begun.idle)
          passes;
    }

pub returns-in-NoMemory-clause-rules : goal.returns-in-NoMemory-clause-rules
returns-in-NoMemory-clause-rules g c =
    let custody = g.K.Keeper.custody in
    let node = c.self.inside.node in
    let waiting = no_waiting c.self.inside.due (sym c.is_some.ensures ∙ c.if-is_some.false) in
    let begun = begun_as node.node c.begin.new.self.node c.args.body c.in-Ok.name
    c.in-Ok.ensures.begins in
    let passes = become custody node c.begin.new.self c.save.new.node
    (order c.in-Ok.name c.args.body None None) savings.NoMemory begun.is c.in-Ok.ensures.keeper
    c.in-NoMemory.ensures.becomes in
    rw (← c.self.view_is) (memory_rules custody (seen c.self.inside.node c.self.inside.press
    c.self.inside.due c.self.inside.orders.items c.self.inside.deeds.items
    (vec_capacity c.self.inside.deeds) c.self.inside.failed c.self.inside.is_stopped)
    (seen c.save.new.node c.self.inside.press c.self.inside.due c.self.inside.orders.items
    c.self.inside.deeds.items (vec_capacity c.self.inside.deeds) c.self.inside.failed c.self.inside.is_stopped)
    c.args.worker c.args.body c.in-Ok.name begun.idle refl refl passes)

pub returns-in-Broken-clause-next : goal.returns-in-Broken-clause-next
returns-in-Broken-clause-next g c =
    rw (← c.self.view_is) (c.in-Ok.name, (begun_as _ _ _ _ c.in-Ok.ensures.begins).next)

pub returns-in-Broken-clause-rules : goal.returns-in-Broken-clause-rules
returns-in-Broken-clause-rules g c =
    let custody = g.K.Keeper.custody in
    let node = c.self.inside.node in
    let waiting = no_waiting c.self.inside.due (sym c.is_some.ensures ∙ c.if-is_some.false) in
    let begun = begun_as node.node c.begin.new.self.node c.args.body c.in-Ok.name
    c.in-Ok.ensures.begins in
    let passes = become custody node c.begin.new.self c.save.new.node
    (order c.in-Ok.name c.args.body None None) savings.Broken begun.is c.in-Ok.ensures.keeper
    c.in-Broken.ensures.becomes in
    rw (← c.self.view_is) (broken_rules custody (seen c.self.inside.node c.self.inside.press
    c.self.inside.due c.self.inside.orders.items c.self.inside.deeds.items
    (vec_capacity c.self.inside.deeds) c.self.inside.failed c.self.inside.is_stopped)
    (seen c.save.new.node c.self.inside.press c.self.inside.due c.self.inside.orders.items
    c.self.inside.deeds.items (vec_capacity c.self.inside.deeds) c.self.inside.failed true)
    c.args.worker c.args.body c.in-Ok.name begun.idle refl refl refl passes)

pub invariant_of-self-2 : goal.invariant_of-self-2
invariant_of-self-2 g c =
    let custody = g.K.Keeper.custody in
    let node = c.self.inside.node in
    let waiting = no_waiting c.self.inside.due (sym c.is_some.ensures ∙ c.if-is_some.false) in
    let begun = begun_as node.node c.begin.new.self.node c.args.body c.in-Ok.name
    c.in-Ok.ensures.begins in
    let passes = become custody node c.begin.new.self c.save.new.node
    (order c.in-Ok.name c.args.body None None) savings.Saved begun.is c.in-Ok.ensures.keeper
    c.in-Saved.ensures.becomes in
    record {
      staged_is = c.self.invariant.staged_is ∙ ap staged_of waiting;
      stands = saved_stands custody node c.save.new.node (order c.in-Ok.name c.args.body None None)
          c.self.inside.is_stopped c.self.inside.due c.self.inside.press.list
          c.self.invariant.stands (Ordered (record { name = c.in-Ok.name; body = c.args.body })
          (Some c.args.pid) (Some c.args.worker)) refl (ap (λ (r : RegistrarOver g.row.K.Denot).
          r.stopped) c.self.view_is ∙ c.requires) waiting passes;
    }

pub returns-then-is_err-clause-rules : goal.returns-then-is_err-clause-rules
returns-then-is_err-clause-rules g c =
    let custody = g.K.Keeper.custody in
    let node = c.self.inside.node in
    let waiting = no_waiting c.self.inside.due (sym c.is_some.ensures ∙ c.if-is_some.false) in
    let begun = begun_as node.node c.begin.new.self.node c.args.body c.in-Ok.name
    c.in-Ok.ensures.begins in
    let passes = become custody node c.begin.new.self c.save.new.node
    (order c.in-Ok.name c.args.body None None) savings.Saved begun.is c.in-Ok.ensures.keeper
    c.in-Saved.ensures.becomes in
    let same = c.clear.ensures.node in
    let left = subst (λ (keeper : g.row.K.Denot). Passes custody
    (λ k k'. BecomesOf (pending_with node.node (order c.in-Ok.name c.args.body None None))
    (order c.in-Ok.name c.args.body None None) k savings.Saved c.save.new.node.node k')
    node.keeper keeper) (sym same.keeper) passes in
    rw (← c.self.view_is) (late_rules custody (seen c.self.inside.node c.self.inside.press
    c.self.inside.due c.self.inside.orders.items c.self.inside.deeds.items
    (vec_capacity c.self.inside.deeds) c.self.inside.failed c.self.inside.is_stopped)
    c.clear.new.self c.args.worker c.args.body c.in-Ok.name begun.idle
    c.law_registrar.ensures.ordered begun.next c.save.new.node (ap due_of waiting)
    same c.args.pid (in_err c.clear.result (sym c.is_err.ensures.value ∙ c.if-is_err.true)
    c.clear.ensures.due) (in_err c.clear.result (sym c.is_err.ensures.value ∙ c.if-is_err.true)
    c.clear.ensures.err) left)

pub returns-clause-rules : goal.returns-clause-rules
returns-clause-rules g c =
    let custody = g.K.Keeper.custody in
    let node = c.self.inside.node in
    let waiting = no_waiting c.self.inside.due (sym c.is_some.ensures ∙ c.if-is_some.false) in
    let begun = begun_as node.node c.begin.new.self.node c.args.body c.in-Ok.name
    c.in-Ok.ensures.begins in
    let passes = become custody node c.begin.new.self c.save.new.node
    (order c.in-Ok.name c.args.body None None) savings.Saved begun.is c.in-Ok.ensures.keeper
    c.in-Saved.ensures.becomes in
    let same = c.clear.ensures.node in
    let left = subst (λ (keeper : g.row.K.Denot). Passes custody
    (λ k k'. BecomesOf (pending_with node.node (order c.in-Ok.name c.args.body None None))
    (order c.in-Ok.name c.args.body None None) k savings.Saved c.save.new.node.node k')
    node.keeper keeper) (sym same.keeper) passes in
    rw (← c.self.view_is) (made_rules custody (seen c.self.inside.node c.self.inside.press
    c.self.inside.due c.self.inside.orders.items c.self.inside.deeds.items
    (vec_capacity c.self.inside.deeds) c.self.inside.failed c.self.inside.is_stopped)
    c.clear.new.self c.args.worker c.args.body c.in-Ok.name begun.idle
    c.law_registrar.ensures.ordered begun.next c.save.new.node (ap due_of waiting) same
    (in_ok c.clear.result (sym c.is_err.ensures.value ∙ c.if-is_err.false) c.clear.ensures.none)
    (in_ok c.clear.result (sym c.is_err.ensures.value ∙ c.if-is_err.false) c.clear.ensures.ok)
    left)
