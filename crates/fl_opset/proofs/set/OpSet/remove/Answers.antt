use Rattle.std.proofs.Common.{◌≡◌, ◌≢◌, ◌<◌, ◌-◌, List, length, refl, sym, ap, subst, ◌∙◌, Ok, Err, arith}
use Rattle.std.specs.List.{All, Any}
use Rattle.fl_labels.specs.declared.name.Name.{Name}
use Rattle.fl_labels.specs.laws.Rising.{remove_other}
use Rattle.fl_ops.specs.declared.op.Op.{Op}
use Rattle.fl_ops.specs.OpLaws.{op_total, op_exact}
use Rattle.fl_opset.specs.declared.node_ops.NodeOps.{NodeOps}
use Rattle.fl_opset.proofs.Kept.{kept_remove, kept_shared}
use Rattle.fl_opset.proofs.OneEntry.{kept_with, no_member, found_here, none_here, same_entry, entry_member, entry_each, entry_tells, some_there, taken_out}
use Rattle.fl_opset.proofs.set.OpSet.remove.Goals as goal

pub returns-in_default-clause-after : goal.returns-in_default-clause-after
returns-in_default-clause-after c =
    sym (remove_other op_total op_exact c.args.self.now c.args.op.now (no_member _ c.args.self.now c.args.op.now c.self.view_is
    (none_here _ _ c.deref.ensures.value c.args.op.now.name.node c.in_default.field-0 c.self.invariant.by_node c.in_default.ensures.bound c.in_default.ensures.position)))

pub returns-in_default-clause-was : goal.returns-in_default-clause-was
returns-in_default-clause-was c =
    sym (no_member _ c.args.self.now c.args.op.now c.self.view_is
    (none_here _ _ c.deref.ensures.value c.args.op.now.name.node c.in_default.field-0 c.self.invariant.by_node c.in_default.ensures.bound c.in_default.ensures.position))

pub returns-in_default-place_of-clause-after : goal.returns-in_default-place_of-clause-after
returns-in_default-place_of-clause-after c =
    let it = c.index_mut.result.now in
    let bound = subst (λ (l : List NodeOps). c.in-Ok.at < length l) c.deref.ensures.value c.in-Ok.ensures.bound in
    let of = sym (found_here _ _ c.deref.ensures.value c.args.op.now.name.node c.in-Ok.at c.self.invariant.by_node it c.in-Ok.ensures.position c.index_mut.ensures.value) in
    (same_entry _ _ it c.self.invariant.by_node bound c.index_mut.ensures.value c.args.self.now c.self.view_is it refl refl).view
    ∙ sym (remove_other op_total op_exact c.args.self.now c.args.op.now
    (entry_tells _ _ it c.self.invariant.by_node bound c.index_mut.ensures.value c.args.self.now c.self.view_is c.args.op.now of _ c.deref-2.ensures.value (Err c.in_default-place_of.field-0) c.in_default-place_of.ensures.bound
    c.in_default-place_of.ensures.position))

pub returns-in_default-place_of-clause-was : goal.returns-in_default-place_of-clause-was
returns-in_default-place_of-clause-was c =
    let it = c.index_mut.result.now in
    let bound = subst (λ (l : List NodeOps). c.in-Ok.at < length l) c.deref.ensures.value c.in-Ok.ensures.bound in
    let of = sym (found_here _ _ c.deref.ensures.value c.args.op.now.name.node c.in-Ok.at c.self.invariant.by_node it c.in-Ok.ensures.position c.index_mut.ensures.value) in
    sym (entry_tells _ _ it c.self.invariant.by_node bound c.index_mut.ensures.value c.args.self.now c.self.view_is c.args.op.now of _ c.deref-2.ensures.value (Err c.in_default-place_of.field-0) c.in_default-place_of.ensures.bound
    c.in_default-place_of.ensures.position)

pub overflow_sub-self : goal.overflow_sub-self
overflow_sub-self c =
    let it = c.index_mut.result.now in
    let bound = subst (λ (l : List NodeOps). c.in-Ok.at < length l) c.deref.ensures.value c.in-Ok.ensures.bound in
    let some = some_there _ _ it c.self.invariant.by_node bound c.index_mut.ensures.value c.args.self.now c.self.view_is c.in-Ok-place_of.place
    (subst (λ (l : List Op). c.in-Ok-place_of.place < length l) c.deref-2.ensures.value c.in-Ok-place_of.ensures.bound) in
    omega (arith, some, c.self.invariant.counted)

pub invariant_of-self-then-not-shared : goal.invariant_of-self-then-not-shared
invariant_of-self-then-not-shared c =
    let it = c.index_mut.result.now in
    let bound = subst (λ (l : List NodeOps). c.in-Ok.at < length l) c.deref.ensures.value c.in-Ok.ensures.bound in
    let of = sym (found_here _ _ c.deref.ensures.value c.args.op.now.name.node c.in-Ok.at c.self.invariant.by_node it c.in-Ok.ensures.position c.index_mut.ensures.value) in
    let alone = subst (All (λ (other : Op). other.name ≡ c.args.op.now.name → other ≡ c.args.op.now)) c.deref-3.ensures.value (c.has_other-shared.ensures.none c.if-not-shared.true) in
    kept_with _ _ _ _ _ _
    (taken_out _ _ it c.self.invariant.by_node bound c.index_mut.ensures.value c.args.self.now c.self.view_is c.args.op.now of _ c.deref-2.ensures.value (record it { ops = c.remove.new.self }) refl c.in-Ok-place_of.place
    c.in-Ok-place_of.ensures.bound c.in-Ok-place_of.ensures.position c.remove.ensures.items)
    (ap (λ n. n - 1) c.self.invariant.counted)
    (λ new. kept_remove _ _ _ c.args.self.now c.self.invariant.kept c.self.view_is _ _ _ _ new c.remove_name-removed.result c.args.op.now c.remove_name-removed.ensures.err
    c.still_known-self-inside.ensures refl
    (λ q in_self same. entry_each _ _ it c.self.invariant.by_node bound c.index_mut.ensures.value c.args.self.now c.self.view_is
    (λ (other : Op). other.name ≡ c.args.op.now.name → other ≡ c.args.op.now) alone q in_self (ap (λ (n : Name). n.node) same ∙ of) same)
    c.remove_name-removed.ensures.ok)

pub invariant_of-self-else-not-shared : goal.invariant_of-self-else-not-shared
invariant_of-self-else-not-shared c =
    let it = c.index_mut.result.now in
    let bound = subst (λ (l : List NodeOps). c.in-Ok.at < length l) c.deref.ensures.value c.in-Ok.ensures.bound in
    let of = sym (found_here _ _ c.deref.ensures.value c.args.op.now.name.node c.in-Ok.at c.self.invariant.by_node it c.in-Ok.ensures.position c.index_mut.ensures.value) in
    let w = subst (Any (λ (other : Op). (other.name ≡ c.args.op.now.name) × (other ≢ c.args.op.now))) c.deref-3.ensures.value (c.has_other-shared.ensures.some c.if-not-shared.false) in
    kept_with _ _ _ _ _ _
    (taken_out _ _ it c.self.invariant.by_node bound c.index_mut.ensures.value c.args.self.now c.self.view_is c.args.op.now of _ c.deref-2.ensures.value (record it { ops = c.remove.new.self }) refl c.in-Ok-place_of.place
    c.in-Ok-place_of.ensures.bound c.in-Ok-place_of.ensures.position c.remove.ensures.items)
    (ap (λ n. n - 1) c.self.invariant.counted)
    (λ new. kept_shared _ _ _ c.args.self.now c.self.invariant.kept c.self.view_is _ _ _ _ new c.args.op.now w.1 refl refl refl
    (entry_member _ _ it c.self.invariant.by_node bound c.index_mut.ensures.value c.args.self.now c.self.view_is w.1 (w.0, w.2, w.3)) w.4.0 w.4.1)

pub returns-then-not-shared-clause-after : goal.returns-then-not-shared-clause-after
returns-then-not-shared-clause-after c =
    let it = c.index_mut.result.now in
    let bound = subst (λ (l : List NodeOps). c.in-Ok.at < length l) c.deref.ensures.value c.in-Ok.ensures.bound in
    let of = sym (found_here _ _ c.deref.ensures.value c.args.op.now.name.node c.in-Ok.at c.self.invariant.by_node it c.in-Ok.ensures.position c.index_mut.ensures.value) in
    (taken_out _ _ it c.self.invariant.by_node bound c.index_mut.ensures.value c.args.self.now c.self.view_is c.args.op.now of _ c.deref-2.ensures.value (record it { ops = c.remove.new.self }) refl c.in-Ok-place_of.place
    c.in-Ok-place_of.ensures.bound c.in-Ok-place_of.ensures.position c.remove.ensures.items).view

pub returns-then-not-shared-clause-was : goal.returns-then-not-shared-clause-was
returns-then-not-shared-clause-was c =
    let it = c.index_mut.result.now in
    let bound = subst (λ (l : List NodeOps). c.in-Ok.at < length l) c.deref.ensures.value c.in-Ok.ensures.bound in
    let of = sym (found_here _ _ c.deref.ensures.value c.args.op.now.name.node c.in-Ok.at c.self.invariant.by_node it c.in-Ok.ensures.position c.index_mut.ensures.value) in
    sym (entry_tells _ _ it c.self.invariant.by_node bound c.index_mut.ensures.value c.args.self.now c.self.view_is c.args.op.now of _ c.deref-2.ensures.value (Ok c.in-Ok-place_of.place) c.in-Ok-place_of.ensures.bound
    c.in-Ok-place_of.ensures.position)

pub returns-else-not-shared-clause-after : goal.returns-else-not-shared-clause-after
returns-else-not-shared-clause-after c =
    let it = c.index_mut.result.now in
    let bound = subst (λ (l : List NodeOps). c.in-Ok.at < length l) c.deref.ensures.value c.in-Ok.ensures.bound in
    let of = sym (found_here _ _ c.deref.ensures.value c.args.op.now.name.node c.in-Ok.at c.self.invariant.by_node it c.in-Ok.ensures.position c.index_mut.ensures.value) in
    (taken_out _ _ it c.self.invariant.by_node bound c.index_mut.ensures.value c.args.self.now c.self.view_is c.args.op.now of _ c.deref-2.ensures.value (record it { ops = c.remove.new.self }) refl c.in-Ok-place_of.place
    c.in-Ok-place_of.ensures.bound c.in-Ok-place_of.ensures.position c.remove.ensures.items).view

pub returns-else-not-shared-clause-was : goal.returns-else-not-shared-clause-was
returns-else-not-shared-clause-was c =
    let it = c.index_mut.result.now in
    let bound = subst (λ (l : List NodeOps). c.in-Ok.at < length l) c.deref.ensures.value c.in-Ok.ensures.bound in
    let of = sym (found_here _ _ c.deref.ensures.value c.args.op.now.name.node c.in-Ok.at c.self.invariant.by_node it c.in-Ok.ensures.position c.index_mut.ensures.value) in
    sym (entry_tells _ _ it c.self.invariant.by_node bound c.index_mut.ensures.value c.args.self.now c.self.view_is c.args.op.now of _ c.deref-2.ensures.value (Ok c.in-Ok-place_of.place) c.in-Ok-place_of.ensures.bound
    c.in-Ok-place_of.ensures.position)
