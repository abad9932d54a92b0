use Rattle.std.proofs.Common.{◌≡◌, ◌+◌, ◌∙◌, ◌∷◌, ◌++◌, [], arith, ap, length, subst, suc, sym, take}
use Rattle.std.proofs.Common.{Err, Ok, OnErr, Result}
use Rattle.std.proofs.Math.Seq.{take-length}
use Rattle.std.proofs.lemmas.List.{append-nil}
use Rattle.fl_monitor.proofs.Keys.{key, key_full, key_none, keys, keys_more, keys_of_map, some_key}
use Rattle.fl_monitor.proofs.pid_map.PidMap.pids.Goals as goal
use Rattle.fl_monitor.proofs.pid_map.PidMap.pids.Goals.{then-is_some+in_ok-push, else-is_some}

on_err : {T E P : Type 0} (r : Result T E) → P → OnErr r P
on_err (Ok x) p = tt
on_err (Err e) p = p

pub loop-slot-preserved : goal.loop-slot-preserved
loop-slot-preserved g c =
    let slots = c.deref-slot-items.result.now in
    let k = c.loop-slot.slot-index in
    let s = c.slot-item.result in
    let next : k + 1 ≡ suc k = omega arith in
    let more = keys_more slots k s c.loop-slot-test.true in
    rw (next, more, ← c.slot-item.is)
    (elim c.if-is_some.branch [
      | then-is_some+in_ok-push w ↦
          let full = key_full s (sym c.is_some.ensures ∙ w.if-is_some.true) in
          ap (λ v. v.items) w.pids-is ∙ w.in_ok-push.ensures.items
          ∙ ap (λ ks. ks ++ s.pid ∷ []) c.loop-slot.invariant
          ∙ ap (λ ks. keys (take k slots) ++ ks) (sym full)
      | else-is_some w ↦
          let none = key_none s (sym c.is_some.ensures ∙ w.if-is_some.false) in
          ap (λ v. v.items) w.pids-is ∙ c.loop-slot.invariant
          ∙ sym (append-nil (keys (take k slots)))
          ∙ ap (λ ks. keys (take k slots) ++ ks) (sym none)
    ])

pub returns-clause-ok : goal.returns-clause-ok
returns-clause-ok g c =
    let slots = c.deref-slot-items.result.now in
    let whole : c.loop-slot.slot-index ≡ length slots =
    omega (arith, c.loop-slot-test.false, c.loop-slot.auto.slot-index-end) in
    c.loop-slot.invariant ∙ ap (λ n. keys (take n slots)) whole ∙ ap keys (take-length slots)
    ∙ ap keys c.deref-slot-items.ensures.value
    ∙ keys_of_map c.self.inside.slots.items c.args.self.now c.self.invariant c.self.view_is

pub returns-in_err-push-clause-err : goal.returns-in_err-push-clause-err
returns-in_err-push-clause-err g c =
    let slots = c.deref-slot-items.result.now in
    let k = c.loop-slot.slot-index in
    let s = c.slot-item.result in
    let full = subst (λ t. key t ≡ t.pid ∷ []) c.slot-item.is
    (key_full s (sym c.is_some.ensures ∙ c.if-is_some.true)) in
    let some = some_key slots k s (omega (arith, c.loop-slot-test.true)) full in
    let are = ap keys c.deref-slot-items.ensures.value
    ∙ keys_of_map c.self.inside.slots.items c.args.self.now c.self.invariant c.self.view_is in
    on_err c.from_residual.result (λ none. some (are ∙ none))
