use Rattle.std.proofs.Common.{arith, ap, drop, length, ◌∙◌, ◌≤◌, ◌+◌, ◌-◌}
use Rattle.std.specs.List.{insert}
use Rattle.fl_labels.proofs.Deques.{drop_insert, put_in_front, as_long, written_over}
use Rattle.fl_labels.proofs.deque.CapDeque.put.Goals as goal

pub returns-then-place-len-clause-items : goal.returns-then-place-len-clause-items
returns-then-place-len-clause-items c =
    let fits : c.args.self.now.before + c.args.place ≤ length c.deref_mut.result.now = omega (arith, c.deref_mut.ensures.len, c.requires.place, c.requires.fits) in
    ap (drop (c.args.self.now.before - 1))
    (written_over _ _ _ (as_long c.args.self.now.before c.args.place c.deref_mut.result.now c.pass.new.caps c.args.cap c.if-self-gt0.true fits c.pass.ensures ∙ c.deref_mut.ensures.len))
    ∙ put_in_front c.args.self.now.before c.args.place c.deref_mut.result.now c.pass.new.caps c.args.cap c.if-self-gt0.true fits c.pass.ensures
    ∙ ap (λ l. insert (drop c.args.self.now.before l) c.args.place c.args.cap) c.deref_mut.ensures.value

pub returns-clause-items : goal.returns-clause-items
returns-clause-items c = ap (drop c.args.self.now.before) c.in-Ok.ensures.items ∙ drop_insert c.args.self.now.before c.args.self.now.all.items c.args.place c.args.cap (omega (arith, c.requires.fits))
