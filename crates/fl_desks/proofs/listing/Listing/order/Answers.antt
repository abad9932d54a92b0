use Rattle.std.proofs.Common.{◌<◌, ◌-◌, ◌∙◌, inl, inr, arith, length, subst}
use Rattle.fl_desks.specs.parts.Fronts.{IsFront}
use Rattle.fl_desks.proofs.Views.{extended_seen, extended_unseen, front_at, grown, place_of_desk, set_views, with_desk}
use Rattle.fl_desks.proofs.listing.Listing.order.Goals as goal
use Rattle.fl_desks.proofs.listing.Listing.order.Goals.{then-desk-eq0-via-then-desk-eq0, then-desk-eq0-via-else-desk-eq0+then-len-desk}

pub invariant_of-self-in_default : goal.invariant_of-self-in_default
invariant_of-self-in_default c =
    grown c.self.inside.list.items _ _ c.self.inside.desks.items c.self.invariant c.in_ok-push.ensures.items

pub invariant_of-self-then-desk-eq0 : goal.invariant_of-self-then-desk-eq0
invariant_of-self-then-desk-eq0 c =
    grown c.self.inside.list.items _ _ c.self.inside.desks.items c.self.invariant c.in_ok-push.ensures.items

pub returns-then-desk-eq0-clause-ok : goal.returns-then-desk-eq0-clause-ok
returns-then-desk-eq0-clause-ok c maker =
    rw (← c.self.view_is, c.in-Some.is) (extended_unseen c.self.inside.list.items _ c.self.inside.desks.items c.args.op.now maker c.in-Some.desk c.in_ok-push.ensures.items
    (elim c.then-desk-eq0.branch [
      | then-desk-eq0-via-then-desk-eq0 w ↦ inl w.if-desk-eq0.true
      | then-desk-eq0-via-else-desk-eq0+then-len-desk w ↦ inr (omega (arith, w.if-len-desk.true, w.len.ensures, c.self.inside.desks.ok.0))
    ]))

pub invariant_of-self-in-Ok : goal.invariant_of-self-in-Ok
invariant_of-self-in-Ok c =
    with_desk _ c.self.inside.desks.items _ c.rise.new.self
    (grown c.self.inside.list.items _ _ c.self.inside.desks.items c.self.invariant c.in_ok-push.ensures.items)
    (subst (λ l. IsFront l c.rise.new.self) c.deref.ensures.value (record { within = c.in-Ok.ensures.inside; front = c.in-Ok.ensures.front }))

pub returns-in-Ok-clause-ok : goal.returns-in-Ok-clause-ok
returns-in-Ok-clause-ok c maker =
    let some : 0 < c.in-Some.desk = omega (arith, c.if-desk-eq0.false) in
    let count = c.len-count.ensures ∙ c.push.new.self.ok.0 in
    let less : c.in-Some.desk - 1 < length c.self.inside.desks.items = omega (arith, some, c.if-len-desk.false, c.len.ensures, c.self.inside.desks.ok.0) in
    rw (← c.self.view_is, c.in-Some.is) (extended_seen c.self.inside.list.items _ c.self.inside.desks.items _ c.index_mut-it.result.now c.rise.new.self c.len-count.result
    c.args.op.now maker c.in-Some.desk c.in_ok-push.ensures.items (place_of_desk c.in-Some.desk some)
    (front_at c.self.inside.list.items c.self.inside.desks.items _ c.index_mut-it.result.now less c.index_mut-it.ensures.value c.self.invariant.fronts)
    c.in-Ok.ensures.seen count)

pub returns-in-Ok-clause-desks : goal.returns-in-Ok-clause-desks
returns-in-Ok-clause-desks c = rw (← c.self.view_is) (set_views c.self.inside.desks.items _ c.rise.new.self)
