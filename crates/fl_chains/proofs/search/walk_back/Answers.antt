use Rattle.std.specs.Prelude.{length}
use Rattle.std.proofs.Common.{arith, subst, ap, sym}
use Rattle.std.specs.List.{Contains}
use Rattle.fl_labels.specs.SetBy.{In}
use Rattle.fl_ops.specs.Registry.{Listed}
use Rattle.fl_chains.specs.parts.Legs.{AreParts}
use Rattle.fl_chains.proofs.Members.{empty_vec, filled_vec}
use Rattle.fl_chains.proofs.Searching.{searched_none, searched_root, searched_more, searched_all, only_itself}
use Rattle.fl_chains.proofs.search.walk_back.Goals as goal

pub loop-root-init : goal.loop-root-init
loop-root-init c = (
  searched_none (Listed c.args.ops.now) (Contains c.args.roots.now) c.args.cap
      (In c.insert.new.self)
      (only_itself c.args.cap c.new-near.result c.insert.new.self c.new-near.ensures
      c.in_ok-insert.ensures.ok)
      c.new-legs.result.items c.new-legs.ensures.items c.in_ok-rest.rest.items
      (λ op. (
        λ h. subst (λ l. Contains l op) c.in_ok-rest.ensures.items h,
        λ h. subst
            (λ l. Contains l op) (sym c.in_ok-rest.ensures.items) h,
      )),
  let e = ap length c.in_ok-rest.ensures.items in omega arith,
)

pub loop-root-preserved : goal.loop-root-preserved
loop-root-preserved c =
    let parts : AreParts c.loop-root.rest.items (In c.loop-root.near)
    c.in_ok-parts.parts.taken.items c.in_ok-parts.parts.rest.items =
    rw c.deref.ensures.value at c.in_ok-parts.ensures in
    let counts = parts.counts in (
      searched_more (Listed c.args.ops.now) (Contains c.args.roots.now) c.args.cap c.loop-root.away
          c.loop-root.legs.items c.loop-root.rest.items (In c.loop-root.near)
          c.loop-root.invariant.0 c.in_default.ensures c.in_ok-parts.parts.taken.items
          c.in_ok-parts.parts.rest.items parts
          c.add_legs.new.legs.items (rw c.deref-in-loop-root.ensures.value at
          c.in_ok-add_legs.ensures)
          (In c.in_ok-near.near) (rw c.deref-in-loop-root-2.ensures.value at c.in_ok-near.ensures),
      (let some = filled_vec c.in_ok-parts.parts.taken c.is_empty.result c.is_empty.ensures
          c.if-is_empty.false in let room = c.loop-root.invariant.1 in omega arith),
    )

pub loop-root-smaller : goal.loop-root-smaller
loop-root-smaller c =
    let parts : AreParts c.loop-root.rest.items (In c.loop-root.near)
    c.in_ok-parts.parts.taken.items c.in_ok-parts.parts.rest.items =
    rw c.deref.ensures.value at c.in_ok-parts.ensures in
    let counts = parts.counts in
    let some = filled_vec c.in_ok-parts.parts.taken c.is_empty.result c.is_empty.ensures
    c.if-is_empty.false in
    omega arith

pub returns-in-Some : goal.returns-in-Some
returns-in-Some c =
    searched_root (Listed c.args.ops.now) (Contains c.args.roots.now) c.args.cap
    c.loop-root.away c.loop-root.legs.items c.loop-root.rest.items (In c.loop-root.near)
    c.in-Some.root c.loop-root.invariant.0 c.in-Some.ensures

pub returns-then-is_empty : goal.returns-then-is_empty
returns-then-is_empty c =
    searched_all (Listed c.args.ops.now) (Contains c.args.roots.now) c.args.cap c.loop-root.away
    c.loop-root.legs.items c.loop-root.rest.items (In c.loop-root.near)
    c.loop-root.invariant.0 c.in_default.ensures c.in_ok-parts.parts.taken.items
    c.in_ok-parts.parts.rest.items
    (rw c.deref.ensures.value at c.in_ok-parts.ensures)
    (empty_vec c.in_ok-parts.parts.taken c.is_empty.result c.is_empty.ensures
    c.if-is_empty.true)
