use Rattle.std.proofs.Common.{◌≡◌, ◌∙◌, None, Some, nat_cmp, refl, rules, sym}
use Rattle.std.proofs.lemmas.Result.{err_from_is_err_and}
use Rattle.std.specs.FinMap as map
use Rattle.fl_crew_calls.specs.Asking.{IsNotOpened, Opens}
use Rattle.fl_calls.proofs.Opening.{no_more_then}
use Rattle.fl_crew_calls.specs.Joining.{ClashesAt, FindsAgainst, StraysAt}
use Rattle.fl_crew_calls.proofs.Joins.{against_crews}
use Rattle.fl_crew_calls.proofs.Maps.{contradicted, found, full_after, held, is_opened, put_new, stays_shut}
use Rattle.fl_crew_calls.proofs.Maps.{there_after}
use Rattle.fl_crew_calls.proofs.crews.Crews.open.Given.{Over}
use Rattle.fl_crew_calls.proofs.crews.Crews.open.Goals as goal
use Rattle.fl_crew_calls.proofs.crews.Crews.open.Goals.{Joined-insert-2}

pub returns-then-contains_key-clause-there : goal.returns-then-contains_key-clause-there
returns-then-contains_key-clause-there g c =
    found _ _ c.self.inside.all.entries _ c.args.self.now c.self.view_is c.args.number
    c.self.invariant.2 (sym c.contains_key.ensures ∙ c.if-contains_key.true)

pub returns-then-contains_key-clause-opens : goal.returns-then-contains_key-clause-opens
returns-then-contains_key-clause-opens g c =
    Opens.is_open (returns-then-contains_key-clause-there g c).1

pub returns-in_err-keeper-clause-opens : goal.returns-in_err-keeper-clause-opens
returns-in_err-keeper-clause-opens g c =
    let fault = err_from_is_err_and c.from_residual.result c.from_residual.ensures.1 in
    rw fault.1 (rw fault.2 (stays_shut _ _ c.self.inside.all.entries _ c.args.self.now
    c.self.view_is g.M.K.Keeper.custody g.M.MakesKeepers.making c.make.new.self c.args.number
    (sym c.contains_key.ensures ∙ c.if-contains_key.false) c.make.ensures.same
    c.self.inside.all.entries c.in_err-keeper.field-0.0 refl
    (IsNotOpened.unmade c.in_err-keeper.ensures.why)))

pub returns-in_err-manned-clause-opens : goal.returns-in_err-manned-clause-opens
returns-in_err-manned-clause-opens g c =
    let fault = err_from_is_err_and c.from_residual-in_err-manned.result
    c.from_residual-in_err-manned.ensures.1 in
    rw fault.1 (rw fault.2 (stays_shut _ _ c.self.inside.all.entries _ c.args.self.now
    c.self.view_is g.M.K.Keeper.custody g.M.MakesKeepers.making c.make.new.self c.args.number
    (sym c.contains_key.ensures ∙ c.if-contains_key.false) c.make.ensures.same
    c.self.inside.all.entries c.in_err-manned.field-0.0 refl
    (IsNotOpened.not_opened (record {
      makes = c.in_ok-keeper.ensures.makes;
      finds = c.in_ok-keeper.ensures.made;
    }) c.in_err-manned.ensures.err)))

-- what was made is in the place of the number now
inserted : (g : Over) (c : Joined-insert-2 g)
    → map.from_entries {R = nat_cmp} c.insert.new.self.entries
    ≡ map.insert c.args.self.now.crews c.args.number (Some c.in_ok-manned.manned)
inserted g c =
    put_new _ _ c.self.inside.all.entries _ c.args.self.now c.self.view_is
    c.insert.new.self.entries c.args.number c.in_ok-manned.manned c.in-Ok.ensures.updates.0

pub invariant_of-self-in-Ok : goal.invariant_of-self-in-Ok
invariant_of-self-in-Ok g c = (
  c.self.invariant.0,
  c.self.invariant.1,
  full_after _ _ c.self.inside.all.entries _ c.args.self.now c.self.view_is
      c.insert.new.self.entries c.args.number c.in_ok-manned.manned c.self.invariant.2
      (inserted g c),
)

pub returns-in-Some-clause-opens : goal.returns-in-Some-clause-opens
returns-in-Some-clause-opens g c =
    contradicted _ _ c.self.inside.all.entries _ c.args.self.now c.self.view_is
    g.M.K.Keeper.custody g.M.MakesKeepers.making c.take_back.new.self c.args.number
    (sym c.contains_key.ensures ∙ c.if-contains_key.false)
    (no_more_then g.M.K.Keeper.custody g.M.MakesKeepers.making _ _ _ c.make.ensures.same
    c.take_back.ensures)
    c.in-Some.fault c.in_ok-keeper.keeper c.in_ok-manned.manned
    (record { makes = c.in_ok-keeper.ensures.makes; finds = c.in_ok-keeper.ensures.made })
    c.in_ok-manned.ensures.ok
    (rw (c.saved.ensures.saved, c.node.ensures, c.crew.ensures, c.in-Some.is) at (against_crews c.self.inside.all c.against.ensures.ordered c.args.self.now
    (held _ _ c.self.inside.all.entries _ c.args.self.now c.self.view_is)
    c.args.number _ c.against.result c.against.ensures.found))

pub returns-in-Ok-clause-opens : goal.returns-in-Ok-clause-opens
returns-in-Ok-clause-opens g c =
    let nothing : c.against.result ≡ None = search rules in
    is_opened _ _ c.self.inside.all.entries _ c.args.self.now c.self.view_is
    g.M.K.Keeper.custody g.M.MakesKeepers.making c.make.new.self c.args.number
    (sym c.contains_key.ensures ∙ c.if-contains_key.false) c.make.ensures.same
    c.insert.new.self.entries c.in_ok-keeper.keeper c.in_ok-manned.manned (inserted g c)
    (record { makes = c.in_ok-keeper.ensures.makes; finds = c.in_ok-keeper.ensures.made })
    c.in_ok-manned.ensures.ok (rw (c.node.ensures, c.crew.ensures) at c.saved.ensures.names)
    (rw (c.saved.ensures.saved, c.node.ensures, c.crew.ensures, nothing) at (against_crews c.self.inside.all c.against.ensures.ordered c.args.self.now
    (held _ _ c.self.inside.all.entries _ c.args.self.now c.self.view_is)
    c.args.number _ c.against.result c.against.ensures.found))

pub returns-in-Ok-clause-there : goal.returns-in-Ok-clause-there
returns-in-Ok-clause-there g c = (
  c.in_ok-manned.manned,
  there_after _ _ c.self.inside.all.entries _ c.args.self.now
      c.self.view_is c.insert.new.self.entries c.args.number c.in_ok-manned.manned (inserted g c),
)

pub returns-clause-opens : goal.returns-clause-opens
returns-clause-opens g c =
    stays_shut _ _ c.self.inside.all.entries _ c.args.self.now c.self.view_is
    g.M.K.Keeper.custody g.M.MakesKeepers.making c.make.new.self c.args.number
    (sym c.contains_key.ensures ∙ c.if-contains_key.false) c.make.ensures.same
    c.insert.new.self.entries _ c.in-Err.ensures.err IsNotOpened.no_room
