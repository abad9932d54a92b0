use Rattle.std.proofs.Common.{◌≡◌, ◌∙◌, Some, ap, nat_cmp, sym}
use Rattle.std.specs.BTreeMap.{is_at}
use Rattle.std.specs.Map.{lookup}
use Rattle.fl_crew_calls.proofs.Maps.{full_after, held, not_empty, not_none, put_through_place}
use Rattle.fl_crew_calls.proofs.Maps.{restarted}
use Rattle.fl_crew_calls.proofs.crews.Crews.restart.Goals as goal

pub returns-in_default : goal.returns-in_default
returns-in_default g c =
    absurd (not_none _ _ (sym c.in_default.ensures.value)
    (held _ _ c.self.inside.all.entries _ c.args.self.now c.self.view_is c.args.number
    ∙ c.requires.1))

pub invariant_of-self-in_default-take : goal.invariant_of-self-in_default-take
invariant_of-self-in_default-take g c =
    absurd (not_empty _ _ _ c.in-Some.ensures.value (sym c.take.ensures.value
    ∙ c.in_default-take.is)
    (held _ _ c.self.inside.all.entries _ c.args.self.now c.self.view_is c.args.number
    ∙ c.requires.1))

pub returns-in_default-take : goal.returns-in_default-take
returns-in_default-take g c =
    absurd (not_empty _ _ _ c.in-Some.ensures.value (sym c.take.ensures.value
    ∙ c.in_default-take.is)
    (held _ _ c.self.inside.all.entries _ c.args.self.now c.self.view_is c.args.number
    ∙ c.requires.1))

pub invariant_of-self-2 : goal.invariant_of-self-2
invariant_of-self-2 g c =
    let there : lookup (is_at (nat_cmp c.args.number)) c.self.inside.all.entries
    ≡ Some (Some c.in-Some-take.manned) =
    sym c.in-Some.ensures.value ∙ ap Some (sym c.take.ensures.value ∙ c.in-Some-take.is) in (
      c.self.invariant.0,
      c.self.invariant.1,
      full_after _ _ c.self.inside.all.entries _ c.args.self.now c.self.view_is _ c.args.number
          c.restart-manned.result.0 c.self.invariant.2
          (put_through_place _ _ c.self.inside.all.entries _ c.args.self.now c.self.view_is _
          c.args.number c.in-Some-take.manned c.restart-manned.result.0 there
          (c.get_mut.follows.holds (Some c.restart-manned.result.0)).0),
    )

pub returns : goal.returns
returns g c =
    restarted _ _ c.self.inside.all.entries _ c.args.self.now c.self.view_is g.M.K.Keeper.custody _
    c.args.number c.args.keeps c.in-Some-take.manned c.restart-manned.result.0
    c.restart-manned.result.1
    (sym c.in-Some.ensures.value ∙ ap Some (sym c.take.ensures.value ∙ c.in-Some-take.is))
    (c.get_mut.follows.holds (Some c.restart-manned.result.0)).0 c.restart-manned.ensures
