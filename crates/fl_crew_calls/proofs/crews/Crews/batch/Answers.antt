use Rattle.std.proofs.Common.{◌≡◌, ◌∙◌, ◌++◌, List, Option, Some, ap, nat_cmp, refl, sym, ℕ}
use Rattle.std.specs.BTreeMap.{BTreeMap, is_at}
use Rattle.std.specs.Map.{lookup}
use Rattle.fl_workers.specs.Over.{CrewOver}
use Rattle.fl_crew_calls.specs.Told.{all_sent, replies_behind}
use Rattle.fl_crew_calls.proofs.Maps.{full_after, put_through_place}
use Rattle.fl_crew_calls.proofs.Places.{at_place}
use Rattle.fl_crew_calls.proofs.Serving.{no_crew_there, not_begun, serves, unbegun, why_unbegun}
use Rattle.fl_crew_calls.proofs.crews.Crews.batch.Goals as goal

pub returns-in_default-clause-err : goal.returns-in_default-clause-err
returns-in_default-clause-err g c =
    not_begun g.M.K.Keeper.custody c.self.inside.all.entries c.args.self.now c.self.view_is
    c.args.number c.args.jobs.items c.args.packets.items c.in_default.ensures.items

pub returns-in_default-with_capacity-clause-err : goal.returns-in_default-with_capacity-clause-err
returns-in_default-with_capacity-clause-err g c =
    not_begun g.M.K.Keeper.custody c.self.inside.all.entries c.args.self.now c.self.view_is
    c.args.number c.args.jobs.items c.args.packets.items c.in-Ok.ensures.items

pub returns-in_default-get_mut-clause-err : goal.returns-in_default-get_mut-clause-err
returns-in_default-get_mut-clause-err g c =
    no_crew_there g.M.K.Keeper.custody c.self.inside.all.entries c.args.self.now c.self.view_is
    c.args.number c.args.jobs.items c.args.packets.items
    (ap (λ (t : BTreeMap ℕ (Option (CrewOver g.row.M-K.Denot))). t.entries)
    c.get_mut.follows.holds-at-none) c.in-Ok.ensures.items
    (sym c.in_default-get_mut.ensures.value)

pub invariant_of-self-in_default-place : goal.invariant_of-self-in_default-place
invariant_of-self-in_default-place g c =
    absurd (c.self.invariant.2 c.args.number (at_place c.self.inside.all.entries refl c.args.number
    (Some c.in-Some.place.now) c.in-Some.ensures.value ∙ ap Some c.in_default-place.is))

pub returns-in_default-place-clause-err : goal.returns-in_default-place-clause-err
returns-in_default-place-clause-err g c =
    absurd (c.self.invariant.2 c.args.number (at_place c.self.inside.all.entries refl c.args.number
    (Some c.in-Some.place.now) c.in-Some.ensures.value ∙ ap Some c.in_default-place.is))

pub invariant_of-self-in-Ok-batch : goal.invariant_of-self-in-Ok-batch
invariant_of-self-in-Ok-batch g c =
    let there : lookup (is_at (nat_cmp c.args.number)) c.self.inside.all.entries
    ≡ Some (Some c.in-Some-place.manned) =
    sym c.in-Some.ensures.value ∙ ap Some c.in-Some-place.is in (
      c.self.invariant.0,
      c.self.invariant.1,
      full_after _ _ c.self.inside.all.entries _ c.args.self.now c.self.view_is _ c.args.number
          c.batch.new.self c.self.invariant.2
          (put_through_place _ _ c.self.inside.all.entries _ c.args.self.now c.self.view_is _
          c.args.number c.in-Some-place.manned c.batch.new.self there
          (c.get_mut.follows.holds (Some c.batch.new.self)).0),
    )

pub invariant_of-self-in-Err-batch : goal.invariant_of-self-in-Err-batch
invariant_of-self-in-Err-batch g c =
    let there : lookup (is_at (nat_cmp c.args.number)) c.self.inside.all.entries
    ≡ Some (Some c.in-Some-place.manned) =
    sym c.in-Some.ensures.value ∙ ap Some c.in-Some-place.is in (
      c.self.invariant.0,
      c.self.invariant.1,
      full_after _ _ c.self.inside.all.entries _ c.args.self.now c.self.view_is _ c.args.number
          c.batch.new.self c.self.invariant.2
          (put_through_place _ _ c.self.inside.all.entries _ c.args.self.now c.self.view_is _
          c.args.number c.in-Some-place.manned c.batch.new.self there
          (c.get_mut.follows.holds (Some c.batch.new.self)).0),
    )

pub returns-in-Ok-batch-clause-ok : goal.returns-in-Ok-batch-clause-ok
returns-in-Ok-batch-clause-ok g c =
    let entries = c.in-Ok-batch.entries.items in
    serves g.M.K.Keeper.custody c.self.inside.all.entries c.args.self.now c.self.view_is
    c.args.number c.args.jobs.items c.args.packets.items c.in-Some-place.manned c.batch.new.self
    (sym c.in-Some.ensures.value ∙ ap Some c.in-Some-place.is)
    (c.get_mut.follows.holds (Some c.batch.new.self)).0 entries c.tell_all.new.replies.items
    c.in-Ok-batch.ensures.ok
    (c.tell_all.ensures.sent ∙ ap (λ s. s ++ all_sent entries) c.in-Ok.ensures.items)
    (c.tell_all.ensures.replies
    ∙ ap (λ r. r ++ replies_behind c.reserve.new.self.items entries)
    c.in-Ok-with_capacity.ensures.items
    ∙ ap (λ s. replies_behind s entries) c.in-Ok.ensures.items)

pub returns-in-Err-clause-err : goal.returns-in-Err-clause-err
returns-in-Err-clause-err g c =
    unbegun g.M.K.Keeper.custody c.self.inside.all.entries c.args.self.now c.self.view_is
    c.args.number c.args.jobs.items c.args.packets.items c.in-Some-place.manned c.batch.new.self
    (sym c.in-Some.ensures.value ∙ ap Some c.in-Some-place.is)
    (c.get_mut.follows.holds (Some c.batch.new.self)).0 c.fault_of.result
    (why_unbegun c.in-Some-place.manned c.in-Err.fault c.fault_of.result c.fault_of.ensures.stopped
    c.fault_of.ensures.memory c.in-Err.ensures.stopped.0)
    c.in-Err.ensures.err c.in-Err.ensures.still c.in-Ok.ensures.items
