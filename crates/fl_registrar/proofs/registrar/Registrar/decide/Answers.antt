use Rattle.std.proofs.Common.{◌∙◌, None, List, ◌++◌, ◌∷◌, [], ap, arith, length, set}
use Rattle.std.specs.Prelude.{vec_capacity}
use Rattle.std.proofs.lemmas.Option.{slice_get_within}
use Rattle.std.specs.declared.option.Option.{Option}
use Rattle.fl_crew_model.specs.declared.record.Decision.{Decision}
use Rattle.fl_crew_model.specs.declared.record.Deed.{Deed}
use Rattle.fl_crew_model.specs.declared.record.Deed.TheVariants.{Decided}
use Rattle.fl_registrar.specs.declared.awaited.Awaited.{Awaited}
use Rattle.fl_registrar.specs.Over.{RegistrarOver}
use Rattle.fl_registrar.proofs.Ruled.{seen}
use Rattle.fl_registrar.proofs.Decided.{own_decided, awaited_less, apart_decided, decided_goes}
use Rattle.fl_registrar.proofs.Decided.{failed_goes}
use Rattle.fl_registrar.proofs.Rising.{decided_rises}
use Rattle.fl_registrar.proofs.registrar.Registrar.decide.Goals as goal

pub returns-in-Err-clause-goes : goal.returns-in-Err-clause-goes
returns-in-Err-clause-goes g c =
    let i = c.self-2.inside in
    failed_goes g.K.Keeper.custody c.args.self.now
    (seen i.node i.press i.due i.orders.items i.deeds.items (vec_capacity i.deeds) i.failed
    i.is_stopped) c.args.worker c.in-Err.fault _ (rw (← c.self-2.view_is) at c.rule.ensures.deeds)
    (rw (← c.self-2.view_is) at c.in-Err.ensures.rules)

pub index_mut-requires : goal.index_mut-requires
index_mut-requires g c =
    let awaits = c.awaits.ensures.0 c.if-not-awaits.false in
    let same = ap (λ (r : RegistrarOver g.row.K.Denot). r.orders) c.self-2.view_is
    ∙ c.rule.ensures.orders in
    omega (
      arith,
      slice_get_within _ c.args.place _ awaits.awaited,
      ap length same,
      c.self-2.inside.orders.ok.0,
    )

pub returns-clause-own : goal.returns-clause-own
returns-clause-own g c jobs =
    let awaits = c.awaits.ensures.0 c.if-not-awaits.false in
    let same = ap (λ (r : RegistrarOver g.row.K.Denot). r.deeds) c.self-2.view_is
    ∙ c.rule.ensures.deeds in
    let d : Decision = record {
      worker = c.args.worker;
      place = c.args.place;
      ruling = c.in-Ok.ruling;
      before = length c.list.result.now;
      after = length c.list-2.result.now;
    } in
    own_decided jobs c.args.self.now.orders c.args.self.now.deeds c.push_reserved.new.self.items d
    c.args.body c.args.pid awaits.awaited c.in-Ok.ensures.own
    (c.push_reserved.ensures.items ∙ ap (λ (deeds : List Deed). deeds ++ Decided d ∷ []) same)

pub returns-clause-left : goal.returns-clause-left
returns-clause-left g c jobs =
    let same = ap (λ (r : RegistrarOver g.row.K.Denot). r.orders) c.self-2.view_is
    ∙ c.rule.ensures.orders in
    awaited_less jobs c.args.self.now.orders (set c.self-2.inside.orders.items c.args.place None)
    c.args.place
    (ap (λ (o : List (Option Awaited)). set o c.args.place None) same)

pub returns-clause-apart : goal.returns-clause-apart
returns-clause-apart g c =
    let awaits = c.awaits.ensures.0 c.if-not-awaits.false in
    let at = ap (λ (r : RegistrarOver g.row.K.Denot). r.orders) c.self-2.view_is
    ∙ c.rule.ensures.orders in
    let same = ap (λ (r : RegistrarOver g.row.K.Denot). r.deeds) c.self-2.view_is
    ∙ c.rule.ensures.deeds in
    let d : Decision = record {
      worker = c.args.worker;
      place = c.args.place;
      ruling = c.in-Ok.ruling;
      before = length c.list.result.now;
      after = length c.list-2.result.now;
    } in
    apart_decided c.args.self.now.orders (set c.self-2.inside.orders.items c.args.place None)
    c.args.self.now.deeds c.push_reserved.new.self.items d _ awaits.awaited
    (ap (λ (o : List (Option Awaited)). set o c.args.place None) at)
    (c.push_reserved.ensures.items ∙ ap (λ (deeds : List Deed). deeds ++ Decided d ∷ []) same)

pub returns-clause-goes : goal.returns-clause-goes
returns-clause-goes g c =
    let same = ap (λ (r : RegistrarOver g.row.K.Denot). r.deeds) c.self-2.view_is
    ∙ c.rule.ensures.deeds in
    let d : Decision = record {
      worker = c.args.worker;
      place = c.args.place;
      ruling = c.in-Ok.ruling;
      before = length c.list.result.now;
      after = length c.list-2.result.now;
    } in
    let i = c.self-2.inside in
    decided_goes g.K.Keeper.custody c.law_registrar.ensures.more c.args.self.now
    (seen i.node i.press i.due i.orders.items i.deeds.items (vec_capacity i.deeds) i.failed i.is_stopped)
    d
    (set i.orders.items c.args.place None) c.push_reserved.new.self.items
    (vec_capacity c.push_reserved.new.self)
    (c.push_reserved.ensures.items ∙ ap (λ (deeds : List Deed). deeds ++ Decided d ∷ []) same)
    (ap length (c.list.ensures ∙ ap (λ (r : RegistrarOver g.row.K.Denot). r.press.list)
    c.self.view_is))
    (ap length c.list-2.ensures)
    (rw (← c.self-2.view_is) at c.in-Ok.ensures.rules)

pub returns-clause-rises : goal.returns-clause-rises
returns-clause-rises g c =
    let awaits = c.awaits.ensures.0 c.if-not-awaits.false in
    let same = ap (λ (r : RegistrarOver g.row.K.Denot). r.deeds) c.self-2.view_is
    ∙ c.rule.ensures.deeds in
    let d : Decision = record {
      worker = c.args.worker;
      place = c.args.place;
      ruling = c.in-Ok.ruling;
      before = length c.list.result.now;
      after = length c.list-2.result.now;
    } in
    decided_rises c.args.self.now.deeds c.push_reserved.new.self.items d
    (c.push_reserved.ensures.items ∙ ap (λ (deeds : List Deed). deeds ++ Decided d ∷ []) same)
    awaits.later
