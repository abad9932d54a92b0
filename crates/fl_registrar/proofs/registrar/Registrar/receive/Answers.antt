use Rattle.std.proofs.Common.{◌≡◌, ◌∙◌, ◌++◌, ◌∷◌, [], List, sym, ap, subst, length}
use Rattle.std.specs.Prelude.{vec_capacity}
use Rattle.fl_gossip.specs.Taking.{ops_of}
use Rattle.fl_crew_model.specs.declared.record.Deed.{Deed}
use Rattle.fl_crew_model.specs.declared.record.Deed.TheVariants.{Delivered}
use Rattle.fl_crew_model.specs.declared.record.Delivery.{Delivery}
use Rattle.fl_crew_model.specs.Answered.{AreOwn}
use Rattle.fl_registrar.specs.declared.awaited.Awaited.{Awaited}
use Rattle.std.specs.declared.option.Option.{Option}
use Rattle.fl_registrar.specs.Over.{RegistrarOver}
use Rattle.fl_registrar.specs.Apart.{AreApart}
use Rattle.fl_registrar.proofs.Ruled.{seen}
use Rattle.fl_registrar.proofs.Taken.{own_delivered, apart_delivered, delivered_goes}
use Rattle.fl_registrar.proofs.Taken.{undelivered_goes}
use Rattle.fl_registrar.proofs.Rising.{delivered_rises}
use Rattle.fl_registrar.proofs.registrar.Registrar.receive.Goals as goal

pub returns-in_err-receipt-clause-goes : goal.returns-in_err-receipt-clause-goes
returns-in_err-receipt-clause-goes g c =
    undelivered_goes g.K.Keeper.custody c.args.self.now c.take.new.self
    (ops_of c.args.parcel.packet) c.in_err-receipt.field-0.0 c.take.ensures.deeds
    c.in_err-receipt.ensures.takes

pub returns-clause-own : goal.returns-clause-own
returns-clause-own g c jobs own =
    let p : Delivery = record {
      place = c.args.place;
      ops = c.into_ops.result;
      verdict = c.in_ok-receipt.receipt.verdict;
      answer = c.in_ok-receipt.receipt.answer;
      before = length c.list.result.now;
      after = length c.list-2.result.now;
    } in
    let was : ◌≡◌ {A = List Deed} c.self-2.inside.deeds.items c.args.self.now.deeds = ap
    (λ (r : RegistrarOver g.row.K.Denot). r.deeds) c.self-2.view_is ∙ c.take.ensures.deeds in
    let more = c.push_reserved.ensures.items ∙ ap (λ (deeds : List Deed). deeds ++ Delivered p ∷ [])
    was in
    subst (AreOwn jobs) (sym more) (own_delivered jobs c.args.self.now.deeds p own)

pub returns-clause-apart : goal.returns-clause-apart
returns-clause-apart g c apart =
    let p : Delivery = record {
      place = c.args.place;
      ops = c.into_ops.result;
      verdict = c.in_ok-receipt.receipt.verdict;
      answer = c.in_ok-receipt.receipt.answer;
      before = length c.list.result.now;
      after = length c.list-2.result.now;
    } in
    let was : ◌≡◌ {A = List Deed} c.self-2.inside.deeds.items c.args.self.now.deeds = ap
    (λ (r : RegistrarOver g.row.K.Denot). r.deeds) c.self-2.view_is ∙ c.take.ensures.deeds in
    let more = c.push_reserved.ensures.items ∙ ap (λ (deeds : List Deed). deeds ++ Delivered p ∷ [])
    was in
    let at : ◌≡◌ {A = List (Option Awaited)} c.self-2.inside.orders.items
    c.args.self.now.orders = ap (λ (r : RegistrarOver g.row.K.Denot). r.orders) c.self-2.view_is
    ∙ c.take.ensures.orders in
    subst (λ (o : List (Option Awaited)). AreApart o c.push_reserved.new.self.items) (sym at)
    (subst (AreApart c.args.self.now.orders) (sym more)
    (apart_delivered c.args.self.now.orders c.args.self.now.deeds p apart))

pub returns-clause-goes : goal.returns-clause-goes
returns-clause-goes g c =
    let p : Delivery = record {
      place = c.args.place;
      ops = c.into_ops.result;
      verdict = c.in_ok-receipt.receipt.verdict;
      answer = c.in_ok-receipt.receipt.answer;
      before = length c.list.result.now;
      after = length c.list-2.result.now;
    } in
    let was : ◌≡◌ {A = List Deed} c.self-2.inside.deeds.items c.args.self.now.deeds = ap
    (λ (r : RegistrarOver g.row.K.Denot). r.deeds) c.self-2.view_is ∙ c.take.ensures.deeds in
    let more = c.push_reserved.ensures.items ∙ ap (λ (deeds : List Deed). deeds ++ Delivered p ∷ [])
    was in
    let i = c.self-2.inside in
    let before = ap length (c.list.ensures ∙ ap (λ (r : RegistrarOver g.row.K.Denot). r.press.list)
    c.self.view_is) in
    let after = ap length c.list-2.ensures in
    delivered_goes g.K.Keeper.custody c.law_registrar.ensures.more c.args.self.now
    (seen i.node i.press i.due i.orders.items i.deeds.items (vec_capacity i.deeds) i.failed i.is_stopped)
    (ops_of c.args.parcel.packet) c.in_ok-receipt.receipt p
    c.push_reserved.new.self.items (vec_capacity c.push_reserved.new.self) more
    (λ j. record {
      place = c.args.place;
      ops = c.into_ops.ensures j;
      verdict = c.in_ok-receipt.receipt.verdict;
      answer = c.in_ok-receipt.receipt.answer;
      before = before j;
      after = after j;
    })
    (rw (← c.self-2.view_is) at c.in_ok-receipt.ensures.takes)

pub returns-clause-rises : goal.returns-clause-rises
returns-clause-rises g c =
    let p : Delivery = record {
      place = c.args.place;
      ops = c.into_ops.result;
      verdict = c.in_ok-receipt.receipt.verdict;
      answer = c.in_ok-receipt.receipt.answer;
      before = length c.list.result.now;
      after = length c.list-2.result.now;
    } in
    let was : ◌≡◌ {A = List Deed} c.self-2.inside.deeds.items c.args.self.now.deeds = ap
    (λ (r : RegistrarOver g.row.K.Denot). r.deeds) c.self-2.view_is ∙ c.take.ensures.deeds in
    delivered_rises c.args.self.now.deeds c.push_reserved.new.self.items p
    (c.push_reserved.ensures.items ∙ ap (λ (deeds : List Deed). deeds ++ Delivered p ∷ []) was)
