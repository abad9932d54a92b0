use Rattle.std.proofs.Common.{◌∙◌, ap}
use Rattle.std.specs.Ordering.{nat_cmp, ord_min}
use Rattle.std.proofs.lemmas.Result.{on_ok_weaker, on_err_weaker}
use Rattle.fl_desks.proofs.Views.{lags, least_is, looked, place_of_desk, desk_within, set_views}
use Rattle.fl_desks.proofs.listing.Listing.look.Goals as goal

pub returns-clause-ok : goal.returns-clause-ok
returns-clause-ok c =
    let len = c.len.ensures ∙ c.self.inside.list.ok.0 in
    let counted = c.min-count.ensures ∙ ap (ord_min nat_cmp c.args.upto) len ∙ least_is c.args.upto _ in
    let less = desk_within c.self.inside.desks.items c.args.desk c.requires.0 (rw (← c.self.view_is) at c.requires.1) in
    rw (← c.self.view_is) (on_ok_weaker c.rise.result (λ risen seen at. looked c.self.inside.list.items c.self.inside.desks.items _ c.args.desk
    c.index_mut-it.result.now c.rise.new.self seen c.args.upto c.min-count.result
    (place_of_desk c.args.desk c.requires.0) less c.index_mut-it.ensures.value at risen counted) c.rise.ensures.seen)

pub returns-clause-wants : goal.returns-clause-wants
returns-clause-wants c =
    let len = c.len.ensures ∙ c.self.inside.list.ok.0 in
    let counted = c.min-count.ensures ∙ ap (ord_min nat_cmp c.args.upto) len ∙ least_is c.args.upto _ in
    let less = desk_within c.self.inside.desks.items c.args.desk c.requires.0 (rw (← c.self.view_is) at c.requires.1) in
    rw (← c.self.view_is) (on_err_weaker c.rise.result (λ more seen at. lags c.self.inside.desks.items _ c.args.desk
    c.index_mut-it.result.now seen c.min-count.result _ c.args.upto
    (place_of_desk c.args.desk c.requires.0) less c.index_mut-it.ensures.value at more counted) c.rise.ensures.wants)

pub returns-clause-desks : goal.returns-clause-desks
returns-clause-desks c = rw (← c.self.view_is) (set_views c.self.inside.desks.items _ c.rise.new.self)
