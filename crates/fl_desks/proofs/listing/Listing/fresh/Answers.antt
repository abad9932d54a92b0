use Rattle.std.proofs.Common.{◌≤◌, ◌<◌, ◌∙◌, subst}
use Rattle.fl_desks.proofs.Views.{desk_within}
use Rattle.fl_desks.proofs.Whole.{is_behind, on_err, sees_all}
use Rattle.fl_desks.proofs.listing.Listing.fresh.Goals as goal

pub returns-then-seen-len-clause-ok : goal.returns-then-seen-len-clause-ok
returns-then-seen-len-clause-ok c =
    let desks = c.self.inside.desks.items in
    let less = desk_within desks c.args.desk c.requires.0 (rw (← c.self.view_is) at c.requires.1) in
    let enough = subst (λ n. n ≤ c.seen.result) (c.len.ensures ∙ c.self.inside.list.ok.0) c.if-seen-len.true in
    rw (← c.self.view_is) (sees_all c.self.inside.list.items desks c.args.desk c.index-it.result.now c.requires.0 less c.index-it.ensures c.self.invariant c.seen.result c.seen.ensures enough)

pub returns-in_err-new-clause-err : goal.returns-in_err-new-clause-err
returns-in_err-new-clause-err c =
    let desks = c.self.inside.desks.items in
    let less = desk_within desks c.args.desk c.requires.0 (rw (← c.self.view_is) at c.requires.1) in
    let fewer = subst (λ n. c.seen.result < n) (c.len.ensures ∙ c.self.inside.list.ok.0) c.if-seen-len.false in
    on_err c.from_residual.result (rw (← c.self.view_is) (is_behind c.self.inside.list.items desks c.args.desk c.index-it.result.now c.requires.0 less c.index-it.ensures c.self.invariant c.seen.result c.seen.ensures fewer))
