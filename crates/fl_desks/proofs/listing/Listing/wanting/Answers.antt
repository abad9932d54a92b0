use Rattle.std.proofs.Common.{◌∙◌, IfOk, ap, inr, length, subst, sym}
use Rattle.std.proofs.lemmas.Result.{on_err_weaker}
use Rattle.fl_labels.specs.declared.cap.Cap.{Cap}
use Rattle.fl_ops.specs.Registry.{Listed}
use Rattle.fl_monitor.specs.Wanting.{AreAll, Lacks}
use Rattle.fl_desks.specs.Listing.{HasSeen, ListingState}
use Rattle.fl_desks.proofs.Views.{desk_within}
use Rattle.fl_desks.proofs.Whole.{whole}
use Rattle.fl_desks.proofs.listing.Listing.wanting.Goals as goal

pub returns-in-Some-clause-err : goal.returns-in-Some-clause-err
returns-in-Some-clause-err c =
    let all = rw c.in-Some.is at c.in_ok-whole.ensures.ok in
    on_err_weaker c.wanting.result (λ h. inr (subst (λ l. (k : Cap) × Lacks c.args.guards (Listed l) c.args.bench.now c.args.job.now k) all h)) c.wanting.ensures.err

pub returns-in-None-clause-ok : goal.returns-in-None-clause-ok
returns-in-None-clause-ok c =
    let desks = c.self.inside.desks.items in
    let less = desk_within desks c.args.desk c.requires.0 (rw (← c.self.view_is) at c.requires.1) in
    let seen = subst (λ (l : ListingState). HasSeen l c.args.desk (length l.published)) (sym c.self.view_is) (rw c.in-None.is at c.in_ok-whole.ensures.ok) in
    let all = whole c.self.inside.list.items desks c.args.desk c.index_mut-it.result.now c.requires.0 less c.index_mut-it.ensures.value c.self.invariant seen ∙ ap (λ (l : ListingState). l.published) c.self.view_is in
    subst (λ l. IfOk c.wanting-in-None.result (AreAll (Lacks c.args.guards (Listed l) c.args.bench.now c.args.job.now))) all c.wanting-in-None.ensures.ok

pub returns-in-None-clause-err : goal.returns-in-None-clause-err
returns-in-None-clause-err c =
    let desks = c.self.inside.desks.items in
    let less = desk_within desks c.args.desk c.requires.0 (rw (← c.self.view_is) at c.requires.1) in
    let seen = subst (λ (l : ListingState). HasSeen l c.args.desk (length l.published)) (sym c.self.view_is) (rw c.in-None.is at c.in_ok-whole.ensures.ok) in
    let all = whole c.self.inside.list.items desks c.args.desk c.index_mut-it.result.now c.requires.0 less c.index_mut-it.ensures.value c.self.invariant seen ∙ ap (λ (l : ListingState). l.published) c.self.view_is in
    on_err_weaker c.wanting-in-None.result (λ h. inr (subst (λ l. (k : Cap) × Lacks c.args.guards (Listed l) c.args.bench.now c.args.job.now k) all h)) c.wanting-in-None.ensures.err
