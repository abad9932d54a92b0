use Rattle.std.proofs.Common.{◌≡◌, ◌∙◌, sym, ap, subst, IfOk, IfSome}
use Rattle.fl_bench.specs.parts.Changes.{after}
use Rattle.fl_bench.specs.declared.standing.Standing.{Standing}
use Rattle.fl_bench.proofs.Noted.{same_labels}
use Rattle.fl_bench.proofs.past.Past.share.Goals as goal

pub returns-then-eq-clause-shared : goal.returns-then-eq-clause-shared
returns-then-eq-clause-shared c =
    let set = after c.self.inside.shared c.self.inside.fresh.items in
    let noted = c.in-Some.standing in
    let labels : noted.labels ≡ c.args.labels.now =
    ap (λ (s : Standing). s.labels) (sym c.deref.ensures) ∙ same_labels _ _ (sym c.eq.ensures ∙ c.if-eq.true) in
    let owned : noted.owned ≡ c.args.self.now =
    subst (λ o. IfSome o (λ noted. noted.owned ≡ set)) c.in-Some.is c.self.invariant ∙ c.self.view_is in
    subst (λ (s : Standing). IfOk c.copy.result (λ made. made ≡ s)) (λ i. record { labels = labels i; owned = owned i })
    c.copy.ensures
