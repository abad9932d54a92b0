use Rattle.std.proofs.Common.{◌≡◌, ◌∙◌, sym, subst, IfSome, IfOk}
use Rattle.fl_labels.specs.Cap.{cap_cmp}
use Rattle.fl_labels.specs.SetBy.{SetBy}
use Rattle.fl_bench.proofs.Noted.{of_slice}
use Rattle.fl_bench.proofs.owned.Owned.share.Goals as goal

pub share-requires : goal.share-requires
share-requires c =
    subst (λ (s : SetBy cap_cmp). IfSome c.self.inside.past (λ past. past ≡ s))
    (sym (of_slice _ _ c.as_slice.ensures)) c.self.invariant

pub invariant_of-self : goal.invariant_of-self
invariant_of-self c =
    subst (λ (s : SetBy cap_cmp). IfSome c.share.new.past (λ past. past ≡ s))
    (of_slice _ _ c.as_slice.ensures) c.share.ensures.kept

pub returns-clause-shared : goal.returns-clause-shared
returns-clause-shared c =
    subst (λ (s : SetBy cap_cmp). IfOk c.share.result (λ made. made ≡ record { labels = c.args.labels.now; owned = s }))
    (of_slice _ _ c.as_slice.ensures ∙ c.self.view_is) c.share.ensures.shared
