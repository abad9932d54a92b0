use Rattle.std.proofs.Common.{◌∙◌, nat_eq}
use Rattle.std.specs.Cmp.Lexicographic.{pointwise}
use Rattle.fl_aliases.proofs.Padding.{same_test}
use Rattle.fl_aliases.proofs.alias.AliasPartialEq.eq.Goals as goal

pub returns : goal.returns
returns c =
    let a = c.self.invariant in
    let b = c.other.invariant in
    c.eq.ensures ∙ (λ i. pointwise nat_eq (a.0 i) (b.0 i)) ∙ same_test _ _ a.2 b.2
    ∙ (λ i. pointwise nat_eq (c.self.view_is i) (c.other.view_is i))
