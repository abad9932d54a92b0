use Rattle.std.proofs.Common.{rules, ◌≡◌, ◌∙◌, ap, refl, sym, subst, true, false, IfSome}
use Rattle.std.proofs.lemmas.Iterator.{cases_from_all, YieldsList-from_slice}
use Rattle.fl_labels.specs.Cap.{cap_cmp}
use Rattle.fl_labels.specs.SetBy as set
use Rattle.fl_labels.specs.SetBy.{SetBy, contains, members}
use Rattle.fl_bench.proofs.Noted.{all_there, insert_members, union_within}
use Rattle.fl_bench.proofs.owned.Owned.insert_all.Goals as goal

pub returns-then-all-clause-ok : goal.returns-then-all-clause-ok
returns-then-all-clause-ok c =
    let items = members c.args.other.now in
    union_within _ _ (all_there _ c.all.result items c.args.self.now c.args.other.now refl
    (cases_from_all _ _ _ (λ cap. contains c.args.self.now cap ≡ true) (λ cap. contains c.args.self.now cap ≡ false)
    c.all.ensures.ran (YieldsList-from_slice items (search rules)) (λ x q k. search rules) (λ x q k. search rules)) c.if-all.true)

pub invariant_of-self-2 : goal.invariant_of-self-2
invariant_of-self-2 c =
    subst (λ (s : SetBy cap_cmp). IfSome c.with_gains.result (λ past. past ≡ s))
    (ap (λ l. set.insert_all c.self.inside.caps l) c.as_slice.ensures
    ∙ insert_members c.self.inside.caps c.args.other.now
    ∙ sym c.in_ok-insert_all.ensures.ok)
    (c.with_gains.ensures c.self.inside.caps
    (subst (λ past. IfSome past (λ past. past ≡ c.self.inside.caps)) (sym c.take.ensures.value)
    c.self.invariant))
