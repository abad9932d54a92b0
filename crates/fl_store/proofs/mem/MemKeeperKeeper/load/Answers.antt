use Rattle.std.proofs.Common.{◌≡◌, ◌∙◌, refl, sym, ap, subst, rules}
use Rattle.fl_labels.specs.SetBy as set
use Rattle.fl_ops.specs.OpLaws.{op_total, op_exact}
use Rattle.fl_store.specs.Kept.{HasNamesOnce}
use Rattle.fl_store.specs.MemKeeping.{MemKept}
use Rattle.fl_store.specs.laws.KeptSets.{union-nothing, once-empty}
use Rattle.fl_store.proofs.MemLemmas.{none_saved}
use Rattle.fl_store.proofs.mem.MemKeeperKeeper.load.Goals as goal

pub returns-clause-names : goal.returns-clause-names
returns-clause-names c =
    let loaded : c.merge.new.self ≡ c.self.inside.saved = c.in-Ok.ensures.ok ∙ ap (λ s. set.union s c.self.inside.saved) c.new-saved.ensures ∙ union-nothing op_total op_exact _ in
    subst HasNamesOnce (sym loaded) c.self.invariant

pub returns-clause-held : goal.returns-clause-held
returns-clause-held c _ =
    let loaded : c.merge.new.self ≡ c.self.inside.saved = c.in-Ok.ensures.ok ∙ ap (λ s. set.union s c.self.inside.saved) c.new-saved.ensures ∙ union-nothing op_total op_exact _ in
    (tt, λ after is. (_, refl, (is, loaded ∙ ap (λ (k : MemKept). k.kept.saved) c.self.view_is)))

pub returns-then-is_empty-clause-names : goal.returns-then-is_empty-clause-names
returns-then-is_empty-clause-names c = subst HasNamesOnce (sym c.new-saved.ensures) once-empty

pub returns-then-is_empty-clause-held : goal.returns-then-is_empty-clause-held
returns-then-is_empty-clause-held c _ =
    let none : set.len c.self.inside.saved ≡ 0 = c.is_empty.ensures.0 (search rules) in
    let loaded : c.new-saved.result ≡ c.self.inside.saved =
    c.new-saved.ensures ∙ sym (none_saved c.self.inside.saved none) in
    (tt, λ after is. (_, refl, (is, loaded ∙ ap (λ (k : MemKept). k.kept.saved) c.self.view_is)))
