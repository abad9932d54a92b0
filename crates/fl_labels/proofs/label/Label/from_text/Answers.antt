use Rattle.std.proofs.Common.{IsErrOf, ◌≡◌, [], ◌∷◌, ◌++◌, refl, ap, ◌∙◌, arith, rules}
use Rattle.std.specs.List.Sorted.{IsStrictlySortedBy}
use Rattle.fl_labels.specs.Name.{name_cmp}
use Rattle.fl_labels.specs.NameOrder.{name_total, name_exact}
use Rattle.fl_labels.specs.SetBy.{len, len-empty}
use Rattle.fl_labels.specs.laws.SortedVec.{short_listed}
use Rattle.fl_labels.specs.declared.error.SetError.TheVariants.{Memory}
use Rattle.fl_labels.proofs.Cut.{plain_within}
use Rattle.fl_labels.proofs.label.Label.from_text.Goals as goal

pub returns-then-is_empty-clause-short : goal.returns-then-is_empty-clause-short
returns-then-is_empty-clause-short c = omega (arith, ap len c.new.ensures, len-empty name_cmp)

pub invariant_of-result : goal.invariant_of-result
unfolding IsStrictlySortedBy
invariant_of-result c = record { rises = (tt, tt); fits = omega arith }

pub returns-in-Some-clause-ok : goal.returns-in-Some-clause-ok
returns-in-Some-clause-ok c =
    let braced : c.args.text.now ≡ 123 ∷ (c.in_ok-inner.inner.now ++ 125 ∷ []) = search rules in
    record { items = c.in-Some.tag ∷ []; spelled = braced ∙ ap (λ word. 123 ∷ (word ++ 125 ∷ [])) c.in-Some.ensures; same = refl }

pub returns-in-Some-clause-short : goal.returns-in-Some-clause-short
unfolding IsStrictlySortedBy
returns-in-Some-clause-short c = short_listed name_total name_exact 256 (c.in-Some.tag ∷ []) _ (tt, tt) refl (omega arith)

pub returns-clause-too_long : goal.returns-clause-too_long
returns-clause-too_long c =
    let braced : c.args.text.now ≡ 123 ∷ (c.in_ok-inner.inner.now ++ 125 ∷ []) = search rules in
    let spelled = braced ∙ ap (λ word. 123 ∷ (word ++ 125 ∷ [])) c.in_ok-read_parts.ensures.ok in
    λ e. (_, record { items = c.in_ok-read_parts.field-0.items; spelled = spelled; same = refl }, c.from_vec.ensures.too_long e)

pub returns-in_err-read_parts-clause-memory : goal.returns-in_err-read_parts-clause-memory
returns-in_err-read_parts-clause-memory c = λ starves plain.
    let braced : c.args.text.now ≡ 123 ∷ (c.in_ok-inner.inner.now ++ 125 ∷ []) = search rules in
    let starved : IsErrOf c.read_parts.result Memory = grind arith in
    let one = c.read_parts.ensures.one starved (plain_within _ 123 125 _ braced plain) in
    c.in_default.ensures one.0 one.1
