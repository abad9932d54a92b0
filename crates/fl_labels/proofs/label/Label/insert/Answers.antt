use Rattle.std.proofs.Common.{◌≡◌, ◌≤◌, ◌+◌, ℕ, List, refl, sym, ap, ◌∙◌, length, not, Ok, Err, arith}
use Rattle.std.specs.List.{insert}
use Rattle.std.proofs.lemmas.List.Edits.{length-insert}
use Rattle.fl_labels.specs.NameOrder.{name_total, name_exact}
use Rattle.fl_labels.specs.laws.SortedVec.{answers, inserted, kept_insert, len_listed, short_listed}
use Rattle.fl_labels.proofs.label.Label.insert.Goals as goal

longer : {K : Type 0} (xs ys zs : List K) (i : ℕ) (x : K) → ys ≡ xs → i ≤ length ys → zs ≡ insert xs i x → length zs ≡ length xs + 1
longer xs ys zs i x same within new = ap length new ∙ length-insert xs i x (omega (arith, ap length same, within))

pub invariant_of-self-in-Err : goal.invariant_of-self-in-Err
invariant_of-self-in-Err c =
    let new = inserted name_total name_exact _ _ c.self.invariant.rises c.self.view_is _ c.as_slice.ensures c.args.tag _ _ c.in-Err.ensures.bound c.in-Err.ensures.position c.in_ok-insert-in-Err.ensures.ok in
    record { rises = new.rises; fits = omega (arith, c.self.invariant.fits, longer _ _ _ _ _ c.as_slice.ensures c.in-Err.ensures.bound c.in_ok-insert-in-Err.ensures.ok, ap length c.as_slice-in-Err.ensures, c.if-as_slice-eq-MOST_TAGS.false) }

pub returns-in-Ok-clause-ok : goal.returns-in-Ok-clause-ok
returns-in-Ok-clause-ok c =
    kept_insert name_total name_exact _ _ c.self.invariant.rises c.self.view_is _ c.as_slice.ensures c.args.tag _ c.in-Ok.ensures.bound c.in-Ok.ensures.position

pub returns-in-Ok-clause-new : goal.returns-in-Ok-clause-new
returns-in-Ok-clause-new c =
    ap not (sym (answers name_total name_exact _ _ c.self.invariant.rises c.self.view_is _ c.as_slice.ensures c.args.tag (Ok c.in-Ok.field-0) c.in-Ok.ensures.bound c.in-Ok.ensures.position))

pub returns-then-as_slice-eq-MOST_TAGS-clause-too_long : goal.returns-then-as_slice-eq-MOST_TAGS-clause-too_long
returns-then-as_slice-eq-MOST_TAGS-clause-too_long c = λ _. (
  answers name_total name_exact _ _ c.self.invariant.rises c.self.view_is _ c.as_slice.ensures c.args.tag (Err c.in-Err.place) c.in-Err.ensures.bound c.in-Err.ensures.position,
  len_listed name_total name_exact _ _ c.self.invariant.rises c.self.view_is ∙ ap length (sym c.as_slice-in-Err.ensures) ∙ c.if-as_slice-eq-MOST_TAGS.true,
)

pub returns-in_ok-insert-in-Err-clause-ok : goal.returns-in_ok-insert-in-Err-clause-ok
returns-in_ok-insert-in-Err-clause-ok c =
    (inserted name_total name_exact _ _ c.self.invariant.rises c.self.view_is _ c.as_slice.ensures c.args.tag _ _ c.in-Err.ensures.bound c.in-Err.ensures.position c.in_ok-insert-in-Err.ensures.ok).view

pub returns-in_ok-insert-in-Err-clause-new : goal.returns-in_ok-insert-in-Err-clause-new
returns-in_ok-insert-in-Err-clause-new c =
    ap not (sym (answers name_total name_exact _ _ c.self.invariant.rises c.self.view_is _ c.as_slice.ensures c.args.tag (Err c.in-Err.place) c.in-Err.ensures.bound c.in-Err.ensures.position))

pub returns-in-Ok-clause-short : goal.returns-in-Ok-clause-short
returns-in-Ok-clause-short c = short_listed name_total name_exact 256 _ _ c.self.invariant.rises c.self.view_is c.self.invariant.fits

pub returns-in_ok-insert-in-Err-clause-short : goal.returns-in_ok-insert-in-Err-clause-short
returns-in_ok-insert-in-Err-clause-short c =
    let new = inserted name_total name_exact _ _ c.self.invariant.rises c.self.view_is _ c.as_slice.ensures c.args.tag _ _ c.in-Err.ensures.bound c.in-Err.ensures.position c.in_ok-insert-in-Err.ensures.ok in
    short_listed name_total name_exact 256 _ _ new.rises refl (omega (arith, c.self.invariant.fits, longer _ _ _ _ _ c.as_slice.ensures c.in-Err.ensures.bound c.in_ok-insert-in-Err.ensures.ok, ap length c.as_slice-in-Err.ensures, c.if-as_slice-eq-MOST_TAGS.false))

pub returns-in_err-insert-in-Err-clause-memory : goal.returns-in_err-insert-in-Err-clause-memory
returns-in_err-insert-in-Err-clause-memory c = λ _. (
  answers name_total name_exact _ _ c.self.invariant.rises c.self.view_is _ c.as_slice.ensures c.args.tag (Err c.in-Err.place) c.in-Err.ensures.bound c.in-Err.ensures.position,
  let count = len_listed name_total name_exact _ _ c.self.invariant.rises c.self.view_is in
      omega (arith, count, c.self.invariant.fits, ap length c.as_slice-in-Err.ensures, c.if-as_slice-eq-MOST_TAGS.false),
)
