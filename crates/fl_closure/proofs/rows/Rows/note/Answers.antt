use Rattle.std.proofs.Common.{subst, sym, ap, ◌∙◌, ◌++◌, ◌∷◌, []}
use Rattle.fl_closure.specs.declared.rows.Note.{Note}
use Rattle.fl_closure.specs.parts.Noted.{Gains}
use Rattle.fl_closure.proofs.Noting.{gains_note, gains_nothing, gains_same}
use Rattle.fl_closure.proofs.rows.Rows.note.Goals as goal

pub returns-in_err-bits-clause-news : goal.returns-in_err-bits-clause-news
returns-in_err-bits-clause-news c = λ first g.
    subst (λ l. Gains first l c.add.new.self) (sym c.try_reserve.ensures.items) (gains_same first _ _ _ g c.in_err-bits.ensures.err)

pub returns-in_ok-push-clause-news : goal.returns-in_ok-push-clause-news
returns-in_ok-push-clause-news c = λ first g.
    let this : Note = record { owner = c.args.owner; block = record { place = c.args.block.place; bits = c.in_ok-bits.bits } } in
    subst (λ l. Gains first l c.add.new.self) (sym (c.in_ok-push.ensures.items ∙ ap (λ l. l ++ this ∷ []) c.try_reserve.ensures.items))
    (gains_note _ _ c.args.owner c.args.block _ c.in_ok-bits.ensures.ok c.in_ok-bits.ensures.new first _ g)

pub returns-else-bits-ne0-clause-news : goal.returns-else-bits-ne0-clause-news
returns-else-bits-ne0-clause-news c = λ first g.
    subst (λ l. Gains first l c.add.new.self) (sym c.try_reserve.ensures.items)
    (gains_nothing _ _ c.args.owner c.args.block _ c.in_ok-bits.ensures.ok c.in_ok-bits.ensures.new first _ g c.if-bits-ne0.false)
