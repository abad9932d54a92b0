use Rattle.std.proofs.Common.{[], ◌∷◌, ◌++◌, Ok, Err, refl, sym, subst, ◌∙◌}
use Rattle.std.proofs.lemmas.Result.{err_from_is_err_and}
use Rattle.fl_mailbox.specs.Pushes.{Pushes}
use Rattle.fl_mailbox.proofs.inbox.Inbox.push_with.Goals as goal

pub returns-in_err-reserve : goal.returns-in_err-reserve
returns-in_err-reserve g c =
    let Left = Pushes g.F.FnOnce c.args.receive c.args.letter c.args.self.now c.args.owner.now in
    let same = c.in_err-reserve.ensures.items ∙ c.self.view_is in
    let error = err_from_is_err_and c.from_residual.result c.from_residual.ensures.1 in
    subst (λ r. Left r c.reserve.new.self.items c.args.owner.now) (sym error.1)
    (subst (λ w. Left (Err error.0) w c.args.owner.now) (sym same) Pushes.no_room)

pub returns-in_err-letter : goal.returns-in_err-letter
returns-in_err-letter g c =
    let Left = Pushes g.F.FnOnce c.args.receive c.args.letter c.args.self.now c.args.owner.now in
    let same = c.in_ok-reserve.ensures.items ∙ c.self.view_is in
    let error = err_from_is_err_and c.from_residual-in_err-letter.result c.from_residual-in_err-letter.ensures.1 in
    subst (λ r. Left r c.reserve.new.self.items c.args.owner.now) (sym error.1)
    (subst (λ w. Left (Err error.0) w c.args.owner.now) (sym same) Pushes.no_room)

pub returns-in_err-receive : goal.returns-in_err-receive
returns-in_err-receive g c =
    let Left = Pushes g.F.FnOnce c.args.receive c.args.letter c.args.self.now c.args.owner.now in
    let same = c.in_ok-reserve.ensures.items ∙ c.self.view_is in
    let error = err_from_is_err_and c.from_residual-in_err-receive.result c.from_residual-in_err-receive.ensures.1 in
    subst (λ r. Left r c.reserve.new.self.items c.receive.new.arg2) (sym error.1)
    (subst (λ w. Left (Err error.0) w c.receive.new.arg2) (sym same)
    (Pushes.refused (record { owner = _; owns = refl; shown = _; shows = c.deref.ensures ∙ c.in_ok-letter.ensures; left = _; met = c.in_err-receive.ensures; leaves = refl })))

pub returns : goal.returns
returns g c =
    let Left = Pushes g.F.FnOnce c.args.receive c.args.letter c.args.self.now c.args.owner.now in
    let same = c.in_ok-reserve.ensures.items ∙ c.self.view_is in
    subst (λ w. Left (Ok tt) w c.receive.new.arg2) (sym (c.in-Ok.ensures.items ∙ (λ i. same i ++ c.in_ok-letter.ensures i ∷ [])))
    (Pushes.pushed (record { owner = _; owns = refl; shown = _; shows = c.deref.ensures ∙ c.in_ok-letter.ensures; left = _; met = c.in_ok-receive.ensures; leaves = refl }))
