use Rattle.std.proofs.Common.{rules, ◌≡◌, ◌∙◌, ap, sym, IfSome, []}
use Rattle.std.proofs.lemmas.List.Elements.{All-pop}
use Rattle.fl_replica_tests.proofs.desks.desk_lags_or_learns.Goals as goal

pub learn-requires : goal.learn-requires
learn-requires g c =
    let told : c.expect-told.result.board ≡ c.in_ok-press.press.board = search rules in
    let popped : IfSome c.pop.result (λ d. d ≡ record { board = c.in_ok-press.press.board; list = [] }) =
    (All-pop (λ d. d ≡ record { board = c.in_ok-press.press.board; list = [] }) c.in_ok-press.desks.items c.pop.new.self.items c.pop.result c.pop.ensures.items c.in_ok-press.ensures.desks).1 in
    let desk : c.expect-first.result.board ≡ c.in_ok-press.press.board = ap (λ f. f.board) (rw c.expect-first.ensures at popped) in
    told ∙ sym desk
