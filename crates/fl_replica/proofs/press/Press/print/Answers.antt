use Rattle.std.proofs.Common.{◌≡◌, ◌++◌, List, drop, ap, sym, subst, ◌∙◌}
use Rattle.fl_replica.specs.parts.History.{ops_of}
use Rattle.fl_replica.specs.parts.Shown.{shown_by, entry_ops, Awaits}
use Rattle.fl_replica.specs.declared.published.Entry.{Entry}
use Rattle.fl_replica.specs.declared.published.Shown.{Shown}
use Rattle.fl_replica.proofs.Awaiting.{all_handed, fold_list, ok_weaker}
use Rattle.fl_replica.proofs.press.Press.print.Goals as goal

pub turn_in-requires : goal.turn_in-requires
turn_in-requires g c =
    let before = c.self.inside in
    let handed = c.hand_over.new in
    let entries = all_handed _ _ _ c.hand_over.ensures.staged (c.hand_over.ensures.done c.if-not-hand_over.false) in
    let last : Shown = record { list = ops_of before.history.known.log; known = before.history.known } in (
      last,
      subst (λ d. Awaits (shown_by d.shown.value) (drop handed.writer.behind handed.writer.log.items) last) (sym c.hand_over.ensures.desk)
          (subst (λ (es : List Entry). Awaits (shown_by before.writer.desk.shown.value) es last) (sym entries) c.self.invariant.1),
    )

pub returns-clause-list : goal.returns-clause-list
returns-clause-list g c =
    let before = c.self.inside in
    let handed = c.hand_over.new in
    let entries = all_handed _ _ _ c.hand_over.ensures.staged (c.hand_over.ensures.done c.if-not-hand_over.false) in
    let list : handed.writer.desk.shown.value.log.items ≡ c.args.self.now.list = ap (λ d. d.shown.value.log.items) c.hand_over.ensures.desk ∙ ap (λ p. p.list) c.self.view_is in
    let staged : entry_ops (drop handed.writer.behind handed.writer.log.items) ≡ c.args.self.now.staged = ap entry_ops entries ∙ ap (λ p. p.staged) c.self.view_is in
    ok_weaker c.turn_in.result
    (λ h. ap (λ s. s.list) h ∙ (fold_list (shown_by handed.writer.desk.shown.value) (drop handed.writer.behind handed.writer.log.items) ∙ (ap (λ l. l ++ entry_ops (drop handed.writer.behind handed.writer.log.items)) list ∙ ap (λ l. c.args.self.now.list ++ l) staged)))
    c.turn_in.ensures.shown
