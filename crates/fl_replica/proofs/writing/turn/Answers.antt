use Rattle.std.proofs.Common.{◌≡◌, ◌∙◌, ap, sym, subst}
use Rattle.fl_replica.specs.parts.Shown.{shown_by, IsWhole}
use Rattle.fl_replica.specs.declared.published.Shown.{Shown}
use Rattle.fl_replica.proofs.Turning.{turns}
use Rattle.fl_replica.proofs.writing.turn.Goals as goal

pub publish_as-requires : goal.publish_as-requires
publish_as-requires g c next is =
    let last = c.requires.0 in
    let awaits = c.requires.1 in
    let shown : shown_by next ≡ last = is ∙ awaits.0 in
    turns _ _ c.args.writer.desk.shown.value next (subst (λ (s : Shown). IsWhole s) (sym shown) awaits.2) (ap (λ (s : Shown). s.known.book) shown ∙ sym awaits.3)
