use Rattle.std.proofs.Common.{◌∙◌, ap, sym, refl, fold}
use Rattle.fl_replica.specs.parts.History.{ops_of}
use Rattle.fl_replica.specs.parts.Shown.{shown_by, with_entry, IsWhole}
use Rattle.fl_replica.specs.declared.published.Published.{Published}
use Rattle.fl_replica.proofs.Turning.{keeps_first}
use Rattle.fl_replica.proofs.making.first_writer.Goals as goal

pub new-requires-clause-rule : goal.new-requires-clause-rule
new-requires-clause-rule g c =
    let same = c.in_ok-first.ensures in
    keeps_first c.in_ok-first.first (rw (same.1, same.0) c.requires.whole)

pub turn-writer-requires : goal.turn-writer-requires
turn-writer-requires g c =
    let is = c.in_ok-writer.ensures.0 in
    let same = c.in_ok-first.ensures in
    let shown = shown_by c.in_ok-writer.writer.desk.shown.value in
    let whole : IsWhole shown = ap (λ (p : Published). ops_of p.known.log) is ∙ (ap (λ k. ops_of k.log) same.1 ∙ (c.requires.whole ∙ (sym same.0 ∙ sym (ap (λ (p : Published). p.log.items) is)))) in
    (shown, (ap (λ es. fold with_entry shown es) c.in_ok-writer.ensures.1, whole, whole, refl))
