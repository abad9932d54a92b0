use Rattle.std.proofs.Common.{◌∷◌, rules}
use Rattle.std.specs.Fmt.{HasWritten}
use Rattle.std.proofs.Output.{has_written_append, has_written_of_eq}
use Rattle.fl_labels.specs.Text.{name_text}
use Rattle.fl_labels.specs.NameOrder.{name_total, name_exact}
use Rattle.fl_labels.proofs.Written.{set_text_none, set_text_some}
use Rattle.fl_labels.proofs.label.LabelDisplay.fmt.Goals as goal

pub returns-in-None-clause-writes : goal.returns-in-None-clause-writes
returns-in-None-clause-writes g c = λ plain ok.
    has_written_of_eq _ _ _ _ _ (set_text_none name_text name_total name_exact _ _ c.self.invariant.rises c.self.view_is _ c.as_slice.ensures c.in-None.ensures.cases) (search rules)

pub returns-after-loop-tag-clause-writes : goal.returns-after-loop-tag-clause-writes
returns-after-loop-tag-clause-writes g c = λ plain ok.
    let started : HasWritten g.W.Write.write_str_gives c.args.f.now (123 ∷ name_text c.in-Some.first.now) c.write.new.self = search rules in
    let went_on = c.loop-tag.invariant started.plain in
    let ended = c.write_str-in-Some.ensures.writes went_on.plain ok in
    has_written_of_eq _ _ _ _ _
    (set_text_some name_text name_total name_exact _ _ c.self.invariant.rises c.self.view_is _ c.as_slice.ensures c.in-Some.first.now c.in-Some.rest.now c.loop-tag.tag-index c.in-Some.ensures.cases.0 c.loop-tag-test.false)
    (has_written_append _ _ _ _ _ _ (has_written_append _ _ _ _ _ _ started went_on) ended)
