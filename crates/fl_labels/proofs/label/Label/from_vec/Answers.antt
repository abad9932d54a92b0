use Rattle.std.proofs.Common.{refl, arith}
use Rattle.fl_labels.specs.NameOrder.{name_total, name_exact}
use Rattle.fl_labels.proofs.Arrange.{arranged_set}
use Rattle.fl_labels.specs.laws.SortedVec.{len_listed, short_listed}
use Rattle.fl_labels.proofs.label.Label.from_vec.Goals as goal

pub returns-then-len-gt-MOST_TAGS-clause-too_long : goal.returns-then-len-gt-MOST_TAGS-clause-too_long
returns-then-len-gt-MOST_TAGS-clause-too_long c =
    let count = len_listed name_total name_exact c.arrange.new.items.items _ c.arrange.ensures.rises (arranged_set name_total name_exact _ _ c.arrange.ensures) in
    λ _. omega (arith, count, c.arrange.new.items.ok.0)

pub returns-clause-ok : goal.returns-clause-ok
returns-clause-ok c = arranged_set name_total name_exact _ _ c.arrange.ensures

pub returns-clause-short : goal.returns-clause-short
returns-clause-short c = short_listed name_total name_exact 256 _ _ c.arrange.ensures.rises refl (omega (arith, c.arrange.new.items.ok.0))
