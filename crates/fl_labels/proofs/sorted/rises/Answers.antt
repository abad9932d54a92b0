use Rattle.std.proofs.Common.{rules}
use Rattle.std.specs.Ordering.{is_lt}
use Rattle.std.proofs.lemmas.List.Sorted.{answers_always}
use Rattle.fl_labels.specs.laws.Rising.{rises_answer}
use Rattle.fl_labels.proofs.sorted.rises.Goals as goal

pub returns : goal.returns
returns g c = rises_answer g.met.T.Ord.total c.args.items.now c.is_sorted_by.result (c.is_sorted_by.ensures.cases (λ x y. is_lt (g.T.Ord.cmp x y)) (answers_always _ _ _ (λ f a r f' call. search rules)))
