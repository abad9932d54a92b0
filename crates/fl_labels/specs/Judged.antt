-- What a judge was asked, and answered.
use Rattle.std.specs.Prelude.{◌≡◌}
use Rattle.std.specs.Fn.{Once}
use denote.Ref.{Bor, MutBor}
use Rattle.std.specs.declared.result.Result.{Result}
use Rattle.fl_labels.specs.Cap.{cap_cmp}
use Rattle.fl_labels.specs.SetBy.{SetBy}

-- One call of the judge: with `before` to ask, and shown the set `rest`, it answered `answer` and left `after`.
-- `met` is what the judge promises of just this call.
pub record Judges {J C E : Type 0}
    (g : Once J (MutBor C × (Bor (SetBy cap_cmp) × Unit {0}))
    (Result (Unit {0}) E × (MutBor C × Unit {0})))
    (judge : J) (before : C) (rest : SetBy cap_cmp) (answer : Result (Unit {0}) E) (after : C) : Type 0 where
  pub asked : MutBor C
  pub asks : asked.now ≡ before
  pub shown : Bor (SetBy cap_cmp)
  pub shows : shown.now ≡ rest
  pub left : MutBor C
  pub met : g.post judge (asked, (shown, tt)) (answer, (left, tt))
  pub leaves : left.now ≡ after
