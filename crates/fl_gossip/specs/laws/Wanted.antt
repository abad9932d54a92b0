-- As many as a set has are all that a window lacks of it.
use Rattle.std.proofs.Common.{◌≡◌, ◌≤◌, ℕ, not, length, take, refl, arith}
use Rattle.std.proofs.lemmas.List.{take_all}
use Rattle.std.proofs.lemmas.List.Filters.{length-filter_both}
use Rattle.fl_labels.specs.SetBy.{SetBy, members, len, len-members}
use Rattle.fl_ops.specs.OpOrder.{op_cmp}
use Rattle.fl_opset.specs.declared.intervals.Intervals.{Intervals}
use Rattle.fl_opset.specs.Windows.{is_lacking, lacking}

module _ (s : SetBy op_cmp) (w : Intervals) where
  pub lacking_few : length (lacking s w) ≤ len s
  lacking_few = omega (arith, length-filter_both (is_lacking w) (λ op. not (is_lacking w op)) (λ op. refl) (members s), len-members s)

  pub all_wanted : (n : ℕ) → n ≡ len s → take n (lacking s w) ≡ lacking s w
  all_wanted n is = take_all n (lacking s w) (omega (arith, is, lacking_few))
