-- The windows of a set, and what it has that a window lacks, by its list.
use Rattle.std.proofs.Common.{◌≡◌, List, sym, ap, subst, ◌∙◌, Result, Ok, Err, IfOk}
use Rattle.std.specs.List.{filter}
use Rattle.std.specs.List.Sorted.{IsStrictlySortedBy}
use Rattle.fl_labels.specs.SetBy.{SetBy, of_list, members, members-of_list}
use Rattle.fl_ops.specs.declared.op.Op.{Op}
use Rattle.fl_ops.specs.OpLaws.{op_total, op_exact}
use Rattle.fl_ops.specs.OpOrder.{op_cmp}
use Rattle.fl_opset.specs.declared.span.Span.{Span}
use Rattle.fl_opset.specs.declared.intervals.Intervals.{Intervals}
use Rattle.fl_opset.specs.Windows.{AreSpans, AreWindows, IsCutInto, is_lacking, lacking}

-- xs are the items of s, and ys what was read of them
module _ (xs ys : List Op) (s : SetBy op_cmp) (view : of_list xs ≡ s) (same : ys ≡ xs) where
  pub lacking_found : IsStrictlySortedBy op_cmp xs → (w : Intervals) → filter (is_lacking w) ys ≡ lacking s w
  lacking_found up w = ap (filter (is_lacking w)) (same ∙ sym (members-of_list op_total op_exact xs up) ∙ ap members view)

-- the windows of the spans are those of the registry
pub windows_found : (U : Op → Type 0) (ss zs : List Span) (ws : List Intervals) → AreSpans U ss → zs ≡ ss → IsCutInto zs ws → AreWindows U ws
windows_found U ss zs ws a e c = record { spans = subst (AreSpans U) (sym (c.spans ∙ e)) a; cut = c.cut }

pub if_ok_then : {T E : Type 0} (P Q : T → Type 0) → ((x : T) → P x → Q x) → (r : Result T E) → IfOk r P → IfOk r Q
if_ok_then P Q f (Ok x) h = f x h
if_ok_then P Q f (Err e) h = tt
