-- What is written of a registry.
use Rattle.std.proofs.Common.{◌≡◌, ℕ, List, [], ◌++◌, sym, ap, ◌∙◌, Option, Result, Ok, Err, IsErr, append_assoc, subst}
use Rattle.std.specs.List.{flat_map, filter}
use Rattle.std.specs.List.Sorted.{IsStrictlySortedBy}
use Rattle.std.specs.Io.KnownBytes.{Appends}
use Rattle.std.proofs.KnownBytes.{Appends-trans}
use Rattle.fl_labels.specs.SetBy.{SetBy, of_list, members, members-of_list}
use Rattle.fl_ops.specs.declared.op.Op.{Op}
use Rattle.fl_ops.specs.OpOrder.{op_cmp}
use Rattle.fl_ops.specs.OpLaws.{op_total, op_exact}
use Rattle.fl_sink.specs.Sink.{Passes, Cuts, Writes}
use Rattle.fl_opset.specs.RegistryText.{op_line, registry_text}
use Rattle.fl_opset.specs.Without.{without, is_outside}
use Rattle.fl_opset.specs.laws.Withouts.{members-without}

-- the text of a set is that of its operations as they are kept
pub listed_text : (xs ys : List Op) (s : SetBy op_cmp) → IsStrictlySortedBy op_cmp xs → of_list xs ≡ s → ys ≡ xs → flat_map op_line ys ≡ registry_text s
listed_text xs ys s up view same = ap (flat_map op_line) (same ∙ sym (members-of_list op_total op_exact xs up) ∙ ap members view)

-- so is that of a set without some operations
pub left_text : (xs ys those : List Op) (s : SetBy op_cmp) → IsStrictlySortedBy op_cmp xs → of_list xs ≡ s → ys ≡ xs
    → flat_map op_line (filter (is_outside those) ys) ≡ registry_text (without s those)
left_text xs ys those s up view same =
    ap (λ zs. flat_map op_line (filter (is_outside those) zs)) (same ∙ sym (members-of_list op_total op_exact xs up) ∙ ap members view)
    ∙ ap (flat_map op_line) (sym (members-without s those))

-- the text passed, and then what waited is written
pub finished : {T E : Type 0} {r : Result T E} {a b c : Option (List ℕ)} {before text rest : List ℕ} → before ≡ []
    → Passes a b before text rest → Writes b c rest r → Writes a c text r
finished {r = Ok x} {a} {b} {c} {text = text} {rest = rest} none p q = record {
  is = subst (λ (l : List ℕ). Appends a c l) (sym p.split ∙ ap (λ l. l ++ text) none) (Appends-trans a b c p.front rest p.written q.is);
}
finished {r = Err e} {a} {b} {c} {text = text} none p q = record {
  is = record {
    front = p.front ++ q.is.front;
    rest = q.is.rest;
    split = ap (λ l. l ++ text) (sym none) ∙ p.split ∙ ap (λ l. p.front ++ l) q.is.split ∙ sym (append_assoc p.front q.is.front q.is.rest);
    written = Appends-trans a b c p.front q.is.front p.written q.is.written;
  };
}

-- the text was cut, and nothing waited before it
pub stopped : {T E : Type 0} {r : Result T E} {a b : Option (List ℕ)} {before text : List ℕ} → before ≡ [] → Cuts a b before text → IsErr r → Writes a b text r
stopped {r = Ok x} none p err = cc
stopped {r = Err e} {a} {b} {text = text} none p err = record { is = subst (λ (l : List ℕ). Cuts a b l text) none p }
