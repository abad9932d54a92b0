-- Operations that are read one after another.
use Rattle.std.proofs.Common.{◌≡◌, ℕ, suc, ◌+◌, ◌*◌, ◌-◌, slice_get, ◌<◌, ◌≤◌, true, false, if◌then◌else◌, List, [], ◌∷◌, ◌++◌, length, drop, slice_index, Option, Some, None, refl, sym, ap, subst, ◌∙◌, arith, leb, append_assoc, append-nil, length-append}
use Rattle.std.specs.List.{flat_map}
use Rattle.std.specs.Option.{option_map}
use Rattle.std.specs.List.Sorted.{IsStrictlySortedBy}
use Rattle.std.proofs.lemmas.Bool.{le-leb}
use Rattle.std.proofs.lemmas.Bool.Decides.{nat_tests}
use Rattle.std.proofs.lemmas.List.{flat_map_more, drop_all}
use Rattle.fl_labels.specs.declared.name.Name.{Name}
use Rattle.fl_labels.specs.Name.{name_cmp}
use Rattle.fl_ops.specs.declared.op.Op.{Op}
use Rattle.std.specs.List.{AllByRecursion}
use Rattle.fl_ops.specs.declared.format.Format.{Format}
use Rattle.fl_ops.specs.Fits.{HasOp}
use Rattle.fl_ops.specs.Bytes.{op_bytes}
use Rattle.fl_ops.specs.Grammar.{first_fault}
use Rattle.fl_wire.specs.declared.fault.ReadFault.{ReadFault}
use Rattle.fl_wire.specs.declared.fault.ReadFault.TheVariants.{BadPacket, Memory}
use Rattle.fl_wire.specs.Faults.{IsBad}
use Rattle.fl_wire.specs.Fields.{tag_key}
use Rattle.fl_wire.specs.parts.Items.{name_key, key_before, is_above}
use Rattle.fl_wire.specs.NameOrder.{by_name, by_name_total}
use Rattle.fl_wire.specs.parts.Ops.{IsNextOp, AreOps, AddsNextOp, last_name}
use Rattle.fl_wire.specs.PacketGrammar.{next_op, op_size, ops_fields}
use Rattle.fl_wire.proofs.Faults.{fault_front, fault_rest}
use Rattle.fl_wire.proofs.Sets.{less_of, rises_more, all_more}

-- after operations without a fault, of which before names the last, so many are left from a place on
pub record OpsWalked (f : Format) (bytes : List ℕ) (at count place left : ℕ) (before : Option Name) : Type 0 where
  pub faults : first_fault (ops_fields f bytes at [] count) ≡ first_fault (ops_fields f bytes place (key_before name_key before) left)
  pub near : place + 51 * left ≤ at + 51 * count

-- the same, where the operations are xs
pub record OpsTo (f : Format) (bytes : List ℕ) (at count place left : ℕ) (xs : List Op) (before : Option Name) : Type 0 where
  pub walked : OpsWalked f bytes at count place left before
  pub spelled : drop at bytes ≡ flat_map (op_bytes f) xs ++ drop place bytes
  pub counted : length xs + left ≡ count
  pub has : AllByRecursion (HasOp f) xs
  pub rises : IsStrictlySortedBy by_name xs
  pub above : (x : Op) → is_above name_cmp before x.name ≡ true → IsStrictlySortedBy by_name (xs ++ x ∷ [])

-- the last of one operation more
pub last_more : (xs : List Op) (x : Op) → last_name (xs ++ x ∷ []) ≡ Some x.name
last_more xs x = ap (λ n. option_map (λ op. op.name) (slice_get (xs ++ x ∷ []) n)) (before (length-append xs (x ∷ []))) ∙ ap (option_map (λ op. op.name)) (at_end xs)
  where
    before : {n k : ℕ} → n ≡ k + 1 → n - 1 ≡ k
    before e = omega (arith, e)

    at_end : (ys : List Op) → slice_get (ys ++ x ∷ []) (length ys) ≡ Some x
    at_end [] = refl
    at_end (y ∷ ys) = at_end ys

module _ {f : Format} {bytes : List ℕ} {at count : ℕ} where
  pub ops_unwalked : (left : ℕ) → left ≡ count → OpsWalked f bytes at count at left None
  ops_unwalked left q = record { faults = ap (λ n. first_fault (ops_fields f bytes at [] n)) (sym q); near = omega (arith, q) }

  pub ops_walk : (place left : ℕ) (before : Option Name) (name : Name) (end less : ℕ) → OpsWalked f bytes at count place left before
      → first_fault (next_op f bytes place (key_before name_key before)) ≡ None → tag_key f bytes (place + 2) ≡ name_key name
      → place + op_size f (slice_index bytes (place + 1)) ≡ end → end ≤ place + 51 → left ≡ suc less → OpsWalked f bytes at count end less (Some name)
  ops_walk place left before name end less w whole keyed ends short q = record {
    faults = w.faults ∙ ap (λ m. first_fault (ops_fields f bytes place (key_before name_key before) m)) q
        ∙ fault_rest (next_op f bytes place (key_before name_key before)) _ whole
        ∙ (λ i. first_fault (ops_fields f bytes (ends i) (keyed i) less));
    near = omega (arith, w.near, short, q);
  }

  pub ops_bad : (place left : ℕ) (before : Option Name) (less : ℕ) (x : ReadFault) → OpsWalked f bytes at count place left before → left ≡ suc less
      → IsBad (next_op f bytes place (key_before name_key before)) x → IsBad (ops_fields f bytes at [] count) x
  ops_bad place left before less (BadPacket p) w q bad =
      w.faults ∙ ap (λ m. first_fault (ops_fields f bytes place (key_before name_key before) m)) q
      ∙ fault_front (next_op f bytes place (key_before name_key before)) _ p bad
  ops_bad place left before less Memory w q bad = absurd bad

  -- after the last one, what follows it is the only fault
  pub ops_past : (place left : ℕ) (before : Option Name) → OpsWalked f bytes at count place left before → left ≡ 0
      → first_fault (ops_fields f bytes at [] count) ≡ first_fault ((place, leb (length bytes) place) ∷ [])
  ops_past place left before w done = w.faults ∙ ap (λ m. first_fault (ops_fields f bytes place (key_before name_key before) m)) done

  ops_none : (left : ℕ) (xs : List Op) → left ≡ count → xs ≡ [] → OpsTo f bytes at count at left xs None
  unfolding IsStrictlySortedBy
  ops_none left xs q none = subst (λ l. OpsTo f bytes at count at left l None) (sym none) (record {
    walked = ops_unwalked left q;
    spelled = refl;
    counted = omega (arith, q);
    has = tt;
    rises = tt;
    above = λ x h. (tt, tt);
  })

  pub ops_start : (left : ℕ) (xs : List Op) → left ≡ count → xs ≡ [] → OpsTo f bytes at count at left xs (last_name xs)
  ops_start left xs q none = subst (OpsTo f bytes at count at left xs) (sym (ap last_name none)) (ops_none left xs q none)

  ops_more : (place left : ℕ) (xs ys : List Op) (before : Option Name) (x : Op) (end less : ℕ) → OpsTo f bytes at count place left xs before → IsNextOp f bytes place before x end
      → left ≡ suc less → ys ≡ xs ++ x ∷ [] → OpsTo f bytes at count end less ys (Some x.name)
  ops_more place left xs ys before x end less r n q new = subst (λ l. OpsTo f bytes at count end less l (Some x.name)) (sym new) (record {
    walked = ops_walk place left before x.name end less r.walked n.whole n.keyed n.ends n.short q;
    spelled = r.spelled ∙ ap (λ l. flat_map (op_bytes f) xs ++ l) n.spelled
        ∙ sym (append_assoc (flat_map (op_bytes f) xs) (op_bytes f x) (drop end bytes)) ∙ ap (λ l. l ++ drop end bytes) (flat_map_more (op_bytes f) [] xs x);
    counted = omega (arith, length-append xs (x ∷ []), r.counted, q);
    has = all_more (HasOp f) xs x r.has n.has;
    rises = r.above x n.above;
    above = λ y h. rises_more by_name_total xs x y (r.above x n.above) (less_of (by_name x y) h);
  })

  pub ops_added : (place left : ℕ) (xs ys : List Op) (end less : ℕ) → OpsTo f bytes at count place left xs (last_name xs) → AddsNextOp f bytes place xs ys end
      → left ≡ suc less → OpsTo f bytes at count end less ys (last_name ys)
  ops_added place left xs ys end less r n q =
      subst (OpsTo f bytes at count end less ys) (sym (ap last_name n.added ∙ last_more xs n.op)) (ops_more place left xs ys (last_name xs) n.op end less r n.next q n.added)

  pub ops_all : (place left : ℕ) (xs : List Op) (before : Option Name) → OpsTo f bytes at count place left xs before → left ≡ 0 → length bytes ≤ place → AreOps f bytes at count xs
  ops_all place left xs before r done end = record {
    whole = ops_past place left before r.walked done ∙ ap (λ b. if b then None else Some place) (le-leb (length bytes) place end);
    has = r.has;
    rises = r.rises;
    counted = omega (arith, r.counted, done);
    spelled = r.spelled ∙ ap (λ l. flat_map (op_bytes f) xs ++ l) (drop_all place bytes end) ∙ append-nil (flat_map (op_bytes f) xs);
  }

  pub ops_after : (place left : ℕ) (xs : List Op) (before : Option Name) → OpsTo f bytes at count place left xs before → left ≡ 0 → place < length bytes
      → first_fault (ops_fields f bytes at [] count) ≡ Some place
  ops_after place left xs before r done more =
      ops_past place left before r.walked done ∙ ap (λ b. if b then None else Some place) (over place (length bytes) more)
    where
      over : (a b : ℕ) → a < b → leb b a ≡ false
      over a b h = grind (arith, nat_tests)
