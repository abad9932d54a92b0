-- Items that are read one after another, and the sets of them.
use Rattle.std.proofs.Common.{◌≡◌, ℕ, suc, ◌+◌, ◌*◌, ◌<◌, ◌≤◌, Bool, true, false, List, [], ◌∷◌, ◌++◌, length, drop, slice_index, Option, Some, None, refl, sym, ap, subst, ◌∙◌, arith, append_assoc, length-append, Ordering, Less, Equal, Greater, if◌then◌else◌, Result, Ok, Err, IfErr, IsOk}
use Rattle.std.specs.Cmp.{IsTotalOrder}
use Rattle.std.specs.Int.{w16, to_be_bytes}
use Rattle.std.specs.List.{flat_map, AllByRecursion}
use Rattle.std.specs.List.Sorted.{IsStrictlySortedBy}
use Rattle.std.specs.Ordering.{is_lt}
use Rattle.std.proofs.lemmas.List.{flat_map_more}
use Rattle.fl_labels.specs.Name.{name_cmp}
use Rattle.fl_labels.specs.NameOrder.{name_total, name_exact}
use Rattle.fl_labels.specs.Cap.{cap_cmp}
use Rattle.fl_labels.specs.CapOrder.{cap_total, cap_exact}
use Rattle.fl_labels.specs.declared.name.Name.{Name}
use Rattle.fl_labels.specs.declared.error.SetError.{SetError}
use Rattle.fl_labels.specs.declared.error.SetError.TheVariants.{TooLong}
use Rattle.fl_labels.specs.declared.cap.Cap.{Cap}
use Rattle.fl_labels.specs.SetBy.{SetBy, of_list, members, len, members-of_list, len-members}
use Rattle.fl_ops.specs.declared.format.Format.{Format}
use Rattle.fl_ops.specs.Bytes.{name_bytes, name_size, cap_bytes, cap_size}
use Rattle.fl_ops.specs.Fits.{HasName, HasCap}
use Rattle.fl_ops.specs.Grammar.{first_fault, has_byte}
use Rattle.fl_wire.specs.parts.Items.{key_before, is_above, IsNext, AreRead}
use Rattle.fl_wire.specs.Fields.{is_next, rising_fields, short_at, has_short}
use Rattle.fl_wire.specs.PacketBytes.{label_bytes, caps_bytes}
use Rattle.fl_wire.specs.PacketFits.{HasLabel, HasCaps}
use Rattle.fl_wire.specs.PacketGrammar.{tag_fields, label_fields, after_label, each_cap, caps_fields, after_caps}

pub less_of : (o : Ordering) → is_lt o ≡ true → o ≡ Less
less_of Less e = refl
less_of Equal e = absurd (cc)
less_of Greater e = absurd (cc)

module _ {K : Type 0} {R : K → K → Ordering} (o : IsTotalOrder R) where
  below_more : (z x y : K) (ws : List K) → AllByRecursion (λ w. R z w ≡ Less) (ws ++ x ∷ []) → R x y ≡ Less → AllByRecursion (λ w. R z w ≡ Less) ((ws ++ x ∷ []) ++ y ∷ [])
  below_more z x y [] h less = (h.0, (o.trans z x y h.0 less, tt))
  below_more z x y (w ∷ ws) h less = (h.0, below_more z x y ws h.1 less)

  -- what is above the last still rises
  pub rises_more : (zs : List K) (x y : K) → IsStrictlySortedBy R (zs ++ x ∷ []) → R x y ≡ Less → IsStrictlySortedBy R ((zs ++ x ∷ []) ++ y ∷ [])
  unfolding IsStrictlySortedBy
  rises_more [] x y h less = ((less, tt), (tt, tt))
  rises_more (z ∷ zs) x y h less = (below_more z x y zs h.0 less, rises_more zs x y h.1 less)

-- one item more that is of the format
pub all_more : {K : Type 0} (Has : K → Type 0) (xs : List K) (x : K) → AllByRecursion Has xs → Has x → AllByRecursion Has (xs ++ x ∷ [])
all_more Has [] x h it = (it, tt)
all_more Has (y ∷ ys) x h it = (h.0, all_more Has ys x h.1 it)

-- after items without a fault, of which before is the last, so many are left from a place on
pub record WalkedTo {K : Type 0} (key_of : K → List ℕ) (there : ℕ → Bool) (key : ℕ → List ℕ) (size at count place left : ℕ) (before : Option K) : Type 0 where
  pub faults : first_fault (rising_fields there key size at [] count) ≡ first_fault (rising_fields there key size place (key_before key_of before) left)

module _ {K : Type 0} {key_of : K → List ℕ} {there : ℕ → Bool} {key : ℕ → List ℕ} {size at count : ℕ} where
  pub walk_none : (place left : ℕ) → at ≡ place → left ≡ count → WalkedTo key_of there key size at count place left None
  walk_none place left p q = record { faults = λ i. first_fault (rising_fields there key size (p i) [] (sym q i)) }

  pub walk_more : (place left : ℕ) (before : Option K) (x : K) (next less : ℕ) → WalkedTo key_of there key size at count place left before
      → is_next there key place (key_before key_of before) ≡ true → key place ≡ key_of x → place + size ≡ next → left ≡ suc less
      → WalkedTo key_of there key size at count next less (Some x)
  walk_more place left before x next less w here keyed p q = record {
    faults = w.faults ∙ ap (λ m. first_fault (rising_fields there key size place (key_before key_of before) m)) q
        ∙ ap (λ b. if b then first_fault (rising_fields there key size (place + size) (key place) less) else Some place) here
        ∙ (λ i. first_fault (rising_fields there key size (p i) (keyed i) less));
  }

  pub walk_all : (place left : ℕ) (before : Option K) → WalkedTo key_of there key size at count place left before
      → left ≡ 0 → first_fault (rising_fields there key size at [] count) ≡ None
  walk_all place left before w done = w.faults ∙ ap (λ m. first_fault (rising_fields there key size place (key_before key_of before) m)) done

  -- the next one isn't there
  pub walk_fault : (place left : ℕ) (before : Option K) (less : ℕ) → WalkedTo key_of there key size at count place left before
      → left ≡ suc less → is_next there key place (key_before key_of before) ≡ false → first_fault (rising_fields there key size at [] count) ≡ Some place
  walk_fault place left before less w q lacks =
      w.faults ∙ ap (λ m. first_fault (rising_fields there key size place (key_before key_of before) m)) q
      ∙ ap (λ b. if b then first_fault (rising_fields there key size (place + size) (key place) less) else Some place) lacks

-- the same, where the items are xs
pub record ReadTo {K : Type 0} (R : K → K → Ordering) (Has : K → Type 0) (spell : K → List ℕ) (key_of : K → List ℕ) (there : ℕ → Bool) (key : ℕ → List ℕ) (size : ℕ) (bytes : List ℕ) (at count place left : ℕ) (xs : List K) (before : Option K) : Type 0 where
  pub walked : WalkedTo key_of there key size at count place left before
  pub spelled : drop at bytes ≡ flat_map spell xs ++ drop place bytes
  pub counted : length xs + left ≡ count
  pub has : AllByRecursion Has xs
  pub rises : IsStrictlySortedBy R xs
  pub above : (x : K) → is_above R before x ≡ true → IsStrictlySortedBy R (xs ++ x ∷ [])

module _ {K : Type 0} {R : K → K → Ordering} {Has : K → Type 0} {spell : K → List ℕ} {key_of : K → List ℕ} {there : ℕ → Bool} {key : ℕ → List ℕ} {size : ℕ} {bytes : List ℕ} {at count : ℕ} where
  pub read_none : (place left : ℕ) (xs : List K) → at ≡ place → left ≡ count → xs ≡ [] → ReadTo R Has spell key_of there key size bytes at count place left xs None
  unfolding IsStrictlySortedBy
  read_none place left xs p q none = subst (λ l. ReadTo R Has spell key_of there key size bytes at count place left l None) (sym none) (record {
    walked = walk_none place left p q;
    spelled = ap (λ n. drop n bytes) p;
    counted = omega (arith, q);
    has = tt;
    rises = tt;
    above = λ x h. (tt, tt);
  })

  pub read_more : IsTotalOrder R → (place left : ℕ) (xs ys : List K) (before : Option K) (x : K) (next less : ℕ)
      → ReadTo R Has spell key_of there key size bytes at count place left xs before
      → IsNext R Has spell key_of there key size bytes place before x
      → place + size ≡ next → left ≡ suc less → ys ≡ xs ++ x ∷ [] → ReadTo R Has spell key_of there key size bytes at count next less ys (Some x)
  read_more o place left xs ys before x next less r n p q new = subst (λ l. ReadTo R Has spell key_of there key size bytes at count next less l (Some x)) (sym new) (record {
    walked = walk_more place left before x next less r.walked n.next n.keyed p q;
    spelled = r.spelled ∙ ap (λ l. flat_map spell xs ++ l) (n.spelled ∙ ap (λ m. spell x ++ drop m bytes) p)
        ∙ sym (append_assoc (flat_map spell xs) (spell x) (drop next bytes)) ∙ ap (λ l. l ++ drop next bytes) (flat_map_more spell [] xs x);
    counted = omega (arith, length-append xs (x ∷ []), r.counted, q);
    has = all_more Has xs x r.has n.has;
    rises = r.above x n.above;
    above = λ y h. rises_more o xs x y (r.above x n.above) (less_of (R x y) h);
  })

  pub read_all : (place left : ℕ) (xs : List K) (before : Option K) → ReadTo R Has spell key_of there key size bytes at count place left xs before
      → left ≡ 0 → place ≡ at + size * count → AreRead R Has spell (rising_fields there key size at [] count) size bytes at count xs
  read_all place left xs before r done end = record {
    whole = walk_all place left before r.walked done;
    has = r.has;
    rises = r.rises;
    counted = omega (arith, r.counted, done);
    spelled = r.spelled ∙ ap (λ m. flat_map spell xs ++ drop m bytes) end;
  }

-- tags that are read are no more than a label holds
pub tags_fit : {S : Type 0} (r : Result S SetError) (f : Format) (fields : List (ℕ × Bool)) (bs : List ℕ) (at count : ℕ) (tags : List Name)
    → AreRead name_cmp (HasName f) (name_bytes f) fields (name_size f) bs at count tags → count ≤ 256
    → IfErr r (λ e. e ≡ TooLong) → (r ≡ Err TooLong → 256 < len (of_list {R = name_cmp} tags)) → IsOk r
tags_fit (Ok s) f fields bs at count tags read few only long = refl
tags_fit (Err e) f fields bs at count tags read few only long =
    let kept = len-members (of_list {R = name_cmp} tags) ∙ ap length (members-of_list name_total name_exact tags read.rises) ∙ read.counted in
    absurd (omega (arith, kept, few, long (ap Err only)))

-- what `label_at` owes where it answers a label
pub label_found : (f : Format) (bs : List ℕ) (at n count : ℕ) (tags : List Name) (s : SetBy name_cmp) → has_short bs at 0 256 ≡ true → n ≡ short_at bs at → n ≤ 256 → count ≡ n
    → drop at bs ≡ to_be_bytes w16 n ++ drop (at + 2) bs
    → AreRead name_cmp (HasName f) (name_bytes f) (tag_fields f bs (at + 2) count) (name_size f) bs (at + 2) count tags → s ≡ of_list tags
    → (first_fault (label_fields f bs at) ≡ None) × HasLabel f s × (len s ≡ short_at bs at) × (len s ≤ 256) × (drop at bs ≡ label_bytes f s ++ drop (after_label f bs at) bs)
label_found f bs at n count tags s there is few same start read view =
    let kept : members s ≡ tags = ap members view ∙ members-of_list name_total name_exact tags read.rises in
    let long : len s ≡ n = len-members s ∙ ap length kept ∙ read.counted ∙ same in
    let end : at + 2 + name_size f * count ≡ after_label f bs at = rw (same ∙ is) (omega arith) in (
      ap (λ b. if b then first_fault (tag_fields f bs (at + 2) (short_at bs at)) else Some at) there ∙ ap (λ m. first_fault (tag_fields f bs (at + 2) m)) (sym is ∙ sym same) ∙ read.whole,
      subst (AllByRecursion (HasName f)) (sym kept) read.has,
      long ∙ is,
      omega (arith, long, few),
      start ∙ ap (λ l. to_be_bytes w16 n ++ l) read.spelled ∙ (λ i. to_be_bytes w16 (sym long i) ++ (flat_map (name_bytes f) (sym kept i) ++ drop (end i) bs)),
    )

-- what `caps_at` owes where it answers a set
pub caps_found : (f : Format) (bs : List ℕ) (at n count : ℕ) (caps : List Cap) (s : SetBy cap_cmp) → has_byte bs at 0 64 ≡ true → n ≡ slice_index bs at → n ≤ 64 → count ≡ n
    → drop at bs ≡ n ∷ drop (at + 1) bs
    → AreRead cap_cmp (HasCap f) (cap_bytes f) (each_cap f bs (at + 1) count) (cap_size f) bs (at + 1) count caps → s ≡ of_list caps
    → (first_fault (caps_fields f bs at) ≡ None) × HasCaps f s × (len s ≡ slice_index bs at) × (len s ≤ 64) × (drop at bs ≡ caps_bytes f s ++ drop (after_caps f bs at) bs)
caps_found f bs at n count caps s there is few same start read view =
    let kept : members s ≡ caps = ap members view ∙ members-of_list cap_total cap_exact caps read.rises in
    let long : len s ≡ n = len-members s ∙ ap length kept ∙ read.counted ∙ same in
    let end : at + 1 + cap_size f * count ≡ after_caps f bs at = rw (same ∙ is) (omega arith) in (
      ap (λ b. if b then first_fault (each_cap f bs (at + 1) (slice_index bs at)) else Some at) there ∙ ap (λ m. first_fault (each_cap f bs (at + 1) m)) (sym is ∙ sym same) ∙ read.whole,
      subst (AllByRecursion (HasCap f)) (sym kept) read.has,
      long ∙ is,
      omega (arith, long, few),
      start ∙ ap (λ l. n ∷ l) read.spelled ∙ (λ i. sym long i ∷ (flat_map (cap_bytes f) (sym kept i) ++ drop (end i) bs)),
    )
