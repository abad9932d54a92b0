-- What stands at a place whose fields are there: numbers, names, capabilities and processes.
use Rattle.std.proofs.Common.{◌≡◌, ℕ, zero, suc, ◌+◌, ◌^◌, ◌<◌, ◌≤◌, Bool, true, false, ◌&&◌, leb, ltb, List, [], ◌∷◌, ◌++◌, length, get_or, take, drop, slice_index, Option, Some, None, is_none, inl, inr, refl, sym, ap, subst, ◌∙◌, arith, lit≤, append_assoc, length-take, length-drop, get_or-drop}
use Rattle.std.specs.Cmp.Lexicographic.{slice_cmp}
use Rattle.std.specs.Int.{w16, w32, to_be_bytes}
use Rattle.std.specs.List.{AllByRecursion}
use Rattle.std.specs.Ordering.{nat_cmp, is_lt}
use Rattle.std.proofs.lemmas.Bool.{and_parts, cases_lt, leb-true, ltb-true}
use Rattle.std.proofs.lemmas.List.{drop-drop, drop_more, get_or-take, get_or_past, length-take-le, take-append-drop}
use Rattle.std.proofs.lemmas.Nat.{be_bytes_2, be_bytes_4}
use Rattle.fl_labels.specs.declared.cap.Cap.{Cap}
use Rattle.fl_labels.specs.declared.cap.Cap.TheVariants.{Plus, Minus, Use, Grow}
use Rattle.fl_labels.specs.declared.endpoint.Endpoint.{Endpoint}
use Rattle.fl_labels.specs.declared.name.Name.{Name}
use Rattle.fl_labels.specs.declared.pid.Pid.{Pid}
use Rattle.fl_labels.specs.Cap.{cap_cmp, cap_name, cap_rank}
use Rattle.fl_labels.specs.Name.{name_cmp}
use Rattle.fl_ops.specs.declared.format.Format.{Format}
use Rattle.fl_ops.specs.declared.format.Format.TheVariants.{One, Two}
use Rattle.fl_ops.specs.Bytes.{name_bytes, name_size, cap_bytes, cap_size}
use Rattle.fl_ops.specs.Fits.{HasName, HasCap}
use Rattle.fl_ops.specs.Format.{node_width, node_size, node_limit}
use Rattle.fl_ops.specs.Grammar.{first_fault, has_byte, has_name, node_at, cap_fields}
use Rattle.fl_wire.specs.Fields.{is_next, short_at, long_at, has_short, has_cap, pid_size, tag_key, cap_key}
use Rattle.fl_wire.specs.PacketBytes.{pid_bytes}
use Rattle.fl_wire.specs.PacketFits.{HasPid}
use Rattle.fl_wire.specs.PacketGrammar.{end_size, end_fields}
use Rattle.fl_wire.specs.PacketSpelled.{AreBytes}
use Rattle.fl_wire.specs.parts.Items.{name_key, key_of_cap, key_before, IsNext}
use Rattle.fl_wire.proofs.NoFault.{name_rising, cap_rising}

-- each of the fields is there
abbrev pub AreThere : List (ℕ × Bool) → Type 0
AreThere fields = AllByRecursion (λ f. f.1 ≡ true) fields

pub all_there : (fs : List (ℕ × Bool)) → first_fault fs ≡ None → AreThere fs
all_there [] h = tt
all_there ((at, true) ∷ fs) h = (refl, all_there fs h)
all_there ((at, false) ∷ fs) h = absurd (cc)

-- neither of two parts has a fault where the whole has none
pub whole_parts : (fs gs : List (ℕ × Bool)) → first_fault (fs ++ gs) ≡ None → (first_fault fs ≡ None) × (first_fault gs ≡ None)
whole_parts [] gs h = (refl, h)
whole_parts ((at, true) ∷ fs) gs h = whole_parts fs gs h
whole_parts ((at, false) ∷ fs) gs h = absurd (cc)

pub whole_next : (at : ℕ) (is : Bool) (fs : List (ℕ × Bool)) → first_fault ((at, is) ∷ fs) ≡ None → (is ≡ true) × (first_fault fs ≡ None)
whole_next at true fs h = (refl, h)
whole_next at false fs h = absurd (cc)

none_there : (found : Option ℕ) → is_none found ≡ true → found ≡ None
none_there None h = refl
none_there (Some n) h = absurd (cc)

pub byte_there : (bs : List ℕ) (at low high : ℕ) → has_byte bs at low high ≡ true
    → (low ≤ slice_index bs at) × (slice_index bs at ≤ high) × (drop at bs ≡ slice_index bs at ∷ drop (at + 1) bs)
byte_there bs at low high h =
    let b = slice_index bs at in
    let p = and_parts (ltb at (length bs)) (leb low b && leb b high) h in
    let q = and_parts (leb low b) (leb b high) p.1 in
    (leb-true low b q.0, leb-true b high q.1, drop_more bs at 0 (ltb-true at (length bs) p.0))

-- no format has a node that is too great for a name
pub limit_within : (f : Format) → node_limit f ≤ 2 ^ 32
limit_within One = lit≤ tt
limit_within Two = lit≤ tt

-- the capability of this place among those of a name
cap_of : (rank : ℕ) (n : Name) → 1 ≤ rank → rank ≤ 4 → (c : Cap) × (cap_rank c ≡ rank) × (cap_name c ≡ n)
cap_of zero n low high = absurd (omega arith)
cap_of (suc zero) n low high = (Plus n, refl, refl)
cap_of (suc (suc zero)) n low high = (Minus n, refl, refl)
cap_of (suc (suc (suc zero))) n low high = (Use n, refl, refl)
cap_of (suc (suc (suc (suc zero)))) n low high = (Grow n, refl, refl)
cap_of (suc (suc (suc (suc (suc more))))) n low high = absurd (omega arith)

module _ (bs : List ℕ) (fits : AreBytes bs) where
  taken_fit : (n at i : ℕ) → get_or (take n (drop at bs)) i 0 < 256
  taken_fit n at i = elim (cases_lt i n) [
    | inl below ↦ subst (λ m. m < 256) (sym (get_or-take n (drop at bs) i 0 below ∙ get_or-drop at bs i 0)) (fits.each (at + i))
    | inr past ↦ subst (λ m. m < 256) (sym (get_or_past (take n (drop at bs)) i 0 (omega (arith, length-take n (drop at bs))))) (omega arith)
  ]

  pub two_there : (at : ℕ) → at + 2 ≤ length bs → (short_at bs at < 2 ^ 16) × (drop at bs ≡ to_be_bytes w16 (short_at bs at) ++ drop (at + 2) bs)
  two_there at inside =
      let cells = take 2 (drop at bs) in
      let long : length cells ≡ 2 = length-take-le 2 (drop at bs) (omega (arith, length-drop at bs)) in
      let spelled : to_be_bytes w16 (short_at bs at) ≡ cells = be_bytes_2 cells (short_at bs at) long (taken_fit 2 at) refl in
      (omega (arith, taken_fit 2 at 0, taken_fit 2 at 1), sym (take-append-drop 2 (drop at bs)) ∙ (λ i. sym spelled i ++ drop-drop 2 at bs i))

  pub four_there : (at : ℕ) → at + 4 ≤ length bs → (long_at bs at < 2 ^ 32) × (drop at bs ≡ to_be_bytes w32 (long_at bs at) ++ drop (at + 4) bs)
  four_there at inside =
      let cells = take 4 (drop at bs) in
      let long : length cells ≡ 4 = length-take-le 4 (drop at bs) (omega (arith, length-drop at bs)) in
      let spelled : to_be_bytes w32 (long_at bs at) ≡ cells = be_bytes_4 cells (long_at bs at) long (taken_fit 4 at) refl in
      (omega (arith, taken_fit 4 at 0, taken_fit 4 at 1, taken_fit 4 at 2, taken_fit 4 at 3), sym (take-append-drop 4 (drop at bs)) ∙ (λ i. sym spelled i ++ drop-drop 4 at bs i))

  node_there : (f : Format) (at : ℕ) → at + node_size f ≤ length bs
      → (node_at f bs at < node_limit f) × (drop at bs ≡ to_be_bytes (node_width f) (node_at f bs at) ++ drop (at + node_size f) bs)
  node_there One at inside = two_there at inside
  node_there Two at inside = four_there at inside

  -- two bytes, a number from low to high
  pub short_there : (at low high : ℕ) → has_short bs at low high ≡ true
      → (low ≤ short_at bs at) × (short_at bs at ≤ high) × (drop at bs ≡ to_be_bytes w16 (short_at bs at) ++ drop (at + 2) bs)
  short_there at low high h =
      let n = short_at bs at in
      let p = and_parts (leb (at + 2) (length bs)) (leb low n && leb n high) h in
      let q = and_parts (leb low n) (leb n high) p.1 in
      (leb-true low n q.0, leb-true n high q.1, (two_there at (leb-true (at + 2) (length bs) p.0)).1)

  long_there : (at : ℕ) → (leb (at + 4) (length bs) && ltb 0 (long_at bs at)) ≡ true
      → (0 < long_at bs at) × (long_at bs at < 2 ^ 32) × (drop at bs ≡ to_be_bytes w32 (long_at bs at) ++ drop (at + 4) bs)
  long_there at h =
      let p = and_parts (leb (at + 4) (length bs)) (ltb 0 (long_at bs at)) h in
      let four = four_there at (leb-true (at + 4) (length bs) p.0) in
      (ltb-true 0 (long_at bs at) p.1, four.0, four.1)

  -- the two numbers of a name
  pub record NumbersThere (f : Format) (at : ℕ) : Type 0 where
    pub some_node : 0 < node_at f bs at
    pub few : node_at f bs at < node_limit f
    pub some_seq : 0 < long_at bs (at + node_size f)
    pub few_seq : long_at bs (at + node_size f) < 2 ^ 32
    pub spelled : drop at bs
        ≡ to_be_bytes (node_width f) (node_at f bs at) ++ (to_be_bytes w32 (long_at bs (at + node_size f)) ++ drop (at + name_size f) bs)

  pub numbers_there : (f : Format) (at : ℕ) → has_name f bs at ≡ true → NumbersThere f at
  numbers_there f at h =
      let node = node_at f bs at in
      let seq = long_at bs (at + node_size f) in
      let p = and_parts (leb (at + name_size f) (length bs)) (ltb 0 node && ltb 0 seq) h in
      let q = and_parts (ltb 0 node) (ltb 0 seq) p.1 in
      let inside : at + name_size f ≤ length bs = leb-true (at + name_size f) (length bs) p.0 in
      let first = node_there f at (omega (arith, inside)) in
      let second = four_there (at + node_size f) (omega (arith, inside)) in
      let end : at + node_size f + 4 ≡ at + name_size f = omega arith in
      record {
        some_node = ltb-true 0 node q.0;
        few = first.0;
        some_seq = ltb-true 0 seq q.1;
        few_seq = second.0;
        spelled = first.1 ∙ ap (λ l. to_be_bytes (node_width f) node ++ l) (second.1 ∙ ap (λ n. to_be_bytes w32 seq ++ drop n bs) end);
      }

  pub record NameThere (f : Format) (at : ℕ) : Type 0 where
    pub name : Name
    pub has : HasName f name
    pub keyed : tag_key f bs at ≡ name_key name
    pub spelled : drop at bs ≡ name_bytes f name ++ drop (at + name_size f) bs

  pub name_there : (f : Format) (at : ℕ) → has_name f bs at ≡ true → NameThere f at
  name_there f at h =
      let n = numbers_there f at h in
      let node = node_at f bs at in
      let seq = long_at bs (at + node_size f) in
      record {
        name = record { node = node; seq = seq; node_in_range = (n.some_node, omega (arith, n.few, limit_within f)); seq_in_range = (n.some_seq, n.few_seq) };
        has = n.few;
        keyed = refl;
        spelled = n.spelled ∙ sym (append_assoc (to_be_bytes (node_width f) node) (to_be_bytes w32 seq) (drop (at + name_size f) bs));
      }

  pub record CapThere (f : Format) (at : ℕ) : Type 0 where
    pub cap : Cap
    pub has : HasCap f cap
    pub keyed : cap_key f bs at ≡ key_of_cap cap
    pub spelled : drop at bs ≡ cap_bytes f cap ++ drop (at + cap_size f) bs

  pub cap_there : (f : Format) (at : ℕ) → AreThere (cap_fields f bs at) → CapThere f at
  cap_there f at h =
      let kind = byte_there bs at 1 4 h.0 in
      let n = name_there f (at + 1) h.1.0 in
      let c = cap_of (slice_index bs at) n.name kind.0 kind.1 in
      let end : at + 1 + name_size f ≡ at + cap_size f = omega arith in
      let node : node_at f bs (at + 1) ≡ (cap_name c.0).node = ap (λ l. slice_index l 0) n.keyed ∙ ap (λ (m : Name). m.node) (sym c.2) in
      let seq : long_at bs (at + 1 + node_size f) ≡ (cap_name c.0).seq = ap (λ l. slice_index l 1) n.keyed ∙ ap (λ (m : Name). m.seq) (sym c.2) in
      record {
        cap = c.0;
        has = subst (HasName f) (sym c.2) n.has;
        keyed = λ i. node i ∷ seq i ∷ sym c.1 i ∷ [];
        spelled = kind.2 ∙ ap (λ l. slice_index bs at ∷ l) n.spelled
            ∙ (λ i. sym c.1 i ∷ (name_bytes f (sym c.2 i) ++ drop (end i) bs));
      }

  -- the next one of items that rise
  pub tag_next : (f : Format) (at : ℕ) (before : Option Name) → is_next (has_name f bs) (tag_key f bs) at (key_before name_key before) ≡ true
      → (x : Name) × IsNext name_cmp (HasName f) (name_bytes f) name_key (has_name f bs) (tag_key f bs) (name_size f) bs at before x
  tag_next f at before h =
      let key = key_before name_key before in
      let p = and_parts (has_name f bs at) (is_lt (slice_cmp nat_cmp key (tag_key f bs at))) h in
      let n = name_there f at p.0 in (
        n.name,
        record {
          has = n.has;
          next = h;
          above = sym (name_rising before n.name) ∙ ap (λ k. is_lt (slice_cmp nat_cmp key k)) (sym n.keyed) ∙ p.1;
          keyed = n.keyed;
          spelled = n.spelled;
        },
      )

  pub cap_next : (f : Format) (at : ℕ) (before : Option Cap) → is_next (has_cap f bs) (cap_key f bs) at (key_before key_of_cap before) ≡ true
      → (x : Cap) × IsNext cap_cmp (HasCap f) (cap_bytes f) key_of_cap (has_cap f bs) (cap_key f bs) (cap_size f) bs at before x
  cap_next f at before h =
      let key = key_before key_of_cap before in
      let p = and_parts (has_cap f bs at) (is_lt (slice_cmp nat_cmp key (cap_key f bs at))) h in
      let c = cap_there f at (all_there (cap_fields f bs at) (none_there (first_fault (cap_fields f bs at)) p.0)) in (
        c.cap,
        record {
          has = c.has;
          next = h;
          above = sym (cap_rising before c.cap) ∙ ap (λ k. is_lt (slice_cmp nat_cmp key k)) (sym c.keyed) ∙ p.1;
          keyed = c.keyed;
          spelled = c.spelled;
        },
      )

  pub record EndThere (f : Format) (at : ℕ) : Type 0 where
    pub pid : Pid
    pub endpoint : Endpoint
    pub has : HasPid f pid
    pub spelled : drop at bs ≡ pid_bytes f pid ++ endpoint.number ∷ drop (at + end_size f) bs

  pub end_there : (f : Format) (at : ℕ) → first_fault (end_fields f bs at) ≡ None → EndThere f at
  end_there f at h =
      let p = all_there (end_fields f bs at) h in
      let w = node_width f in
      let node = node_at f bs at in
      let boot = long_at bs (at + node_size f) in
      let serial = long_at bs (at + node_size f + 4) in
      let number = slice_index bs (at + pid_size f) in
      let some = and_parts (leb (at + node_size f) (length bs)) (ltb 0 node) p.0 in
      let first = node_there f at (leb-true (at + node_size f) (length bs) some.0) in
      let second = long_there (at + node_size f) p.1.0 in
      let third = long_there (at + node_size f + 4) p.1.1.0 in
      let fourth = byte_there bs (at + pid_size f) 1 64 p.1.1.1.0 in
      let last : at + node_size f + 4 + 4 ≡ at + pid_size f = omega arith in
      let end : at + pid_size f + 1 ≡ at + end_size f = omega arith in
      let rest : drop (at + node_size f + 4 + 4) bs ≡ number ∷ drop (at + end_size f) bs =
      ap (λ n. drop n bs) last ∙ fourth.2 ∙ ap (λ n. number ∷ drop n bs) end in
      record {
        pid = record {
          node = node;
          boot = boot;
          serial = serial;
          node_in_range = (ltb-true 0 node some.1, omega (arith, first.0, limit_within f));
          boot_in_range = (second.0, second.1);
          serial_in_range = (third.0, third.1);
        };
        endpoint = record { number = number; number_in_range = (fourth.0, fourth.1) };
        has = first.0;
        spelled = first.1
            ∙ ap (λ l. to_be_bytes w node ++ l) (second.2 ∙ ap (λ l. to_be_bytes w32 boot ++ l) (third.2 ∙ ap (λ l. to_be_bytes w32 serial ++ l) rest)
            ∙ sym (append_assoc (to_be_bytes w32 boot) (to_be_bytes w32 serial) (number ∷ drop (at + end_size f) bs)))
            ∙ sym (append_assoc (to_be_bytes w node) (to_be_bytes w32 boot ++ to_be_bytes w32 serial) (number ∷ drop (at + end_size f) bs));
      }
