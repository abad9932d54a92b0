-- The logins of a name among operations that rise.
use Rattle.std.specs.Prelude.{◌≡◌, ◌≢◌, ◌⊎◌, ℕ, ◌+◌, ◌-◌, ◌<◌, ◌≤◌, List, length, get_or, take, drop, true, false, refl}
use Rattle.std.proofs.Common.{inl, inr, sym, ap, subst, ◌∙◌, arith}
use Rattle.std.specs.declared.cmp.Ordering.{Ordering}
use Rattle.std.specs.declared.cmp.Ordering.TheVariants.{Less, Equal, Greater}
use Rattle.std.specs.Cmp.{tied_itself}
use Rattle.std.specs.Cmp.Lexicographic.{slice_cmp}
use Rattle.std.specs.List.Sorted.{IsStrictlySortedBy, IsPartitionPoint, IsPartitionedBy}
use Rattle.std.specs.Ordering.{is_gt, is_lt, nat_cmp, ordering_then}
use Rattle.std.proofs.lemmas.Bool.{cases_lt, false≢true}
use Rattle.std.proofs.lemmas.Map.Keys.{Less-from_sorted}
use Rattle.fl_labels.specs.Name.{name_cmp}
use Rattle.fl_labels.specs.NameOrder.{name_total, name_exact}
use Rattle.fl_labels.specs.declared.cap.Cap.{Cap}
use Rattle.fl_labels.specs.declared.name.Name.{Name}
use Rattle.fl_ops.specs.declared.digest.Digest.{Digest}
use Rattle.fl_ops.specs.declared.op.Body.{Body}
use Rattle.fl_ops.specs.declared.op.Body.TheVariants.{MakeTag, MakeGroup, Put, MakeLogin, Open}
use Rattle.fl_ops.specs.declared.op.Op.{Op}
use Rattle.fl_ops.specs.Bytes.{kind_byte}
use Rattle.fl_ops.specs.OpOrder.{op_cmp, body_key}
use Rattle.fl_ops.specs.OpLaws.{op_total}
use Rattle.fl_ops.specs.Registry.{Listed, login_op}
use Rattle.fl_ops.specs.Logins.{IsFirstLogin, HasNoLogin}
use Rattle.fl_opset.specs.parts.LoginPlace.{login_place}
use Rattle.fl_opset.proofs.Partition.{names_rise, rest_item}
use Rattle.fl_opset.proofs.Names.{by_name}

-- a lesser body is of no greater kind, so it is no login where the other is none
kinds_rise : (a b : Body) → slice_cmp nat_cmp (body_key a) (body_key b) ≡ Less → is_lt (nat_cmp (kind_byte b) 4) ≡ true → is_lt (nat_cmp (kind_byte a) 4) ≡ true
kinds_rise (MakeTag p) b less h = refl
kinds_rise MakeGroup b less h = refl
kinds_rise (Put g c) b less h = refl
kinds_rise (MakeLogin c d) (MakeTag p) less h = absurd (cc)
kinds_rise (MakeLogin c d) MakeGroup less h = absurd (cc)
kinds_rise (MakeLogin c d) (Put g e) less h = absurd (cc)
kinds_rise (MakeLogin c d) (MakeLogin e f) less h = h
kinds_rise (MakeLogin c d) (Open g) less h = absurd (cc)
kinds_rise (Open g) (MakeTag p) less h = absurd (cc)
kinds_rise (Open g) MakeGroup less h = absurd (cc)
kinds_rise (Open g) (Put h' e) less h = absurd (cc)
kinds_rise (Open g) (MakeLogin e f) less h = absurd (cc)
kinds_rise (Open g) (Open h') less h = h

-- p is how the names stand, q how the first of them stands to the name, r how the second does
module _ (name : Name) where
  joins : (a b : Op) (p q : Ordering) → name_cmp a.name b.name ≡ p → name_cmp b.name name ≡ q
      → ordering_then p (slice_cmp nat_cmp (body_key a.body) (body_key b.body)) ≡ Less
      → is_lt (ordering_then q (nat_cmp (kind_byte b.body) 4)) ≡ true → is_lt (login_place name a) ≡ true
  joins a b Less Less e f less h = ap (λ o. is_lt (ordering_then o (nat_cmp (kind_byte a.body) 4))) (name_total.trans a.name b.name name e f)
  joins a b Less Equal e f less h =
      let same = name_exact b.name name f in
      ap (λ o. is_lt (ordering_then o (nat_cmp (kind_byte a.body) 4))) (subst (λ n. name_cmp a.name n ≡ Less) same e)
  joins a b Less Greater e f less h = absurd (cc)
  joins a b Equal Less e f less h = ap (λ o. is_lt (ordering_then o (nat_cmp (kind_byte a.body) 4))) (name_total.congr a.name b.name name e ∙ f)
  joins a b Equal Equal e f less h =
      ap (λ o. is_lt (ordering_then o (nat_cmp (kind_byte a.body) 4))) (name_total.congr a.name b.name name e ∙ f)
      ∙ kinds_rise a.body b.body less h
  joins a b Equal Greater e f less h = absurd (cc)
  joins a b Greater q e f less h = absurd (cc)

  -- what stands below what is before the logins is before them
  before_rises : (a b : Op) → op_cmp a b ≡ Less → is_lt (login_place name b) ≡ true → is_lt (login_place name a) ≡ true
  before_rises a b less h = joins a b _ _ refl refl less h

  -- a login isn't before the logins
  at_login : (c : Cap) (digest : Digest) → is_lt (login_place name (login_op name c digest)) ≡ false
  at_login c digest = ap (λ o. is_lt (ordering_then o (nat_cmp 4 4))) (tied_itself name_total name)

  -- an operation of the name that is no login is
  at_other : (op : Op) → op.name ≡ name → is_lt (nat_cmp (kind_byte op.body) 4) ≡ true → is_lt (login_place name op) ≡ true
  at_other op same low =
      ap (λ o. is_lt (ordering_then o (nat_cmp (kind_byte op.body) 4))) (ap (λ n. name_cmp n name) same ∙ tied_itself name_total name) ∙ low

level : (p q : Ordering) → is_gt p ≡ false → is_lt (ordering_then p q) ≡ false → p ≡ Equal
level Less q low high = absurd (cc)
level Equal q low high = refl
level Greater q low high = absurd (cc)

-- what is no login is of a lesser kind, or stands above each login of its name
other_kind : (body : Body) → ((c : Cap) (digest : Digest) → body ≢ MakeLogin c digest) → (c : Cap) (digest : Digest)
    → (is_lt (nat_cmp (kind_byte body) 4) ≡ true) ⊎ (is_gt (slice_cmp nat_cmp (body_key body) (body_key (MakeLogin c digest))) ≡ true)
other_kind (MakeTag p) none c digest = inl refl
other_kind MakeGroup none c digest = inl refl
other_kind (Put g c') none c digest = inl refl
other_kind (MakeLogin c' digest') none c digest = absurd (none c' digest' refl)
other_kind (Open g) none c digest = inr refl

module _ (xs : List Op) (up : IsStrictlySortedBy op_cmp xs) (name : Name) where
  pub logins_parted : IsPartitionedBy (λ op. is_lt (login_place name op)) xs
  logins_parted i j d order within h = elim (cases_lt i j) [
    | inl before ↦ before_rises name (get_or xs i d) (get_or xs j d) (Less-from_sorted op_cmp xs i j d up before within) h
    | inr after ↦
        let same : i ≡ j = omega arith in
        ap (λ n. is_lt (login_place name (get_or xs n d))) same ∙ h
  ]

  -- the operations before the logins end at a place
  module _ (start : ℕ) (at : IsPartitionPoint (λ op. is_lt (login_place name op) ≡ true) (λ op. is_lt (login_place name op) ≡ false) xs start) where
    login_after : (c : Cap) (digest : Digest) (h : Listed xs (login_op name c digest)) → start ≤ h.0
    login_after c digest h = elim (cases_lt h.0 start) [
      | inl before ↦
          absurd (false≢true (sym (at_login name c digest) ∙ ap (λ (op : Op). is_lt (login_place name op)) (sym h.2) ∙ at.0 h.0 (login_op name c digest) (omega arith) before))
      | inr after ↦ after
    ]

    -- where nothing follows them, there are none
    pub none_after : length xs ≤ start → HasNoLogin (Listed xs) name
    none_after end c digest h = absurd (omega (arith, login_after c digest h, h.1))

    -- else the first that follows them
    module _ (first : Op) (some : 0 < length (take (length xs - start) (drop start xs))) (item : (d : Op) → first ≡ get_or (take (length xs - start) (drop start xs)) 0 d) where
      here : start < length xs
      here = omega (arith, (rest_item xs start 0 first some (item first)).0)

      is : (d : Op) → get_or xs start d ≡ first
      is d =
          let place : start ≡ start + 0 = omega arith in
          ap (λ n. get_or xs n d) place ∙ (rest_item xs start 0 first some (item first)).1 d

      high : is_lt (login_place name first) ≡ false
      high = ap (λ (op : Op). is_lt (login_place name op)) (sym (is first)) ∙ at.1 start first (omega arith) here

      -- where the name has a login, the operation there is of the name
      of_name : (c : Cap) (digest : Digest) → Listed xs (login_op name c digest) → first.name ≡ name
      of_name c digest h =
          let rise = names_rise op_cmp name_total (λ (op : Op). op.name) by_name xs up start h.0 (login_op name c digest) (login_after c digest h) h.1 in
          let low = ap (λ (op : Op). is_gt (name_cmp op.name name)) (sym (is (login_op name c digest))) ∙ ap (λ (op : Op). is_gt (name_cmp (get_or xs start (login_op name c digest)).name op.name)) (sym h.2) ∙ rise in
          name_exact first.name name (level _ _ low high)

      pub none_of_name : first.name ≢ name → HasNoLogin (Listed xs) name
      none_of_name other c digest h = other (of_name c digest h)

      first_least : (k : ℕ) (d : Op) → start ≤ k → k < length xs → is_gt (op_cmp first (get_or xs k d)) ≡ false
      first_least k d order within =
          ap (λ (op : Op). is_gt (op_cmp op (get_or xs k d))) (sym (is d)) ∙ elim (cases_lt start k) [
            | inl before ↦ ap is_gt (Less-from_sorted op_cmp xs start k d up before within)
            | inr after ↦
                let same : start ≡ k = omega arith in
                ap (λ n. is_gt (op_cmp (get_or xs n d) (get_or xs k d))) same ∙ ap is_gt (tied_itself op_total (get_or xs k d))
          ]

      pub none_of_kind : ((c : Cap) (digest : Digest) → first.body ≢ MakeLogin c digest) → HasNoLogin (Listed xs) name
      none_of_kind other c digest h =
          let same = of_name c digest h in
          elim (other_kind first.body other c digest) [
            | inl low ↦ absurd (false≢true (sym high ∙ at_other name first same low))
            | inr above ↦
                let tied = ap (λ n. name_cmp n name) same ∙ tied_itself name_total name in
                let more : is_gt (op_cmp first (login_op name c digest)) ≡ true =
                ap (λ o. is_gt (ordering_then o (slice_cmp nat_cmp (body_key first.body) (body_key (MakeLogin c digest))))) tied ∙ above in
                let least = first_least h.0 (login_op name c digest) (login_after c digest h) h.1 in
                absurd (false≢true (sym least ∙ ap (λ (op : Op). is_gt (op_cmp first op)) h.2 ∙ more))
          ]

      pub is_first : (c : Cap) (digest : Digest) → first.name ≡ name → first.body ≡ MakeLogin c digest → IsFirstLogin (Listed xs) name c digest
      is_first c digest e b =
          let same : first ≡ login_op name c digest = λ i. record { name = e i; body = b i } in
          record {
            member = (start, here, is (login_op name c digest) ∙ same);
            least = λ d other h.
                ap (λ (op : Op). is_gt (op_cmp op (login_op name d other))) (sym same)
                ∙ ap (λ (op : Op). is_gt (op_cmp first op)) (sym h.2)
                ∙ first_least h.0 (login_op name d other) (login_after d other h) h.1;
          }
