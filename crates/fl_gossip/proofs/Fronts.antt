-- What is left of operations that rise, as an operation after another is taken.
use Rattle.std.proofs.Common.{◌≡◌, ◌≢◌, ◌⊎◌, nat_eq, inl, inr, ℕ, ◌+◌, ◌-◌, ◌<◌, ◌≤◌, Bool, true, false, not, List, [], ◌++◌, length, get_or, take, drop, refl, sym, ap, subst, ◌∙◌, arith, Option, Some, None, Ordering, Less, Equal, Greater}
use Rattle.std.specs.Cmp.{tied_itself, Equal-is}
use Rattle.std.specs.List.{All, AllWithin, Contains}
use Rattle.std.specs.List.Sorted.{IsStrictlySortedBy, IsPartitionedBy}
use Rattle.std.specs.Option.{option_eq}
use Rattle.std.specs.Ordering.{is_lt, is_gt, is_ge, is_eq, eq_by_cmp}
use Rattle.std.proofs.lemmas.Bool.Decides.{nat_tests}
use Rattle.std.proofs.lemmas.Bool.{cases_lt, cases_Bool, false≢true}
use Rattle.std.proofs.lemmas.List.{length-take-le, length-drop, get_or-take, get_or-drop, get_or_default, take-append-drop}
use Rattle.std.proofs.lemmas.List.Elements.{All-contains, Contains-append_cases, Contains-append_right}
use Rattle.std.proofs.lemmas.Map.Keys.{Less-from_sorted}
use Rattle.fl_labels.specs.Name.{name_cmp}
use Rattle.fl_labels.specs.NameOrder.{name_total, name_exact}
use Rattle.fl_labels.specs.declared.name.Name.{Name}
use Rattle.fl_labels.specs.SetBy.{SetBy, In, contains}
use Rattle.fl_ops.specs.declared.op.Op.{Op}
use Rattle.fl_ops.specs.OpOrder.{op_cmp}
use Rattle.fl_ops.specs.OpLaws.{op_total, op_exact}
use Rattle.fl_ops.specs.Registry.{Listed}
use Rattle.fl_opset.specs.Catching.{MayTake}
use Rattle.fl_opset.specs.Windows.{IsName}
use Rattle.fl_wire.specs.NameOrder.{by_name}
use Rattle.fl_gossip.specs.declared.fault.GossipFault.{GossipFault}
use Rattle.fl_gossip.specs.declared.fault.GossipFault.TheVariants.{Impostor, Clash, Memory}
use Rattle.fl_gossip.specs.Taking.{Offends}
use Rattle.fl_gossip.specs.parts.Ahead.{NotBelow, IsFrom, IsAhead, BeginsWith, IsNewAmong}
use Rattle.fl_gossip.specs.laws.Cutting.{back_rises}
use Rattle.fl_gossip.proofs.Meetings.{first_part}

pub ge_not_lt : (r : Ordering) → is_ge r ≡ true → is_lt r ≡ false
ge_not_lt Less h = absurd (cc)
ge_not_lt Equal h = refl
ge_not_lt Greater h = refl

is_less : (r : Ordering) → is_lt r ≡ true → r ≡ Less
is_less Less h = refl
is_less Equal h = absurd (cc)
is_less Greater h = absurd (cc)

-- what `!=` answers
pub apart : (a b : Op) (r : Bool) → r ≡ not (eq_by_cmp op_cmp a b) → r ≡ true → a ≢ b
apart a b r is h e = false≢true (ap not (sym (ap is_eq (ap (op_cmp a) (sym e) ∙ tied_itself op_total a))) ∙ sym is ∙ h)

pub alike : (a b : Op) (r : Bool) → r ≡ not (eq_by_cmp op_cmp a b) → r ≡ false → a ≡ b
alike a b r is h = op_exact a b ((Equal-is (op_cmp a b)).0 (holds _ (sym is ∙ h)))
  where
    holds : (b : Bool) → not b ≡ false → b ≡ true
    holds true e = refl
    holds false e = sym e

-- what is not above a name below another is below that other
lower : (a b n : Name) (r : Ordering) → name_cmp a b ≡ r → is_gt r ≡ false → is_lt (name_cmp b n) ≡ true → is_lt (name_cmp a n) ≡ true
lower a b n Less e g h = ap is_lt (name_total.trans a b n e (is_less (name_cmp b n) h))
lower a b n Equal e g h = ap is_lt (name_total.congr a b n e) ∙ h
lower a b n Greater e g h = absurd (cc)

module _ (xs : List Op) (up : IsStrictlySortedBy op_cmp xs) (n : Name) where
  pub names_parted : IsPartitionedBy (λ op. is_lt (name_cmp op.name n)) xs
  names_parted i j d order within h = elim (cases_lt i j) [
    | inl before ↦
        let a = (get_or xs i d).name in
        let b = (get_or xs j d).name in
        lower a b n (name_cmp a b) refl (first_part _ _ (Less-from_sorted op_cmp xs i j d up before within)) h
    | inr after ↦
        let same : j ≡ i = omega arith in
        ap (λ k. is_lt (name_cmp (get_or xs k d).name n)) (sym same) ∙ h
  ]

  -- where one is not below the name, those behind it are not
  pub rest_not_below : (i : ℕ) (x : Op) → i < length xs → x ≡ get_or xs i x → NotBelow n x → All (NotBelow n) (drop i xs)
  rest_not_below i x inside at h k d within =
      let here : i + k < length xs = omega (arith, length-drop i xs) in
      let is : get_or (drop i xs) k d ≡ get_or xs (i + k) d = get_or-drop i xs k d in
      let first : get_or xs i d ≡ x = get_or_default xs i d x inside ∙ sym at in
      elim (cases_Bool (is_lt (name_cmp (get_or xs (i + k) d).name n))) [
        | inl low ↦ absurd (false≢true (sym h ∙ ap (λ (y : Op). is_lt (name_cmp y.name n)) (sym first) ∙ names_parted i (i + k) d (omega arith) here low))
        | inr high ↦ ap (λ (y : Op). is_lt (name_cmp y.name n)) is ∙ high
      ]

-- what a search in the front of a list tells of all of it
module _ (p : Op → Bool) (xs near : List Op) (b place : ℕ) (inside : b ≤ length xs) (front : near ≡ take b xs) (bound : place ≤ length near) where
  near_long : length near ≡ b
  near_long = ap length front ∙ length-take-le b xs inside

  near_item : (k : ℕ) (d : Op) → k < b → get_or near k d ≡ get_or xs k d
  near_item k d here = ap (λ l. get_or l k d) front ∙ get_or-take b xs k d here

  pub all_bound : place ≤ length xs
  all_bound = omega (arith, near_long)

  pub taken_pass : AllWithin (λ y. p y ≡ true) near 0 place → All (λ y. p y ≡ true) (take place xs)
  taken_pass at k d within =
      let here : k < place = omega (arith, length-take-le place xs all_bound) in
      ap p (get_or-take place xs k d here ∙ sym (near_item k d (omega (arith, near_long)))) ∙ at k d (omega arith) here

  pub dropped_fail : AllWithin (λ y. p y ≡ false) near place (length near) → All (λ y. p y ≡ false) (drop b xs) → All (λ y. p y ≡ false) (drop place xs)
  dropped_fail at far k d within =
      let here : place + k < length xs = omega (arith, length-drop place xs) in
      let is : get_or (drop place xs) k d ≡ get_or xs (place + k) d = get_or-drop place xs k d in
      elim (cases_lt (place + k) b) [
        | inl close ↦ ap p (is ∙ sym (near_item (place + k) d close)) ∙ at (place + k) d (omega arith) (omega (arith, near_long))
        | inr away ↦
            let there : b + (place + k - b) ≡ place + k = omega arith in
            let e : get_or (drop b xs) (place + k - b) d ≡ get_or xs (place + k) d = get_or-drop b xs (place + k - b) d ∙ ap (λ m. get_or xs m d) there in
            ap p (is ∙ sym e) ∙ far (place + k - b) d (omega (arith, length-drop b xs))
      ]

pub from_there : (xs near rest : List Op) (b place : ℕ) (n : Name) → IsStrictlySortedBy op_cmp xs → b ≤ length xs → near ≡ take b xs → place ≤ length near → rest ≡ drop place xs
    → AllWithin (λ (op : Op). is_lt (name_cmp op.name n) ≡ true) near 0 place → AllWithin (λ (op : Op). is_lt (name_cmp op.name n) ≡ false) near place (length near)
    → All (NotBelow n) (drop b xs) → IsFrom xs n rest
from_there xs near rest b place n up inside front bound is low high far =
    let p = λ (op : Op). is_lt (name_cmp op.name n) in
    let split : take place xs ++ drop place xs ≡ xs = take-append-drop place xs in
    subst (IsFrom xs n) (sym is) (record {
      before = take place xs;
      whole = sym split;
      below = λ k d within. is_less _ (taken_pass p xs near b place inside front bound low k d within);
      rise = back_rises op_cmp (take place xs) (drop place xs) (subst (IsStrictlySortedBy op_cmp) (sym split) up);
      above = dropped_fail p xs near b place inside front bound high far;
    })

-- ---- the operations of one name, among those from that name on

level : (a n : Name) (r : Ordering) → name_cmp a n ≡ r → is_gt r ≡ false → is_lt r ≡ false → a ≡ n
level a n Less e g h = absurd (cc)
level a n Equal e g h = name_exact a n e
level a n Greater e g h = absurd (cc)

module _ (xs : List Op) (up : IsStrictlySortedBy op_cmp xs) (n : Name) (from : All (NotBelow n) xs) where
  -- where the first has another name, all have
  pub none_named : ¬ BeginsWith xs n → (x : Op) → Listed xs x → x.name ≢ n
  none_named begins x c named = begins (record { some = some; named = λ d. ap (λ (y : Op). y.name) (get_or_default xs 0 d x some) ∙ first })
    where
      some : 0 < length xs
      some = omega (arith, c.1)

      y : Op
      y = get_or xs 0 x

      first : (get_or xs 0 x).name ≡ n
      first = elim (cases_lt 0 c.0) [
        | inl later ↦
            let less : op_cmp (get_or xs 0 x) (get_or xs c.0 x) ≡ Less = Less-from_sorted op_cmp xs 0 c.0 x up later c.1 in
            let up_to : is_gt (name_cmp (get_or xs 0 x).name (get_or xs c.0 x).name) ≡ false = first_part _ _ less in
            let to_n : is_gt (name_cmp (get_or xs 0 x).name n) ≡ false = ap (λ m. is_gt (name_cmp (get_or xs 0 x).name m)) (sym (ap (λ (z : Op). z.name) c.2 ∙ named)) ∙ up_to in
            level (get_or xs 0 x).name n _ refl to_n (from 0 x some)
        | inr same ↦
            let index : 0 ≡ c.0 = omega arith in
            ap (λ k. (get_or xs k x).name) index ∙ ap (λ (z : Op). z.name) c.2 ∙ named
      ]

module _ (xs : List Op) (up : IsStrictlySortedBy op_cmp xs) (n : Name) (from : All (NotBelow n) xs) (others : List Op) (back : others ≡ drop 1 xs) (begins : BeginsWith xs n) (op : Op) (is : (d : Op) → get_or xs 0 d ≡ op) where
  split : take 1 xs ++ others ≡ xs
  split = ap (λ l. take 1 xs ++ l) back ∙ take-append-drop 1 xs

  others_rise : IsStrictlySortedBy op_cmp others
  others_rise = back_rises op_cmp (take 1 xs) others (subst (IsStrictlySortedBy op_cmp) (sym split) up)

  behind : (k : ℕ) (d : Op) → get_or others k d ≡ get_or xs (1 + k) d
  behind k d = ap (λ l. get_or l k d) back ∙ get_or-drop 1 xs k d

  long : length others ≡ length xs - 1
  long = ap length back ∙ length-drop 1 xs

  others_from : All (NotBelow n) others
  others_from k d within = ap (λ (y : Op). is_lt (name_cmp y.name n)) (behind k d) ∙ from (1 + k) d (omega (arith, long))

  -- the first is the operation, and no other has the name
  pub single : ¬ BeginsWith others n → (x : Op) → Listed xs x → x.name ≡ n → x ≡ op
  single none x c named = elim (cases_lt 0 c.0) [
    | inl later ↦
        let index : 1 + (c.0 - 1) ≡ c.0 = omega arith in
        let there : Listed others x = (c.0 - 1, omega (arith, long, c.1), behind (c.0 - 1) x ∙ ap (λ k. get_or xs k x) index ∙ c.2) in
        absurd (none_named others others_rise n others_from none x there named)
    | inr same ↦
        let index : c.0 ≡ 0 = omega arith in
        sym c.2 ∙ ap (λ k. get_or xs k x) index ∙ is x
  ]

  -- where the next one has the name too, it is another operation
  pub twice : BeginsWith others n → (other : Op) × Listed xs other × (other.name ≡ n) × (other ≢ op)
  twice b =
      let within : 1 < length xs = omega (arith, long, b.some) in
      (get_or others 0 op, (1, within, get_or_default xs 1 (get_or others 0 op) op within ∙ sym (behind 0 op)), b.named op, apart within)
    where
      apart : 1 < length xs → get_or others 0 op ≢ op
      apart within e =
          let less : op_cmp (get_or xs 0 op) (get_or xs 1 op) ≡ Less = Less-from_sorted op_cmp xs 0 1 op up (omega arith) within in
          let first : get_or xs 0 op ≡ op = is op in
          let second : get_or xs 1 op ≡ op = sym (behind 0 op) ∙ e in
          let tied : op_cmp op op ≡ Equal = tied_itself op_total op in
          let below : op_cmp op op ≡ Less = (λ j. op_cmp (sym first j) (sym second j)) ∙ less in
          absurd (cc)

-- ---- what the members from its name on have of an operation, all have

module _ (xs : List Op) (up : IsStrictlySortedBy op_cmp xs) (op : Op) (from : All (NotBelow op.name) xs) where
  pub first_other : BeginsWith xs op.name → (x : Op) → ((d : Op) → get_or xs 0 d ≡ x) → x ≢ op → (other : Op) × Listed xs other × (other.name ≡ op.name) × (other ≢ op)
  first_other begins x is apart = (x, (0, begins.some, is x), sym (ap (λ (y : Op). y.name) (is x)) ∙ begins.named x, apart)

module _ (me : ℕ) (xs : List Op) (up : IsStrictlySortedBy op_cmp xs) (op : Op) (from : All (NotBelow op.name) xs) where
  pub unknown : ¬ BeginsWith xs op.name → ¬ IsName (Listed xs) op.name
  unknown none h = none_named xs up op.name from none h.0 h.1 h.2

  pub may_begin : ¬ BeginsWith xs op.name → op.name.node ≢ me → IsNewAmong me (Listed xs) op true
  may_begin none foreign = record {
    may = record { own = λ mine. absurd (foreign mine); agrees = λ other h e. absurd (none_named xs up op.name from none other h e) };
    lacked = λ e h. none_named xs up op.name from none op h refl;
    had = λ e. absurd (cc);
  }

  pub had_already : BeginsWith xs op.name → ((x : Op) → Listed xs x → x.name ≡ op.name → x ≡ op) → IsNewAmong me (Listed xs) op false
  had_already begins alone =
      let first : Listed xs (get_or xs 0 op) = (0, begins.some, get_or_default xs 0 (get_or xs 0 op) op begins.some) in
      let there : Listed xs op = subst (Listed xs) (alone (get_or xs 0 op) first (begins.named op)) first in
      record {
        may = record { own = λ mine. (op, there, refl); agrees = alone };
        lacked = λ e. absurd (cc);
        had = λ e. there;
      }

-- those of the operation's name stand in the list, and its items are members
module _ (me : ℕ) (s : SetBy op_cmp) (xs : List Op) (op : Op) (of : (x : Op) → Listed xs x → In s x) (same : (x : Op) → In s x → x.name ≡ op.name → Listed xs x) where
  pub offends_all : (f : GossipFault) → Offends me (Listed xs) op f → Offends me (In s) op f
  offends_all (Impostor n) h = (h.0, h.1, λ named. h.2 (named.0, same named.0 named.1 named.2, named.2))
  offends_all (Clash n) h = (h.0, (h.1.0, of h.1.0 h.1.1, h.1.2, h.1.3))
  offends_all Memory h = h

  tells : (new there : Bool) → (new ≡ true → there ≢ true) → (new ≡ false → there ≡ true) → new ≡ not there
  tells true true f g = absurd (f refl refl)
  tells true false f g = refl
  tells false true f g = refl
  tells false false f g = absurd (cc (g refl))

  pub may_all : (new : Bool) → IsNewAmong me (Listed xs) op new → MayTake me (In s) op × (new ≡ not (contains s op))
  may_all new h = (
    record {
      own = λ mine. let named = h.may.own mine in (named.0, of named.0 named.1, named.2);
      agrees = λ other there e. h.may.agrees other (same other there e) e;
    },
    tells new (contains s op) (λ e there. h.lacked e (same op there refl)) (λ e. of op (h.had e)),
  )

-- ---- one operation after another

-- each of the registry is left, or below all operations from a place on
pub record LeftOf (U : Op → Type 0) (ops : List Op) (i : ℕ) (rest : List Op) : Type 0 where
  pub rise : IsStrictlySortedBy op_cmp rest
  pub of : (x : Op) → Listed rest x → U x
  pub gone : (x : Op) → U x → Listed rest x ⊎ ((k : ℕ) (d : Op) → i ≤ k → k < length ops → name_cmp x.name (get_or ops k d).name ≡ Less)

module _ (U : Op → Type 0) (ops : List Op) where
  pub left_all : (i : ℕ) (rest : List Op) → IsStrictlySortedBy op_cmp rest → ((x : Op) → Listed rest x → U x) → ((x : Op) → U x → Listed rest x) → LeftOf U ops i rest
  left_all i rest up of all = record { rise = up; of = of; gone = λ x h. inl (all x h) }

  pub left_more : (i : ℕ) (rest : List Op) → LeftOf U ops i rest → LeftOf U ops (i + 1) rest
  left_more i rest t = record {
    rise = t.rise;
    of = t.of;
    gone = λ x h. elim (t.gone x h) [ inl there ↦ inl there | inr far ↦ inr (λ k d low within. far k d (omega arith) within) ];
  }

  -- where the operations' names rise
  module _ (i : ℕ) (op : Op) (inside : i < length ops) (at : op ≡ get_or ops i op) (up : (k : ℕ) (d : Op) → i ≤ k → k < length ops → is_gt (name_cmp op.name (get_or ops k d).name) ≡ false) where
    below_rest : (x : Op) → name_cmp x.name op.name ≡ Less → (k : ℕ) (d : Op) → i ≤ k → k < length ops → name_cmp x.name (get_or ops k d).name ≡ Less
    below_rest x less k d low within = under x.name op.name (get_or ops k d).name less (up k d low within)
      where
        next : (a b c : Name) (r : Ordering) → name_cmp b c ≡ r → is_gt r ≡ false → name_cmp a b ≡ Less → name_cmp a c ≡ Less
        next a b c Less e g h = name_total.trans a b c h e
        next a b c Equal e g h = ap (name_cmp a) (sym (name_exact b c e)) ∙ h
        next a b c Greater e g h = absurd (cc)

        under : (a b c : Name) → name_cmp a b ≡ Less → is_gt (name_cmp b c) ≡ false → name_cmp a c ≡ Less
        under a b c h g = next a b c (name_cmp b c) refl g h

    pub left_from : (rest from : List Op) → LeftOf U ops i rest → IsFrom rest op.name from → LeftOf U ops i from
    left_from rest from t f = record {
      rise = f.rise;
      of = λ x h. t.of x (subst (λ l. Contains l x) (sym f.whole) (Contains-append_right f.before from x h));
      gone = λ x h. elim (t.gone x h) [
        | inl there ↦ elim (Contains-append_cases f.before from x (subst (λ l. Contains l x) f.whole there)) [
          | inl low ↦ inr (below_rest x (All-contains (λ (y : Op). name_cmp y.name op.name ≡ Less) f.before x f.below low))
          | inr high ↦ inl high
        ]
        | inr far ↦ inr far
      ];
    }

    -- those of the operation's name are left
    pub same_left : (rest : List Op) → LeftOf U ops i rest → (x : Op) → U x → x.name ≡ op.name → Listed rest x
    same_left rest t x h named = elim (t.gone x h) [
      | inl there ↦ there
      | inr far ↦
          let less : name_cmp x.name (get_or ops i op).name ≡ Less = far i op (omega arith) inside in
          let tied : name_cmp op.name op.name ≡ Equal = tied_itself name_total op.name in
          let below : name_cmp op.name op.name ≡ Less = (λ j. name_cmp (sym named j) (at j).name) ∙ less in
          absurd (cc)
    ]

-- the names of operations of a packet rise
pub packet_rises : (ops : List Op) (i : ℕ) (op : Op) → i < length ops → op ≡ get_or ops i op → IsStrictlySortedBy by_name ops
    → (k : ℕ) (d : Op) → i ≤ k → k < length ops → is_gt (name_cmp op.name (get_or ops k d).name) ≡ false
packet_rises ops i op inside at up k d low within = elim (cases_lt i k) [
  | inl later ↦
      let here : get_or ops i d ≡ op = get_or_default ops i d op inside ∙ sym at in
      let next : by_name (get_or ops i d) (get_or ops k d) ≡ Less = Less-from_sorted by_name ops i k d up later within in
      ap is_gt (ap (λ (y : Op). by_name y (get_or ops k d)) (sym here) ∙ next)
  | inr same ↦
      let index : i ≡ k = omega arith in
      let is : op ≡ get_or ops k d = at ∙ get_or_default ops i op d inside ∙ ap (λ m. get_or ops m d) index in
      ap is_gt (ap (λ (y : Op). name_cmp op.name y.name) (sym is) ∙ tied_itself name_total op.name)
]

-- so do those of operations that rise
pub ops_rise : (ops : List Op) (i : ℕ) (op : Op) → i < length ops → op ≡ get_or ops i op → IsStrictlySortedBy op_cmp ops
    → (k : ℕ) (d : Op) → i ≤ k → k < length ops → is_gt (name_cmp op.name (get_or ops k d).name) ≡ false
ops_rise ops i op inside at up k d low within = elim (cases_lt i k) [
  | inl later ↦
      let here : get_or ops i d ≡ op = get_or_default ops i d op inside ∙ sym at in
      let next : op_cmp (get_or ops i d) (get_or ops k d) ≡ Less = Less-from_sorted op_cmp ops i k d up later within in
      let up_to : op_cmp op (get_or ops k d) ≡ Less = ap (λ (y : Op). op_cmp y (get_or ops k d)) (sym here) ∙ next in
      first_part _ _ up_to
  | inr same ↦
      let index : i ≡ k = omega arith in
      let is : op ≡ get_or ops k d = at ∙ get_or_default ops i op d inside ∙ ap (λ m. get_or ops m d) index in
      ap is_gt (ap (λ (y : Op). name_cmp op.name y.name) (sym is) ∙ tied_itself name_total op.name)
]

-- ---- the members of one node after another

-- what `==` says of the node before
pub same_node : (of : Option ℕ) (n : ℕ) (b : Bool) → b ≡ option_eq nat_eq of (Some n) → b ≡ true → of ≡ Some n
same_node None n b is h = absurd (cc)
same_node (Some m) n b is h = ap Some (grind (arith, nat_tests, is, h))

-- the members of the node
abbrev pub AtNode : SetBy op_cmp → Option ℕ → Op → Type 0
AtNode s node x = In s x × (node ≡ Some x.name.node)

module _ (s : SetBy op_cmp) (ops : List Op) where
  pub left_none : (rest : List Op) → rest ≡ [] → LeftOf (AtNode s None) ops 0 rest
  unfolding IsStrictlySortedBy
  left_none rest none = subst (LeftOf (AtNode s None) ops 0) (sym none) (left_all (AtNode s None) ops 0 [] tt (λ x c. absurd (omega (arith, c.1))) (λ x h. absurd (none_some x.name.node h.1)))
    where
      none_some : (n : ℕ) → None ≡ Some n → ⊥
      none_some n e = cc

  module _ (i : ℕ) (op : Op) (inside : i < length ops) (at : op ≡ get_or ops i op) (up : IsStrictlySortedBy by_name ops) where
    pub left_ahead : (node : Option ℕ) (left rest : List Op) → LeftOf (AtNode s node) ops i left → IsAhead s node left op.name rest → LeftOf (AtNode s (Some op.name.node)) ops i rest
    left_ahead of left rest t (inl f) =
        left_from (AtNode s (Some op.name.node)) ops i op inside at (packet_rises ops i op inside at up) left rest (subst (λ n. LeftOf (AtNode s n) ops i left) f.0 t) f.1
    left_ahead of left rest t (inr f) =
        let a = f.1 in
        left_from (AtNode s (Some op.name.node)) ops i op inside at (packet_rises ops i op inside at up) f.0 rest
        (left_all (AtNode s (Some op.name.node)) ops i f.0 a.rise (λ x h. let p = a.only x h in (p.0, ap Some (sym p.1))) (λ x h. a.all x h.0 (same_number op.name.node x.name.node h.1)))
        f.2
      where
        same_number : (m n : ℕ) → Some m ≡ Some n → n ≡ m
        same_number m n e = cc

    pub member_left : (rest : List Op) → LeftOf (AtNode s (Some op.name.node)) ops i rest → (x : Op) → In s x → x.name ≡ op.name → Listed rest x
    member_left rest t x h named = same_left (AtNode s (Some op.name.node)) ops i op inside at (packet_rises ops i op inside at up) rest t x (h, ap (λ (m : Name). Some m.node) (sym named)) named

    pub left_member : (rest : List Op) → LeftOf (AtNode s (Some op.name.node)) ops i rest → (x : Op) → Listed rest x → In s x
    left_member rest t x h = (t.of x h).0

-- what is ahead of a name is not below it
pub ahead_from : (s : SetBy op_cmp) (node : Option ℕ) (left : List Op) (n : Name) (rest : List Op) → IsAhead s node left n rest → IsStrictlySortedBy op_cmp rest × All (NotBelow n) rest
ahead_from s of left n rest (inl f) = (f.1.rise, f.1.above)
ahead_from s of left n rest (inr f) = (f.2.rise, f.2.above)
