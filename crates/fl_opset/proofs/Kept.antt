-- The spans that are kept beside a set, as it changes.
use Rattle.std.proofs.Common.{◌≡◌, ◌≢◌, ◌⊎◌, inl, inr, Bool, true, false, ◌&&◌, ◌||◌, not, List, [], refl, sym, ap, subst, ◌∙◌, leb, Result, Ok, Err, OnOk, OnErr, is_ok}
use Rattle.std.specs.Cmp.{Equal-is, tied_itself}
use Rattle.std.specs.List.Sorted.{IsStrictlySortedBy}
use Rattle.std.specs.Ordering.{eq_by_cmp, is_eq}
use Rattle.std.proofs.lemmas.Bool.{cases_eq, false≢true, or_cases}
use Rattle.std.proofs.lemmas.List.Folds.{list_any_at, Any-from_list_any}
use Rattle.fl_labels.specs.declared.name.Name.{Name}
use Rattle.fl_labels.specs.SetBy.{SetBy, In, of_list, contains, contains-empty, contains-insert, contains-remove, contains-union}
use Rattle.fl_labels.specs.SetBy as set
use Rattle.fl_labels.specs.laws.SortedVec.{Lists}
use Rattle.fl_ops.specs.declared.op.Op.{Op}
use Rattle.fl_ops.specs.OpLaws.{op_total, op_exact}
use Rattle.fl_ops.specs.OpOrder.{op_cmp}
use Rattle.fl_opset.specs.declared.node_ops.NodeOps.{NodeOps}
use Rattle.fl_opset.specs.declared.span.Span.{Span}
use Rattle.fl_opset.specs.Rank.{name_rank, op_rank, last_rank, least_rank, greatest_rank}
use Rattle.fl_opset.specs.Spans.{fit}
use Rattle.fl_opset.specs.Windows.{IsName, AreSpans}
use Rattle.fl_opset.specs.parts.Kept.{has_rank, ChangeAt, HaveNames, AddNames, AreKept, AreKeptByNode}
use Rattle.fl_opset.specs.laws.ByRank.{rank_exact}
use Rattle.fl_opset.specs.laws.Members.{listed_in}
use Rattle.fl_opset.proofs.ByNode.{rise_none, none_by_node}
use Rattle.fl_opset.proofs.Walk.{are_spans}

-- ---- sets

same_op : (x y : Op) → eq_by_cmp op_cmp x y ≡ true → x ≡ y
same_op x y h = op_exact x y ((Equal-is (op_cmp x y)).0 h)

itself : (x y : Op) → x ≡ y → eq_by_cmp op_cmp x y ≡ true
itself x y e = ap is_eq (ap (op_cmp x) (sym e) ∙ tied_itself op_total x)

other : (x y : Op) → x ≢ y → eq_by_cmp op_cmp x y ≡ false
other x y apart = go (eq_by_cmp op_cmp x y) refl
  where
    go : (b : Bool) → eq_by_cmp op_cmp x y ≡ b → eq_by_cmp op_cmp x y ≡ false
    go true e = absurd (apart (same_op x y e))
    go false e = e

in_insert : (s : SetBy op_cmp) (x q : Op) → In (set.insert s x) q → (q ≡ x) ⊎ In s q
in_insert s x q h = elim (or_cases _ _ (sym (contains-insert op_total s x q) ∙ h)) [
  | inl same ↦ inl (same_op q x same)
  | inr old ↦ inr old
]

insert_new : (s : SetBy op_cmp) (x : Op) → In (set.insert s x) x
insert_new s x = contains-insert op_total s x x ∙ ap (λ b. b || contains s x) (itself x x refl)

or_true : (b : Bool) → (b || true) ≡ true
or_true true = refl
or_true false = refl

insert_old : (s : SetBy op_cmp) (x q : Op) → In s q → In (set.insert s x) q
insert_old s x q h = contains-insert op_total s x q ∙ ap (λ b. eq_by_cmp op_cmp q x || b) h ∙ or_true (eq_by_cmp op_cmp q x)

both_parts : (a b : Bool) → (a && b) ≡ true → (a ≡ true) × (b ≡ true)
both_parts true b h = (refl, h)
both_parts false b h = absurd (false≢true h)

not_true : (b : Bool) → not b ≡ true → b ≡ false
not_true true h = absurd (false≢true h)
not_true false h = refl

in_remove : (s : SetBy op_cmp) (x q : Op) → In (set.remove s x) q → (eq_by_cmp op_cmp q x ≡ false) × In s q
in_remove s x q h =
    let p = both_parts _ _ (sym (contains-remove op_total s x q) ∙ h) in (not_true _ p.0, p.1)

remove_other : (s : SetBy op_cmp) (x q : Op) → eq_by_cmp op_cmp q x ≡ false → In s q → In (set.remove s x) q
remove_other s x q apart h = contains-remove op_total s x q ∙ (λ i. not (apart i) && h i)

-- ---- the names of a set that changes

no_names : HaveNames (In (set.empty {R = op_cmp})) []
no_names = record {
  only = λ n there. absurd (false≢true there);
  all = λ n named. absurd (false≢true (sym (contains-empty op_cmp named.0) ∙ named.1));
}

module _ (s : SetBy op_cmp) (op : Op) (ss : List Span) (names : HaveNames (In s) ss) where
  names_insert : (ts : List Span) → ChangeAt (op_rank op) true ss ts → HaveNames (In (set.insert s op)) ts
  names_insert ts ch = record {
    only = λ n there. elim (cases_eq (name_rank n) (op_rank op)) [
      | inl same ↦ (op, insert_new s op, rank_exact op.name n (sym same))
      | inr apart ↦
          let named = names.only n (sym (ch.others (name_rank n) apart) ∙ there) in
          (named.0, insert_old s op named.0 named.1, named.2)
    ];
    all = λ n named. elim (cases_eq (name_rank n) (op_rank op)) [
      | inl same ↦ subst (λ k. has_rank ts k ≡ true) (sym same) ch.here
      | inr apart ↦ elim (in_insert s op named.0 named.1) [
        | inl is ↦ absurd (apart (ap name_rank (sym named.2) ∙ ap op_rank is))
        | inr old ↦ ch.others (name_rank n) apart ∙ names.all n (named.0, old, named.2)
      ]
    ];
  }

  names_remove : (ts : List Span) → ((q : Op) → In s q → q.name ≡ op.name → q ≡ op) → ChangeAt (op_rank op) false ss ts
      → HaveNames (In (set.remove s op)) ts
  names_remove ts lone ch = record {
    only = λ n there. elim (cases_eq (name_rank n) (op_rank op)) [
      | inl same ↦ absurd (false≢true (sym ch.here ∙ subst (λ k. has_rank ts k ≡ true) same there))
      | inr apart ↦
          let named = names.only n (sym (ch.others (name_rank n) apart) ∙ there) in
          (named.0, remove_other s op named.0 (other named.0 op (λ is. apart (ap name_rank (sym named.2) ∙ ap op_rank is))) named.1, named.2)
    ];
    all = λ n named.
        let old = in_remove s op named.0 named.1 in
        elim (cases_eq (name_rank n) (op_rank op)) [
          | inl same ↦
              let is = lone named.0 old.1 (named.2 ∙ rank_exact n op.name same) in
              absurd (false≢true (sym old.0 ∙ itself named.0 op is))
          | inr apart ↦ ch.others (name_rank n) apart ∙ names.all n (named.0, old.1, named.2)
        ];
  }

  -- another member has the name
  names_shared : (q : Op) → In s q → q.name ≡ op.name → q ≢ op → HaveNames (In (set.remove s op)) ss
  names_shared q in_s same apart = record {
    only = λ n there. let named = names.only n there in stays n named.0 named.1 named.2 (eq_by_cmp op_cmp named.0 op) refl;
    all = λ n named. let old = in_remove s op named.0 named.1 in names.all n (named.0, old.1, named.2);
  }
    where
      stays : (n : Name) (x : Op) → In s x → x.name ≡ n → (b : Bool) → eq_by_cmp op_cmp x op ≡ b → IsName (In (set.remove s op)) n
      stays n x in_x at true e = (q, remove_other s op q (other q op apart) in_s, same ∙ ap (λ (y : Op). y.name) (sym (same_op x op e)) ∙ at)
      stays n x in_x at false e = (x, remove_other s op x e in_x, at)

module _ (s : SetBy op_cmp) (ss : List Span) (names : HaveNames (In s) ss) where
  names_union : (t : SetBy op_cmp) (ops : List Op) (ts : List Span) → of_list ops ≡ t → AddNames ops ss ts → HaveNames (In (set.union s t)) ts
  names_union t ops ts view a = record {
    only = λ n there. elim (a.only n there) [
      | inl old ↦ let named = names.only n old in (named.0, contains-union op_total s t named.0 ∙ ap (λ b. b || contains t named.0) named.1, named.2)
      | inr named ↦
          (named.0, contains-union op_total s t named.0 ∙ ap (λ b. contains s named.0 || b) ((listed_in ops t view named.0).0 named.1) ∙ or_true (contains s named.0), named.2)
    ];
    all = λ n named. elim (or_cases _ _ (sym (contains-union op_total s t named.0) ∙ named.1)) [
      | inl old ↦ a.old n (names.all n (named.0, old, named.2))
      | inr new ↦ a.new n (named.0, (listed_in ops t view named.0).1 new, named.2)
    ];
  }

names_listed : (ops : List Op) (s : SetBy op_cmp) (ss : List Span) → of_list ops ≡ s → AddNames ops [] ss → HaveNames (In s) ss
names_listed ops s ss view a = record {
  only = λ n there. elim (a.only n there) [
    | inl none ↦ absurd (false≢true none)
    | inr named ↦ (named.0, (listed_in ops s view named.0).0 named.1, named.2)
  ];
  all = λ n named. a.new n (named.0, (listed_in ops s view named.0).1 named.1, named.2);
}

-- spans that fit and have a registry's names are its spans
spans_have : (U : Op → Type 0) (ss : List Span) → fit least_rank greatest_rank ss ≡ true → HaveNames U ss → AreSpans U ss
spans_have U ss h names = are_spans least_rank greatest_rank ss h (record {
  held = λ s in_ss n inside. names.only n (list_any_at (λ (t : Span). leb (name_rank t.first) (name_rank n) && leb (name_rank n) (last_rank t)) ss in_ss.0 s in_ss.1 (ap (λ (t : Span). leb (name_rank t.first) (name_rank n) && leb (name_rank n) (last_rank t)) in_ss.2 ∙ inside));
  covered = λ op in_U.
      let w = Any-from_list_any (λ (t : Span). leb (name_rank t.first) (op_rank op) && leb (op_rank op) (last_rank t)) ss (names.all op.name (op, in_U, refl)) in
      (w.1, (w.0, w.2, w.3), w.4);
})

-- ---- what is kept

pub kept_none : (ops : List Op) (ss : List Span) (known : Bool) → IsStrictlySortedBy op_cmp ops → ops ≡ [] → ss ≡ [] → AreKept ops ss known
kept_none ops ss known up none empty =
    subst (λ l. AreKept l ss known) (sym none) (subst (λ l. AreKept [] l known) (sym empty) (record {
      rises = subst (IsStrictlySortedBy op_cmp) none up;
      fits = refl;
      names = λ h. no_names;
    }))

pub kept_nothing : (ns : List NodeOps) (ss : List Span) (known : Bool) → ns ≡ [] → ss ≡ [] → AreKeptByNode ns 0 ss known
kept_nothing ns ss known none empty =
    subst (λ l. AreKeptByNode l 0 ss known) (sym none) (record {
      by_node = none_by_node;
      counted = refl;
      kept = kept_none [] ss known (rise_none op_cmp) refl empty;
    })

module _ (ops : List Op) (ss : List Span) (known : Bool) (s : SetBy op_cmp) (k : AreKept ops ss known) (view : of_list ops ≡ s) where
  names_of : known ≡ true → HaveNames (In s) ss
  names_of h = subst (λ t. HaveNames (In t) ss) view (k.names h)

  pub kept_spans : known ≡ true → AreSpans (In s) ss
  kept_spans h = spans_have (In s) ss k.fits (names_of h)

  module _ (zs : List Op) (ts : List Span) (still : Bool) (t : SetBy op_cmp) (new : Lists op_cmp zs t) where
    kept_as : fit least_rank greatest_rank ts ≡ true → (still ≡ true → HaveNames (In t) ts) → AreKept zs ts still
    kept_as fits names = record {
      rises = new.rises;
      fits = fits;
      names = λ h. subst (λ u. HaveNames (In u) ts) (sym new.view) (names h);
    }

    -- after a change of the spans, which may have had no memory
    kept_after : {T E : Type 0} (r : Result T E) → still ≡ (known && is_ok r) → fit least_rank greatest_rank ts ≡ true
        → OnOk r (HaveNames (In s) ss → HaveNames (In t) ts) → AreKept zs ts still
    kept_after (Ok u) is fits step = kept_as fits (λ h. step (names_of (both_parts known true (sym is ∙ h)).0))
    kept_after (Err e) is fits step = kept_as fits (λ h. absurd (false≢true (both_parts known false (sym is ∙ h)).1))

    pub kept_union : {T E : Type 0} (r : Result T E) (u : SetBy op_cmp) (more : List Op) → still ≡ (known && is_ok r) → t ≡ set.union s u
        → of_list more ≡ u → fit least_rank greatest_rank ts ≡ true → OnOk r (AddNames more ss ts) → AreKept zs ts still
    kept_union r u more is to all fits added = kept_after r is fits (go r added)
      where
        go : {T E : Type 0} (r : Result T E) → OnOk r (AddNames more ss ts) → OnOk r (HaveNames (In s) ss → HaveNames (In t) ts)
        go (Ok x) a = λ names. subst (λ t. HaveNames (In t) ts) (sym to) (names_union s ss names u more ts all a)
        go (Err e) a = tt

    module _ {T E : Type 0} (r : Result T E) (op : Op) (same : OnErr r (ts ≡ ss)) where
      still_fits : (there : Bool) → OnOk r (ChangeAt (op_rank op) there ss ts) → fit least_rank greatest_rank ts ≡ true
      still_fits there ch = go r same ch
        where
          go : {T E : Type 0} (r : Result T E) → OnErr r (ts ≡ ss) → OnOk r (ChangeAt (op_rank op) there ss ts) → fit least_rank greatest_rank ts ≡ true
          go (Ok x) e ch = ch.fits
          go (Err x) e ch = subst (λ l. fit least_rank greatest_rank l ≡ true) (sym e) k.fits

      pub kept_add : still ≡ (known && is_ok r) → t ≡ set.insert s op → OnOk r (ChangeAt (op_rank op) true ss ts) → AreKept zs ts still
      kept_add is to ch = kept_after r is (still_fits true ch) (go r ch)
        where
          go : {T E : Type 0} (r : Result T E) → OnOk r (ChangeAt (op_rank op) true ss ts) → OnOk r (HaveNames (In s) ss → HaveNames (In t) ts)
          go (Ok x) ch = λ names. subst (λ t. HaveNames (In t) ts) (sym to) (names_insert s op ss names ts ch)
          go (Err x) ch = tt

      pub kept_remove : still ≡ (known && is_ok r) → t ≡ set.remove s op → ((q : Op) → In s q → q.name ≡ op.name → q ≡ op)
          → OnOk r (ChangeAt (op_rank op) false ss ts) → AreKept zs ts still
      kept_remove is to lone ch = kept_after r is (still_fits false ch) (go r ch)
        where
          go : {T E : Type 0} (r : Result T E) → OnOk r (ChangeAt (op_rank op) false ss ts) → OnOk r (HaveNames (In s) ss → HaveNames (In t) ts)
          go (Ok x) ch = λ names. subst (λ t. HaveNames (In t) ts) (sym to) (names_remove s op ss names ts lone ch)
          go (Err x) ch = tt

    pub kept_shared : (op q : Op) → ts ≡ ss → still ≡ known → t ≡ set.remove s op → In s q → q.name ≡ op.name → q ≢ op → AreKept zs ts still
    kept_shared op q same is to in_s named apart =
        kept_as (subst (λ l. fit least_rank greatest_rank l ≡ true) (sym same) k.fits)
        (λ h. subst (λ t. HaveNames (In t) ts) (sym to)
        (subst (HaveNames (In (set.remove s op))) (sym same) (names_shared s op ss (names_of (sym is ∙ h)) q in_s named apart)))

  -- the same set in another list
  pub kept_alike : (zs : List Op) → Lists op_cmp zs s → AreKept zs ss known
  kept_alike zs new = kept_as zs ss known s new k.fits names_of

-- spans that a walk found
pub kept_found : (ops : List Op) (ss : List Span) (known : Bool) → IsStrictlySortedBy op_cmp ops → AddNames ops [] ss → AreKept ops ss known
kept_found ops ss known up a = record { rises = up; fits = a.fits; names = λ h. names_listed ops (of_list ops) ss refl a }

pub found_spans : (ops : List Op) (s : SetBy op_cmp) (ss : List Span) → of_list ops ≡ s → AddNames ops [] ss → AreSpans (In s) ss
found_spans ops s ss view a = spans_have (In s) ss a.fits (names_listed ops s ss view a)
