-- Rows closed under the operations of an index.
use Rattle.std.specs.Prelude.{◌≡◌, ◌⊎◌, ◌↔◌, Bool, true, false, ◌||◌, ◌&&◌, OnOk, OnErr, Option, None, Some, MatchOption, Result, Ok, Err, List, [], ◌∷◌, ◌++◌, refl}
use Rattle.std.proofs.Common.{inl, inr, sym, ap, subst, ◌∙◌}
use Rattle.std.specs.Cmp.{Equal-is, tied_itself}
use Rattle.std.specs.List.{Contains}
use Rattle.std.specs.Ordering.{eq_by_cmp, is_eq}
use Rattle.std.proofs.lemmas.Bool.{or_cases, false≢true}
use Rattle.std.proofs.lemmas.List.Elements.{Contains-append_cases, Contains-append_left, Contains-append_right}
use Rattle.fl_labels.specs.Cap.{cap_cmp, is_use}
use Rattle.fl_labels.specs.CapOrder.{cap_total, cap_exact}
use Rattle.fl_labels.specs.Caps.{Caps}
use Rattle.fl_labels.specs.Found.{Within, Tells}
use Rattle.fl_labels.specs.SetBy as set
use Rattle.fl_labels.specs.SetBy.{SetBy, In, contains-empty, contains-insert, contains-union, contains-of_list, same_set}
use Rattle.fl_labels.specs.declared.name.Name.{Name}
use Rattle.fl_labels.specs.declared.cap.Cap.{Cap}
use Rattle.fl_labels.specs.declared.cap.Cap.TheVariants.{Plus, Minus, Use, Grow}
use Rattle.fl_labels.specs.Uses.{AreUsesOf}
use Rattle.fl_ops.specs.declared.digest.Digest.{Digest}
use Rattle.fl_ops.specs.declared.op.Op.{Op}
use Rattle.fl_ops.specs.declared.op.Policy.TheVariants.{Export, Integrity}
use Rattle.fl_ops.specs.Logins.{FindsLogin, HasNoLogin, IsFirstLogin}
use Rattle.fl_ops.specs.OpOrder.{op_cmp}
use Rattle.fl_ops.specs.OpLaws.{op_total, op_exact}
use Rattle.fl_ops.specs.Registry.{Registry, Listed, Chain, here, into, Reach, From, tag_op, login_op, open_op, IsGlobal, WithGlobal, InEffect}
use Rattle.fl_opset.specs.laws.Members.{listed_in}
use Rattle.fl_ops.specs.laws.Reaching.{chain_more, from_chain, chain_from, owned_eff, global_more}
use Rattle.fl_closure.specs.declared.rows.Rows.{Rows}
use Rattle.fl_closure.specs.declared.rows.Owner.{Owner}
use Rattle.fl_closure.specs.declared.rows.Owner.TheVariants.{Everybody, Group}
use Rattle.fl_closure.specs.declared.closure.Closure.{Closure}
use Rattle.fl_closure.specs.declared.closure.News.{News}
use Rattle.fl_closure.specs.declared.witness.Witness.{Witness}
use Rattle.fl_closure.specs.Witness.{ReachedBy, IsWitness, Owns, Shows}
use Rattle.fl_closure.specs.parts.Rows.{Holds, ComesUpon}
use Rattle.fl_closure.specs.parts.Closed.{Alone, Gives, IsGiven, AreClosed, Behind, ComesBehind, Leads, With}
use Rattle.fl_closure.specs.parts.Globals.{Has}
use Rattle.fl_closure.specs.parts.Closure.{IsClosure, FollowsWith, GainsAll, LosesAll}
use Rattle.fl_closure.specs.parts.Knowing.{AreLogins, IsHeld, IsKnown}
use Rattle.fl_closure.proofs.Members.{none, one, first, any_has, has_any}
use Rattle.fl_closure.proofs.Following.{same_closure, undone}
use Rattle.fl_closure.proofs.Growing.{leads_chain, chain_leads, are_transitive}
use Rattle.fl_closure.specs.laws.Told.{told, told_yes}

pub closure_of_none : (ops : List Op) (closure : Closure) → ops ≡ [] → IsClosure (λ (op : Op). ⊥) closure
    → IsClosure (In (set.of_list {R = op_cmp} ops)) closure
closure_of_none ops closure e is = same_closure (λ op. (λ never. absurd never, λ m. no_member op m)) is
  where
    no_member : (op : Op) → In (set.of_list {R = op_cmp} ops) op → ⊥
    no_member op m =
        false≢true (sym (ap (λ l. set.contains (set.of_list {R = op_cmp} l) op) e ∙ contains-empty op_cmp op) ∙ m)

pub logins_of_none : (ops : List Op) (logins : SetBy op_cmp) → ops ≡ [] → logins ≡ set.empty
    → AreLogins (In (set.of_list {R = op_cmp} ops)) logins
logins_of_none ops logins e is = record {
  only = λ op m. absurd (false≢true (sym (ap (λ (s : SetBy op_cmp). set.contains s op) is ∙ contains-empty op_cmp op) ∙ m));
  all = λ name c digest m. absurd (false≢true (sym (ap (λ l. set.contains (set.of_list {R = op_cmp} l) (login_op name c digest)) e ∙ contains-empty op_cmp (login_op name c digest)) ∙ m));
}

pub or_first : {a : Bool} (b : Bool) → a ≡ true → (a || b) ≡ true
or_first b h = ap (λ x. x || b) h

pub or_later : (a : Bool) {b : Bool} → b ≡ true → (a || b) ≡ true
or_later true h = refl
or_later false h = h

-- ---- operations more

in_list : (l : List Op) (o : Op) → In (set.of_list {R = op_cmp} l) o → Contains l o
in_list l o m = (listed_in l (set.of_list l) refl o).1 m

list_in : (l : List Op) (o : Op) → Contains l o → In (set.of_list {R = op_cmp} l) o
list_in l o m = (listed_in l (set.of_list l) refl o).0 m

either : (a b : Bool) → (a ≡ true → b ≡ true) → (b ≡ true → a ≡ true) → a ≡ b
either true b to from = sym (to refl)
either false true to from = absurd (false≢true (from refl))
either false false to from = refl

-- the members of both lists
pub both : (l ops : List Op) (o : Op) → With (set.of_list {R = op_cmp} l) ops o ↔ In (set.of_list {R = op_cmp} (l ++ ops)) o
both l ops o = (
  λ h. list_in (l ++ ops) o (elim h [
    | inl m ↦ Contains-append_left l ops o (in_list l o m)
    | inr m ↦ Contains-append_right l ops o m
  ]),
  λ h. elim (Contains-append_cases l ops o (in_list (l ++ ops) o h)) [ inl m ↦ inl (list_in l o m) | inr m ↦ inr m ],
)

pub of_both : (l ops : List Op) → set.of_list {R = op_cmp} (l ++ ops) ≡ set.union (set.of_list l) (set.of_list ops)
of_both l ops = same_set op_total op_exact _ _ (λ o. either _ _ (to o) (from o) ∙ sym (contains-union op_total (set.of_list l) (set.of_list ops) o))
  where
    to : (o : Op) → In (set.of_list {R = op_cmp} (l ++ ops)) o → (set.contains (set.of_list {R = op_cmp} l) o || set.contains (set.of_list {R = op_cmp} ops) o) ≡ true
    to o h = elim ((both l ops o).1 h) [
      | inl m ↦ or_first _ m
      | inr m ↦ or_later (set.contains (set.of_list {R = op_cmp} l) o) (list_in ops o m)
    ]

    from : (o : Op) → (set.contains (set.of_list {R = op_cmp} l) o || set.contains (set.of_list {R = op_cmp} ops) o) ≡ true → In (set.of_list {R = op_cmp} (l ++ ops)) o
    from o h = (both l ops o).0 (elim (or_cases _ _ h) [ inl m ↦ inl m | inr m ↦ inr (in_list ops o m) ])

pub of_after : (l ops after : List Op) (s : SetBy op_cmp) → set.of_list l ≡ s → after ≡ l ++ ops
    → set.of_list after ≡ set.union s (set.of_list ops)
of_after l ops after s view e = ap set.of_list e ∙ of_both l ops ∙ ap (λ t. set.union t (set.of_list ops)) view

pub closure_after : (l ops after : List Op) (old new : Closure) → after ≡ l ++ ops → IsClosure (In (set.of_list {R = op_cmp} l)) old
    → FollowsWith old ops new → IsClosure (In (set.of_list {R = op_cmp} after)) new
closure_after l ops after old new e closure follows =
    subst (λ t. IsClosure (In (set.of_list {R = op_cmp} t)) new) (sym e) (same_closure (both l ops) (follows (set.of_list l) closure))

pub logins_after : (l ops after : List Op) (old more new : SetBy op_cmp) → after ≡ l ++ ops
    → AreLogins (In (set.of_list {R = op_cmp} l)) old → AreLogins (Listed ops) more → new ≡ set.union old more
    → AreLogins (In (set.of_list {R = op_cmp} after)) new
logins_after l ops after old more new e before are is =
    subst (λ t. AreLogins (In (set.of_list {R = op_cmp} t)) new) (sym e) (subst (AreLogins (In (set.of_list {R = op_cmp} (l ++ ops)))) (sym is) (record {
      only = λ op m. (both l ops op).0 (elim (or_cases _ _ (sym (contains-union op_total old more op) ∙ m)) [
        | inl k ↦ inl (before.only op k)
        | inr k ↦ inr (are.only op k)
      ]);
      all = λ name c digest u. contains-union op_total old more (login_op name c digest) ∙ elim ((both l ops (login_op name c digest)).1 u) [
        | inl k ↦ or_first _ (before.all name c digest k)
        | inr k ↦ or_later (set.contains old (login_op name c digest)) (are.all name c digest k)
      ];
    }))

-- ---- operations that change nothing

module _ (s : SetBy op_cmp) (closure : Closure) (is : IsClosure (In s) closure) where
  is_given : (owner : Owner) (c : Cap) → IsHeld closure owner c → Holds closure.rows.reached owner c
  is_given (Group group) c h = h
  is_given Everybody c h =
      let g = (is.globals c).0 h in
      (is.closed.way Everybody c).1 (c, g, here)

  -- what a member gives is there
  member_held : (op : Op) → In s op → (owner : Owner) (c : Cap) → Gives op owner c → IsHeld closure owner c
  member_held op m (Group group) c p = (is.closed.way (Group group) c).1 (c, (op, m, p), here)
  member_held op m Everybody c p = (is.globals c).1 (op, m, p)

  module _ (ops : List Op) (held : (op : Op) → Contains ops op → (owner : Owner) (c : Cap) → Gives op owner c → IsHeld closure owner c) where
    given_held : (owner : Owner) (c : Cap) → IsGiven (With s ops) owner c → Holds closure.rows.reached owner c
    given_held owner c (op, inl m, p) = (is.closed.way owner c).1 (c, (op, m, p), here)
    given_held owner c (op, inr m, p) = is_given owner c (held op m owner c p)

    on_held : {b c : Cap} (owner : Owner) → Holds closure.rows.reached owner b → Chain (With s ops) b c → Holds closure.rows.reached owner c
    on_held owner h here = h
    on_held owner h (into {op} {group} {b} u p rest) =
        on_held owner ((are_transitive is.closed).on owner group b h (given_held (Group group) b (op, u, p))) rest

    pub all_held : IsClosure (With s ops) closure
    all_held = record {
      closed = record {
        way = λ owner c. (
          λ h. let w = (is.closed.way owner c).0 h in (w.0, (w.1.0, inl w.1.1, w.1.2), chain_more (λ o m. inl m) w.2),
          λ w. on_held owner (given_held owner w.0 w.1) w.2,
        );
      };
      mirrored = is.mirrored;
      globals = λ c. (
        λ h. let g = (is.globals c).0 h in (g.0, inl g.1, g.2),
        λ g. elim g.1 [ inl m ↦ (is.globals c).1 (g.0, m, g.2) | inr m ↦ held g.0 m Everybody c g.2 ],
      );
    }

pub closure_known : (l ops after : List Op) (closure : Closure) (logins : SetBy op_cmp) → after ≡ l ++ ops
    → IsClosure (In (set.of_list {R = op_cmp} l)) closure → Within (Listed ops) (IsKnown closure logins)
    → IsClosure (In (set.of_list {R = op_cmp} after)) closure
closure_known l ops after closure logins e is known =
    subst (λ t. IsClosure (In (set.of_list {R = op_cmp} t)) closure) (sym e)
    (same_closure (both l ops) (all_held (set.of_list l) closure is ops (λ op m. (known op m).follows.held)))

pub logins_known : (l ops after : List Op) (closure : Closure) (logins : SetBy op_cmp) → after ≡ l ++ ops
    → AreLogins (In (set.of_list {R = op_cmp} l)) logins → Within (Listed ops) (IsKnown closure logins)
    → AreLogins (In (set.of_list {R = op_cmp} after)) logins
logins_known l ops after closure logins e are known =
    subst (λ t. AreLogins (In (set.of_list {R = op_cmp} t)) logins) (sym e) (record {
      only = λ op m. (both l ops op).0 (inl (are.only op m));
      all = λ name c digest u. elim ((both l ops (login_op name c digest)).1 u) [
        | inl k ↦ are.all name c digest k
        | inr k ↦ (known _ k).login name c digest refl
      ];
    })

-- what was added, and then taken out as it was noted
pub closure_undone : (l last : List Op) (old mid new : Closure) (news : News) → last ≡ l → IsClosure (In (set.of_list {R = op_cmp} l)) old
    → GainsAll old news mid → LosesAll mid news new → IsClosure (In (set.of_list {R = op_cmp} last)) new
closure_undone l last old mid new news e closure gains loses =
    subst (λ t. IsClosure (In (set.of_list {R = op_cmp} t)) new) (sym e) (undone (In (set.of_list l)) old mid new news closure gains loses)

-- ---- what is new

module _ (s : SetBy op_cmp) where
  abbrev AnyNew : List Op → Type 0
  AnyNew ops = (op : Op) × Contains ops op × (set.contains s op ≡ false)

  abbrev NoneNew : List Op → Type 0
  NoneNew ops = (op : Op) → Contains ops op → In s op

  one_more : (x : Op) (xs : List Op) (b : Bool) → set.contains s x ≡ b → AnyNew xs ⊎ NoneNew xs → AnyNew (x ∷ xs) ⊎ NoneNew (x ∷ xs)
  one_more x xs false e rest = inl (x, first xs refl, e)
  one_more x xs true e (inl found) = inl (found.0, Contains-append_right (x ∷ []) xs found.0 found.1, found.2)
  one_more x xs true e (inr all) = inr (λ op h. elim (Contains-append_cases (x ∷ []) xs op h) [ inl m ↦ subst (λ o. In s o) (one m) e | inr m ↦ all op m ])

  new_or_none : (ops : List Op) → AnyNew ops ⊎ NoneNew ops
  new_or_none [] = inr (λ op h. absurd (none op h))
  new_or_none (x ∷ xs) = one_more x xs (set.contains s x) refl (new_or_none xs)

-- one is
pub one_is_new : (l ops : List Op) (s : SetBy op_cmp) (closure : Closure) (logins : SetBy op_cmp) → set.of_list l ≡ s
    → IsClosure (In (set.of_list {R = op_cmp} l)) closure → AreLogins (In (set.of_list {R = op_cmp} l)) logins
    → ¬ Within (Listed ops) (IsKnown closure logins) → (op : Op) × Contains ops op × (set.contains s op ≡ false)
one_is_new l ops s closure logins view is are some =
    subst (λ t. (op : Op) × Contains ops op × (set.contains t op ≡ false)) view (elim (new_or_none (set.of_list l) ops) [
      | inl found ↦ found
      | inr all ↦ absurd (some (λ op m. record {
        follows = record { held = member_held (set.of_list l) closure is op (all op m) };
        login = λ name c digest e. subst (In logins) e (are.all name c digest (subst (In (set.of_list {R = op_cmp} l)) (sym e) (all op m)));
      }))
    ])

pub on_error : {P : Type 0} {A E : Type 0} (r : Result A E) → P → OnErr r P
on_error (Ok a) p = tt
on_error (Err e) p = p

pub absorbs_one : (s after : SetBy op_cmp) (op : Op) → after ≡ set.union s (set.of_list (op ∷ [])) → after ≡ set.insert s op
absorbs_one s after op e = e ∙ same_set op_total op_exact _ _ (λ o.
    contains-union op_total s (set.of_list (op ∷ [])) o ∙ either _ _ (to o) (from o) ∙ sym (contains-insert op_total s op o))
  where
    to : (o : Op) → (set.contains s o || set.contains (set.of_list {R = op_cmp} (op ∷ [])) o) ≡ true → (eq_by_cmp op_cmp o op || set.contains s o) ≡ true
    to o h = elim (or_cases _ _ h) [
      | inl m ↦ or_later (eq_by_cmp op_cmp o op) m
      | inr m ↦ or_first _ (ap (λ x. is_eq (op_cmp o x)) (one (in_list (op ∷ []) o m)) ∙ ap is_eq (tied_itself op_total o))
    ]

    from : (o : Op) → (eq_by_cmp op_cmp o op || set.contains s o) ≡ true → (set.contains s o || set.contains (set.of_list {R = op_cmp} (op ∷ [])) o) ≡ true
    from o h = elim (or_cases _ _ h) [
      | inl e ↦ or_later (set.contains s o) (list_in (op ∷ []) o (first [] (sym (op_exact o op ((Equal-is (op_cmp o op)).0 e)))))
      | inr m ↦ or_first _ m
    ]

pub absorbs_ok : {A E : Type 0} (r : Result A E) (s after : SetBy op_cmp) (op : Op)
    → OnOk r (after ≡ set.union s (set.of_list (op ∷ []))) → OnOk r (after ≡ set.insert s op)
absorbs_ok (Ok a) s after op h = absorbs_one s after op h
absorbs_ok (Err e) s after op h = tt

pub absent_one : {A E : Type 0} (r : Result A E) (s : SetBy op_cmp) (op : Op)
    → OnErr r ((o : Op) × Contains (op ∷ []) o × (set.contains s o ≡ false)) → OnErr r (set.contains s op ≡ false)
absent_one (Ok a) s op h = tt
absent_one (Err e) s op h = subst (λ o. set.contains s o ≡ false) (sym (one h.1)) h.2

-- ---- what is told

pub told_reach : (inside s : SetBy op_cmp) (rows : Rows) → inside ≡ s → AreClosed (In inside) rows → (root c : Cap) (b : Bool)
    → Tells b (Leads rows root c) → Tells b (Reach (In s) (From root) c)
told_reach inside s rows view closed root c b t = subst (λ o. Tells b (Reach (In o) (From root) c)) view
    (told b (λ l. chain_from c (leads_chain closed root c l)) (λ r. chain_leads closed (from_chain c r)) t)

second_of : (a b : Bool) → (a && b) ≡ true → b ≡ true
second_of true b h = h
second_of false b h = absurd (false≢true h)

used_owned : (owned : SetBy cap_cmp) (uses : List Cap) → AreUsesOf owned uses → (root : Cap) → Contains uses root → In owned root
used_owned owned uses are_uses root h =
    second_of (is_use root) _ (sym (are_uses.are root) ∙ contains-of_list cap_total uses root ∙ has_any cap_total cap_exact uses root h)

-- what is owned and has something behind it is a use
used_behind : (owned : SetBy cap_cmp) (uses : List Cap) (rows : Rows) → AreUsesOf owned uses → (root c : Cap) → In owned root
    → Behind rows root c → Contains uses root
used_behind owned uses rows are_uses (Use group) c there h =
    any_has cap_total cap_exact uses (Use group) (sym (contains-of_list cap_total uses (Use group)) ∙ are_uses.are (Use group) ∙ there)
used_behind owned uses rows are_uses (Plus tag) c there h = absurd h
used_behind owned uses rows are_uses (Minus tag) c there h = absurd h
used_behind owned uses rows are_uses (Grow group) c there h = absurd h

-- ---- what everybody has

-- what is given to everybody is what the registry says of it
alone_within : (U : Registry) (op : Op) → U op → Within (Alone op) U
alone_within U op u other e = subst U (sym e) u

given_global : (U : Registry) (c : Cap) → IsGiven U Everybody c → IsGlobal U c
given_global U c (op, u, alone) = global_more (alone_within U op u) c alone

global_given : (U : Registry) (c : Cap) → IsGlobal U c → IsGiven U Everybody c
global_given U (Plus tag) g = (tag_op tag Export, g, refl)
global_given U (Minus tag) g = (tag_op tag Integrity, g, refl)
global_given U (Use group) g = (open_op g.0 group, g.1, (g.0, refl))
global_given U (Grow group) g = absurd g

pub told_global : (inside s : SetBy op_cmp) (closure : Closure) → inside ≡ s → IsClosure (In inside) closure → (c : Cap) (b : Bool)
    → Tells b (Has closure.globals c) → Tells b (IsGlobal (In s) c)
told_global inside s closure view is c b t =
    subst (λ o. Tells b (IsGlobal (In o) c)) view
    (told b (λ h. given_global (In inside) c ((is.globals c).0 h)) (λ g. (is.globals c).1 (global_given (In inside) c g)) t)

-- the first of the logins is the first of the registry's
pub told_login : (inside s logins : SetBy op_cmp) → inside ≡ s → AreLogins (In inside) logins → (name : Name) (r : Option (Cap × Digest))
    → FindsLogin (In logins) name r → FindsLogin (In s) name r
told_login inside s logins view are name None h = subst (λ o. HasNoLogin (In o) name) view (λ c digest u. h c digest (are.all name c digest u))
told_login inside s logins view are name (Some found) h = subst (λ o. IsFirstLogin (In o) name found.0 found.1) view (record {
  member = are.only _ h.member;
  least = λ d other u. h.least d other (are.all name d other u);
})

row_reached : (U : Registry) (rows : Rows) → AreClosed U rows → (owned : Caps) (c : Cap) → Holds rows Everybody c → InEffect U owned c
row_reached U rows closed owned c h =
    let w = (closed.way Everybody c).0 h in
    (w.0, inr (given_global U w.0 w.1), w.2)

-- what a row has is reached by its owner
held_reached : {U : Registry} {rows : Rows} → AreClosed U rows → (owner : Owner) → Within (Holds rows owner) (ReachedBy U owner)
held_reached closed (Group group) c h = chain_from c (leads_chain closed (Use group) c (inr h))
held_reached {U} {rows} closed Everybody c h = row_reached U rows closed (λ x. ⊥) c h

module _ (s : SetBy op_cmp) (owned : SetBy cap_cmp) (c : Cap) where
  pub told_owned : In owned c → Tells true (InEffect (In s) (In owned) c)
  told_owned h = told_yes (owned_eff c h)

  abbrev Answers : Option Witness → Type 0
  Answers r = MatchOption r (¬ InEffect (In s) (In owned) c) (λ w. IsWitness (In s) w × Shows w (In owned) c)

  module _ (inside : SetBy op_cmp) (rows : Rows) (view : inside ≡ s) (as_kept : AreClosed (In inside) rows) where
    closed : AreClosed (In s) rows
    closed = subst (λ o. AreClosed (In o) rows) view as_kept

    came_upon : (owner : Owner) (w : Witness) → Owns (In owned) owner → ComesUpon rows owner c w → IsWitness (In s) w × Shows w (In owned) c
    came_upon owner w owns came = (
      record { reached = λ d h. held_reached closed w.owner d (subst (λ o. Holds rows o d) (sym came.by) (came.held d h)) },
      record { among = came.among; owns = subst (Owns (In owned)) (sym came.by) owns },
    )

    pub came_row : (w : Witness) → ComesUpon rows Everybody c w → IsWitness (In s) w × Shows w (In owned) c
    came_row w came = came_upon Everybody w tt came

    came_behind : (root : Cap) (w : Witness) → In owned root → ComesBehind rows root c w → IsWitness (In s) w × Shows w (In owned) c
    came_behind (Use group) w there came = came_upon (Group group) w there came
    came_behind (Plus tag) w there came = absurd came
    came_behind (Minus tag) w there came = absurd came
    came_behind (Grow group) w there came = absurd came

    module _ (uses : List Cap) (are_uses : AreUsesOf owned uses) (lacking : set.contains owned c ≡ false) (no_row : ¬ Holds rows Everybody c) where
      none_shows : ((root : Cap) → Contains uses root → ¬ Behind rows root c) → (a : Cap) → WithGlobal (In s) (In owned) a → Chain (In s) a c → ⊥
      none_shows none a (inl there) way = elim (chain_leads closed way) [
        | inl e ↦ false≢true (sym lacking ∙ subst (In owned) (sym e) there)
        | inr h ↦ none a (used_behind owned uses rows are_uses a c there h) h
      ]
      none_shows none a (inr g) way = no_row ((closed.way Everybody c).1 (a, global_given (In s) a g, way))

      -- what is neither owned nor everybody's
      pub told_behind : (r : Option Witness)
          → MatchOption r ((root : Cap) → Contains uses root → ¬ Behind rows root c) (λ w. (root : Cap) × Contains uses root × ComesBehind rows root c w)
          → Answers r
      told_behind None none = λ h. none_shows none h.0 h.1 h.2
      told_behind (Some w) found = came_behind found.0 w (used_owned owned uses are_uses found.0 found.1) found.2
