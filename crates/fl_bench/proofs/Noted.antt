-- What is owned and what was noted of it.
use Rattle.std.proofs.Common.{◌≡◌, ◌∙◌, arith, ap, sym, refl, Bool, true, false, List, length}
use Rattle.std.specs.Prelude.{◌||◌, ◌&&◌, not, MatchBool, [], ◌∷◌}
use Rattle.std.specs.Ordering.{eq_by_cmp}
use Rattle.std.specs.List.{AllWithin}
use Rattle.std.specs.Cmp.{on_total}
use Rattle.std.specs.Cmp.Lexicographic.{lists_total}
use Rattle.std.proofs.lemmas.Bool.{false≢true}
use Rattle.fl_labels.specs.Cap.{cap_cmp}
use Rattle.fl_labels.specs.CapOrder.{cap_total, cap_exact}
use Rattle.fl_labels.specs.Found.{Within}
use Rattle.fl_labels.specs.Name.{name_cmp}
use Rattle.fl_labels.specs.NameOrder.{name_total, name_exact}
use Rattle.fl_labels.specs.SetBy as set
use Rattle.fl_labels.specs.SetBy.{SetBy, In, contains, members, of_list, of_list-members, same_set}
use Rattle.fl_labels.specs.SetBy.{contains-empty, contains-insert, contains-union}
use Rattle.fl_labels.specs.SetEquality.{set_cmp}
use Rattle.fl_labels.specs.laws.Orders.{equals, set_exact}
use Rattle.fl_labels.specs.laws.Rising.{insert_member}
use Rattle.fl_labels.specs.laws.SortedVec.{every_member}
use Rattle.fl_labels.specs.declared.cap.Cap.{Cap}
use Rattle.fl_rules.specs.contracts.labels.LabelsPartialEq.TheImpl as both
use Rattle.fl_rules.specs.declared.labels.Labels.{Labels}

-- a set is that of its members
pub of_slice : (s : SetBy cap_cmp) (cs : List Cap) → cs ≡ members s → of_list {R = cap_cmp} cs ≡ s
of_slice s cs e = ap (λ (l : List Cap). of_list {R = cap_cmp} l) e ∙ of_list-members cap_total cap_exact s

or_within : (a b : Bool) → (b ≡ true → a ≡ true) → a ≡ (a || b)
or_within true b h = refl
or_within false true h = h refl
or_within false false h = refl

-- where nothing is new
pub union_within : (s t : SetBy cap_cmp) → Within (In t) (In s) → s ≡ set.union s t
union_within s t h =
    same_set cap_total cap_exact s (set.union s t) (λ q. or_within _ _ (h q) ∙ sym (contains-union cap_total s t q))

not_false : (b : Bool) → false ≡ not b → b ≡ true
not_false true e = refl
not_false false e = absurd (false≢true e)

pub insert_there : (s : SetBy cap_cmp) (c : Cap) → false ≡ not (contains s c) → set.insert s c ≡ s
insert_there s c e = insert_member cap_total cap_exact s c (not_false _ e)

-- where a walk along t found each member in s
pub all_there : (Q : Type 0) (b : Bool) (items : List Cap) (s t : SetBy cap_cmp) → items ≡ members t
    → MatchBool b (AllWithin (In s) items 0 (length items)) Q → b ≡ true → Within (In t) (In s)
all_there Q true items s t is all e =
    every_member cap_total cap_exact (In s) items t (of_slice t items is) (λ k d within. all k d (omega arith) within)
all_there Q false items s t is all e = absurd (false≢true e)

or_false : (a : Bool) → a ≡ (a || false)
or_false true = refl
or_false false = refl

or_swap : (a b c : Bool) → (a || (b || c)) ≡ (b || (a || c))
or_swap true true c = refl
or_swap true false c = refl
or_swap false b c = refl

contains_all : (s : SetBy cap_cmp) (cs : List Cap) (q : Cap)
    → contains (set.insert_all s cs) q ≡ (contains s q || contains (of_list {R = cap_cmp} cs) q)
contains_all s [] q = or_false _ ∙ ap (λ b. contains s q || b) (sym (contains-empty cap_cmp q))
contains_all s (c ∷ cs) q =
    contains-insert cap_total _ c q
    ∙ ap (λ b. eq_by_cmp cap_cmp q c || b) (contains_all s cs q)
    ∙ or_swap (eq_by_cmp cap_cmp q c) (contains s q) _
    ∙ ap (λ b. contains s q || b) (sym (contains-insert cap_total _ c q))

-- a union is each member of the other, inserted
pub insert_members : (s t : SetBy cap_cmp) → set.insert_all s (members t) ≡ set.union s t
insert_members s t =
    same_set cap_total cap_exact _ _ (λ q. contains_all s (members t) q
    ∙ ap (λ u. contains s q || contains u q) (of_slice t (members t) refl)
    ∙ sym (contains-union cap_total s t q))

-- what `==` takes for the same labels is the same
same_label : (s t : SetBy name_cmp) → eq_by_cmp (set_cmp name_cmp) s t ≡ true → s ≡ t
same_label s t h =
    (equals (on_total members (lists_total name_total)) (set_exact name_total name_exact) (eq_by_cmp (set_cmp name_cmp))
    (λ s t. refl) s t).0 h

both_true : (a b : Bool) → (a && b) ≡ true → (a ≡ true) × (b ≡ true)
both_true true b h = (refl, h)
both_true false b h = absurd (false≢true h)

pub same_labels : (a b : Labels) → both.ghosts.eq a b ≡ true → a ≡ b
same_labels a b h =
    let sides = both_true _ _ h in
    let secrecy = same_label a.secrecy b.secrecy sides.0 in
    let integrity = same_label a.integrity b.integrity sides.1 in
    λ i. record { secrecy = secrecy i; integrity = integrity i }
