-- What the searches of an endpoint find.
use Rattle.std.proofs.Common.{◌≡◌, ◌↔◌, ◌⊎◌, List, sym, subst, ◌∙◌, Option, Some, None, MatchOption}
use Rattle.fl_labels.specs.declared.name.Name.{Name}
use Rattle.fl_labels.specs.declared.cap.Cap.{Cap}
use Rattle.fl_labels.specs.Name.{name_cmp}
use Rattle.fl_labels.specs.NameOrder.{name_total, name_exact}
use Rattle.fl_labels.specs.SetBy.{SetBy, IsMissing, members, contains-members}
use Rattle.fl_labels.specs.Found.{Found, IsLeastOutside}
use Rattle.fl_labels.specs.parts.First.{lesser_of}
use Rattle.fl_labels.specs.laws.Searches.{found_as, both_found}
use Rattle.fl_rules.specs.declared.endpoint.Mode.{Mode}
use Rattle.fl_labels.specs.Caps.{Caps, Dual}
use Rattle.fl_rules.specs.declared.labels.Labels.{Labels}
use Rattle.fl_rules.specs.Endpoint.{Crosses, SafeEndpoint}
use Rattle.fl_rules.specs.laws.Endpoints.{crosses_safe}
use Rattle.fl_rules.specs.parts.Walk.{OnlyIn}
use Rattle.fl_labels.specs.laws.Duals.{dual_same}

-- what one list of members has alone, its label has alone
pub missing_found : (D : Name → Type 0) (s t : SetBy name_cmp) (xs ys : List Name) (r : Option Name) → xs ≡ members s
    → ys ≡ members t → Found name_cmp (OnlyIn xs ys) D r → Found name_cmp (IsMissing s t) D r
missing_found D s t xs ys r e f found =
    let all : Found name_cmp (OnlyIn (members s) (members t)) D r = subst (λ l. Found name_cmp (OnlyIn (members s) l) D r) f (subst (λ l. Found name_cmp (OnlyIn l ys) D r) e found) in
    found_as r
    (λ x h. record { here = contains-members s x ∙ h.here; not_there = contains-members t x ∙ h.not_there })
    (λ x h. record { here = sym (contains-members s x) ∙ h.here; not_there = sym (contains-members t x) ∙ h.not_there })
    (λ x d. d) (λ x d. d) all

-- the lesser of what two searches found, where the second one's effective set is that of the first
pub either_found : {E F : Caps} {P Q : Name → Type 0} (a b c : Option Name) → ((cap : Cap) → F cap ↔ E cap)
    → c ≡ lesser_of name_cmp a b
    → Found name_cmp P (Dual E) a → Found name_cmp Q (Dual F) b → Found name_cmp (λ t. P t ⊎ Q t) (Dual E) c
either_found {E} {F} {P} {Q} a b c same e p q =
    let again : Found name_cmp Q (Dual E) b = found_as b (λ x h. h) (λ x h. h) (λ x d. (dual_same same x).0 d) (λ x d. (dual_same same x).1 d) q in
    subst (Found name_cmp (λ t. P t ⊎ Q t) (Dual E)) (sym e) (both_found name_total name_exact a b p again)

pub endpoint_found : (E : Caps) (mode : Mode) (process endpoint : Labels) (r : Option Name)
    → Found name_cmp (Crosses mode process endpoint) (Dual E) r
    → MatchOption r (SafeEndpoint E mode process endpoint) (IsLeastOutside name_cmp (Crosses mode process endpoint) (Dual E))
endpoint_found E mode process endpoint None found = crosses_safe mode process endpoint found.is
endpoint_found E mode process endpoint (Some tag) found = found.is
