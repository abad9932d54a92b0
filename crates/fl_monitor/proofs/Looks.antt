-- What one look finds.
use Rattle.std.proofs.Common.{◌≡◌, inl, inr, refl, sym, ap, subst, ◌∙◌, List, Option}
use Rattle.std.specs.Prelude.{⊤, Bool, true, ℕ, ◌<◌, length, get_or}
use Rattle.std.specs.Cmp.{Equal-is, eq_by_cmp_equiv}
use Rattle.std.proofs.lemmas.List.Elements.{Contains-get_or}
use Rattle.std.specs.List.{Contains}
use Rattle.std.proofs.lemmas.Bool.{false≢true}
use Rattle.std.proofs.lemmas.Map.Views.{list_any-from_Contains}
use Rattle.fl_labels.specs.Cap.{cap_cmp}
use Rattle.fl_labels.specs.CapOrder.{cap_total, cap_exact, cap_tied}
use Rattle.fl_labels.specs.Caps.{Caps, Dual}
use Rattle.fl_labels.specs.SetBy.{SetBy, In, contains, members, of_list, contains-of_list, of_list-members}
use Rattle.fl_labels.specs.Found.{Found, FoundAs, Within, Tells}
use Rattle.fl_labels.specs.parts.First.{IsFirst}
use Rattle.fl_labels.specs.laws.Searches.{found_as, searched_set}
use Rattle.fl_labels.specs.contracts.cap.CapPartialEq.TheImpl as caps_row
use Rattle.fl_labels.specs.declared.cap.Cap.{Cap}
use Rattle.fl_ops.specs.declared.op.Op.{Op}
use Rattle.fl_ops.specs.Registry.{InEffect}
use Rattle.fl_ops.specs.laws.Reaching.{owned_eff}
use Rattle.fl_rules.specs.Endpoint.{Crosses, SafeEndpoint}
use Rattle.fl_rules.specs.declared.endpoint.Mode.{Mode}
use Rattle.fl_rules.specs.declared.endpoint.Mode.TheVariants.{Read, Write, Both}
use Rattle.fl_rules.specs.declared.labels.Labels.{Labels}

module _ (E : Caps) where
  -- along the members of a set
  pub found_caps : (s : SetBy cap_cmp) (caps : List Cap) (r : Option Cap) → caps ≡ members s → IsFirst (λ _. ⊤) E caps r → FoundAs cap_cmp (In s) E r
  found_caps s caps r e first =
      let found : Found cap_cmp (In s) E r = found_as r (λ c h. h.0) (λ c h. (h, tt)) (λ c h. h) (λ c h. h) (searched_set cap_total cap_exact (λ _. ⊤) E s caps r e first) in
      found.is

  -- of a safe endpoint each tag that is lost or gained may be both added and removed
  pub none_crosses : (process labels : Labels) (mode : Mode) → SafeEndpoint E mode process labels → Within (Crosses mode process labels) (Dual E)
  none_crosses process labels Read h tag t = h.read refl tag t
  none_crosses process labels Write h tag t = h.write refl tag t
  none_crosses process labels Both h tag (inl t) = h.read refl tag t
  none_crosses process labels Both h tag (inr t) = h.write refl tag t

-- what is met on the way is a member
pub met_at : (caps : List Cap) (i : ℕ) (this c : Cap) (r : Bool) → i < length caps → this ≡ get_or caps i this
    → r ≡ caps_row.ghosts.eq this c → r ≡ true → true ≡ contains (of_list {R = cap_cmp} caps) c
met_at caps i this c r within at e eq =
    let same : this ≡ c = cap_exact this c ((Equal-is (cap_cmp this c)).0 (sym (cap_tied this c) ∙ sym e ∙ eq)) in
    let there : Contains caps c = subst (Contains caps) (sym at ∙ same) (Contains-get_or caps i this within) in
    sym (contains-of_list cap_total caps c ∙ list_any-from_Contains (eq_by_cmp_equiv cap_total) c caps there)

-- what is met among what is owned is in effect
pub owned_told : (U : Op → Type 0) (owned : SetBy cap_cmp) (caps : List Cap) (c : Cap)
    → caps ≡ members owned → contains (of_list {R = cap_cmp} caps) c ≡ true → Tells true (InEffect U (In owned) c)
owned_told U owned caps c e found =
    let there : contains owned c ≡ true =
    sym (ap (λ s. contains s c) (ap of_list e ∙ of_list-members cap_total cap_exact owned)) ∙ found in record {
      holds = λ _. owned_eff c there;
      fails = λ never. absurd (false≢true (sym never));
    }
