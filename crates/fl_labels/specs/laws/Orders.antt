-- Only equal values tie in their orders, and `==` holds of equal values alone.
use Rattle.std.proofs.Common.{◌≡◌, ◌↔◌, Bool, sym, ap, ◌∙◌, rules}
use Rattle.std.specs.Bool.{IsTrue}
use Rattle.std.specs.Cmp.{IsTotalOrder, Equal-is, tied_itself}
use Rattle.std.specs.Cmp.Rules.{comparing}
use Rattle.std.specs.FinMap.{IsAntisymmetric, slice_cmp-IsAntisymmetric}
use Rattle.std.specs.Ordering.{eq_by_cmp, is_eq}
use Rattle.std.specs.declared.cmp.Ordering.{Ordering}
use Rattle.std.specs.declared.cmp.Ordering.TheVariants.{Equal}
use Rattle.fl_labels.specs.contracts.pid.PidPartialEq.TheImpl as pids
use Rattle.fl_labels.specs.contracts.endpoint.EndpointPartialEq.TheImpl as endpoints
use Rattle.fl_labels.specs.declared.pid.Pid.{Pid}
use Rattle.fl_labels.specs.declared.endpoint.Endpoint.{Endpoint}
use Rattle.fl_labels.specs.Pid.{pid_cmp}
use Rattle.fl_labels.specs.Endpoint.{endpoint_cmp}
use Rattle.fl_labels.specs.SetBy.{members, of_list, of_list-members}
use Rattle.fl_labels.specs.SetEquality.{set_cmp}

-- where only equal keys tie, those that tie are the equal ones
module _ {K : Type 0} {R : K → K → Ordering} (o : IsTotalOrder R) (exact : IsAntisymmetric R) where
  pub ties : (a b : K) → (R a b ≡ Equal) ↔ (a ≡ b)
  ties a b = (exact a b, λ e. ap (R a) (sym e) ∙ tied_itself o a)

  -- a test that holds of those that tie
  pub equals : (E : K → K → Bool) → ((a b : K) → E a b ≡ eq_by_cmp R a b) → (a b : K)
      → IsTrue (E a b) ↔ (a ≡ b)
  equals E tied a b = (
    λ h. exact a b ((Equal-is (R a b)).0 (sym (tied a b) ∙ h)),
    λ e. tied a b ∙ ap is_eq (ap (R a) (sym e) ∙ tied_itself o a),
  )

  -- sets that tie by their members are equal
  pub set_exact : IsAntisymmetric (set_cmp R)
  set_exact s t h =
      let same = slice_cmp-IsAntisymmetric exact (members s) (members t) h in
      sym (of_list-members o exact s) ∙ ap of_list same ∙ of_list-members o exact t

pub pid_tied : (a b : Pid) → pids.ghosts.eq a b ≡ eq_by_cmp pid_cmp a b
pid_tied a b = search (comparing, rules)

pub endpoint_tied : (a b : Endpoint) → endpoints.ghosts.eq a b ≡ eq_by_cmp endpoint_cmp a b
endpoint_tied a b = search (comparing, rules)
