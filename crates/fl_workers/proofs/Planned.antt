-- A batch that is dealt.
use Rattle.std.proofs.Common.{◌≡◌, ◌∙◌, ◌↔◌, ℕ, suc, List, [], ◌∷◌, Option, Some, map, length, slice_get, refl, sym, ap, subst}
use Rattle.std.proofs.lemmas.List.{length-map}
use Rattle.fl_ops.specs.declared.op.Body.{Body}
use Rattle.fl_crew_model.specs.Answered.{IsOrderFor}
use Rattle.fl_dealing.specs.Dealt.{owners_of, procs_past}
use Rattle.fl_dealing.specs.declared.item.Item.{Item}
use Rattle.fl_manning.specs.Orders.{asked_by, job_for}
use Rattle.fl_registrar.specs.Apart.{AreAwaited}
use Rattle.fl_registrar.specs.declared.awaited.Awaited.{Awaited}

owners_count : (n procs : ℕ) (is : List Item) → length (owners_of n procs is) ≡ length is
owners_count n procs [] = refl
owners_count n procs (i ∷ is) = ap suc (owners_count n (procs_past n procs i) is)

-- there is a body, or none, for each owner
pub bodies_count : (n procs : ℕ) (is : List Item) (owners : List ℕ) (bodies : List (Option Body))
    → owners ≡ owners_of n procs is → bodies ≡ map asked_by is → length owners ≡ length bodies
bodies_count n procs is owners bodies dealt asked =
    ap length dealt ∙ (owners_count n procs is
    ∙ sym (ap length asked ∙ length-map is asked_by))

-- what is awaited are orders of the jobs
pub are_awaited : (os owners : List ℕ) (is : List Item) (orders : List (Option Awaited)) → owners ≡ os
    → ((place : ℕ) (order : Awaited) → (slice_get orders place ≡ Some (Some order))
    ↔ IsOrderFor (job_for owners is order.worker place) order.body)
    → AreAwaited (job_for os is) orders
are_awaited os owners is orders same exact place order at =
    subst (λ (l : List ℕ). IsOrderFor (job_for l is order.worker place) order.body) same
    ((exact place order).0 at)
