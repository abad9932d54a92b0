-- What is awaited at the places of a batch.
use Rattle.std.proofs.Common.{◌≡◌, ◌≢◌, ◌↔◌, ◌∙◌, ◌⊎◌, inl, inr, Bool, true, false, ℕ, zero, suc, ◌+◌, ◌<◌, ◌≤◌, cond, eqb, List, [], ◌∷◌, ◌++◌, Option, Some, None, length, take, map, get_or, slice_get, refl, sym, ap, subst, arith}
use Rattle.std.proofs.lemmas.List.{take_all}
use Rattle.std.proofs.lemmas.Bool.Decides.{eqb_tells}
use Rattle.fl_labels.specs.declared.pid.Pid.{Pid}
use Rattle.fl_ops.specs.declared.op.Body.{Body}
use Rattle.fl_jobs.specs.declared.job.Order as given
use Rattle.fl_jobs.specs.declared.job.Act.TheVariants.{Order, Relabel, Ask, Spawn, Exit, Drop, Enter, Emit, Mail}
use Rattle.fl_jobs.specs.declared.job.Job.{Job}
use Rattle.fl_jobs.specs.declared.job.Job.TheVariants.{Proc, By, Member, Arrive}
use Rattle.fl_bench.specs.Process.{body_of}
use Rattle.fl_crew_model.specs.Answered.{IsOrderFor}
use Rattle.fl_dealing.specs.declared.item.Item.{Item}
use Rattle.fl_dealing.specs.declared.item.Item.TheVariants as items
use Rattle.fl_registrar.specs.declared.awaited.Awaited.{Awaited}
use Rattle.fl_manning.specs.Orders.{asked_by, order_by, awaited_by, job_of, job_for}

-- ---- as they are pushed

awaited_next : (os : List ℕ) (bs : List (Option Body)) (i d : ℕ) (b : Option Body) → i < length os
    → i < length bs → awaited_by (take (suc i) os) (take (suc i) bs)
    ≡ awaited_by (take i os) (take i bs) ++ order_by (get_or os i d) (get_or bs i b) ∷ []
awaited_next [] bs i d b first second = absurd (omega arith)
awaited_next (x ∷ os) [] i d b first second = absurd (omega arith)
awaited_next (x ∷ os) (y ∷ bs) zero d b first second = refl
awaited_next (x ∷ os) (y ∷ bs) (suc i) d b first second =
    ap (λ l. order_by x y ∷ l) (awaited_next os bs i d b (omega arith) (omega arith))

pub awaited_more : (os : List ℕ) (bs : List (Option Body)) (i d : ℕ) (b : Option Body) → i < length os
    → i < length bs → awaited_by (take (i + 1) os) (take (i + 1) bs)
    ≡ awaited_by (take i os) (take i bs) ++ order_by (get_or os i d) (get_or bs i b) ∷ []
awaited_more os bs i d b first second =
    let one : i + 1 ≡ suc i = omega arith in
    rw one (awaited_next os bs i d b first second)

pub all_taken : (os : List ℕ) (bs : List (Option Body)) (i : ℕ) → length os ≤ i → length bs ≤ i
    → awaited_by (take i os) (take i bs) ≡ awaited_by os bs
all_taken os bs i first second = rw (take_all i os first, take_all i bs second) refl

pub awaited_count : (os : List ℕ) (bs : List (Option Body)) → length os ≡ length bs
    → length (awaited_by os bs) ≡ length os
awaited_count [] bs same = refl
awaited_count (o ∷ os) [] same = absurd (omega (arith, same))
awaited_count (o ∷ os) (b ∷ bs) same = ap suc (awaited_count os bs (omega (arith, same)))

-- ---- of the items

-- an item is awaited of its owner as an order or not at all
module _ (o : ℕ) (a : Awaited) where
  none : (job : Option Job) → (IsOrderFor job a.body → ⊥)
      → (Some None ≡ Some (Some a)) ↔ IsOrderFor (cond (eqb o a.worker) job None) a.body
  none job never = (λ h. absurd (cc), λ is. absurd (by (eqb o a.worker) is))
    where
      by : (test : Bool) → IsOrderFor (cond test job None) a.body → ⊥
      by true is = never is
      by false is = is

  as_one : (body : Body) → o ≡ a.worker → a.body ≡ body
      → Some (Some (record { worker = o; body = body })) ≡ Some (Some a)
  as_one body mine its = rw (mine, ← its) refl

  some : (pid : Pid) (order : given.Order)
      → (Some (Some (record { worker = o; body = body_of order })) ≡ Some (Some a))
      ↔ IsOrderFor (cond (eqb o a.worker) (Some (By pid (Order order))) None) a.body
  some pid order = by (eqb_tells o a.worker)
    where
      by : ((eqb o a.worker ≡ true) × (o ≡ a.worker)) ⊎ ((eqb o a.worker ≡ false) × (o ≢ a.worker))
          → (Some (Some (record { worker = o; body = body_of order })) ≡ Some (Some a))
          ↔ IsOrderFor (cond (eqb o a.worker) (Some (By pid (Order order))) None) a.body
      by (inl (test, same)) = (λ h. rw test (cc), λ is. as_one (body_of order) same (rw test at is))
      by (inr (test, other)) =
          (λ h. absurd (other (cc)), λ is. absurd (rw test at is))

  at_place : (item : Item) → (Some (order_by o (asked_by item)) ≡ Some (Some a))
      ↔ IsOrderFor (cond (eqb o a.worker) (job_of item) None) a.body
  at_place (items.Packet packet) = none None (λ h. h)
  at_place (items.Job Proc) = none (Some Proc) (λ h. h)
  at_place (items.Job (Member root c)) = none (Some (Member root c)) (λ h. h)
  at_place (items.Job (Arrive d)) = none (Some (Arrive d)) (λ h. h)
  at_place (items.Job (By pid (Order order))) = some pid order
  at_place (items.Job (By pid (Relabel side label))) = none (Some (By pid (Relabel side label))) (λ h. h)
  at_place (items.Job (By pid (Ask c))) = none (Some (By pid (Ask c))) (λ h. h)
  at_place (items.Job (By pid (Spawn caps))) = none (Some (By pid (Spawn caps))) (λ h. h)
  at_place (items.Job (By pid Exit)) = none (Some (By pid Exit)) (λ h. h)
  at_place (items.Job (By pid (Drop c))) = none (Some (By pid (Drop c))) (λ h. h)
  at_place (items.Job (By pid (Enter name secret))) = none (Some (By pid (Enter name secret))) (λ h. h)
  at_place (items.Job (By pid (Emit bytes))) = none (Some (By pid (Emit bytes))) (λ h. h)
  at_place (items.Job (By pid (Mail mail))) = none (Some (By pid (Mail mail))) (λ h. h)

pub are_orders : (os : List ℕ) (is : List Item) (place : ℕ) (a : Awaited)
    → (slice_get (awaited_by os (map asked_by is)) place ≡ Some (Some a))
    ↔ IsOrderFor (job_for os is a.worker place) a.body
are_orders [] is place a = (λ h. absurd (cc), λ h. absurd h)
are_orders (o ∷ os) [] place a = (λ h. absurd (cc), λ h. absurd h)
are_orders (o ∷ os) (i ∷ is) zero a = at_place o a i
are_orders (o ∷ os) (i ∷ is) (suc place) a = are_orders os is place a

-- as the call has them
pub are_awaited : (os : List ℕ) (bs : List (Option Body)) (orders : List (Option Awaited)) (is : List Item)
    → orders ≡ awaited_by os bs → bs ≡ map asked_by is → (place : ℕ) (a : Awaited)
    → (slice_get orders place ≡ Some (Some a)) ↔ IsOrderFor (job_for os is a.worker place) a.body
are_awaited os bs orders is made asked place a =
    subst
    (λ (l : List (Option Awaited)).
    (slice_get l place ≡ Some (Some a)) ↔ IsOrderFor (job_for os is a.worker place) a.body)
    (sym (made ∙ ap (awaited_by os) asked)) (are_orders os is place a)
