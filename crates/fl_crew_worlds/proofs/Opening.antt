-- A crew that was opened stands for the node that a world opens with a desk for each worker.
use Rattle.std.proofs.Common.{◌≡◌, ◌∙◌, ℕ, ◌<◌, Result, Ok, refl, sym, ap, subst, length}
use Rattle.fl_store.specs.Kept.{Kept}
use Rattle.fl_system.specs.declared.answer.Fault.{Fault}
use Rattle.fl_system.specs.Openings.{IsOf, Opens, opened}
use Rattle.fl_system.specs.State.{NodeState}
use Rattle.fl_crew_model.specs.Crews.{IsCrew}
use Rattle.fl_workers.specs.Over.{CrewOver, bench_at, books_of}
use Rattle.fl_workers.specs.Seated.{OpensCrew, seated_of}
use Rattle.fl_crew_worlds.specs.Worlds.{IsNodeOf}

record IsOpened (size number : ℕ) (k : Kept) (node : NodeState) : Type 0 where
  pub number_is : node.number ≡ number
  pub boot : node.boot ≡ (opened size k).boot

opened_as : (size number : ℕ) (k k' : Kept) (r : Result NodeState Fault) (node : NodeState)
    → Opens 0 (IsOf number) k r k' → r ≡ Ok node → IsOpened size number k node
opened_as size number k k' r node (Opens.opens own low) is =
    let same : opened 0 k ≡ node = cc in
    record {
      number_is = sym (ap (λ (n : NodeState). n.number) same) ∙ own;
      boot = sym (ap (λ (n : NodeState). n.boot) same);
    }
opened_as size number k k' r node (Opens.spent own high) is = absurd (cc)
opened_as size number k k' r node (Opens.refused why left) is = absurd (cc)

pub opened_node : {K : Type 0} (crew : CrewOver K) (number size : ℕ) (k k' : Kept) → 0 < size
    → crew ≡ seated_of crew.node size → OpensCrew number size k crew k'
    → IsNodeOf crew (opened size k)
opened_node {K} crew number size k k' some seated h =
    let it = opened_as size number k k' (Ok crew.node.node) crew.node.node h.opens refl in
    let same : crew.size ≡ size = ap (λ (c : CrewOver K). c.size) seated in
    let first : crew.procs ≡ 0 = ap (λ (c : CrewOver K). c.procs) seated in
    let room : 0 < crew.size = subst (λ (s : ℕ). 0 < s) (sym same) some in
    record {
      crew =
          subst (λ (number : ℕ). IsCrew number crew.size (opened size k) (books_of crew)
          (bench_at crew.benches) (λ w. length crew.list)) (sym it.number_is)
          (subst (λ (s : ℕ). IsCrew number s (opened size k) (books_of crew)
          (bench_at crew.benches) (λ w. length crew.list)) (sym same) h.crew_is);
      boot = sym it.boot;
      births = room;
      births_here = subst (λ (p : ℕ). p < crew.size) (sym first) room;
    }
