-- A crew of one worker that was opened stands for the node that a script without workers opens.
use Rattle.std.proofs.Common.{◌≡◌, ℕ, Result, Ok, refl, sym, ap, ◌∙◌, subst, length}
use Rattle.fl_store.specs.Kept.{Kept}
use Rattle.fl_system.specs.declared.answer.Fault.{Fault}
use Rattle.fl_system.specs.Openings.{IsOf, Opens, opened}
use Rattle.fl_system.specs.State.{NodeState}
use Rattle.fl_crew_model.specs.Crews.{IsCrew}
use Rattle.fl_workers.specs.Over.{CrewOver, books_of, bench_at}
use Rattle.fl_workers.specs.Seated.{OpensCrew, seated_of}
use Rattle.fl_one_worker_laws.specs.Single.{IsNodeOf}

record IsOpened (number : ℕ) (k : Kept) (node : NodeState) : Type 0 where
  pub number_is : node.number ≡ number
  pub boot : node.boot ≡ (opened 1 k).boot

opened_as : (number : ℕ) (k k' : Kept) (r : Result NodeState Fault) (node : NodeState)
    → Opens 0 (IsOf number) k r k' → r ≡ Ok node → IsOpened number k node
opened_as number k k' r node (Opens.opens own low) is =
    let same : opened 0 k ≡ node = cc in
    record {
      number_is = sym (ap (λ (n : NodeState). n.number) same) ∙ own;
      boot = sym (ap (λ (n : NodeState). n.boot) same);
    }
opened_as number k k' r node (Opens.spent own high) is = absurd (cc)
opened_as number k k' r node (Opens.refused why left) is = absurd (cc)

pub opened_node : {K : Type 0} (crew : CrewOver K) (number : ℕ) (k k' : Kept)
    → crew ≡ seated_of crew.node 1 → OpensCrew number 1 k crew k' → IsNodeOf crew (opened 1 k)
opened_node {K} crew number k k' seated h =
    let it = opened_as number k k' (Ok crew.node.node) crew.node.node h.opens refl in
    let size : crew.size ≡ 1 = ap (λ (c : CrewOver K). c.size) seated in
    record {
      size = size;
      crew =
          subst (λ (number : ℕ). IsCrew number crew.size (opened 1 k) (books_of crew)
          (bench_at crew.benches) (λ w. length crew.list)) (sym it.number_is)
          (subst (λ (size : ℕ). IsCrew number size (opened 1 k) (books_of crew)
          (bench_at crew.benches) (λ w. length crew.list)) (sym size) h.crew_is);
      boot = sym it.boot;
      births = refl;
      births_here = ap (λ (c : CrewOver K). c.procs) seated;
    }
