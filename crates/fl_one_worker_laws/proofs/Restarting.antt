-- A crew of one worker that is restarted stands for the node that a script without workers
-- restarts.
use Rattle.std.proofs.Common.{◌≡◌, ◌+◌, ◌<◌, ◌≤◌, ℕ, Bool, length, Option, Some, None, Result}
use Rattle.std.proofs.Common.{Ok, refl, sym, ap, ◌∙◌, subst, arith}
use Rattle.fl_labels.specs.SetBy as set
use Rattle.fl_labels.specs.SetBy.{SetBy}
use Rattle.fl_ops.specs.OpOrder.{op_cmp}
use Rattle.fl_bench.specs.Bench.{new_bench}
use Rattle.fl_store.specs.Kept.{Kept, raised}
use Rattle.fl_system.specs.declared.answer.Fault.{Fault}
use Rattle.fl_system.specs.declared.state.Batch.{Batch}
use Rattle.fl_system.specs.declared.state.Pending.TheVariants.{Nothing}
use Rattle.fl_system.specs.declared.state.State.TheVariants.{Running}
use Rattle.fl_system.specs.Numbered.{item_at}
use Rattle.fl_system.specs.Openings.{IsOwn, Opens, OpensAgain, OpensOwn, Restarts, opened}
use Rattle.fl_system.specs.State.{NodeState, kept_of}
use Rattle.fl_crew_model.specs.Books.{IsAt}
use Rattle.fl_crew_model.specs.Crews.{IsDueHome, IsWorker}
use Rattle.fl_workers.specs.Over.{CrewOver, bench_at}
use Rattle.fl_workers.specs.Seated.{seated_of}
use Rattle.fl_one_worker_laws.specs.Single.{IsNodeOf}

-- what was opened again, over what was kept
pub record IsReopened (m : NodeState) (k : Kept) (boot : ℕ) (m' : NodeState) (k' : Kept) : Type 0 where
  pub own : IsOwn (kept_of m) None k
  pub low : k.boot < 4294967295
  pub node : m' ≡ opened (length m.views) k
  pub booted : boot ≡ k.boot + 1
  pub kept : k' ≡ raised k

opens_as : (m m' : NodeState) (k k' : Kept) (r : Result NodeState Fault) → OpensOwn m None k r k'
    → r ≡ Ok m' → IsReopened m k m'.boot m' k'
opens_as m m' k k' r (Opens.opens own low) is =
    let same : m' ≡ opened (length m.views) k = cc in
    record {
      own = own;
      low = low;
      node = same;
      booted = ap (λ (n : NodeState). n.boot) same;
      kept = refl;
    }
opens_as m m' k k' r (Opens.spent own high) is = absurd (cc)
opens_as m m' k k' r (Opens.refused why left) is = absurd (cc)

again_as : (m m' : NodeState) (k k' : Kept) (boot : ℕ) (r : Result ℕ Fault)
    → OpensAgain m None k r m' k' → r ≡ Ok boot → IsReopened m k boot m' k'
again_as m m' k k' boot r (OpensAgain.opens own) is =
    let same : m'.boot ≡ boot = cc in
    subst (λ (b : ℕ). IsReopened m k b m' k') same (opens_as m m' k k' (Ok m') own refl)
again_as m m' k k' boot r (OpensAgain.stays own) is = absurd (cc)

pub restarts_as : (m m' : NodeState) (k k' : Kept) (keeps : Bool) (boot : ℕ) (r : Result ℕ Fault)
    → m.state ≡ Running Nothing → Restarts m k keeps r m' k' → r ≡ Ok boot
    → IsReopened m k boot m' k'
restarts_as m m' k k' keeps boot r idle (Restarts.not_saved keep at saves) is = absurd (cc)
restarts_as m m' k k' keeps boot r idle (Restarts.saved keep at again) is =
    absurd (let q = sym idle ∙ at in cc)
restarts_as m m' k k' keeps boot r idle (Restarts.lost keep at again) is =
    absurd (let q = sym idle ∙ at in cc)
restarts_as m m' k k' keeps boot r idle (Restarts.idle at again) is =
    again_as m m' k k' boot r again is
restarts_as m m' k k' keeps boot r idle (Restarts.due at again) is =
    absurd (let q = sym idle ∙ at in cc)
restarts_as m m' k k' keeps boot r idle (Restarts.stopped at again) is =
    absurd (let q = sym idle ∙ at in cc)

-- the same is kept of both nodes
pub kept_same : (n m : NodeState) → n.number ≡ m.number → n.boot ≡ m.boot → n.saved ≡ m.saved
    → kept_of n ≡ kept_of m
kept_same n m number boot saved =
    ap (λ (x : ℕ). let k : Kept = record { number = x; boot = n.boot; saved = n.saved } in k) number
    ∙ (ap (λ (x : ℕ). let k : Kept = record { number = m.number; boot = x; saved = n.saved } in k)
    boot
    ∙ ap (λ (x : SetBy op_cmp).
    let k : Kept = record { number = m.number; boot = m.boot; saved = x } in k) saved)

module _ {K : Type 0} where
  -- the crew that is seated at it
  seated_node : (new : CrewOver K) (k : Kept) (desks : ℕ) → new ≡ seated_of new.node 1
      → new.node.node ≡ opened desks k → IsNodeOf new (opened 1 k)
  seated_node new k desks seated node =
      let size : new.size ≡ 1 = ap (λ (c : CrewOver K). c.size) seated in
      let due : new.due ≡ None = ap (λ (c : CrewOver K). c.due) seated in
      let number : new.node.node.number ≡ k.number = ap (λ (n : NodeState). n.number) node in
      let boot : new.node.node.boot ≡ k.boot + 1 = ap (λ (n : NodeState). n.boot) node in
      let list : new.list ≡ set.members k.saved =
      ap (λ (c : CrewOver K). c.list) seated ∙ ap (λ (n : NodeState). n.published) node in
      let bench : bench_at new.benches 1 ≡ new_bench k.number (k.boot + 1) 1 1 =
      ap (λ (c : CrewOver K). bench_at c.benches 1) seated
      ∙ (ap (λ (x : ℕ). new_bench x new.node.node.boot 1 1) number
      ∙ ap (λ (x : ℕ). new_bench k.number x 1 1) boot) in
      record {
        size = size;
        crew = record {
          numbered = sym number;
          desks = sym size;
          places = sym size;
          holds = record {
            saved = sym (ap (λ (n : NodeState). n.saved) node);
            list = sym list;
            state = subst (λ (d : Option Batch). IsAt (Running Nothing) d) (sym due) refl;
          };
          due = subst (λ (d : Option Batch). IsDueHome new.size d) (sym due) tt;
          seen = λ w is.
              let first : w ≡ 1 = only w size is in
              let few = ap length list in
              let low : length (set.members k.saved) ≤ length new.list = omega arith in (
                length (set.members k.saved),
                ap (λ x. item_at (opened 1 k).views x) first,
                low,
                low,
              );
          stands = λ w is.
              let first : w ≡ 1 = only w size is in
              ap (λ x. item_at (opened 1 k).benches x) first
              ∙ (ap Some (sym bench) ∙ ap (λ x. Some (bench_at new.benches x)) (sym first));
        };
        boot = sym boot;
        births = refl;
        births_here = ap (λ (c : CrewOver K). c.procs) seated;
      }
    where
      only : (w : ℕ) → new.size ≡ 1 → IsWorker new.size w → w ≡ 1
      only w size is = let low = is.low in let high = is.high in omega arith

  pub restarted_node : (old new : CrewOver K) (n : NodeState) (k k' : Kept) (keeps : Bool)
      (boot : ℕ)
      → IsNodeOf old n → old.due ≡ None → old.node.node.state ≡ Running Nothing
      → new ≡ seated_of new.node 1 → Restarts old.node.node k keeps (Ok boot) new.node.node k'
      → Restarts n k keeps (Ok boot) (opened 1 k) k' × IsNodeOf new (opened 1 k)
  restarted_node old new n k k' keeps boot node due idle seated h =
      let it = restarts_as old.node.node new.node.node k k' keeps boot (Ok boot) idle h refl in
      let same : kept_of old.node.node ≡ kept_of n =
      sym (kept_same n old.node.node node.crew.numbered node.boot node.crew.holds.saved) in
      let own : IsOwn (kept_of n) None k =
      subst (λ (x : Kept). IsOwn x None k) same it.own in
      let desks : length n.views ≡ 1 = node.crew.desks ∙ node.size in
      let again : OpensOwn n None k (Ok (opened 1 k)) k' =
      subst (λ (x : Kept). OpensOwn n None k (Ok (opened 1 k)) x) (sym it.kept)
      (subst (λ (d : ℕ). OpensOwn n None k (Ok (opened d k)) (raised k)) desks
      (Opens.opens own it.low)) in
      let at : n.state ≡ Running Nothing =
      subst (λ (d : Option Batch). IsAt n.state d) due node.crew.holds.state in (
        subst (λ (b : ℕ). Restarts n k keeps (Ok b) (opened 1 k) k') (sym it.booted)
            (Restarts.idle at (OpensAgain.opens again)),
        seated_node new k (length old.node.node.views) seated it.node,
      )
