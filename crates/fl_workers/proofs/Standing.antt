-- A crew stands for a node between its batches.
use Rattle.std.proofs.Common.{◌≡◌, ◌∙◌, ℕ, Option, Some, None, Result, Ok, Err, List, length}
use Rattle.std.proofs.Common.{IfOk, OnErr, OnOk, refl, sym, ap, subst, arith}
use Rattle.fl_store.specs.Custody.{Custody}
use Rattle.fl_bench.specs.Bench.{new_bench}
use Rattle.fl_dealing.specs.declared.entry.Entry.{Entry}
use Rattle.fl_dealing.specs.declared.item.Item.{Item}
use Rattle.fl_registrar.specs.Passing.{Passes}
use Rattle.fl_system.specs.declared.answer.Fault.{Fault}
use Rattle.fl_system.specs.declared.state.Batch.{Batch}
use Rattle.fl_system.specs.Numbered.{item_at}
use Rattle.fl_system_laws.specs.laws.Numbered.{item_at-items_to, item_within, length-items}
use Rattle.fl_crew_model.specs.Books.{IsAt}
use Rattle.fl_crew_model.specs.Crews.{IsDueHome}
use Rattle.fl_workers.specs.Batches.{IsStill, IsUnbegun, Serves}
use Rattle.fl_workers.specs.Over.{CrewOver, bench_in}
use Rattle.fl_workers.specs.Seated.{seated_of}
use Rattle.fl_workers.specs.Seats.{empty_of}
use Rattle.fl_workers.specs.Standing.{IsCrewNode, Stands, resting, stood_by}

at_rest : (due : Option Batch) → IsAt (resting due) due
at_rest None = refl
at_rest (Some batch) = refl

module _ {K : Type 0} where
  -- with a bench for each worker, and the maker of what is due at its own
  pub crew_node : (c : CrewOver K) → length c.benches ≡ c.size → IsDueHome c.size c.due
      → IsCrewNode c
  crew_node c sized due =
      record {
        numbered = refl;
        desks = length-items c.size (λ w. length c.list);
        places = sized;
        holds = record { saved = refl; list = refl; state = at_rest c.due };
        due = due;
        seen =
            λ w its. (
              length c.list,
              item_at-items_to c.size (λ w. length c.list) w its.low its.high,
              omega arith,
              omega arith,
            );
        stands =
            λ w its.
            let it = item_within c.benches w its.low (omega (arith, its.high, sized)) in
            it.1 ∙ ap Some (sym (ap bench_in it.1));
      }

  -- ---- a crew that is seated, or not

  pub seated_stands : (custody : Custody K) (crew : CrewOver K) (size : ℕ)
      → crew ≡ seated_of crew.node size → Stands custody crew
  seated_stands custody crew size is =
      subst (λ (c : CrewOver K). Stands custody c) (sym is) (λ runs honest k may.
      let n = crew.node.node in
      crew_node (seated_of crew.node size)
      (length-items size (λ index. new_bench n.number n.boot index size)) tt)

  empty_stands : (custody : Custody K) (crew : CrewOver K) (size : ℕ)
      → crew ≡ empty_of crew.node size → Stands custody crew
  empty_stands custody crew size is =
      subst (λ (c : CrewOver K). Stands custody c) (sym is) (λ runs. absurd (cc))

  pub told_stands : (custody : Custody K) (crew : CrewOver K) (size : ℕ) (told : Result ℕ Fault)
      → OnOk told (crew ≡ seated_of crew.node size) → OnErr told (crew ≡ empty_of crew.node size)
      → Stands custody crew
  told_stands custody crew size (Ok boot) seated empty = seated_stands custody crew size seated
  told_stands custody crew size (Err fault) seated empty = empty_stands custody crew size empty

  -- ---- a batch

  module _ (custody : Custody K) (old new : CrewOver K) (stands : Stands custody old) where
    served_stands : (is : List Item) (es : List Entry)
        → IsStill old new → length new.benches ≡ new.size
        → Passes custody (Serves custody old new is es) old.node.keeper new.node.keeper
        → Stands custody new
    served_stands is es still sized passes runs honest k may =
        let p = passes honest in
        let f = p.1 k may in
        let was = stands (still.runs runs) p.0 f.0 f.1 in
        let run = f.2.served.woven runs (stood_by old) (λ w. length old.list) was in
        crew_node new sized
        (subst (λ (size : ℕ). IsDueHome size new.due) (sym still.size) run.weave.crew.due)

    unbegun_stands : IsUnbegun old new → length new.benches ≡ new.size → Stands custody new
    unbegun_stands same sized runs honest k may =
        let was =
        stands (sym same.stopped ∙ runs) (subst (λ (key : K). custody.is_honest key)
        same.node.keeper honest) k
        (subst (λ (key : K). custody.may_hold key k) same.node.keeper may)
        in
        crew_node new sized
        (subst (λ (size : ℕ). IsDueHome size new.due) (sym same.size)
        (subst (λ (due : Option Batch). IsDueHome old.size due) (sym same.due) was.due))

    pub batch_stands : {A E : Type 0} (items : A → List Entry) (is : List Item) (r : Result A E)
        → IsStill old new → length new.benches ≡ new.size → OnErr r (IsUnbegun old new)
        → IfOk r (λ es. Passes custody (Serves custody old new is (items es)) old.node.keeper
        new.node.keeper) → Stands custody new
    batch_stands items is (Ok es) still sized err ok = served_stands is (items es) still sized ok
    batch_stands items is (Err e) still sized err ok = unbegun_stands err sized
