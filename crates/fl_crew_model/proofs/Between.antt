-- What an earlier batch left due is published first; and what a keeper does that breaks at the last
-- order.
use Rattle.std.proofs.Common.{◌≡◌, ◌≢◌, ◌⊎◌, inl, inr, ℕ, ◌+◌, ◌≤◌, cond, true, false, List, []}
use Rattle.std.proofs.Common.{◌∷◌, ◌++◌, length, Some, None, Option, Ok, refl, sym, ap, ◌∙◌, subst}
use Rattle.std.proofs.Common.{arith, eqb}
use Rattle.std.proofs.lemmas.Bool.{eq-eqb, ne_eqb}
use Rattle.std.proofs.lemmas.Bool.Decides.{eqb_tells}
use Rattle.std.proofs.lemmas.List.{length-append}
use Rattle.fl_labels.specs.declared.pid.Pid.{Pid}
use Rattle.fl_ops.specs.declared.op.Op.{Op}
use Rattle.fl_jobs.specs.declared.answer.Outcome.{Outcome}
use Rattle.fl_bench.specs.Bench.{BenchState}
use Rattle.fl_bench.specs.Gifts.{finished}
use Rattle.fl_bench.specs.Jobs.{Does}
use Rattle.fl_system.specs.declared.state.Batch.{Batch}
use Rattle.fl_system.specs.declared.state.Batch.TheVariants.{Ordered, Received}
use Rattle.fl_system.specs.declared.state.Pending.TheVariants.{Due}
use Rattle.fl_system.specs.declared.state.State.TheVariants.{Running}
use Rattle.fl_system.specs.Numbered.{item_at, change_item, with_item}
use Rattle.fl_system.specs.State.{NodeState, first_ops, ops_of}
use Rattle.fl_system.specs.Naming.{IsNextAfter}
use Rattle.fl_system.specs.Jobs.{bench_of}
use Rattle.fl_system.specs.Saves.{Saves}
use Rattle.fl_system.specs.Publishes.{Publishes, published_with}
use Rattle.fl_system_laws.specs.laws.Numbered.{length-change, length-with, changed_at, others_stay}
use Rattle.fl_safety_laws.proofs.Entries.{entries_safe}
use Rattle.fl_crew_model.specs.declared.record.Entry.{Entry}
use Rattle.fl_crew_model.specs.Books.{Books, IsAt}
use Rattle.fl_crew_model.specs.Woven.{placed}
use Rattle.fl_crew_model.specs.Crews.{IsWorker, IsCrew, IsDueHome, IsMaker, IsCleared, benches_with}
use Rattle.fl_crew_model.specs.Crews.{Breaks, IsBroken}
use Rattle.fl_crew_model.proofs.Turns.{Before, put_at, put_other, begun_at, begins_it}
use Rattle.fl_crew_model.proofs.Weaving.{home_is}

module _ (number workers : ℕ) (n : NodeState) (b : Books) (old : ℕ → BenchState) (first : ℕ → ℕ)
    (crew : IsCrew number workers n b old first) where
  due_here : (batch : Batch) → b.due ≡ Some batch → n.state ≡ Running (Due batch)
  due_here batch is = subst (IsAt n.state) is crew.holds.state

  -- no bench changes, and no desk looks
  plain : (batch : Batch) → (published_with n batch).views ≡ n.views
      → (published_with n batch).benches ≡ n.benches → b.due ≡ Some batch
      → ((w : ℕ) → benches_with old batch w ≡ old w) → IsCleared number workers n b old batch
  plain batch views places is benches =
      let last = published_with n batch in
      let longer = length-append b.list (ops_of batch) in
      record {
        node = last;
        publishes = Publishes.published (due_here batch is);
        crew = record {
          numbered = crew.numbered;
          desks = ap length views ∙ crew.desks;
          places = ap length places ∙ crew.places;
          holds = record {
            saved = crew.holds.saved;
            list = ap (λ l. l ++ ops_of batch) crew.holds.list;
            state = refl;
          };
          due = tt;
          seen = λ w its.
              let s = crew.seen w its in
              let low = s.2 in
              let v = s.0 in
              let up : v ≤ length (b.list ++ ops_of batch) = omega arith in
              let as_well : v ≤ length b.list + length (ops_of batch) = omega arith in
              (v, ap (λ m. item_at m w) views ∙ s.1, up, as_well);
          stands =
              λ w its. ap (λ m. item_at m w) places
              ∙ (crew.stands w its ∙ ap Some (sym (benches w)));
        };
      }

  with_maker : (op : Op) (pid : Pid) (desk : ℕ) → b.due ≡ Some (Ordered op (Some pid) (Some desk))
      → IsMaker workers pid desk
      → IsCleared number workers n b old (Ordered op (Some pid) (Some desk))
  with_maker op pid desk is maker =
      let k = bench_of (length n.benches) pid.serial in
      let at : k ≡ desk =
      subst (λ (d : ℕ). bench_of d pid.serial ≡ desk) (sym crew.places) maker.home in
      record {
        node = published_with n batch;
        publishes = Publishes.published (due_here batch is);
        crew = record {
          numbered = crew.numbered;
          desks = length-with n.views desk longer ∙ crew.desks;
          places = length-change give n.benches k ∙ crew.places;
          holds = record {
            saved = crew.holds.saved;
            list = ap (λ l. l ++ op ∷ []) crew.holds.list;
            state = refl;
          };
          due = tt;
          seen = λ w its. seen_by w its (eqb_tells w desk);
          stands =
              λ w its. ap (λ q. item_at (change_item give n.benches q) w) at
              ∙ stands_by w its (eqb_tells w desk);
        };
      }
    where
      batch : Batch
      batch = Ordered op (Some pid) (Some desk)

      give : BenchState → BenchState
      give s = finished s pid op

      longer : ℕ
      longer = length (n.published ++ op ∷ [])

      seen_by : (w : ℕ) → IsWorker workers w → ((eqb w desk ≡ true) × (w ≡ desk))
          ⊎ ((eqb w desk ≡ false) × (w ≢ desk))
          → (v : ℕ)
          × (item_at (with_item n.views desk (length (n.published ++ op ∷ []))) w ≡ Some v)
          × (v ≤ length (b.list ++ op ∷ [])) × (v ≤ length b.list + length (op ∷ []))
      seen_by w its (inl same) =
          let sum = length-append b.list (op ∷ []) in
          let count : length (n.published ++ op ∷ []) ≡ length (b.list ++ op ∷ []) =
          ap (λ l. length (l ++ op ∷ [])) crew.holds.list in
          let now = length (n.published ++ op ∷ []) in
          let s = crew.seen desk maker.worker in
          let up : now ≤ length (b.list ++ op ∷ []) = omega (arith, count) in
          let as_well : now ≤ length b.list + length (op ∷ []) = omega (arith, count, sum) in (
            now,
            ap (item_at (with_item n.views desk now)) same.1
                ∙ put_at n.views desk s.0 now s.1,
            up,
            as_well,
          )
      seen_by w its (inr other) =
          let s = crew.seen w its in
          let low = s.2 in
          let v = s.0 in
          let sum = length-append b.list (op ∷ []) in
          let up : v ≤ length (b.list ++ op ∷ []) = omega arith in
          let as_well : v ≤ length b.list + length (op ∷ []) = omega arith in
          (v, put_other n.views desk w (length (n.published ++ op ∷ [])) other.1 ∙ s.1, up, as_well)

      stands_by : (w : ℕ) → IsWorker workers w → ((eqb w desk ≡ true) × (w ≡ desk))
          ⊎ ((eqb w desk ≡ false) × (w ≢ desk))
          → item_at (change_item (λ s. finished s pid op) n.benches desk) w ≡ Some
          (benches_with old (Ordered op (Some pid) (Some desk)) w)
      stands_by w its (inl same) =
          let end = finished (old desk) pid op in
          ap (item_at (change_item (λ s. finished s pid op) n.benches desk)) same.1
          ∙ (changed_at (λ s. finished s pid op) n.benches desk (old desk)
          (crew.stands desk maker.worker)
          ∙ ap (λ t. Some (cond t end (old w))) (sym (eq-eqb desk w (sym same.1))))
      stands_by w its (inr other) =
          let end = finished (old desk) pid op in
          others_stay (λ s. finished s pid op) n.benches desk w other.1
          ∙ (crew.stands w its ∙ ap (λ t. Some (cond t end (old w)))
          (sym (ne_eqb desk w (λ e. other.1 (sym e)))))

  due_home : (batch : Batch) → b.due ≡ Some batch → IsDueHome workers (Some batch)
  due_home batch is = subst (λ (d : Option Batch). IsDueHome workers d) is crew.due

  pub cleared_of : (batch : Batch) → b.due ≡ Some batch → IsCleared number workers n b old batch
  cleared_of (Ordered op None None) is = plain (Ordered op None None) refl refl is (λ w. refl)
  cleared_of (Ordered op (Some pid) (Some desk)) is =
      with_maker op pid desk is (due_home (Ordered op (Some pid) (Some desk)) is)
  cleared_of (Ordered op (Some pid) None) is = absurd (due_home (Ordered op (Some pid) None) is)
  cleared_of (Ordered op None (Some desk)) is = absurd (due_home (Ordered op None (Some desk)) is)
  cleared_of (Received ops) is = plain (Received ops) refl refl is (λ w. refl)

  pub broken_of : (w : ℕ) (e : Entry) → IsWorker workers w
      → (breaks : Breaks number b workers w (old w) (first w) e)
      → IsBroken n w e breaks.op breaks.pid
  broken_of w e its breaks =
      let op = breaks.op in
      let sees = crew.seen w its in
      let v = sees.0 in
      let low = sees.3 in
      let later = breaks.later in
      let enough = breaks.enough in
      let count = ap length crew.holds.list in
      let before : Before n w e (old w) = record {
        v = v;
        has_seen = sees.1;
        no_more = omega arith;
        enough = omega arith;
        stands = crew.stands w its;
        home = home_is n workers w e.job.value crew.places its.low breaks.home;
      } in
      let next : IsNextAfter n.saved n.number op.name =
      subst (λ (k : ℕ). IsNextAfter n.saved k op.name) (sym crew.numbered)
      (subst (λ s. IsNextAfter s number op.name) (sym crew.holds.saved) breaks.named) in
      let does : Does (first_ops e.seen n.published) (old w) e.job.value
      (Ok (Outcome.Order op.body breaks.pid)) breaks.left =
      subst (λ (l : List Op). Does (first_ops e.seen l) (old w) e.job.value
      (Ok (Outcome.Order op.body breaks.pid)) breaks.left) (sym crew.holds.list) breaks.does in
      let job =
      begins_it n w e (old w) b before crew.holds breaks.left op breaks.pid breaks.idle next
      does in
      record {
        begun = begun_at n w e (old w) b before crew.holds breaks.left op breaks.pid;
        job = job;
        lost = λ k. Saves.failed refl (inl refl);
        saved = λ k. Saves.failed refl (inr refl);
        safe = entries_safe (placed n w) (λ o h. h) w e.seen e.job.value job;
      }
