-- A node that was opened is a crew's; and one more deed of the registrar.
use Rattle.std.proofs.Common.{ℕ, ◌+◌, List}
use Rattle.std.proofs.Common.{[], ◌∷◌, ◌++◌, length, None, refl, subst, arith}
use Rattle.fl_labels.specs.SetBy as set
use Rattle.fl_bench.specs.Bench.{new_bench}
use Rattle.fl_store.specs.Kept.{Kept}
use Rattle.fl_system.specs.Openings.{opened}
use Rattle.fl_system_laws.specs.laws.Numbered.{item_at-items_to, length-items}
use Rattle.fl_crew_model.specs.declared.record.Deed.{Deed}
use Rattle.fl_crew_model.specs.Books.{Books, IsDeed, Recorded}
use Rattle.fl_crew_model.specs.Crews.{IsCrew}

pub opened_crew : (workers : ℕ) (k : Kept)
    → IsCrew k.number workers (opened workers k)
    (record { saved = k.saved; list = set.members k.saved; due = None })
    (λ w. new_bench k.number (k.boot + 1) w workers) (λ w. length (set.members k.saved))
opened_crew workers k =
    record {
      numbered = refl;
      desks = length-items workers (λ w. length (set.members k.saved));
      places = length-items workers (λ w. new_bench k.number (k.boot + 1) w workers);
      holds = record { saved = refl; list = refl; state = refl };
      due = tt;
      seen =
          λ w its. (
            length (set.members k.saved),
            item_at-items_to workers (λ w. length (set.members k.saved)) w
                its.low its.high,
            omega arith,
            omega arith,
          );
      stands =
          λ w its. item_at-items_to workers (λ w. new_bench k.number (k.boot + 1) w workers) w its.low
          its.high;
    }

pub recorded_more : (number : ℕ) (b mid b' : Books) (rs : List Deed) (r : Deed)
    → Recorded number b rs mid → IsDeed number mid r b' → Recorded number b (rs ++ r ∷ []) b'
recorded_more number b mid b' [] r h deed =
    (b', subst (λ (x : Books). IsDeed number x r b') h deed, refl)
recorded_more number b mid b' (q ∷ rs) r (next, first, h) deed =
    (next, first, recorded_more number next mid b' rs r h deed)
