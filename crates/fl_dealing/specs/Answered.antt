-- That all items of a batch are answered.
use Rattle.std.specs.Prelude.{◌≡◌, ℕ, suc, List, map}
use Rattle.fl_dealing.specs.declared.item.Item.{Item}
use Rattle.fl_dealing.specs.declared.entry.Entry.{Entry}
use Rattle.fl_dealing.specs.Dealt.{owners_of, tasks_of, parcels_of}

-- the registrar said something of each of its parcels, and each worker of each of its tasks, in
-- the order of the places
pub record AreAnswered (workers procs : ℕ) (is : List Item) (said : ℕ → List Entry) : Type 0 where
  pub parcels : map (λ e. e.job) (said 0) ≡ map (λ p. p.place) (parcels_of 0 is)
  pub tasks : (i : ℕ) → map (λ e. e.job) (said (suc i))
      ≡ map (λ t. t.place) (tasks_of (suc i) 0 (owners_of workers procs is) is)
