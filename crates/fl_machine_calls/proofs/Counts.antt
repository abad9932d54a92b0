-- How much is noted of acts, one after another.
use Rattle.std.proofs.Common.{◌+◌, refl, ℕ, List, [], ◌∷◌, arith}
use Rattle.fl_machine_model.specs.Acts.{Act, Outcome}
use Rattle.fl_machine_turns.specs.Done.{Did, did, AreCounted, IsCounted}

pub one_counted : (act : Act) (came : Outcome) (count : ℕ) → IsCounted came count
    → AreCounted (did act came ∷ []) count
one_counted act came count counted = (count, 0, counted, refl, omega arith)

pub more_counted : (act : Act) (came : Outcome) (ds : List Did) (count more : ℕ)
    → IsCounted came count → AreCounted ds more → AreCounted (did act came ∷ ds) (count + more)
more_counted act came ds count more counted others = (count, more, counted, others, refl)
