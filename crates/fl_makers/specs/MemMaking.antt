-- What is promised of a maker of keepers in memory.
use Rattle.std.specs.Prelude.{◌≡◌}
use Rattle.fl_store.specs.declared.health.Health.TheVariants.{Sound}
use Rattle.fl_store.specs.MemKeeping.{MemKept}
use Rattle.fl_makers.specs.Making.{Making, nothing_kept}

-- it makes one for each node, which keeps nothing yet and is sound, and so each time; no node is
-- refused for its sake
abbrev pub mem_making : {M : Type 0} → Making M MemKept
mem_making = record {
  makes = λ maker number keeper. keeper ≡ record { kept = nothing_kept number; health = Sound };
  finds = λ maker number k. k ≡ nothing_kept number;
  unmade = λ maker number fault. ⊥;
  refuses = λ maker number fault. ⊥;
  again = λ number k. k ≡ nothing_kept number;
}
