-- Items in order, each once.
use Rattle.std.specs.Prelude.{◌↔◌, List}
use Rattle.std.specs.List.{Contains}
use Rattle.std.specs.List.Sorted.{IsStrictlySortedBy}
use Rattle.std.specs.declared.cmp.Ordering.{Ordering}

-- xs rise, and are those that meet P
pub record AreRising {K : Type 0} (R : K → K → Ordering) (P : K → Type 0) (xs : List K) : Type 0
  where
    pub rise : IsStrictlySortedBy R xs
    pub are : (x : K) → Contains xs x ↔ P x
