-- Openings in memory are those over stores in which nothing is kept yet.
use Rattle.std.proofs.Common.{◌≡◌, ◌∙◌, inl, refl, sym, ap, ℕ, Some}
use Rattle.fl_makers.specs.Making.{nothing_kept}
use Rattle.fl_makers.specs.MemMaking.{mem_making}
use Rattle.fl_makers.specs.declared.mem.MemMaker.{MemMaker}
use Rattle.fl_store.specs.Kept.{Kept}
use Rattle.fl_store.specs.MemKeeping.{mem_custody}
use Rattle.fl_system.specs.declared.answer.Fault.{Fault}
use Rattle.fl_system.specs.World.{World}
use Rattle.fl_calls.specs.Over.{NotOpened, without_keeper, not_joined}
use Rattle.fl_calls.specs.laws.Widening.{OpensMore}
use Rattle.fl_turn_laws.specs.Certain as certain
use Rattle.fl_turn_laws.specs.Certain.{RefusesOver, OpenOneWay, given}
use Rattle.fl_turn_laws.specs.InMemory.{in_memory, never_opened}

-- a keeper in memory holds what it keeps
refused_over : (found : Kept → Type 0) (maker : MemMaker) (w : World) (number : ℕ) (fault : Fault) → found (nothing_kept number)
    → NotOpened mem_custody mem_making maker w number fault → RefusesOver found w number fault
refused_over found maker w number fault there (without_keeper none) = absurd none
refused_over found maker w number fault there (not_joined keeper left made other over) =
    let (honest, k, held, is, refused) = over (record { honest = tt; kept = left.kept; held = refl }) in
    certain.not_joined there (inl is) refused

pub one_way : OpenOneWay in_memory
one_way = record {
  one_kept = λ number k other is was. is ∙ sym was;
  refused = λ w number fault. refused_over (λ k. k ≡ nothing_kept number) _ w number fault refl;
}

pub are_given : OpensMore in_memory (given never_opened in_memory)
are_given = record {
  finds = λ number k is. (ap Some (sym is), is);
  refuses = λ w number fault why.
      (refused_over (λ k. never_opened number ≡ Some k) _ w number fault refl why, why);
}
