-- Why a node says that its keeper failed, over the calls that an opening goes through.
use Rattle.std.proofs.Common.{◌≡◌, ◌⊎◌, inl, inr, ◌∙◌, refl, sym, ap, Ok, Err, Result}
use Rattle.std.specs.Prelude.{IfErr}
use Rattle.fl_store.specs.Custody.{Custody}
use Rattle.fl_store.specs.Kept.{Kept, with_batch}
use Rattle.fl_store.specs.Keeping.{Held, Follows}
use Rattle.fl_system.specs.declared.answer.Fault.{Fault}
use Rattle.fl_system.specs.declared.answer.Fault.TheVariants.{KeeperFailed}
use Rattle.fl_system.specs.declared.state.Batch.{Batch}
use Rattle.fl_system.specs.declared.state.Pending.TheVariants.{Unsaved}
use Rattle.fl_system.specs.declared.state.State.{State}
use Rattle.fl_system.specs.declared.state.State.TheVariants.{Running}
use Rattle.fl_system.specs.State.{NodeState, ops_of}
use Rattle.fl_system.specs.Saves.{Saves}
use Rattle.fl_node.specs.Causes.{KeeperFails, IsStored, LoadsBadRow}

module _ {K T : Type 0} (custody : Custody K) (state : State) (keeper : K) (broken : Type 0)
    (honest : Type 0) (r : Result T Fault) where
  abbrev Bad : Type 0
  Bad = LoadsBadRow custody state keeper

  -- the keeper that the node had was loaded
  pub loads_own : (honest → custody.is_honest keeper) → IfErr r (KeeperFails broken honest (custody.has_bad_row keeper))
      → IfErr r (KeeperFails broken honest Bad)
  loads_own trusts = by r
    where
      by : (r : Result T Fault) → IfErr r (KeeperFails broken honest (custody.has_bad_row keeper)) → IfErr r (KeeperFails broken honest Bad)
      by (Ok x) h = tt
      by (Err fault) h = λ failed. elim (h failed) [
        | inl is ↦ inl is
        | inr row ↦ inr (λ is. record {
          loaded = keeper;
          bad = row is;
          honest = trusts is;
          was_honest = trusts is;
          number = refl;
          left = inl refl;
        })
      ]

  -- or that after the saving
  pub loads_stored : (mid : K) → custody.number mid ≡ custody.number keeper
      → (honest → custody.is_honest mid × custody.is_honest keeper × IsStored state (custody.may_hold keeper) (custody.may_hold mid))
      → IfErr r (KeeperFails broken honest (custody.has_bad_row mid)) → IfErr r (KeeperFails broken honest Bad)
  loads_stored mid number stored = by r
    where
      by : (r : Result T Fault) → IfErr r (KeeperFails broken honest (custody.has_bad_row mid)) → IfErr r (KeeperFails broken honest Bad)
      by (Ok x) h = tt
      by (Err fault) h = λ failed. elim (h failed) [
        | inl is ↦ inl is
        | inr row ↦ inr (λ is. record {
          loaded = mid;
          bad = row is;
          honest = (stored is).0;
          was_honest = (stored is).1;
          number = number;
          left = inr (stored is).2;
        })
      ]

stored_of : (n : NodeState) (batch : Batch) (k : Kept) (n' : NodeState) (k' : Kept) → n.state ≡ Running (Unsaved batch)
    → Saves n k (Ok tt) n' k' → k' ≡ with_batch k (ops_of batch)
stored_of n batch k n' k' is (Saves.saved {batch = other} pending) =
    ap (λ b. with_batch k (ops_of b)) (same (sym pending ∙ is))
  where
    same : Running (Unsaved other) ≡ Running (Unsaved batch) → other ≡ batch
    same e = cc

-- what was to be saved is kept after it was saved
pub stored_then : (n : NodeState) (batch : Batch) (n' : NodeState) (old new : Held) → n.state ≡ Running (Unsaved batch)
    → Follows (λ k k'. Saves n k (Ok tt) n' k') old new → IsStored n.state old new
stored_then n batch n' old new is h =
    (batch, is, λ after found. let b = h after found in (b.0, b.1, stored_of n batch b.0 n' after is b.2))

-- the keeper that came back was loaded
pub with_made : {K T : Type 0} (bad : K → Type 0) (gives : K
    → Type 0) (broken honest : Type 0) (r : Result T Fault) (made : K) → gives made
    → IfErr r (KeeperFails broken honest (bad made))
    → IfErr r (λ fault. fault ≡ KeeperFailed → (made : K) × gives made × (broken ⊎ (honest → bad made)))
with_made bad gives broken honest (Ok x) made given h = tt
with_made bad gives broken honest (Err fault) made given h = λ failed. (made, given, h failed)
