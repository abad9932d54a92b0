-- How a session starts.
use Rattle.std.proofs.Common.{◌≡◌, refl, sym, subst, ℕ, Bool, false, List, Ok}
use Rattle.fl_seal.specs.declared.seal.Key.{Key}
use Rattle.fl_store.specs.Custody.{Custody}
use Rattle.fl_store.specs.Keeping.{Follows}
use Rattle.fl_node.specs.Over.{NodeOver}
use Rattle.fl_system.specs.Openings.{IsOf, Opens}
use Rattle.fl_machine_turns.specs.Run.{IsStarted}
use Rattle.fl_machine_turns.specs.Settings.{settings_of}

-- once its node was opened
pub started : {K : Type 0} (custody : Custody K) (keeper : K) (node : NodeOver K) (number : ℕ)
    (keys : List Key) (guards : Bool) → node.node.number ≡ number
    → (custody.is_honest node.keeper → custody.is_honest keeper
    × Follows (λ k k'. Opens 1 (IsOf number) k (Ok node.node) k') (custody.may_hold keeper)
    (custody.may_hold node.keeper))
    → IsStarted custody (custody.may_hold keeper) (record {
      settings = settings_of node.node.number keys guards;
      node = node;
      admitted = 0;
      over = false;
    })
started custody keeper node number keys guards same opened =
    record {
      none_admitted = refl;
      not_over = refl;
      opened = λ h k held.
          let f = (opened h).1 k held in
          (f.0, f.1, subst (λ n. Opens 1 (IsOf n) f.0 (Ok node.node) k) (sym same) f.2);
    }
