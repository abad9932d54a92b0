-- What an opening finds at a keeper.
use Rattle.std.specs.Prelude.{◌≡◌, ◌≢◌, ◌⊎◌, ◌<◌, ◌+◌, ℕ}
use Rattle.std.specs.declared.result.Result.{Result}
use Rattle.std.specs.declared.result.Result.TheVariants.{Ok, Err}
use Rattle.fl_labels.specs.SetBy.{SetBy}
use Rattle.fl_ops.specs.OpOrder.{op_cmp}
use Rattle.fl_jobs.specs.declared.answer.Refusal.TheVariants.{Memory, NamesSpent}
use Rattle.fl_store.specs.declared.keeper.KeeperFault.{KeeperFault}
use Rattle.fl_store.specs.declared.keeper.KeeperFault.TheVariants as keeper
use Rattle.fl_store.specs.Kept.{Kept, raised}
use Rattle.fl_store.specs.Keeping.{Held, Follows}
use Rattle.fl_system.specs.declared.answer.Fault.{Fault}
use Rattle.fl_system.specs.declared.answer.Fault.TheVariants.{Refused, KeeperFailed, WrongNode}

-- what is answered where a keeper refuses
abbrev pub shown_as : KeeperFault → Fault
shown_as keeper.Memory = Refused Memory
shown_as keeper.Broken = KeeperFailed
shown_as keeper.BadRow = KeeperFailed
shown_as keeper.WrongNode = WrongNode
shown_as keeper.NamesSpent = Refused NamesSpent

pub data FailsToFind (number : ℕ) (k : Kept) : Fault → Type 0 where
  no_room : FailsToFind number k (Refused Memory)
  keeper_failed : FailsToFind number k KeeperFailed
  other : k.number ≢ number → FailsToFind number k WrongNode

-- the operations saved are these, of this node
pub record IsFound (number : ℕ) (saved : SetBy op_cmp) (k k' : Kept) : Type 0 where
  pub same : k' ≡ k
  pub saved_is : saved ≡ k.saved
  pub number_is : k.number ≡ number

pub record IsNotFound (number : ℕ) (fault : Fault) (k k' : Kept) : Type 0 where
  pub same : k' ≡ k
  pub fails : FailsToFind number k fault

abbrev pub Finds : ℕ → Held → Held → Result (SetBy op_cmp) Fault → Type 0
Finds number old new (Ok saved) = Follows (IsFound number saved) old new
Finds number old new (Err fault) = Follows (IsNotFound number fault) old new

-- the boot was raised, since one was left
pub record IsRaised (boot : ℕ) (k k' : Kept) : Type 0 where
  pub up : k' ≡ raised k
  pub boot_is : boot ≡ k.boot + 1
  pub left : k.boot < 4294967295

-- why it was not, and what is left
pub data FailsToRaise (k : Kept) : Fault → Kept → Type 0 where
  no_room : FailsToRaise k (Refused Memory) k
  keeper_failed : {left : Kept} → (left ≡ k) ⊎ (left ≡ raised k) → FailsToRaise k KeeperFailed left
  spent : k.boot ≡ 4294967295 → FailsToRaise k (Refused NamesSpent) k

abbrev pub Raises : Held → Held → Result ℕ Fault → Type 0
Raises old new (Ok boot) = Follows (IsRaised boot) old new
Raises old new (Err fault) = Follows (λ k k'. FailsToRaise k fault k') old new
