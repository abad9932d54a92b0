-- What a call of a keeper leaves to the next opening, and why one is refused.
use Rattle.std.specs.Prelude.{◌≡◌, ◌⊎◌, ◌+◌, ◌<◌, ℕ, Bool, IsTrue, List}
use Rattle.std.specs.declared.result.Result.{Result}
use Rattle.std.specs.declared.result.Result.TheVariants.{Ok, Err}
use Rattle.fl_labels.specs.SetBy.{SetBy}
use Rattle.fl_ops.specs.declared.op.Op.{Op}
use Rattle.fl_ops.specs.OpOrder.{op_cmp}
use Rattle.fl_store.specs.declared.keeper.KeeperFault.{KeeperFault}
use Rattle.fl_store.specs.declared.keeper.KeeperFault.TheVariants.{Memory, Broken, WrongNode, BadRow, NamesSpent}
use Rattle.fl_store.specs.Kept.{Kept, with_batch, raised}

-- what an opening may find
abbrev pub Held : Type 1
Held = Kept → Type 0

-- what is found now comes by this step from something that might have been found before
abbrev pub Follows : (Kept → Kept → Type 0) → Held → Held → Type 0
Follows step old new = (after : Kept) → new after → (before : Kept) × old before × step before after

-- nothing that may be found is new
abbrev pub Stays : Held → Held → Type 0
Stays = Follows (λ k k'. k' ≡ k)

-- a keeper is broken, after so many faults
abbrev pub HasBroken : Bool → ℕ → Type 0
HasBroken broken failed = IsTrue broken × (0 < failed)

-- why nothing could be loaded: want of memory, the keeper is broken, or a row is bad
abbrev pub LoadFails : Bool → ℕ → Type 0 → KeeperFault → Type 0
LoadFails broken failed bad Memory = Unit {0}
LoadFails broken failed bad Broken = HasBroken broken failed
LoadFails broken failed bad WrongNode = ⊥
LoadFails broken failed bad BadRow = bad
LoadFails broken failed bad NamesSpent = ⊥

-- why the boot was not raised: want of memory, the keeper is broken, or all boots are spent
abbrev pub BootFails : Bool → ℕ → KeeperFault → Type 0
BootFails broken failed Memory = Unit {0}
BootFails broken failed Broken = HasBroken broken failed
BootFails broken failed WrongNode = ⊥
BootFails broken failed BadRow = ⊥
BootFails broken failed NamesSpent = Unit {0}

-- why a batch was not saved: want of memory, or the keeper is broken
abbrev pub SaveFails : Bool → ℕ → KeeperFault → Type 0
SaveFails broken failed Memory = Unit {0}
SaveFails broken failed Broken = HasBroken broken failed
SaveFails broken failed WrongNode = ⊥
SaveFails broken failed BadRow = ⊥
SaveFails broken failed NamesSpent = ⊥

-- what was loaded are the operations that were kept, and an opening finds them
abbrev pub AfterLoad : Held → Held → Result (SetBy op_cmp) KeeperFault → Type 0
AfterLoad old new (Ok saved) = Follows (λ k k'. (k' ≡ k) × (saved ≡ k.saved)) old new
AfterLoad old new (Err Memory) = Stays old new
AfterLoad old new (Err Broken) = Stays old new
AfterLoad old new (Err WrongNode) = ⊥
AfterLoad old new (Err BadRow) = Stays old new
AfterLoad old new (Err NamesSpent) = ⊥

-- the boot is raised by one and given; where the keeper breaks, it is as before or raised
abbrev pub AfterBoot : Held → Held → Result ℕ KeeperFault → Type 0
AfterBoot old new (Ok boot) = Follows (λ k k'. (k' ≡ raised k) × (boot ≡ k.boot + 1)) old new
AfterBoot old new (Err Memory) = Stays old new
AfterBoot old new (Err Broken) = Follows (λ k k'. (k' ≡ k) ⊎ (k' ≡ raised k)) old new
AfterBoot old new (Err WrongNode) = ⊥
AfterBoot old new (Err BadRow) = ⊥
AfterBoot old new (Err NamesSpent) = Follows (λ k k'. (k' ≡ k) × (k.boot ≡ 4294967295)) old new

-- the batch is added; where the keeper breaks, the operations are as before, or those with the whole batch
abbrev pub AfterSave : List Op → Held → Held → Result (Unit {0}) KeeperFault → Type 0
AfterSave ops old new (Ok _) = Follows (λ k k'. k' ≡ with_batch k ops) old new
AfterSave ops old new (Err Memory) = Stays old new
AfterSave ops old new (Err Broken) = Follows (λ k k'. (k' ≡ k) ⊎ (k' ≡ with_batch k ops)) old new
AfterSave ops old new (Err WrongNode) = ⊥
AfterSave ops old new (Err BadRow) = ⊥
AfterSave ops old new (Err NamesSpent) = ⊥
