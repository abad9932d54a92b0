-- What is kept after operations are saved, or not.
use Rattle.std.specs.Prelude.{◌≡◌, ◌⊎◌, List}
use Rattle.std.specs.declared.result.Result.{Result}
use Rattle.std.specs.declared.result.Result.TheVariants.{Ok, Err}
use Rattle.fl_ops.specs.declared.op.Op.{Op}
use Rattle.fl_store.specs.declared.keeper.KeeperFault.{KeeperFault}
use Rattle.fl_store.specs.declared.keeper.KeeperFault.TheVariants as keeper
use Rattle.fl_store.specs.Kept.{with_batch}
use Rattle.fl_store.specs.Keeping.{Held, Follows, Stays}
use Rattle.fl_node.specs.declared.keeping.Unkept.{Unkept}
use Rattle.fl_node.specs.declared.keeping.Unkept.TheVariants.{Memory, Broken}

-- why operations are not saved, by what the keeper says
abbrev pub unkept_of : KeeperFault → Unkept
unkept_of keeper.Memory = Memory
unkept_of keeper.Broken = Broken
unkept_of keeper.BadRow = Broken
unkept_of keeper.WrongNode = Broken
unkept_of keeper.NamesSpent = Broken

abbrev pub Keeps : List Op → Held → Held → Result (Unit {0}) Unkept → Type 0
Keeps ops old new (Ok _) = Follows (λ k k'. k' ≡ with_batch k ops) old new
Keeps ops old new (Err Memory) = Stays old new
Keeps ops old new (Err Broken) = Follows (λ k k'. (k' ≡ k) ⊎ (k' ≡ with_batch k ops)) old new
