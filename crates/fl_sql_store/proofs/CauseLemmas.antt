-- Why a call over the connection failed, and what it is told as.
use Rattle.std.proofs.Common.{◌≡◌, ◌<◌, ◌≤◌, ◌+◌, ◌⊎◌, inl, inr, ℕ, pos, List, [], ◌∷◌, subst, sym, arith}
use Rattle.std.proofs.Common.{◌∙◌, ◌≢◌, Result, Err}
use Rattle.sqlite.specs.Disk.{MoreFaults}
use Rattle.sqlite.specs.Order.{Row}
use Rattle.sqlite.specs.Held.{Held}
use Rattle.sqlite.specs.Store.{Ghosts}
use Rattle.sqlite.specs.State.{State, IsUnchanged, IsNotRun, KeepsCommit, Survives}
use Rattle.sqlite.specs.Listing.{understood}
use Rattle.sqlite.specs.declared.types.Value.TheVariants.{Int}
use Rattle.sqlite.specs.declared.error.Error.{Error}
use Rattle.std.specs.Prelude.{IsSome, Option}
use Rattle.sqlite.specs.Effect.{Database}
use Rattle.fl_store.specs.declared.keeper.KeeperFault.{KeeperFault}
use Rattle.fl_store.specs.declared.keeper.KeeperFault.TheVariants.{Memory, Broken, BadRow, NamesSpent}
use Rattle.fl_sql_tables.specs.Tables.{keeper_schema, raise_boot_text}
use Rattle.fl_sql_tables.specs.Stored.{HasSelf, IsUndone}
use Rattle.fl_sql_tables.specs.Failing.{IsFault, IsRefused, FailsToRaise, FailsToLoad}
use Rattle.fl_sql_store.proofs.KeepLemmas.{one_boot}
use Rattle.fl_sql_store.specs.Breaking.{IsTold, FailsToBoot, RefusesToLoad}

more_before : (a b c : ℕ) → a ≤ b → MoreFaults b c → MoreFaults a c
more_before a b c le h = omega (arith, h)

-- a fault after a call is one of both
pub fault_after : (a b c : State) (e : Error) → a.faults ≤ b.faults → b.step_limit ≡ a.step_limit → IsFault b c e → IsFault a c e
fault_after a b c e counts limit (inl h) = inl h
fault_after a b c e counts limit (inr (inl h)) = inr (inl (h.0, more_before a.faults b.faults c.faults counts h.1))
fault_after a b c e counts limit (inr (inr h)) = inr (inr (h.0, subst IsSome limit h.1))

abbrev IsBootRefused : State → ℕ → Database → Option ℕ → Type 0
IsBootRefused s boot db limit = IsRefused (record s { step_limit = limit }) db raise_boot_text (Int (pos boot) ∷ []) (understood keeper_schema raise_boot_text)

raise_after : (a b c : State) (boot : ℕ) (e : Error) → b.now ≡ a.now → a.faults ≤ b.faults → b.step_limit ≡ a.step_limit → FailsToRaise boot b c e → FailsToRaise boot a c e
raise_after a b c boot e same counts limit (inl h) = inl (fault_after a b c e counts limit h)
raise_after a b c boot e same counts limit (inr h) =
    inr (subst (IsBootRefused b boot a.now) limit (subst (λ d. IsBootRefused b boot d b.step_limit) same h))

-- the boot that was read is not raised
pub boot_fault : (number : ℕ) (old read left : State) (boot : ℕ) (e : Error) → boot < 4294967295 → HasSelf number boot (old.now.trees 0) → IsUnchanged old read → Survives old read (λ _. ⊥)
    → FailsToRaise (boot + 1) read left e → FailsToBoot number old left e
boot_fault number old read left boot e below one same survives fails = inr (boot, below, one, raise_after old read left (boot + 1) e same.0.now_is survives.counts survives.limit fails)

-- a boot below the last is not the last
pub not_last : (number boot : ℕ) (rows : List Row) → boot < 4294967295 → HasSelf number boot rows → HasSelf number 4294967295 rows → ⊥
not_last number boot rows below is last =
    let same : boot ≡ 4294967295 = one_boot number boot 4294967295 rows is last in
    omega (arith, below, same)

-- the database did not give the operations
pub load_told : {S : Type 0} (g : Ghosts S) (old new : Held S) (why : Option Error) (fault : KeeperFault)
    → (fault ≡ Memory) ⊎ (fault ≡ Broken) → IsTold g FailsToLoad old new why fault
    → RefusesToLoad g old new why fault
load_told g old new why fault (inl is) told =
    subst (RefusesToLoad g old new why) (sym is) (inr (subst (IsTold g FailsToLoad old new why) is told))
load_told g old new why fault (inr is) told =
    subst (RefusesToLoad g old new why) (sym is) (subst (IsTold g FailsToLoad old new why) is told)

-- nothing changed before a call that committed nothing
pub undone_after : (a b c : State) → IsUnchanged a b → IsUndone b c → IsUndone a c
undone_after a b c same undone = record {
  was_open = λ is_open. same.0.was_open;
  now_is = λ is_open. undone.now_is is_open ∙ same.0.committed_is;
  committed_is = λ is_open. undone.committed_is is_open ∙ same.0.committed_is;
}

-- a text that is not run commits nothing
pub kept_if_not_run : (old new : State) (sql : List ℕ) (params : Row) (e : Error)
    → IsNotRun old new sql params e → KeepsCommit old new
unfolding IsNotRun
kept_if_not_run old new sql params e (inl h) = record {
  was_open = λ _. h.1.0.was_open;
  committed = λ _. h.1.0.committed_is;
}
kept_if_not_run old new sql params e (inr h) = record {
  was_open = h.3.was_open;
  committed = λ is_open. (h.3.undone is_open).1;
}

-- what a call was refused with, but for what it serves on after
module _ (e : KeeperFault) where
  pub save_broken : (e ≡ Memory) ⊎ (e ≡ Broken) → e ≢ Memory → e ≡ Broken
  save_broken (inl is) not_memory = absurd (not_memory is)
  save_broken (inr is) not_memory = is

  pub boot_broken : (e ≡ Memory) ⊎ ((e ≡ Broken) ⊎ (e ≡ NamesSpent)) → e ≢ Memory → e ≢ NamesSpent → e ≡ Broken
  boot_broken (inl is) not_memory not_spent = absurd (not_memory is)
  boot_broken (inr (inl is)) not_memory not_spent = is
  boot_broken (inr (inr is)) not_memory not_spent = absurd (not_spent is)

pub memory_not_spent : Memory ≡ NamesSpent → ⊥
memory_not_spent is = absurd (cc)

module _ {S : Type 0} (g : Ghosts S) (Fails : State → State → Error → Type 0) (old new : Held S) (why : Option Error) (e : KeeperFault) where
  pub told_memory : e ≡ Memory → IsTold g Fails old new why e → IsTold g Fails old new why Memory
  told_memory is told = subst (IsTold g Fails old new why) is told

  pub told_broken : e ≡ Broken → IsTold g Fails old new why e → IsTold g Fails old new why Broken
  told_broken is told = subst (IsTold g Fails old new why) is told

pub load_broken : {S : Type 0} (g : Ghosts S) (old new : Held S) (why : Option Error) (e : KeeperFault)
    → (e ≡ Memory) ⊎ ((e ≡ Broken) ⊎ (e ≡ BadRow)) → e ≢ Memory → e ≢ BadRow → RefusesToLoad g old new why e
    → IsTold g FailsToLoad old new why Broken
load_broken g old new why e (inl is) not_memory not_bad h = absurd (not_memory is)
load_broken g old new why e (inr (inl is)) not_memory not_bad h = subst (RefusesToLoad g old new why) is h
load_broken g old new why e (inr (inr is)) not_memory not_bad h = absurd (not_bad is)

-- a refusal that is told as this is no break
err_is : {T : Type 0} (e f : KeeperFault) (r s : Result T KeeperFault) → r ≡ Err e → s ≡ Err f → r ≡ s → e ≡ f
err_is e f r s r_is s_is same = cc

pub not_broken : {T : Type 0} (e : KeeperFault) (r s : Result T KeeperFault) → r ≡ Err e → s ≡ Err Broken → e ≢ Broken → r ≢ s
not_broken e r s r_is s_is differs same = differs (err_is e Broken r s r_is s_is same)

pub memory_serves : (e : KeeperFault) → e ≡ Memory → e ≢ Broken
memory_serves e is broken = absurd (let wrong : Memory ≡ Broken = sym is ∙ broken in cc)

pub bad_row_serves : (e : KeeperFault) → e ≡ BadRow → e ≢ Broken
bad_row_serves e is broken = absurd (let wrong : BadRow ≡ Broken = sym is ∙ broken in cc)

pub spent_serves : (e : KeeperFault) → e ≡ NamesSpent → e ≢ Broken
spent_serves e is broken = absurd (let wrong : NamesSpent ≡ Broken = sym is ∙ broken in cc)
