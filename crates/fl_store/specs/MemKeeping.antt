-- What a keeper in memory is, what a call makes of it, and why one is refused.
use Rattle.std.specs.Prelude.{◌≡◌, ◌⊎◌, ◌<◌, ℕ, zero, suc, Bool, true, false, List, refl, if◌then◌else◌}
use Rattle.std.specs.Prelude.{length, IsTrue}
use Rattle.std.specs.Coded.{Coded, code_by, coded×}
use Rattle.fl_labels.specs.SetBy as set
use Rattle.fl_labels.specs.SetBy.{SetBy}
use Rattle.fl_ops.specs.declared.op.Op.{Op}
use Rattle.fl_ops.specs.OpOrder.{op_cmp}
use Rattle.fl_store.specs.declared.health.Health.{Health}
use Rattle.fl_store.specs.declared.health.Health.TheVariants.{Sound, BreaksAfter, Broken}
use Rattle.fl_store.specs.contracts.health.Health as health_row
use Rattle.fl_store.specs.Kept.{Kept, coded_kept, with_ops, raised}
use Rattle.fl_store.specs.Call.{Call, Load, Boot, Save}
use Rattle.fl_store.specs.Custody.{Custody}

pub record MemKept : Type 0 where
  pub kept : Kept
  pub health : Health

-- it is stored as the pair of its fields
abbrev pub coded_mem : Coded MemKept
coded_mem =
    code_by (Kept × Health) (coded× coded_kept (health_row.the_row).coded)
    (λ k. (k.kept, k.health))
    (λ t. record { kept = t.0; health = t.1 })
    (λ _. refl)

abbrev pub is_broken_at : Health → Bool
is_broken_at Sound = false
is_broken_at (BreaksAfter saves keeps) = false
is_broken_at Broken = true

-- it breaks once
abbrev pub failed_at : Health → ℕ
failed_at Sound = 0
failed_at (BreaksAfter saves keeps) = 0
failed_at Broken = 1

-- told to break after so many saves
abbrev pub breaking : Health → ℕ → Bool → Health
breaking Sound saves keeps = BreaksAfter saves keeps
breaking (BreaksAfter other kept) saves keeps = BreaksAfter saves keeps
breaking Broken saves keeps = Broken

-- what a save that has its memory makes of the health: from Broken on it answers so
abbrev pub health_after : Health → Health
health_after Sound = Sound
health_after (BreaksAfter zero keeps) = Broken
health_after (BreaksAfter (suc saves) keeps) = BreaksAfter saves keeps
health_after Broken = Broken

-- and what it makes of the saved operations
abbrev pub saved_after : Health → SetBy op_cmp → List Op → SetBy op_cmp
saved_after Sound saved ops = with_ops saved ops
saved_after (BreaksAfter zero keeps) saved ops = if keeps then with_ops saved ops else saved
saved_after (BreaksAfter (suc saves) keeps) saved ops = with_ops saved ops
saved_after Broken saved ops = saved

-- what a save makes of the keeper
abbrev pub after_save : MemKept → List Op → MemKept
after_save k ops = record {
  kept = record k.kept { saved = saved_after k.health k.kept.saved ops };
  health = health_after k.health;
}

-- What a call that does not want for memory makes of the keeper: only a save changes the health, and
-- only a boot, of one that is not broken, the number of boots.
abbrev pub MemBecomes : Call → MemKept → MemKept → Type 0
MemBecomes Load old new = new ≡ old
MemBecomes Boot old new =
    (new ≡ old)
    ⊎ ((is_broken_at old.health ≡ false) × (new ≡ record old { kept = raised old.kept }))
MemBecomes (Save ops) old new = new ≡ after_save old ops

-- it is told to break at the next save
abbrev pub IsDue : Health → Type 0
IsDue Sound = ⊥
IsDue (BreaksAfter zero keeps) = Unit {0}
IsDue (BreaksAfter (suc saves) keeps) = ⊥
IsDue Broken = ⊥

-- what breaks it: a save at which it was told to break
abbrev pub MemBreaks : Call → MemKept → MemKept → Type 0
MemBreaks Load old new = ⊥
MemBreaks Boot old new = ⊥
MemBreaks (Save ops) old new = IsDue old.health × (new ≡ after_save old ops)

-- a save adds its batch
abbrev pub adds_at : Health → Bool
adds_at Sound = true
adds_at (BreaksAfter zero keeps) = keeps
adds_at (BreaksAfter (suc saves) keeps) = true
adds_at Broken = false

-- what wants for memory: to load what is saved, and to add a batch, where that is something; nothing
-- has changed
abbrev pub MemWants : Call → MemKept → MemKept → Type 0
MemWants Load old new =
    (is_broken_at old.health ≡ false) × (0 < set.len old.kept.saved) × (new ≡ old)
MemWants Boot old new = ⊥
MemWants (Save ops) old new = IsTrue (adds_at old.health) × (0 < length ops) × (new ≡ old)

-- whose it is, what it may hold, and when it fails: it is always honest, and no row of it is bad
abbrev pub mem_custody : Custody MemKept
mem_custody = record {
  number = λ k. k.kept.number;
  may_hold = λ keeper k. k ≡ keeper.kept;
  is_honest = λ k. Unit {0};
  failed = λ k. failed_at k.health;
  is_broken = λ k. is_broken_at k.health;
  has_bad_row = λ k. ⊥;
  breaks = MemBreaks;
  wants = MemWants;
  becomes = MemBecomes;
}
