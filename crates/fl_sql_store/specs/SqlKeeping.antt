-- What a keeper over a database keeps.
use Rattle.std.specs.Prelude.{◌≡◌, ℕ, Bool, List, [], ◌∷◌, Option, IsTrue, refl}
use Rattle.std.specs.Coded.{Coded, code_by, coded×, coded_ℕ, coded_bool, coded_option}
use Rattle.sqlite.specs.Tree.{Trees}
use Rattle.sqlite.specs.declared.error.Error.{Error}
use Rattle.sqlite.specs.contracts.error.Error as error_row
use Rattle.sqlite_trees.specs.Objects.{catalog_tree}
use Rattle.sqlite.specs.State.{State}
use Rattle.sqlite.specs.Held.{Held, held_code}
use Rattle.sqlite.specs.Order.{Row}
use Rattle.std.proofs.Math.Logic.{∥∥₁_map}
use Rattle.fl_store.specs.Kept.{Kept}
use Rattle.fl_sql_tables.specs.Stored.{if_listed, nothing_kept, kept_by, kept_in}

pub record SqlKept (S : Type 0) : Type 0 where
  pub conn : Held S
  pub number : ℕ
  pub failures : ℕ
  pub is_broken : Bool
  -- the error at which a call broke it
  pub why : Option Error

abbrev pub sql_code : {S : Type 0} → Coded S → Coded (SqlKept S)
sql_code {S} store =
    code_by (Held S × (ℕ × (ℕ × (Bool × Option Error))))
    (coded× (held_code store) (coded× coded_ℕ (coded× coded_ℕ (coded× coded_bool (coded_option (error_row.the_row).coded)))))
    (λ k. (k.conn, (k.number, (k.failures, (k.is_broken, k.why)))))
    (λ p. record { conn = p.0; number = p.1.0; failures = p.1.1.0; is_broken = p.1.1.1.0; why = p.1.1.1.1 }) (λ _. refl)

-- what an opening of the database may find, if a crash comes now
abbrev pub held_in : ℕ → State → Kept → Type 0
held_in number s k = (db : Trees) × s.may_leave db × (k ≡ kept_in number db)

-- it is open, as the last commit left it
pub record IsAsCommitted (old new : State) : Type 0 where
  pub is_open : IsTrue new.is_open
  pub now_is : new.now ≡ old.committed
  pub committed_is : new.committed ≡ old.committed

-- an opening finds something, where some database is left
pub something_held : (number : ℕ) (may_leave : Trees → Type 0) → ∥ ((db : Trees) × may_leave db) ∥₁
    → ∥ ((k : Kept) × ((db : Trees) × may_leave db × (k ≡ kept_in number db))) ∥₁
something_held number may_leave some = ∥∥₁_map some (λ it. (kept_in number it.0, (it.0, it.1, refl)))

if_number : (number : ℕ) (rows : List Row) (none some : Kept) → none.number ≡ number → some.number ≡ number
    → (if_listed rows none some).number ≡ number
if_number number [] none some p q = p
if_number number (r ∷ rows) none some p q = q

-- what a database keeps of a node has its number
pub kept_number : (number : ℕ) (db : Trees) → (kept_in number db).number ≡ number
kept_number number db = if_number number (db catalog_tree) (nothing_kept number) (kept_by number db) refl refl
