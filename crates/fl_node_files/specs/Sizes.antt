-- What stands where a node is kept, by how many bytes its database and its log have.
use Rattle.std.specs.Prelude.{ℕ, zero, suc, Bool, true, false, nat_lt, Option, None, Some, Result, Ok, Err}
use Rattle.fl_node_files.specs.declared.fault.Unserved.{Unserved}
use Rattle.fl_node_files.specs.declared.fault.Unserved.TheVariants.{LogMissing, LogAlone}
use Rattle.fl_node_files.specs.declared.sizes.Standing.{Standing}
use Rattle.fl_node_files.specs.declared.sizes.Standing.TheVariants.{Nothing, Empty, Database}

-- a log has a page: its header has 32 bytes, and no page fewer than 512
abbrev pub has_page : Option ℕ → Bool
has_page None = false
has_page (Some size) = nat_lt 511 size

-- where the database has no byte: its log must not have more
abbrev pub unless_logged : Bool → Standing → Result Standing Unserved
unless_logged true it = Err LogAlone
unless_logged false it = Ok it

-- where it has some: its log must be there
abbrev pub if_logged : Option ℕ → Result Standing Unserved
if_logged None = Err LogMissing
if_logged (Some size) = Ok Database

-- by the bytes of the database and of its log, each of which may be missing
abbrev pub standing_of : Option ℕ → Option ℕ → Result Standing Unserved
standing_of None log = unless_logged (has_page log) Nothing
standing_of (Some zero) log = unless_logged (has_page log) Empty
standing_of (Some (suc n)) log = if_logged log
