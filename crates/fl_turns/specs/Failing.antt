-- Why a line of a script is answered that a keeper failed.
use Rattle.std.specs.Prelude.{ℕ, Bool, List, Option}
use Rattle.fl_store.specs.Custody.{Custody}
use Rattle.fl_makers.specs.Making.{Making}
use Rattle.fl_script.specs.declared.line.Line.{Line}
use Rattle.fl_script.specs.declared.line.Line.TheVariants as lines
use Rattle.fl_script.specs.declared.request.Request.{Request}
use Rattle.fl_script.specs.declared.request.Request.TheVariants.{Restart}
use Rattle.fl_script.specs.declared.reading.Reading.TheVariants.{Means}
use Rattle.fl_script.specs.Reading.{IsReading}
use Rattle.fl_aliases.specs.Table.{Table}
use Rattle.fl_nodes.specs.Failing.{FailsAt, IsBrokenAt, LoadsBadRowOf}
use Rattle.fl_nodes.specs.Over.{WorldOver}
use Rattle.fl_calls.specs.Failing.{FailsOnceOpen}
use Rattle.fl_calls.specs.Over.{ClusterOver}

-- the keeper of the node of this number is broken, or, where it was to restart, it loaded a bad row
pub data FailsAsked {K : Type 0} (custody : Custody K) (old new : WorldOver K) (number : ℕ)
    : Request → Type 0 where
  broken : {request : Request} → IsBrokenAt custody new number
      → FailsAsked custody old new number request
  restarting : {kept : Bool} → FailsAt custody (LoadsBadRowOf custody) old new number
      → FailsAsked custody old new number (Restart kept)

-- a node that the line names was not opened for its keeper's sake, or what it asks of it failed
abbrev pub FailsSaid : {K M : Type 0} → Custody K → Making M K → ClusterOver K M → ClusterOver K M
    → Line → Type 0
FailsSaid custody making old new (lines.Node number request) =
    FailsOnceOpen custody making old new number
    (λ between. FailsAsked custody between.world new.world number request)
FailsSaid custody making old new (lines.Union first second) =
    FailsOnceOpen custody making old new first
    (λ between. FailsOnceOpen custody making between new second (λ after. ⊥))
FailsSaid custody making old new lines.Audit = ⊥
FailsSaid custody making old new lines.Aliases = ⊥

-- the line of these bytes is read so, with these aliases, and what it says failed
pub record FailsRead {K M : Type 0} (custody : Custody K) (making : Making M K) (aliases : Table)
    (old new : ClusterOver K M) (bytes : List ℕ) : Type 0 where
  pub line : Line
  pub alias : Option (List ℕ)
  pub says : IsReading aliases bytes (Means line alias)
  pub fails : FailsSaid custody making old new line
