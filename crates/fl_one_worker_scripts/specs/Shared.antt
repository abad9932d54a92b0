-- Lines that a script over crews answers as one without workers does.
use Rattle.std.specs.Prelude.{◌≡◌, ℕ, Bool, true, false, List}
use Rattle.std.specs.declared.option.Option.{Option}
use Rattle.fl_aliases.specs.Table.{Table}
use Rattle.fl_script.specs.Reading.{IsMeaning}
use Rattle.fl_script.specs.declared.line.Line.{Line}
use Rattle.fl_script.specs.declared.line.Line.TheVariants.{Aliases, Audit, Node, Union}
use Rattle.fl_script.specs.declared.request.Request.{Request}
use Rattle.fl_script.specs.declared.request.Request.TheVariants.{Job, Begin, Deliver, BeginDeliver, Tell, Save, Publish, Cancel, Restart, Text, Check}

-- it is no step of several
abbrev pub is_whole : Request → Bool
is_whole (Job job) = true
is_whole (Begin pid order) = false
is_whole (Deliver packet) = true
is_whole (BeginDeliver packet) = false
is_whole Tell = true
is_whole Save = false
is_whole Publish = false
is_whole Cancel = false
is_whole (Restart keeps) = true
is_whole Text = true
is_whole (Check bytes) = true

-- nor asks for the audit
abbrev pub is_shared : Line → Bool
is_shared (Node number request) = is_whole request
is_shared (Union first second) = true
is_shared Audit = false
is_shared Aliases = true

-- whatever its aliases stand for
pub record IsShared (bytes : List ℕ) : Type 0 where
  pub shared : (table : Table) (line : Line) (alias : Option (List ℕ))
      → IsMeaning table bytes line alias → is_shared line ≡ true
