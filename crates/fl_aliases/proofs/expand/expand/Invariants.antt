use Rattle.std.proofs.Common.{length}
use denote.Text.{Utf8}
use denote.Shadow.{shadow}
use Rattle.std.specs.String.{string_bytes}
use Rattle.fl_aliases.specs.laws.Expanding.{Behind}
use Rattle.fl_aliases.proofs.expand.expand.Given as goal

-- the line is expanded as far as the rest, behind what the buffer held
abbrev pub invariant-loop-plain : goal.invariant-loop-plain
invariant-loop-plain l = shadow (Utf8 l.rest) × Behind l.aliases l.line (string_bytes l.initial.buffer) (string_bytes l.buffer) l.rest

abbrev pub decreases-loop-plain : goal.decreases-loop-plain
decreases-loop-plain l = length l.rest
