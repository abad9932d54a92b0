use denote.Shadow.{shadow}
use denote.Text.{Utf8}
use Rattle.std.proofs.Common.{◌≡◌, ◌+◌, ◌++◌, map, drop, length}
use Rattle.fl_script.specs.parts.Parts.{CanPart, parts_of}
use Rattle.fl_script.proofs.replaced.place_parts.Given as goal

-- the parts that are left stand in the rest
abbrev pub invariant-loop-length : goal.invariant-loop-length
invariant-loop-length l = record {
  text : shadow (Utf8 l.rest);
  so_far : map (λ w. w.now) l.placed.items ++ parts_of (drop l.length-index l.lengths) l.rest ≡ map (λ w. w.now) l.fn.placed.items ++ parts_of l.lengths l.text;
  can_part : CanPart (drop l.length-index l.lengths) l.rest;
  count : length l.placed.items ≡ length l.fn.placed.items + l.length-index;
}
