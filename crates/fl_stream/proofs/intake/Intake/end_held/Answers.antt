use Rattle.std.proofs.Common.{◌≡◌, ◌+◌, ◌++◌, ◌∷◌, ◌<◌, ◌==◌, vec_len, ap, sym, false, take, drop, rules}
use Rattle.std.specs.List.{slice_range}
use Rattle.std.specs.Str.Lines.{strip_carriage_return}
use Rattle.fl_stream.specs.Intake.{waiting}
use Rattle.fl_stream.specs.Served.{HasNoFeed}
use Rattle.fl_stream.proofs.HearLemmas.{range_after, cuts_line, goes_on_here}
use Rattle.fl_stream.proofs.intake.Intake.end_held.Goals as goal

pub returns-clause-line : goal.returns-clause-line
returns-clause-line c =
    let i = c.self.inside in
    let n = c.in-Some.length in
    let rest = slice_range i.chunk.items i.next i.heard in
    let out : i.is_handed_out ≡ false = search rules in
    let whole : waiting c.args.self.now ≡ i.held.items ++ rest = search rules in
    let found : rest ≡ take n rest ++ 10 ∷ drop (n + 1) rest = search rules in
    let first : HasNoFeed (take n rest) = search rules in
    let inside : i.next + n < i.heard = search rules in
    let goes_on = goes_on_here i.has_ended n c.self.invariant.2 inside in
    let after = range_after i.chunk.items i.next i.heard n inside in
    let some : (vec_len c.extend_from_slice.new.self == 0) ≡ false = search rules in
    let held : c.extend_from_slice.new.self.items ≡ i.held.items ++ take n rest = search rules in
    cuts_line i.held.items rest (take n rest) (drop (n + 1) rest) whole found (c.self.invariant.0 out) first (sym after)
    (rw (some, goes_on) (ap strip_carriage_return held)) goes_on
