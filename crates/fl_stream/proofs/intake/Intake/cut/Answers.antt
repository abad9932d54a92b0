use Rattle.std.proofs.Common.{◌≡◌, ◌+◌, ◌++◌, ◌∷◌, ◌<◌, ◌∙◌, vec_len, if◌then◌else◌, [], ap, sym, true, take, drop, arith, rules}
use Rattle.std.specs.List.{slice_range}
use Rattle.std.specs.Str.Lines.{strip_carriage_return}
use Rattle.std.proofs.lemmas.List.{nil_from_length}
use Rattle.fl_stream.specs.Intake.{waiting}
use Rattle.fl_stream.specs.Served.{HasNoFeed}
use Rattle.fl_stream.proofs.HearLemmas.{range_line, range_after, cuts_line, either_none, no_feed_nil, goes_on_here}
use Rattle.fl_stream.proofs.intake.Intake.cut.Goals as goal

pub returns-clause-line : goal.returns-clause-line
returns-clause-line c =
    let i = c.if-not-is_empty.self-inside in
    let n = c.in-Some.length in
    let rest = slice_range i.chunk.items i.next i.heard in
    let zero : vec_len i.held ≡ 0 = search rules in
    let none : i.held.items ≡ [] = nil_from_length _ (search rules) in
    let whole : waiting c.args.self.now ≡ i.held.items ++ rest = search rules in
    let found : rest ≡ take n rest ++ 10 ∷ drop (n + 1) rest = search rules in
    let first : HasNoFeed (take n rest) = search rules in
    let inside : i.next + n < i.heard = search rules in
    let ends : i.has_ended ≡ true → i.next ≡ i.heard = search rules in
    let goes_on = goes_on_here i.has_ended n ends inside in
    let line = range_line i.chunk.items i.next i.heard n (omega arith) in
    let after = range_after i.chunk.items i.next i.heard n inside in
    let behind : (if i.is_handed_out then [] else i.held.items) ≡ [] = rw none (either_none i.is_handed_out) in
    cuts_line [] rest (take n rest) (drop (n + 1) rest) (whole ∙ ap (λ x. x ++ rest) none) found no_feed_nil first
    (ap (λ x. x ++ slice_range i.chunk.items (i.next + (n + 1)) i.heard) behind ∙ sym after)
    (rw zero (ap strip_carriage_return (sym line))) goes_on
