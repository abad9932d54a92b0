use Rattle.std.proofs.Common.{◌≤◌, ◌++◌, length, map, arith}
use Rattle.std.proofs.lemmas.List.{length-map}
use Rattle.fl_script.specs.laws.Replacing.{all_replaced}
use Rattle.std.specs.String.{string_bytes}
use Rattle.fl_script.specs.parts.Parts.{parts_of}
use Rattle.fl_script.proofs.Found.{passed, starves_as}
use Rattle.fl_script.proofs.PartWords.{kept_and_built, none_built, room_for_built}
use Rattle.fl_script.proofs.ReplacedWords.{read_replaced, too_many, wants_as_replaced}
use Rattle.fl_script.proofs.meaning.replaced_line.Goals as goal

pub returns-then-words-gt-MOST_LINE_WORDS-clause-ok :
    goal.returns-then-words-gt-MOST_LINE_WORDS-clause-ok
returns-then-words-gt-MOST_LINE_WORDS-clause-ok c = λ bad.
    too_many c.args.aliases.now (map (λ w. w.now) c.args.words.now)
    (omega (arith, c.if-words-gt-MOST_LINE_WORDS.true, length-map c.args.words.now (λ w. w.now)))

pub returns-then-place_kept-clause-ok : goal.returns-then-place_kept-clause-ok
returns-then-place_kept-clause-ok c =
    let placed = c.place_kept.new.placed.items in
    let each = all_replaced c.args.aliases.now c.args.words.now (length placed) (map (λ w. w.now) placed) (omega (arith, c.if-place_kept.ensures.count)) c.if-place_kept.ensures.kept in
    read_replaced c.args.aliases.now (map (λ w. w.now) c.args.words.now) (map (λ w. w.now) c.as_slice.result.now) (rw c.as_slice.ensures.value each) _ c.line_from_words.ensures.ok

pub returns-then-place_kept-clause-memory : goal.returns-then-place_kept-clause-memory
returns-then-place_kept-clause-memory c =
    let placed = c.place_kept.new.placed.items in
    let each = all_replaced c.args.aliases.now c.args.words.now (length placed) (map (λ w. w.now) placed) (omega (arith, c.if-place_kept.ensures.count)) c.if-place_kept.ensures.kept in
    starves_as _ c.line_from_words.ensures.memory
    (wants_as_replaced c.args.aliases.now (map (λ w. w.now) c.args.words.now) (map (λ w. w.now) c.as_slice.result.now) (rw c.as_slice.ensures.value each))

pub returns-in_err-build-clause-ok : goal.returns-in_err-build-clause-ok
returns-in_err-build-clause-ok c =
    passed _ c.from_residual.ensures.1 c.in_err-build.ensures.bad
    (none_built c.args.aliases.now c.args.words.now c.len.result)

pub parted_line-requires-clause-room : goal.parted_line-requires-clause-room
parted_line-requires-clause-room c =
    let placed = c.place_kept.new.placed.items in
    let built = rw c.len.ensures.value at c.in_ok-build.ensures.ok in
    let few : length c.args.words.now ≤ 8 = c.if-words-gt-MOST_LINE_WORDS.false in
    let within : length placed ≤ length c.args.words.now = omega (arith, c.if-place_kept.ensures.count) in
    rw (c.as_slice-2.ensures.value, c.as_slice-3.ensures.value)
    (room_for_built c.args.aliases.now c.args.words.now (length placed) c.build.new.lengths.items (string_bytes c.build.new.text) few within built)

pub returns-clause-ok : goal.returns-clause-ok
returns-clause-ok c =
    let placed = c.place_kept.new.placed.items in
    let built = rw c.len.ensures.value at c.in_ok-build.ensures.ok in
    let each = kept_and_built c.args.aliases.now c.args.words.now (length placed) (map (λ w. w.now) placed) c.build.new.lengths.items (string_bytes c.build.new.text) c.if-place_kept.ensures.kept built in
    read_replaced c.args.aliases.now (map (λ w. w.now) c.args.words.now) (map (λ w. w.now) c.as_slice-2.result.now ++ parts_of c.as_slice-3.result.now c.as_str.result.now)
    (rw (c.as_slice-2.ensures.value, c.as_slice-3.ensures.value, c.as_str.ensures.value) each) _ c.parted_line.ensures
