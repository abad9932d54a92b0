use Rattle.std.proofs.Common.{◌≡◌, length, rules}
use Rattle.std.proofs.lemmas.Str.{IsUtf8-string_bytes}
use Rattle.std.specs.String.{string_bytes, string_len}
use Rattle.fl_script.specs.laws.Replacing.{none_replaced_at}
use Rattle.fl_script.proofs.PartWords.{all_built, one_more_laid}
use Rattle.fl_script.proofs.replaced.build.Goals as goal

pub returns-then-not-branch-clause-bad : goal.returns-then-not-branch-clause-bad
returns-then-not-branch-clause-bad c = λ bad.
    let none = rw c.if-not-branch.true at c.in_ok-expand.ensures in
    none_replaced_at c.args.aliases.now c.args.words.now c.loop-word.word-index _ c.loop-word-test.true none

pub loop-word-preserved : goal.loop-word-preserved
loop-word-preserved c =
    let before = c.loop-word.text in
    let after = c.expand.new.buffer in
    let more = rw c.if-not-branch.false at c.in_ok-expand.ensures in
    let long_before : string_len before ≡ length (string_bytes before) = search rules in
    let long_after : string_len after ≡ length (string_bytes after) = search rules in
    record {
      laid = rw (c.push.ensures.items, c.len.ensures, c.len-start.ensures, long_before, long_after) (one_more_laid c.args.aliases.now c.args.words.now c.loop-word.word-index _ c.loop-word.lengths.items (string_bytes before) (string_bytes after) c.loop-word-test.true c.loop-word.invariant.laid more (IsUtf8-string_bytes before) (IsUtf8-string_bytes after));
      count = search rules;
    }

pub returns-clause-ok : goal.returns-clause-ok
returns-clause-ok c =
    all_built c.args.aliases.now c.args.words.now c.loop-word.word-index c.loop-word.lengths.items (string_bytes c.loop-word.text) c.loop-word-test.false (IsUtf8-string_bytes c.loop-word.text) c.loop-word.invariant.laid
