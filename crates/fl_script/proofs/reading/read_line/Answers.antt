use Rattle.std.proofs.Common.{◌≡◌, ◌≤◌, ◌∙◌, ℕ, List, Err, arith, ap, inl, inr, length, map, rules, subst, sym}
use Rattle.std.specs.Str.{IsAscii}
use Rattle.std.proofs.lemmas.Str.{IsUtf8-from_ascii}
use Rattle.fl_aliases.specs.Words.{words_of}
use Rattle.fl_script.specs.Grammar.{HoldsBlock, Spells}
use Rattle.fl_script.specs.Reading.{IsAsking, IsQuiet, WordsSay, WordsTakeMemory}
use Rattle.fl_script.specs.declared.unread.Unread.TheVariants.{Bad, Memory}
use Rattle.fl_script.specs.laws.WordShape.{clean_words}
use Rattle.fl_script.proofs.AsciiWords.{no_ascii_says_none}
use Rattle.fl_script.proofs.Found.{none_read}
use Rattle.fl_script.proofs.Saying.{many_say_none, clean_says, clean_none}
use Rattle.fl_script.proofs.reading.read_line.Goals as goal

-- a line of ASCII is a text
asks : (bytes : List ℕ) → ¬ IsQuiet bytes → length bytes ≤ 20000 → IsAscii bytes → IsAsking bytes
asks bytes loud short ascii = record { loud = loud; text = record { short = short; utf8 = IsUtf8-from_ascii bytes ascii } }

pub returns-in_default-clause-ok : goal.returns-in_default-clause-ok
returns-in_default-clause-ok c =
    let loud : ¬ IsQuiet c.args.bytes.now = search rules in
    record {
      loud = loud;
      says_none = λ text. elim c.in_default.ensures.words [
        | inl many ↦ many_say_none c.args.aliases.now (words_of c.args.bytes.now) many
        | inr beyond ↦ no_ascii_says_none c.args.aliases.now c.args.bytes.now beyond
      ];
    }

pub returns-in-Ok-clause-ok : goal.returns-in-Ok-clause-ok
returns-in-Ok-clause-ok c =
    let loud : ¬ IsQuiet c.args.bytes.now = search rules in
    let no_dollar = rw c.if-not-has_dollar.true at c.in-Some.ensures.dollar in
    let clean = clean_words c.args.bytes.now no_dollar in
    let words : map (λ w. w.now) c.as_slice-words.result.now ≡ words_of c.args.bytes.now =
    ap (map (λ w. w.now)) c.as_slice-words.ensures.value ∙ c.in-Some.ensures.words in
    let spelled = subst (Spells c.in-Ok.line) words c.in-Ok.ensures.ok in
    record {
      asking = asks c.args.bytes.now loud (omega arith) c.in-Some.ensures.ascii;
      said = clean_says c.args.aliases.now (words_of c.args.bytes.now) clean c.in-Ok.line spelled;
    }

pub returns-in-Err-Bad-clause-ok : goal.returns-in-Err-Bad-clause-ok
returns-in-Err-Bad-clause-ok c =
    let loud : ¬ IsQuiet c.args.bytes.now = search rules in
    let no_dollar = rw c.if-not-has_dollar.true at c.in-Some.ensures.dollar in
    let clean = clean_words c.args.bytes.now no_dollar in
    let words : map (λ w. w.now) c.as_slice-words.result.now ≡ words_of c.args.bytes.now =
    ap (map (λ w. w.now)) c.as_slice-words.ensures.value ∙ c.in-Some.ensures.words in
    let is : c.line_from_words.result ≡ Err Bad = search rules in
    record {
      loud = loud;
      says_none = λ text. clean_none c.args.aliases.now (words_of c.args.bytes.now) clean (λ line s.
          none_read _ _ is c.line_from_words.ensures.ok line (subst (Spells line) (sym words) s));
    }

pub returns-in-Err-Bad-meaning_of-clause-ok : goal.returns-in-Err-Bad-meaning_of-clause-ok
returns-in-Err-Bad-meaning_of-clause-ok c =
    let loud : ¬ IsQuiet c.args.bytes.now = search rules in
    let words : map (λ w. w.now) c.as_slice-words.result.now ≡ words_of c.args.bytes.now =
    ap (map (λ w. w.now)) c.as_slice-words.ensures.value ∙ c.in-Some.ensures.words in
    let is : c.meaning_of.result ≡ Err Bad = search rules in
    record {
      loud = loud;
      says_none = λ text line alias said.
          none_read _ _ is c.meaning_of.ensures.ok (record { line = line; alias = alias })
          (subst (WordsSay c.args.aliases.now line alias) (sym words) said);
    }

pub returns-in-Err-Memory-clause-err : goal.returns-in-Err-Memory-clause-err
returns-in-Err-Memory-clause-err c =
    let loud : ¬ IsQuiet c.args.bytes.now = search rules in
    let words : map (λ w. w.now) c.as_slice-words.result.now ≡ words_of c.args.bytes.now =
    ap (map (λ w. w.now)) c.as_slice-words.ensures.value ∙ c.in-Some.ensures.words in
    let is : c.in-Err-Memory.field-0 ≡ Memory = search rules in
    record {
      asking = asks c.args.bytes.now loud (omega arith) c.in-Some.ensures.ascii;
      takes = record { is = inr (subst HoldsBlock words (c.in-Err-Memory.ensures.memory is)) };
    }

pub returns-in-Ok-meaning_of-clause-ok : goal.returns-in-Ok-meaning_of-clause-ok
returns-in-Ok-meaning_of-clause-ok c =
    let loud : ¬ IsQuiet c.args.bytes.now = search rules in
    let words : map (λ w. w.now) c.as_slice-words.result.now ≡ words_of c.args.bytes.now =
    ap (map (λ w. w.now)) c.as_slice-words.ensures.value ∙ c.in-Some.ensures.words in
    let meaning = c.in-Ok-meaning_of.field-0 in
    record {
      asking = asks c.args.bytes.now loud (omega arith) c.in-Some.ensures.ascii;
      said = subst (WordsSay c.args.aliases.now meaning.line meaning.alias) words c.in-Ok-meaning_of.ensures.ok;
    }

pub returns-in-Err-Memory-meaning_of-clause-err : goal.returns-in-Err-Memory-meaning_of-clause-err
returns-in-Err-Memory-meaning_of-clause-err c =
    let loud : ¬ IsQuiet c.args.bytes.now = search rules in
    let words : map (λ w. w.now) c.as_slice-words.result.now ≡ words_of c.args.bytes.now =
    ap (map (λ w. w.now)) c.as_slice-words.ensures.value ∙ c.in-Some.ensures.words in
    let is : c.in-Err-Memory-meaning_of.field-0 ≡ Memory = search rules in
    record {
      asking = asks c.args.bytes.now loud (omega arith) c.in-Some.ensures.ascii;
      takes = subst WordsTakeMemory words (c.in-Err-Memory-meaning_of.ensures.memory is);
    }
