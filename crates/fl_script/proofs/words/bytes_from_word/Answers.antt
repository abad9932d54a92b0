use Rattle.std.proofs.Common.{arith, sym, subst}
use Rattle.fl_script.specs.Words.{IsBytesWord}
use Rattle.fl_script.proofs.BytesWord.{many_bytes, never_starved}
use Rattle.fl_script.proofs.words.bytes_from_word.Goals as goal

pub returns-then-word-clause-memory : goal.returns-then-word-clause-memory
returns-then-word-clause-memory c = never_starved _ c.few_bytes.result c.few_bytes.ensures.memory

pub returns-in-Ok-clause-ok : goal.returns-in-Ok-clause-ok
returns-in-Ok-clause-ok c =
    subst (λ b. IsBytesWord b c.args.word.now) (sym c.from_vec.ensures) (many_bytes _ _ c.in-Ok.ensures.ok (omega (arith, c.if-word.false)))
