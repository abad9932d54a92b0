use Rattle.std.proofs.Common.{subst, arith}
use Rattle.std.proofs.lemmas.Str.{IsCharBoundary-after_ascii}
use Rattle.fl_aliases.specs.Expansion.{NoDollar}
use Rattle.fl_aliases.proofs.Dollar.{cut_dollar}
use Rattle.fl_aliases.proofs.expand.split_dollar.Goals as goal

pub split_at-requires-in-Some : goal.split_at-requires-in-Some
split_at-requires-in-Some c =
    let found = rw c.as_bytes.ensures.value at c.in-Some.ensures in
    IsCharBoundary-after_ascii c.args.text.now c.in-Some.at c.utf8.text found.0 (omega (arith, found.1))

pub returns-in-None : goal.returns-in-None
returns-in-None c = subst NoDollar c.as_bytes.ensures.value c.in-None.ensures

pub returns-in-Some : goal.returns-in-Some
returns-in-Some c =
    let found = rw c.as_bytes.ensures.value at c.in-Some.ensures in
    rw (c.split_at.ensures.front, c.split_at-in-Some.ensures.back)
    (cut_dollar c.args.text.now c.in-Some.at found.0 found.1, found.2)
