use Rattle.std.proofs.Common.{arith}
use Rattle.fl_answers.proofs.Digits.{some_bytes}
use Rattle.fl_answers.proofs.text.put_word.Goals as goal

pub returns-in_default-clause-puts : goal.returns-in_default-clause-puts
returns-in_default-clause-puts g c = rw (some_bytes c.args.bytes.now (omega (arith, c.in_default.len_at_least))) c.put_digits.ensures.puts
