use Rattle.std.proofs.Common.{arith, inl, inr, rules}
use Rattle.fl_aliases.specs.Words.{words_of}
use Rattle.fl_script.specs.Reading.{IsQuiet}
use Rattle.fl_machine_lines.specs.laws.AsScript.{few_spell_line}
use Rattle.fl_machine_lines.proofs.line.read_machine_line.Goals as goal

pub returns-in_default-clause-ok : goal.returns-in_default-clause-ok
returns-in_default-clause-ok c =
    let loud : ¬ IsQuiet c.args.bytes.now = search rules in
    record {
      loud = loud;
      none = λ plain line s. elim c.in_default.ensures.words [
        | inl many ↦ absurd
            (omega (arith, many, few_spell_line c.args.number line (words_of c.args.bytes.now) s))
        | inr beyond ↦ beyond plain.ascii
      ];
    }
