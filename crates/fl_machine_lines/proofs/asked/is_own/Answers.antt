use Rattle.std.proofs.Common.{subst}
use Rattle.std.proofs.lemmas.Bool.{eqb-true, eqb-false}
use Rattle.fl_labels.specs.Words.{IsNumber}
use Rattle.fl_script.specs.laws.OneWord.{same_packet}
use Rattle.fl_machine_lines.proofs.asked.is_own.Goals as goal

pub returns-in-Some : goal.returns-in-Some
returns-in-Some c = record {
  holds =
      λ e. subst (λ n. IsNumber n c.args.node.now) (eqb-true c.in-Some.other c.args.number e)
      c.in-Some.ensures;
  fails =
      λ e is. eqb-false c.in-Some.other c.args.number e
      (same_packet c.in-Some.other c.args.number
      (record { word = c.args.node.now; left = c.in-Some.ensures; right = is }));
}
