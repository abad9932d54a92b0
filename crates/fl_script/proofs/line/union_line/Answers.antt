use Rattle.std.proofs.Common.{arith, map}
use Rattle.std.proofs.lemmas.Grind.{common_steps}
use Rattle.fl_script.proofs.UnionWords.{no_union}
use Rattle.fl_script.proofs.line.union_line.Goals as goal

pub returns-in_default : goal.returns-in_default
returns-in_default c = no_union (map (λ w. w.now) c.args.rest.now) (λ n m s. grind (arith, common_steps))

pub returns-in_err-first : goal.returns-in_err-first
returns-in_err-first c = rw c.from_residual.ensures (no_union (map (λ w. w.now) c.args.rest.now) (λ n m s. grind (arith, common_steps)))

pub returns-in_err-second : goal.returns-in_err-second
returns-in_err-second c = rw c.from_residual-in_err-second.ensures (no_union (map (λ w. w.now) c.args.rest.now) (λ n m s. grind (arith, common_steps)))
