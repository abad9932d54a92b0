-- The first lines of a run.
use Rattle.std.specs.Prelude.{◌≡◌, ◌+◌, ◌++◌, ℕ, List, length}
use Rattle.fl_stream.specs.Turns.{LineOutput, Turns, Run}

-- what is written begins with what is written of a run of the first lines, one for each, and the later lines are answered from
-- where it ends
pub record Begins {M : Type 0} (turns : Turns M) (number : ℕ) (old : M)
    (first later : List (List ℕ)) (outputs : List LineOutput) (new : M) : Type 0 where
  pub front : List LineOutput
  pub rest : List LineOutput
  pub split : outputs ≡ front ++ rest
  pub one_each : length front ≡ length first
  pub mid : M
  pub begun : Run turns number old first front mid
  pub ended : Run turns (number + length first) mid later rest new
