-- Machines that catch up with one another along the edges of a graph, again and again.
use Rattle.std.specs.Prelude.{ℕ, List, [], ◌∷◌, ◌++◌, length}
use Rattle.std.specs.List.{Contains}
use Rattle.fl_round_laws.specs.Network.{Edge, Path}
use Rattle.fl_machine_model.specs.Machines.{Machines, Turn, last}
use Rattle.fl_machine_laws.specs.Rounds.{AreInsideOn, CatchesUpOn, IsIdleOn}

-- the rounds as one list of turns
abbrev pub turns_of : List (List Turn) → List Turn
turns_of [] = []
turns_of (round ∷ rounds) = round ++ turns_of rounds

-- in these turns the second machine of each edge catches up with the first, in whatever order
abbrev pub AlongEachOn : List Edge → Machines → List Turn → Type 0
AlongEachOn edges m ts = (from to : ℕ) → Contains edges (from, to) → CatchesUpOn to from m ts

-- the same in each of these rounds
abbrev pub InEachRound : List Edge → Machines → List (List Turn) → Type 0
InEachRound edges m [] = Unit {0}
InEachRound edges m (round ∷ rounds) =
    AlongEachOn edges m round × InEachRound edges (last m round) rounds

-- In these rounds the machines catch up with one another along the edges, in each once more, and
-- gain nothing from elsewhere. At most as many edges as there are rounds lead from each of the
-- machines to each other. Nothing is pending at any of them before, nor after.
pub record IsExchangeOn (nodes : List ℕ) (edges : List Edge) (m : Machines)
    (rounds : List (List Turn)) : Type 0 where
  pub each : InEachRound edges m rounds
  pub connected : (a b : ℕ) → Contains nodes a → Contains nodes b → Path edges (length rounds) a b
  pub inside : AreInsideOn (Contains nodes) m (turns_of rounds)
  pub before : (number : ℕ) → Contains nodes number → IsIdleOn m number
  pub after : (number : ℕ) → Contains nodes number → IsIdleOn (last m (turns_of rounds)) number
