-- Machines that catch up by the first packets of each answer, as a process tells only so many.
use Rattle.std.specs.Prelude.{◌<◌, ◌≤◌, ◌+◌, ◌*◌, ◌++◌, ℕ, not, List, [], ◌∷◌, length}
use Rattle.std.specs.FinMap as map
use Rattle.std.specs.List.{Contains, filter}
use Rattle.std.specs.declared.option.Option.{Option}
use Rattle.std.specs.declared.option.Option.TheVariants.{None, Some}
use Rattle.fl_labels.specs.SetBy as set
use Rattle.fl_labels.specs.SetBy.{SetBy, contains, members}
use Rattle.fl_ops.specs.OpOrder.{op_cmp}
use Rattle.fl_wire.specs.declared.packet.Packet.{Packet}
use Rattle.fl_round_laws.specs.Network.{Edge, Path}
use Rattle.fl_machine_model.specs.Acts.{Tell, Sends}
use Rattle.fl_machine_model.specs.Machines.{Machine, Machines, Acts, Gets, Turn, last}
use Rattle.fl_machine_laws.specs.Network.{turns_of}
use Rattle.fl_machine_laws.specs.OneRun.{next_of}
use Rattle.fl_machine_laws.specs.Places.{saved_of}
use Rattle.fl_machine_laws.specs.Rounds.{OccursOn, IsTakenOn, AreInsideOn, IsIdleOn}

-- ---- catching up by fronts

-- The packet comes to the machine `from`, and each of the first `most` packets that this answers is
-- then taken by `to`.
pub record IsAnsweredInFront (most packet from to : ℕ) (m : Machines) (ts : List Turn) : Type 0
  where
    pub told : List Packet
    pub answer : OccursOn (Gets packet from (Sends told)) ts
    pub taken : (k : ℕ) → k < most → k < length told
        → IsTakenOn (next_of (last m answer.earlier) + k) to answer.later

-- The machine `to` sends the summary of what it has saved, and each packet of that is answered so.
pub record CatchesUpInFront (most to from : ℕ) (m : Machines) (ts : List Turn) : Type 0 where
  pub told : List Packet
  pub summary : OccursOn (Acts to Tell (Sends told)) ts
  pub answered : (k : ℕ) → k < length told
      → IsAnsweredInFront most (next_of (last m summary.earlier) + k) from to summary.after
      summary.later

-- in each of these rounds
abbrev pub InEachFront : (most to from : ℕ) → Machines → List (List Turn) → Type 0
InEachFront most to from m [] = Unit {0}
InEachFront most to from m (round ∷ rounds) =
    CatchesUpInFront most to from m round × InEachFront most to from (last m round) rounds

-- ---- how many rounds that asks

abbrev pub all_of : Option Machine → SetBy op_cmp
all_of None = set.empty
all_of (Some machine) = saved_of machine

-- what the machine of this number has saved: nothing where there is none
abbrev pub saved_on : Machines → ℕ → SetBy op_cmp
saved_on m number = all_of (map.get m.nodes number)

-- how many operations the one set lacks of the other
abbrev pub lacked : SetBy op_cmp → SetBy op_cmp → ℕ
lacked t s = length (filter (λ op. not (contains t op)) (members s))

-- So many rounds are enough for so many operations, where so many packets of an answer are told:
-- each of these but the last of all has 64 operations.
abbrev pub AreEnough : (most rounds count : ℕ) → Type 0
AreEnough most rounds count = count ≤ rounds * (most * 64)

-- In these rounds the machine `to` catches up with `from` by fronts, as often as what `from` has in
-- the end, and `to` lacks at the start, asks.
pub record CatchesUpInRounds (most to from : ℕ) (m : Machines) (rounds : List (List Turn)) : Type 0
  where
    pub each : InEachFront most to from m rounds
    pub enough : AreEnough most (length rounds)
        (lacked (saved_on m to) (saved_on (last m (turns_of rounds)) from))

-- ---- an exchange

-- the second machine of each edge catches up so with the first, in the same rounds
abbrev pub AlongEachInRounds : ℕ → List Edge → Machines → List (List Turn) → Type 0
AlongEachInRounds most edges m rounds =
    (from to : ℕ) → Contains edges (from, to) → CatchesUpInRounds most to from m rounds

-- the rounds of all parts as one list of turns
abbrev pub all_turns : List (List (List Turn)) → List Turn
all_turns [] = []
all_turns (part ∷ parts) = turns_of part ++ all_turns parts

-- the same in each part, of as many rounds as that asks
abbrev pub InEachPartOn : ℕ → List Edge → Machines → List (List (List Turn)) → Type 0
InEachPartOn most edges m [] = Unit {0}
InEachPartOn most edges m (part ∷ parts) =
    AlongEachInRounds most edges m part
    × InEachPartOn most edges (last m (turns_of part)) parts

-- An exchange of which each part is of as many rounds as the operations ask.
pub record IsExchangeInRounds (most : ℕ) (nodes : List ℕ) (edges : List Edge) (m : Machines)
    (parts : List (List (List Turn))) : Type 0 where
  pub each : InEachPartOn most edges m parts
  pub connected : (a b : ℕ) → Contains nodes a → Contains nodes b → Path edges (length parts) a b
  pub inside : AreInsideOn (Contains nodes) m (all_turns parts)
  pub before : (number : ℕ) → Contains nodes number → IsIdleOn m number
  pub after : (number : ℕ) → Contains nodes number → IsIdleOn (last m (all_turns parts)) number
