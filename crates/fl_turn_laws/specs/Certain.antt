-- When a script has one run.
use Rattle.std.specs.Prelude.{◌≡◌, ◌⊎◌, ◌<◌, ℕ, List}
use Rattle.std.specs.List.{All}
use Rattle.std.specs.declared.option.Option.{Option}
use Rattle.std.specs.declared.option.Option.TheVariants.{Some}
use Rattle.fl_jobs.specs.declared.answer.Refusal.TheVariants.{Memory}
use Rattle.fl_store.specs.Kept.{Kept}
use Rattle.fl_system.specs.declared.answer.Fault.{Fault}
use Rattle.fl_system.specs.declared.answer.Fault.TheVariants as faults
use Rattle.fl_system.specs.declared.reply.Reply.TheVariants.{Refused}
use Rattle.fl_system.specs.Joins.{Joins}
use Rattle.fl_system.specs.World.{World}
use Rattle.fl_one_laws.specs.Ample.{IsAmple}
use Rattle.fl_calls.specs.Answer.{replied, dropped}
use Rattle.fl_calls.specs.Entering.{Openings}
use Rattle.fl_turns.specs.Answer.{Answer, said}
use Rattle.fl_turns.specs.Script.{IsOneRun}
use Rattle.fl_turns.specs.Session.{Session}

-- the line was refused neither for want of memory nor because a keeper failed
abbrev pub IsSure : Answer → Type 0
IsSure (said (replied reply)) = IsAmple reply
IsSure (said (dropped fault)) = IsAmple (Refused fault)
IsSure answer = Unit {0}

-- the text and the status are those of one run of the lines, each of which is answered so
pub record IsSureRun (openings : Openings) (lines : List (List ℕ)) (text : List ℕ) (status : ℕ)
    (new : Session) : Type 0 where
  pub one_run : IsOneRun openings lines text status new
  pub sure : All IsSure one_run.answered.answers

-- ---- what an opening may choose

-- what is kept, or what refused openings left of it: the same with its boot raised, and a boot left
abbrev pub IsLeftOf : Kept → Kept → Type 0
IsLeftOf k left =
    (left ≡ k)
    ⊎ ((boot : ℕ) × (k.boot < boot) × (boot < 4294967295) × (left ≡ record k { boot = boot }))

-- Why a node for which this may be found is refused: memory is wanted, its keeper fails, what is
-- there is another node's, so that nothing is found, or it would not join over what is found.
pub data RefusesOver (found : Kept → Type 0) (w : World) (number : ℕ) : Fault → Type 0 where
  no_room : RefusesOver found w number (faults.Refused Memory)
  keeper_failed : RefusesOver found w number faults.KeeperFailed
  another : ((k : Kept) → ¬ found k) → RefusesOver found w number faults.WrongNode
  not_joined : {k left : Kept} {fault : Fault} → found k → IsLeftOf k left
      → Joins w number left (Refused fault) w → RefusesOver found w number fault

-- One thing is found for each node, and a node is refused for no other cause.
pub record OpenOneWay (openings : Openings) : Type 0 where
  pub one_kept : (number : ℕ) (k other : Kept) → openings.finds number k
      → openings.finds number other → k ≡ other
  pub refused : (w : World) (number : ℕ) (fault : Fault) → openings.refuses w number fault
      → RefusesOver (openings.finds number) w number fault

-- ---- given stores

-- what is kept of the node of each number, or nothing where that is another node's
abbrev pub Stores : Type 0
Stores = ℕ → Option Kept

-- Of these openings, those over such stores: what is kept is found, and a node is refused for no
-- other cause.
abbrev pub given : Stores → Openings → Openings
given stores openings = record {
  finds = λ number k. (stores number ≡ Some k) × openings.finds number k;
  refuses = λ w number fault. RefusesOver (λ k. stores number ≡ Some k) w number fault
      × openings.refuses w number fault;
}
