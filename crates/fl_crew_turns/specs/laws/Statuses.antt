-- The status of lines that were answered, and of a batch that ended, is 0, 1 or 3.
use Rattle.std.proofs.Common.{◌≡◌, ◌+◌, ◌∷◌, [], ℕ, List, max, sym, subst, refl, arith, inl, inr}
use Rattle.fl_system.specs.declared.answer.Fault.{Fault}
use Rattle.fl_system.specs.declared.answer.Fault.TheVariants.{KeeperFailed}
use Rattle.fl_system.specs.declared.reply.Reply.{Reply}
use Rattle.fl_system.specs.declared.reply.Reply.TheVariants.{Refused}
use Rattle.fl_stream.specs.Turns.{LineOutput, Run, worst}
use Rattle.fl_calls.specs.Answer.{Answer as Said, dropped, replied, unknown}
use Rattle.fl_turns.specs.Answer.{Answer, fault_status, said, status_of}
use Rattle.fl_crew_turns.specs.Batch.{worst_reply}
use Rattle.fl_crew_turns.specs.Script.{IsStatus}
use Rattle.fl_crew_turns.specs.Session.{CrewCalls, CrewSession}
use Rattle.fl_crew_turns.specs.Turn.{CrewTurns}

nothing_told : IsStatus 0
nothing_told = inl (omega arith)

-- the greater of two statuses is one
pub max_is_status : (a b : ℕ) → IsStatus a → IsStatus b → IsStatus (max a b)
max_is_status a b (inl p) (inl q) = inl (omega (arith, p, q))
max_is_status a b (inl p) (inr q) = inr (omega (arith, p, q))
max_is_status a b (inr p) (inl q) = inr (omega (arith, p, q))
max_is_status a b (inr p) (inr q) = inr (omega (arith, p, q))

fault_is_status : (fault : Fault) → IsStatus (fault_status fault)
fault_is_status KeeperFailed = inr refl
fault_is_status other = nothing_told

reply_is_status : (reply : Reply) → IsStatus (status_of (said (replied reply)))
reply_is_status (Refused fault) = fault_is_status fault
reply_is_status other = nothing_told

said_is_status : (what : Said) → IsStatus (status_of (said what))
said_is_status (replied reply) = reply_is_status reply
said_is_status (dropped fault) = fault_is_status fault
said_is_status unknown = inl (omega arith)
said_is_status other = nothing_told

answer_is_status : (answer : Answer) → IsStatus (status_of answer)
answer_is_status (said what) = said_is_status what
answer_is_status other = nothing_told

-- of the replies to a batch
pub replies_are_status : (replies : List Reply) → IsStatus (worst_reply replies)
replies_are_status [] = nothing_told
replies_are_status (reply ∷ replies) =
    max_is_status _ _ (reply_is_status reply) (replies_are_status replies)

-- of lines that were answered one after another
pub lines_are_status : {C : Type 0} (calls : CrewCalls C) (number : ℕ) (old : CrewSession C)
    (lines : List (List ℕ)) (outputs : List LineOutput) (new : CrewSession C)
    → Run (CrewTurns calls) number old lines outputs new → IsStatus (worst outputs)
lines_are_status calls number old [] [] new run = nothing_told
lines_are_status calls number old [] (output ∷ outputs) new run = absurd run
lines_are_status calls number old (line ∷ lines) [] new run = absurd run
lines_are_status calls number old (line ∷ lines) (output ∷ outputs) new run =
    let turn = run.1 in
    max_is_status output.status (worst outputs)
    (subst IsStatus (sym turn.status_is)
    (max_is_status _ _ (replies_are_status turn.replies) (answer_is_status turn.answer)))
    (lines_are_status calls (number + 1) run.0 lines outputs new run.2)
