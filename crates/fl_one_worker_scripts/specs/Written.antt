-- A whole script over crews, with all that is answered.
use Rattle.std.specs.Prelude.{◌+◌, ◌++◌, ◌∷◌, [], ℕ, List, map, max}
use Rattle.std.specs.List.{flat_map}
use Rattle.fl_calls.specs.Answer.{replied}
use Rattle.fl_turns.specs.Answer.{Answer, said, status_of}
use Rattle.fl_turns.specs.AnswerText.{text_of}
use Rattle.fl_system.specs.declared.reply.Reply.{Reply}
use Rattle.fl_crew_turns.specs.Answered.{CrewRun, Written, answers_in}
use Rattle.fl_crew_turns.specs.Batch.{EndsBatch, replies_text, worst_reply}
use Rattle.fl_crew_turns.specs.Session.{CrewCalls, CrewSession}

-- what is written with lines, the first of them being the number-th
abbrev pub texts_from : ℕ → List Written → List ℕ
texts_from number [] = []
texts_from number (written ∷ later) =
    (replies_text written.replies ++ text_of number written.answer) ++ texts_from (number + 1) later

-- the greatest status of what is written with them
abbrev pub worst_of : List Written → ℕ
worst_of [] = 0
worst_of (written ∷ later) =
    max (max (worst_reply written.replies) (status_of written.answer)) (worst_of later)

-- the replies, as answers to their lines
abbrev pub replied_all : List Reply → List Answer
replied_all replies = map (λ reply. said (replied reply)) replies

-- The lines are answered so, and then the batch that is held behind the last of them.
pub record AnswersAll {C : Type 0} (calls : CrewCalls C) (start : CrewSession C)
    (lines : List (List ℕ)) (end : CrewSession C) : Type 0 where
  pub written : List Written
  pub between : CrewSession C
  pub run : CrewRun calls start lines written between
  pub replies : List Reply
  pub ends : EndsBatch calls between replies end

-- all that is answered, in the order of the lines
abbrev pub all_answers : {C : Type 0} {calls : CrewCalls C} {start : CrewSession C}
    {lines : List (List ℕ)} {end : CrewSession C} → AnswersAll calls start lines end → List Answer
all_answers all = flat_map answers_in all.written ++ replied_all all.replies

-- and the text and the status of that
abbrev pub all_text : {C : Type 0} {calls : CrewCalls C} {start : CrewSession C}
    {lines : List (List ℕ)} {end : CrewSession C} → AnswersAll calls start lines end → List ℕ
all_text all = texts_from 1 all.written ++ replies_text all.replies

abbrev pub all_status : {C : Type 0} {calls : CrewCalls C} {start : CrewSession C}
    {lines : List (List ℕ)} {end : CrewSession C} → AnswersAll calls start lines end → ℕ
all_status all = max (worst_of all.written) (worst_reply all.replies)
