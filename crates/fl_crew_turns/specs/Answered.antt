-- Which lines of a script over crews have an answer.
use Rattle.std.specs.Prelude.{◌≡◌, ◌+◌, ◌++◌, ◌∷◌, [], ℕ, List, length, map}
use Rattle.std.specs.List.{flat_map}
use Rattle.std.specs.declared.result.Result.TheVariants.{Ok}
use Rattle.fl_jobs.specs.declared.job.Job.{Job}
use Rattle.fl_system.specs.declared.reply.Reply.{Reply}
use Rattle.fl_script.specs.Reading.{IsQuiet}
use Rattle.fl_calls.specs.Answer.{replied}
use Rattle.fl_turns.specs.Answer.{Answer, listed, said, silence}
use Rattle.fl_crew_turns.specs.Session.{CrewCalls, CrewSession}
use Rattle.fl_crew_turns.specs.Turn.{CrewTurn}

-- so many of the lines are neither empty nor comments
pub data CountsLoud : List (List ℕ) → ℕ → Type 0 where
  none : CountsLoud [] 0
  quiet : {line : List ℕ} {lines : List (List ℕ)} {count : ℕ} → IsQuiet line
      → CountsLoud lines count → CountsLoud (line ∷ lines) count
  loud : {line : List ℕ} {lines : List (List ℕ)} {count : ℕ} → ¬ IsQuiet line
      → CountsLoud lines count → CountsLoud (line ∷ lines) (1 + count)

-- what is written with one line: the replies to the batch that ends with it, and its own answer
pub record Written : Type 0 where
  pub replies : List Reply
  pub answer : Answer

-- its own answer, if it has one by now
abbrev pub own_answers : Answer → List Answer
own_answers silence = []
own_answers (said what) = said what ∷ []
own_answers (listed table) = listed table ∷ []

-- the answers among it, in the order of their lines
abbrev pub answers_in : Written → List Answer
answers_in written = map (λ reply. said (replied reply)) written.replies ++ own_answers written.answer

-- the lines are answered so, one after another
abbrev pub CrewRun : {C : Type 0} → CrewCalls C → CrewSession C → List (List ℕ) → List Written
    → CrewSession C → Type 0
CrewRun calls old [] [] new = new ≡ old
CrewRun {C} calls old (line ∷ lines) (written ∷ later) new =
    (mid : CrewSession C) × CrewTurn calls old line written.replies written.answer mid
    × CrewRun calls mid lines later new
CrewRun calls old [] (written ∷ later) new = ⊥
CrewRun calls old (line ∷ lines) [] new = ⊥

-- each job of a batch has its reply
abbrev pub GivesEach : {C : Type 0} → CrewCalls C → Type 0
GivesEach {C} calls = (crews crews' : C) (number : ℕ) (jobs : List Job) (replies : List Reply)
    → calls.serves crews number jobs (Ok replies) crews' → length replies ≡ length jobs

-- how many answers are written, and how many lines wait for theirs
abbrev pub count_answers : List Written → ℕ
count_answers written = length (flat_map answers_in written)

abbrev pub count_held : {C : Type 0} → CrewSession C → ℕ
count_held session = length session.held.jobs
