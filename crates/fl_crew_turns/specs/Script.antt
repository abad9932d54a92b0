-- What is written for a script over crews.
use Rattle.std.specs.Prelude.{◌≡◌, ◌⊎◌, ◌≤◌, ◌++◌, [], ℕ, List, max}
use Rattle.std.specs.Io.KnownBytes.{Appends}
use Rattle.std.specs.Str.Lines.{lines}
use Rattle.std.specs.declared.option.Option.{Option}
use Rattle.fl_stream.specs.Output.{Writes}
use Rattle.fl_system.specs.declared.reply.Reply.{Reply}
use Rattle.fl_crew_turns.specs.Batch.{EndsBatch, replies_text, worst_reply}
use Rattle.fl_crew_turns.specs.Session.{CrewCalls, CrewSession}
use Rattle.fl_crew_turns.specs.Turn.{CrewTurns}

-- known bytes grow by what is written for the lines of the script, and then for the batch that is
-- held behind the last of them, with this status, which leaves that session
pub record WritesBatches {C : Type 0} (calls : CrewCalls C) (start : CrewSession C)
    (old new : Option (List ℕ)) (script : List ℕ) (status : ℕ) (end : CrewSession C) : Type 0 where
  pub text : List ℕ
  pub most : ℕ
  pub between : CrewSession C
  pub output : Writes (CrewTurns calls) start (lines script) text most between
  pub replies : List Reply
  pub ends : EndsBatch calls between replies end
  pub status_is : status ≡ max most (worst_reply replies)
  pub written : Appends old new (text ++ replies_text replies)

-- known bytes grow by a front of what is written for the first lines of the script, which leave that
-- session; or for all of them, and for the batch that is held behind the last, which leaves it so
pub record WritesBatchesFirst {C : Type 0} (calls : CrewCalls C) (start : CrewSession C)
    (old new : Option (List ℕ)) (script : List ℕ) (end : CrewSession C) : Type 0 where
  pub first : List (List ℕ)
  pub later : List (List ℕ)
  pub split : lines script ≡ first ++ later
  pub text : List ℕ
  pub status : ℕ
  pub between : CrewSession C
  pub output : Writes (CrewTurns calls) start first text status between
  pub replies : List Reply
  pub ends : ((replies ≡ []) × (end ≡ between)) ⊎ ((later ≡ []) × EndsBatch calls between replies end)
  pub front : List ℕ
  pub rest : List ℕ
  pub cut : text ++ replies_text replies ≡ front ++ rest
  pub written : Appends old new front

-- 0, 1 or 3: nothing is to be told of a line, it is none of the script, or a keeper failed
abbrev pub IsStatus : ℕ → Type 0
IsStatus status = (status ≤ 1) ⊎ (status ≡ 3)

-- known bytes grow by some, and none of them is lost
pub record Grows (old new : Option (List ℕ)) : Type 0 where
  pub text : List ℕ
  pub written : Appends old new text
