-- How a batch ends.
use Rattle.std.specs.Prelude.{◌≡◌, ◌≢◌, ◌<◌, ◌∷◌, [], ℕ, List, map, max}
use Rattle.std.specs.List.{flat_map}
use Rattle.std.specs.declared.option.Option.{Option}
use Rattle.std.specs.declared.result.Result.{Result}
use Rattle.std.specs.declared.result.Result.TheVariants.{Ok, Err}
use Rattle.fl_jobs.specs.declared.job.Job.{Job}
use Rattle.fl_replies.specs.ReplyText.{world_text}
use Rattle.fl_sink.specs.Sink.{Cuts, Passes}
use Rattle.fl_system.specs.declared.answer.Fault.{Fault}
use Rattle.fl_system.specs.declared.reply.Reply.{Reply}
use Rattle.fl_system.specs.declared.reply.Reply.TheVariants.{Refused}
use Rattle.fl_calls.specs.Answer.{replied}
use Rattle.fl_calls.specs.Completing.{starved}
use Rattle.fl_turns.specs.Answer.{said, status_of}
use Rattle.fl_crew_turns.specs.Held.{count_set, none_held}
use Rattle.fl_crew_turns.specs.Naming.{named_all}
use Rattle.fl_crew_turns.specs.Session.{CrewCalls, CrewSession}

-- what each line of a batch is replied: where none was begun, why
abbrev pub replies_to : List Job → Result (List Reply) Fault → List Reply
replies_to jobs (Ok replies) = replies
replies_to jobs (Err fault) = map (λ _. Refused fault) jobs

-- The batch that is held, if one is, is done, and its lines are replied so, in their order. Where some
-- of them set an alias and there is no room for these, none of its jobs is begun.
pub data EndsBatch {C : Type 0} (calls : CrewCalls C) (old : CrewSession C)
    : List Reply → CrewSession C → Type 0 where
  idle : old.held.jobs ≡ [] → EndsBatch calls old [] (record old { held = none_held })
  served : {result : Result (List Reply) Fault} {crews : C} → old.held.jobs ≢ []
      → calls.serves old.crews old.held.node old.held.jobs result crews
      → EndsBatch calls old (replies_to old.held.jobs result)
      (record {
        crews = crews;
        aliases = named_all old.aliases old.held.aliases (replies_to old.held.jobs result);
        held = none_held;
      })
  no_room : old.held.jobs ≢ [] → 0 < count_set old.held.aliases
      → EndsBatch calls old (map (λ _. starved) old.held.jobs) (record old { held = none_held })

-- what is written of the replies, a line each
abbrev pub replies_text : List Reply → List ℕ
replies_text replies = flat_map world_text replies

-- the greatest status of one of them, and 0 of none
abbrev pub worst_reply : List Reply → ℕ
worst_reply [] = 0
worst_reply (reply ∷ replies) = max (status_of (said (replied reply))) (worst_reply replies)

-- the batch ended, and the replies were passed on
pub record BatchPasses {C : Type 0} (calls : CrewCalls C) (old : CrewSession C) (status : ℕ)
    (new : CrewSession C) (before after : Option (List ℕ)) (pending rest : List ℕ) : Type 0 where
  pub replies : List Reply
  pub ends : EndsBatch calls old replies new
  pub status_is : status ≡ worst_reply replies
  pub passed : Passes before after pending (replies_text replies) rest

-- the batch ended, and a front of the replies was written
pub record BatchCuts {C : Type 0} (calls : CrewCalls C) (old new : CrewSession C)
    (before after : Option (List ℕ)) (pending : List ℕ) : Type 0 where
  pub replies : List Reply
  pub ends : EndsBatch calls old replies new
  pub cut : Cuts before after pending (replies_text replies)
