-- What is written for a script, told of the session that it leaves.
use Rattle.std.specs.Prelude.{◌≡◌, ◌++◌, ℕ, List, Option}
use Rattle.std.specs.Str.Lines.{lines}
use Rattle.std.specs.Io.KnownBytes.{Appends}
use Rattle.fl_store.specs.Custody.{Custody}
use Rattle.fl_stream.specs.Turns.{LineOutput, texts, worst}
use Rattle.fl_makers.specs.Making.{Making}
use Rattle.fl_world.specs.Reached.{InEach}
use Rattle.fl_calls.specs.Entering.{Openings}
use Rattle.fl_calls.specs.Over.{openings_of}
use Rattle.fl_turns.specs.Answered.{IsAnswered}
use Rattle.fl_turns.specs.Over.{SessionOver}
use Rattle.fl_turns.specs.Session.{Session, begun}

-- the text and the status are those of one run of the lines, which leaves the session so
pub record IsOneRun (openings : Openings) (lines : List (List ℕ)) (text : List ℕ) (status : ℕ)
    (new : Session) : Type 0 where
  pub outputs : List LineOutput
  pub answered : IsAnswered openings 1 begun lines outputs new
  pub text_is : text ≡ texts outputs
  pub status_is : status ≡ worst outputs

-- Where the keepers of this session are honest, in each world that its nodes may be, the text and the
-- status are those of one run of the lines, with what the maker's keepers may hold from the start.
abbrev pub IsOneRunIfHonest : {K M : Type 0} → Custody K → Making M K → M → List (List ℕ) → List ℕ → ℕ
    → SessionOver K M → Type 0
IsOneRunIfHonest custody making maker lines text status end =
    InEach custody end.cluster.world (λ w. IsOneRun
    (openings_of custody making maker) lines text status
    (record { world = w; aliases = end.aliases }))

-- known bytes grow by a text: where the keepers at this end are honest, by that of one run of the script
pub record RunsScript {K M : Type 0} (custody : Custody K)
    (making : Making M K) (maker : M)
    (old new : Option (List ℕ)) (script : List ℕ) (status : ℕ) (end : SessionOver K M)
    : Type 0 where
  pub text : List ℕ
  pub written : Appends old new text
  pub one_run : IsOneRunIfHonest custody making maker (lines script) text status end

-- known bytes grow by a front of a text: where the keepers at this end are honest, of that of one run of
-- the script's first lines
pub record RunsFirst {K M : Type 0} (custody : Custody K)
    (making : Making M K) (maker : M)
    (old new : Option (List ℕ)) (script : List ℕ) (end : SessionOver K M) : Type 0 where
  pub first : List (List ℕ)
  pub later : List (List ℕ)
  pub split : lines script ≡ first ++ later
  pub front : List ℕ
  pub rest : List ℕ
  pub status : ℕ
  pub written : Appends old new front
  pub one_run : IsOneRunIfHonest custody making maker first (front ++ rest) status end
