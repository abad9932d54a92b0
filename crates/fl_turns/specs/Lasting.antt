-- What holds along the run of worlds that a script's lines are.
use Rattle.std.specs.Prelude.{◌≡◌, ◌⊎◌, ◌≤◌, ◌<◌, ℕ, suc, List, [], ◌∷◌, Option, Some, length, map, slice_get, take}
use Rattle.std.specs.List.{Contains}
use Rattle.std.specs.Io.KnownBytes.{Appends}
use Rattle.std.specs.Str.Lines.{lines}
use Rattle.fl_authority_laws.specs.Authority.{Has, IsFree, IsGranted, Living}
use Rattle.fl_authority_laws.specs.Claims.{IsHandedDown}
use Rattle.fl_bench.specs.Process.{side_of}
use Rattle.fl_kept_laws.specs.Told.{IsKeptAt, IsShownAt}
use Rattle.fl_labels.specs.SetBy.{In}
use Rattle.fl_labels.specs.declared.cap.Cap.{Cap}
use Rattle.fl_labels.specs.declared.name.Name.{Name}
use Rattle.fl_labels.specs.declared.pid.Pid.{Pid}
use Rattle.fl_jobs.specs.declared.answer.Reply.TheVariants.{Emitted}
use Rattle.fl_jobs.specs.declared.job.Act.TheVariants.{Emit}
use Rattle.fl_jobs.specs.declared.job.Job.TheVariants.{By}
use Rattle.fl_jobs.specs.declared.job.Side.{Side}
use Rattle.fl_ops.specs.declared.op.Op.{Op}
use Rattle.fl_safety_laws.specs.Endorsing.{IsEndorser, Touches}
use Rattle.fl_bench.specs.declared.process.Process.{Process}
use Rattle.fl_script.specs.declared.line.Line.TheVariants.{Node as OfNode}
use Rattle.fl_script.specs.declared.reading.Reading.TheVariants.{Means}
use Rattle.fl_script.specs.declared.request.Request.{Request}
use Rattle.fl_script.specs.declared.request.Request.TheVariants.{Job as OfJob}
use Rattle.fl_script.specs.Reading.{IsReading}
use Rattle.fl_store.specs.Custody.{Custody}
use Rattle.fl_makers.specs.Making.{Making}
use Rattle.fl_system.specs.declared.event.Event.{Event}
use Rattle.fl_system.specs.declared.reply.Reply.{Reply}
use Rattle.fl_system.specs.declared.reply.Reply.TheVariants.{Job as Answered, Published}
use Rattle.fl_system.specs.Runs.{Happens, Moment, IsRun, end}
use Rattle.fl_system.specs.Taint.{world_at, Lives, IsEmission, IsPure}
use Rattle.fl_system.specs.Union.{Union}
use Rattle.fl_system.specs.World.{World, empty_world}
use Rattle.fl_world.specs.Headline.{IsSafeWorld}
use Rattle.fl_world.specs.Lasting.{IsLastingWorld}
use Rattle.fl_world.specs.Reached.{InEach}
use Rattle.fl_calls.specs.Answer.{replied}
use Rattle.fl_calls.specs.Entering.{Openings}
use Rattle.fl_calls.specs.Over.{openings_of}
use Rattle.fl_turns.specs.Answer.{Answer, said}
use Rattle.fl_turns.specs.Exchanging.{ExchangesAlong}
use Rattle.fl_turns.specs.Moments.{Asks, told, Turned, AreTurns, moments_of, moments_before}
use Rattle.fl_turns.specs.Over.{SessionOver}
use Rattle.fl_turns.specs.Script.{IsOneRun}
use Rattle.fl_turns.specs.Session.{Session, begun}

-- the line says that the process is to let these bytes out, and they are its answer
pub record LetsOut (t : Turned) (pid : Pid) (bytes : List ℕ) : Type 0 where
  pub number : ℕ
  pub alias : Option (List ℕ)
  pub says : IsReading t.before.aliases t.line
      (Means (OfNode number (OfJob (By pid (Emit bytes)))) alias)
  pub answered : t.answer ≡ said (replied (Answered (Emitted bytes)))

-- the line is one to the node of this number, and is answered that the operation of this name was
-- published
pub record IsToldPublished (t : Turned) (number : ℕ) (name : Name) : Type 0 where
  pub request : Request
  pub alias : Option (List ℕ)
  pub says : IsReading t.before.aliases t.line (Means (OfNode number request) alias)
  pub answered : t.answer ≡ said (replied (Published name))

-- the line asks for the event and is answered with this reply, of which something is told
pub record Tells (t : Turned) (e : Event) (r : Reply) : Type 0 where
  pub asks : Asks t.before.aliases t.line (Some e)
  pub answered : t.answer ≡ said (replied r)
  pub is_told : told e r ≡ (e, r) ∷ []

-- ---- along the moments of turns, from the world without a node on

module _ (turns : List Turned) where
  -- the world after the first i moments
  abbrev pub at : ℕ → World
  at i = world_at (empty_world 1) (moments_of turns) i

  -- at a moment of the turn of this place the event happens, and has this reply
  pub record DidHappen (place : ℕ) (e : Event) (r : Reply) : Type 0 where
    pub i : ℕ
    pub moment : Moment
    pub there : slice_get (moments_of turns) i ≡ Some moment
    pub first : moments_before turns place ≤ i
    pub last : i < moments_before turns (suc place)
    pub move_is : moment.move ≡ Happens e
    pub reply_is : moment.reply ≡ r

  -- the moment of this place is of a line by which the process lets bytes out
  pub record IsLetOut (i : ℕ) (pid : Pid) : Type 0 where
    pub place : ℕ
    pub turn : Turned
    pub bytes : List ℕ
    pub there : slice_get turns place ≡ Some turn
    pub first : moments_before turns place ≤ i
    pub last : i < moments_before turns (suc place)
    pub lets_out : LetsOut turn pid bytes

  -- A tag that came to a process along processes that never have its minus in effect stays in its
  -- label as long as it lives. It emits nothing: from there on no line of its that is to let bytes
  -- out is answered with them.
  pub record ConfinesAlong : Type 0 where
    pub stays : (tag : Name) (i j : ℕ) (pid : Pid) (p : Process)
        → IsPure (empty_world 1) (moments_of turns) tag i pid → i ≤ j → Lives (at j) pid p
        → In p.labels.secrecy tag
    pub silent : (tag : Name) (i j : ℕ) (pid : Pid) (m : Moment)
        → IsPure (empty_world 1) (moments_of turns) tag i pid → i ≤ j
        → slice_get (moments_of turns) j ≡ Some m → ¬ IsEmission m pid
    pub unsaid : (tag : Name) (i k : ℕ) (pid : Pid) (bytes : List ℕ) (t : Turned)
        → IsPure (empty_world 1) (moments_of turns) tag i pid → i ≤ moments_before turns k
        → slice_get turns k ≡ Some t → ¬ LetsOut t pid bytes

  -- What touched a process that has a tag in its integrity label, along processes that never have
  -- the tag's plus in effect, had the tag in its own then, or has the plus in effect at some moment.
  pub record EndorsesAlong : Type 0 where
    pub touched : (tag : Name) (i j : ℕ) (first pid : Pid) (before now : Process)
        → Touches (empty_world 1) (moments_of turns)
        (λ other. ¬ IsEndorser (empty_world 1) (moments_of turns) tag other) i first j pid
        → Lives (at i) first before → Lives (at j) pid now → In now.labels.integrity tag
        → In before.labels.integrity tag
        ⊎ IsEndorser (empty_world 1) (moments_of turns) tag first
    -- where only those of a list ever have the plus in effect, all that came to it behind the last
    -- of them had the tag, or it came from one of them
    pub signed : (tag : Name) (endorsers : List Pid) (i j : ℕ) (first pid : Pid)
        (before now : Process)
        → ((other : Pid) → IsEndorser (empty_world 1) (moments_of turns) tag other
        → Contains endorsers other)
        → Touches (empty_world 1) (moments_of turns) (λ other. ¬ Contains endorsers other) i first j
        pid
        → Lives (at i) first before → Lives (at j) pid now → In now.labels.integrity tag
        → In before.labels.integrity tag ⊎ Contains endorsers first

  -- Each capability that a process has in effect was granted along the lines before, from who made
  -- its name on, unless the tag's policy gives it to everybody; and each tag in a label was claimed
  -- by who had its plus then, and handed down at births.
  pub record GrantsAlong : Type 0 where
    pub granted : (i : ℕ) (pid : Pid) (c : Cap) → Has (at i) pid c
        → (let ms = take i (moments_of turns) in
        IsGranted (empty_world 1) ms (length ms) (Living pid) c ⊎ IsFree (Union (at i)) c)
    pub labels : (i : ℕ) (side : Side) (tag : Name) (pid : Pid) (p : Process) → Lives (at i) pid p
        → In (side_of side p.labels) tag
        → (let ms = take i (moments_of turns) in
        IsHandedDown (empty_world 1) ms side tag (length ms) pid)

  -- An operation whose name a line was answered is shown by its node from then on, and what the next
  -- opening of that finds has it.
  pub record KeepsAnswersAlong : Type 0 where
    pub kept : (k j number : ℕ) (name : Name) (t : Turned) → slice_get turns k ≡ Some t
        → IsToldPublished t number name → moments_before turns (suc k) ≤ j
        → (op : Op) × (op.name ≡ name) × IsShownAt (at j) number op × IsKeptAt (at j) number op

  -- this, and of each world on the way what is true of each world that a run leads to
  pub record LastsAlong : Type 0 where
    pub safe : (i : ℕ) → IsSafeWorld (at i)
    pub lasting : (i : ℕ) → IsLastingWorld (at i)
    pub confined : ConfinesAlong
    pub endorsed : EndorsesAlong
    pub granted : GrantsAlong
    pub answered : KeepsAnswersAlong
    pub exchanges : ExchangesAlong turns

-- The lines were answered so by these turns, which lead from the session before the first line to
-- this one. Their moments are one run of worlds, which is at the world before a turn where its
-- moments begin. What a line tells happened at one of its moments, and what is emitted at a moment
-- is let out by its line. And all lasts along this run.
pub record LastsFor (openings : Openings) (lines : List (List ℕ)) (answers : List Answer)
    (new : Session) : Type 0 where
  pub turns : List Turned
  pub lines_are : map (λ (t : Turned). t.line) turns ≡ lines
  pub answers_are : map (λ (t : Turned). t.answer) turns ≡ answers
  pub are_turns : AreTurns openings begun turns new
  pub is_run : IsRun (empty_world 1) (moments_of turns)
  pub leads : end (empty_world 1) (moments_of turns) ≡ new.world
  pub before : (k : ℕ) (t : Turned) → slice_get turns k ≡ Some t
      → at turns (moments_before turns k) ≡ t.before.world
  pub happened : (k : ℕ) (t : Turned) (e : Event) (r : Reply) → slice_get turns k ≡ Some t
      → Tells t e r → DidHappen turns k e r
  pub emissions : (i : ℕ) (pid : Pid) (m : Moment) → slice_get (moments_of turns) i ≡ Some m
      → IsEmission m pid → IsLetOut turns i pid
  pub lasts : LastsAlong turns

-- the text and the status are those of one run of the lines, which leaves the session so, and along
-- which all lasts
pub record IsLastingRun (openings : Openings) (lines : List (List ℕ)) (text : List ℕ) (status : ℕ)
    (new : Session) : Type 0 where
  pub one_run : IsOneRun openings lines text status new
  pub lasts : LastsFor openings lines one_run.answered.answers new

-- known bytes grow by a text: where the keepers at this end are honest, by that of one run of the
-- script, along which all lasts
pub record LastsScript {K M : Type 0} (custody : Custody K) (making : Making M K) (maker : M)
    (old new : Option (List ℕ)) (script : List ℕ) (status : ℕ) (end : SessionOver K M)
    : Type 0 where
  pub text : List ℕ
  pub written : Appends old new text
  pub lasting_run : InEach custody end.cluster.world (λ w. IsLastingRun
      (openings_of custody making maker) (lines script) text status
      (record { world = w; aliases = end.aliases }))
