-- Lines of a script by which nodes catch up with one another.
use Rattle.std.specs.Prelude.{◌≡◌, ◌↔◌, ◌≤◌, ◌<◌, ◌+◌, ◌++◌, ℕ, List, [], ◌∷◌, Option, Some, length}
use Rattle.std.specs.List.{Contains}
use Rattle.fl_jobs.specs.declared.answer.Refusal.TheVariants.{Busy, Memory, NamesSpent}
use Rattle.fl_jobs.specs.declared.job.Act.TheVariants.{Order as Orders}
use Rattle.fl_jobs.specs.declared.job.Job.TheVariants.{By}
use Rattle.fl_labels.specs.SetBy.{SetBy, In}
use Rattle.fl_ops.specs.OpOrder.{op_cmp}
use Rattle.fl_ops.specs.declared.op.Op.{Op}
use Rattle.fl_round_laws.specs.Network.{Edge, Path}
use Rattle.fl_round_laws.specs.Round.{IsIdle, IsPublishedAt}
use Rattle.fl_script.specs.declared.line.Line.TheVariants.{Node as OfNode}
use Rattle.fl_script.specs.declared.reading.Reading.TheVariants.{Means}
use Rattle.fl_script.specs.declared.request.Request.{Request}
use Rattle.fl_script.specs.declared.request.Request.TheVariants.{Text}
use Rattle.fl_script.specs.Reading.{IsReading}
use Rattle.fl_system.specs.declared.answer.Fault.{Fault}
use Rattle.fl_system.specs.declared.answer.Fault.TheVariants.{Refused as IsRefused, Clash, Impostor}
use Rattle.fl_system.specs.declared.event.Event.{Event}
use Rattle.fl_system.specs.declared.event.Event.TheVariants.{Job, Tell, Deliver}
use Rattle.fl_system.specs.declared.reply.Reply.{Reply}
use Rattle.fl_system.specs.declared.reply.Reply.TheVariants.{Begun, Done, NoSuch, Refused, Sent, Taking, Took}
use Rattle.fl_system.specs.Runs.{end}
use Rattle.fl_system.specs.World.{World, empty_world}
use Rattle.fl_world_laws.specs.Places.{IsSavedAt}
use Rattle.fl_calls.specs.Answer.{replied, text}
use Rattle.fl_turns.specs.Answer.{said}
use Rattle.fl_turns.specs.Moments.{Asks, Turned, moments_of}

-- the world behind these lines, the first of a script
abbrev pub behind : List Turned → World
behind ts = end (empty_world 1) (moments_of ts)

-- One of these lines asks for the event and is answered so; earlier and later ones stand around it.
pub record HasLine (event : Event) (reply : Reply) (ts : List Turned) : Type 0 where
  pub earlier : List Turned
  pub line : Turned
  pub later : List Turned
  pub lines_are : ts ≡ earlier ++ (line ∷ later)
  pub asks : Asks line.before.aliases line.line (Some event)
  pub answered : line.answer ≡ said (replied reply)

-- ---- catching up

-- The packet is delivered to the node, which is answered `took ..`.
pub record TakesBy (packet number : ℕ) (ts : List Turned) : Type 0 where
  pub count : ℕ
  pub takes : HasLine (Deliver packet number) (Took count) ts

-- The packet is delivered to the node `from`, which is answered `sent ..`, and each packet that
-- this names is then taken by the node `to`.
pub record AnswersBy (packet from to : ℕ) (ts : List Turned) : Type 0 where
  pub first : ℕ
  pub count : ℕ
  pub answer : HasLine (Deliver packet from) (Sent first count) ts
  pub taken : (k : ℕ) → k < count → TakesBy (first + k) to answer.later

-- The node `to` catches up with the node `from`: its `tell` is answered `sent ..`, and each packet
-- that this names is then answered by `from`.
pub record CatchesUpBy (to from : ℕ) (ts : List Turned) : Type 0 where
  pub first : ℕ
  pub count : ℕ
  pub summary : HasLine (Tell to) (Sent first count) ts
  pub answered : (k : ℕ) → k < count → AnswersBy (first + k) from to summary.later

-- ---- nothing from elsewhere

-- by one of these lines a window was delivered to the node `from`, which answered with this packet,
-- among others
pub record IsAnswerOf (ts : List Turned) (packet from : ℕ) : Type 0 where
  pub window : ℕ
  pub first : ℕ
  pub count : ℕ
  pub answer : HasLine (Deliver window from) (Sent first count) ts
  pub least : first ≤ packet
  pub most : packet < first + count

-- The event is no order of one of these nodes, and brings to none of them what another node
-- answered by one of these lines.
abbrev pub IsInsideBy : (ℕ → Type 0) → List Turned → Event → Type 0
IsInsideBy N ts (Job number desk upto (By pid (Orders order))) = ¬ N number
IsInsideBy N ts (Deliver packet number) = N number → (from : ℕ) → IsAnswerOf ts packet from → N from
IsInsideBy N ts event = Unit {0}

-- so is what the later lines ask for
abbrev pub AskInside : (ℕ → Type 0) → List Turned → List Turned → Type 0
AskInside N ts later = (t : Turned) → Contains later t → (event : Event)
    → Asks t.before.aliases t.line (Some event) → IsInsideBy N ts event

-- ---- any number of nodes

-- in these lines the second node of each edge catches up with the first, in whatever order
abbrev pub AlongEachBy : List Edge → List Turned → Type 0
AlongEachBy edges ts = (from to : ℕ) → Contains edges (from, to) → CatchesUpBy to from ts

-- the same in each of these parts
abbrev pub InEachPartBy : List Edge → List (List Turned) → Type 0
InEachPartBy edges [] = Unit {0}
InEachPartBy edges (part ∷ parts) = AlongEachBy edges part × InEachPartBy edges parts

-- the parts as one list of lines
abbrev pub lines_of : List (List Turned) → List Turned
lines_of [] = []
lines_of (part ∷ parts) = part ++ lines_of parts

-- Among these lines, behind the earlier ones, the nodes catch up with one another along the edges,
-- in each of these parts once more, and gain nothing from elsewhere. At most as many edges as there
-- are parts lead from each of the nodes to each other. Nothing is pending at any of them before, nor
-- after.
pub record IsExchangeBy (turns : List Turned) (nodes : List ℕ) (edges : List Edge)
    (earlier : List Turned) (parts : List (List Turned)) (later : List Turned) : Type 0 where
  pub lines_are : turns ≡ earlier ++ (lines_of parts ++ later)
  pub each : InEachPartBy edges parts
  pub connected : (a b : ℕ) → Contains nodes a → Contains nodes b → Path edges (length parts) a b
  pub inside : AskInside (Contains nodes) turns (lines_of parts)
  pub before : (number : ℕ) → Contains nodes number → IsIdle (behind earlier) number
  pub after : (number : ℕ) → Contains nodes number
      → IsIdle (behind (earlier ++ lines_of parts)) number

-- `N text` is answered with these operations
pub record IsTextOf (t : Turned) (number : ℕ) (ops : SetBy op_cmp) : Type 0 where
  pub alias : Option (List ℕ)
  pub says : IsReading t.before.aliases t.line (Means (OfNode number Text) alias)
  pub answered : t.answer ≡ said (text ops)

-- ---- nothing pending

-- behind such a refusal something may be pending at a node, or the node may be stopped
abbrev pub MayLeave : Fault → Type 0
MayLeave (IsRefused Memory) = Unit {0}
MayLeave (IsRefused NamesSpent) = Unit {0}
MayLeave (IsRefused Busy) = Unit {0}
MayLeave (IsRefused refusal) = ⊥
MayLeave (Clash name) = ⊥
MayLeave (Impostor name) = ⊥
MayLeave fault = Unit {0}

-- the reply is such a refusal, or that of one step of several
abbrev pub Unsettles : Reply → Type 0
Unsettles (Begun name) = Unit {0}
Unsettles (Taking count) = Unit {0}
Unsettles Done = Unit {0}
Unsettles NoSuch = Unit {0}
Unsettles (Refused fault) = MayLeave fault
Unsettles reply = ⊥

-- by the reply its node is there
abbrev pub IsServing : Reply → Type 0
IsServing NoSuch = ⊥
IsServing (Refused fault) = ⊥
IsServing reply = Unit {0}

-- one of these lines is of the node, and is replied to by it
pub record IsServedBy (ts : List Turned) (number : ℕ) : Type 0 where
  pub earlier : List Turned
  pub line : Turned
  pub later : List Turned
  pub lines_are : ts ≡ earlier ++ (line ∷ later)
  pub request : Request
  pub alias : Option (List ℕ)
  pub says : IsReading line.before.aliases line.line (Means (OfNode number request) alias)
  pub reply : Reply
  pub answered : line.answer ≡ said (replied reply)
  pub serving : IsServing reply

-- By these lines, the first of a script, nothing is pending at the node: it was served, and no line
-- of it was a step, or is refused so.
pub record IsSettledBy (ts : List Turned) (number : ℕ) : Type 0 where
  pub served : IsServedBy ts number
  pub settled : (t : Turned) → Contains ts t → (request : Request) (alias : Option (List ℕ))
      → IsReading t.before.aliases t.line (Means (OfNode number request) alias) → (reply : Reply)
      → t.answer ≡ said (replied reply) → ¬ Unsettles reply

-- ---- what that comes to

pub record ExchangesAlong (turns : List Turned) : Type 0 where
  -- nothing is pending at a node where the first lines say so
  pub idle : (ts later : List Turned) (number : ℕ) → turns ≡ ts ++ later → IsSettledBy ts number
      → IsIdle (behind ts) number
  -- What one node had saved, each other to which edges lead has saved behind the parts, whatever
  -- else their lines do.
  pub spread : (earlier : List Turned) (parts : List (List Turned)) (later : List Turned)
      (edges : List Edge) (a b : ℕ) (op : Op) → turns ≡ earlier ++ (lines_of parts ++ later)
      → InEachPartBy edges parts → Path edges (length parts) a b → IsSavedAt (behind earlier) a op
      → IsSavedAt (behind (earlier ++ lines_of parts)) b op
  -- Behind an exchange each of the nodes has published just what some of them had published.
  pub union : (earlier : List Turned) (parts : List (List Turned)) (later : List Turned)
      (nodes : List ℕ) (edges : List Edge) (number : ℕ) (op : Op)
      → IsExchangeBy turns nodes edges earlier parts later → Contains nodes number
      → IsPublishedAt (behind (earlier ++ lines_of parts)) number op
      ↔ ((other : ℕ) × Contains nodes other × IsPublishedAt (behind earlier) other op)
  -- and tells just that, where its `text` stands directly behind
  pub told : (earlier : List Turned) (parts : List (List Turned)) (t : Turned)
      (later : List Turned) (nodes : List ℕ) (edges : List Edge) (number : ℕ) (ops : SetBy op_cmp)
      → IsExchangeBy turns nodes edges earlier parts (t ∷ later) → Contains nodes number
      → IsTextOf t number ops → (op : Op)
      → In ops op ↔ ((other : ℕ) × Contains nodes other × IsPublishedAt (behind earlier) other op)
  -- so their texts are the same, each behind an exchange that begins at the same line
  pub texts : (earlier : List Turned) (parts more : List (List Turned)) (t u : Turned)
      (later rest : List Turned) (nodes : List ℕ) (edges others : List Edge) (a b : ℕ)
      (ours theirs : SetBy op_cmp)
      → IsExchangeBy turns nodes edges earlier parts (t ∷ later)
      → IsExchangeBy turns nodes others earlier more (u ∷ rest)
      → Contains nodes a → Contains nodes b → IsTextOf t a ours → IsTextOf u b theirs
      → ours ≡ theirs
