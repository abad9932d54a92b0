-- What lines of a script without workers do in a world, beside a batch of a crew of one worker.
use Rattle.std.specs.Prelude.{◌≡◌, ◌≢◌, ℕ, false, List, [], ◌∷◌, ◌++◌, map}
use Rattle.std.specs.FinMap as fin
use Rattle.fl_jobs.specs.declared.job.Job.{Job}
use Rattle.fl_system.specs.declared.event.Event.{Event}
use Rattle.fl_system.specs.declared.reply.Reply.{Reply}
use Rattle.fl_system.specs.declared.sent.Sent.{Sent}
use Rattle.fl_system.specs.State.{kept_of}
use Rattle.fl_system.specs.World.{World, KeptNode}
use Rattle.fl_system.specs.WorldSteps.{IsArrival, IsAt}
use Rattle.fl_wire.specs.declared.packet.Packet.{Packet}
use Rattle.fl_calls.specs.Completing.{Completes}
use Rattle.fl_turns.specs.Turn.{job_at}
use Rattle.fl_workers.specs.Over.{CrewOver}
use Rattle.fl_one_worker_laws.specs.Single.{IsNodeOf}

-- no line asks for an arrival
abbrev pub AreAsked : List Job → Type 0
AreAsked [] = Unit {0}
AreAsked (job ∷ jobs) = (¬ IsArrival job) × AreAsked jobs

-- the events happen one after another, and what each begins is saved and published
abbrev pub CompletesAll : World → List Event → List Reply → World → Type 0
CompletesAll w [] [] w' = w' ≡ w
CompletesAll w (event ∷ events) (reply ∷ replies) w' =
    (mid : World) × Completes w event reply mid × CompletesAll mid events replies w'
CompletesAll w [] (reply ∷ replies) w' = ⊥
CompletesAll w (event ∷ events) [] w' = ⊥

-- the lines of these jobs, of the node of this number
abbrev pub jobs_at : ℕ → List Job → List Event
jobs_at number jobs = map (job_at number) jobs

abbrev pub packet_in : Sent → Packet
packet_in sent = sent.packet

-- the packets that the world has sent
abbrev pub packets_in : World → List Packet
packets_in w = map packet_in w.packets

-- the node of this number is the crew's, and what is kept of it is what it saved
pub record Stands {K : Type 0} (w : World) (number : ℕ) (c : CrewOver K) : Type 0 where
  pub place : KeptNode
  pub there : IsAt w number place
  pub is_node : IsNodeOf c place.node
  pub kept : place.kept ≡ kept_of place.node

-- but for the node of this number, and what was sent and noted, it is the same world
pub record IsElsewhere (number : ℕ) (w w' : World) : Type 0 where
  pub desks : w'.desks ≡ w.desks
  pub others : (other : ℕ) → other ≢ number → fin.get w'.nodes other ≡ fin.get w.nodes other

-- The events happen so in a world, which the crew's node stands in behind them, and these packets
-- are sent.
pub record Follows {K : Type 0} (w : World) (number : ℕ) (events : List Event)
    (replies : List Reply) (sent : List Packet) (new : CrewOver K) : Type 0 where
  pub world : World
  pub completes : CompletesAll w events replies world
  pub elsewhere : IsElsewhere number w world
  pub packets : packets_in world ≡ packets_in w ++ sent
  pub stands : Stands world number new
