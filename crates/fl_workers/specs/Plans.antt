-- A batch that is dealt, with room for all that comes of it.
use Rattle.std.specs.Prelude.{◌≡◌, ℕ, suc, ◌≤◌, ◌<◌, List, [], map, length, slice_index_or, vec_capacity}
use Rattle.fl_wire.specs.declared.packet.Packet.{Packet}
use Rattle.fl_dealing.specs.Dealt.{owners_of, procs_behind, tasks_of, parcels_of, AreHome}
use Rattle.fl_dealing.specs.declared.dealing.Parcel.{Parcel}
use Rattle.fl_dealing.specs.declared.dealing.Queue.{Queue}
use Rattle.fl_dealing.specs.declared.item.Item.{Item}
use Rattle.fl_manning.specs.Orders.{job_for}
use Rattle.fl_registrar.specs.Apart.{AreAwaited}
use Rattle.fl_crew_threads.specs.Receiving.{place_at}
use Rattle.fl_crew_threads.specs.declared.ruling.Placed.{Placed}
use Rattle.fl_workers.specs.declared.planning.Plan.{Plan}
use Rattle.fl_workers.specs.declared.planning.Room.{Room}

abbrev pub place_in : Parcel → ℕ
place_in p = p.place

abbrev pub packet_in : Parcel → Packet
packet_in p = p.packet

abbrev pub packet_at : Placed → Packet
packet_at p = p.parcel.packet

-- empty, with room for an entry at each place, a lane for each worker, and what comes of each packet
pub record HasRoom (workers places packets : ℕ) (room : Room) : Type 0 where
  pub no_taken : room.taken.items ≡ []
  pub no_lanes : room.lanes.items ≡ []
  pub no_entries : room.entries.items ≡ []
  pub for_taken : packets ≤ vec_capacity room.taken
  pub for_lanes : workers ≤ vec_capacity room.lanes
  pub for_entries : places ≤ vec_capacity room.entries

-- these items, dealt to so many workers, of which the one at the place `procs` makes the next
-- process
pub record IsPlan (workers procs : ℕ) (is : List Item) (plan : Plan) : Type 0 where
  pub owners : plan.owners.items ≡ owners_of workers procs is
  pub count : length plan.queues.items ≡ workers
  pub tasks : (i : ℕ) (q : Queue) → i < workers → (slice_index_or plan.queues.items i q).tasks.items
      ≡ tasks_of (suc i) 0 (owners_of workers procs is) is
  pub homes : (i : ℕ) (q : Queue) → i < workers
      → AreHome workers (suc i) (slice_index_or plan.queues.items i q).tasks.items
  pub places : map place_at plan.packets.items ≡ map place_in (parcels_of 0 is)
  pub packets : map packet_at plan.packets.items ≡ map packet_in (parcels_of 0 is)
  pub orders : AreAwaited (job_for (owners_of workers procs is) is) plan.orders.items
  pub procs_after : plan.procs ≡ procs_behind workers procs is
  pub next : plan.procs < workers
  pub room : HasRoom workers (length plan.owners.items) (length plan.packets.items) plan.room
