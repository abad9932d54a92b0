-- What is dealt so far.
use Rattle.std.specs.Prelude.{◌≡◌, ℕ, suc, ◌<◌, List, [], ◌∷◌, ◌++◌, length, slice_index_or}
use Rattle.fl_jobs.specs.declared.job.Job.{Job}
use Rattle.fl_wire.specs.declared.packet.Packet.{Packet}
use Rattle.fl_dealing.specs.declared.item.Item.{Item}
use Rattle.fl_dealing.specs.declared.item.Item.TheVariants as items
use Rattle.fl_dealing.specs.declared.dealing.Queue.{Queue}
use Rattle.fl_dealing.specs.declared.dealing.Dealt.{Dealt}
use Rattle.fl_dealing.specs.Dealt.{owners_of, procs_behind, tasks_of, parcels_of}

-- there is a worker for each process, and the number of each fits a byte
abbrev pub IsOpen : Dealt → Type 0
IsOpen d = (d.procs < length d.queues.items) × (length d.queues.items < 256)

-- nothing is dealt yet
pub record IsEmpty (workers next : ℕ) (d : Dealt) : Type 0 where
  pub count : length d.queues.items ≡ workers
  pub queues : (i : ℕ) (q : Queue) → i < workers
      → (slice_index_or d.queues.items i q).tasks.items ≡ []
  pub parcels : d.parcels.items ≡ []
  pub owners : d.owners.items ≡ []
  pub procs : d.procs ≡ next

-- `new` is `old` with these items dealt, too
pub record Deals (old : Dealt) (is : List Item) (new : Dealt) : Type 0 where
  pub count : length new.queues.items ≡ length old.queues.items
  pub procs : new.procs ≡ procs_behind (length old.queues.items) old.procs is
  pub within : new.procs < length new.queues.items
  pub owners : new.owners.items
      ≡ old.owners.items ++ owners_of (length old.queues.items) old.procs is
  pub parcels : new.parcels.items ≡ old.parcels.items ++ parcels_of (length old.owners.items) is
  pub tasks : (i : ℕ) (q : Queue) → i < length old.queues.items
      → (slice_index_or new.queues.items i q).tasks.items
      ≡ (slice_index_or old.queues.items i q).tasks.items
      ++ tasks_of (suc i) (length old.owners.items)
      (owners_of (length old.queues.items) old.procs is) is

abbrev pub AddsJob : Dealt → Job → Dealt → Type 0
AddsJob old job new = Deals old (items.Job job ∷ []) new

abbrev pub AddsPacket : Dealt → Packet → Dealt → Type 0
AddsPacket old packet new = Deals old (items.Packet packet ∷ []) new
