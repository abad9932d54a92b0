-- How a map by pids lays out its slots. No public clause cites this module.
use Rattle.std.specs.Prelude.{◌≡◌, ℕ, ◌<◌, ◌≤◌, false, List, map, length, Option, option_map, box_value}
use Rattle.std.specs.BTreeMap.{is_at}
use Rattle.std.specs.Box.{with_value}
use Rattle.std.specs.List.{HoldsAt, filter_map, insert, list_any}
use Rattle.std.specs.List.Sorted.{IsStrictlySortedBy}
use Rattle.fl_labels.specs.Pid.{pid_cmp}
use Rattle.fl_labels.specs.declared.pid.Pid.{Pid}
use Rattle.fl_monitor.specs.declared.pid_map.Slot.{Slot}

module _ {T : Type 0} where
  -- the value in a slot, if it has one
  abbrev pub held : Slot T → Option T
  held s = option_map box_value s.value

  -- the slot with this in the place of its value, where it has one
  abbrev pub with_held : Slot T → T → Slot T
  with_held s x = record s { value = option_map (λ b. with_value b x) s.value }

  -- the pids of the slots
  abbrev pub pids_of : List (Slot T) → List Pid
  pids_of slots = map (λ (s : Slot T). s.pid) slots

  -- the values of the slots that have one, under their pids
  abbrev pub entries_of : List (Slot T) → List (Pid × T)
  entries_of slots = filter_map (λ (s : Slot T). option_map (λ x. (s.pid, x)) (held s)) slots

  -- the slots stand in the order of their pids, each of another
  abbrev pub IsRising : List (Slot T) → Type 0
  IsRising slots = IsStrictlySortedBy pid_cmp (pids_of slots)

  -- the slot at this place is that of the pid
  pub record IsAt (slots : List (Slot T)) (pid : Pid) (place : ℕ) : Type 0 where
    pub in_range : place < length slots
    pub has_pid : HoldsAt (λ s. s.pid ≡ pid) slots place

  -- no slot is that of the pid, and one would stand in the order at this place
  pub record IsGapFor (slots : List (Slot T)) (pid : Pid) (place : ℕ) : Type 0 where
    pub in_range : place ≤ length slots
    pub absent : list_any (is_at (pid_cmp pid)) (pids_of slots) ≡ false
    pub rises : IsStrictlySortedBy pid_cmp (insert (pids_of slots) place pid)

  -- the new slots have the values of the old ones, and stand in order as they did
  pub record Keeps (old new : List (Slot T)) : Type 0 where
    pub entries : entries_of new ≡ entries_of old
    pub rising : IsRising old → IsRising new
