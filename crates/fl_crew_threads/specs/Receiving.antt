-- What came of the packets of a batch, and what was ruled on then.
use Rattle.std.specs.Prelude.{◌≡◌, ◌⊎◌, ℕ, List, [], ◌∷◌, ◌++◌, length}
use Rattle.std.specs.declared.result.Result.TheVariants.{Err}
use Rattle.fl_gossip.specs.Taking.{ops_of}
use Rattle.fl_system.specs.declared.answer.Fault.{Fault}
use Rattle.fl_crew_model.specs.declared.record.Delivery.{Delivery}
use Rattle.fl_crew_model.specs.declared.record.Deed.{Deed}
use Rattle.fl_crew_model.specs.declared.record.Deed.TheVariants.{Decided, Delivered}
use Rattle.fl_registrar.specs.Over.{RegistrarOver}
use Rattle.fl_registrar.specs.Ruling.{HasRoom}
use Rattle.fl_registrar.specs.Stopping.{IsHalt}
use Rattle.fl_dealing.specs.declared.entry.Taken.{Taken}
use Rattle.fl_crew_threads.specs.declared.ruling.Placed.{Placed}

-- ---- where they stand

abbrev pub place_of : Taken → ℕ
place_of taken = taken.place

abbrev pub place_at : Placed → ℕ
place_at placed = placed.place

-- ---- what came of each

-- it was ruled on: the record has a row of it, and what was taken is what the row says
pub record IsRuled (p : Placed) (t : Taken) (ds : List Deed) : Type 0 where
  pub delivery : Delivery
  pub row : ds ≡ Delivered delivery ∷ []
  pub place : delivery.place ≡ p.place
  pub ops : delivery.ops ≡ ops_of p.parcel.packet
  pub told : t ≡ record { place = p.place; answer = delivery.answer; seen = delivery.before }

-- it was not, since the registrar was stopped, had no row left, or stopped at it: there is no row
pub record IsPassedOver (p : Placed) (t : Taken) (ds : List Deed) : Type 0 where
  pub fault : Fault
  pub halt : IsHalt fault
  pub answer : t.answer ≡ Err fault
  pub place : t.place ≡ p.place
  pub none : ds ≡ []

abbrev pub IsReceived : Placed → Taken → List Deed → Type 0
IsReceived p t ds = IsRuled p t ds ⊎ IsPassedOver p t ds

-- what was taken of these packets, one after the other, and the rows that the record has of them
abbrev pub AreReceived : List Placed → List Taken → List Deed → Type 0
AreReceived [] [] ds = ds ≡ []
AreReceived [] (t ∷ ts) ds = ⊥
AreReceived (p ∷ ps) [] ds = ⊥
AreReceived (p ∷ ps) (t ∷ ts) ds =
    (one : List Deed) × (rest : List Deed) × (ds ≡ one ++ rest) × IsReceived p t one
    × AreReceived ps ts rest

-- none of the rows is of a packet
abbrev pub AreDecisions : List Deed → Type 0
AreDecisions [] = Unit {0}
AreDecisions (Decided d ∷ ds) = AreDecisions ds
AreDecisions (Delivered p ∷ ds) = ⊥

-- ---- how the record and what was taken go on

-- by what came of one packet
pub record Takes {K : Type 0} (p : Placed) (t : Taken) (old new : RegistrarOver K) : Type 0 where
  pub rows : List Deed
  pub writes : new.deeds ≡ old.deeds ++ rows
  pub received : IsReceived p t rows
  -- where there still is room for a row, there is one of it
  pub ruled : HasRoom new → length rows ≡ 1

-- by what came of these packets
pub record Receives {K : Type 0} (ps : List Placed) (taken taken' : List Taken)
    (old new : RegistrarOver K) : Type 0 where
  pub told : List Taken
  pub rows : List Deed
  pub takes : taken' ≡ taken ++ told
  pub writes : new.deeds ≡ old.deeds ++ rows
  pub received : AreReceived ps told rows
  -- where there still is room for a row, there is one of each
  pub ruled : HasRoom new → length rows ≡ length ps

-- by rulings on orders alone
pub record Decides {K : Type 0} (old new : RegistrarOver K) : Type 0 where
  pub rows : List Deed
  pub writes : new.deeds ≡ old.deeds ++ rows
  pub decisions : AreDecisions rows

-- by what came of these packets, and then by rulings on orders
pub record ReceivesThenDecides {K : Type 0} (ps : List Placed) (taken taken' : List Taken)
    (old new : RegistrarOver K) : Type 0 where
  pub told : List Taken
  pub rows : List Deed
  pub later : List Deed
  pub takes : taken' ≡ taken ++ told
  pub writes : new.deeds ≡ old.deeds ++ (rows ++ later)
  pub received : AreReceived ps told rows
  pub decisions : AreDecisions later
  -- where there still is room for a row, there is one of each packet
  pub ruled : HasRoom new → length rows ≡ length ps
