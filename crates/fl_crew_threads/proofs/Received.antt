-- What came of packets, one after the other, and the rulings on orders behind them.
use Rattle.std.proofs.Common.{◌≡◌, ◌∙◌, refl, sym, ap, subst, List, [], ◌∷◌, ◌++◌, false, true, Err, inl, inr, arith}
use Rattle.std.proofs.lemmas.List.{append-nil, append_assoc, length-append}
use Rattle.fl_gossip.specs.Taking.{ops_of}
use Rattle.fl_system.specs.declared.answer.Fault.{Fault}
use Rattle.fl_system.specs.declared.answer.Fault.TheVariants as faults
use Rattle.fl_crew_model.specs.declared.record.Decision.{Decision}
use Rattle.fl_crew_model.specs.declared.record.Deed.{Deed}
use Rattle.fl_crew_model.specs.declared.record.Deed.TheVariants.{Decided, Delivered}
use Rattle.fl_crew_model.specs.declared.record.Delivery.{Delivery}
use Rattle.fl_registrar.specs.Over.{RegistrarOver}
use Rattle.fl_registrar.specs.Ruling.{HasRoom}
use Rattle.fl_registrar.specs.Stopping.{IsHalt, HasFailed, stopped_after}
use Rattle.fl_dealing.specs.declared.entry.Taken.{Taken}
use Rattle.fl_crew_threads.specs.declared.ruling.Placed.{Placed}
use Rattle.fl_crew_threads.specs.Receiving.{IsReceived, AreReceived, AreDecisions, Takes, Receives, Decides, ReceivesThenDecides}

-- one more packet
received_more : (ps : List Placed) (ts : List Taken) (ds : List Deed) (p : Placed) (t : Taken) (one : List Deed)
    → AreReceived ps ts ds → IsReceived p t one → AreReceived (ps ++ p ∷ []) (ts ++ t ∷ []) (ds ++ one)
received_more [] [] ds p t one none is =
    (one, [], ap (λ (l : List Deed). l ++ one) none ∙ sym (append-nil one), is, refl)
received_more [] (x ∷ ts) ds p t one h is = absurd h
received_more (q ∷ ps) [] ds p t one h is = absurd h
received_more (q ∷ ps) (x ∷ ts) ds p t one h is = (
  h.0,
  h.1 ++ one,
  ap (λ (l : List Deed). l ++ one) h.2 ∙ append_assoc h.0 h.1 one,
  h.3,
  received_more ps ts h.1 p t one h.4 is,
)

-- rulings behind rulings
decisions_more : (ds es : List Deed) → AreDecisions ds → AreDecisions es → AreDecisions (ds ++ es)
decisions_more [] es h is = is
decisions_more (Decided d ∷ ds) es h is = decisions_more ds es h is
decisions_more (Delivered p ∷ ds) es h is = absurd h

-- where it stopped, or was not to answer, its record is as before, and has no row left
module _ {K : Type 0} (old new : RegistrarOver K) (fault : Fault) where
  halt_writes : IsHalt fault → (fault ≡ faults.Stopped → new ≡ old)
      → (fault ≡ faults.KeeperFailed → HasFailed old new) → new.deeds ≡ old.deeds ++ []
  halt_writes (inl is) same failed =
      ap (λ (r : RegistrarOver K). r.deeds) (same is) ∙ sym (append-nil old.deeds)
  halt_writes (inr is) same failed = (failed is).deeds ∙ sym (append-nil old.deeds)

  halt_room : (A : Type 0) → IsHalt fault → (fault ≡ faults.Stopped → new ≡ old)
      → (fault ≡ faults.Stopped → ¬ HasRoom old)
      → new.stopped ≡ stopped_after {A = A} old.stopped (Err fault) → HasRoom new → ⊥
  halt_room A (inl is) same full stopped room =
      full is (subst (λ (r : RegistrarOver K). HasRoom r) (same is) room)
  halt_room A (inr is) same full stopped room =
      let no : true ≡ false =
      sym (ap (λ f. stopped_after {A = A} old.stopped (Err f)) is) ∙ sym stopped ∙ room.runs in
      absurd (cc)

  pub takes_halt : (A : Type 0) (p : Placed) (t : Taken) → IsHalt fault → (fault ≡ faults.Stopped → new ≡ old)
      → (fault ≡ faults.KeeperFailed → HasFailed old new) → (fault ≡ faults.Stopped → ¬ HasRoom old)
      → new.stopped ≡ stopped_after {A = A} old.stopped (Err fault) → t.answer ≡ Err fault → t.place ≡ p.place
      → Takes p t old new
  takes_halt A p t is same failed full stopped answer place = record {
    rows = [];
    writes = halt_writes is same failed;
    received = inr (record { fault = fault; halt = is; answer = answer; place = place; none = refl });
    ruled = λ room. absurd (halt_room A is same full stopped room);
  }

  pub decides_halt : IsHalt fault → (fault ≡ faults.Stopped → new ≡ old)
      → (fault ≡ faults.KeeperFailed → HasFailed old new) → Decides old new
  decides_halt is same failed = record { rows = []; writes = halt_writes is same failed; decisions = tt }

module _ {K : Type 0} where
  pub takes_delivery : (old new : RegistrarOver K) (p : Placed) (t : Taken) (d : Delivery)
      → new.deeds ≡ old.deeds ++ Delivered d ∷ [] → d.place ≡ p.place → d.ops ≡ ops_of p.parcel.packet
      → t ≡ record { place = p.place; answer = d.answer; seen = d.before } → Takes p t old new
  takes_delivery old new p t d writes place ops told = record {
    rows = Delivered d ∷ [];
    writes = writes;
    received = inl (record { delivery = d; row = refl; place = place; ops = ops; told = told });
    ruled = λ room. refl;
  }

  pub decides_decision : (old new : RegistrarOver K) (d : Decision) → new.deeds ≡ old.deeds ++ Decided d ∷ []
      → Decides old new
  decides_decision old new d writes = record { rows = Decided d ∷ []; writes = writes; decisions = tt }

  pub decides_nothing : (r : RegistrarOver K) → Decides r r
  decides_nothing r = record { rows = []; writes = sym (append-nil r.deeds); decisions = tt }

  pub decides_more : (a b c : RegistrarOver K) → Decides a b → Decides b c → Decides a c
  decides_more a b c ab bc = record {
    rows = ab.rows ++ bc.rows;
    writes = bc.writes ∙ ap (λ (l : List Deed). l ++ bc.rows) ab.writes ∙ append_assoc a.deeds ab.rows bc.rows;
    decisions = decisions_more ab.rows bc.rows ab.decisions bc.decisions;
  }

  pub receives_nothing : (r : RegistrarOver K) (taken : List Taken) → Receives [] taken taken r r
  receives_nothing r taken = record {
    told = [];
    rows = [];
    takes = sym (append-nil taken);
    writes = sym (append-nil r.deeds);
    received = refl;
    ruled = λ room. refl;
  }

  pub receives_more : (ps : List Placed) (p : Placed) (t : Taken) (taken mid last : List Taken)
      (a b c : RegistrarOver K) → Receives ps taken mid a b → Takes p t b c → last ≡ mid ++ t ∷ []
      → (HasRoom c → HasRoom b) → Receives (ps ++ p ∷ []) taken last a c
  receives_more ps p t taken mid last a b c ab bc pushed less = record {
    told = ab.told ++ t ∷ [];
    rows = ab.rows ++ bc.rows;
    takes = pushed ∙ ap (λ (l : List Taken). l ++ t ∷ []) ab.takes ∙ append_assoc taken ab.told (t ∷ []);
    writes = bc.writes ∙ ap (λ (l : List Deed). l ++ bc.rows) ab.writes ∙ append_assoc a.deeds ab.rows bc.rows;
    received = received_more ps ab.told ab.rows p t bc.rows ab.received bc.received;
    ruled = λ room.
        let before = ab.ruled (less room) in
        let here = bc.ruled room in
        omega (arith, before, here, length-append ab.rows bc.rows, length-append ps (p ∷ []));
  }

  pub receives_then : (ps : List Placed) (taken last : List Taken) (a b c : RegistrarOver K)
      → Receives ps taken last a b → Decides b c → (HasRoom c → HasRoom b)
      → ReceivesThenDecides ps taken last a c
  receives_then ps taken last a b c ab bc less = record {
    told = ab.told;
    rows = ab.rows;
    later = bc.rows;
    takes = ab.takes;
    writes = bc.writes ∙ ap (λ (l : List Deed). l ++ bc.rows) ab.writes ∙ append_assoc a.deeds ab.rows bc.rows;
    received = ab.received;
    decisions = bc.decisions;
    ruled = λ room. ab.ruled (less room);
  }
