-- Crews beside the world whose nodes they are.
use Rattle.std.proofs.Common.{[], ◌≡◌, ◌≢◌, ◌∙◌, ◌⊎◌, ◌++◌, ℕ, List, Option, Some, None, inl, inr, refl, sym, subst}
use Rattle.std.proofs.Common.{eqb, true, false}
use Rattle.std.proofs.lemmas.Bool.Decides.{eqb_tells}
use Rattle.std.proofs.lemmas.List.Elements.{Contains-append_cases, Contains-append_left}
use Rattle.std.specs.Cmp.{nat_cmp_total}
use Rattle.std.specs.FinMap as fin
use Rattle.std.specs.FinMap.{nat_cmp-IsAntisymmetric}
use Rattle.std.specs.List.{Contains}
use Rattle.fl_bench.specs.laws.Puts.{get_here, get_put}
use Rattle.fl_store.specs.Custody.{Custody}
use Rattle.fl_system.specs.declared.sent.Sent.{Sent}
use Rattle.fl_system.specs.Runs.{IsReached}
use Rattle.fl_system.specs.World.{KeptNode, World}
use Rattle.fl_system.specs.WorldSteps.{IsAt}
use Rattle.fl_wire.specs.declared.packet.Packet.{Packet}
use Rattle.fl_workers.specs.Over.{CrewOver}
use Rattle.fl_crew_calls.specs.Over.{CrewsOver, IsCrewAt, with_crew, with_sent}
use Rattle.fl_crew_world_laws.specs.Crews.{AreTied, IsPlaceOf, IsWorldOf}
use Rattle.fl_crew_world_laws.specs.Standing.{RunsTo}
use Rattle.fl_crew_worlds.specs.Worlds.{AreAmong}
use Rattle.fl_one_worker_calls.specs.Crews.{AreSound}
use Rattle.fl_one_worker_calls.specs.Worlds.{IsElsewhere}
use Rattle.fl_one_worker_scripts.proofs.Standing.{SaveAlike, SavedTied}
use Rattle.fl_one_worker_scripts.proofs.Ties.{AreHeld}

-- the crews stand for the nodes of the world, to which a run leads
pub record Ties {K M : Type 0} (custody : Custody K) (crews : CrewsOver K M) (w : World) : Type 0
  where
    pub stands : IsWorldOf crews w
    pub sound : AreSound custody crews
    pub held : AreHeld custody crews
    pub reached : IsReached w

-- a run leads on to a world for whose nodes these crews stand
pub record Goes {K M : Type 0} (w : World) (new : CrewsOver K M) : Type 0 where
  pub world : World
  pub run : RunsTo w world
  pub stands : IsWorldOf new world

-- nothing happens
pub rests : {K M : Type 0} (w : World) (new : CrewsOver K M) → IsWorldOf new w → Goes w new
rests w new stands = record {
  world = w;
  run = record {
    moments = [];
    is_run = tt;
    leads =
        refl;
  };
  stands = stands;
}

-- what is sent is sent still
pub sent_still : (w w' : World) (old more : List Packet)
    → ((s : Sent) → Contains w.packets s → Contains w'.packets s) → AreAmong old w.packets
    → AreAmong more w'.packets → AreAmong (old ++ more) w'.packets
sent_still w w' old more kept before behind packet among =
    elim (Contains-append_cases old more packet among) [
      | inl first ↦ (let it = before packet first in (it.0, kept it.0 it.1, it.2))
      | inr last ↦ behind packet last
    ]

module _ {K : Type 0} where
  pub record PlaceFor (workers : ℕ) (crew : CrewOver K) (node : Option KeptNode) : Type 0 where
    pub place : KeptNode
    pub there : node ≡ Some place
    pub is_place : IsPlaceOf workers crew place

  place_for : (workers : ℕ) (crew : CrewOver K) (c : Option (Option (CrewOver K)))
      (node : Option KeptNode) → c ≡ Some (Some crew) → AreTied workers c node
      → PlaceFor workers crew node
  place_for workers crew None s is h = absurd (cc)
  place_for workers crew (Some None) s is h = absurd h
  place_for workers crew (Some (Some its)) None is h = absurd h
  place_for workers crew (Some (Some its)) (Some s) is h =
      let same : its ≡ crew = cc in
      record {
        place = s;
        there = refl;
        is_place = subst (λ (c : CrewOver K). IsPlaceOf workers c s) same h;
      }

  saved_tied : (workers : ℕ) (c : Option (Option (CrewOver K))) (node : Option KeptNode)
      → AreTied workers c node → SavedTied c node
  saved_tied workers None None h = tt
  saved_tied workers None (Some s) h = h
  saved_tied workers (Some None) s h = h
  saved_tied workers (Some (Some crew)) None h = h
  saved_tied workers (Some (Some crew)) (Some s) h = h.is_node.crew.holds.saved

module _ {K M : Type 0} where
  -- the node of a crew that is there
  pub place_at : (crews : CrewsOver K M) (w : World) (number : ℕ) (crew : CrewOver K)
      → IsWorldOf crews w → IsCrewAt crews number crew
      → PlaceFor crews.workers crew (fin.get w.nodes number)
  place_at crews w number crew h at =
      place_for crews.workers crew (fin.get crews.crews number) (fin.get w.nodes number) at
      (h.nodes number)

  -- the nodes have saved what the crews have
  pub save_alike : (crews : CrewsOver K M) (w : World) → IsWorldOf crews w → SaveAlike crews w
  save_alike crews w h = record {
    nodes = λ number. saved_tied crews.workers (fin.get crews.crews number)
        (fin.get w.nodes number) (h.nodes number);
  }

  -- with another crew of that number, another node, another maker, and what was sent
  pub placed : (crews : CrewsOver K M) (w w' : World) (number : ℕ) (crew : CrewOver K) (left : M)
      (more : List Packet) (place : KeptNode) → IsWorldOf crews w → IsAt w' number place
      → IsPlaceOf crews.workers crew place → IsElsewhere number w w'
      → ((s : Sent) → Contains w.packets s → Contains w'.packets s) → AreAmong more w'.packets
      → IsWorldOf (with_sent (with_crew (record crews { maker = left }) number crew) more) w'
  placed crews w w' number crew left more place h there is_place elsewhere kept behind = record {
    some = h.some;
    desks = elsewhere.desks ∙ h.desks;
    nodes = λ q. by q (eqb_tells q number);
    sent = sent_still w w' crews.sent more kept h.sent behind;
  }
    where
      here : AreTied crews.workers (fin.get (fin.insert crews.crews number (Some crew)) number)
          (fin.get w'.nodes number)
      here =
          subst (λ (c : Option (Option (CrewOver K))).
          AreTied crews.workers c (fin.get w'.nodes number))
          (sym (get_here nat_cmp_total crews.crews number (Some crew)))
          (subst (λ (s : Option KeptNode). AreTied crews.workers (Some (Some crew)) s) (sym there)
          is_place)

      apart : (q : ℕ) → q ≢ number
          → AreTied crews.workers (fin.get (fin.insert crews.crews number (Some crew)) q)
          (fin.get w'.nodes q)
      apart q ne =
          let same : fin.get (fin.insert crews.crews number (Some crew)) q
          ≡ fin.get crews.crews q =
          elim (get_put nat_cmp_total nat_cmp-IsAntisymmetric crews.crews number (Some crew) q)
          [ inl h ↦ absurd (ne h.0) | inr same ↦ same ] in
          subst (λ (c : Option (Option (CrewOver K))).
          AreTied crews.workers c (fin.get w'.nodes q)) (sym same)
          (subst (λ (s : Option KeptNode). AreTied crews.workers (fin.get crews.crews q) s)
          (sym (elsewhere.others q ne)) (h.nodes q))

      by : (q : ℕ)
          → ((eqb q number ≡ true) × (q ≡ number)) ⊎ ((eqb q number ≡ false) × (q ≢ number))
          → AreTied crews.workers (fin.get (fin.insert crews.crews number (Some crew)) q)
          (fin.get w'.nodes q)
      by q (inl is) =
          subst (λ (k : ℕ). AreTied crews.workers
          (fin.get (fin.insert crews.crews number (Some crew)) k) (fin.get w'.nodes k)) (sym is.1)
          here
      by q (inr is) = apart q is.1

  -- where nothing was sent
  pub without_more : (crews : CrewsOver K M) (w : World) (number : ℕ) (crew : CrewOver K)
      → IsWorldOf (with_sent (with_crew crews number crew) []) w
      → IsWorldOf (with_crew crews number crew) w
  without_more crews w number crew h = record {
    some = h.some;
    desks = h.desks;
    nodes = h.nodes;
    sent = λ packet among. h.sent packet (Contains-append_left crews.sent [] packet among);
  }
