-- A run of a crew's node, as moments of a world.
use Rattle.std.proofs.Common.{◌≡◌, ◌∙◌, ◌==◌, ℕ, ◌≤◌, Bool, true, false, cond, List, [], ◌∷◌}
use Rattle.std.proofs.Common.{Option, Some, None, refl, sym, ap, subst, arith}
use Rattle.std.proofs.lemmas.Bool.{eq-eqb}
use Rattle.fl_store.specs.Kept.{Kept}
use Rattle.fl_system.specs.declared.sent.Sent.{Sent}
use Rattle.fl_system.specs.Runs.{Moment, end}
use Rattle.fl_system.specs.State.{NodeState}
use Rattle.fl_system.specs.World.{World}
use Rattle.fl_system.specs.WorldSteps.{IsAt}
use Rattle.fl_wire.specs.declared.packet.Packet.{Packet as AnyPacket}
use Rattle.fl_crew_model.specs.declared.record.Deed.{Deed}
use Rattle.fl_crew_model.specs.declared.record.Deed.TheVariants.{Decided, Delivered}
use Rattle.fl_crew_model.specs.declared.record.Delivery.{Delivery}
use Rattle.fl_crew_model.specs.declared.record.Entry.{Entry}
use Rattle.fl_crew_model.specs.declared.record.Ruling.{Ruling}
use Rattle.fl_crew_model.specs.Crews.{IsWorker}
use Rattle.fl_crew_model.specs.Woven.{Delivers, Turn, Entered, Packet, Stands, Woven, entries_of}
use Rattle.fl_one_worker_laws.proofs.Turning.{IsPlain}
use Rattle.fl_crew_worlds.proofs.Moments.{item_low}
use Rattle.fl_crew_worlds.proofs.Turning.{Brings, Comes, DoneBy, Lasts, Turned, brings_more}
use Rattle.fl_crew_worlds.proofs.Turning.{done_lasts, entry_turned, none_turned, then_turned}
use Rattle.fl_crew_worlds.proofs.Wide.{IsWide}

-- so is each element
abbrev pub AllOf : {X : Type 0} → (X → Type 0) → List X → Type 0
AllOf P [] = Unit {0}
AllOf P (x ∷ xs) = P x × AllOf P xs

-- each packet of the record is so
abbrev pub AllPackets : (Delivery → Type 0) → List Deed → Type 0
AllPackets P [] = Unit {0}
AllPackets P (Decided d ∷ ds) = AllPackets P ds
AllPackets P (Delivered p ∷ ds) = P p × AllPackets P ds

-- the registrar is asked of orders alone, and a message comes from somewhere
abbrev pub IsFit : (ℕ → AnyPacket → Type 0) → Entry → Type 0
IsFit from e = IsPlain e × Comes from e.job.value

-- the turn of a packet, too, is moments, of which this holds
abbrev pub PacketsTurn : ℕ → ℕ → (ℕ → AnyPacket → Type 0) → (Delivery → Type 0)
    → (Delivery → List Moment → List Sent → Type 0) → Type 0
PacketsTurn size number from P T =
    (w : World) (n : NodeState) (k : Kept) (n' : NodeState) (p : Delivery)
    → IsAt w number (record { node = n; kept = k }) → IsWide size n → Brings from w.packets → P p
    → Delivers n p n' → Turned size number w n k n' (T p)

-- ---- the entries of one worker

first_of_worker : (v : ℕ) (e : Entry) (ts : List Turn)
    → entries_of v (Entered v e ∷ ts) ≡ e ∷ entries_of v ts
first_of_worker v e ts =
    ap (λ (t : Bool). cond t (e ∷ entries_of v ts) (entries_of v ts)) (eq-eqb v v refl)

rest_of : (F : Entry → Type 0) (e : Entry) (es : List Entry) (t : Bool)
    → AllOf F (cond t (e ∷ es) es) → AllOf F es
rest_of F e es true h = h.1
rest_of F e es false h = h

one_of : (F : Entry → Type 0) (e : Entry) (es : List Entry) (t : Bool) → F e → AllOf F es
    → AllOf F (cond t (e ∷ es) es)
one_of F e es true h all = (h, all)
one_of F e es false h all = all

-- the record behind a turn of an entry
packets_behind : (P : Delivery → Type 0) (n : NodeState) (rs : List Deed) (v : ℕ) (e : Entry)
    (mid : NodeState) (rest : List Deed) → AllPackets P rs → (ruling : Option Ruling)
    → Stands n rs v e ruling mid rest → AllPackets P rest
packets_behind P n rs v e mid rest all None stands = subst (AllPackets P) (sym stands) all
packets_behind P n rs v e mid rest all (Some ruling) here = subst (AllPackets P) here.first all

-- the moments have each turn
abbrev pub AllTurned : ℕ → (ℕ → AnyPacket → Type 0)
    → (Delivery → List Moment → List Sent → Type 0) → List Turn → List Moment → List Sent → Type 0
AllTurned number from T [] ms more = Unit {0}
AllTurned number from T (Entered v e ∷ ts) ms more =
    DoneBy from number e.job.value e.told ms more × AllTurned number from T ts ms more
AllTurned number from T (Packet p ∷ ts) ms more =
    T p ms more × AllTurned number from T ts ms more

module _ (number : ℕ) (from : ℕ → AnyPacket → Type 0)
    (T : Delivery → List Moment → List Sent → Type 0) where
  -- among them the entries of each worker
  pub worker_done : (ts : List Turn) (ms : List Moment) (more : List Sent) (u : ℕ)
      → AllTurned number from T ts ms more
      → AllOf (λ (e : Entry). DoneBy from number e.job.value e.told ms more) (entries_of u ts)
  worker_done [] ms more u h = tt
  worker_done (Entered v e ∷ ts) ms more u h =
      one_of (λ (x : Entry). DoneBy from number x.job.value x.told ms more) e (entries_of u ts)
      (v == u) h.0 (worker_done ts ms more u h.1)
  worker_done (Packet p ∷ ts) ms more u h = worker_done ts ms more u h.1

  -- and the packet that comes first in the record
  pub packet_done : (ts : List Turn) (rs rest : List Deed) (n last : NodeState) (p : Delivery)
      (ms : List Moment) (more : List Sent) → Woven n rs ts last → rs ≡ Delivered p ∷ rest
      → AllTurned number from T ts ms more → T p ms more
  packet_done [] rs rest n last p ms more woven first h =
      absurd (let q = sym first ∙ woven.1 in cc)
  packet_done (Entered v e ∷ ts) rs rest n last p ms more (mid, behind, turn, woven) first h =
      by e.ruling turn.stands (λ is. packet_done ts behind rest mid last p ms more woven is h.1)
    where
      by : (ruling : Option Ruling) → Stands n rs v e ruling mid behind
          → (behind ≡ Delivered p ∷ rest → T p ms more) → T p ms more
      by None stands again = again (stands ∙ first)
      by (Some ruling) here again = absurd (let q = sym first ∙ here.first in cc)
  packet_done (Packet q ∷ ts) rs rest n last p ms more (mid, behind, turn, woven) first h =
      let both = sym turn.first ∙ first in
      let same : q ≡ p = cc in
      subst (λ (x : Delivery). T x ms more) same h.0

  module _ (lasts : (p : Delivery) → Lasts (T p)) where
    pub all_lasts : (ts : List Turn) → Lasts (λ ms more. AllTurned number from T ts ms more)
    all_lasts [] ms later more others part sents h = tt
    all_lasts (Entered v e ∷ ts) ms later more others part sents h = (
      done_lasts from number e.job.value e.told ms later more others part sents h.0,
      all_lasts ts ms later more others part sents h.1,
    )
    all_lasts (Packet p ∷ ts) ms later more others part sents h = (
      lasts p ms later more others part sents h.0,
      all_lasts ts ms later more others part sents h.1,
    )

    module _ (size : ℕ) (P : Delivery → Type 0) (deliver : PacketsTurn size number from P T) where
      pub all_turned : (ts : List Turn) (rs : List Deed) (w : World) (n : NodeState) (k : Kept)
          (last : NodeState) → IsAt w number (record { node = n; kept = k }) → IsWide size n
          → Brings from w.packets → Woven n rs ts last
          → ((u : ℕ) → IsWorker size u → AllOf (IsFit from) (entries_of u ts)) → AllPackets P rs
          → Turned size number w n k last (λ ms more. AllTurned number from T ts ms more)
      all_turned [] rs w n k last at wide brings woven fits packets =
          subst
          (λ (x : NodeState). Turned size number w n k x
          (λ ms more. AllTurned number from T [] ms more))
          (sym woven.0)
          (none_turned size number w n k (λ ms more. AllTurned number from T [] ms more) at wide
          tt)
      all_turned (Entered v e ∷ ts) rs w n k last at wide brings (mid, rest, turn, woven) fits
          packets =
          let range = item_low n.views v turn.v turn.has_seen in
          let desks = wide.desks in
          let high : v ≤ size = omega (arith, range.1, desks) in
          let here : AllOf (IsFit from) (e ∷ entries_of v ts) =
          subst (AllOf (IsFit from)) (first_of_worker v e ts)
          (fits v (record { low = range.0; high = high })) in
          let first =
          entry_turned size number from w n k at wide v range.0 high e mid here.0.0 here.0.1
          brings turn.goes in
          let next =
          all_turned ts rest (end w first.moments) mid first.kept last first.led.there
          first.on.wide
          (subst (Brings from) (sym first.led.packets)
          (brings_more from w.packets first.more brings)) woven
          (λ u is. rest_of (IsFit from) e (entries_of u ts) (v == u) (fits u is))
          (packets_behind P n rs v e mid rest packets e.ruling turn.stands) in
          then_turned (DoneBy from number e.job.value e.told)
          (λ ms more. AllTurned number from T ts ms more)
          (done_lasts from number e.job.value e.told) (all_lasts ts) first next
      all_turned (Packet p ∷ ts) rs w n k last at wide brings (mid, rest, turn, woven) fits
          packets =
          let both : P p × AllPackets P rest = subst (AllPackets P) turn.first packets in
          let first = deliver w n k mid p at wide brings both.0 turn.goes in
          let next =
          all_turned ts rest (end w first.moments) mid first.kept last first.led.there
          first.on.wide
          (subst (Brings from) (sym first.led.packets)
          (brings_more from w.packets first.more brings)) woven fits both.1 in
          then_turned (T p) (λ ms more. AllTurned number from T ts ms more) (lasts p)
          (all_lasts ts) first next
