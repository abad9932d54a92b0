-- Each move of a world is one of few.
use Rattle.std.proofs.Common.{◌≡◌, ◌≢◌, ◌⊎◌, inl, inr, ℕ, zero, suc, Bool, true, false, List, [], ◌∷◌, map as list_map, Some, None, refl, sym, ap, subst, arith}
use Rattle.std.specs.FinMap as map
use Rattle.std.specs.List.{Contains, flat_map}
use Rattle.std.specs.Ordering.{eq_by_cmp, is_eq}
use Rattle.std.specs.Cmp.{Equal-is}
use Rattle.std.proofs.lemmas.Cmp.{tied_itself}
use Rattle.std.proofs.lemmas.List.Elements.{Contains-append_left, Contains-append_right}
use Rattle.fl_labels.specs.declared.name.Name.{Name}
use Rattle.fl_labels.specs.SetBy as set
use Rattle.fl_labels.specs.SetBy.{SetBy, In}
use Rattle.fl_ops.specs.OpOrder.{op_cmp}
use Rattle.fl_ops.specs.OpLaws.{op_total, op_exact}
use Rattle.fl_ops.specs.declared.op.Op.{Op}
use Rattle.fl_opset.specs.declared.intervals.Intervals.{Intervals}
use Rattle.fl_opset.specs.laws.Members.{Contains-cons, lacking_member}
use Rattle.fl_wire.specs.declared.batch.Batch.{Batch}
use Rattle.fl_wire.specs.declared.packet.Packet.{Packet}
use Rattle.fl_wire.specs.declared.packet.Packet.TheVariants as packets
use Rattle.fl_message.specs.declared.message.Data.{Data}
use Rattle.fl_gossip.specs.Taking as gossip
use Rattle.fl_jobs.specs.declared.job.Job.{Job}
use Rattle.fl_system.specs.declared.event.Event.{Event}
use Rattle.fl_system.specs.declared.reply.Reply.{Reply}
use Rattle.fl_system.specs.declared.sent.Sent.{Sent}
use Rattle.fl_system.specs.Numbered.{item_at}
use Rattle.fl_system.specs.World.{World, KeptNode}
use Rattle.fl_system.specs.WorldSteps.{IsAt, Step}
use Rattle.fl_system.specs.WorldJobs.{JobAt}
use Rattle.fl_system.specs.WorldCalls.{SaveAt, PublishAt, CancelAt, RestartAt}
use Rattle.fl_system.specs.Deliveries.{TellAt, WindowAt, BatchAt, MessageAt, DeliverAt}
use Rattle.fl_system.specs.Joins.{Joins, Reopening, IsClashAt, IsStray, joined}
use Rattle.fl_system.specs.Runs.{Move, Happens, Comes, Returns, Moves}
use Rattle.fl_store.specs.Kept.{Kept, HasNamesOnce}
use Rattle.fl_system_laws.specs.Goes.{Goes, Calls, carried, MayJoin}
use Rattle.fl_system_laws.specs.laws.Steps.{in_none, only_one}

-- ---- lists

-- the item of a number is one of the list
pub item_there : {A : Type 0} (xs : List A) (k : ℕ) (x : A) → item_at xs k ≡ Some x → Contains xs x
item_there [] k x e = absurd (cc)
item_there (y ∷ xs) zero x e = absurd (cc)
item_there (y ∷ xs) (suc zero) x e = let same : y ≡ x = cc in (0, omega arith, same)
item_there (y ∷ xs) (suc (suc k)) x e = Contains-cons y xs x (item_there xs (suc k) x e)

-- an item of a list of lists joined
pub in_joined : {X A : Type 0} (f : X → List A) (xs : List X) (x : X) (a : A) → Contains xs x → Contains (f x) a
    → Contains (flat_map f xs) a
in_joined f [] x a h i = absurd (omega (arith, h.1))
in_joined f (y ∷ xs) x a (zero, inside, at) i =
    Contains-append_left (f y) (flat_map f xs) a (subst (λ z. Contains (f z) a) (sym at) i)
in_joined f (y ∷ xs) x a (suc k, inside, at) i =
    Contains-append_right (f y) (flat_map f xs) a (in_joined f xs x a (k, omega arith, at) i)

pub record IsImage {X Y : Type 0} (f : X → Y) (xs : List X) (y : Y) : Type 0 where
  pub item : X
  pub there : Contains xs item
  pub is : f item ≡ y

-- an item of a list that is made item by item
pub in_mapped : {X Y : Type 0} (f : X → Y) (xs : List X) (y : Y) → Contains (list_map f xs) y → IsImage f xs y
in_mapped f [] y h = absurd (omega (arith, h.1))
in_mapped f (x ∷ xs) y (zero, inside, at) = record { item = x; there = (0, omega arith, refl); is = at }
in_mapped f (x ∷ xs) y (suc k, inside, at) =
    let m = in_mapped f xs y (k, omega arith, at) in
    record { item = m.item; there = Contains-cons x xs m.item m.there; is = m.is }

-- ---- what is decided

pub same_or_not : (a b : Op) → (a ≡ b) ⊎ (a ≢ b)
same_or_not a b = by_test (eq_by_cmp op_cmp a b) refl
  where
    by_test : (t : Bool) → eq_by_cmp op_cmp a b ≡ t → (a ≡ b) ⊎ (a ≢ b)
    by_test true e = inl (op_exact a b ((Equal-is (op_cmp a b)).0 e))
    by_test false e = inr (λ same. absurd (cc (e, ap is_eq (tied_itself op_total a))))

pub in_or_not : (s : SetBy op_cmp) (op : Op) → In s op ⊎ (¬ In s op)
in_or_not s op = by_test (set.contains s op) refl
  where
    by_test : (t : Bool) → set.contains s op ≡ t → In s op ⊎ (¬ In s op)
    by_test true e = inl e
    by_test false e = inr (λ i. absurd (cc (e, i)))

-- ---- what is told was saved

windows_bring_none : (windows : List Intervals) (p : Packet) → Contains (list_map packets.Have windows) p
    → (op : Op) → ¬ Contains (gossip.ops_of p) op
windows_bring_none windows p h op i =
    let m = in_mapped packets.Have windows p h in
    in_none op (subst (λ q. Contains (gossip.ops_of q) op) (sym m.is) i)

-- what a packet of operations carries
pub carried_is : (sent : Sent) {batch : Batch}
    → (sent.packet ≡ packets.Full batch) ⊎ (sent.packet ≡ packets.Delta batch) → batch.ops ≡ carried sent
carried_is sent (inl e) = ap gossip.ops_of (sym e)
carried_is sent (inr e) = ap gossip.ops_of (sym e)

module _ (w : World) where
  -- an event that leaves the world, or not
  job_goes : (number : ℕ) {desk upto : ℕ} {s : KeptNode} {job : Job} {reply : Reply} {w' : World} → IsAt w number s
      → JobAt w number s desk upto job reply w' → Goes w w'
  job_goes number at (JobAt.refused does) = Goes.calls number _ _ at (Calls.jobs does) (λ x h. in_none x h)
  job_goes number at (JobAt.replied does) = Goes.calls number _ _ at (Calls.jobs does) (λ x h. in_none x h)
  job_goes number at (JobAt.begun does) = Goes.calls number _ _ at (Calls.jobs does) (λ x h. in_none x h)
  job_goes number at (JobAt.sends does) =
      Goes.calls number _ _ at (Calls.jobs does)
      (λ x h op i. in_none op (subst (λ y. Contains (carried y) op) (sym (only_one _ x h)) i))
  job_goes number at (JobAt.no_room look seen noted) =
      Goes.calls number _ _ at (Calls.looks _ look seen) (λ x h. in_none x h)

  save_goes : (number : ℕ) {s : KeptNode} {reply : Reply} {w' : World} → IsAt w number s
      → SaveAt w number s reply w' → Goes w w'
  save_goes number at (SaveAt.saved does) = Goes.calls number _ _ at (Calls.saves does) (λ x h. in_none x h)
  save_goes number at (SaveAt.refused does) = Goes.calls number _ _ at (Calls.saves does) (λ x h. in_none x h)

  publish_goes : (number : ℕ) {s : KeptNode} {reply : Reply} {w' : World} → IsAt w number s
      → PublishAt w number s reply w' → Goes w w'
  publish_goes number at (PublishAt.ordered is does) =
      Goes.calls number _ _ at (Calls.publishes does) (λ x h. in_none x h)
  publish_goes number at (PublishAt.received is does) =
      Goes.calls number _ _ at (Calls.publishes does) (λ x h. in_none x h)
  publish_goes number at (PublishAt.refused does) = Goes.calls number _ _ at (Calls.publishes does) (λ x h. in_none x h)

  cancel_goes : (number : ℕ) {s : KeptNode} {reply : Reply} {w' : World} → IsAt w number s
      → CancelAt w number s reply w' → Goes w w'
  cancel_goes number at (CancelAt.given_up does) = Goes.calls number _ _ at (Calls.cancels does) (λ x h. in_none x h)
  cancel_goes number at (CancelAt.refused does) = Goes.calls number _ _ at (Calls.cancels does) (λ x h. in_none x h)

  restart_goes : (number : ℕ) {s : KeptNode} {keeps : Bool} {reply : Reply} {w' : World} → IsAt w number s
      → RestartAt w number s keeps reply w' → Goes w w'
  restart_goes number at (RestartAt.booted does) = Goes.calls number _ _ at (Calls.restarts does) (λ x h. in_none x h)
  restart_goes number at (RestartAt.refused does) = Goes.calls number _ _ at (Calls.restarts does) (λ x h. in_none x h)

  tell_goes : (number : ℕ) {s : KeptNode} {reply : Reply} {w' : World} → IsAt w number s
      → TellAt w number s reply w' → Goes w w'
  tell_goes number at (TellAt.stopped why) = Goes.stays
  tell_goes number at (TellAt.no_room running) = Goes.stays
  tell_goes number at (TellAt.tells running (windows, are, told_is)) =
      Goes.tells number _ at
      (λ p h op i. absurd (windows_bring_none windows p (subst (λ l. Contains l p) told_is h) op i))

  -- ---- deliveries

  window_goes : (number : ℕ) {s : KeptNode} {window : Intervals} {reply : Reply} {w' : World} → IsAt w number s
      → WindowAt w number s window reply w' → Goes w w'
  window_goes number at (WindowAt.stopped why) = Goes.stays
  window_goes number at (WindowAt.no_room running some) = Goes.stays
  window_goes number {s = s} {window = window} at (WindowAt.answers {told = told} running answer) =
      Goes.tells number _ at (λ p h op i. lacking_member s.node.saved window op
      (subst (λ l. Contains l op) answer.whole (in_joined gossip.ops_of told p op h i)))

  batch_goes : (number : ℕ) {s : KeptNode} {reply : Reply} {w' : World} (sent : Sent) → Contains w.packets sent
      → IsAt w number s → BatchAt w number s (carried sent) reply w' → Goes w w'
  batch_goes number sent there at (BatchAt.nothing_new does) =
      Goes.calls number _ _ at (Calls.receives sent there does) (λ x h. in_none x h)
  batch_goes number sent there at (BatchAt.takes does some) =
      Goes.calls number _ _ at (Calls.receives sent there does) (λ x h. in_none x h)
  batch_goes number sent there at (BatchAt.refused does) =
      Goes.calls number _ _ at (Calls.receives sent there does) (λ x h. in_none x h)

  message_goes : (number : ℕ) {s : KeptNode} {sent : Sent} {d : Data} {reply : Reply} {w' : World} → IsAt w number s
      → MessageAt w number s sent d reply w' → Goes w w'
  message_goes number at (MessageAt.arrives does) = Goes.calls number _ _ at (Calls.arrives does) (λ x h. in_none x h)
  message_goes number at (MessageAt.refused does) = Goes.calls number _ _ at (Calls.arrives does) (λ x h. in_none x h)
  message_goes number at (MessageAt.no_room running) = Goes.stays

  deliver_goes : (number : ℕ) {s : KeptNode} (sent : Sent) {reply : Reply} {w' : World} → Contains w.packets sent
      → IsAt w number s → DeliverAt w number s sent reply w' → Goes w w'
  deliver_goes number sent there at (DeliverAt.have is h) = window_goes number at h
  deliver_goes number {s} sent {reply} {w'} there at (DeliverAt.ops is h) =
      batch_goes number sent there at (subst (λ l. BatchAt w number s l reply w') (carried_is sent is) h)
  deliver_goes number sent there at (DeliverAt.message is h) = message_goes number at h

  step_goes : {event : Event} {reply : Reply} {w' : World} → Step w event reply w' → Goes w w'
  step_goes (Step.no_node e) = Goes.stays
  step_goes (Step.no_desk at e) = Goes.stays
  step_goes (Step.no_such_job is) = Goes.stays
  step_goes (Step.no_packet e) = Goes.stays
  step_goes (Step.job {number = number} at is h) = job_goes number at h
  step_goes (Step.save {number = number} at h) = save_goes number at h
  step_goes (Step.publish {number = number} at h) = publish_goes number at h
  step_goes (Step.cancel {number = number} at h) = cancel_goes number at h
  step_goes (Step.restart {number = number} at h) = restart_goes number at h
  step_goes (Step.tell {number = number} at h) = tell_goes number at h
  step_goes (Step.deliver {packet = packet} {number = number} {sent = sent} e at h) =
      deliver_goes number sent (item_there w.packets packet sent e) at h

  -- ---- joins and reopenings

  may_join : (number : ℕ) (k : Kept) → map.get w.nodes number ≡ None → k.number ≡ number → HasNamesOnce k.saved
      → ((name : Name) → ¬ IsClashAt w k.saved name) → ((name : Name) → ¬ IsStray (joined w number k) name)
      → MayJoin w number k
  may_join number k free number_is names no_clash no_stray =
      record {
        free = free;
        number_is = number_is;
        names = names;
        no_clash = λ a b here there same. elim (same_or_not a b) [
          | inl e ↦ e
          | inr differ ↦ absurd (no_clash a.name (record {
            ours = a;
            theirs = b;
            in_set = here;
            in_world = there;
            our_name = refl;
            their_name = sym same;
            differ = differ;
          }))
        ];
        owned = λ op u s at. elim (in_or_not s.node.saved op) [
          | inl i ↦ i
          | inr lacks ↦ absurd (no_stray op.name (record {
            op = op;
            op_name = refl;
            in_world = u;
            owner = s;
            there = at;
            unknown = lacks;
          }))
        ];
      }

  joins_goes : (number : ℕ) {k : Kept} {reply : Reply} {w' : World} → Joins w number k reply w' → Goes w w'
  joins_goes number (Joins.there at) = Goes.stays
  joins_goes number (Joins.not_opened free h) = Goes.stays
  joins_goes number (Joins.clash free is left least) = Goes.stays
  joins_goes number (Joins.impostor free is left none least) = Goes.stays
  joins_goes number {k} (Joins.joins free is left names no_clash no_stray) =
      Goes.joins number (may_join number k free is names no_clash no_stray)

  reopening_goes : (number : ℕ) {k : Kept} {reply : Reply} {w' : World} → Reopening w number k reply w' → Goes w w'
  reopening_goes number (Reopening.no_node e) = Goes.stays
  reopening_goes number (Reopening.running at running) = Goes.stays
  reopening_goes number (Reopening.booted at is h) = Goes.calls number _ _ at (Calls.reopens is h) (λ x h. in_none x h)
  reopening_goes number (Reopening.refused at is h) = Goes.calls number _ _ at (Calls.reopens is h) (λ x h. in_none x h)

  pub moves_goes : (m : Move) (reply : Reply) (w' : World) → Moves w m reply w' → Goes w w'
  moves_goes (Happens event) reply w' h = step_goes h
  moves_goes (Comes number k) reply w' h = joins_goes number h
  moves_goes (Returns number k) reply w' h = reopening_goes number h
