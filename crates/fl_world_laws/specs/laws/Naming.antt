-- What is true of the names of each world that is reached.
use Rattle.std.proofs.Common.{◌≡◌, ◌⊎◌, ◌∙◌, inl, inr, ℕ, List, [], ◌∷◌, Some, None, refl, sym, ap, subst}
use Rattle.std.specs.FinMap as map
use Rattle.std.specs.List.{Contains}
use Rattle.std.specs.Ordering.{nat_cmp}
use Rattle.std.proofs.lemmas.List.Elements.{Contains-append_cases}
use Rattle.fl_labels.specs.Found.{Within}
use Rattle.fl_labels.specs.SetBy as set
use Rattle.fl_labels.specs.SetBy.{In}
use Rattle.fl_ops.specs.declared.op.Op.{Op}
use Rattle.fl_ops.specs.OpOrder.{op_cmp}
use Rattle.fl_opset.specs.laws.Members.{listed_in}
use Rattle.fl_wire.specs.declared.packet.Packet.{Packet}
use Rattle.fl_gossip.specs.Taking as gossip
use Rattle.fl_bench.specs.laws.Puts.{none_some, same_found}
use Rattle.fl_store.specs.Kept.{Kept, raised}
use Rattle.fl_system.specs.declared.admission.Admission.{Admission}
use Rattle.fl_system.specs.declared.sent.Sent.{Sent}
use Rattle.fl_system.specs.State.{NodeState}
use Rattle.fl_system.specs.Receives.{IsImpostor, IsClash}
use Rattle.fl_system.specs.Openings.{opened}
use Rattle.fl_system.specs.Gossip.{told_by}
use Rattle.fl_system.specs.World.{World, KeptNode, went, empty_world}
use Rattle.fl_system.specs.WorldSteps.{IsAt}
use Rattle.fl_system.specs.Union.{Union}
use Rattle.fl_system.specs.Deliveries.{has_told}
use Rattle.fl_system.specs.Joins.{joined}
use Rattle.fl_system.specs.Runs.{Moment, IsRun, end, IsReached}
use Rattle.fl_system.specs.Whereabouts.{IsOnItsWay}
use Rattle.fl_system_laws.specs.Sound.{holding, IsNew, IsSound, KnownWith, IsStep}
use Rattle.fl_system_laws.specs.Goes.{Calls, Goes, carried, BringNoOps, IsOwned, MayJoin}
use Rattle.fl_system_laws.specs.laws.Steps.{NamesOnce, more_sound, opened_sound, stays, jobs_step}
use Rattle.fl_system_laws.specs.laws.Steps.{receives_step, arrives_step, saves_step, publishes_step, cancels_step, restarts_step, doubts_step}
use Rattle.fl_system_laws.specs.laws.Steps.{in_none}
use Rattle.fl_system_laws.specs.laws.Going.{moves_goes, in_mapped}
use Rattle.fl_world_laws.specs.Places.{IsSavedAt}
use Rattle.fl_world_laws.specs.laws.Nodes.{Now, is_new, is_old, now, at_key, Stays, is_replaced, is_still, stays_there}

-- Each node is sound with what the world has saved, of which no two operations have one name; each operation of the
-- number of a node is saved there; and what a packet carries is saved by the node that sent it.
pub record IsNamed (w : World) : Type 0 where
  pub sound : (number : ℕ) (s : KeptNode) → IsAt w number s
      → (s.node.number ≡ number) × IsSound (Union w) (holding s.node)
  pub names : NamesOnce (Union w)
  pub owned : (op : Op) → Union w op → IsOwned w op
  pub packets : (x : Sent) → Contains w.packets x → (op : Op) → Contains (carried x) op → IsSavedAt w x.from op

pub empty_named : (desks : ℕ) → IsNamed (empty_world desks)
empty_named desks =
    record {
      sound = λ number s e. absurd (none_some (map.get-empty nat_cmp number) e);
      names = λ a b (number, s, e, h). absurd (none_some (map.get-empty nat_cmp number) e);
      owned = λ op (number, s, e, h). absurd (none_some (map.get-empty nat_cmp number) e);
      packets = λ x h. in_none x h;
    }

-- ---- a node takes a step

module _ (w : World) (number : ℕ) (s : KeptNode) (node : NodeState) (kept : Kept) (sent : List Sent)
    (admitted : List Admission) (at : IsAt w number s) where
  abbrev after : World
  after = went w number node kept sent admitted

  abbrev new : KeptNode
  new = record { node = node; kept = kept }

  at_it : IsAt after number new
  at_it = at_key w.nodes number new

  same_node : (m : ℕ) (x : KeptNode) → m ≡ number → IsAt w m x → s ≡ x
  same_node m x is e = same_found at (subst (λ k. map.get w.nodes k ≡ Some x) is e)

  union_cases : (op : Op) → Union after op → Union w op ⊎ In node.saved op
  union_cases op (m, x, e, h) = by_now (now w.nodes number new m x e)
    where
      by_now : Now w.nodes number new m x → Union w op ⊎ In node.saved op
      by_now (is_new is same) = inr (subst (λ (y : KeptNode). In y.node.saved op) (sym same) h)
      by_now (is_old other there) = inl (m, x, there, h)

  module _ (more : Within (In s.node.saved) (In node.saved)) where
    pub union_more : Within (Union w) (Union after)
    union_more op (m, x, e, h) = by_stay (stays_there w.nodes number new m x e)
      where
        by_stay : Stays w.nodes number new m x → Union after op
        by_stay (is_replaced is) =
            (number, new, at_it, more op (subst (λ (y : KeptNode). In y.node.saved op) (sym (same_node m x is e)) h))
        by_stay (is_still stands) = (m, x, stands, h)

    saved_still : (m : ℕ) (op : Op) → IsSavedAt w m op → IsSavedAt after m op
    saved_still m op i = by_stay (stays_there w.nodes number new m i.s i.at)
      where
        by_stay : Stays w.nodes number new m i.s → IsSavedAt after m op
        by_stay (is_replaced is) =
            record {
              s = new;
              at = subst (λ k. IsAt after k new) (sym is) at_it;
              saved = more op (subst (λ (y : KeptNode). In y.node.saved op) (sym (same_node m i.s is i.at)) i.saved);
            }
        by_stay (is_still stands) = record { s = i.s; at = stands; saved = i.saved }

  module _ (named : IsNamed w) (step : IsStep (Union w) (holding s.node) (holding node)) where
    its_number : s.node.number ≡ number
    its_number = (named.sound number s at).0

    grows : Within (Union w) (Union after)
    grows = union_more step.kept

    known : Within (KnownWith (Union w) (holding node)) (Union after)
    known op (inl k) = grows op k
    known op (inr h) = (number, new, at_it, h)

    -- what is saved then was saved somewhere, or is the node's new operation
    origin : (op : Op) → Union after op
        → Union w op ⊎ (IsOnItsWay s.node.state op × IsNew (holding s.node) op)
    origin op u = elim (union_cases op u) [ inl k ↦ inl k | inr h ↦ step.gained op h ]

    -- what was saved somewhere has not the name of a new operation
    apart : {P : Type 0} (a b : Op) → Union w a → IsNew (holding s.node) b → a.name ≡ b.name → P
    apart a b k new same =
        let place : number ≡ a.name.node = sym (ap (λ x. x.node) same ∙ new.own ∙ its_number) in
        let its = named.owned a k s (subst (λ m. map.get w.nodes m ≡ Some s) place at) in
        absurd (new.unknown a its same)

    names_after : NamesOnce (Union after)
    names_after a b u v same = by_origin (origin a u) (origin b v)
      where
        by_origin : Union w a ⊎ (IsOnItsWay s.node.state a × IsNew (holding s.node) a)
            → Union w b ⊎ (IsOnItsWay s.node.state b × IsNew (holding s.node) b) → a ≡ b
        by_origin (inl k) (inl l) = named.names a b k l same
        by_origin (inl k) (inr (way, is)) = apart a b k is same
        by_origin (inr (way, is)) (inl l) = apart b a l is (sym same)
        by_origin (inr (f, is)) (inr (g, too)) = (named.sound number s at).1.alone a b f g same

    owned_after : (op : Op) → Union after op → IsOwned after op
    owned_after op u x e = by_place (union_cases op u) (now w.nodes number new op.name.node x e)
      where
        by_place : Union w op ⊎ In node.saved op → Now w.nodes number new op.name.node x → In x.node.saved op
        by_place (inl k) (is_new is same) =
            subst (λ (y : KeptNode). In y.node.saved op) same
            (step.kept op (named.owned op k s (subst (λ m. map.get w.nodes m ≡ Some s) (sym is) at)))
        by_place (inl k) (is_old other there) = named.owned op k x there
        by_place (inr h) (is_new is same) = subst (λ (y : KeptNode). In y.node.saved op) same h
        by_place (inr h) (is_old other there) = elim (step.gained op h) [
          | inl k ↦ named.owned op k x there
          | inr (way, is) ↦ absurd (other (is.own ∙ its_number))
        ]

    sound_after : (m : ℕ) (x : KeptNode) → Now w.nodes number new m x
        → (x.node.number ≡ m) × IsSound (Union after) (holding x.node)
    sound_after m x (is_new is same) =
        subst (λ (y : KeptNode). (y.node.number ≡ m) × IsSound (Union after) (holding y.node)) same
        (step.number ∙ its_number ∙ sym is, more_sound known step.sound)
    sound_after m x (is_old other there) =
        ((named.sound m x there).0, more_sound grows (named.sound m x there).1)

    pub went_named : BringNoOps sent → IsNamed after
    went_named none =
        record {
          sound = λ m x e. sound_after m x (now w.nodes number new m x e);
          names = names_after;
          owned = owned_after;
          packets = λ x h op i. elim (Contains-append_cases w.packets sent x h) [
            | inl old ↦ saved_still step.kept x.from op (named.packets x old op i)
            | inr p ↦ absurd (none x p op i)
          ];
        }

-- ---- each call

module _ (w : World) (named : IsNamed w) where
  -- what a packet that was sent carries is saved somewhere
  pub carried_known : (x : Sent) → Contains w.packets x → Within (In (set.of_list {R = op_cmp} (carried x))) (Union w)
  carried_known x h op i =
      let at = named.packets x h op ((listed_in (carried x) (set.of_list (carried x)) refl op).1 i) in
      (x.from, at.s, at.at, at.saved)

  module _ (number : ℕ) (s : KeptNode) (at : IsAt w number s) where
    its_sound : IsSound (Union w) (holding s.node)
    its_sound = (named.sound number s at).1

    pub calls_step : {n : NodeState} {k : Kept} → Calls w s n k → IsStep (Union w) (holding s.node) (holding n)
    calls_step (Calls.jobs does) = jobs_step its_sound does
    calls_step (Calls.looks seen look is) = stays its_sound
    calls_step (Calls.receives sent there does) =
        receives_step named.names (carried_known sent there) its_sound does
    calls_step (Calls.arrives does) = arrives_step its_sound does
    calls_step (Calls.saves does) = saves_step its_sound does
    calls_step (Calls.publishes does) = publishes_step its_sound does
    calls_step (Calls.cancels does) = cancels_step its_sound does
    calls_step (Calls.restarts does) = restarts_step its_sound does
    calls_step (Calls.reopens is does) = doubts_step s.node its_sound is does

-- ---- what is told

abbrev sent_from : ℕ → Packet → Sent
sent_from number p = record { from = number; packet = p; sender = None }

told_there : (w : World) (number : ℕ) (s : KeptNode) (told : List Packet) → IsAt w number s
    → ((p : Packet) → Contains told p → Within (Contains (gossip.ops_of p)) (In s.node.saved))
    → (x : Sent) → Contains (told_by number told) x → (op : Op) → Contains (carried x) op → IsSavedAt w x.from op
told_there w number s told at saved x h op i =
    let m = in_mapped (sent_from number) told x h in
    record {
      s = s;
      at = subst (λ (y : Sent). IsAt w y.from s) m.is at;
      saved = saved m.item m.there op (subst (λ (y : Sent). Contains (carried y) op) (sym m.is) i);
    }

tells_named : (w : World) (number : ℕ) (s : KeptNode) (told : List Packet) → IsAt w number s
    → ((p : Packet) → Contains told p → Within (Contains (gossip.ops_of p)) (In s.node.saved))
    → IsNamed w → IsNamed (has_told w number told)
tells_named w number s told at saved named =
    record {
      sound = named.sound;
      names = named.names;
      owned = named.owned;
      packets = λ x h op i. elim (Contains-append_cases w.packets (told_by number told) x h) [
        | inl old ↦ same_place (named.packets x old op i)
        | inr p ↦ same_place (told_there w number s told at saved x p op i)
      ];
    }
  where
    same_place : {m : ℕ} {op : Op} → IsSavedAt w m op → IsSavedAt (has_told w number told) m op
    same_place i = record { s = i.s; at = i.at; saved = i.saved }

-- ---- a node joins

module _ (w : World) (number : ℕ) (k : Kept) (may : MayJoin w number k) (named : IsNamed w) where
  abbrev comer : KeptNode
  comer = record { node = opened w.desks k; kept = raised k }

  stands : (m : ℕ) (x : KeptNode) → IsAt w m x → IsAt (joined w number k) m x
  stands m x e = by_stay (stays_there w.nodes number comer m x e)
    where
      by_stay : Stays w.nodes number comer m x → IsAt (joined w number k) m x
      by_stay (is_replaced is) = absurd (none_some may.free (subst (λ j. map.get w.nodes j ≡ Some x) is e))
      by_stay (is_still at) = at

  union_joined : Within (Union w) (Union (joined w number k))
  union_joined op (m, x, e, h) = (m, x, stands m x e, h)

  its_own : Within (In k.saved) (Union (joined w number k))
  its_own op h = (number, comer, at_key w.nodes number comer, h)

  joined_cases : (op : Op) → Union (joined w number k) op → Union w op ⊎ In k.saved op
  joined_cases op (m, x, e, h) = by_now (now w.nodes number comer m x e)
    where
      by_now : Now w.nodes number comer m x → Union w op ⊎ In k.saved op
      by_now (is_new is same) = inr (subst (λ (y : KeptNode). In y.node.saved op) (sym same) h)
      by_now (is_old other at) = inl (m, x, at, h)

  sound_joined : (m : ℕ) (x : KeptNode) → Now w.nodes number comer m x
      → (x.node.number ≡ m) × IsSound (Union (joined w number k)) (holding x.node)
  sound_joined m x (is_new is same) =
      subst (λ (y : KeptNode). (y.node.number ≡ m) × IsSound (Union (joined w number k)) (holding y.node)) same
      (may.number_is ∙ sym is, opened_sound w.desks k its_own)
  sound_joined m x (is_old other at) = ((named.sound m x at).0, more_sound union_joined (named.sound m x at).1)

  names_joined : NamesOnce (Union (joined w number k))
  names_joined a b u v same = by_case (joined_cases a u) (joined_cases b v)
    where
      by_case : Union w a ⊎ In k.saved a → Union w b ⊎ In k.saved b → a ≡ b
      by_case (inl i) (inl j) = named.names a b i j same
      by_case (inl i) (inr j) = sym (may.no_clash b a j i (sym same))
      by_case (inr i) (inl j) = may.no_clash a b i j same
      by_case (inr i) (inr j) = may.names a b i j same

  joined_named : IsNamed (joined w number k)
  joined_named =
      record {
        sound = λ m x e. sound_joined m x (now w.nodes number comer m x e);
        names = names_joined;
        owned = may.owned;
        packets = λ x h op i. elim (Contains-append_cases w.packets [] x h) [
          | inl old ↦ at_sender x.from op (named.packets x old op i)
          | inr p ↦ in_none x p
        ];
      }
    where
      at_sender : (m : ℕ) (op : Op) → IsSavedAt w m op → IsSavedAt (joined w number k) m op
      at_sender m op i = record { s = i.s; at = stands m i.s i.at; saved = i.saved }

-- ---- runs

pub goes_named : {w w' : World} → IsNamed w → Goes w w' → IsNamed w'
goes_named named Goes.stays = named
goes_named {w} named (Goes.tells number {s = s} told at saved) = tells_named w number s told at saved named
goes_named {w} named (Goes.calls number {s = s} {n = n} {k = k} sent admitted at does none) =
    went_named w number s n k sent admitted at named (calls_step w named number s at does) none
goes_named {w} named (Goes.joins number {k = k} may) = joined_named w number k may named

pub run_named : (w : World) (ms : List Moment) → IsNamed w → IsRun w ms → IsNamed (end w ms)
run_named w [] named run = named
run_named w (m ∷ ms) named run =
    run_named m.after ms (goes_named named (moves_goes w m.move m.reply m.after run.0)) run.1

pub reached_named : (w : World) → IsReached w → IsNamed w
reached_named w r = subst IsNamed r.leads (run_named (empty_world r.desks) r.moments (empty_named r.desks) r.is_run)

-- ---- nothing that was sent is refused for its name

module _ (w : World) (named : IsNamed w) (number : ℕ) (s : KeptNode) (at : IsAt w number s) (op : Op)
    (known : Union w op) where
  pub no_impostor : ¬ IsImpostor s.node op
  no_impostor i =
      let place : number ≡ op.name.node = sym (i.own ∙ (named.sound number s at).0) in
      i.unknown op (named.owned op known s (subst (λ m. map.get w.nodes m ≡ Some s) place at)) refl

  pub no_clash : ¬ IsClash s.node op
  no_clash c = c.differs (named.names c.other op (number, s, at, c.there) known c.same_name)
