-- A message begins nothing.
use Rattle.std.proofs.Common.{◌≡◌, ◌∙◌, ℕ, Bool, true, false, refl, sym, ap, subst, Option, Some, Result, Ok, inl, inr}
use Rattle.std.proofs.lemmas.List.{append-nil}
use Rattle.fl_store.specs.Custody.{Custody}
use Rattle.fl_wire.specs.declared.packet.Packet.{Packet}
use Rattle.fl_system.specs.declared.answer.Fault.{Fault}
use Rattle.fl_system.specs.declared.event.Event.{Event}
use Rattle.fl_system.specs.declared.event.Event.TheVariants as event
use Rattle.fl_system.specs.declared.reply.Reply.{Reply}
use Rattle.fl_system.specs.declared.sent.Sent.{Sent}
use Rattle.fl_system.specs.Deliveries.{DeliverAt, MessageAt}
use Rattle.fl_system.specs.Joins.{Joins}
use Rattle.fl_system.specs.Numbered.{item_at}
use Rattle.fl_system.specs.World.{World, KeptNode}
use Rattle.fl_system.specs.WorldSteps.{Step}
use Rattle.fl_store.specs.Kept.{Kept}
use Rattle.fl_nodes.specs.Goes.{Goes}
use Rattle.fl_nodes.specs.Over.{WorldOver}
use Rattle.fl_calls.specs.Answer.{Answer}
use Rattle.fl_calls.specs.Completing.{begins, Completes, at_once}
use Rattle.fl_calls.specs.Entering.{Openings, Enters, is_there, joins, is_refused, OnceOpen, shut, opened}
use Rattle.fl_calls.specs.parts.Coming.{is_message, IsSentAs}
use Rattle.fl_calls.proofs.Going.{goes_as}

some_same : {X : Type 0} {x y : X} → ◌≡◌ {A = Option X} (Some x) (Some y) → x ≡ y
some_same h = cc

no_message : false ≡ true → ⊥
no_message e = cc

-- of another packet than a message
other_packet : (packet kind : Packet) → is_message packet ≡ true → packet ≡ kind → is_message kind ≡ false → ⊥
other_packet packet kind message is none = no_message (sym none ∙ sym (ap is_message is) ∙ message)

message_replies : (w : World) (number : ℕ) (s : KeptNode) (sent : Sent) (r : Reply) (w' : World) → is_message sent.packet ≡ true
    → DeliverAt w number s sent r w' → begins r ≡ false
message_replies w number s sent r w' message (DeliverAt.have is h) = absurd (other_packet sent.packet _ message is refl)
message_replies w number s sent r w' message (DeliverAt.ops (inl is) h) = absurd (other_packet sent.packet _ message is refl)
message_replies w number s sent r w' message (DeliverAt.ops (inr is) h) = absurd (other_packet sent.packet _ message is refl)
message_replies w number s sent r w' message (DeliverAt.message is (MessageAt.arrives h)) = refl
message_replies w number s sent r w' message (DeliverAt.message is (MessageAt.refused h)) = refl
message_replies w number s sent r w' message (DeliverAt.message is (MessageAt.no_room h)) = refl

message_ends : (w : World) (packet number : ℕ) (r : Reply) (w' : World) → IsSentAs w packet true
    → Step w (event.Deliver packet number) r w' → begins r ≡ false
message_ends w packet number r w' sent_as (Step.no_node none) = refl
message_ends w packet number r w' sent_as (Step.no_packet none) = refl
message_ends w packet number r w' sent_as (Step.deliver {s = s} {sent = sent} there at h) =
    message_replies w number s sent r w'
    (subst (λ (it : Sent). is_message it.packet ≡ true) (some_same (sym sent_as.there ∙ there)) sent_as.kind) h

module _ {K : Type 0} (custody : Custody K) (old new : WorldOver K) where
  -- a message comes
  pub message_comes : (e : Event) (packet number : ℕ) (message : Bool) (r : Reply) → e ≡ event.Deliver packet number → message ≡ true
      → Goes custody old new (λ w w'. Step w e r w')
      → Goes custody old new (λ w w'. IsSentAs w packet message → Completes w (event.Deliver packet number) r w')
  message_comes e packet number message r is true_ goes =
      goes_as custody old new (λ w w'. Step w e r w') (λ w w'. IsSentAs w packet message → Completes w (event.Deliver packet number) r w')
      (λ w w' step sent_as.
      let it : Step w (event.Deliver packet number) r w' = subst (λ f. Step w f r w') is step in
      at_once (message_ends w packet number r w' (subst (IsSentAs w packet) true_ sent_as) it) it)
      goes

  -- another packet comes
  pub other_comes : (e : Event) (packet number : ℕ) (message : Bool) (r : Reply) → e ≡ event.Deliver packet number
      → Goes custody old new (λ w w'. Completes w e r w')
      → Goes custody old new (λ w w'. IsSentAs w packet message → Completes w (event.Deliver packet number) r w')
  other_comes e packet number message r is goes =
      goes_as custody old new (λ w w'. Completes w e r w') (λ w w'. IsSentAs w packet message → Completes w (event.Deliver packet number) r w')
      (λ w w' done sent_as. subst (λ f. Completes w f r w') is done) goes

-- ---- a node that is opened sends nothing

joined_packets : (w : World) (number : ℕ) (k : Kept) (r : Reply) (w' : World) → Joins w number k r w' → w'.packets ≡ w.packets
joined_packets w number k r w' (Joins.there at) = refl
joined_packets w number k r w' (Joins.not_opened none refusal) = refl
joined_packets w number k r w' (Joins.clash none of left least) = refl
joined_packets w number k r w' (Joins.impostor none of left clash least) = refl
joined_packets w number k r w' (Joins.joins none of left once clash stray) = append-nil w.packets

entered_packets : (openings : Openings) (w : World) (number : ℕ) (result : Result (Unit {0}) Fault) (w' : World)
    → Enters openings w number result w' → w'.packets ≡ w.packets
entered_packets openings w number result w' (is_there at) = refl
entered_packets openings w number result w' (joins none found step) = joined_packets w number _ _ w' step
entered_packets openings w number result w' (is_refused none why) = refl

-- what is done to the world that has these packets then is done
pub once_open_with : (openings : Openings) (w : World) (number packet : ℕ) (message : Bool) (does : World → Answer → World → Type 0)
    (answer : Answer) (w' : World) → IsSentAs w packet message
    → OnceOpen openings w number (λ v a v'. IsSentAs v packet message → does v a v') answer w'
    → OnceOpen openings w number does answer w'
once_open_with openings w number packet message does answer w' sent_as (shut entered) = shut entered
once_open_with openings w number packet message does answer w' sent_as (opened {between = v} entered done) =
    opened entered (done (record {
      sent = sent_as.sent;
      there = ap (λ l. item_at l packet) (entered_packets openings w number (Ok tt) v entered) ∙ sent_as.there;
      kind = sent_as.kind;
    }))
