-- A packet that is a batch of its own is the line that delivers it.
use Rattle.std.proofs.Common.{◌≡◌, ◌≤◌, ℕ, List, [], ◌∷◌, ◌++◌, map, length, Some, ◌⊎◌}
use Rattle.std.proofs.Common.{inl, inr, true, false}
use Rattle.std.proofs.Common.{refl, sym, ap, ◌∙◌, subst}
use Rattle.std.proofs.lemmas.List.{append-nil}
use Rattle.fl_message.specs.declared.message.Data.{Data}
use Rattle.fl_jobs.specs.declared.job.Job.{Job}
use Rattle.fl_jobs.specs.declared.job.Job.TheVariants.{Arrive}
use Rattle.fl_store.specs.Kept.{Kept}
use Rattle.fl_system.specs.declared.event.Event.{Event}
use Rattle.fl_system.specs.declared.event.Event.TheVariants as event
use Rattle.fl_system.specs.declared.sent.Sent.{Sent}
use Rattle.fl_system.specs.Numbered.{item_at}
use Rattle.fl_system.specs.State.{NodeState, kept_of}
use Rattle.fl_system.specs.World.{World, KeptNode}
use Rattle.fl_wire.specs.declared.batch.Batch.{Batch}
use Rattle.fl_wire.specs.declared.packet.Packet.{Packet}
use Rattle.fl_wire.specs.declared.packet.Packet.TheVariants as packets
use Rattle.fl_crew_model.specs.declared.record.Told.{Told}
use Rattle.fl_dealing.specs.declared.entry.Entry.{Entry}
use Rattle.fl_dealing.specs.declared.entry.Reply.{Reply}
use Rattle.fl_workers.specs.Over.{CrewOver}
use Rattle.fl_crew_calls.specs.Asking.{is_window}
use Rattle.fl_crew_calls.specs.Told.{all_sent, replies_behind, reply_behind, sent_by}
use Rattle.fl_one_worker_laws.specs.Completing.{AllComplete, MessageCompletes}
use Rattle.fl_one_worker_laws.specs.Single.{DoneInTurn, DoneWithOps, IsDone, IsNodeOf}
use Rattle.fl_one_worker_laws.specs.Single.{arrival_of, reply_in, replied}
use Rattle.fl_one_worker_calls.specs.Worlds.{CompletesAll, Follows, Stands, packets_in}
use Rattle.fl_one_worker_calls.proofs.Delivering.{message_lifted, ops_lifted}
use Rattle.fl_one_worker_calls.proofs.Lifting.{Lifted, most}

-- the only job is a message
record IsToldOne (s : KeptNode) (d : Data) (told : List Told) (n' : NodeState) (k' : Kept)
    : Type 0 where
  pub one : Told
  pub only : told ≡ one ∷ []
  pub completes : MessageCompletes s.node s.kept d one n' k'

only_message : (s : KeptNode) (d : Data) (told : List Told) (n' : NodeState) (k' : Kept)
    → AllComplete most s.node s.kept (Arrive d ∷ []) told n' k' → IsToldOne s d told n' k'
only_message s d [] n' k' h = absurd h
only_message s d (t ∷ []) n' k' (mid, kept, one, later) = record {
  one = t;
  only = refl;
  completes =
      subst (λ (n : NodeState). MessageCompletes s.node s.kept d t n k') (sym later.0)
      (subst (λ (k : Kept). MessageCompletes s.node s.kept d t mid k) (sym later.1) one);
}
only_message s d (t ∷ u ∷ told) n' k' (mid, kept, one, later) = absurd later

module _ {K : Type 0} where
  -- one event, and one entry
  one_follows : (w : World) (number : ℕ) (event : Event) (r : Reply) (es : List Entry)
      (n' : NodeState) (k' : Kept) (new : CrewOver K) → map reply_in es ≡ r ∷ []
      → Lifted w number event (reply_behind (length (packets_in w)) r) (sent_by r) n' k'
      → IsNodeOf new n' → k' ≡ kept_of n'
      → Follows w number (event ∷ []) (replies_behind (packets_in w) es) (all_sent es) new
  one_follows w number event r [] n' k' new said it is_node kept = absurd (cc)
  one_follows w number event r (e ∷ f ∷ es) n' k' new said it is_node kept = absurd (cc)
  one_follows w number event r (e ∷ []) n' k' new said it is_node kept =
      let is : e.reply ≡ r = cc in
      let here =
      subst (λ (q : Reply). Lifted w number event (reply_behind (length (packets_in w)) q)
      (sent_by q) n' k') (sym is) it in
      record {
        world = here.world;
        completes = (here.world, here.completes, refl);
        elsewhere = here.elsewhere;
        packets =
            here.packets ∙ ap (λ l. packets_in w ++ l) (sym (append-nil (sent_by e.reply)));
        stands = record {
          place = record { node = n'; kept = k' };
          there = here.there;
          is_node = is_node;
          kept = kept;
        };
      }

  module _ (jobs_done : (old new : CrewOver K) (jobs : List Job) (messages : List Data)
      (es : List Entry) (n : NodeState) (k : Kept) (upto : ℕ) → IsNodeOf old n
      → IsDone old new jobs (map packets.Data messages) es → length new.list ≤ upto
      → DoneInTurn upto new n k (jobs ++ map arrival_of messages) es)
      (ops_done : (old new : CrewOver K) (packet : Packet) (batch : Batch) (es : List Entry)
      (n : NodeState) (k : Kept) → IsNodeOf old n
      → (packet ≡ packets.Full batch) ⊎ (packet ≡ packets.Delta batch)
      → IsDone old new [] (packet ∷ []) es → DoneWithOps new n k batch.ops es)
      (w : World) (number index : ℕ) (sent : Sent) (old new : CrewOver K) (es : List Entry)
      (stands : Stands w number old) (there : item_at w.packets index ≡ Some sent)
      (done : IsDone old new [] (sent.packet ∷ []) es) (few : length new.list ≤ most) where
    ops_follow : (batch : Batch)
        → (sent.packet ≡ packets.Full batch) ⊎ (sent.packet ≡ packets.Delta batch)
        → Follows w number (event.Deliver index number ∷ []) (replies_behind (packets_in w) es)
        (all_sent es) new
    ops_follow batch is =
        let s = stands.place in
        let it = ops_done old new sent.packet batch es s.node s.kept stands.is_node is done in
        one_follows w number (event.Deliver index number) _ es it.node it.kept new it.replies
        (ops_lifted w number s stands.there index sent there batch is it.result it.node it.kept
        it.complete)
        it.is_node (it.same stands.kept)

    message_follows : (d : Data) → sent.packet ≡ packets.Data d
        → Follows w number (event.Deliver index number ∷ []) (replies_behind (packets_in w) es)
        (all_sent es) new
    message_follows d is =
        let s = stands.place in
        let here = subst (λ (p : Packet). IsDone old new [] (p ∷ []) es) is done in
        let it = jobs_done old new [] (d ∷ []) es s.node s.kept most stands.is_node here few in
        let one = only_message s d it.told it.node it.kept it.complete in
        one_follows w number (event.Deliver index number) (Reply.Told one.one) es it.node it.kept
        new (it.replies ∙ ap (map replied) one.only)
        (message_lifted w number s stands.there index sent there d is one.one it.node it.kept
        one.completes)
        it.is_node (it.same stands.kept)

    pub packet_follows : (packet : Packet) → sent.packet ≡ packet → is_window packet ≡ false
        → Follows w number (event.Deliver index number ∷ []) (replies_behind (packets_in w) es)
        (all_sent es) new
    packet_follows (packets.Full batch) is window = ops_follow batch (inl is)
    packet_follows (packets.Delta batch) is window = ops_follow batch (inr is)
    packet_follows (packets.Data d) is window = message_follows d is
    packet_follows (packets.Have intervals) is window = absurd (cc)
