-- What entries are replied, one after another.
use Rattle.std.proofs.Common.{◌≡◌, ◌∙◌, ◌++◌, ◌∷◌, [], List, append_assoc, append-nil, ap, refl, sym}
use Rattle.fl_dealing.specs.declared.entry.Entry.{Entry}
use Rattle.fl_system.specs.declared.reply.Reply.{Reply}
use Rattle.fl_wire.specs.declared.packet.Packet.{Packet}
use Rattle.fl_crew_calls.specs.Told.{all_sent, replies_behind, reply_behind, sent_by}
use Rattle.std.specs.Prelude.{length}

module _ (sent : List Packet) {sent' : List Packet} {rest later : List Entry} (e : Entry)
    (is : rest ≡ e ∷ later) (kept : sent' ≡ sent ++ sent_by e.reply) where
  -- what one sends is kept behind what was sent
  pub sends_one : {all : List Packet} → sent ++ all_sent rest ≡ all → sent' ++ all_sent later ≡ all
  sends_one so_far =
      ap (λ s. s ++ all_sent later) kept ∙ append_assoc sent (sent_by e.reply) (all_sent later)
      ∙ ap (λ es. sent ++ all_sent es) (sym is) ∙ so_far

  -- and it is replied behind what was replied
  pub replies_one : (replies : List Reply) {replies' told : List Reply} (reply : Reply)
      → replies' ≡ replies ++ reply ∷ [] → reply ≡ reply_behind (length sent) e.reply
      → replies ++ replies_behind sent rest ≡ told → replies' ++ replies_behind sent' later ≡ told
  replies_one replies {replies'} {told} reply pushed reply_is so_far =
      ap (λ r. r ++ replies_behind sent' later) pushed
      ∙ append_assoc replies (reply ∷ []) (replies_behind sent' later)
      ∙ ap (λ r. replies ++ r ∷ replies_behind sent' later) reply_is
      ∙ ap (λ s. replies ++ reply_behind (length sent) e.reply ∷ replies_behind s later) kept
      ∙ ap (λ es. replies ++ replies_behind sent es) (sym is) ∙ so_far

-- where none is left, all is told
pub none_left : {sent all : List Packet} {rest : List Entry} → rest ≡ []
    → sent ++ all_sent rest ≡ all → sent ≡ all
none_left {sent} {all} {rest} none so_far =
    sym (append-nil sent) ∙ ap (λ es. sent ++ all_sent es) (sym none) ∙ so_far

pub none_unreplied : (sent : List Packet) {replies told : List Reply} {rest : List Entry} → rest ≡ []
    → replies ++ replies_behind sent rest ≡ told → replies ≡ told
none_unreplied sent {replies} {told} {rest} none so_far =
    sym (append-nil replies) ∙ ap (λ es. replies ++ replies_behind sent es) (sym none) ∙ so_far
