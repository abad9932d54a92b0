-- What is responded to lines that ask for one act, or for none.
use Rattle.std.proofs.Common.{◌≡◌, ◌≢◌, refl, IsTrue, List}
use Rattle.fl_seal.specs.declared.seal.Key.{Key}
use Rattle.fl_wire.specs.declared.packet.Packet.{Packet}
use Rattle.fl_store.specs.Custody.{Custody}
use Rattle.fl_store.specs.Kept.{Kept}
use Rattle.fl_node.specs.Over.{NodeOver}
use Rattle.fl_system.specs.declared.answer.Fault.{Fault}
use Rattle.fl_system.specs.declared.answer.Fault.TheVariants.{KeeperFailed}
use Rattle.fl_system.specs.declared.reply.Reply.{Reply}
use Rattle.fl_system.specs.declared.reply.Reply.TheVariants.{Refused}
use Rattle.fl_system.specs.Waiting.{IsRunning, NotRunning}
use Rattle.fl_system.specs.World.{KeptNode}
use Rattle.fl_machine_model.specs.Acts.{Act, Replies, Sends}
use Rattle.fl_machine_turns.specs.Answer.{Answer, answered}
use Rattle.fl_machine_turns.specs.Completing.{Begins}
use Rattle.fl_machine_turns.specs.Saying.{Says}
use Rattle.fl_machine_turns.specs.Turn.{IsText, Tells}
use Rattle.fl_machine_calls.specs.Going.{GoesAlone, IsSameNode}
use Rattle.fl_machine.specs.Shown.{Shows, status_said}
use Rattle.fl_machine.specs.parts.Responding.{Responds, ShowsSaying}
use Rattle.fl_machine.specs.declared.response.Response.{Response}
use Rattle.fl_machine.specs.declared.response.Response.TheVariants as response
use Rattle.fl_machine.proofs.Coming.{not_running}
use Rattle.fl_machine.proofs.Responses.{as_before, begins_so, none_done, says_so}
use Rattle.fl_machine.proofs.Statuses.{no_three, refused_three, reply_three, said_three}

module _ {K : Type 0} (custody : Custody K) (x : NodeOver K) (keys : List Key) where
  pub replies_act : (y : NodeOver K) (act : Act) (reply : Reply)
      → GoesAlone custody x act 0 (Replies reply) y → IsSameNode x.node y.node
      → (reply ≡ Refused KeeperFailed → IsTrue (custody.is_broken y.keeper))
      → Responds custody keys x (λ s. Says answered (Begins x.node.number s act))
      (response.Reply reply) 0 y
  replies_act y act reply goes same cause =
      says_so custody x y keys (response.Reply reply) 0 answered
      (λ s. Begins x.node.number s act) (Replies reply) (ShowsSaying.as_said Shows.replied)
      (begins_so custody x y act 0 (Replies reply) goes) same
      (λ three. cause (reply_three reply three))

  pub sends_act : (act : Act) (packets : List Packet) (r : Response)
      → ShowsSaying keys x.node answered (Sends packets) r
      → GoesAlone custody x act 0 (Sends packets) x
      → Responds custody keys x (λ s. Says answered (Begins x.node.number s act)) r 0 x
  sends_act act packets r shows goes =
      says_so custody x x keys r 0 answered (λ s. Begins x.node.number s act) (Sends packets) shows
      (begins_so custody x x act 0 (Sends packets) goes) (as_before x.node)
      (λ three. absurd (no_three (said_three shows three)))

  pub tells_so : (what : KeptNode → Answer → Type 0) (r : Response) (answer : Answer)
      → Shows keys x.node r answer
      → ((k : Kept) → what (record { node = x.node; kept = k }) answer)
      → (status_said r ≡ 3 → ⊥) → Responds custody keys x (λ s. Tells s (what s)) r 0 x
  tells_so what r answer shows is other =
      none_done custody x keys (λ s. Tells s (what s)) r answer shows
      (λ k. record { told = is k; did_none = refl; same = refl }) other

  pub tells_text : IsRunning x.node.state
      → Responds custody keys x (λ s. Tells s (IsText s)) response.Text 0 x
  tells_text running =
      tells_so (λ s. IsText s) response.Text _ (Shows.text running) (λ k. IsText.running running)
      no_three

  pub tells_no_text : (fault : Fault) → NotRunning x.node.state fault
      → Responds custody keys x (λ s. Tells s (IsText s)) (response.Reply (Refused fault)) 0 x
  tells_no_text fault why =
      tells_so (λ s. IsText s) (response.Reply (Refused fault)) _ Shows.replied
      (λ k. IsText.stopped why)
      (refused_three fault (not_running x.node.state fault why))

  pub refuses_act : (act : Act) (fault : Fault) → fault ≢ KeeperFailed
      → GoesAlone custody x act 0 (Replies (Refused fault)) x
      → Responds custody keys x (λ s. Says answered (Begins x.node.number s act))
      (response.Reply (Refused fault)) 0 x
  refuses_act act fault other goes =
      replies_act x act (Refused fault) goes (as_before x.node)
      (λ e. let same : fault ≡ KeeperFailed = cc in absurd (other same))
