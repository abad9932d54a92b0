-- What a response says in a session, by what it is.
use Rattle.std.proofs.Common.{◌≡◌, ◌≢◌, ℕ, refl}
use Rattle.fl_jobs.specs.declared.answer.Reply.TheVariants.{Made, Opened}
use Rattle.fl_system.specs.declared.reply.Reply.TheVariants.{Job, Published, Refused}
use Rattle.fl_calls.specs.Answer.{shown as shown_of, shown_alone}
use Rattle.fl_calls.specs.declared.response.Response.{Response as Said}
use Rattle.fl_calls.specs.declared.response.Response.TheVariants as calls
use Rattle.fl_nodes.specs.Over.{WorldOver}
use Rattle.fl_turns.specs.Answer.{status_of}
use Rattle.fl_turns.specs.Naming.{made_by}
use Rattle.fl_turns.specs.Over.{SessionOver}
use Rattle.fl_cluster.specs.Shown.{shown, status_said, made_said}
use Rattle.fl_cluster.specs.declared.response.Response.{Response}
use Rattle.fl_cluster.specs.declared.response.Response.TheVariants as response

module _ {K M : Type 0} (session : SessionOver K M) where
  -- its status is that of what it says
  pub same_status : (r : Response) → status_of (shown session r) ≡ status_said r
  same_status (response.Said (calls.Reply (Refused fault))) = refl
  same_status (response.Said (calls.Dropped fault)) = refl
  same_status (response.Said calls.Unknown) = refl
  same_status other = refl

  -- and so is what it made
  pub same_made : (r : Response) → made_by (shown session r) ≡ made_said r
  same_made (response.Said (calls.Reply (Job (Made pid)))) = refl
  same_made (response.Said (calls.Reply (Job (Opened endpoint)))) = refl
  same_made (response.Said (calls.Reply (Published name))) = refl
  same_made other = refl

-- what is no node's text is said as it is said alone
pub shown_so : {K : Type 0} (over : WorldOver K) (what : Said)
    → ((number : ℕ) → what ≢ calls.Text number) → shown_of over what ≡ shown_alone what
shown_so over (calls.Reply reply) no_text = refl
shown_so over (calls.Dropped fault) no_text = refl
shown_so over (calls.Text number) no_text = absurd (no_text number refl)
shown_so over (calls.Union registry) no_text = refl
shown_so over (calls.Checked check) no_text = refl
shown_so over (calls.BadPacket place) no_text = refl
shown_so over (calls.Admitted count) no_text = refl
shown_so over calls.Unknown no_text = refl
