-- What a script's requests ask of a machine's node, and what no script asks of one.
use Rattle.std.specs.Prelude.{◌≡◌, ℕ, List, Option, None, Some}
use Rattle.fl_aliases.specs.Words.{Word}
use Rattle.fl_jobs.specs.declared.job.Job.{Job as AnyJob}
use Rattle.fl_script.specs.Grammar.{Spells}
use Rattle.fl_script.specs.declared.line.Line.TheVariants.{Node as OfNode}
use Rattle.fl_script.specs.declared.request.Request.{Request}
use Rattle.fl_script.specs.declared.request.Request.TheVariants as requests
use Rattle.fl_machine_lines.specs.declared.asked.Asked.{Asked}
use Rattle.fl_machine_lines.specs.declared.asked.Asked.TheVariants.{Job, Begin, Tell, Save, Publish, Cancel, Text, Check, Could, Missing, Explain}
use Rattle.fl_machine_lines.specs.declared.explaining.Explanation.{Explanation}
use Rattle.fl_machine_lines.specs.Grammar.{SpellsAsked}

-- what the request asks, where a machine's node is asked it too
abbrev pub asked_of : Request → Option Asked
asked_of (requests.Job job) = Some (Job job)
asked_of (requests.Begin pid order) = Some (Begin pid order)
asked_of (requests.Deliver packet) = None
asked_of (requests.BeginDeliver packet) = None
asked_of requests.Tell = Some Tell
asked_of requests.Save = Some Save
asked_of requests.Publish = Some Publish
asked_of requests.Cancel = Some Cancel
asked_of (requests.Restart kept) = None
asked_of requests.Text = Some Text
asked_of (requests.Check bytes) = Some (Check bytes)

-- the words are a line of a script that asks this of the node of the number
pub record AsksAsScript (number : ℕ) (asked : Asked) (words : List Word) : Type 0 where
  pub request : Request
  pub alike : asked_of request ≡ Some asked
  pub spelled : Spells (OfNode number request) words

-- no script asks this of a node, and it brings nothing
pub data IsOwn : Asked → Type 0 where
  could : (job : AnyJob) → IsOwn (Could job)
  missing : (job : AnyJob) → IsOwn (Missing job)
  explain : (what : Explanation) → IsOwn (Explain what)

-- the words ask this of the machine of this number, and no script asks it
pub record AsksOwn (number : ℕ) (asked : Asked) (words : List Word) : Type 0 where
  pub own : IsOwn asked
  pub spelled : SpellsAsked number asked words

-- the words ask the machine of this number to explain something
pub record ExplainsOf (number : ℕ) (asked : Asked) (words : List Word) : Type 0 where
  pub what : Explanation
  pub alike : Explain what ≡ asked
  pub spelled : SpellsAsked number (Explain what) words
