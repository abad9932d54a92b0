-- A line that is none of the machine, as a turn of the session.
use Rattle.std.proofs.Common.{◌≡◌, ◌≤◌, refl, sym, subst, codes, ℕ, Bool, false, List, Option}
use Rattle.fl_replies.specs.ReplyText.{count_text}
use Rattle.fl_seal.specs.declared.seal.Key.{Key}
use Rattle.fl_sink.specs.Sink.{Cuts, Passes}
use Rattle.fl_store.specs.Custody.{Custody}
use Rattle.fl_stream.specs.Turns.{AnswerCuts, AnswerPasses}
use Rattle.fl_node.specs.Over.{NodeOver}
use Rattle.fl_machine_lines.specs.Reading.{IsReading}
use Rattle.fl_machine_lines.specs.declared.line.MachineLine.TheVariants.{Bad}
use Rattle.fl_machine_turns.specs.Over.{MachineTurns, SessionOver}
use Rattle.fl_machine_turns.specs.Settings.{settings_of}
use Rattle.fl_machine_turns.specs.Turn.{most_counted}
use Rattle.fl_machine.specs.parts.Hearing.{Hears}
use Rattle.fl_machine.specs.parts.Responding.{Responds}
use Rattle.fl_machine.specs.declared.response.Response.TheVariants as response
use Rattle.fl_machine.proofs.Hearing.{hears_bad}
use Rattle.fl_machine.proofs.Texts.{unknown_text}
use Rattle.fl_machine.proofs.Turning.{bad_changes, cuts_answer, passes_answer}

module _ {K : Type 0} (custody : Custody K) (node : NodeOver K) (keys : List Key) (guards : Bool)
    (admitted : ℕ) (over : Bool) (live : over ≡ false) (fits : admitted ≤ most_counted)
    (bytes : List ℕ) (says : IsReading node.node.number bytes Bad) where
  abbrev pub session : SessionOver K
  session = record {
    settings = settings_of node.node.number keys guards;
    node = node;
    admitted = admitted;
    over = over;
  }

  responds : Responds custody keys node
      (λ s. Hears (settings_of node.node.number keys guards)
      (record { s = s; admitted = admitted; over = false }) bytes) response.Unknown 0 node
  responds = hears_bad custody node keys guards admitted bytes says

  pub bad_passes : {before after : Option (List ℕ)} {pending rest : List ℕ} (number : ℕ)
      → Passes before after pending (count_text (codes "refused F19 ") number) rest
      → AnswerPasses (MachineTurns custody) number session bytes 1 session before after pending rest
  bad_passes {before} {after} {pending} {rest} number passed =
      passes_answer custody session session bytes response.Unknown 0
      (bad_changes session live fits) responds number 1 refl
      (subst (λ text. Passes before after pending text rest)
      (sym (unknown_text keys node.node number responds.answer responds.shows)) passed)

  pub bad_cuts : {before after : Option (List ℕ)} {pending : List ℕ} (number : ℕ)
      → Cuts before after pending (count_text (codes "refused F19 ") number)
      → AnswerCuts (MachineTurns custody) number session bytes session before after pending
  bad_cuts {before} {after} {pending} number cut =
      cuts_answer custody session session bytes response.Unknown 0
      (bad_changes session live fits) responds number
      (subst (λ text. Cuts before after pending text)
      (sym (unknown_text keys node.node number responds.answer responds.shows)) cut)
