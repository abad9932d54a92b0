-- The lines of one machine, each by the words that spell it.
use Rattle.std.specs.Prelude.{◌≡◌, ◌<◌, ◌≤◌, ◌^◌, ◌⊎◌, ℕ, List, [], ◌∷◌, ◌++◌, length, codes}
use Rattle.std.specs.Fmt.{decimal}
use Rattle.fl_labels.specs.Text.{cap_text, pid_text}
use Rattle.fl_labels.specs.declared.cap.Cap.TheVariants.{Use}
use Rattle.fl_labels.specs.Words.{IsNumber}
use Rattle.fl_aliases.specs.Words.{Word}
use Rattle.fl_script.specs.Grammar.{Is, Never, Matches, HoldsBlock, job_forms, request_forms}
use Rattle.fl_script.specs.Words.{IsBytesWord}
use Rattle.fl_script.specs.declared.request.Request.TheVariants as requests
use Rattle.fl_machine_lines.specs.declared.asked.Asked.{Asked}
use Rattle.fl_machine_lines.specs.declared.asked.Asked.TheVariants.{Job, Begin, Receive, BeginReceive, Tell, Save, Publish, Cancel, Text, Check, Could, Missing, Explain}
use Rattle.fl_machine_lines.specs.declared.explaining.Explanation.{Explanation}
use Rattle.fl_machine_lines.specs.declared.explaining.Explanation.TheVariants.{Log, Why, WhyGroup, Who, Show, ShowProcess}
use Rattle.fl_machine_lines.specs.declared.line.MachineLine.{MachineLine}
use Rattle.fl_machine_lines.specs.declared.line.MachineLine.TheVariants.{Quiet, Bad, Echo, Audit, Asks}

-- the word is the decimal of a place in a list, a number from 0 to 4294967295
pub record IsPlace (place : ℕ) (word : Word) : Type 0 where
  pub in_range : place < 2 ^ 32
  pub written : word ≡ decimal place

-- the table of what is to be explained of a node, after its number
abbrev pub explanation_forms : Explanation → List (Word → Type 0)
explanation_forms (Log place) = Is (codes "log") ∷ IsPlace place ∷ []
explanation_forms (Why pid cap) = Is (codes "why") ∷ Is (pid_text pid) ∷ Is (cap_text cap) ∷ []
explanation_forms (WhyGroup group cap) =
    Is (codes "why") ∷ Is (cap_text (Use group)) ∷ Is (cap_text cap) ∷ []
explanation_forms (Who cap) = Is (codes "who") ∷ Is (cap_text cap) ∷ []
explanation_forms Show = Is (codes "show") ∷ []
explanation_forms (ShowProcess pid) = Is (codes "show") ∷ Is (pid_text pid) ∷ []

-- the table of what is asked of a machine's node, after its number: as in a script, but for what
-- is received, and for what is to be foretold or explained
abbrev pub asked_forms : Asked → List (Word → Type 0)
asked_forms (Job job) = job_forms job
asked_forms (Begin pid order) = request_forms (requests.Begin pid order)
asked_forms (Receive bytes) = Is (codes "receive") ∷ IsBytesWord bytes ∷ []
asked_forms (BeginReceive bytes) =
    Is (codes "begin") ∷ Is (codes "receive") ∷ IsBytesWord bytes ∷ []
asked_forms Tell = request_forms requests.Tell
asked_forms Save = request_forms requests.Save
asked_forms Publish = request_forms requests.Publish
asked_forms Cancel = request_forms requests.Cancel
asked_forms Text = request_forms requests.Text
asked_forms (Check bytes) = request_forms (requests.Check bytes)
asked_forms (Could job) = Is (codes "could") ∷ job_forms job
asked_forms (Missing job) = Is (codes "missing") ∷ job_forms job
asked_forms (Explain what) = explanation_forms what

-- the word is this one, which is not too long to come back
pub record IsEchoed (text : List ℕ) (word : Word) : Type 0 where
  pub same : word ≡ text
  pub short : length text ≤ 256

-- the table of the lines to the machine of this number
abbrev pub line_forms : ℕ → MachineLine → List (Word → Type 0)
line_forms number Quiet = Never ∷ []
line_forms number Bad = Never ∷ []
line_forms number (Echo word) = Is (codes "echo") ∷ IsEchoed word.now ∷ []
line_forms number Audit = Is (codes "audit") ∷ []
line_forms number (Asks asked) = IsNumber number ∷ asked_forms asked

-- the words spell the line to the machine of this number
abbrev pub Spells : ℕ → MachineLine → List Word → Type 0
Spells number line words = Matches (line_forms number line) words

-- the words ask this of the machine of this number
abbrev pub SpellsAsked : ℕ → Asked → List Word → Type 0
SpellsAsked number asked words = Spells number (Asks asked) words

-- the words bring bytes: one word behind `receive`, or behind `begin receive`
pub record BringsBytes (words : List Word) : Type 0 where
  pub node : Word
  pub verbs : List Word
  pub bytes : Word
  pub receives : (verbs ≡ codes "receive" ∷ []) ⊎ (verbs ≡ codes "begin" ∷ codes "receive" ∷ [])
  pub is : words ≡ node ∷ verbs ++ bytes ∷ []

-- the words behind `could` or `missing` hold what takes a block of memory
pub record ForetellsBlock (words : List Word) : Type 0 where
  pub node : Word
  pub verb : Word
  pub behind : List Word
  pub foretells : (verb ≡ codes "could") ⊎ (verb ≡ codes "missing")
  pub holds : HoldsBlock (node ∷ behind)
  pub is : words ≡ node ∷ verb ∷ behind

-- what the words hold takes a block of memory: as in a script, or they bring bytes, or the words of
-- what is to be foretold hold it
pub record TakesBlock (words : List Word) : Type 0 where
  pub is : HoldsBlock words ⊎ BringsBytes words ⊎ ForetellsBlock words
