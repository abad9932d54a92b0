-- The lines of the script, each by the words that spell it.
use Rattle.std.specs.Prelude.{◌≡◌, ◌⊎◌, ℕ, Bool, true, false, List, [], ◌∷◌, codes}
use Rattle.std.specs.List.{All}
use Rattle.fl_labels.specs.Text.{name_text, pid_text, cap_text, endpoint_text}
use Rattle.fl_labels.specs.Words.{IsNumber, NoComma}
use Rattle.fl_jobs.specs.declared.job.Order.TheVariants.{Tag, Group, Put, MakeLogin, OpenGroup}
use Rattle.fl_jobs.specs.declared.job.Act.TheVariants.{Order as Orders, Relabel, Ask, Spawn, Exit, Drop, Enter, Emit, Mail as Mailbox}
use Rattle.fl_jobs.specs.declared.job.Mail.TheVariants.{Open, Tune, Close, Send, Take}
use Rattle.fl_jobs.specs.declared.job.Job.{Job}
use Rattle.fl_jobs.specs.declared.job.Job.TheVariants.{Proc, By, Member, Arrive}
use Rattle.fl_aliases.specs.Words.{Word}
use Rattle.fl_ops.specs.PolicyText.{policy_text}
use Rattle.fl_script.specs.Words.{side_text, mode_text, IsLabelWord, IsCapsWord, IsSecretWord, IsBytesWord}
use Rattle.fl_script.specs.declared.line.Line.{Line}
use Rattle.fl_script.specs.declared.line.Line.TheVariants.{Node as OfNode, Union, Audit, Aliases}
use Rattle.fl_script.specs.declared.request.Request.{Request}
use Rattle.fl_script.specs.declared.request.Request.TheVariants.{Job as OfJob, Begin, Deliver, BeginDeliver, Tell, Save, Publish, Cancel, Restart, Text, Check}

-- the word is this one
abbrev pub Is : List ℕ → Word → Type 0
Is text word = word ≡ text

-- no word is of this form
abbrev pub Never : Word → Type 0
Never word = ⊥

-- each word is of its form, and there are no others
abbrev pub Matches : List (Word → Type 0) → List Word → Type 0
Matches [] [] = Unit {0}
Matches (p ∷ ps) (word ∷ words) = p word × Matches ps words
Matches [] (word ∷ words) = ⊥
Matches (p ∷ ps) [] = ⊥

-- the table of the jobs: the forms of the words of each, after the node
abbrev pub job_forms : Job → List (Word → Type 0)
job_forms Proc = Is (codes "proc") ∷ []
job_forms (By p (Orders (Tag policy))) = Is (codes "tag") ∷ Is (pid_text p) ∷ Is (policy_text policy) ∷ []
job_forms (By p (Orders Group)) = Is (codes "group") ∷ Is (pid_text p) ∷ []
job_forms (By p (Orders (Put group cap))) = Is (codes "put") ∷ Is (pid_text p) ∷ Is (name_text group) ∷ Is (cap_text cap) ∷ []
job_forms (By p (Orders (MakeLogin cap secret))) = Is (codes "make-login") ∷ Is (pid_text p) ∷ Is (cap_text cap) ∷ IsSecretWord secret ∷ []
job_forms (By p (Orders (OpenGroup group))) = Is (codes "open-group") ∷ Is (pid_text p) ∷ Is (name_text group) ∷ []
job_forms (By p (Relabel side label)) = Is (codes "label") ∷ Is (pid_text p) ∷ Is (side_text side) ∷ IsLabelWord label ∷ []
job_forms (By p (Ask cap)) = Is (codes "ask") ∷ Is (pid_text p) ∷ Is (cap_text cap) ∷ []
job_forms (By p (Spawn caps)) = Is (codes "spawn") ∷ Is (pid_text p) ∷ IsCapsWord caps ∷ []
job_forms (By p Exit) = Is (codes "exit") ∷ Is (pid_text p) ∷ []
job_forms (By p (Drop cap)) = Is (codes "drop") ∷ Is (pid_text p) ∷ Is (cap_text cap) ∷ []
job_forms (By p (Enter login secret)) = Is (codes "enter") ∷ Is (pid_text p) ∷ Is (name_text login) ∷ IsSecretWord secret ∷ []
job_forms (By p (Emit bytes)) = Is (codes "emit") ∷ Is (pid_text p) ∷ IsBytesWord bytes ∷ []
job_forms (By p (Mailbox (Open mode given))) = Is (codes "open") ∷ Is (pid_text p) ∷ Is (mode_text mode) ∷ IsLabelWord given.secrecy ∷ IsLabelWord given.integrity ∷ []
job_forms (By p (Mailbox (Tune endpoint given))) = Is (codes "tune") ∷ Is (pid_text p) ∷ Is (endpoint_text endpoint) ∷ IsLabelWord given.secrecy ∷ IsLabelWord given.integrity ∷ []
job_forms (By p (Mailbox (Close endpoint))) = Is (codes "close") ∷ Is (pid_text p) ∷ Is (endpoint_text endpoint) ∷ []
job_forms (By p (Mailbox (Send from receiver to message))) = Is (codes "send") ∷ Is (pid_text p) ∷ Is (endpoint_text from) ∷ Is (pid_text receiver) ∷ Is (endpoint_text to) ∷ IsCapsWord message.caps ∷ IsBytesWord message.payload ∷ []
job_forms (By p (Mailbox Take)) = Is (codes "take") ∷ Is (pid_text p) ∷ []
job_forms (Member root cap) = Is (codes "member") ∷ Is (cap_text root) ∷ Is (cap_text cap) ∷ []
job_forms (Arrive packet) = Never ∷ []

-- the forms of the words that say whether something is to be kept
abbrev pub kept_forms : Bool → List (Word → Type 0)
kept_forms true = Is (codes "kept") ∷ []
kept_forms false = []

-- the table of what is asked of a node, after its number
abbrev pub request_forms : Request → List (Word → Type 0)
request_forms (OfJob job) = job_forms job
request_forms (Begin p order) = Is (codes "begin") ∷ job_forms (By p (Orders order))
request_forms (Deliver packet) = Is (codes "deliver") ∷ IsNumber packet ∷ []
request_forms (BeginDeliver packet) = Is (codes "begin") ∷ Is (codes "deliver") ∷ IsNumber packet ∷ []
request_forms Tell = Is (codes "tell") ∷ []
request_forms Save = Is (codes "save") ∷ []
request_forms Publish = Is (codes "publish") ∷ []
request_forms Cancel = Is (codes "cancel") ∷ []
request_forms (Restart kept) = Is (codes "restart") ∷ kept_forms kept
request_forms Text = Is (codes "text") ∷ []
request_forms (Check bytes) = Is (codes "check") ∷ IsBytesWord bytes ∷ []

-- the table of the lines
abbrev pub forms : Line → List (Word → Type 0)
forms (OfNode n request) = IsNumber n ∷ request_forms request
forms (Union n m) = Is (codes "union") ∷ IsNumber n ∷ IsNumber m ∷ []
forms Audit = Is (codes "audit") ∷ []
forms Aliases = Is (codes "aliases") ∷ []

-- the words after the node spell the job
abbrev pub SpellsJob : Job → List Word → Type 0
SpellsJob job words = Matches (job_forms job) words

-- the words after the node spell what is asked of it
abbrev pub SpellsRequest : Request → List Word → Type 0
SpellsRequest request words = Matches (request_forms request) words

-- the words spell the line
abbrev pub Spells : Line → List Word → Type 0
Spells line words = Matches (forms line) words

-- the verb of a line that holds capabilities, bytes or the labels of an endpoint: these stand in a
-- block of memory, however few they are
pub record IsBlockVerb (verb : Word) : Type 0 where
  pub is : (verb ≡ codes "spawn") ⊎ (verb ≡ codes "emit") ⊎ (verb ≡ codes "open") ⊎ (verb ≡ codes "tune") ⊎ (verb ≡ codes "send") ⊎ (verb ≡ codes "check")

-- what the verb and the words behind it hold takes a block, as the tags of a label do where a comma
-- parts them
pub record TakesBlock (verb : Word) (words : List Word) : Type 0 where
  pub is : IsBlockVerb verb ⊎ ((verb ≡ codes "label") × (¬ All NoComma words))

-- what the words behind the number of a node hold takes a block
abbrev pub HoldsBlock : List Word → Type 0
HoldsBlock [] = ⊥
HoldsBlock (word ∷ []) = ⊥
HoldsBlock (node ∷ verb ∷ words) = TakesBlock verb words

-- the nodes that the line names, in their order
abbrev pub nodes_of : Line → List ℕ
nodes_of (OfNode node request) = node ∷ []
nodes_of (Union first second) = first ∷ second ∷ []
nodes_of Audit = []
nodes_of Aliases = []
