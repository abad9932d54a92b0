-- What the bytes of a line say.
use Rattle.std.specs.Prelude.{◌≡◌, ◌≤◌, ◌<◌, ◌⊎◌, ℕ, Bool, true, false, List, [], ◌∷◌, ◌++◌, Option, None, Some, length, not, ◌==◌, codes, slice_get}
use Rattle.std.specs.List.{find, All, AllZip}
use Rattle.std.specs.Str.{IsUtf8}
use Rattle.fl_aliases.specs.Alias.{IsAlias, alias_text}
use Rattle.fl_aliases.specs.Expansion.{Expands, NoDollar}
use Rattle.fl_aliases.specs.Table.{Table, target_of}
use Rattle.fl_jobs.specs.declared.job.Act.{Act}
use Rattle.fl_jobs.specs.declared.job.Act.TheVariants.{Order, Relabel, Ask, Spawn, Exit, Drop, Enter, Emit, Mail as Mailbox}
use Rattle.fl_jobs.specs.declared.job.Mail.{Mail}
use Rattle.fl_jobs.specs.declared.job.Mail.TheVariants.{Open, Tune, Close, Send, Take}
use Rattle.fl_jobs.specs.declared.job.Job.{Job}
use Rattle.fl_jobs.specs.declared.job.Job.TheVariants.{Proc, By, Member, Arrive}
use Rattle.fl_aliases.specs.Words.{Word, words_of}
use Rattle.fl_script.specs.Grammar.{Spells, HoldsBlock}
use Rattle.fl_script.specs.declared.line.Line.{Line}
use Rattle.fl_script.specs.declared.line.Line.TheVariants.{Node as OfNode, Union, Audit, Aliases}
use Rattle.fl_script.specs.declared.request.Request.{Request}
use Rattle.fl_script.specs.declared.request.Request.TheVariants.{Job as OfJob, Begin, Deliver, BeginDeliver, Tell, Save, Publish, Cancel, Restart, Text, Check}
use Rattle.fl_script.specs.declared.reading.Reading.{Reading}
use Rattle.fl_script.specs.declared.reading.Reading.TheVariants.{Quiet, Bad, Means}

-- the first byte that is no space
abbrev pub first_mark : List ℕ → Option ℕ
first_mark bytes = find (λ b. not (b == 32)) bytes

-- after its first spaces the line is empty, or begins with `#`
pub record IsQuiet (bytes : List ℕ) : Type 0 where
  pub is : (first_mark bytes ≡ None) ⊎ (first_mark bytes ≡ Some 35)

-- the bytes are a text that is not too long
pub record IsText (bytes : List ℕ) : Type 0 where
  pub short : length bytes ≤ 20000
  pub utf8 : IsUtf8 bytes

-- the line asks for an answer, and its bytes are a text
pub record IsAsking (bytes : List ℕ) : Type 0 where
  pub loud : ¬ IsQuiet bytes
  pub text : IsText bytes

-- an alias can stand for the endpoint that is made
abbrev pub mail_makes : Mail → Bool
mail_makes (Open mode given) = true
mail_makes (Tune endpoint given) = false
mail_makes (Close endpoint) = false
mail_makes (Send from receiver to message) = false
mail_makes Take = false

-- an alias can stand for what the act makes
abbrev pub act_makes : Act → Bool
act_makes (Order order) = true
act_makes (Relabel side label) = false
act_makes (Ask cap) = false
act_makes (Spawn caps) = true
act_makes Exit = false
act_makes (Drop cap) = false
act_makes (Enter login secret) = false
act_makes (Emit bytes) = false
act_makes (Mailbox mail) = mail_makes mail

-- and for what the job makes
abbrev pub job_makes : Job → Bool
job_makes Proc = true
job_makes (By p act) = act_makes act
job_makes (Member root cap) = false
job_makes (Arrive packet) = false

-- and for what the request makes
abbrev pub request_makes : Request → Bool
request_makes (OfJob job) = job_makes job
request_makes (Begin p order) = false
request_makes (Deliver packet) = false
request_makes (BeginDeliver packet) = false
request_makes Tell = false
request_makes Save = false
request_makes Publish = false
request_makes Cancel = false
request_makes (Restart kept) = false
request_makes Text = false
request_makes (Check bytes) = false

-- and for what the line makes
abbrev pub makes : Line → Bool
makes (OfNode n request) = request_makes request
makes (Union n m) = false
makes Audit = false
makes Aliases = false

-- with each alias in them replaced, the words spell the line
pub record SpellsReplaced (table : Table) (line : Line) (words : List Word) : Type 0 where
  pub replaced : List Word
  pub each : AllZip (Expands table) words replaced
  pub spelled : Spells line replaced

-- the words are these, and then `as $x`
pub record EndsInAlias (front : List Word) (alias : List ℕ) (words : List Word) : Type 0 where
  pub split : words ≡ front ++ codes "as" ∷ alias_text alias ∷ []
  pub is_alias : IsAlias alias

-- the words end in `as $x`, an alias for what the line makes that the words before spell, and there is room for one
pub record SpellsNamed (table : Table) (line : Line) (alias : List ℕ) (words : List Word) : Type 0 where
  pub front : List Word
  pub split : words ≡ front ++ codes "as" ∷ alias_text alias ∷ []
  pub is_alias : IsAlias alias
  pub made : makes line ≡ true
  pub room : length table < 1024
  pub spelled : SpellsReplaced table line front

-- the words say this line, and which alias is to stand for what it makes, if one is
abbrev pub WordsSay : Table → Line → Option (List ℕ) → List Word → Type 0
WordsSay table line None words = SpellsReplaced table line words
WordsSay table line (Some alias) words = SpellsNamed table line alias words

-- the line asks for an answer, and is no line of the script
pub record IsBad (table : Table) (bytes : List ℕ) : Type 0 where
  pub loud : ¬ IsQuiet bytes
  pub says_none : IsText bytes → (line : Line) (alias : Option (List ℕ)) → WordsSay table line alias (words_of bytes) → ⊥

-- the words of the bytes say the line
pub record IsMeaning (table : Table) (bytes : List ℕ) (line : Line) (alias : Option (List ℕ)) : Type 0 where
  pub asking : IsAsking bytes
  pub said : WordsSay table line alias (words_of bytes)

-- the bytes say this where the aliases of the table are set
abbrev pub IsReading : Table → List ℕ → Reading → Type 0
IsReading table bytes Quiet = IsQuiet bytes
IsReading table bytes Bad = IsBad table bytes
IsReading table bytes (Means line alias) = IsMeaning table bytes line alias

-- an alias is replaced in the words: one is among them, and among those before `as $x` where they
-- end so
pub record ReplacesAlias (words : List Word) : Type 0 where
  pub anywhere : ¬ All NoDollar words
  pub before : (front : List Word) (alias : List ℕ) → EndsInAlias front alias words → ¬ All NoDollar front

-- reading the words takes memory: an alias is replaced in them, or they hold what takes a block
pub record WordsTakeMemory (words : List Word) : Type 0 where
  pub is : ReplacesAlias words ⊎ HoldsBlock words

-- reading the line takes memory: it asks for an answer, and reading its words does
pub record ReadingTakesMemory (bytes : List ℕ) : Type 0 where
  pub asking : IsAsking bytes
  pub takes : WordsTakeMemory (words_of bytes)

-- the alias of the line takes memory: it is to stand for what the line makes, and is not set yet
pub record SettingTakesMemory (table : Table) (bytes : List ℕ) : Type 0 where
  pub line : Line
  pub alias : List ℕ
  pub says : IsMeaning table bytes line (Some alias)
  pub is_new : target_of table alias ≡ None

-- there are no words, or the first begins with `#`
abbrev pub SaysNothing : List (List ℕ) → Type 0
SaysNothing [] = Unit {0}
SaysNothing (word ∷ words) = slice_get word 0 ≡ Some 35
