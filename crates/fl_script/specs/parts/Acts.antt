-- The words of an act.
use Rattle.std.specs.Prelude.{◌≡◌, List, ◌∷◌}
use Rattle.fl_labels.specs.Text.{pid_text}
use Rattle.fl_labels.specs.declared.pid.Pid.{Pid}
use Rattle.fl_jobs.specs.declared.job.Order.{Order}
use Rattle.fl_jobs.specs.declared.job.Act.{Act}
use Rattle.fl_jobs.specs.declared.job.Act.TheVariants.{Order as Orders}
use Rattle.fl_jobs.specs.declared.job.Job.TheVariants.{By}
use Rattle.fl_aliases.specs.Words.{Word}
use Rattle.fl_script.specs.Grammar.{SpellsJob}

-- the verb, and the words behind the process, spell what the process does
abbrev pub SpellsAct : Pid → Act → Word → List Word → Type 0
SpellsAct p act verb words = SpellsJob (By p act) (verb ∷ pid_text p ∷ words)

-- all that the verb, and the words behind the process, may spell is orders
abbrev pub SpellsOrders : Word → List Word → Type 0
SpellsOrders verb words = (p : Pid) (act : Act) → SpellsAct p act verb words → (o : Order) × (act ≡ Orders o)

-- the first of the words, if there is one, is no process
abbrev pub NoPidFirst : List Word → Type 0
NoPidFirst words = (p : Pid) (more : List Word) → words ≡ pid_text p ∷ more → ⊥
