-- Words of no spawn.
use Rattle.std.proofs.Common.{List, [], ◌∷◌, Bor, get_or, map, codes, arith, rules}
use Rattle.fl_labels.specs.Cap.{cap_cmp}
use Rattle.fl_labels.specs.SetBy.{SetBy}
use Rattle.fl_labels.specs.Text.{pid_text}
use Rattle.fl_labels.specs.declared.pid.Pid.{Pid}
use Rattle.fl_jobs.specs.declared.job.Act.{Act}
use Rattle.fl_jobs.specs.declared.job.Job.{Job}
use Rattle.fl_jobs.specs.declared.job.Job.TheVariants.{By}
use Rattle.fl_aliases.specs.Words.{Word}
use Rattle.fl_script.specs.Grammar.{SpellsJob}
use Rattle.fl_script.specs.Words.{IsCapsWord}
use Rattle.fl_script.specs.parts.Acts.{SpellsAct}
use Rattle.fl_script.specs.laws.JobKinds.{Kind, kind_of}
use Rattle.fl_script.specs.laws.JobKinds.Kind.{spawn}
use Rattle.fl_script.proofs.WordAt.{word_at}

-- only a spawn is spelled by `spawn`, and its last word lists capabilities
last_lists : {job : Job} → Kind job → (first : Word) (rest : List (Bor Word)) (other : Bor Word) → SpellsJob job (codes "spawn" ∷ first ∷ map (λ w. w.now) rest) → ((caps : SetBy cap_cmp) → IsCapsWord caps (get_or rest 0 other).now → ⊥) → ⊥
last_lists (spawn p caps) first rest other s none = none caps (word_at (IsCapsWord caps ∷ []) rest 0 other (omega arith) s.1.1)
last_lists k first rest other s none = absurd (search (rules, s.0))

-- where the last word lists no capabilities, the words after `spawn` spell nothing
pub no_spawn : (rest : List (Bor Word)) (other : Bor Word) → ((caps : SetBy cap_cmp) → IsCapsWord caps (get_or rest 0 other).now → ⊥) → (p : Pid) (act : Act) → SpellsAct p act (codes "spawn") (map (λ w. w.now) rest) → ⊥
no_spawn rest other none p act s = last_lists (kind_of (By p act)) (pid_text p) rest other s none
