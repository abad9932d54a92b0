-- Words of no tune.
use Rattle.std.proofs.Common.{List, [], ◌∷◌, Bor, get_or, map, codes, arith, rules}
use Rattle.fl_labels.specs.Text.{endpoint_text, pid_text}
use Rattle.fl_labels.specs.declared.endpoint.Endpoint.{Endpoint}
use Rattle.fl_labels.specs.declared.pid.Pid.{Pid}
use Rattle.fl_jobs.specs.declared.job.Act.{Act}
use Rattle.fl_jobs.specs.declared.job.GivenLabels.{GivenLabels}
use Rattle.fl_jobs.specs.declared.job.Job.{Job}
use Rattle.fl_jobs.specs.declared.job.Job.TheVariants.{By}
use Rattle.fl_aliases.specs.Words.{Word}
use Rattle.fl_script.specs.Grammar.{Is, SpellsJob}
use Rattle.fl_script.specs.Words.{IsLabelWord, AreGivenWords}
use Rattle.fl_script.specs.parts.Acts.{SpellsAct}
use Rattle.fl_script.specs.laws.JobKinds.{Kind, kind_of}
use Rattle.fl_script.specs.laws.JobKinds.Kind.{tune}
use Rattle.fl_script.proofs.WordAt.{word_at}

-- the forms of the words after the process that tunes
abbrev tune_forms : Endpoint → GivenLabels → List (Word → Type 0)
tune_forms endpoint given = Is (endpoint_text endpoint) ∷ IsLabelWord given.secrecy ∷ IsLabelWord given.integrity ∷ []

module _ (rest : List (Bor Word)) (a b : Bor Word)
    (none : (given : GivenLabels) → AreGivenWords given (get_or rest 1 a).now (get_or rest 2 b).now → ⊥) where
  only_tune : {job : Job} → Kind job → (first : Word) → SpellsJob job (codes "tune" ∷ first ∷ map (λ w. w.now) rest) → ⊥
  only_tune (tune p endpoint given) first s =
      let forms = tune_forms endpoint given in
      none given (record { secrecy = word_at forms rest 1 a (omega arith) s.1.1; integrity = word_at forms rest 2 b (omega arith) s.1.1 })
  only_tune k first s = absurd (search (rules, s.0))

  -- where the last words are of no labels, the words after `tune` spell nothing
  pub no_tune : (p : Pid) (act : Act) → SpellsAct p act (codes "tune") (map (λ w. w.now) rest) → ⊥
  no_tune p act s = only_tune (kind_of (By p act)) (pid_text p) s
