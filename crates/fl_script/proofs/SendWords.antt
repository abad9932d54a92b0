-- Words of no send.
use Rattle.std.proofs.Common.{◌≡◌, List, [], ◌∷◌, Bor, get_or, map, codes, arith, rules}
use Rattle.fl_labels.specs.Text.{endpoint_text, pid_text}
use Rattle.fl_labels.specs.declared.endpoint.Endpoint.{Endpoint}
use Rattle.fl_labels.specs.declared.pid.Pid.{Pid}
use Rattle.fl_jobs.specs.declared.job.Act.{Act}
use Rattle.fl_jobs.specs.declared.job.Job.{Job}
use Rattle.fl_jobs.specs.declared.job.Job.TheVariants.{By}
use Rattle.fl_message.specs.declared.message.Message.{Message}
use Rattle.fl_aliases.specs.Words.{Word}
use Rattle.fl_script.specs.Grammar.{Is, Matches, SpellsJob}
use Rattle.fl_script.specs.Words.{IsCapsWord, IsBytesWord, AreMessageWords}
use Rattle.fl_script.specs.parts.Acts.{SpellsAct}
use Rattle.fl_script.specs.laws.JobKinds.{Kind, kind_of}
use Rattle.fl_script.specs.laws.JobKinds.Kind.{send}
use Rattle.fl_script.proofs.WordAt.{word_at}

-- the forms of the words after the process that sends
abbrev send_forms : Endpoint → Pid → Endpoint → Message → List (Word → Type 0)
send_forms from receiver to message = Is (endpoint_text from) ∷ Is (pid_text receiver) ∷ Is (endpoint_text to) ∷ IsCapsWord message.caps ∷ IsBytesWord message.payload ∷ []

module _ (rest : List (Bor Word)) where
  -- only a send is spelled by `send`
  only_send : {job : Job} → Kind job → (first : Word) → SpellsJob job (codes "send" ∷ first ∷ map (λ w. w.now) rest)
      → ((from : Endpoint) (receiver : Pid) (to : Endpoint) (message : Message) → Matches (send_forms from receiver to message) (map (λ w. w.now) rest) → ⊥) → ⊥
  only_send (send p from receiver to message) first s none = none from receiver to message s.1.1
  only_send k first s none = absurd (search (rules, s.0))

  -- the words of the ends are of none
  pub no_ends : (a b c : Bor Word) → ((from : Endpoint) (receiver : Pid) (to : Endpoint) → ((get_or rest 0 a).now ≡ endpoint_text from) × ((get_or rest 1 b).now ≡ pid_text receiver) × ((get_or rest 2 c).now ≡ endpoint_text to) → ⊥)
      → (p : Pid) (act : Act) → SpellsAct p act (codes "send") (map (λ w. w.now) rest) → ⊥
  no_ends a b c none p act s = only_send (kind_of (By p act)) (pid_text p) s (λ from receiver to message m.
      let at = send_forms from receiver to message in
      none from receiver to (word_at at rest 0 a (omega arith) m, word_at at rest 1 b (omega arith) m, word_at at rest 2 c (omega arith) m))

  -- the last two words are of no message
  pub no_message : (a b : Bor Word) → ((message : Message) → AreMessageWords message (get_or rest 3 a).now (get_or rest 4 b).now → ⊥)
      → (p : Pid) (act : Act) → SpellsAct p act (codes "send") (map (λ w. w.now) rest) → ⊥
  no_message a b none p act s = only_send (kind_of (By p act)) (pid_text p) s (λ from receiver to message m.
      let at = send_forms from receiver to message in
      none message (record { caps = word_at at rest 3 a (omega arith) m; bytes = word_at at rest 4 b (omega arith) m }))
