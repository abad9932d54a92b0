-- Lines that begin with the number of a node.
use Rattle.std.proofs.Common.{◌≡◌, ◌<◌, ◌≤◌, ◌-◌, ℕ, inl, inr, List, [], ◌∷◌, Bor, length, get_or, take, drop, map, refl, sym, subst, arith, rules}
use Rattle.std.proofs.lemmas.List.Elements.{All-tail}
use Rattle.fl_labels.specs.Text.{pid_text}
use Rattle.fl_labels.specs.Words.{IsNumber, NoComma}
use Rattle.fl_labels.specs.declared.pid.Pid.{Pid}
use Rattle.fl_jobs.specs.declared.job.Act.{Act}
use Rattle.fl_aliases.specs.Words.{Word}
use Rattle.fl_script.specs.Grammar.{Spells, SpellsRequest, TakesBlock}
use Rattle.fl_script.specs.declared.line.Line.{Line}
use Rattle.fl_script.specs.declared.line.Line.TheVariants.{Node as OfNode, Union, Audit, Aliases}
use Rattle.fl_script.specs.declared.request.Request.{Request}
use Rattle.fl_script.specs.laws.OneWord.{no_letter}
use Rattle.fl_script.specs.parts.Acts.{SpellsAct}
use Rattle.fl_script.proofs.OfProcess.{first_word, no_request}

module _ (node : ℕ) (word : Word) (is : IsNumber node word) where
  alone : (line : Line) → Spells line (word ∷ []) → ⊥
  alone (OfNode n request) s = search (rules, s.1)
  alone (Union n m) s = absurd s.1
  alone Audit s = no_letter node 97 _ word (omega arith) is s.0
  alone Aliases s = no_letter node 97 _ word (omega arith) is s.0

  -- a number with no words behind it spells no line
  pub no_words : (words : List (Bor Word)) → length words < 1 → (line : Line) → Spells line (word ∷ map (λ w. w.now) words) → ⊥
  no_words [] none line s = alone line s
  no_words (w ∷ words) none line s = absurd (omega (arith, none))

  -- behind a number stands what is asked of a node
  pub no_line : (words : List Word) → ((request : Request) → SpellsRequest request words → ⊥) → (line : Line) → Spells line (word ∷ words) → ⊥
  no_line words none (OfNode n request) s = none request s.1
  no_line words none (Union n m) s = no_letter node 117 _ word (omega arith) is s.0
  no_line words none Audit s = no_letter node 97 _ word (omega arith) is s.0
  no_line words none Aliases s = no_letter node 97 _ word (omega arith) is s.0

-- behind a verb and a process stands what the process does
pub no_act : (verb : Word) (rest : List (Bor Word)) (d : Bor Word) (pid : Pid) → 1 ≤ length rest
    → (get_or rest 0 d).now ≡ pid_text pid
    → ((q : Pid) (act : Act)
    → SpellsAct q act verb (map (λ w. w.now) (take (length rest - 1) (drop 1 rest))) → ⊥)
    → (request : Request) → SpellsRequest request (verb ∷ map (λ w. w.now) rest) → ⊥
no_act verb rest d pid some process none request asks =
    no_request verb pid (map (λ w. w.now) (take (length rest - 1) (drop 1 rest))) none request
    (subst (λ words. SpellsRequest request (verb ∷ words))
    (first_word rest d (pid_text pid) some process) asks)

-- what takes a block does so too behind one more word
block_more : (verb word : Word) (words : List Word) → TakesBlock verb words → TakesBlock verb (word ∷ words)
block_more verb word words h = record {
  is = elim h.is [
    | inl block ↦ inl block
    | inr tags ↦ inr (tags.0, λ plain. tags.1 (All-tail NoComma word words plain))
  ];
}

-- what takes a block behind a verb and a process does so behind the verb
pub block_of_act : (verb : Word) (rest : List (Bor Word)) → 1 ≤ length rest
    → TakesBlock verb (map (λ w. w.now) (take (length rest - 1) (drop 1 rest)))
    → TakesBlock verb (map (λ w. w.now) rest)
block_of_act verb [] some takes = absurd (omega (arith, some))
block_of_act verb (w ∷ rest) some takes =
    subst (TakesBlock verb) (sym (first_word (w ∷ rest) w w.now some refl))
    (block_more verb w.now (map (λ w. w.now) (take (length (w ∷ rest) - 1) rest)) takes)
