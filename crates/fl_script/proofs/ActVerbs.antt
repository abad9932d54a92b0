-- The verbs of acts that are no orders.
use Rattle.std.proofs.Common.{arith, ◌≡◌, ◌≤◌, ◌⊎◌, inl, inr, ⊎_elim, Result, List, codes, length, refl, sym, subst}
use Rattle.fl_labels.specs.declared.pid.Pid.{Pid}
use Rattle.fl_jobs.specs.declared.job.Order.{Order}
use Rattle.fl_jobs.specs.declared.job.Act.{Act}
use Rattle.fl_jobs.specs.declared.job.Act.TheVariants.{Order as Orders, Relabel, Ask, Spawn, Exit, Drop, Enter, Emit, Mail as Mailbox}
use Rattle.fl_jobs.specs.declared.job.Mail.TheVariants.{Open, Tune, Close, Send, Take}
use Rattle.fl_aliases.specs.Words.{Word}
use Rattle.fl_script.specs.parts.Acts.{SpellsAct, SpellsOrders}
use Rattle.fl_script.specs.parts.Reads.{Reads}
use Rattle.fl_script.specs.declared.unread.Unread.{Unread}

-- the verb of an act that is no order
abbrev pub IsOfAct : Word → Type 0
IsOfAct verb = (verb ≡ codes "ask") ⊎ (verb ≡ codes "label") ⊎ (verb ≡ codes "send") ⊎ (verb ≡ codes "take") ⊎ (verb ≡ codes "emit") ⊎ (verb ≡ codes "spawn") ⊎ (verb ≡ codes "exit") ⊎ (verb ≡ codes "drop") ⊎ (verb ≡ codes "open") ⊎ (verb ≡ codes "tune") ⊎ (verb ≡ codes "close") ⊎ (verb ≡ codes "enter")

of_act : (p : Pid) (act : Act) (verb : Word) (words : List Word) → SpellsAct p act verb words → ((o : Order) × (act ≡ Orders o)) ⊎ IsOfAct verb
of_act p (Orders o) verb words s = inl (o, refl)
of_act p (Ask cap) verb words s = inr (inl s.0)
of_act p (Relabel side label) verb words s = inr (inr (inl s.0))
of_act p (Mailbox (Send from receiver to message)) verb words s = inr (inr (inr (inl s.0)))
of_act p (Mailbox Take) verb words s = inr (inr (inr (inr (inl s.0))))
of_act p (Emit bytes) verb words s = inr (inr (inr (inr (inr (inl s.0)))))
of_act p (Spawn caps) verb words s = inr (inr (inr (inr (inr (inr (inl s.0))))))
of_act p Exit verb words s = inr (inr (inr (inr (inr (inr (inr (inl s.0)))))))
of_act p (Drop cap) verb words s = inr (inr (inr (inr (inr (inr (inr (inr (inl s.0))))))))
of_act p (Mailbox (Open mode given)) verb words s = inr (inr (inr (inr (inr (inr (inr (inr (inr (inl s.0)))))))))
of_act p (Mailbox (Tune endpoint given)) verb words s = inr (inr (inr (inr (inr (inr (inr (inr (inr (inr (inl s.0))))))))))
of_act p (Mailbox (Close endpoint)) verb words s = inr (inr (inr (inr (inr (inr (inr (inr (inr (inr (inr (inl s.0)))))))))))
of_act p (Enter login secret) verb words s = inr (inr (inr (inr (inr (inr (inr (inr (inr (inr (inr (inr s.0)))))))))))

-- words whose verb is none of these spell orders alone
pub orders_alone : (verb : Word) (words : List Word) → (IsOfAct verb → ⊥) → SpellsOrders verb words
orders_alone verb words none p act s = ⊎_elim (λ order. order) (λ is. absurd (none is)) (of_act p act verb words s)

-- what was read behind the text of a verb was read behind the word that is this text
pub of_text : (r : Result Act Unread) (verb text : Word) (words : List Word) → verb ≡ text
    → ((p : Pid) → Reads r (λ a. SpellsAct p a text words)) → (p : Pid) → Reads r (λ a. SpellsAct p a verb words)
of_text r verb text words same read p = subst (λ word. Reads r (λ a. SpellsAct p a word words)) (sym same) (read p)

pub at_most_five : (verb : Word) → IsOfAct verb → length verb ≤ 5
at_most_five verb is = grind (arith)
