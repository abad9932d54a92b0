-- Words with a process behind the verb.
use Rattle.std.proofs.Common.{◌≡◌, ◌≤◌, ◌-◌, ◌++◌, ℕ, true, false, true≢false, List, [], ◌∷◌, Bor, length, take, drop, get_or, map, ap, sym, subst, ◌∙◌, refl, arith}
use Rattle.std.proofs.Math.Seq.{take-length}
use Rattle.std.specs.Str.Parse.{AllDigits}
use Rattle.std.proofs.lemmas.Fmt.{digits_decimal}
use Rattle.std.proofs.lemmas.Str.Parse.{digit_from_value}
use Rattle.std.specs.Fmt.{decimal}
use Rattle.hex.proofs.HexLemmas.{decode_of-ok}
use Rattle.fl_labels.specs.ItemText.{own}
use Rattle.fl_labels.specs.Text.{pid_text, cap_text}
use Rattle.fl_labels.specs.declared.cap.Cap.{Cap}
use Rattle.fl_labels.specs.declared.cap.Cap.TheVariants.{Plus, Minus, Use, Grow}
use Rattle.fl_labels.specs.declared.pid.Pid.{Pid}
use Rattle.fl_jobs.specs.declared.job.Order.{Order}
use Rattle.fl_jobs.specs.declared.job.Order.TheVariants.{Tag, Group, Put, MakeLogin, OpenGroup}
use Rattle.fl_jobs.specs.declared.job.Act.{Act}
use Rattle.fl_jobs.specs.declared.job.Act.TheVariants.{Order as Orders, Mail as Mailbox}
use Rattle.fl_jobs.specs.declared.job.Mail.TheVariants.{Take}
use Rattle.fl_jobs.specs.declared.job.Job.{Job}
use Rattle.fl_jobs.specs.declared.job.Job.TheVariants.{Proc, By, Member, Arrive}
use Rattle.fl_aliases.specs.Words.{Word}
use Rattle.fl_script.specs.Grammar.{Matches, job_forms, SpellsJob, SpellsRequest}
use Rattle.fl_script.specs.Words.{IsBytesWord}
use Rattle.fl_script.specs.declared.request.Request.{Request}
use Rattle.fl_script.specs.declared.request.Request.TheVariants.{Job as OfJob, Begin, Deliver, BeginDeliver, Tell, Save, Publish, Cancel, Restart, Text, Check}
use Rattle.fl_script.specs.parts.Acts.{SpellsAct}
use Rattle.fl_script.specs.laws.OneWord.{no_letter}

first_byte : (a b : Word) → a ≡ b → get_or a 0 0 ≡ get_or b 0 0
first_byte a b e = ap (λ l. get_or l 0 0) e

-- no capability is written as a process
no_cap : (c : Cap) (p : Pid) → pid_text p ≡ cap_text c → ⊥
no_cap (Plus n) p e = absurd (omega (arith, first_byte _ _ e))
no_cap (Minus n) p e = absurd (omega (arith, first_byte _ _ e))
no_cap (Use n) p e = absurd (omega (arith, first_byte _ _ e))
no_cap (Grow n) p e = absurd (omega (arith, first_byte _ _ e))

-- behind its `p` stands a digit
no_put : (digits rest : List ℕ) → AllDigits 10 digits → digits ++ 46 ∷ rest ≡ 117 ∷ 116 ∷ [] → ⊥
no_put [] rest are e = absurd (omega (arith, first_byte _ _ e))
no_put (d ∷ digits) rest are e =
    let range = digit_from_value d are.0 in
    absurd (omega (arith, range.0, first_byte _ _ e))

-- nor is the verb of an order
no_order : (q : Pid) (order : Order) (p : Pid) (words : List Word)
    → Matches (job_forms (By q (Orders order))) (pid_text p ∷ words) → ⊥
no_order q (Tag policy) p words s = absurd (omega (arith, first_byte _ _ s.0))
no_order q Group p words s = absurd (omega (arith, first_byte _ _ s.0))
no_order q (MakeLogin cap secret) p words s = absurd (omega (arith, first_byte _ _ s.0))
no_order q (OpenGroup group) p words s = absurd (omega (arith, first_byte _ _ s.0))
no_order q (Put group cap) p words s =
    let digits = digits_decimal own p.node (omega (arith, p.node_in_range)) in
    no_put (decimal p.node) _ digits (ap (drop 1) s.0)

-- nor are digits of bytes
no_bytes : (bytes : List ℕ) (p : Pid) → IsBytesWord bytes (pid_text p) → ⊥
no_bytes [] p s = absurd (omega (arith, first_byte _ _ s))
no_bytes (b ∷ bytes) p s =
    let digits = decode_of-ok (pid_text p) (b ∷ bytes) s in
    true≢false (sym (digits.1 0 0 (omega arith)))

-- behind the verb of an act stands the process
act_pid : (q : Pid) (act : Act) (verb w : Word) (words : List Word)
    → SpellsJob (By q act) (verb ∷ w ∷ words) → w ≡ pid_text q
act_pid q (Orders (Tag policy)) verb w words s = s.1.0
act_pid q (Orders order) verb w words s = s.1.0
act_pid q (Mailbox Take) verb w words s = s.1.0
act_pid q (Mailbox mail) verb w words s = s.1.0
act_pid q act verb w words s = s.1.0

module _ (verb : Word) (p : Pid) (words : List Word)
    (none : (q : Pid) (act : Act) → SpellsAct q act verb words → ⊥) where
  no_job : (job : Job) → SpellsJob job (verb ∷ pid_text p ∷ words) → ⊥
  no_job Proc s = absurd s.1
  no_job (Member root cap) s = no_cap root p s.1.0
  no_job (Arrive packet) s = absurd s.0
  no_job (By q act) s =
      let same = act_pid q act verb (pid_text p) words s in
      none q act (subst (λ w. SpellsJob (By q act) (verb ∷ w ∷ words)) same s)

  -- where no act is spelled with a process behind the verb, nothing is asked
  pub no_request : (request : Request) → SpellsRequest request (verb ∷ pid_text p ∷ words) → ⊥
  no_request (OfJob job) s = no_job job s
  no_request (Begin q order) s = no_order q order p words s.1
  no_request (Deliver packet) s = no_letter packet 112 _ (pid_text p) (omega arith) s.1.0 refl
  no_request (BeginDeliver packet) s = absurd (omega (arith, first_byte _ _ s.1.0))
  no_request Tell s = absurd s.1
  no_request Save s = absurd s.1
  no_request Publish s = absurd s.1
  no_request Cancel s = absurd s.1
  no_request (Restart true) s = absurd (omega (arith, first_byte _ _ s.1.0))
  no_request (Restart false) s = absurd s.1
  no_request Text s = absurd s.1
  no_request (Check bytes) s = no_bytes bytes p s.1.0

-- words are the first of them, and those behind it
pub first_word : (words : List (Bor Word)) (d : Bor Word) (first : Word) → 1 ≤ length words
    → (get_or words 0 d).now ≡ first
    → map (λ w. w.now) words ≡ first ∷ map (λ w. w.now) (take (length words - 1) (drop 1 words))
first_word [] d first some is = absurd (omega (arith, some))
first_word (w ∷ words) d first some is =
    let long : length (w ∷ words) - 1 ≡ length words = omega arith in
    let all : take (length (w ∷ words) - 1) words ≡ words =
    ap (λ n. take n words) long ∙ take-length words in
    ap (λ f. f ∷ map (λ w. w.now) words) is ∙ ap (λ l. first ∷ map (λ w. w.now) l) (sym all)
