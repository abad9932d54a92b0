-- Lists of answers, what is written of them, and runs of lines that follow one another.
use Rattle.std.proofs.Common.{◌≡◌, ◌∙◌, ◌+◌, ◌++◌, ◌∷◌, [], ℕ, suc, List, length, max, append_assoc}
use Rattle.std.proofs.Common.{append-nil}
use Rattle.std.proofs.Common.{refl, sym, ap, subst, arith}
use Rattle.std.specs.List.{All}
use Rattle.std.proofs.lemmas.List.Elements.{All-nil, All-cons, All-head, All-tail}
use Rattle.fl_calls.specs.Answer.{replied}
use Rattle.fl_calls.specs.Entering.{Openings}
use Rattle.fl_crew_turns.specs.Batch.{replies_text, worst_reply}
use Rattle.fl_replies.specs.ReplyText.{world_text}
use Rattle.fl_stream.specs.Turns.{LineOutput, texts, worst}
use Rattle.fl_system.specs.declared.reply.Reply.{Reply}
use Rattle.fl_turns.specs.Answer.{Answer, said, status_of}
use Rattle.fl_turns.specs.AnswerText.{text_of}
use Rattle.fl_turns.specs.Run.{Run, output_of, outputs_from}
use Rattle.fl_turns.specs.Session.{Session}
use Rattle.fl_one_worker_scripts.specs.Written.{replied_all}

module _ {X : Type 0} (P : X → Type 0) where
  pub all_left : (xs ys : List X) → All P (xs ++ ys) → All P xs
  all_left [] ys h = All-nil P
  all_left (x ∷ xs) ys h =
      All-cons P x xs (All-head P x (xs ++ ys) h) (all_left xs ys (All-tail P x (xs ++ ys) h))

  pub all_right : (xs ys : List X) → All P (xs ++ ys) → All P ys
  all_right [] ys h = h
  all_right (x ∷ xs) ys h = all_right xs ys (All-tail P x (xs ++ ys) h)

max_assoc : (a b c : ℕ) → max (max a b) c ≡ max a (max b c)
max_assoc a b c = omega arith

-- ---- what is written of answers, one after another

pub texts_on : (xs ys : List LineOutput) → texts (xs ++ ys) ≡ texts xs ++ texts ys
texts_on [] ys = refl
texts_on (x ∷ xs) ys = ap (λ l. x.text ++ l) (texts_on xs ys) ∙ sym (append_assoc x.text
    (texts xs) (texts ys))

pub worst_on : (xs ys : List LineOutput) → worst (xs ++ ys) ≡ max (worst xs) (worst ys)
worst_on [] ys = omega arith
worst_on (x ∷ xs) ys =
    ap (λ n. max x.status n) (worst_on xs ys) ∙ sym (max_assoc x.status (worst xs) (worst ys))

pub outputs_on : (number : ℕ) (xs ys : List Answer)
    → outputs_from number (xs ++ ys) ≡ outputs_from number xs ++ outputs_from
    (number + length xs) ys
outputs_on number [] ys =
    let same : number ≡ number + 0 = omega arith in ap (λ n. outputs_from n ys) same
outputs_on number (x ∷ xs) ys =
    let same : (number + 1) + length xs ≡ number + length (x ∷ xs) = omega arith in
    ap (λ l. output_of number x ∷ l) (outputs_on (number + 1) xs ys
    ∙ ap (λ n. outputs_from (number + 1) xs ++ outputs_from n ys) same)

-- replies are written alike whatever the numbers of their lines
pub replied_texts : (number : ℕ) (replies : List Reply)
    → texts (outputs_from number (replied_all replies)) ≡ replies_text replies
replied_texts number [] = refl
replied_texts number (reply ∷ replies) =
    ap (λ l. world_text reply ++ l) (replied_texts (number + 1) replies)

pub replied_worst : (number : ℕ) (replies : List Reply)
    → worst (outputs_from number (replied_all replies)) ≡ worst_reply replies
replied_worst number [] = refl
replied_worst number (reply ∷ replies) = ap (λ n. max (status_of (said (replied reply))) n)
    (replied_worst (number + 1) replies)

-- ---- lines, one after another

pub run_on : (openings : Openings) (old mid new : Session) (lines more : List (List ℕ))
    (answers later : List Answer) → Run openings old lines answers mid
    → Run openings mid more later new → Run openings old (lines ++ more) (answers ++ later) new
run_on openings old mid new [] more [] later first then_ =
    subst (λ (s : Session). Run openings s more later new) first then_
run_on openings old mid new [] more (answer ∷ answers) later first then_ = absurd first
run_on openings old mid new (line ∷ lines) more [] later first then_ = absurd first
run_on openings old mid new (line ∷ lines) more (answer ∷ answers) later (s, turn, rest) then_ =
    (s, turn, run_on openings s mid new lines more answers later rest then_)

pub run_each : (openings : Openings) (old new : Session) (lines : List (List ℕ))
    (answers : List Answer) → Run openings old lines answers new → length answers ≡ length lines
run_each openings old new [] [] h = refl
run_each openings old new [] (answer ∷ answers) h = absurd h
run_each openings old new (line ∷ lines) [] h = absurd h
run_each openings old new (line ∷ lines) (answer ∷ answers) (s, turn, rest) =
    ap suc (run_each openings s new lines answers rest)

-- ---- replies, and then an answer

module _ (number count : ℕ) (replies : List Reply) (answer : Answer)
    (each : length (replied_all replies) ≡ count) where
  outputs_with : outputs_from number (replied_all replies ++ answer ∷ [])
      ≡ outputs_from number (replied_all replies) ++ outputs_from (number + count) (answer ∷ [])
  outputs_with =
      outputs_on number (replied_all replies) (answer ∷ [])
      ∙ ap (λ n. outputs_from number (replied_all replies) ++ outputs_from (number + n)
      (answer ∷ []))
      each

  pub texts_with : replies_text replies ++ text_of (number + count) answer
      ≡ texts (outputs_from number (replied_all replies ++ answer ∷ []))
  texts_with =
      sym (ap texts outputs_with
      ∙ (texts_on (outputs_from number (replied_all replies))
      (outputs_from (number + count) (answer ∷ []))
      ∙ (ap (λ l. l ++ texts (outputs_from (number + count) (answer ∷ [])))
      (replied_texts number replies)
      ∙ ap (λ l. replies_text replies ++ l) (append-nil (text_of (number + count) answer)))))

  pub worst_with : max (worst_reply replies) (status_of answer)
      ≡ worst (outputs_from number (replied_all replies ++ answer ∷ []))
  worst_with =
      let last : worst (outputs_from (number + count) (answer ∷ [])) ≡ status_of answer =
      omega arith in
      sym (ap worst outputs_with
      ∙ (worst_on (outputs_from number (replied_all replies))
      (outputs_from (number + count) (answer ∷ []))
      ∙ (λ i. max (replied_worst number replies i) (last i))))

-- replies alone
pub texts_alone : (number : ℕ) (replies : List Reply)
    → replies_text replies ++ [] ≡ texts (outputs_from number (replied_all replies))
texts_alone number replies = append-nil (replies_text replies) ∙ sym (replied_texts number replies)

pub worst_alone : (number : ℕ) (replies : List Reply)
    → max (worst_reply replies) 0 ≡ worst (outputs_from number (replied_all replies))
worst_alone number replies =
    let same = replied_worst number replies in
    let most : max (worst_reply replies) 0 ≡ worst_reply replies = omega arith in
    most ∙ sym same
