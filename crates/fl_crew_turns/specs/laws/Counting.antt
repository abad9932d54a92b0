-- Each line that is not quiet has one answer, or waits for it.
use Rattle.std.proofs.Common.{◌≡◌, ◌⊎◌, ◌+◌, ◌∷◌, ◌∙◌, [], ℕ, List, length, map, refl, sym, ap, arith, Option, None, Some, Result, Ok, Err, inl, inr}
use Rattle.std.proofs.lemmas.List.{length-append, length-map}
use Rattle.std.specs.List.{flat_map}
use Rattle.fl_jobs.specs.declared.job.Job.{Job as AnyJob}
use Rattle.fl_system.specs.declared.answer.Fault.{Fault}
use Rattle.fl_system.specs.declared.reply.Reply.{Reply}
use Rattle.fl_system.specs.declared.reply.Reply.TheVariants.{Refused}
use Rattle.fl_calls.specs.Completing.{starved}
use Rattle.fl_script.specs.Reading.{IsQuiet}
use Rattle.fl_script.specs.declared.reading.Reading.{Reading}
use Rattle.fl_script.specs.declared.reading.Reading.TheVariants.{Bad, Means, Quiet}
use Rattle.fl_calls.specs.Answer.{replied}
use Rattle.fl_turns.specs.Answer.{Answer, said}
use Rattle.fl_crew_turns.specs.Answered.{CountsLoud, CrewRun, GivesEach, Written, answers_in, count_answers, count_held, own_answers}
use Rattle.fl_crew_turns.specs.Batch.{EndsBatch, replies_to}
use Rattle.fl_crew_turns.specs.Session.{CrewCalls, CrewSession}
use Rattle.fl_crew_turns.specs.Turn.{AnswersNow, CrewTurn, EndsBefore, IsHeard}

module _ {C : Type 0} (calls : CrewCalls C) (each : GivesEach calls) where
  -- as many replies as jobs
  replied_each : (crews crews' : C) (number : ℕ) (jobs : List AnyJob)
      (result : Result (List Reply) Fault) → calls.serves crews number jobs result crews'
      → length (replies_to jobs result) ≡ length jobs
  replied_each crews crews' number jobs (Ok replies) h = each crews crews' number jobs replies h
  replied_each crews crews' number jobs (Err fault) h = length-map jobs (λ _. Refused fault)

  -- a batch that ends gives each of its lines a reply, and nothing is held
  batch_counts : (old new : CrewSession C) (replies : List Reply) → EndsBatch calls old replies new
      → (length replies ≡ count_held old) × (count_held new ≡ 0)
  batch_counts old new replies (EndsBatch.idle empty) = (sym (ap length empty), refl)
  batch_counts old new replies (EndsBatch.served {result = result} some h) =
      (replied_each _ _ _ _ result h, refl)
  batch_counts old new replies (EndsBatch.no_room some alias) = (length-map old.held.jobs (λ _. starved), refl)

  -- what is heard and answered before a batch ended: its lines are replied, and none is held
  before_counts : (old between : CrewSession C) (bytes : List ℕ) (heard : Option Reading)
      (replies : List Reply) → EndsBefore calls old bytes heard replies between
      → (length replies ≡ count_held old) × (count_held between ≡ 0)
  before_counts old between bytes heard replies (EndsBefore.named names ends is) =
      batch_counts old between replies ends
  before_counts old between bytes heard replies (EndsBefore.other names is on ends) =
      batch_counts old between replies ends

  -- what was heard says nothing: the line is quiet
  abbrev SaysNothing : Option Reading → List ℕ → Type 0
  SaysNothing (Some Quiet) bytes = IsQuiet bytes
  SaysNothing heard bytes = ¬ IsQuiet bytes

  heard_so : (table : _) (bytes : List ℕ) (heard : Option Reading) → IsHeard table bytes heard
      → SaysNothing heard bytes
  heard_so table bytes None h = h.asking.loud
  heard_so table bytes (Some Quiet) h = h
  heard_so table bytes (Some Bad) h = h.loud
  heard_so table bytes (Some (Means line alias)) h = h.asking.loud

  says : (old between : CrewSession C) (bytes : List ℕ) (heard : Option Reading)
      (replies : List Reply) → EndsBefore calls old bytes heard replies between
      → SaysNothing heard bytes
  says old between bytes heard replies (EndsBefore.named names ends is) = heard_so _ bytes heard is
  says old between bytes heard replies (EndsBefore.other names is on ends) =
      heard_so _ bytes heard is

  -- a line gives so much: nothing where it is quiet, and else one answer, or one that is held
  abbrev Gives : List ℕ → ℕ → Type 0
  Gives bytes count = (IsQuiet bytes × (count ≡ 0)) ⊎ (¬ IsQuiet bytes × (count ≡ 1))

  now_gives : (old new : CrewSession C) (bytes : List ℕ) (heard : Option Reading)
      (answer : Answer) → AnswersNow calls old heard answer new → SaysNothing heard bytes
      → count_held old ≡ 0 → Gives bytes (length (own_answers answer) + count_held new)
  now_gives old new bytes heard answer AnswersNow.quiet is held = inl (is, omega (arith, held))
  now_gives old new bytes heard answer AnswersNow.bad is held = inr (is, omega (arith, held))
  now_gives old new bytes heard answer AnswersNow.unread is held = inr (is, omega (arith, held))
  now_gives old new bytes heard answer AnswersNow.lists is held = inr (is, omega (arith, held))
  now_gives old new bytes heard answer (AnswersNow.asks other h) is held =
      inr (is, omega (arith, held))
  now_gives old new bytes heard answer (AnswersNow.full spent) is held = inr (is, omega (arith, held))
  now_gives old new bytes heard answer (AnswersNow.shut room h) is held =
      inr (is, omega (arith, held))
  now_gives old new bytes heard answer (AnswersNow.holds room h) is held = inr (is, refl)
  now_gives old new bytes heard answer (AnswersNow.no_room room h) is held =
      inr (is, omega (arith, held))

  -- with what a line gives, those that were held are replied or held on
  abbrev Sums : ℕ → ℕ → List ℕ → Type 0
  Sums held total bytes =
      (IsQuiet bytes × (total ≡ held)) ⊎ (¬ IsQuiet bytes × (total ≡ held + 1))

  with_held : (held count : ℕ) (bytes : List ℕ) → Gives bytes count → Sums held (held + count) bytes
  with_held held count bytes (inl h) = inl (h.0, omega (arith, h.1))
  with_held held count bytes (inr h) = inr (h.0, omega (arith, h.1))

  turn_sums : (old new : CrewSession C) (bytes : List ℕ) (replies : List Reply) (answer : Answer)
      → CrewTurn calls old bytes replies answer new
      → Sums (count_held old) (length replies + (length (own_answers answer) + count_held new)) bytes
  turn_sums old new bytes replies answer (CrewTurn.waits {job = job} names reads on few) =
      inr (reads.asking.loud, omega (arith, length-append old.held.jobs (job ∷ [])))
  turn_sums old new bytes replies answer (CrewTurn.ends_behind {job = job} names reads on last ends) =
      let c = batch_counts _ new replies ends in
      inr (reads.asking.loud, omega (arith, c.0, c.1, length-append old.held.jobs (job ∷ [])))
  turn_sums old new bytes replies answer
      (CrewTurn.ends_before {heard = heard} {between = between} before now) =
      let c = before_counts old between bytes heard replies before in
      let gives = now_gives between new bytes heard answer now
      (says old between bytes heard replies before) c.1 in
      rw c.0 (with_held (count_held old) _ bytes gives)

  -- the answers of one line and of those behind it
  one_more : (written : Written) (later : List Written)
      → count_answers (written ∷ later) ≡ length (answers_in written) + count_answers later
  one_more written later = length-append (answers_in written) (flat_map answers_in later)

  in_written : (written : Written)
      → length (answers_in written) ≡ length written.replies + length (own_answers written.answer)
  in_written written =
      length-append (map (λ reply. said (replied reply)) written.replies) (own_answers written.answer)
      ∙ ap (λ n. n + length (own_answers written.answer)) (length-map written.replies (λ reply. said (replied reply)))

  -- each line that is not quiet has one answer, or waits for it
  pub one_answer : (old new : CrewSession C) (lines : List (List ℕ)) (written : List Written) (count : ℕ)
      → CrewRun calls old lines written new → CountsLoud lines count
      → count_answers written + count_held new ≡ count_held old + count
  one_answer old new [] [] count run CountsLoud.none = omega (arith, ap (λ s. count_held s) run)
  one_answer old new [] (written ∷ later) count run counts = absurd run
  one_answer old new (line ∷ lines) [] count run counts = absurd run
  one_answer old new (line ∷ lines) (written ∷ later) count (mid, turn, run) (CountsLoud.quiet is counts) =
      let rest = one_answer mid new lines later count run counts in
      let more = one_more written later in let own = in_written written in
      elim (turn_sums old mid line written.replies written.answer turn) [
        | inl h ↦ omega (arith, h.1, rest, more, own)
        | inr h ↦ absurd (h.0 is)
      ]
  one_answer old new (line ∷ lines) (written ∷ later) count (mid, turn, run) (CountsLoud.loud {count = behind} is counts) =
      let rest = one_answer mid new lines later behind run counts in
      let more = one_more written later in let own = in_written written in
      elim (turn_sums old mid line written.replies written.answer turn) [
        | inl h ↦ absurd (is h.0)
        | inr h ↦ omega (arith, h.1, rest, more, own)
      ]
