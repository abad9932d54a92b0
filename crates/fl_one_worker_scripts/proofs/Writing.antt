-- What a run over crews writes is the text of all that its lines are answered.
use Rattle.std.proofs.Common.{◌≡◌, ◌∙◌, ◌+◌, ◌++◌, ◌∷◌, [], ℕ, List, max, Option, refl, ap, subst}
use Rattle.std.specs.Io.KnownBytes.{Appends}
use Rattle.std.specs.Str.Lines.{lines}
use Rattle.fl_crew_turns.specs.Answered.{CrewRun, Written}
use Rattle.fl_crew_turns.specs.Batch.{replies_text, worst_reply}
use Rattle.fl_crew_turns.specs.Script.{WritesBatches}
use Rattle.fl_crew_turns.specs.Session.{CrewCalls, CrewSession}
use Rattle.fl_crew_turns.specs.Turn.{CrewTurns}
use Rattle.fl_stream.specs.Turns.{LineOutput, Run, texts, worst}
use Rattle.fl_one_worker_scripts.specs.Written.{AnswersAll, all_status, all_text, texts_from, worst_of}

module _ {C : Type 0} (calls : CrewCalls C) where
  record IsWritten (number : ℕ) (old : CrewSession C) (lines : List (List ℕ))
      (outputs : List LineOutput) (new : CrewSession C) : Type 0 where
    pub written : List Written
    pub run : CrewRun calls old lines written new
    pub text_is : texts outputs ≡ texts_from number written
    pub status_is : worst outputs ≡ worst_of written

  is_written : (number : ℕ) (old : CrewSession C) (lines : List (List ℕ))
      (outputs : List LineOutput) (new : CrewSession C)
      → Run (CrewTurns calls) number old lines outputs new → IsWritten number old lines outputs new
  is_written number old [] [] new run =
      record { written = []; run = run; text_is = refl; status_is = refl }
  is_written number old [] (output ∷ outputs) new run = absurd run
  is_written number old (line ∷ lines) [] new run = absurd run
  is_written number old (line ∷ lines) (output ∷ outputs) new (mid, turn, run) =
      let later = is_written (number + 1) mid lines outputs new run in
      record {
        written = record { replies = turn.replies; answer = turn.answer } ∷ later.written;
        run = (mid, turn.turn, later.run);
        text_is = (λ i. turn.text_is i ++ later.text_is i);
        status_is = (λ i. max (turn.status_is i) (later.status_is i));
      }

  pub all_answers_of : (start end : CrewSession C) (old new : Option (List ℕ)) (script : List ℕ)
      (status : ℕ) → WritesBatches calls start old new script status end
      → (all : AnswersAll calls start (lines script) end) × Appends old new (all_text all)
      × (status ≡ all_status all)
  all_answers_of start end old new script status writes =
      let it =
      is_written 1 start (lines script) writes.output.outputs writes.between writes.output.run in (
        record {
          written = it.written;
          between = writes.between;
          run = it.run;
          replies = writes.replies;
          ends = writes.ends;
        },
        subst (Appends old new) (ap (λ t. t ++ replies_text writes.replies)
            (writes.output.text_is ∙ it.text_is)) writes.written,
        writes.status_is ∙ ap (λ n. max n (worst_reply writes.replies))
            (writes.output.status_is ∙ it.status_is),
      )
