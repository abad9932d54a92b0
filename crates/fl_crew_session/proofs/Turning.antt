-- What ends a batch, and what a line does then, from what the calls of crews did.
use Rattle.std.proofs.Common.{◌≡◌, ◌≢◌, ◌<◌, ◌∙◌, ◌++◌, ◌∷◌, [], ℕ, Bool, List, Option, None, Some, Result, Ok, Err, OnErr, ap, arith, length, length-append, map, max, refl, replicate, subst, sym, true, false, true≢false}
use Rattle.std.proofs.lemmas.Simd.{splat_is_map}
use Rattle.fl_aliases.specs.Table.{Table}
use Rattle.fl_jobs.specs.declared.job.Job.{Job as AnyJob}
use Rattle.fl_system.specs.declared.answer.Fault.{Fault}
use Rattle.fl_system.specs.declared.reply.Reply.{Reply}
use Rattle.fl_system.specs.declared.reply.Reply.TheVariants.{Refused}
use Rattle.fl_sink.specs.Sink.{Puts}
use Rattle.fl_stream.specs.Turns.{AnswerCuts}
use Rattle.fl_script.specs.Reading.{IsReading}
use Rattle.fl_script.specs.declared.line.Line.{Line}
use Rattle.fl_script.specs.declared.line.Line.TheVariants.{Node}
use Rattle.fl_script.specs.declared.reading.Reading.{Reading}
use Rattle.fl_script.specs.declared.reading.Reading.TheVariants.{Bad, Means, Quiet}
use Rattle.fl_script.specs.declared.request.Request.TheVariants.{Job}
use Rattle.fl_calls.specs.Completing.{starved}
use Rattle.fl_turns.specs.Answer.{Answer, silence, starved_line, status_of}
use Rattle.fl_turns.specs.AnswerText.{text_of}
use Rattle.fl_crew_turns.specs.Batch.{EndsBatch, replies_text, worst_reply}
use Rattle.fl_crew_turns.specs.Held.{HeldJobs, count_set, none_held, with_job}
use Rattle.fl_crew_turns.specs.Naming.{NamesHeld, named_all}
use Rattle.fl_crew_turns.specs.Session.{CrewCalls, CrewSession}
use Rattle.fl_crew_turns.specs.Turn.{AnswersNow, CrewTurn, CrewTurns, GoesOn, GoesOnWith, HasRoomFor}
use Rattle.fl_crew_turns.specs.laws.Settling.{named_refused}
use Rattle.fl_crew_session.specs.Parts.{session_of}

module _ {C : Type 0} (calls : CrewCalls C) where
  -- each job has its reply
  pub serves_each : {crews crews' : C} {table table' : Table} (held : HeldJobs) (replies : List Reply)
      → held.jobs ≢ [] → calls.serves crews held.node held.jobs (Ok replies) crews'
      → table' ≡ named_all table held.aliases replies
      → EndsBatch calls (session_of crews table held) replies (session_of crews' table' none_held)
  serves_each {crews} {crews'} {table} {table'} held replies some serves same =
      rw same (EndsBatch.served {result = Ok replies} {crews = crews'} some serves)

  -- none of them was begun
  pub serves_none : {crews crews' : C} {table : Table} (held : HeldJobs) (count : ℕ) (fault : Fault)
      → held.jobs ≢ [] → calls.serves crews held.node held.jobs (Err fault) crews'
      → count ≡ length held.jobs
      → EndsBatch calls (session_of crews table held) (replicate count (Refused fault))
      (session_of crews' table none_held)
  serves_none {crews} {crews'} {table} held count fault some serves counted =
      let ends : EndsBatch calls (session_of crews table held) (map (λ _. Refused fault) held.jobs)
      (session_of crews' (named_all table held.aliases (map (λ _. Refused fault) held.jobs)) none_held)
      = EndsBatch.served {result = Err fault} {crews = crews'} some serves in
      subst (λ replies. EndsBatch calls (session_of crews table held) replies (session_of crews' table none_held))
      (sym (splat_is_map held.jobs count (Refused fault) (sym counted)))
      (subst (λ t. EndsBatch calls (session_of crews table held) (map (λ _. Refused fault) held.jobs) (session_of crews' t none_held))
      (named_refused fault table held.aliases held.jobs) ends)

  -- none was held
  pub ends_idle : {crews : C} {table : Table} {held new : HeldJobs} → held.jobs ≡ [] → new ≡ none_held
      → EndsBatch calls (session_of crews table held) [] (session_of crews table new)
  ends_idle none is = rw is (EndsBatch.idle none)

  -- there was no room for its aliases
  pub serves_without : {crews : C} {table : Table} (held : HeldJobs) (count : ℕ)
      → held.jobs ≢ [] → 0 < count_set held.aliases → count ≡ length held.jobs
      → EndsBatch calls (session_of crews table held) (replicate count starved)
      (session_of crews table none_held)
  serves_without {crews} {table} held count some sets counted =
      subst (λ replies. EndsBatch calls (session_of crews table held) replies (session_of crews table none_held))
      (sym (splat_is_map held.jobs count starved (sym counted)))
      (EndsBatch.no_room some sets)

  -- the node is open, and the job is the first of a batch
  pub begins_batch : {crews' : C} (crews : C) (aliases : Table) (held held' : HeldJobs) (node : ℕ) (job : AnyJob)
      (alias : Option (List ℕ)) → held ≡ none_held → HasRoomFor aliases held alias
      → calls.opens crews node (Ok tt) crews' → held' ≡ with_job held node job alias
      → AnswersNow calls (session_of crews aliases held) (Some (Means (Node node (Job job)) alias)) silence
      (session_of crews' aliases held')
  begins_batch crews aliases held held' node job alias none room opens is =
      rw (is ∙ ap (λ h. with_job h node job alias) none) (AnswersNow.holds room opens)

  -- the node is open, but there is no memory for the job
  pub begins_none : {crews' : C} (crews : C) (aliases : Table) (held held' : HeldJobs) (node : ℕ) (job : AnyJob)
      (alias : Option (List ℕ)) → HasRoomFor aliases held alias
      → calls.opens crews node (Ok tt) crews' → held' ≡ held
      → AnswersNow calls (session_of crews aliases held) (Some (Means (Node node (Job job)) alias)) starved_line
      (session_of crews' aliases held')
  begins_none crews aliases held held' node job alias room opens is = rw is (AnswersNow.no_room room opens)

  module _ {crews : C} {aliases : Table} {held : HeldJobs} (bytes : List ℕ) (node : ℕ) (job : AnyJob)
      (alias : Option (List ℕ)) (unnamed : ¬ NamesHeld held bytes)
      (says : IsReading aliases bytes (Means (Node node (Job job)) alias))
      (goes : GoesOn (session_of crews aliases held) node alias) where
    -- it waits
    pub turn_waits : {held' : HeldJobs} → held' ≡ with_job held held.node job alias → length held'.jobs < 256
        → CrewTurn calls (session_of crews aliases held) bytes [] silence (session_of crews aliases held')
    turn_waits is few =
        let held_is = is ∙ ap (λ n. with_job held n job alias) goes.own in
        rw held_is (CrewTurn.waits unnamed says goes
        (omega (arith, rw held_is at few, length-append held.jobs (job ∷ []))))

    -- it is the last of its batch
    pub turn_fills : {replies : List Reply} {held' : HeldJobs} {new : CrewSession C} → held' ≡ with_job held held.node job alias
        → length held'.jobs ≡ 256 → EndsBatch calls (session_of crews aliases held') replies new
        → CrewTurn calls (session_of crews aliases held) bytes replies silence new
    turn_fills is full ends =
        let held_is = is ∙ ap (λ n. with_job held n job alias) goes.own in
        CrewTurn.ends_behind unnamed says goes
        (omega (arith, rw held_is at full, length-append held.jobs (job ∷ []))) (rw held_is at ends)

-- the line asks for a job
abbrev pub is_job : Line → Bool
is_job (Node node (Job job)) = true
is_job line = false

-- a line of the script was heard
abbrev pub is_line : Option Reading → Bool
is_line (Some (Means line alias)) = true
is_line heard = false

-- only a job goes on with a batch
goes_job : {C : Type 0} (session : CrewSession C) (line : Line) (alias : Option (List ℕ))
    → GoesOnWith session (Some (Means line alias)) → is_job line ≡ true
goes_job session (Node node (Job job)) alias goes = refl
goes_job session line alias goes = absurd goes

pub goes_not : {C : Type 0} (session : CrewSession C) (line : Line) (alias : Option (List ℕ)) → is_job line ≡ false
    → ¬ GoesOnWith session (Some (Means line alias))
goes_not session line alias none goes = true≢false (sym (goes_job session line alias goes) ∙ none)

-- and only a line of the script
pub goes_heard : {C : Type 0} (session : CrewSession C) (heard : Option Reading) → is_line heard ≡ false
    → ¬ GoesOnWith session heard
goes_heard session None none goes = absurd goes
goes_heard session (Some Quiet) none goes = absurd goes
goes_heard session (Some Bad) none goes = absurd goes
goes_heard session (Some (Means line alias)) none goes = absurd (cc)

module _ {C T E : Type 0} (calls : CrewCalls C) where
  -- a front of what is told was written
  pub cuts_turn : {before after : Option (List ℕ)} {pending rest : List ℕ} (number : ℕ) (old new : CrewSession C)
      (bytes : List ℕ) (replies : List Reply) (answer : Answer) (result : Result T E)
      → CrewTurn calls old bytes replies answer new
      → Puts before after pending (replies_text replies ++ text_of number answer) rest result
      → OnErr result (AnswerCuts (CrewTurns calls) number old bytes new before after pending)
  cuts_turn number old new bytes replies answer (Ok status) turn puts = tt
  cuts_turn number old new bytes replies answer (Err fault) turn puts = record {
    output = record {
      text = replies_text replies ++ text_of number answer;
      status = max (worst_reply replies) (status_of answer);
    };
    turn = record { replies = replies; answer = answer; turn = turn; text_is = refl; status_is = refl };
    cut = puts.is;
  }
