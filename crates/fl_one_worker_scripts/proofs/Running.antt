-- A line of a script over crews of one worker, and the same script without workers.
use Rattle.std.proofs.Common.{◌≡◌, ◌≢◌, ◌∙◌, ◌<◌, ◌+◌, ◌++◌, ◌∷◌, ◌⊎◌, [], ℕ, List, length, map, max}
use Rattle.std.proofs.Common.{Option, Some, None, Ok, Err, Result, append-nil, inl, inr, true, false}
use Rattle.std.proofs.Common.{refl, sym, ap, subst, arith}
use Rattle.std.specs.FinMap as fin
use Rattle.std.specs.List.{All}
use Rattle.std.proofs.lemmas.List.Elements.{All-nil, All-cons, All-head, All-append}
use Rattle.fl_aliases.specs.Table.{Table}
use Rattle.fl_calls.specs.Answer.{Answer as Said, replied}
use Rattle.fl_calls.specs.Completing.{starved}
use Rattle.fl_calls.specs.Entering as entering
use Rattle.fl_calls.specs.Entering.{Enters}
use Rattle.fl_calls.specs.Over.{openings_of}
use Rattle.fl_crew_calls.specs.Batches.{ServesBatch}
use Rattle.fl_crew_calls.specs.Over.{CrewsOver, IsUnopened}
use Rattle.fl_crew_turns.specs.Answered.{own_answers}
use Rattle.fl_crew_turns.specs.Batch.{EndsBatch, replies_text, replies_to, worst_reply}
use Rattle.fl_crew_turns.specs.Held.{HeldJobs, count_set, none_held, with_job}
use Rattle.fl_crew_turns.specs.Naming.{IsNamedIn, NamesHeld, named_all}
use Rattle.fl_crew_turns.specs.Session.{CrewSession}
use Rattle.fl_crew_turns.specs.Turn.{AnswersNow, CrewTurn, EndsBefore, GoesOn, HasRoomFor, IsHeard, is_other}
use Rattle.fl_jobs.specs.declared.answer.Refusal.TheVariants.{Memory}
use Rattle.fl_jobs.specs.declared.job.Job.{Job as AnyJob}
use Rattle.fl_makers.specs.Making.{AllowsNoMore, Making}
use Rattle.fl_script.specs.Reading.{IsMeaning, IsReading, makes}
use Rattle.fl_script.specs.declared.line.Line.{Line}
use Rattle.fl_script.specs.declared.line.Line.TheVariants.{Aliases, Audit, Node, Union}
use Rattle.fl_script.specs.declared.reading.Reading.{Reading}
use Rattle.fl_script.specs.declared.reading.Reading.TheVariants as reading
use Rattle.fl_script.specs.declared.request.Request.TheVariants as request
use Rattle.fl_store.specs.Custody.{Custody}
use Rattle.fl_stream.specs.Turns.{texts, worst}
use Rattle.fl_system.specs.declared.answer.Fault.{Fault}
use Rattle.fl_system.specs.declared.answer.Fault.TheVariants as faults
use Rattle.fl_system.specs.declared.reply.Reply.{Reply}
use Rattle.fl_system.specs.declared.reply.Reply.TheVariants as outcome
use Rattle.fl_system.specs.Runs.{IsReached, IsRun, end}
use Rattle.fl_system.specs.World.{World, KeptNode, empty_world}
use Rattle.fl_turn_laws.specs.Certain.{IsSure}
use Rattle.fl_turn_laws.proofs.AliasLaws.{renamed_none}
use Rattle.fl_turns.specs.Answer.{Answer, bad_line, listed, said, silence, status_of}
use Rattle.fl_turns.specs.AnswerText.{text_of}
use Rattle.fl_turns.specs.Naming.{made_by, renamed}
use Rattle.fl_turns.specs.Run.{Run, outputs_from}
use Rattle.fl_turns.specs.Session.{Session}
use Rattle.fl_turns.specs.Turn.{AnswersLine, Turn}
use Rattle.fl_turns.specs.laws.Leads.{ends_on, run_leads, runs_on}
use Rattle.fl_workers.specs.Over.{CrewOver}
use Rattle.fl_one_worker_calls.specs.Crews.{AreFew, AreSound, AreTied, IsWorldOf, Leads}
use Rattle.fl_one_worker_calls.specs.Worlds.{AreAsked, jobs_at}
use Rattle.fl_one_worker_scripts.specs.Alike.{LeavesWell, calls_well}
use Rattle.fl_one_worker_scripts.specs.Shared.{IsShared}
use Rattle.fl_one_worker_scripts.specs.Written.{replied_all}
use Rattle.fl_one_worker_scripts.proofs.Batching.{Waits, are_asked, enters_there, runs_held, waits_more}
use Rattle.fl_one_worker_scripts.proofs.Delivering.{PacketLeads}
use Rattle.fl_one_worker_scripts.proofs.Extending.{Extends, extends_none, named_all_extends}
use Rattle.fl_one_worker_scripts.proofs.Held.{batch_held, batch_maker}
use Rattle.fl_one_worker_scripts.proofs.Holding.{responds_held}
use Rattle.fl_one_worker_scripts.proofs.Lists.{all_left, all_right, run_each, run_on, texts_alone, texts_with, worst_alone, worst_with}
use Rattle.fl_one_worker_scripts.proofs.Opening.{CrewOpens, ToldOf, opens_err, opens_held, opens_ok, reached_enters}
use Rattle.fl_one_worker_scripts.proofs.Readings.{bad_then_held, full_then_held, meaning_then_held}
use Rattle.fl_one_worker_scripts.proofs.Responding.{responds}
use Rattle.fl_one_worker_scripts.proofs.Restarting.{CrewRestarts}
use Rattle.fl_one_worker_scripts.proofs.Ties.{Ties}

-- ---- what a batch in a world is

abbrev pub JobsLead : {K : Type 0} → (M : Type 0) → Custody K → Type 0
JobsLead {K} M custody =
    (old new : CrewsOver K M) (w : World) (number : ℕ) (jobs : List AnyJob) (replies : List Reply)
    → IsWorldOf old w → AreSound custody old → AreSound custody new → AreFew new → AreAsked jobs
    → ServesBatch custody old number jobs [] (Ok replies) new
    → Leads w (jobs_at number jobs) replies new

-- what is refused for want of memory, or since a keeper failed, is not sure
sure_fault : (fault : Fault) → IsSure (said (replied (outcome.Refused fault)))
    → (fault ≢ faults.Refused Memory) × (fault ≢ faults.KeeperFailed)
sure_fault fault sure = (
  λ is. sure.memory (ap outcome.Refused is),
  λ is. sure.keeper (ap outcome.Refused is),
)

not_starved : ¬ IsSure (said (replied starved))
not_starved sure = sure.memory refl

snoc_some : {X : Type 0} (xs : List X) (x : X) → xs ++ x ∷ [] ≢ []
snoc_some [] x is = cc
snoc_some (y ∷ xs) x is = cc

module _ {K M : Type 0} (custody : Custody K) (making : Making M K) (told : ToldOf making)
    (crew_opens : CrewOpens K) (crew_restarts : CrewRestarts K) (jobs_lead : JobsLead M custody)
    (packet_leads : PacketLeads M custody) (maker : M) where
  abbrev pub Crews : Type 0
  Crews = CrewSession (CrewsOver K M)

  -- the session without workers, where the world is this one
  abbrev pub plain : World → Table → Session
  plain w table = record { world = w; aliases = table }

  reached_run : (old new : Session) (lines : List (List ℕ)) (answers : List Answer)
      → IsReached old.world → Run (openings_of custody making maker) old lines answers new
      → IsReached new.world
  reached_run old new lines answers reached run =
      let leads = run_leads (openings_of custody making maker) old lines answers new run in
      record {
        desks = reached.desks;
        moments = reached.moments ++ leads.moments;
        is_run = runs_on (empty_world reached.desks) reached.moments leads.moments reached.is_run
            (subst (λ v. IsRun v leads.moments) (sym reached.leads) leads.is_run);
        leads = ends_on (empty_world reached.desks) reached.moments leads.moments
            ∙ (ap (λ v. end v leads.moments) reached.leads ∙ leads.leads);
      }

  -- Lines wait for the end of their batch: without workers they are to be answered yet, from this
  -- world on, and the first of them opens the node.
  pub data Stands (s : Crews) (w : World) : List (List ℕ) → Type 0 where
    idle : s.held.jobs ≡ [] → s.held.aliases ≡ [] → Ties custody making maker s.crews w
        → Stands s w []
    waiting : {v : World} {lines : List (List ℕ)}
        → Waits s.aliases s.held.node [] lines s.held.jobs s.held.aliases → s.held.jobs ≢ []
        → Enters (openings_of custody making maker) w s.held.node (Ok tt) v → IsReached w
        → Ties custody making maker s.crews v → Stands s w lines

  -- where no line waits, no alias is to be set
  none_set : (s : Crews) (w : World) (lines : List (List ℕ)) → Stands s w lines
      → s.held.jobs ≡ [] → s.held.aliases ≡ []
  none_set s w lines (idle none no_alias ties) empty = no_alias
  none_set s w lines (waiting waits some enters reached ties) empty = absurd (some empty)

  -- ---- a batch ends

  -- the lines that waited are answered, and none waits
  pub record Ended (s : Crews) (w : World) (lines : List (List ℕ)) (replies : List Reply)
      (new : Crews)
      : Type 0 where
    pub world : World
    pub run : Run (openings_of custody making maker) (plain w s.aliases) lines
        (replied_all replies) (plain world new.aliases)
    pub ties : Ties custody making maker new.crews world
    pub none : new.held ≡ none_held
    pub extends : Extends s.held.aliases s.aliases new.aliases

  -- the crew of a node that is there is there
  not_unopened : (crews : CrewsOver K M) (w : World) (number : ℕ) (s : KeptNode)
      → IsWorldOf crews w → fin.get w.nodes number ≡ Some s → ¬ IsUnopened crews number
  not_unopened crews w number s stands at none =
      by (fin.get crews.crews number) (fin.get w.nodes number) none at (stands.nodes number)
    where
      by : (c : Option (Option (CrewOver K))) (n : Option KeptNode) → c ≡ None → n ≡ Some s
          → ¬ AreTied c n
      by None None none at tied = absurd (cc)
      by None (Some x) none at tied = tied
      by (Some c) n none at tied = absurd (cc)

  -- no batch of such a crew is refused
  never_unbegun : (old : CrewsOver K M) (v : World) (number : ℕ) (jobs : List AnyJob)
      (fault : Fault) (result : Result (List Reply) Fault) (new : CrewsOver K M)
      → Ties custody making maker old v
      → ((s : KeptNode) × (fin.get v.nodes number ≡ Some s)) → fault ≢ faults.Refused Memory
      → ServesBatch custody old number jobs [] result new → result ≢ Err fault
  never_unbegun old v number jobs fault result new ties there fed
      (ServesBatch.served at served) is = cc
  never_unbegun old v number jobs fault result new ties there fed
      (ServesBatch.unbegun {crew} {fault = why} at (inl stopped) unbegun still) is =
      let runs = (ties.sound number crew at).runs in let two = stopped.1 in cc
  never_unbegun old v number jobs fault result new ties there fed
      (ServesBatch.unbegun {fault = why} at (inr memory) unbegun still) is =
      let same : why ≡ fault = cc in fed (sym same ∙ memory)
  never_unbegun old v number jobs fault result new ties there fed ServesBatch.no_room is =
      let same : faults.Refused Memory ≡ fault = cc in fed (sym same)
  never_unbegun old v number jobs fault result new ties there fed (ServesBatch.no_crew none) is =
      not_unopened old v number there.0 ties.stands there.1 none

  -- of jobs that are all refused so the first is
  first_refused : (jobs : List AnyJob) (reply : Reply) → jobs ≢ []
      → All IsSure (replied_all (map (λ _. reply) jobs)) → IsSure (said (replied reply))
  first_refused [] reply some sure = absurd (some refl)
  first_refused (job ∷ jobs) reply some sure = All-head IsSure (said (replied reply)) _ sure

  served_ends : (s : Crews) (w v : World) (lines : List (List ℕ)) (crews : CrewsOver K M)
      (result : Result (List Reply) Fault)
      → Waits s.aliases s.held.node [] lines s.held.jobs s.held.aliases → s.held.jobs ≢ []
      → Enters (openings_of custody making maker) w s.held.node (Ok tt) v → IsReached w
      → Ties custody making maker s.crews v
      → ServesBatch custody s.crews s.held.node s.held.jobs [] result crews
      → LeavesWell custody crews → All IsSure (replied_all (replies_to s.held.jobs result))
      → Ended s w lines (replies_to s.held.jobs result) (record {
        crews = crews;
        aliases = named_all s.aliases s.held.aliases (replies_to s.held.jobs result);
        held = none_held;
      })
  served_ends s w v lines crews (Ok replies) waits some enters reached ties serves well sure =
      let leads =
      jobs_lead s.crews crews v s.held.node s.held.jobs replies ties.stands ties.sound well.sound
      well.few (are_asked waits) serves in
      let run =
      runs_held (openings_of custody making maker) s.held.node s.aliases w v leads.world replies
      waits some enters leads.completes in
      record {
        world = leads.world;
        run = run;
        ties = record {
          stands = leads.stands;
          sound = well.sound;
          held = batch_held custody s.crews s.held.node s.held.jobs [] (Ok replies) crews ties.held
              well.sound well.whole serves;
          allows = subst (λ m. AllowsNoMore making maker m)
              (sym (batch_maker custody s.crews s.held.node s.held.jobs []
              (Ok replies) crews serves))
              ties.allows;
          reached = reached_run (plain w s.aliases) (plain leads.world _) lines
              (replied_all replies) reached run;
        };
        none = refl;
        extends = named_all_extends s.aliases s.held.aliases replies;
      }
  served_ends s w v lines crews (Err fault) waits some enters reached ties serves well sure =
      let fine = sure_fault fault (first_refused s.held.jobs (outcome.Refused fault) some sure) in
      absurd (never_unbegun s.crews v s.held.node s.held.jobs fault (Err fault) crews ties
      (enters_there enters) fine.0 serves refl)

  pub batch_ends : (s new : Crews) (w : World) (lines : List (List ℕ)) (replies : List Reply)
      → Stands s w lines → EndsBatch (calls_well custody making) s replies new
      → All IsSure (replied_all replies) → Ended s w lines replies new
  batch_ends s new w lines replies (idle none no_alias ties) (EndsBatch.idle empty) sure = record {
    world = w;
    run = refl;
    ties = ties;
    none = refl;
    extends = subst (λ l. Extends l s.aliases s.aliases) (sym no_alias) (extends_none s.aliases);
  }
  batch_ends s new w lines replies (idle none no_alias ties) (EndsBatch.served some serves) sure =
      absurd (some none)
  batch_ends s new w lines replies (idle none no_alias ties) (EndsBatch.no_room some alias) sure =
      absurd (some none)
  batch_ends s new w lines replies (waiting waits some enters reached ties)
      (EndsBatch.idle empty) sure =
      absurd (some empty)
  batch_ends s new w lines replies (waiting {v} waits some enters reached ties)
      (EndsBatch.served {result = result} {crews = crews} more serves) sure =
      served_ends s w v lines crews result waits some enters reached ties serves.0 serves.1 sure
  batch_ends s new w lines replies (waiting waits some enters reached ties)
      (EndsBatch.no_room more alias) sure =
      absurd (not_starved (first_refused s.held.jobs starved some sure))

  -- ---- a line

  -- Some of the lines that waited, and this one, are answered, and the others wait.
  pub record Turned (s : Crews) (w : World) (lines : List (List ℕ)) (line : List ℕ)
      (replies : List Reply) (answer : Answer) (new : Crews) : Type 0 where
    pub done : List (List ℕ)
    pub still : List (List ℕ)
    pub split : lines ++ line ∷ [] ≡ done ++ still
    pub world : World
    pub answers : List Answer
    pub run : Run (openings_of custody making maker) (plain w s.aliases) done answers
        (plain world new.aliases)
    pub stands : Stands new world still
    pub text_is : (number : ℕ) → replies_text replies ++ text_of (number + length lines) answer
        ≡ texts (outputs_from number answers)
    pub status_is : (number : ℕ) → max (worst_reply replies) (status_of answer)
        ≡ worst (outputs_from number answers)
    pub sure : All IsSure answers

  reached_turn : (p new : Session) (line : List ℕ) (answer : Answer) → IsReached p.world
      → Turn (openings_of custody making maker) p line answer new → IsReached new.world
  reached_turn p new line answer reached turn =
      reached_run p new (line ∷ []) (answer ∷ []) reached (new, turn, refl)

  -- the line is answered too, and none waits
  answered_now : (s between new : Crews) (w w2 : World) (lines : List (List ℕ)) (line : List ℕ)
      (replies : List Reply) (answer : Answer) → (ended : Ended s w lines replies between)
      → All IsSure (replied_all replies) → IsSure answer
      → Turn (openings_of custody making maker) (plain ended.world between.aliases) line answer
      (plain w2 new.aliases)
      → Ties custody making maker new.crews w2 → new.held ≡ none_held
      → Turned s w lines line replies answer new
  answered_now s between new w w2 lines line replies answer ended sure sure_too turn ties none =
      let each = run_each _ _ _ lines (replied_all replies) ended.run in
      record {
        done = lines ++ line ∷ [];
        still = [];
        split = sym (append-nil (lines ++ line ∷ []));
        world = w2;
        answers = replied_all replies ++ answer ∷ [];
        run = run_on (openings_of custody making maker) (plain w s.aliases)
            (plain ended.world between.aliases) (plain w2 new.aliases) lines (line ∷ [])
            (replied_all replies) (answer ∷ []) ended.run (plain w2 new.aliases, turn, refl);
        stands = idle (ap (λ (h : HeldJobs). h.jobs) none) (ap (λ (h : HeldJobs). h.aliases) none)
            ties;
        text_is = λ number. texts_with number (length lines) replies answer each;
        status_is = λ number. worst_with number (length lines) replies answer each;
        sure = All-append IsSure (replied_all replies) (answer ∷ []) sure
            (All-cons IsSure answer [] sure_too (All-nil IsSure));
      }

  -- ---- what was heard, once the batch has ended

  abbrev Fits : Table → Option (List ℕ) → Type 0
  Fits table alias = (alias ≡ None) ⊎ (length table < 1024)

  -- the line means this where its alias fits, and is none of the script where it does not
  record IsMeant (table : Table) (bytes : List ℕ) (line : Line) (alias : Option (List ℕ))
      : Type 0 where
    pub fits : Fits table alias → IsMeaning table bytes line alias
    pub full : ¬ Fits table alias → IsReading table bytes reading.Bad
    pub unnamed : makes line ≡ false → alias ≡ None

  abbrev IsHeardNow : Table → List ℕ → Option Reading → Type 0
  IsHeardNow table bytes None = Unit {0}
  IsHeardNow table bytes (Some reading.Quiet) = IsReading table bytes reading.Quiet
  IsHeardNow table bytes (Some reading.Bad) = IsReading table bytes reading.Bad
  IsHeardNow table bytes (Some (reading.Means line alias)) = IsMeant table bytes line alias

  fits_so : (table : Table) (bytes : List ℕ) (line : Line) (alias : Option (List ℕ))
      → IsMeaning table bytes line alias → Fits table alias
  fits_so table bytes line None means = inl refl
  fits_so table bytes line (Some alias) means = inr means.said.room

  unnamed_so : (table : Table) (bytes : List ℕ) (line : Line) (alias : Option (List ℕ))
      → IsMeaning table bytes line alias → makes line ≡ false → alias ≡ None
  unnamed_so table bytes line None means none = refl
  unnamed_so table bytes line (Some alias) means none = let made = means.said.made in absurd (cc)

  -- read behind it
  heard_behind : (table : Table) (bytes : List ℕ) (heard : Option Reading)
      → IsHeard table bytes heard → IsHeardNow table bytes heard
  heard_behind table bytes None is = tt
  heard_behind table bytes (Some reading.Quiet) is = is
  heard_behind table bytes (Some reading.Bad) is = is
  heard_behind table bytes (Some (reading.Means line alias)) is = record {
    fits = λ room. is;
    full = λ none. absurd (none (fits_so table bytes line alias is));
    unnamed = unnamed_so table bytes line alias is;
  }

  -- or before
  heard_before : (held : HeldJobs) (old new : Table) (bytes : List ℕ) (heard : Option Reading)
      → (held.jobs ≡ [] → held.aliases ≡ []) → ¬ NamesHeld held bytes
      → Extends held.aliases old new → IsHeard old bytes heard → IsHeardNow new bytes heard
  heard_before held old new bytes None none free extends is = tt
  heard_before held old new bytes (Some reading.Quiet) none free extends is = is
  heard_before held old new bytes (Some reading.Bad) none free extends is =
      bad_then_held held none free extends is
  heard_before held old new bytes (Some (reading.Means line alias)) none free extends is = record {
    fits = λ room. meaning_then_held held none free extends is room;
    full = full_by alias is;
    unnamed = unnamed_so old bytes line alias is;
  }
    where
      full_by : (alias : Option (List ℕ)) → IsMeaning old bytes line alias → ¬ Fits new alias
          → IsReading new bytes reading.Bad
      full_by None is lacks = absurd (lacks (inl refl))
      full_by (Some alias) is lacks = full_then_held held none free extends is (λ less. lacks
          (inr less))

  ends_of : (s between : Crews) (bytes : List ℕ) (heard : Option Reading) (replies : List Reply)
      → EndsBefore (calls_well custody making) s bytes heard replies between
      → EndsBatch (calls_well custody making) s replies between
  ends_of s between bytes heard replies (EndsBefore.named names ends is) = ends
  ends_of s between bytes heard replies (EndsBefore.other free is on ends) = ends

  heard_now : (s between : Crews) (bytes : List ℕ) (heard : Option Reading) (replies : List Reply)
      → (s.held.jobs ≡ [] → s.held.aliases ≡ [])
      → Extends s.held.aliases s.aliases between.aliases
      → EndsBefore (calls_well custody making) s bytes heard replies between
      → IsHeardNow between.aliases bytes heard
  heard_now s between bytes heard replies none extends (EndsBefore.named names ends is) =
      heard_behind between.aliases bytes heard is
  heard_now s between bytes heard replies none extends (EndsBefore.other free is on ends) =
      heard_before s.held s.aliases between.aliases bytes heard none free extends is

  -- ---- what is answered then

  other_makes : (line : Line) → is_other line ≡ true → makes line ≡ false
  other_makes (Node number (request.Job job)) other = absurd (cc)
  other_makes (Node number (request.Begin pid order)) other = refl
  other_makes (Node number (request.Deliver packet)) other = refl
  other_makes (Node number (request.BeginDeliver packet)) other = refl
  other_makes (Node number request.Tell) other = refl
  other_makes (Node number request.Save) other = refl
  other_makes (Node number request.Publish) other = refl
  other_makes (Node number request.Cancel) other = refl
  other_makes (Node number (request.Restart keeps)) other = refl
  other_makes (Node number request.Text) other = refl
  other_makes (Node number (request.Check bytes)) other = refl
  other_makes (Union first second) other = refl
  other_makes Audit other = refl
  other_makes Aliases other = absurd (cc)

  renamed_unnamed : (table : Table) (alias : Option (List ℕ)) (answer : Answer) → alias ≡ None
      → table ≡ renamed table alias (made_by answer)
  renamed_unnamed table None answer none = refl
  renamed_unnamed table (Some alias) answer none = absurd (cc)

  none_named : (line : List ℕ) → ¬ IsNamedIn [] line
  none_named line named = omega (arith, named.begins.listed.1)

  -- no alias is to be set: so there is room where there is
  fits_for : (table : Table) (held : HeldJobs) (alias : Option (List ℕ)) → held ≡ none_held
      → HasRoomFor table held alias → Fits table alias
  fits_for table held alias none (inl is) = inl is
  fits_for table held alias none (inr less) =
      let zero = ap (λ (h : HeldJobs). count_set h.aliases) none in inr (omega (arith, zero, less))

  room_for : (table : Table) (held : HeldJobs) (alias : Option (List ℕ)) → held ≡ none_held
      → Fits table alias → HasRoomFor table held alias
  room_for table held alias none (inl is) = inl is
  room_for table held alias none (inr less) =
      let zero = ap (λ (h : HeldJobs). count_set h.aliases) none in inr (omega (arith, zero, less))

  module _ (s between : Crews) (w : World) (lines : List (List ℕ)) (line : List ℕ)
      (replies : List Reply) (ended : Ended s w lines replies between) (shared : IsShared line)
      (sure : All IsSure (replied_all replies)) where
    bad_turn : (new : Crews) → new ≡ between → IsReading between.aliases line reading.Bad
        → Turned s w lines line replies bad_line new
    bad_turn new same bad =
        subst (λ n. Turned s w lines line replies bad_line n) (sym same)
        (answered_now s between between w ended.world lines line replies bad_line ended sure tt
        (inl (record { reading = reading.Bad; says = bad; answered = (refl, refl) })) ended.ties
        ended.none)

    asks_turn : (asked : Line) (alias : Option (List ℕ)) (what : Said) (crews : CrewsOver K M)
        → IsMeant between.aliases line asked alias → is_other asked ≡ true
        → (calls_well custody making).responds between.crews asked what crews
        → IsSure (said what)
        → Turned s w lines line replies (said what) (record between { crews = crews })
    asks_turn asked alias what crews meant other call fine =
        let none = meant.unnamed (other_makes asked other) in
        let says = meant.fits (inl none) in
        let share = shared.shared between.aliases asked alias says in
        let meets =
        responds custody making told crew_opens crew_restarts packet_leads maker between.crews
        ended.world between.aliases ended.ties asked what crews call.1 fine share other call.0 in
        let turn : Turn (openings_of custody making maker) (plain ended.world between.aliases) line
        (said what) (plain meets.world between.aliases) =
        inl (record {
          reading = reading.Means asked alias;
          says = says;
          answered = record {
            answered = meets.steps;
            named = renamed_unnamed between.aliases alias (said what) none;
          };
        }) in
        answered_now s between (record between { crews = crews }) w meets.world lines line replies
        (said what) ended sure fine turn
        (record {
          stands = meets.stands;
          sound = call.1.sound;
          held = responds_held custody making between.crews ended.ties.held asked what crews call.1
              call.0;
          allows = meets.allows;
          reached = reached_turn (plain ended.world between.aliases)
              (plain meets.world between.aliases) line (said what) ended.ties.reached turn;
        }) ended.none

    shut_turn : (node : ℕ) (job : AnyJob) (alias : Option (List ℕ)) (fault : Fault)
        (crews : CrewsOver K M)
        → IsMeaning between.aliases line (Node node (request.Job job)) alias
        → (calls_well custody making).opens between.crews node (Err fault) crews
        → IsSure (said (replied (outcome.Refused fault)))
        → Turned s w lines line replies (said (replied (outcome.Refused fault)))
        (record between { crews = crews })
    shut_turn node job alias fault crews says call fine =
        let why = sure_fault fault fine in
        let meets =
        opens_err custody making told crew_opens maker between.crews ended.world node fault
        crews
        ended.ties why.0 why.1 call.1.sound call.0 in
        let answer = said (replied (outcome.Refused fault)) in
        let turn : Turn (openings_of custody making maker) (plain ended.world between.aliases) line
        answer (plain meets.world between.aliases) =
        inl (record {
          reading = reading.Means (Node node (request.Job job)) alias;
          says = says;
          answered = record {
            answered = AnswersLine.asks (entering.shut meets.steps);
            named = sym (renamed_none between.aliases alias (made_by answer) refl);
          };
        }) in
        answered_now s between (record between { crews = crews }) w meets.world lines line replies
        answer ended sure fine turn
        (record {
          stands = meets.stands;
          sound = call.1.sound;
          held = opens_held custody making between.crews node (Err fault) crews ended.ties.held
              call.1.sound call.0;
          allows = meets.allows;
          reached = reached_turn (plain ended.world between.aliases)
              (plain meets.world between.aliases) line answer ended.ties.reached turn;
        }) ended.none

    -- the line waits
    holds_turn : (node : ℕ) (job : AnyJob) (alias : Option (List ℕ)) (crews : CrewsOver K M)
        → IsMeaning between.aliases line (Node node (request.Job job)) alias
        → Fits between.aliases alias
        → (calls_well custody making).opens between.crews node (Ok tt) crews
        → Turned s w lines line replies silence
        (record between { crews = crews; held = with_job none_held node job alias })
    holds_turn node job alias crews says room call =
        let meets =
        opens_ok custody making told crew_opens maker between.crews ended.world node crews
        ended.ties
        call.1.sound call.0 in
        record {
          done = lines;
          still = line ∷ [];
          split = refl;
          world = ended.world;
          answers = replied_all replies;
          run = ended.run;
          stands = waiting (Waits.one_line (none_named line) says
              (room_for between.aliases none_held alias refl room) Waits.no_line)
              (snoc_some [] job) meets.steps ended.ties.reached
              (record {
                stands = meets.stands;
                sound = call.1.sound;
                held = opens_held custody making between.crews node (Ok tt) crews ended.ties.held
                    call.1.sound call.0;
                allows = meets.allows;
                reached = reached_enters (openings_of custody making maker) ended.world meets.world
                    node (Ok tt)
                    ended.ties.reached meets.steps;
              });
          text_is = λ number. texts_alone number replies;
          status_is = λ number. worst_alone number replies;
          sure = sure;
        }

    now_turned : (new : Crews) (heard : Option Reading) (answer : Answer)
        → IsHeardNow between.aliases line heard → All IsSure (own_answers answer)
        → AnswersNow (calls_well custody making) between heard answer new
        → Turned s w lines line replies answer new
    now_turned new heard answer is fine AnswersNow.quiet =
        answered_now s between between w ended.world lines line replies silence ended sure tt
        (inl (record { reading = reading.Quiet; says = is; answered = (refl, refl) })) ended.ties
        ended.none
    now_turned new heard answer is fine AnswersNow.bad = bad_turn between refl is
    now_turned new heard answer is fine AnswersNow.unread =
        absurd (not_starved (All-head IsSure (said (replied starved)) [] fine))
    now_turned new heard answer is fine (AnswersNow.lists {alias}) =
        answered_now s between between w ended.world lines line replies (listed between.aliases)
        ended sure tt
        (inl (record {
          reading = reading.Means Aliases alias;
          says = is.fits (inl (is.unnamed refl));
          answered = record {
            answered = AnswersLine.lists;
            named = sym (renamed_none between.aliases alias (made_by
                (listed between.aliases)) refl);
          };
        })) ended.ties ended.none
    now_turned new heard answer is fine
        (AnswersNow.asks {line = asked} {alias = alias} {what = what} {crews = crews} other call) =
        asks_turn asked alias what crews is other call (All-head IsSure (said what) [] fine)
    now_turned new heard answer is fine (AnswersNow.full {alias = alias} lacks) =
        bad_turn between refl (is.full (λ room. lacks (room_for between.aliases between.held alias
        ended.none room)))
    now_turned new heard answer is fine
        (AnswersNow.shut {node} {job} {alias} {fault} {crews} room call) =
        shut_turn node job alias fault crews
        (is.fits (fits_for between.aliases between.held alias ended.none room)) call
        (All-head IsSure (said (replied (outcome.Refused fault))) [] fine)
    now_turned new heard answer is fine (AnswersNow.holds {node} {job} {alias} {crews} room call) =
        let fit = fits_for between.aliases between.held alias ended.none room in
        holds_turn node job alias crews (is.fits fit) fit call
    now_turned new heard answer is fine (AnswersNow.no_room room call) =
        absurd (not_starved (All-head IsSure (said (replied starved)) [] fine))

  -- ---- each line

  -- it waits too
  held_on : (s : Crews) (w : World) (lines : List (List ℕ)) (line : List ℕ) (node : ℕ)
      (job : AnyJob) (alias : Option (List ℕ)) → Stands s w lines → ¬ NamesHeld s.held line
      → IsMeaning s.aliases line (Node node (request.Job job)) alias → GoesOn s node alias
      → Stands (record s { held = with_job s.held node job alias }) w (lines ++ line ∷ [])
  held_on s w lines line node job alias (idle none no_alias ties) free says on =
      absurd (on.some none)
  held_on s w lines line node job alias (waiting {v} waits some enters reached ties) free says on =
      let more =
      waits_more [] waits
      (λ named. free (record { some = some; short = says.asking.text.short; named = named }))
      (subst (λ n. IsMeaning s.aliases line (Node n (request.Job job)) alias) (sym on.own) says)
      on.room in
      waiting (subst (λ n. Waits s.aliases n [] (lines ++ line ∷ []) (s.held.jobs ++ job ∷ [])
      (s.held.aliases ++ alias ∷ [])) on.own more) (snoc_some s.held.jobs job)
      (subst (λ n. Enters (openings_of custody making maker) w n (Ok tt) v) on.own enters) reached
      ties

  pub turned : (s new : Crews) (w : World) (lines : List (List ℕ)) (line : List ℕ)
      (replies : List Reply) (answer : Answer) → Stands s w lines → IsShared line
      → CrewTurn (calls_well custody making) s line replies answer new
      → All IsSure (replied_all replies ++ own_answers answer)
      → Turned s w lines line replies answer new
  turned s new w lines line replies answer stands shared
      (CrewTurn.waits {node} {job} {alias} free says on few) sure = record {
        done = [];
        still = lines ++ line ∷ [];
        split = refl;
        world = w;
        answers = [];
        run = refl;
        stands = held_on s w lines line node job alias stands free says on;
        text_is = λ number. refl;
        status_is = λ number. refl;
        sure = All-nil IsSure;
      }
  turned s new w lines line replies answer stands shared
      (CrewTurn.ends_behind {node} {job} {alias} free says on last ends) sure =
      let fine = all_left IsSure (replied_all replies) [] sure in
      let with_it = record s { held = with_job s.held node job alias } in
      let ended =
      batch_ends with_it new w (lines ++ line ∷ []) replies
      (held_on s w lines line node job alias stands free says on) ends fine in
      record {
        done = lines ++ line ∷ [];
        still = [];
        split = sym (append-nil (lines ++ line ∷ []));
        world = ended.world;
        answers = replied_all replies;
        run = ended.run;
        stands = idle (ap (λ (h : HeldJobs). h.jobs) ended.none)
            (ap (λ (h : HeldJobs). h.aliases) ended.none) ended.ties;
        text_is = λ number. texts_alone number replies;
        status_is = λ number. worst_alone number replies;
        sure = fine;
      }
  turned s new w lines line replies answer stands shared
      (CrewTurn.ends_before {heard} {between = between} before now) sure =
      let fine = all_left IsSure (replied_all replies) (own_answers answer) sure in
      let ended =
      batch_ends s between w lines replies stands (ends_of s between line heard replies before)
      fine in
      now_turned s between w lines line replies ended shared fine new heard answer
      (heard_now s between line heard replies (none_set s w lines stands) ended.extends before)
      (all_right IsSure (replied_all replies) (own_answers answer) sure) now
