-- All lines of a script over crews are a run of the world.
use Rattle.std.proofs.Common.{◌≡◌, ◌≤◌, ◌++◌, ◌∷◌, [], ℕ, List, Option, Some, None, Result, Ok, Err, refl, sym, subst}
use Rattle.std.proofs.Common.{arith}
use Rattle.std.specs.FinMap as fin
use Rattle.std.specs.Ordering.{nat_cmp}
use Rattle.fl_crew_calls.specs.Over.{CrewsOver, begun_crews}
use Rattle.fl_crew_turns.specs.Answered.{CrewRun, Written}
use Rattle.fl_crew_turns.specs.Batch.{EndsBatch}
use Rattle.fl_crew_turns.specs.Held.{HeldJobs, none_held}
use Rattle.fl_crew_turns.specs.Session.{CrewSession, begun_session}
use Rattle.fl_crew_turns.specs.Turn.{AnswersNow, CrewTurn, EndsBefore, IsHeard}
use Rattle.fl_jobs.specs.declared.job.Job.{Job as AnyJob}
use Rattle.fl_makers.specs.Making.{Making}
use Rattle.fl_script.specs.declared.line.Line.TheVariants.{Aliases, Audit, Node, Union}
use Rattle.fl_script.specs.declared.reading.Reading.{Reading}
use Rattle.fl_script.specs.declared.reading.Reading.TheVariants as reading
use Rattle.fl_script.specs.declared.request.Request.TheVariants as request
use Rattle.fl_store.specs.Custody.{Custody}
use Rattle.fl_system.specs.declared.answer.Fault.{Fault}
use Rattle.fl_system.specs.declared.reply.Reply.{Reply}
use Rattle.fl_system.specs.World.{KeptNode, World, empty_world}
use Rattle.fl_system.specs.WorldSteps.{IsArrival}
use Rattle.fl_turns.specs.Answer.{Answer}
use Rattle.fl_workers.specs.Over.{CrewOver}
use Rattle.fl_crew_world_laws.specs.Crews.{AreTied}
use Rattle.fl_crew_world_laws.specs.Standing.{RunsTo}
use Rattle.fl_crew_world_laws.proofs.Arriving.{comes_go}
use Rattle.fl_crew_world_laws.proofs.Batching.{JobsRun, PacketRuns, jobs_go}
use Rattle.fl_crew_world_laws.proofs.Opening.{opens_go}
use Rattle.fl_crew_world_laws.proofs.Responding.{responds_go, run_reached, run_then}
use Rattle.fl_crew_world_laws.proofs.Ties.{Goes, Ties}
use Rattle.fl_one_worker_calls.specs.Worlds.{AreAsked}
use Rattle.fl_one_worker_scripts.specs.Alike.{LeavesWell, calls_well}
use Rattle.fl_one_worker_scripts.specs.Written.{AnswersAll}
use Rattle.fl_one_worker_scripts.proofs.Batching.{is_asked}
use Rattle.fl_one_worker_scripts.proofs.Held.{batch_held}
use Rattle.fl_one_worker_scripts.proofs.Holding.{responds_held}
use Rattle.fl_one_worker_scripts.proofs.Opening.{opens_held}
use Rattle.fl_one_worker_scripts.proofs.Ties.{AreHeld}

asked_more : (jobs : List AnyJob) (job : AnyJob) → AreAsked jobs → ¬ IsArrival job
    → AreAsked (jobs ++ job ∷ [])
asked_more [] job asked other = (other, tt)
asked_more (first ∷ jobs) job asked other = (asked.0, asked_more jobs job asked.1 other)

module _ {K M : Type 0} (custody : Custody K) (making : Making M K) (jobs_run : JobsRun K)
    (packet_runs : PacketRuns K) where
  abbrev pub Crews : Type 0
  Crews = CrewSession (CrewsOver K M)

  -- a session between two lines, beside a world
  record Between (s : Crews) (w : World) : Type 0 where
    pub ties : Ties custody s.crews w
    pub asked : AreAsked s.held.jobs

  -- a run leads on, and the session is beside the world that it leads to
  record Onward (w : World) (new : Crews) : Type 0 where
    pub world : World
    pub run : RunsTo w world
    pub between : Between new world

  -- the crews went on, and no line waits
  onward : (old new : CrewsOver K M) (w : World) → Ties custody old w → LeavesWell custody new
      → AreHeld custody new → (goes : Goes w new) → Ties custody new goes.world
  onward old new w ties well held goes = record {
    stands = goes.stands;
    sound = well.sound;
    held = held;
    reached = run_reached w goes.world ties.reached goes.run;
  }

  none_asked : (held : HeldJobs) → held ≡ none_held → AreAsked held.jobs
  none_asked held none = subst (λ (h : HeldJobs). AreAsked h.jobs) (sym none) tt

  same : (w : World) → RunsTo w w
  same w = record { moments = []; is_run = tt; leads = refl }

  -- ---- a batch ends

  ends_on : (old new : Crews) (w : World) (replies : List Reply) → Between old w
      → EndsBatch (calls_well custody making) old replies new
      → Onward w new × (new.held ≡ none_held)
  ends_on old new w replies at (EndsBatch.idle empty) =
      (record { world = w; run = same w; between = record { ties = at.ties; asked = tt } }, refl)
  ends_on old new w replies at
      (EndsBatch.served {result = result} {crews = crews} some serves) =
      let goes =
      jobs_go custody jobs_run old.crews w old.held.node old.held.jobs result crews at.ties
      serves.1.sound at.asked serves.0 in
      let held =
      batch_held custody old.crews old.held.node old.held.jobs [] result crews at.ties.held
      serves.1.sound serves.1.whole serves.0 in (
        record {
          world = goes.world;
          run = goes.run;
          between = record {
            ties = onward old.crews crews w at.ties serves.1 held goes;
            asked = tt;
          };
        },
        refl,
      )
  ends_on old new w replies at (EndsBatch.no_room some alias) =
      (record { world = w; run = same w; between = record { ties = at.ties; asked = tt } }, refl)

  -- ---- what is answered then

  opens_on : (between : Crews) (w : World) (number : ℕ) (result : Result (Unit {0}) Fault)
      (crews : CrewsOver K M) → Ties custody between.crews w
      → (calls_well custody making).opens between.crews number result crews
      → (goes : Goes w crews) × Ties custody crews goes.world
  opens_on between w number result crews ties call =
      let goes =
      opens_go custody making between.crews w number result crews ties call.1.sound call.0 in
      let held =
      opens_held custody making between.crews number result crews ties.held call.1.sound call.0 in
      (goes, onward between.crews crews w ties call.1 held goes)

  -- what was heard is a job of a line
  abbrev IsJobs : Option Reading → Type 0
  IsJobs (Some (reading.Means (Node node (request.Job job)) alias)) = ¬ IsArrival job
  IsJobs heard = Unit {0}

  heard_jobs : (table : _) (bytes : List ℕ) (heard : Option Reading) → IsHeard table bytes heard
      → IsJobs heard
  heard_jobs table bytes (Some (reading.Means (Node node (request.Job job)) alias)) is =
      is_asked table bytes node job alias is
  heard_jobs table bytes None is = tt
  heard_jobs table bytes (Some reading.Quiet) is = tt
  heard_jobs table bytes (Some reading.Bad) is = tt
  heard_jobs table bytes (Some (reading.Means (Union first second) alias)) is = tt
  heard_jobs table bytes (Some (reading.Means Audit alias)) is = tt
  heard_jobs table bytes (Some (reading.Means Aliases alias)) is = tt
  heard_jobs table bytes (Some (reading.Means (Node node (request.Begin pid order)) alias)) is = tt
  heard_jobs table bytes (Some (reading.Means (Node node (request.Deliver packet)) alias)) is = tt
  heard_jobs table bytes (Some (reading.Means (Node node (request.BeginDeliver packet)) alias)) is =
      tt
  heard_jobs table bytes (Some (reading.Means (Node node request.Tell) alias)) is = tt
  heard_jobs table bytes (Some (reading.Means (Node node request.Save) alias)) is = tt
  heard_jobs table bytes (Some (reading.Means (Node node request.Publish) alias)) is = tt
  heard_jobs table bytes (Some (reading.Means (Node node request.Cancel) alias)) is = tt
  heard_jobs table bytes (Some (reading.Means (Node node (request.Restart keeps)) alias)) is = tt
  heard_jobs table bytes (Some (reading.Means (Node node request.Text) alias)) is = tt
  heard_jobs table bytes (Some (reading.Means (Node node (request.Check bits)) alias)) is = tt

  -- no crew changes
  stays : (between : Crews) (w : World) → Ties custody between.crews w
      → between.held ≡ none_held → Onward w between
  stays between w ties none = record {
    world = w;
    run = same w;
    between = record { ties = ties; asked = none_asked between.held none };
  }

  now_on : (between new : Crews) (w : World) (heard : Option Reading) (answer : Answer)
      → Ties custody between.crews w → between.held ≡ none_held → IsJobs heard
      → AnswersNow (calls_well custody making) between heard answer new → Onward w new
  now_on between new w heard answer ties none jobs AnswersNow.quiet =
      stays between w ties none
  now_on between new w heard answer ties none jobs AnswersNow.bad =
      stays between w ties none
  now_on between new w heard answer ties none jobs AnswersNow.unread =
      stays between w ties none
  now_on between new w heard answer ties none jobs AnswersNow.lists =
      stays between w ties none
  now_on between new w heard answer ties none jobs
      (AnswersNow.asks {line = line} {what = what} {crews = crews} other call) =
      let goes =
      responds_go custody making
      (λ mid v number index sent reply after sound so there comes. comes_go custody packet_runs mid
      v number index sent so there reply after sound comes) between.crews w line what crews call.1
      ties call.0 in
      let held =
      responds_held custody making between.crews ties.held line what crews call.1 call.0 in
      record {
        world = goes.world;
        run = goes.run;
        between = record {
          ties = onward between.crews crews w ties call.1 held goes;
          asked = none_asked between.held none;
        };
      }
  now_on between new w heard answer ties none jobs (AnswersNow.full _) =
      stays between w ties none
  now_on between new w heard answer ties none jobs
      (AnswersNow.shut {node} {fault = fault} {crews = crews} room call) =
      let it = opens_on between w node (Err fault) crews ties call in
      record {
        world = it.0.world;
        run = it.0.run;
        between = record { ties = it.1; asked = none_asked between.held none };
      }
  now_on between new w heard answer ties none jobs
      (AnswersNow.holds {node} {crews = crews} room call) =
      let it = opens_on between w node (Ok tt) crews ties call in
      record {
        world = it.0.world;
        run = it.0.run;
        between = record { ties = it.1; asked = (jobs, tt) };
      }
  now_on between new w heard answer ties none jobs
      (AnswersNow.no_room {node} {crews = crews} room call) =
      let it = opens_on between w node (Ok tt) crews ties call in
      record {
        world = it.0.world;
        run = it.0.run;
        between = record { ties = it.1; asked = none_asked between.held none };
      }

  -- ---- each line

  before_jobs : (old between : Crews) (bytes : List ℕ) (heard : Option Reading)
      (replies : List Reply)
      → EndsBefore (calls_well custody making) old bytes heard replies between
      → EndsBatch (calls_well custody making) old replies between × IsJobs heard
  before_jobs old between bytes heard replies (EndsBefore.named names ends is) =
      (ends, heard_jobs between.aliases bytes heard is)
  before_jobs old between bytes heard replies (EndsBefore.other free is on ends) =
      (ends, heard_jobs old.aliases bytes heard is)

  onward_then : (w v : World) (new : Crews) → RunsTo w v → Onward v new → Onward w new
  onward_then w v new first later = record {
    world = later.world;
    run = run_then w v later.world first later.run;
    between = later.between;
  }

  turn_on : (old new : Crews) (w : World) (line : List ℕ) (replies : List Reply)
      (answer : Answer) → Between old w
      → CrewTurn (calls_well custody making) old line replies answer new → Onward w new
  turn_on old new w line replies answer at
      (CrewTurn.waits {node} {job} {alias} free says on few) = record {
        world = w;
        run = same w;
        between = record {
          ties = at.ties;
          asked = asked_more old.held.jobs job at.asked
              (is_asked old.aliases line node job alias says);
        };
      }
  turn_on old new w line replies answer at
      (CrewTurn.ends_behind {node} {job} {alias} free says on last ends) =
      (ends_on _ new w replies (record {
        ties = at.ties;
        asked = asked_more old.held.jobs job at.asked
            (is_asked old.aliases line node job alias says);
      }) ends).0
  turn_on old new w line replies answer at
      (CrewTurn.ends_before {heard} {between = between} before now) =
      let both = before_jobs old between line heard replies before in
      let ended = ends_on old between w replies at both.0 in
      onward_then w ended.0.world new ended.0.run
      (now_on between new ended.0.world heard answer ended.0.between.ties ended.1 both.1 now)

  lines_on : (old new : Crews) (w : World) (lines : List (List ℕ)) (written : List Written)
      → Between old w → CrewRun (calls_well custody making) old lines written new → Onward w new
  lines_on old new w [] [] at run = record {
    world = w;
    run = same w;
    between = subst (λ (s : Crews). Between s w) (sym run) at;
  }
  lines_on old new w [] (one ∷ written) at run = absurd run
  lines_on old new w (line ∷ lines) [] at run = absurd run
  lines_on old new w (line ∷ lines) (one ∷ written) at (mid, turn, rest) =
      let first = turn_on old mid w line one.replies one.answer at turn in
      onward_then w first.world new first.run
      (lines_on mid new first.world lines written first.between rest)

  -- ---- from the first line on

  no_crew : (number : ℕ) (crew : CrewOver K)
      → fin.get (fin.empty {X = Option (CrewOver K)} {R = nat_cmp}) number ≡ Some (Some crew) → ⊥
  no_crew number crew at =
      let none = fin.get-empty {X = Option (CrewOver K)} nat_cmp number in cc

  begun : (maker : M) (workers : ℕ) → 1 ≤ workers
      → Between (begun_session (begun_crews {K = K} maker workers)) (empty_world workers)
  begun maker workers some = record {
    ties = record {
      stands = record {
        some = some;
        desks = refl;
        nodes = λ number.
            subst (λ (n : Option KeptNode). AreTied workers
            (fin.get (fin.empty {X = Option (CrewOver K)} {R = nat_cmp}) number) n)
            (sym (fin.get-empty {X = KeptNode} nat_cmp number))
            (subst (λ (c : Option (Option (CrewOver K))). AreTied workers c None)
            (sym (fin.get-empty {X = Option (CrewOver K)} nat_cmp number)) tt);
        sent = λ packet among. absurd (omega (arith, among.1));
      };
      sound = λ number crew at. absurd (no_crew number crew at);
      held = λ number crew at k may. absurd (no_crew number crew at);
      reached = record { desks = workers; moments = []; is_run = tt; leads = refl };
    };
    asked = tt;
  }

  -- a script over crews is a run of a world
  pub record IsRunOf (end : CrewsOver K M) (workers : ℕ) : Type 0 where
    pub world : World
    pub ties : Ties custody end world
    pub run : RunsTo (empty_world workers) world

  pub script_on : (maker : M) (workers : ℕ) (lines : List (List ℕ)) (end : Crews) → 1 ≤ workers
      → AnswersAll (calls_well custody making) (begun_session (begun_crews maker workers)) lines end
      → IsRunOf end.crews workers
  script_on maker workers lines end some all =
      let through =
      lines_on (begun_session (begun_crews maker workers)) all.between (empty_world workers) lines
      all.written (begun maker workers some) all.run in
      let last = ends_on all.between end through.world all.replies through.between all.ends in
      record {
        world = last.0.world;
        ties = last.0.between.ties;
        run = run_then (empty_world workers) through.world last.0.world through.run last.0.run;
      }
