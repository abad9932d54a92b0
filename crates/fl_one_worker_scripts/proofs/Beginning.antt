-- Before the first line of a script over crews of one worker, and its whole run.
use Rattle.std.proofs.Common.{◌≡◌, [], ℕ, List, Option, Some, None, refl, sym, subst}
use Rattle.std.specs.FinMap as fin
use Rattle.std.specs.List.{All}
use Rattle.std.specs.Ordering.{nat_cmp}
use Rattle.fl_calls.specs.Over.{openings_of}
use Rattle.fl_crew_calls.specs.Over.{CrewsOver, begun_crews}
use Rattle.fl_crew_turns.specs.Session.{CrewSession, begun_session}
use Rattle.fl_makers.specs.Making.{Making}
use Rattle.fl_store.specs.Custody.{Custody}
use Rattle.fl_system.specs.World.{KeptNode, empty_world}
use Rattle.fl_turn_laws.specs.Certain.{IsSure}
use Rattle.fl_workers.specs.Over.{CrewOver}
use Rattle.fl_one_worker_calls.specs.Crews.{AreTied}
use Rattle.fl_one_worker_scripts.specs.Alike.{IsRunWithout, calls_well}
use Rattle.fl_one_worker_scripts.specs.Shared.{IsShared}
use Rattle.fl_one_worker_scripts.specs.Written.{AnswersAll, all_answers, all_status, all_text}
use Rattle.fl_one_worker_scripts.proofs.Delivering.{PacketLeads}
use Rattle.fl_one_worker_scripts.proofs.Opening.{CrewOpens, ToldOf}
use Rattle.fl_one_worker_scripts.proofs.Restarting.{CrewRestarts}
use Rattle.fl_one_worker_scripts.proofs.Running.{JobsLead, Stands}
use Rattle.fl_one_worker_scripts.proofs.Ties.{Ties}
use Rattle.fl_one_worker_scripts.proofs.Walking.{walk}

module _ {K M : Type 0} (custody : Custody K) (making : Making M K) (maker : M) where
  no_crew : (number : ℕ) (crew : CrewOver K)
      → fin.get (fin.empty {X = Option (CrewOver K)} {R = nat_cmp}) number ≡ Some (Some crew) → ⊥
  no_crew number crew at =
      let none = fin.get-empty {X = Option (CrewOver K)} nat_cmp number in cc

  begun_ties : Ties custody making maker (begun_crews {K = K} maker 1) (empty_world 1)
  begun_ties = record {
    stands = record {
      desks = refl;
      workers = refl;
      nodes = λ number.
          subst (λ (n : Option KeptNode).
          AreTied (fin.get (fin.empty {X = Option (CrewOver K)} {R = nat_cmp}) number) n)
          (sym (fin.get-empty {X = KeptNode} nat_cmp number))
          (subst (λ (c : Option (Option (CrewOver K))). AreTied c None)
          (sym (fin.get-empty {X = Option (CrewOver K)} nat_cmp number)) tt);
      packets = refl;
    };
    sound = λ number crew at. absurd (no_crew number crew at);
    held = λ number crew at k may. absurd (no_crew number crew at);
    allows = record {
      makes = λ n keeper h. h;
      finds = λ n k h. h;
      unmade = λ n fault h. h;
      refuses = λ n fault h. h;
    };
    reached = record { desks = 1; moments = []; is_run = tt; leads = refl };
  }

module _ {K M : Type 0} (custody : Custody K) (making : Making M K) (told : ToldOf making)
    (crew_opens : CrewOpens K) (crew_restarts : CrewRestarts K) (jobs_lead : JobsLead M custody)
    (packet_leads : PacketLeads M custody) where
  -- with one worker a script is answered as it is without workers
  pub as_without : (maker : M) (lines : List (List ℕ)) (end : CrewSession (CrewsOver K M))
      (all : AnswersAll (calls_well custody making) (begun_session (begun_crews maker 1)) lines end)
      → All IsShared lines → All IsSure (all_answers all)
      → IsRunWithout (openings_of custody making maker) lines (all_text all) (all_status all) end
  as_without maker lines end all shared sure =
      let walked =
      walk custody making told crew_opens crew_restarts jobs_lead packet_leads maker 1
      (begun_session (begun_crews maker 1)) all.between end (empty_world 1) [] lines all.written
      all.replies (Stands.idle refl refl (begun_ties custody making maker)) shared all.run all.ends
      sure in
      record {
        world = walked.world;
        run = record {
          one_run = record {
            outputs = _;
            answered = record { answers = walked.answers; run = walked.run; outputs_are = refl };
            text_is = walked.text_is;
            status_is = walked.status_is;
          };
          sure = walked.sure;
        };
        stands = walked.stands;
      }
