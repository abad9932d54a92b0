-- A batch of a crew is a run of the world, or changes nothing there.
use Rattle.std.proofs.Common.{◌≡◌, ◌<◌, ◌∙◌, ◌∷◌, [], ℕ, List, length, Some, Result}
use Rattle.std.proofs.Common.{false, refl, sym, subst, arith}
use Rattle.std.specs.List.{Contains}
use Rattle.fl_bench.specs.Bench.{BenchState}
use Rattle.fl_crew_model.specs.Books.{Books}
use Rattle.fl_crew_model.specs.Crews.{IsCrew}
use Rattle.fl_jobs.specs.declared.job.Job.{Job}
use Rattle.fl_store.specs.Custody.{Custody}
use Rattle.fl_system.specs.declared.answer.Fault.{Fault}
use Rattle.fl_system.specs.declared.reply.Reply.{Reply}
use Rattle.fl_system.specs.declared.sent.Sent.{Sent}
use Rattle.fl_system.specs.Numbered.{item_at}
use Rattle.fl_system.specs.State.{NodeState}
use Rattle.fl_system.specs.World.{World}
use Rattle.fl_wire.specs.declared.packet.Packet.{Packet}
use Rattle.fl_workers.specs.Batches.{IsStill, IsUnbegun}
use Rattle.fl_workers.specs.Over.{CrewOver, bench_at, books_of}
use Rattle.fl_crew_calls.specs.Asking.{is_window}
use Rattle.fl_crew_calls.specs.Batches.{IsServedBy, ServesBatch}
use Rattle.fl_crew_calls.specs.Over.{CrewsOver, IsCrewAt, with_crew, with_sent}
use Rattle.fl_dealing.specs.declared.entry.Entry.{Entry}
use Rattle.fl_one_worker_calls.specs.Crews.{AreSound, IsSound}
use Rattle.fl_bench.specs.laws.Puts.{get_here}
use Rattle.fl_system.specs.Runs.{Moment, end}
use Rattle.std.specs.Cmp.{nat_cmp_total}
use Rattle.std.proofs.lemmas.List.Elements.{Contains-append_left, Contains-append_right}
use Rattle.fl_crew_calls.specs.Told.{all_sent}
use Rattle.fl_crew_worlds.specs.Worlds.{AreAmong, IsDone, IsNodeOf, Leads, RunsJobs, RunsPacket, Stands}
use Rattle.fl_crew_world_laws.proofs.Ties.{Goes, Ties, place_at, placed, rests, without_more}
use Rattle.fl_one_worker_calls.specs.Worlds.{AreAsked}

-- a node of a crew is one of another with the same list, benches and saved operations
still_node : {K : Type 0} (old new : CrewOver K) (n : NodeState) → IsUnbegun old new
    → IsNodeOf old n → IsNodeOf new n
still_node old new n same node =
    let books : books_of new ≡ books_of old =
    (λ i. record { saved = same.node.saved i; list = same.list i; due = same.due i }) in
    record {
      crew =
          subst (λ (k : ℕ). IsCrew k new.size n (books_of new) (bench_at new.benches)
          (λ w. length new.list)) (sym same.node.number)
          (subst (λ (d : ℕ). IsCrew old.node.node.number d n (books_of new) (bench_at new.benches)
          (λ w. length new.list)) (sym same.size)
          (subst (λ (b : Books). IsCrew old.node.node.number old.size n b (bench_at new.benches)
          (λ w. length new.list)) (sym books)
          (subst (λ (bs : List BenchState). IsCrew old.node.node.number old.size n (books_of old)
          (bench_at bs) (λ w. length new.list)) (sym same.benches)
          (subst (λ (l : List _). IsCrew old.node.node.number old.size n (books_of old)
          (bench_at old.benches) (λ w. length l)) (sym same.list) node.crew))));
      boot = node.boot ∙ sym same.node.boot;
      births = subst (λ (d : ℕ). n.procs < d) (sym same.size) node.births;
      births_here =
          (let size = same.size in let procs = same.procs in let before = node.births_here in
          omega (arith, size, procs, before));
    }

-- what the law of batches says
abbrev pub JobsRun : Type 0 → Type 0
JobsRun K =
    (w : World) (number : ℕ) (old new : CrewOver K) (jobs : List Job) (es : List Entry)
    → Stands w number old → IsDone old new jobs [] es → AreAsked jobs
    → RunsJobs w number new jobs es

abbrev pub PacketRuns : Type 0 → Type 0
PacketRuns K =
    (w : World) (number index : ℕ) (sent : Sent) (old new : CrewOver K) (es : List Entry)
    → Stands w number old → item_at w.packets index ≡ Some sent → is_window sent.packet ≡ false
    → IsDone old new [] (sent.packet ∷ []) es → RunsPacket w number new index es

module _ {K : Type 0} (custody : Custody K) where
  -- what a crew was seen to serve, where its keepers may be trusted
  pub is_done : (old new : CrewOver K) (jobs : List Job) (packets : List Packet) (es : List Entry)
      → IsSound custody new → IsServedBy custody old new jobs packets es
      → IsDone old new jobs packets es
  is_done old new jobs packets es sound served =
      let passed = (served.serves sound.trusts.honest).1 sound.trusts.kept sound.trusts.held in
      record {
        runs = sound.runs;
        still = served.still;
        count = served.count;
        procs = served.procs;
        served = passed.2.served;
      }

module _ {K M : Type 0} (custody : Custody K) where
  -- none was begun
  pub unbegun_goes : (old : CrewsOver K M) (w : World) (number : ℕ) (crew crew' : CrewOver K)
      → Ties custody old w → IsCrewAt old number crew → IsUnbegun crew crew'
      → Goes w (with_crew old number crew')
  unbegun_goes old w number crew crew' ties at same =
      let it = place_at old w number crew ties.stands at in
      rests w (with_crew old number crew')
      (without_more old w number crew'
      (placed old w w number crew' old.maker [] it.place ties.stands it.there
      (record {
        size = same.size ∙ it.is_place.size;
        is_node = still_node crew crew' it.place.node same it.is_place.is_node;
        kept = it.is_place.kept;
      }) (record { desks = refl; others = λ other ne. refl }) (λ s among. among)
      (λ packet among. absurd (omega (arith, among.1)))))

  pub stands_so : (old : CrewsOver K M) (w : World) (number : ℕ) (crew : CrewOver K)
      → Ties custody old w → IsCrewAt old number crew → Stands w number crew
  stands_so old w number crew ties at =
      let it = place_at old w number crew ties.stands at in
      record {
        place = it.place;
        there = it.there;
        is_node = it.is_place.is_node;
        kept = it.is_place.kept;
      }

  -- what was served is a run, behind which the crews stand for the world
  pub served_goes : (old : CrewsOver K M) (w : World) (number : ℕ) (crew crew' : CrewOver K)
      (es : List Entry) (ms : List Moment) (more : List Sent) → Ties custody old w
      → IsCrewAt old number crew → IsStill crew crew' → AreAmong (all_sent es) more
      → Leads w number crew' ms more
      → Goes w (with_sent (with_crew old number crew') (all_sent es))
  served_goes old w number crew crew' es ms more ties at still sends leads =
      let it = place_at old w number crew ties.stands at in
      let stands = leads.stands in
      record {
        world = end w ms;
        run = record { moments = ms; is_run = leads.is_run; leads = refl };
        stands =
            placed old w (end w ms) number crew' old.maker (all_sent es) stands.place ties.stands
            stands.there
            (record {
              size = still.size ∙ it.is_place.size;
              is_node = stands.is_node;
              kept = stands.kept;
            }) leads.elsewhere
            (λ s among. subst (λ (l : List Sent). Contains l s) (sym leads.packets)
            (Contains-append_left w.packets more s among))
            (λ packet among. let sent = sends packet among in (
              sent.0,
              subst (λ (l : List Sent). Contains l sent.0) (sym leads.packets)
                  (Contains-append_right w.packets more sent.0 sent.1),
              sent.2,
            ));
      }

  pub jobs_go : JobsRun K → (old : CrewsOver K M) (w : World) (number : ℕ) (jobs : List Job)
      (result : Result (List Reply) Fault) (new : CrewsOver K M) → Ties custody old w
      → AreSound custody new
      → AreAsked jobs → ServesBatch custody old number jobs [] result new → Goes w new
  jobs_go runs old w number jobs result new ties sound asked
      (ServesBatch.served {crew} {crew'} {es} at served) =
      let good = sound number crew' (get_here nat_cmp_total old.crews number (Some crew')) in
      let it =
      runs w number crew crew' jobs es (stands_so old w number crew ties at)
      (is_done custody crew crew' jobs [] es good served) asked in
      served_goes old w number crew crew' es it.moments it.more ties at served.still it.sends
      it.leads
  jobs_go runs old w number jobs result new ties sound asked
      (ServesBatch.unbegun {crew} {crew'} at why unbegun still) =
      unbegun_goes old w number crew crew' ties at unbegun
  jobs_go runs old w number jobs result new ties sound asked ServesBatch.no_room =
      rests w old ties.stands
  jobs_go runs old w number jobs result new ties sound asked (ServesBatch.no_crew none) =
      rests w old ties.stands
