-- A crew that is restarted stands for the node that the world restarts.
use Rattle.std.proofs.Common.{◌≡◌, ◌+◌, ◌≤◌, ◌∙◌, [], ◌∷◌, ℕ, Bool, length, Option, Some, None}
use Rattle.std.proofs.Common.{Result, Ok, Err, refl, sym, ap, subst, arith}
use Rattle.std.proofs.lemmas.List.Elements.{Contains-append_left}
use Rattle.std.specs.Cmp.{nat_cmp_total}
use Rattle.fl_bench.specs.Bench.{new_bench}
use Rattle.fl_bench.specs.laws.Puts.{get_here}
use Rattle.fl_labels.specs.SetBy as set
use Rattle.fl_store.specs.Custody.{Custody}
use Rattle.fl_store.specs.Kept.{Kept, raised}
use Rattle.fl_system.specs.declared.answer.Fault.{Fault}
use Rattle.fl_system.specs.declared.event.Event.{Event}
use Rattle.fl_system.specs.declared.event.Event.TheVariants as event
use Rattle.fl_system.specs.declared.reply.Reply.{Reply}
use Rattle.fl_system.specs.declared.reply.Reply.TheVariants as replies
use Rattle.fl_system.specs.declared.state.Batch.{Batch}
use Rattle.fl_system.specs.declared.state.Pending.TheVariants.{Nothing}
use Rattle.fl_system.specs.declared.state.State.TheVariants.{Running}
use Rattle.fl_system.specs.Openings.{IsOwn, OpensAgain, OpensOwn, Opens, Restarts, opened}
use Rattle.fl_system.specs.Runs.{Happens}
use Rattle.fl_system.specs.State.{NodeState, kept_of}
use Rattle.fl_system.specs.World.{World, went}
use Rattle.fl_system.specs.WorldCalls.{RestartAt}
use Rattle.fl_system.specs.WorldSteps.{Step}
use Rattle.fl_system_laws.specs.laws.Numbered.{item_at-items_to, length-items}
use Rattle.fl_calls.specs.Answer.{Answer}
use Rattle.fl_crew_model.specs.Books.{IsAt}
use Rattle.fl_crew_model.specs.Crews.{IsDueHome, IsWorker}
use Rattle.fl_workers.specs.Over.{CrewOver, bench_at, bench_in}
use Rattle.fl_workers.specs.Seated.{seated_of}
use Rattle.fl_crew_calls.specs.Asking.{IsRestarted, RestartsAt}
use Rattle.fl_crew_calls.specs.Over.{CrewsOver, IsCrewAt, with_crew}
use Rattle.fl_crew_worlds.specs.Worlds.{IsNodeOf}
use Rattle.fl_crew_world_laws.specs.Standing.{RunsTo}
use Rattle.fl_crew_world_laws.proofs.Ties.{Goes, Ties, place_at, placed, without_more}
use Rattle.fl_one_worker_calls.specs.Crews.{AreSound, IsSound}
use Rattle.fl_one_worker_calls.proofs.Places.{at_number, elsewhere}
use Rattle.fl_one_worker_laws.proofs.Restarting.{kept_same, restarts_as}
use Rattle.fl_one_worker_scripts.proofs.Restarting.{not_stopped, restarted_over}

-- one moment
pub step_leads_on : (w w' : World) (e : Event) (reply : Reply) → Step w e reply w' → RunsTo w w'
step_leads_on w w' e reply h = record {
  moments = record { move = Happens e; reply = reply; after = w' } ∷ [];
  is_run = (h, tt);
  leads = refl;
}

module _ {K : Type 0} where
  -- the crew that is seated at a node that was opened
  seated_node : (new : CrewOver K) (k : Kept) (d size : ℕ) → 1 ≤ size
      → new ≡ seated_of new.node size
      → new.node.node ≡ opened d k → IsNodeOf new (opened size k)
  seated_node new k d size some seated node =
      let size_is : new.size ≡ size = ap (λ (c : CrewOver K). c.size) seated in
      let due : new.due ≡ None = ap (λ (c : CrewOver K). c.due) seated in
      let number : new.node.node.number ≡ k.number = ap (λ (n : NodeState). n.number) node in
      let boot : new.node.node.boot ≡ k.boot + 1 = ap (λ (n : NodeState). n.boot) node in
      let list : new.list ≡ set.members k.saved =
      ap (λ (c : CrewOver K). c.list) seated ∙ ap (λ (n : NodeState). n.published) node in
      record {
        crew = record {
          numbered = sym number;
          desks = length-items size (λ w. length (set.members k.saved)) ∙ sym size_is;
          places = length-items size (λ w. new_bench k.number (k.boot + 1) w size) ∙ sym size_is;
          holds = record {
            saved = sym (ap (λ (n : NodeState). n.saved) node);
            list = sym list;
            state = subst (λ (b : Option Batch). IsAt (Running Nothing) b) (sym due) refl;
          };
          due = subst (λ (b : Option Batch). IsDueHome new.size b) (sym due) tt;
          seen = λ w is.
              let few = ap length list in
              let low : length (set.members k.saved) ≤ length new.list = omega arith in (
                length (set.members k.saved),
                item_at-items_to size (λ w. length (set.members k.saved)) w is.low
                    (within w size_is is),
                low,
                low,
              );
          stands = λ w is.
              item_at-items_to size (λ w. new_bench k.number (k.boot + 1) w size) w is.low
              (within w size_is is)
              ∙ sym (ap Some (bench w number boot is.low (within w size_is is)));
        };
        boot = sym boot;
        births = omega (arith, size_is, some);
        births_here =
            (let none = ap (λ (c : CrewOver K). c.procs) seated in omega
            (arith, none, size_is, some));
      }
    where
      within : (w : ℕ) → new.size ≡ size → IsWorker new.size w → w ≤ size
      within w size_is is = let high = is.high in omega arith

      bench : (w : ℕ) → new.node.node.number ≡ k.number → new.node.node.boot ≡ k.boot + 1
          → 1 ≤ w → w ≤ size → bench_at new.benches w ≡ new_bench k.number (k.boot + 1) w size
      bench w number boot low high =
          ap (λ (c : CrewOver K). bench_at c.benches w) seated
          ∙ (ap bench_in (item_at-items_to size
          (λ index. new_bench new.node.node.number new.node.node.boot index size) w low high)
          ∙ (ap (λ (x : ℕ). new_bench x new.node.node.boot w size) number
          ∙ ap (λ (x : ℕ). new_bench k.number x w size) boot))

  -- the node that stands for it is restarted with it
  restarted_node : (old new : CrewOver K) (n : NodeState) (k k' : Kept) (keeps : Bool) (boot : ℕ)
      → 1 ≤ old.size → IsNodeOf old n → old.due ≡ None → old.node.node.state ≡ Running Nothing
      → new ≡ seated_of new.node old.size
      → Restarts old.node.node k keeps (Ok boot) new.node.node k'
      → Restarts n k keeps (Ok boot) (opened old.size k) k' × IsNodeOf new (opened old.size k)
      × (k' ≡ raised k)
  restarted_node old new n k k' keeps boot some node due idle seated h =
      let it = restarts_as old.node.node new.node.node k k' keeps boot (Ok boot) idle h refl in
      let same : kept_of old.node.node ≡ kept_of n =
      sym (kept_same n old.node.node node.crew.numbered node.boot node.crew.holds.saved) in
      let own : IsOwn (kept_of n) None k = subst (λ (x : Kept). IsOwn x None k) same it.own in
      let again : OpensOwn n None k (Ok (opened old.size k)) k' =
      subst (λ (x : Kept). OpensOwn n None k (Ok (opened old.size k)) x) (sym it.kept)
      (subst (λ (d : ℕ). OpensOwn n None k (Ok (opened d k)) (raised k)) node.crew.desks
      (Opens.opens own it.low)) in
      let at : n.state ≡ Running Nothing =
      subst (λ (b : Option Batch). IsAt n.state b) due node.crew.holds.state in (
        subst (λ (b : ℕ). Restarts n k keeps (Ok b) (opened old.size k) k') (sym it.booted)
            (Restarts.idle at (OpensAgain.opens again)),
        seated_node new k (length old.node.node.views) old.size some seated it.node,
        it.kept,
      )

module _ {K M : Type 0} (custody : Custody K) where
  by_result : (between : CrewsOver K M) (w : World) (number : ℕ) (keeps : Bool)
      (crew crew' : CrewOver K) → Ties custody between w → IsCrewAt between number crew
      → IsSound custody crew' → (result : Result ℕ Fault)
      → IsRestarted custody keeps crew crew' result
      → Goes w (with_crew between number crew')
  by_result between w number keeps crew crew' ties at sound (Err fault) restarted =
      not_stopped custody keeps crew crew' sound fault restarted
  by_result between w number keeps crew crew' ties at sound (Ok boot) restarted =
      let it = place_at between w number crew ties.stands at in
      let node = it.is_place.is_node in
      let left = sound.trusts.kept in
      let over =
      restarted_over custody keeps crew crew' sound boot restarted left sound.trusts.held in
      let was = ties.sound number crew at in
      let again =
      restarted_node crew crew' it.place.node over.kept left keeps boot
      (subst (λ (d : ℕ). 1 ≤ d) (sym it.is_place.size) ties.stands.some) node was.idle
      was.listed.state restarted.seated over.again in
      let found : over.kept ≡ it.place.kept =
      ties.held number crew at over.kept over.held
      ∙ (sym (kept_same it.place.node crew.node.node node.crew.numbered node.boot
      node.crew.holds.saved) ∙ sym it.is_place.kept) in
      let does : Restarts it.place.node it.place.kept keeps (Ok boot) (opened crew.size over.kept)
      left =
      subst (λ (k : Kept). Restarts it.place.node k keeps (Ok boot) (opened crew.size over.kept)
      left) found again.0 in
      let after = went w number (opened crew.size over.kept) left [] [] in
      record {
        world = after;
        run = step_leads_on w after (event.Restart number keeps) (replies.Booted boot)
            (Step.restart it.there (RestartAt.booted does));
        stands =
            without_more between after number crew'
            (placed between w after number crew' between.maker []
            (record { node = opened crew.size over.kept; kept = left }) ties.stands
            (at_number w number (opened crew.size over.kept) left [] [])
            (record {
              size = ap (λ (c : CrewOver K). c.size) restarted.seated ∙ it.is_place.size;
              is_node = again.1;
              kept = again.2;
            }) (elsewhere w number (opened crew.size over.kept) left [] [])
            (λ s among. Contains-append_left w.packets [] s among)
            (λ packet among. absurd (omega (arith, among.1))));
      }

  pub restarts_go : (between : CrewsOver K M) (w : World) (number : ℕ) (keeps : Bool)
      (what : Answer) (new : CrewsOver K M) → Ties custody between w → AreSound custody new
      → RestartsAt custody between number keeps what new → Goes w new
  restarts_go between w number keeps what new ties sound
      (RestartsAt.restarts {crew} {crew'} {result} at restarted) =
      by_result between w number keeps crew crew' ties at
      (sound number crew' (get_here nat_cmp_total between.crews number (Some crew'))) result
      restarted
