-- A node is opened with its crew, or is not.
use Rattle.std.proofs.Common.{◌≡◌, ◌+◌, [], ◌∷◌, ℕ, length, Some, None, Result, refl, sym, ap, subst}
use Rattle.std.proofs.Common.{arith}
use Rattle.std.proofs.lemmas.List.Elements.{Contains-append_left}
use Rattle.std.specs.Cmp.{nat_cmp_total}
use Rattle.fl_bench.specs.laws.Puts.{get_here}
use Rattle.fl_crew_model.specs.Crews.{IsCrew}
use Rattle.fl_store.specs.Custody.{Custody}
use Rattle.fl_store.specs.Kept.{HasNamesOnce, Kept, raised}
use Rattle.fl_makers.specs.Making.{Making}
use Rattle.fl_system.specs.declared.answer.Fault.{Fault}
use Rattle.fl_system.specs.declared.reply.Reply.TheVariants as replies
use Rattle.fl_system.specs.Joins.{Joins, joined}
use Rattle.fl_system.specs.Openings.{opened}
use Rattle.fl_system.specs.Runs.{Comes}
use Rattle.fl_system.specs.State.{NodeState}
use Rattle.fl_system.specs.World.{World}
use Rattle.fl_workers.specs.Over.{CrewOver, bench_at, books_of}
use Rattle.fl_crew_calls.specs.Asking.{IsSeated, Opens}
use Rattle.fl_crew_calls.specs.Joining.{ClashesAt, FindsAgainst, StraysAt}
use Rattle.fl_crew_calls.specs.Over.{CrewsOver}
use Rattle.fl_crew_world_laws.specs.Crews.{IsPlaceOf, IsWorldOf}
use Rattle.fl_crew_world_laws.specs.Standing.{RunsTo}
use Rattle.fl_crew_world_laws.proofs.Ties.{Goes, Ties, placed, rests, save_alike, without_more}
use Rattle.fl_one_worker_calls.specs.Crews.{AreSound}
use Rattle.fl_one_worker_calls.proofs.Places.{at_number, elsewhere}
use Rattle.fl_one_worker_scripts.proofs.Joining.{joins_so, no_stray}
use Rattle.fl_one_worker_scripts.proofs.Opening.{OpenedOver, opened_over}
use Rattle.fl_one_worker_scripts.proofs.Standing.{no_node}

-- one moment
pub joins_lead : (w w' : World) (number : ℕ) (k : Kept) (boot : ℕ)
    → Joins w number k (replies.Booted boot) w' → RunsTo w w'
joins_lead w w' number k boot h = record {
  moments = record { move = Comes number k; reply = replies.Booted boot; after = w' } ∷ [];
  is_run = (h, tt);
  leads = refl;
}

module _ {K M : Type 0} (custody : Custody K) (making : Making M K) where
  -- the node of a crew that was opened
  opened_place : (crews : CrewsOver K M) (w : World) (number : ℕ) (keeper : K) (crew : CrewOver K)
      → IsWorldOf crews w → IsSeated custody number crews.workers keeper crew
      → (over : OpenedOver custody making crews number keeper crew)
      → IsPlaceOf crews.workers crew
      (record { node = opened w.desks over.kept; kept = raised over.kept })
  opened_place crews w number keeper crew stands seated over =
      let size : crew.size ≡ crews.workers = ap (λ (c : CrewOver K). c.size) seated.seated in
      record {
        size = size;
        is_node = record {
          crew =
              subst (λ (d : ℕ). IsCrew crew.node.node.number crew.size (opened d over.kept)
              (books_of crew) (bench_at crew.benches) (λ w. length crew.list)) (sym stands.desks)
              (subst (λ (n : ℕ). IsCrew n crew.size (opened crews.workers over.kept) (books_of crew)
              (bench_at crew.benches) (λ w. length crew.list)) (sym seated.number_is)
              (subst (λ (d : ℕ). IsCrew number d (opened crews.workers over.kept) (books_of crew)
              (bench_at crew.benches) (λ w. length crew.list)) (sym size) over.opens.crew_is));
          boot = sym (ap (λ (n : NodeState). n.boot) over.is.node_is);
          births = (let some = stands.some in omega (arith, size, some));
          births_here =
              (let none = ap (λ (c : CrewOver K). c.procs) seated.seated in
              let some = stands.some in
              omega (arith, none, size, some));
        };
        kept = refl;
      }

  pub opens_go : (old : CrewsOver K M) (w : World) (number : ℕ)
      (result : Result (Unit {0}) Fault) (new : CrewsOver K M) → Ties custody old w
      → AreSound custody new
      → Opens custody making old number result new → Goes w new
  opens_go old w number result new ties sound (Opens.is_open at) = rests w old ties.stands
  opens_go old w number result new ties sound
      (Opens.opened {keeper} {crew} {maker = left} none made allows seated names against) =
      let here = get_here nat_cmp_total old.crews number (Some crew) in
      let over =
      opened_over custody making old number keeper crew made seated
      (sound number crew here).trusts in
      let alike = save_alike old w ties.stands in
      let joins =
      joins_so old w alike (no_stray w ties.reached) number over.kept
      (no_node old w alike number none) over.is.own over.is.low
      (subst (λ (n : NodeState). HasNamesOnce n.saved) over.is.node_is names)
      (subst (λ (n : NodeState). FindsAgainst (ClashesAt old n.saved)
      (StraysAt old number n.saved) None) over.is.node_is against) in
      record {
        world = joined w number over.kept;
        run = joins_lead w (joined w number over.kept) number over.kept (over.kept.boot + 1) joins;
        stands =
            without_more (record old { maker = left }) (joined w number over.kept) number crew
            (placed old w (joined w number over.kept) number crew left []
            (record { node = opened w.desks over.kept; kept = raised over.kept }) ties.stands
            (at_number w number (opened w.desks over.kept) (raised over.kept) [] [])
            (opened_place old w number keeper crew ties.stands seated over)
            (elsewhere w number (opened w.desks over.kept) (raised over.kept) [] [])
            (λ s among. Contains-append_left w.packets [] s among)
            (λ packet among. absurd (omega (arith, among.1))));
      }
  opens_go old w number result new ties sound
      (Opens.contradicts {maker = left} none made allows seated against) =
      rests w (record old { maker = left })
      (record {
        some = ties.stands.some;
        desks = ties.stands.desks;
        nodes = ties.stands.nodes;
        sent = ties.stands.sent;
      })
  opens_go old w number result new ties sound (Opens.shut {maker = left} none allows why) =
      rests w (record old { maker = left })
      (record {
        some = ties.stands.some;
        desks = ties.stands.desks;
        nodes = ties.stands.nodes;
        sent = ties.stands.sent;
      })
