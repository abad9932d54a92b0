use Rattle.std.proofs.Common.{◌≤◌, inl, inr, ℕ, suc, sym, subst, arith}
use Rattle.std.proofs.lemmas.Bool.{cases_lt}
use Rattle.fl_jobs.specs.declared.job.Act.TheVariants.{Emit}
use Rattle.fl_jobs.specs.declared.job.Job.TheVariants.{By}
use Rattle.fl_system.specs.World.{empty_world}
use Rattle.fl_machine_model.specs.Acts.{Job}
use Rattle.fl_machine_model.specs.Machines.{Deed, Happens, no_machine}
use Rattle.fl_machine_laws.specs.Places.{IsUp, LivesOn}
use Rattle.fl_machine_laws.specs.Taint.{machines_at, IsEmissionOn, IsPureOn}
use Rattle.fl_machine_laws.proofs.Deeds.{turns_go, empty_follows}
use Rattle.fl_machine_laws.proofs.Guarding.{happens_at, acted, emitted, up_later, never_held}
use Rattle.fl_machine_laws.proofs.Tainting.{follows_at}
use Rattle.fl_machine_laws.proofs.Together.{at_up}
use Rattle.fl_machine_laws.proofs.Weaves.{guarded_among}
use Rattle.fl_machine_laws.proofs.laws.law_machines_orders.Goals as goal

pub returns-clause-guards : goal.returns-clause-guards
returns-clause-guards c = λ entries turns deeds each j number t pid there order.
    guarded_among number pid entries turns deeds (each number) j t there order

pub returns-clause-silent : goal.returns-clause-silent
returns-clause-silent c = λ desks turns tag i j number pid turn are guard pure le there order.
    let from = no_machine desks in
    let out = guard j number turn pid there order in
    let emission : IsEmissionOn out.turn pid =
    record {
      number = number;
      desk = out.emits.desk;
      upto = out.emits.upto;
      bytes = out.emits.bytes;
      is = out.emits.is;
    } in
    let silent : (k : ℕ) → IsPureOn from turns tag k pid → k ≤ out.place → ⊥ =
    λ k pure_then low.
    c.law_machines_confined.ensures.silent desks turns tag k out.place pid out.turn are pure_then low
    out.there emission in
    elim (cases_lt out.place i) [
      | inl below ↦
          let happens = happens_at from turns are out.place out.turn out.there in
          let act = Job out.emits.desk out.emits.upto (By pid (Emit out.emits.bytes)) in
          let a = acted (subst (λ (d : Deed). Happens (machines_at from turns out.place) d
          (machines_at from turns (suc out.place))) out.emits.is happens) in
          let it = emitted a.step a.says in
          let g = turns_go from (empty_world desks) turns (empty_follows desks) are in
          let follows = follows_at from (empty_world desks) turns g.moments g.all out.place in
          let own = c.law_pids.ensures.there _ number a.s pid it.process follows.reached
          (at_up follows number a.s a.up) it.stands in
          let up_then = up_later from turns are number a.o.after (suc out.place) i a.later
          (omega (arith, below)) (λ k t low high at. out.alone k t (omega (arith, low))
          (omega (arith, high, le)) at) in
          let lives_then : LivesOn (machines_at from turns i) pid it.process =
          record {
            node = a.o.after;
            up = subst (λ n. IsUp (machines_at from turns i) n a.o.after) (sym own.node_is) up_then;
            stands = it.still;
          } in
          let has = c.law_machines_confined.ensures.stays desks turns tag i i pid it.process are pure
          (omega arith) lives_then in
          let lives : LivesOn (machines_at from turns out.place) pid it.process =
          record {
            node = a.s;
            up = subst (λ n. IsUp (machines_at from turns out.place) n a.s) (sym own.node_is) a.up;
            stands = it.stands;
          } in
          silent out.place (IsPureOn.labelled lives has (never_held pure)) (omega arith)
      | inr behind ↦ silent i pure behind
    ]
