use Rattle.std.proofs.Common.{◌≡◌, sym, subst, arith, ℕ, None}
use Rattle.std.proofs.lemmas.Bool.{ltb-true}
use Rattle.fl_system.specs.Numbered.{item_at}
use Rattle.fl_system.specs.WorldSteps.{IsArrival}
use Rattle.fl_nodes.specs.parts.There.{IsNoSuch}
use Rattle.fl_nodes.proofs.JobLemmas.{not_below, no_desk_zero, no_desk_beyond, not_arrival}
use Rattle.fl_nodes.proofs.nodes.lacks.Goals as goal

pub returns-in-Arrive-clause-lacking : goal.returns-in-Arrive-clause-lacking
returns-in-Arrive-clause-lacking g c _ = IsNoSuch.no_job (subst IsArrival (sym c.in-Arrive.is) tt)

pub returns-then-desk-eq0-clause-lacking : goal.returns-then-desk-eq0-clause-lacking
returns-then-desk-eq0-clause-lacking g c _ =
    IsNoSuch.no_desk (subst (λ (k : ℕ). item_at c.args.node.now.node.views k ≡ None) (sym c.if-desk-eq0.true) (no_desk_zero c.args.node.now.node.views))

pub returns-clause-lacking : goal.returns-clause-lacking
returns-clause-lacking g c less =
    let beyond = ltb-true c.desks.result c.args.desk less in
    IsNoSuch.no_desk (no_desk_beyond c.args.node.now.node.views c.args.desk (omega (arith, beyond, c.desks.ensures)))

pub returns-clause-there : goal.returns-clause-there
returns-clause-there g c within =
    let up_to = not_below c.desks.result c.args.desk within in
    record {
      stands = record { first = omega (arith, c.if-desk-eq0.false); last = omega (arith, up_to, c.desks.ensures) };
      asked = not_arrival c.args.job.now c.in_default.not-Arrive;
    }
