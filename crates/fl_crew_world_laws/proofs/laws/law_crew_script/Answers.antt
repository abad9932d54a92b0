use Rattle.fl_crew_world_laws.proofs.Walking.{script_on}
use Rattle.fl_crew_world_laws.proofs.laws.law_crew_script.Goals as goal

pub returns : goal.returns
returns g c =
    λ maker workers lines end some all.
    let it =
    script_on g.M.K.Keeper.custody g.M.MakesKeepers.making c.law_crew_world.ensures.jobs
    c.law_crew_world.ensures.packet maker workers lines end some all in
    record {
      world = it.world;
      stands = it.ties.stands;
      run = it.run;
      safe = c.law_headline.ensures it.world it.ties.reached;
      lasting = c.law_lasting.ensures it.world it.ties.reached;
    }
