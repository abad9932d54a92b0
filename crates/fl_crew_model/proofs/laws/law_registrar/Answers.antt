use Rattle.fl_crew_model.proofs.Opened.{recorded_more}
use Rattle.fl_crew_model.proofs.Registering.{begun_of, refused_of, taken_of, nothing_of}
use Rattle.fl_crew_model.proofs.Registering.{declined_of}
use Rattle.fl_crew_model.proofs.laws.law_registrar.Goals as goal

pub returns : goal.returns
returns c =
    record {
      ordered =
          λ number r mid after b body maker desk name k left registrar begun saves. begun_of number
          r b registrar body maker desk name mid after k left begun saves;
      refused =
          λ number r after b body maker desk refusal registrar begun. refused_of number r b
          registrar body maker desk refusal after begun;
      taken =
          λ number r mid after b ops count k left registrar receives some saves. taken_of number r b
          registrar ops count mid after k left receives some saves;
      nothing =
          λ number r after b ops registrar receives. nothing_of number r b registrar ops after
          receives;
      declined =
          λ number r after b ops fault registrar receives. declined_of number r b registrar ops
          fault after receives;
      more = recorded_more;
    }
