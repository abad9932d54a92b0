use Rattle.fl_crew_model.proofs.Between.{cleared_of, broken_of}
use Rattle.fl_crew_model.proofs.Opened.{opened_crew}
use Rattle.fl_crew_model.proofs.Running.{woven_runs}
use Rattle.fl_crew_model.proofs.Weaving.{weave_of}
use Rattle.fl_crew_model.proofs.laws.law_weave.Goals as goal

pub returns : goal.returns
returns c =
    record {
      opened = opened_crew;
      built = weave_of;
      due =
          λ number workers n b old first batch crew is. cleared_of number workers n b old first crew
          batch is;
      breaks =
          λ number workers n b old first w e crew its h. broken_of number workers n b old first crew
          w e its h;
      runs = λ n n' rs ts h. woven_runs n rs ts n' h;
    }
