use Rattle.fl_crew_model.proofs.Answered.{low_of, rises_of, told_of_it, asked_of, stands_of}
use Rattle.fl_crew_model.proofs.Answered.{seen_of, names_of, named_of}
use Rattle.fl_crew_model.proofs.Gained.{gained_of, there_of, untold_of, once_of, own_of}
use Rattle.fl_crew_model.proofs.laws.law_answered.Goals as goal

pub returns : goal.returns
returns c =
    λ number workers b b' rs old new es last left front rise. record {
      low = low_of number workers b b' rs old new es last left front;
      rises = rises_of number workers b b' rs old new es last left front;
      told = told_of_it number workers b b' rs old new es last left front;
      asked = asked_of number workers b b' rs old new es last left front;
      stands = stands_of number workers b b' rs old new es last left front;
      seen = seen_of number workers b b' rs old new es last left front;
      names = names_of number workers b b' rs old new es last left front;
      named = named_of number workers b b' rs old new es last left front;
      gained = gained_of number workers b b' rs old new es last left front;
      there = there_of number workers b b' rs old new es last left front;
      untold = λ w i e d its at h.
          untold_of number workers b b' rs old new es last left front w i e d its at h (rise w its);
      once = λ w its. once_of number workers b b' rs old new es last left front w its (rise w its);
      own = own_of number workers b b' rs old new es last left front;
    }
