use Rattle.std.proofs.Common.{subst, ap, ◌∙◌}
use Rattle.fl_store.specs.Keeping.{Stays}
use Rattle.fl_file_store.specs.FileKeeping.{number_of, IsHonest, MayHold}
use Rattle.fl_file_store.proofs.AgainLemmas.{same_number}
use Rattle.fl_file_store.proofs.file_keeper.FileKeeper.mend.Goals as goal

pub returns-clause-number : goal.returns-clause-number
returns-clause-number g c = same_number _ _ _ c.mended-keeper.ensures.mends ∙ ap number_of c.replace-broken.ensures.value

pub returns-clause-held : goal.returns-clause-held
returns-clause-held g c =
    subst (λ s. IsHonest c.mended-keeper.result.0 → Stays (MayHold s) (MayHold c.mended-keeper.result.0)) c.replace-broken.ensures.value c.mended-keeper.ensures.held
