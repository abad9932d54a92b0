use Rattle.std.proofs.Common.{subst, sym, ap, ◌∙◌}
use Rattle.fl_store.specs.Keeping.{Stays}
use Rattle.fl_file_store.specs.FileKeeping.{number_of, IsHonest, MayHold}
use Rattle.fl_file_store.proofs.file_keeper.FileKeeper.mended.Goals as goal

pub returns-in-Open-clause-held : goal.returns-in-Open-clause-held
returns-in-Open-clause-held g c =
    subst (λ s. IsHonest c.reopened.result.0 → Stays (MayHold s) (MayHold c.reopened.result.0)) (sym c.in-Open.is) c.reopened.ensures.held

pub reopened-requires : goal.reopened-requires
reopened-requires g c = c.number-number.ensures ∙ ap number_of c.in-Open.is
