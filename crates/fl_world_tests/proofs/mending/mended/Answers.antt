-- The keeper is opened again over its own files, so it is trusted no further than before.
use Rattle.std.proofs.Common.{subst, sym}
use Rattle.fl_file_store.specs.FileKeeping.{IsHonest, MayHold}
use Rattle.fl_world_tests.proofs.mending.mended.Goals as goal

pub reopen-requires-clause-trusted : goal.reopen-requires-clause-trusted
reopen-requires-clause-trusted g c n made at stopped it = record {
  honest = λ h. subst IsHonest it.shows (it.met.0 (subst IsHonest (sym it.leaves) h));
  held = λ h k m. let b = it.met.1 (subst IsHonest (sym it.leaves) h) k (subst (λ s. MayHold s k) (sym it.leaves) m) in (b.0, subst (λ s. MayHold s b.0) it.shows b.1);
}
