use Rattle.std.proofs.Common.{refl}
use Rattle.fl_aliases.specs.laws.Letters.{held}
use Rattle.fl_aliases.proofs.alias.Alias.of_letters.Goals as goal

pub invariant_of-result : goal.invariant_of-result
invariant_of-result c = rw c.copy_from_slice.ensures.after (held c.args.letters.now _ refl c.requires)
