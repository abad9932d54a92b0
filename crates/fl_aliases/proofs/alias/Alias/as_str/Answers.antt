use Rattle.std.proofs.Common.{rules}
use Rattle.fl_aliases.specs.laws.Letters.{letters_utf8}
use Rattle.fl_aliases.proofs.alias.Alias.as_str.Goals as goal

pub unwrap-requires : goal.unwrap-requires
unwrap-requires c = search (rules, letters_utf8)
