use Rattle.std.proofs.Common.{None}
use Rattle.fl_turn_laws.proofs.AliasLaws.{turn_made_none, turn_named, turn_sets, turn_alike}
use Rattle.fl_turn_laws.proofs.laws.law_aliases.Goals as goal

pub returns-clause-kept : goal.returns-clause-kept
returns-clause-kept g c = λ maker old new line answer. turn_made_none _ old line answer new

pub returns-clause-unnamed : goal.returns-clause-unnamed
returns-clause-unnamed g c = λ maker old new line said answer. turn_named _ old line said None answer new

pub returns-clause-set : goal.returns-clause-set
returns-clause-set g c = λ maker old new line said alias answer target. turn_sets _ old line said alias answer target new

pub returns-clause-alike : goal.returns-clause-alike
returns-clause-alike g c = λ maker old new line other said alias answer. turn_alike _ old line other said alias answer new
