use Rattle.std.proofs.Common.{sym, ◌∙◌}
use Rattle.fl_closure.specs.laws.Witnesses.{shown}
use Rattle.fl_closure.proofs.Indexing.{told_owned}
use Rattle.fl_closure.specs.laws.Told.{told_by}
use Rattle.fl_closure.proofs.index.Index.effective.Goals as goal

pub returns-then-contains : goal.returns-then-contains
returns-then-contains c = rw (c.if-contains.true) (told_owned c.args.self.now _ c.args.cap (sym c.contains.ensures ∙ c.if-contains.true))

pub returns-else-contains : goal.returns-else-contains
returns-else-contains c = told_by _ _ _ _ c.is_some.ensures (λ w h. shown w c.args.cap h.0 h.1) c.witness.ensures
