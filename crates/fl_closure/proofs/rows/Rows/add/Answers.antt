use Rattle.std.proofs.Common.{sym, subst, refl, Some}
use Rattle.std.specs.HashMap.{UpdatesBy}
use Rattle.fl_labels.specs.contracts.name.NamePartialEq.TheImpl as names
use Rattle.fl_closure.proofs.Giving.{on_ok, on_error}
use Rattle.fl_closure.proofs.Rowing.{add_first, add_through, left_through}
use Rattle.fl_closure.proofs.rows.Rows.add.Goals as goal

pub returns-in-Some-clause-ok : goal.returns-in-Some-clause-ok
returns-in-Some-clause-ok c =
    rw c.in-Group.is (on_ok c.add.result (add_through c.args.self.now _ c.in-Group.name refl _ _ (c.get_mut.follows.holds c.add.new.self).3 (sym c.in-Some.ensures.value) c.args.block) c.add.ensures.ok)

pub returns-in-Some-clause-err : goal.returns-in-Some-clause-err
returns-in-Some-clause-err c =
    on_error c.add.result (left_through c.args.self.now _ c.in-Group.name refl _ _ (c.get_mut.follows.holds c.add.new.self).3 (sym c.in-Some.ensures.value)) c.add.ensures.err

pub returns-clause-ok : goal.returns-clause-ok
returns-clause-ok c =
    rw c.in-Group.is (add_first c.args.self.now _ c.in-Group.name refl c.args.block c.new.result (sym c.in_default-get_mut.ensures.value)
    (subst (λ m. UpdatesBy names.ghosts.eq (names.ghosts.eq c.in-Group.name) m c.insert.new.self (Some c.new.result)) c.get_mut.follows.holds-at-none c.in_ok-insert.ensures.updates)
    c.new.ensures)
