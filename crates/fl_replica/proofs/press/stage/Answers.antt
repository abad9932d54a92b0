use Rattle.std.proofs.Common.{rules, ◌≡◌, ◌++◌, List, ap, sym, subst, ◌∙◌, refl}
use Rattle.fl_replica.specs.parts.History.{ops_of}
use Rattle.fl_replica.specs.parts.Shown.{entry_ops, Awaits}
use Rattle.fl_replica.specs.declared.published.Entry.{Entry}
use Rattle.fl_replica.specs.declared.published.Shown.{Shown}
use Rattle.fl_replica.proofs.Awaiting.{awaits_batch, ops_marked, marked}
use Rattle.fl_replica.proofs.press.stage.Goals as goal

pub returns-clause-ops : goal.returns-clause-ops
returns-clause-ops c =
    let next : Shown = record { list = ops_of c.add.new.self.known.log; known = c.add.new.self.known } in
    let row : c.push_all.new.row.items ≡ c.args.row.now.items ++ marked next c.args.batch.now = c.push_all.ensures ∙ ap (λ r. r ++ marked next c.args.batch.now) c.reserve.ensures.items in
    ap entry_ops row ∙ ops_marked next c.args.row.now.items c.args.batch.now

pub returns-clause-awaits : goal.returns-clause-awaits
returns-clause-awaits c shown entries awaits =
    let last : Shown = record { list = ops_of c.args.history.now.known.log; known = c.args.history.now.known } in
    let next : Shown = record { list = ops_of c.add.new.self.known.log; known = c.add.new.self.known } in
    let row : c.push_all.new.row.items ≡ c.args.row.now.items ++ marked next c.args.batch.now = c.push_all.ensures ∙ ap (λ r. r ++ marked next c.args.batch.now) c.reserve.ensures.items in
    subst (λ (r : List Entry). Awaits shown (entries ++ r) next) (sym row)
    (awaits_batch shown last next entries c.args.row.now.items c.args.batch.now (search rules) awaits refl (search rules) c.add.ensures.board)
