use Rattle.std.proofs.Common.{◌∙◌, sym, ap, List, Result, Ok, Err, OnErr}
use Rattle.fl_ops.specs.declared.op.Op.{Op}
use Rattle.fl_system.specs.declared.state.Batch.{Batch}
use Rattle.fl_system.specs.State.{ops_of}
use Rattle.fl_registrar.specs.parts.Stages.{staged_at}
use Rattle.fl_registrar.proofs.waiting.publish.Goals as goal

on_err : {T E : Type 0} (P : Type 0) (r : Result T E) → P → OnErr r P
on_err P (Ok x) h = tt
on_err P (Err e) h = h

pub returns-in_err-list-clause-staged : goal.returns-in_err-list-clause-staged
returns-in_err-list-clause-staged g c =
    on_err _ c.from_residual.result
    (c.requires
    ∙ ap (λ (f : List Op → List Op). f (ops_of c.args.waiting.now.batch))
    (sym c.list.ensures.staged)
    ∙ ap (λ (b : Batch). staged_at c.list.new.waiting.stage (ops_of b)) (sym c.list.ensures.batch))

pub print-requires-clause-staged : goal.print-requires-clause-staged
print-requires-clause-staged g c =
    c.requires
    ∙ ap (λ (f : List Op → List Op). f (ops_of c.args.waiting.now.batch))
    (sym c.list.ensures.staged)
    ∙ ap (λ (b : Batch). staged_at c.list.new.waiting.stage (ops_of b)) (sym c.list.ensures.batch)
