use Rattle.fl_machine_turns.specs.Foreseeing.{Foretells}
use Rattle.fl_machine.proofs.Explanations.{explains_not, explains_so}
use Rattle.fl_machine.proofs.Foresights.{foretells, no_look}
use Rattle.fl_machine.proofs.foreseeing.foretell.Goals as goal

pub returns-in-Err : goal.returns-in-Err
returns-in-Err g c = λ keys.
    rw c.refused.ensures (explains_not g.K.Keeper.custody c.args.node.now keys
    (λ n. Foretells c.args.guards n c.args.job.now) c.in-Err.fault c.in-Err.ensures.err)

pub returns-in_default-could : goal.returns-in_default-could
returns-in_default-could g c = λ keys.
    rw (c.starved.ensures, c.could.ensures.same)
    (explains_so g.K.Keeper.custody c.args.node.now keys
    (λ n. Foretells c.args.guards n c.args.job.now) _ c.in_default.ensures.ok
    (no_look c.in_default-could.ensures.err))

pub returns : goal.returns
returns g c = λ keys.
    rw (c.foretold.ensures, c.could.ensures.same)
    (explains_so g.K.Keeper.custody c.args.node.now keys
    (λ n. Foretells c.args.guards n c.args.job.now) _ c.in_default.ensures.ok
    (foretells c.in-Ok.answer c.in-Ok.ensures.could))
