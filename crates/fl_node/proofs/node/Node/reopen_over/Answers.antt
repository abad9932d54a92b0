use Rattle.fl_node.proofs.RecoverLemmas.{is_stopped, reopens_over}
use Rattle.fl_node.proofs.node.Node.reopen_over.Goals as goal

pub returns-clause-stopped : goal.returns-clause-stopped
returns-clause-stopped g c _ =
    rw (← c.self.view_is) (reopens_over g.K.Keeper.custody _ _ _ _ _ _ c.replace-old.ensures.after (is_stopped _ _ c.in-Err.ensures.err) c.open_again-result.ensures.opens)
