use Rattle.fl_node.proofs.node.Node.wanting.Goals as goal

pub returns-clause-wanting : goal.returns-clause-wanting
returns-clause-wanting g c =
    rw (← c.self.view_is) c.wanting.ensures.ok

pub returns-clause-err : goal.returns-clause-err
returns-clause-err g c =
    rw (← c.self.view_is) c.wanting.ensures.err
