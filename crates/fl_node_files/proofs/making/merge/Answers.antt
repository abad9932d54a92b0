use Rattle.fl_node_files.proofs.making.merge.Goals as goal

pub returns-in-Err-clause-unmerged : goal.returns-in-Err-clause-unmerged
returns-in-Err-clause-unmerged g c = (c.in-Err.error, c.in-Err.left, c.of_error.ensures, c.in-Err.ensures.err.1)
