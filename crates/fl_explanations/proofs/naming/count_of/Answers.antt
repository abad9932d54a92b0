use Rattle.std.proofs.Common.{◌∙◌, sym}
use Rattle.fl_explanations.proofs.Named.{count_is, no_line, one_line}
use Rattle.fl_explanations.proofs.naming.count_of.Goals.{in-Some, in-None}
use Rattle.fl_explanations.proofs.naming.count_of.Goals as goal

pub returns : goal.returns
returns c =
    let who = c.args.who.now in
    count_is who c.match-who.everybody c.len-processes.result c.len-groups.result
    c.len-logins.result (elim c.match-who.branch [
      | in-Some w ↦ w.everybody-is ∙ sym (one_line who.everybody _ w.in-Some.is)
      | in-None w ↦ w.everybody-is ∙ sym (no_line who.everybody w.in-None.is)
    ]) c.len-processes.ensures c.len-groups.ensures c.len-logins.ensures
