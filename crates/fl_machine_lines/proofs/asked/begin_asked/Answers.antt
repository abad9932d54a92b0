use Rattle.std.proofs.Common.{map}
use Rattle.fl_machine_lines.proofs.Lines.{other_begun, reads_script, none_own}
use Rattle.fl_machine_lines.proofs.asked.begin_asked.Goals as goal

pub returns-in_default-verb-clause-ok : goal.returns-in_default-verb-clause-ok
returns-in_default-verb-clause-ok c =
    let words = map (λ w. w.now) c.args.words.now in
    reads_script c.script_asked.result c.args.number words
    (other_begun words c.args.node.now c.args.rest.now _ c.requires
    c.in-len1-up.len_at_least c.in_default-verb.not-receive)
    (none_own c.args.number words c.args.node.now (map (λ w. w.now) c.args.rest.now) c.requires)
    c.script_asked.ensures.ok
