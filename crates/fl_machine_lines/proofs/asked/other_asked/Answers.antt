use Rattle.std.proofs.Common.{map, subst, sym}
use Rattle.fl_script.specs.parts.Reads.{Reads}
use Rattle.fl_machine_lines.specs.parts.Asking.{AsksOwn}
use Rattle.fl_machine_lines.proofs.Lines.{NotReceived, other_verb, reads_own}
use Rattle.fl_machine_lines.proofs.asked.other_asked.Goals as goal

pub returns-in-Err-Bad-clause-ok : goal.returns-in-Err-Bad-clause-ok
returns-in-Err-Bad-clause-ok c =
    let words = map (λ w. w.now) c.args.words.now in
    let behind = map (λ w. w.now) c.args.rest.now in
    let are = sym c.requires.are in
    let not = subst NotReceived are
    (other_verb c.args.node.now c.args.verb.now behind c.requires.loud c.requires.whole) in
    let asks = subst (λ ws. Reads c.own_asked.result (λ a. AsksOwn c.args.number a ws)) are
    c.own_asked.ensures.ok in
    reads_own c.own_asked.result c.args.number words not
    (c.in-Err-Bad.ensures.ok c.in-Err-Bad.field-0-is) asks
