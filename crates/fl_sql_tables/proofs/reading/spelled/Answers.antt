use Rattle.std.proofs.Common.{sym, ◌∙◌}
use Rattle.fl_ops.specs.Grammar.{format_of}
use Rattle.std.proofs.Common.{slice_index}
use Rattle.fl_sql_tables.proofs.SpellingLemmas.{faulty_none, longer_none, other_node_none, other_seq_none, whole_some}
use Rattle.fl_sql_tables.proofs.reading.spelled.Goals as goal

pub returns-in_default : goal.returns-in_default
returns-in_default c = sym (faulty_none c.args.node c.args.seq c.in_default.field-0.place c.args.bytes.now c.in_default.ensures)

pub returns-then-size-bytes : goal.returns-then-size-bytes
returns-then-size-bytes c =
    let it = c.in-Ok.ensures.1 in
    sym (longer_none (format_of (slice_index c.args.bytes.now 0)) c.args.node c.args.seq c.in-Ok.size c.args.bytes.now c.in-Ok.op it.0 it.1 it.2 c.if-size-bytes.true)

pub returns-then-from-node : goal.returns-then-from-node
returns-then-from-node c =
    let it = c.in-Ok.ensures.1 in
    sym (other_node_none (format_of (slice_index c.args.bytes.now 0)) c.args.node c.args.seq c.in-Ok.size c.args.bytes.now c.in-Ok.op it.0 it.1 it.2
    c.if-size-bytes.false (λ e. c.if-from-node.true (c.from.ensures ∙ e)))

pub returns-then-from-seq : goal.returns-then-from-seq
returns-then-from-seq c =
    let it = c.in-Ok.ensures.1 in
    sym (other_seq_none (format_of (slice_index c.args.bytes.now 0)) c.args.node c.args.seq c.in-Ok.size c.args.bytes.now c.in-Ok.op it.0 it.1 it.2
    c.if-size-bytes.false (sym c.from.ensures ∙ c.if-from-node.false) (λ e. c.if-from-seq.true (c.from-2.ensures ∙ e)))

pub returns : goal.returns
returns c =
    let it = c.in-Ok.ensures.1 in
    sym (whole_some (format_of (slice_index c.args.bytes.now 0)) c.args.node c.args.seq c.in-Ok.size c.args.bytes.now c.in-Ok.op it.0 it.1 it.2
    c.if-size-bytes.false (sym c.from.ensures ∙ c.if-from-node.false) (sym c.from-2.ensures ∙ c.if-from-seq.false))
