use Rattle.std.proofs.Common.{◌∙◌, sym, inl, inr, arith}
use Rattle.fl_sql_tables.proofs.OwnLemmas.{held, own_term, both}
use Rattle.fl_sql_tables.proofs.ours.is_own_check.Goals as goal

pub returns-then-left-ops-clause-no : goal.returns-then-left-ops-clause-no
returns-then-left-ops-clause-no c _ own =
    let ops = c.args.ops.now in
    let root = held ops c.args.root c.index-ops-root.result (omega arith) c.index-ops-root.is ∙ c.in-Some.ensures.some in
    let it = both ops c.args.root c.in-Some.left c.in-Some.right root own in
    elim c.then-left-ops.either [ inl out ↦ absurd (omega (arith, out, it.2)) | inr out ↦ absurd (omega (arith, out, it.3)) ]

pub returns-then-is_id-clause-yes : goal.returns-then-is_id-clause-yes
returns-then-is_id-clause-yes c one =
    let ops = c.args.ops.now in
    let root = held ops c.args.root c.index-ops-root.result (omega arith) c.index-ops-root.is ∙ c.in-Some.ensures.some in
    let first = held ops c.in-Some.left c.index-ops-left.result (omega arith) c.index-ops-left.is in
    let second = held ops c.in-Some.right c.index-ops-right.result (omega arith) c.index-ops-right.is in
    own_term ops c.args.root c.in-Some.left c.in-Some.right (omega arith) root (first ∙ c.is_id.ensures.yes c.if-is_id.true) (second ∙ c.is_one.ensures.yes one)

pub returns-then-is_id-clause-no : goal.returns-then-is_id-clause-no
returns-then-is_id-clause-no c none own =
    let ops = c.args.ops.now in
    let root = held ops c.args.root c.index-ops-root.result (omega arith) c.index-ops-root.is ∙ c.in-Some.ensures.some in
    let second = held ops c.in-Some.right c.index-ops-right.result (omega arith) c.index-ops-right.is in
    c.is_one.ensures.no none (sym second ∙ (both ops c.args.root c.in-Some.left c.in-Some.right root own).1)

pub returns-else-is_id-clause-no : goal.returns-else-is_id-clause-no
returns-else-is_id-clause-no c none own =
    let ops = c.args.ops.now in
    let root = held ops c.args.root c.index-ops-root.result (omega arith) c.index-ops-root.is ∙ c.in-Some.ensures.some in
    let first = held ops c.in-Some.left c.index-ops-left.result (omega arith) c.index-ops-left.is in
    c.is_id.ensures.no none (sym first ∙ (both ops c.args.root c.in-Some.left c.in-Some.right root own).0)
