use Rattle.std.proofs.Common.{◌≡◌, sym, ap, ◌∙◌}
use Rattle.std.specs.Map.Iter.{deref_pair}
use Rattle.std.proofs.lemmas.Map.Iter.{rest_more}
use Rattle.fl_aliases.specs.Table.{table_text}
use Rattle.fl_aliases.proofs.Tables.{lines_more, lines_stop}
use Rattle.fl_aliases.proofs.table.Aliases.write_text.Goals as goal

pub loop-alias-preserved : goal.loop-alias-preserved
loop-alias-preserved g c =
    let before = c.loop-alias.invariant in
    lines_more _ _ _ _ _ _ before.0 _ (c.in-Some.alias.now, c.in-Some.placed.now) c.loop-alias.alias-iterator c.next.new.self before.1 before.2 (rest_more deref_pair _ _ _ (c.in-Some.alias, c.in-Some.placed) c.in-Some.is c.next.ensures.steps) (rw c.target.ensures at c.in_ok-write_line.ensures.puts.is)

pub returns-in_err-write_line-clause-puts : goal.returns-in_err-write_line-clause-puts
returns-in_err-write_line-clause-puts g c =
    let before = c.loop-alias.invariant in
    let all : table_text c.args.self.now ≡ table_text c.into_iter-alias-iterator.result = ap table_text (sym c.self.view_is ∙ sym c.iter-alias-items.ensures.rest ∙ sym c.into_iter-alias-iterator.ensures.into_iter_gives) in
    lines_stop _ _ _ _ _ before.0 _ (c.in-Some.alias.now, c.in-Some.placed.now) c.loop-alias.alias-iterator c.next.new.self _ before.1 (all ∙ before.2) (rest_more deref_pair _ _ _ (c.in-Some.alias, c.in-Some.placed) c.in-Some.is c.next.ensures.steps) (rw c.target.ensures at c.in_err-write_line.ensures.puts.is) c.from_residual.ensures.0
