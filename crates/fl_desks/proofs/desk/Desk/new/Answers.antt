use Rattle.std.proofs.Common.{◌∙◌, ◌++◌, refl, sym, ap, length}
use Rattle.fl_desks.proofs.DeskSees.{all_at_first}
use Rattle.fl_desks.proofs.desk.Desk.new.Goals as goal

pub invariant_of-result : goal.invariant_of-result
invariant_of-result c = record {
  counted = sym (ap length (c.add_all.ensures ∙ ap (λ l. l ++ c.args.list.now) c.new-seen.ensures));
  indexed = all_at_first _ c.args.list.now _ _ _ c.new-seen.ensures c.add_all.ensures c.new-index.ensures c.in_ok-absorb_all.ensures.ok;
}

pub returns : goal.returns
returns c = (refl, c.add_all.ensures ∙ ap (λ l. l ++ c.args.list.now) c.new-seen.ensures)
