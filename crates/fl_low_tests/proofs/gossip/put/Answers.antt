use Rattle.std.proofs.Common.{sym, ◌∙◌}
use Rattle.fl_opset.specs.laws.Once.{same_once, insert_once, none_found}
use Rattle.fl_low_tests.proofs.gossip.put.Goals as goal

pub returns-in_err-add : goal.returns-in_err-add
returns-in_err-add c = same_once _ _ c.in_err-add.ensures.err c.requires

pub returns : goal.returns
returns c =
    insert_once _ _ c.args.op c.requires (none_found _ _ (sym c.is_some.ensures ∙ c.if-is_some.false) c.clash.ensures.none) c.in_ok-add.ensures.ok
