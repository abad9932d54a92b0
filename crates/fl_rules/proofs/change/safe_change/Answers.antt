use Rattle.fl_rules.proofs.Walks.{members_take, members_up}
use Rattle.fl_rules.proofs.change.safe_change.Goals as goal

pub first_wanting-requires-clause-from_rises : goal.first_wanting-requires-clause-from_rises
first_wanting-requires-clause-from_rises g c = members_up c.args.from.now _ c.as_slice.ensures

pub first_wanting-requires-clause-to_rises : goal.first_wanting-requires-clause-to_rises
first_wanting-requires-clause-to_rises g c = members_up c.args.to.now _ c.as_slice-2.ensures

pub returns-clause-found : goal.returns-clause-found
returns-clause-found g c =
    members_take _ c.args.from.now c.args.to.now _ _ _ c.as_slice.ensures c.as_slice-2.ensures c.first_wanting.ensures.found
