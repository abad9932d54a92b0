use Rattle.fl_closure.specs.declared.rows.Owner.TheVariants.{Group}
use Rattle.fl_closure.specs.parts.Row.{bits_in}
use Rattle.fl_closure.specs.parts.Rows.{Holds}
use Rattle.fl_closure.proofs.Listing.{with_row, with_none, row_held, none_held}
use Rattle.fl_closure.proofs.rows.Rows.blocks_with.Goals.{in-Some+in_ok-push_to, in_default}
use Rattle.fl_closure.proofs.rows.Rows.blocks_with.Goals as goal

pub returns : goal.returns
returns c = elim c.match-get.branch [
  | in-Some+in_ok-push_to w ↦ rw w.blocks-is (with_row c.args.cap _ _ _ c.only.ensures c.new-blocks.ensures.items c.in_ok-push.ensures.items _ (bits_in w.in-Some.row.now) (Holds c.args.self.now (Group c.args.name)) w.in_ok-push_to.ensures (row_held _ w.in-Some.row.now w.in-Some.ensures.value))
  | in_default w ↦ rw w.blocks-is (with_none c.args.cap _ _ _ c.only.ensures c.new-blocks.ensures.items c.in_ok-push.ensures.items (Holds c.args.self.now (Group c.args.name)) (none_held _ w.in_default.ensures.value))
]
