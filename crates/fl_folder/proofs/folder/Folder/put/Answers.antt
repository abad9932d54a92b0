use Rattle.std.proofs.Common.{Some, rules}
use Rattle.fl_folder.proofs.Places.{placed}
use Rattle.fl_folder.proofs.folder.Folder.put.Goals as goal

pub returns-in-Some-clause-puts : goal.returns-in-Some-clause-puts
returns-in-Some-clause-puts c =
    let old = c.args.self.now in
    let new = record old { places = c.get_mut.follows.lender c.closed-closed.result } in
    placed old new c.args.path.now (Some c.args.files) c.closed-closed.result c.closed-closed.ensures ((c.get_mut.follows.holds c.closed-closed.result).3 (search rules))
