use Rattle.std.proofs.Common.{◌≡◌, ◌++◌, ◌∷◌, [], rules}
use Rattle.std.specs.Int.{w32, to_be_bytes}
use Rattle.fl_wire.proofs.Pushed.{chained}
use Rattle.fl_wire.proofs.writing.push_end.Goals as goal

pub returns : goal.returns
returns c =
    let p = c.args.pid in
    let e1 : c.extend_from_slice.new.self.items ≡ c.args.out.now.items ++ to_be_bytes w32 p.node = search rules in
    let e2 : c.extend_from_slice-2.new.self.items ≡ c.extend_from_slice.new.self.items ++ to_be_bytes w32 p.boot = search rules in
    let e3 : c.extend_from_slice-3.new.self.items ≡ c.extend_from_slice-2.new.self.items ++ to_be_bytes w32 p.serial = search rules in
    let e4 : c.push.new.self.items ≡ c.extend_from_slice-3.new.self.items ++ c.args.endpoint.number ∷ [] = search rules in
    chained c.args.out.now.items (to_be_bytes w32 p.node) (to_be_bytes w32 p.boot) (to_be_bytes w32 p.serial) (c.args.endpoint.number ∷ []) c.extend_from_slice.new.self.items c.extend_from_slice-2.new.self.items c.extend_from_slice-3.new.self.items c.push.new.self.items e1 e2 e3 e4
