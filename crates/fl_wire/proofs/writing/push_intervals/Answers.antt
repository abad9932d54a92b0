use Rattle.std.proofs.Common.{◌++◌, length, ap}
use Rattle.std.specs.Int.{w16, to_be_bytes}
use Rattle.std.specs.List.{flat_map}
use Rattle.fl_ops.specs.declared.format.Format.TheVariants.{Two}
use Rattle.fl_ops.specs.Bytes.{name_bytes}
use Rattle.fl_wire.specs.PacketBytes.{span_bytes}
use Rattle.fl_wire.proofs.Pushed.{three}
use Rattle.fl_wire.proofs.writing.push_intervals.Goals as goal

pub returns : goal.returns
returns c =
    three c.push_spans.result c.args.out.now.items (name_bytes Two c.args.window.now.from) (name_bytes Two c.args.window.now.to) _ _ c.push_name.new.out.items c.push_name-2.new.out.items c.push_spans.new.out.items
    c.in_ok-push_name.ensures.ok c.in_ok-push_name-2.ensures.ok (ap (λ l. to_be_bytes w16 (length l) ++ flat_map (span_bytes Two) l) c.as_slice.ensures) c.push_spans.ensures
