-- What a format has bytes for, of packets: the first for nodes below 65536 alone, and for no opened groups; the second for all.
use Rattle.std.specs.Prelude.{◌<◌}
use Rattle.std.specs.List.{AllByRecursion}
use Rattle.fl_labels.specs.declared.pid.Pid.{Pid}
use Rattle.fl_labels.specs.Name.{name_cmp}
use Rattle.fl_labels.specs.Cap.{cap_cmp}
use Rattle.fl_labels.specs.SetBy.{SetBy, members}
use Rattle.fl_ops.specs.declared.format.Format.{Format}
use Rattle.fl_ops.specs.Format.{node_limit}
use Rattle.fl_ops.specs.Fits.{HasName, HasCap, HasOp}
use Rattle.fl_opset.specs.declared.span.Span.{Span}
use Rattle.fl_opset.specs.declared.intervals.Intervals.{Intervals}
use Rattle.fl_message.specs.declared.message.Data.{Data}
use Rattle.fl_wire.specs.declared.packet.Packet.{Packet}
use Rattle.fl_wire.specs.declared.packet.Packet.TheVariants as kinds

abbrev pub HasPid : Format → Pid → Type 0
HasPid f p = p.node < node_limit f

abbrev pub HasLabel : Format → SetBy name_cmp → Type 0
HasLabel f s = AllByRecursion (HasName f) (members s)

abbrev pub HasCaps : Format → SetBy cap_cmp → Type 0
HasCaps f s = AllByRecursion (HasCap f) (members s)

abbrev pub HasSpan : Format → Span → Type 0
HasSpan f s = HasName f s.first

pub record HasData (f : Format) (d : Data) : Type 0 where
  pub sender : HasPid f d.sender
  pub receiver : HasPid f d.receiver
  pub secrecy : HasLabel f d.secrecy
  pub integrity : HasLabel f d.integrity
  pub caps : HasCaps f d.message.caps

pub record HasWindow (f : Format) (w : Intervals) : Type 0 where
  pub from : HasName f w.from
  pub to : HasName f w.to
  pub spans : AllByRecursion (HasSpan f) w.spans

abbrev pub HasPacket : Format → Packet → Type 0
HasPacket f (kinds.Full b) = AllByRecursion (HasOp f) b.ops
HasPacket f (kinds.Have w) = HasWindow f w
HasPacket f (kinds.Delta b) = AllByRecursion (HasOp f) b.ops
HasPacket f (kinds.Data d) = HasData f d
