use Rattle.std.proofs.Common.{◌<◌, arith, length}
use Rattle.fl_sink.specs.laws.Passing.{passes_then, puts_then, puts_stop}
use Rattle.fl_sink.specs.laws.Pieces.{flat_map_more, flat_map_at}
use Rattle.fl_machine.proofs.Texts.{line_of}
use Rattle.fl_machine.proofs.answers.put_lines.Goals as goal

pub loop-packet-preserved : goal.loop-packet-preserved
loop-packet-preserved g c =
    let inside : c.loop-packet.packet-index < length c.args.packets.now = omega arith in
    rw (
      flat_map_more line_of c.args.packets.now c.loop-packet.packet-index c.packet-item.result
          inside,
      ← c.packet-item.is,
      ← c.deref.ensures.value,
    )
    (passes_then _ _ _ c.loop-packet.invariant c.in_ok-put_packet.ensures.puts.is)

pub returns-in_err-put_packet-clause-puts : goal.returns-in_err-put_packet-clause-puts
returns-in_err-put_packet-clause-puts g c =
    let inside : c.loop-packet.packet-index < length c.args.packets.now = omega arith in
    rw (
      flat_map_at line_of c.args.packets.now c.loop-packet.packet-index c.packet-item.result
          inside,
      ← c.packet-item.is,
      ← c.deref.ensures.value,
    )
    (puts_then c.loop-packet.invariant
    (puts_stop _ _ c.in_err-put_packet.ensures.puts.is c.from_residual.ensures.0))
