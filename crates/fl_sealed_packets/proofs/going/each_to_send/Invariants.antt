use Rattle.std.proofs.Common.{◌≡◌, map, take}
use Rattle.fl_sealed_packets.specs.Sealing.{sent_bytes}
use Rattle.fl_sealed_packets.proofs.going.each_to_send.Given as goal

-- the bytes so far are those of the packets so far
abbrev pub invariant-loop-packet : goal.invariant-loop-packet
invariant-loop-packet l = map (λ bytes. bytes.items) l.all.items ≡ map (sent_bytes l.keys) (take l.packet-index l.packets)
