-- Which packet has a number, and how what a node tells is sent.
use Rattle.std.specs.Prelude.{◌++◌, ◌<◌, ℕ, zero, suc, List, length}
use Rattle.std.specs.List.{slice_get}
use Rattle.std.specs.declared.option.Option.{Option}
use Rattle.std.specs.declared.option.Option.TheVariants.{None}
use Rattle.fl_wire.specs.declared.packet.Packet.{Packet}
use Rattle.fl_jobs.specs.declared.answer.Refusal.TheVariants.{Memory}
use Rattle.fl_system.specs.declared.answer.Fault.TheVariants as faults
use Rattle.fl_system.specs.declared.reply.Reply.{Reply}
use Rattle.fl_system.specs.declared.reply.Reply.TheVariants.{Refused}
use Rattle.fl_system.specs.declared.reply.Reply.TheVariants.{Sent as HasSent}
use Rattle.fl_system.specs.declared.sent.Sent.{Sent}
use Rattle.fl_system.specs.Gossip.{told_by}

-- the packet of this number, from 1 on
abbrev pub packet_of : List Sent → ℕ → Option Sent
packet_of sent zero = None
packet_of sent (suc before) = slice_get sent before

-- These packets are sent by the node of this number, or there is no room for one of them: the answer, and all packets
-- after it.
pub data Sends (number : ℕ) (told : List Packet) (packets : List Sent)
    : Reply → List Sent → Type 0 where
  no_room : 0 < length told → Sends number told packets (Refused (faults.Refused Memory)) packets
  sends : Sends number told packets (HasSent (suc (length packets)) (length told))
      (packets ++ told_by number told)
