use Rattle.std.proofs.Common.{◌∙◌}
use Rattle.fl_machine.proofs.Texts.{admitted_text, bad_packet_text, checked_text, dropped_text}
use Rattle.fl_machine.proofs.Texts.{echoed_text, listed_text, replied_text, sent_text, silence_text}
use Rattle.fl_machine.proofs.Texts.{log_text, overview_text, process_text, told_text, unknown_text, wanting_text, who_text, why_text}
use Rattle.fl_machine.proofs.answers.write_response.Goals as goal

pub returns-in-Silence-clause-puts : goal.returns-in-Silence-clause-puts
returns-in-Silence-clause-puts g c = λ keys answer shows.
    rw (silence_text keys _ c.args.number answer (rw c.in-Silence.is at shows))
    c.put_all.ensures.puts

pub returns-in-Reply-clause-puts : goal.returns-in-Reply-clause-puts
returns-in-Reply-clause-puts g c = λ keys answer shows.
    rw (replied_text keys _ c.args.number c.in-Reply.reply answer (rw c.in-Reply.is at shows))
    c.write_world_reply.ensures.puts

pub returns-in-Dropped-clause-puts : goal.returns-in-Dropped-clause-puts
returns-in-Dropped-clause-puts g c = λ keys answer shows.
    rw (dropped_text keys _ c.args.number c.in-Dropped.fault answer (rw c.in-Dropped.is at shows))
    c.write_dropped_fault.ensures.puts

pub returns-in-Sent-clause-puts : goal.returns-in-Sent-clause-puts
returns-in-Sent-clause-puts g c = λ keys answer shows.
    rw (
      sent_text keys _ c.args.number c.in-Sent.bytes answer (rw c.in-Sent.is at shows),
      ← c.deref.ensures.value,
    ) c.put_packet.ensures.puts

pub returns-in-Told-clause-puts : goal.returns-in-Told-clause-puts
returns-in-Told-clause-puts g c = λ keys answer shows.
    rw (
      told_text keys _ c.args.number c.in-Told.packets answer (rw c.in-Told.is at shows),
      ← c.deref-in-Told.ensures.value,
    ) c.put_packets.ensures.puts

pub returns-in-Text-clause-puts : goal.returns-in-Text-clause-puts
returns-in-Text-clause-puts g c = λ keys answer shows.
    rw (listed_text keys _ c.args.number answer (rw c.in-Text.is at shows))
    c.put_text.ensures.puts

pub returns-in-Checked-clause-puts : goal.returns-in-Checked-clause-puts
returns-in-Checked-clause-puts g c = λ keys answer shows.
    rw (checked_text keys _ c.args.number c.in-Checked.check answer (rw c.in-Checked.is at shows))
    c.write_check.ensures.puts

pub returns-in-BadPacket-clause-puts : goal.returns-in-BadPacket-clause-puts
returns-in-BadPacket-clause-puts g c = λ keys answer shows.
    rw (bad_packet_text keys _ c.args.number c.in-BadPacket.place answer
    (rw c.in-BadPacket.is at shows)) c.write_count.ensures.puts

pub returns-in-Admitted-clause-puts : goal.returns-in-Admitted-clause-puts
returns-in-Admitted-clause-puts g c = λ keys answer shows.
    rw (admitted_text keys _ c.args.number c.in-Admitted.count answer
    (rw c.in-Admitted.is at shows)) c.write_count-in-Admitted.ensures.puts

pub returns-in-Echo-clause-puts : goal.returns-in-Echo-clause-puts
returns-in-Echo-clause-puts g c = λ keys answer shows.
    rw (echoed_text keys _ c.args.number c.in-Echo.word answer (rw c.in-Echo.is at shows))
    c.put_echo.ensures.puts

pub returns-in-Unknown-clause-puts : goal.returns-in-Unknown-clause-puts
returns-in-Unknown-clause-puts g c = λ keys answer shows.
    rw (unknown_text keys _ c.args.number answer (rw c.in-Unknown.is at shows))
    c.write_count-in-Unknown.ensures.puts

pub returns-in-Log-clause-puts : goal.returns-in-Log-clause-puts
returns-in-Log-clause-puts g c = λ keys answer shows.
    rw (log_text keys _ c.args.number c.in-Log.place answer (rw c.in-Log.is at shows))
    c.put_log.ensures.puts

pub returns-in-Why-clause-puts : goal.returns-in-Why-clause-puts
returns-in-Why-clause-puts g c = λ keys answer shows.
    rw (why_text keys _ c.args.number c.in-Why.why answer (rw c.in-Why.is at shows))
    c.put_why.ensures.puts

pub returns-in-Who-clause-puts : goal.returns-in-Who-clause-puts
returns-in-Who-clause-puts g c = λ keys answer shows.
    rw (who_text keys _ c.args.number c.in-Who.who answer (rw c.in-Who.is at shows))
    c.write_who.ensures.puts

pub returns-in-Wanting-clause-puts : goal.returns-in-Wanting-clause-puts
returns-in-Wanting-clause-puts g c = λ keys answer shows.
    rw (wanting_text keys _ c.args.number c.in-Wanting.caps answer (rw c.in-Wanting.is at shows))
    c.write_missing.ensures.puts

pub put_overview-requires : goal.put_overview-requires
put_overview-requires g c =
    c.deref-in-Overview.ensures.value ∙ c.requires.pids c.in-Overview.pids c.in-Overview.is

pub returns-in-Overview-clause-puts : goal.returns-in-Overview-clause-puts
returns-in-Overview-clause-puts g c = λ keys answer shows.
    rw (overview_text keys _ c.args.number c.in-Overview.pids answer (rw c.in-Overview.is at shows))
    c.put_overview.ensures.puts

pub returns-in-Process-clause-puts : goal.returns-in-Process-clause-puts
returns-in-Process-clause-puts g c = λ keys answer shows.
    rw (process_text keys _ c.args.number c.in-Process.pid answer (rw c.in-Process.is at shows))
    c.put_process.ensures.puts
