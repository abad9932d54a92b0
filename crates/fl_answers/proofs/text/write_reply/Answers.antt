-- A reply of more than a word is put before its line feed.
use Rattle.fl_sink.specs.laws.Passing.{puts_then, puts_stop}
use Rattle.fl_answers.proofs.text.write_reply.Goals as goal
use Rattle.fl_answers.proofs.text.write_reply.Goals.{in-Made+in_ok-put_pid-in-Made, in-Entered+in_ok-put_cap-in-Entered, in-Emitted+in_ok-put_bytes-in-Emitted, in-Opened+in_ok-put_endpoint-in-Opened, in-Taken+in_ok-put_letter-in-Taken, in-Arrived+in_ok-put_pid-in-Arrived}

pub returns-in_err-put_pid-in-Made-clause-puts : goal.returns-in_err-put_pid-in-Made-clause-puts
returns-in_err-put_pid-in-Made-clause-puts g c = rw c.in-Made.is (puts_stop _ _ c.in_err-put_pid-in-Made.ensures.puts.is c.from_residual.ensures.0)

pub returns-in_err-put_cap-in-Entered-clause-puts : goal.returns-in_err-put_cap-in-Entered-clause-puts
returns-in_err-put_cap-in-Entered-clause-puts g c = rw c.in-Entered.is (puts_stop _ _ c.in_err-put_cap-in-Entered.ensures.puts.is c.from_residual-in_err-put_cap-in-Entered.ensures.0)

pub returns-in_err-put_bytes-in-Emitted-clause-puts : goal.returns-in_err-put_bytes-in-Emitted-clause-puts
returns-in_err-put_bytes-in-Emitted-clause-puts g c = rw (c.in-Emitted.is, ← c.deref.ensures, ← c.as_slice.ensures) (puts_stop _ _ c.in_err-put_bytes-in-Emitted.ensures.puts.is c.from_residual-in_err-put_bytes-in-Emitted.ensures.0)

pub returns-in_err-put_endpoint-in-Opened-clause-puts : goal.returns-in_err-put_endpoint-in-Opened-clause-puts
returns-in_err-put_endpoint-in-Opened-clause-puts g c = rw c.in-Opened.is (puts_stop _ _ c.in_err-put_endpoint-in-Opened.ensures.puts.is c.from_residual-in_err-put_endpoint-in-Opened.ensures.0)

pub returns-in_err-put_letter-in-Taken-clause-puts : goal.returns-in_err-put_letter-in-Taken-clause-puts
returns-in_err-put_letter-in-Taken-clause-puts g c = rw (c.in-Taken.is, ← c.deref-in-Taken.ensures) (puts_stop _ _ c.in_err-put_letter-in-Taken.ensures.puts.is c.from_residual-in_err-put_letter-in-Taken.ensures.0)

pub returns-in_err-put_pid-in-Arrived-clause-puts : goal.returns-in_err-put_pid-in-Arrived-clause-puts
returns-in_err-put_pid-in-Arrived-clause-puts g c = rw c.in-Arrived.is (puts_stop _ _ c.in_err-put_pid-in-Arrived.ensures.puts.is c.from_residual-in_err-put_pid-in-Arrived.ensures.0)

pub returns-clause-puts : goal.returns-clause-puts
returns-clause-puts g c = elim c.match-reply.branch [
  | in-Made+in_ok-put_pid-in-Made w ↦ rw w.in-Made.is (puts_then w.in_ok-put_pid-in-Made.ensures.puts.is (rw (← w.sink-is, ← w.output-is) c.put-2.ensures.puts))
  | in-Entered+in_ok-put_cap-in-Entered w ↦ rw (w.in-Entered.is) (puts_then w.in_ok-put_cap-in-Entered.ensures.puts.is (rw (← w.sink-is, ← w.output-is) c.put-2.ensures.puts))
  | in-Emitted+in_ok-put_bytes-in-Emitted w ↦ rw (w.in-Emitted.is, ← w.deref.ensures, ← w.as_slice.ensures) (puts_then w.in_ok-put_bytes-in-Emitted.ensures.puts.is (rw (← w.sink-is, ← w.output-is) c.put-2.ensures.puts))
  | in-Opened+in_ok-put_endpoint-in-Opened w ↦ rw (w.in-Opened.is) (puts_then w.in_ok-put_endpoint-in-Opened.ensures.puts.is (rw (← w.sink-is, ← w.output-is) c.put-2.ensures.puts))
  | in-Taken+in_ok-put_letter-in-Taken w ↦ rw (w.in-Taken.is, ← w.deref-in-Taken.ensures) (puts_then w.in_ok-put_letter-in-Taken.ensures.puts.is (rw (← w.sink-is, ← w.output-is) c.put-2.ensures.puts))
  | in-Arrived+in_ok-put_pid-in-Arrived w ↦ rw (w.in-Arrived.is) (puts_then w.in_ok-put_pid-in-Arrived.ensures.puts.is (rw (← w.sink-is, ← w.output-is) c.put-2.ensures.puts))
]
