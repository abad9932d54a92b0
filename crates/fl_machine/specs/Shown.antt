-- What a response of the program says.
use Rattle.std.specs.Prelude.{◌≡◌, ℕ, List, map as list_map, Vec}
use Rattle.std.specs.Borrow.{Bor}
use Rattle.std.specs.declared.alloc.AllocError.{AllocError}
use Rattle.std.specs.declared.alloc.Global.{Global}
use Rattle.std.specs.declared.option.Option.{Option}
use Rattle.std.specs.declared.option.Option.TheVariants.{None, Some}
use Rattle.std.specs.declared.result.Result.{Result}
use Rattle.std.specs.declared.result.Result.TheVariants.{Ok, Err}
use Rattle.fl_labels.specs.Cap.{cap_cmp}
use Rattle.fl_labels.specs.SetBy.{SetBy}
use Rattle.fl_seal.specs.declared.seal.Key.{Key}
use Rattle.fl_sealed_packets.specs.Sealing.{sent_bytes}
use Rattle.fl_wire.specs.declared.packet.Packet.{Packet}
use Rattle.fl_system.specs.declared.answer.Fault.{Fault}
use Rattle.fl_system.specs.declared.answer.Fault.TheVariants as faults
use Rattle.fl_system.specs.declared.reply.Reply.{Reply}
use Rattle.fl_system.specs.declared.reply.Reply.TheVariants.{Job, Refused}
use Rattle.fl_system.specs.State.{NodeState}
use Rattle.fl_system.specs.Waiting.{IsRunning}
use Rattle.fl_jobs.specs.declared.answer.Refusal.{Refusal}
use Rattle.fl_jobs.specs.declared.answer.Reply.{Reply as JobReply}
use Rattle.fl_jobs.specs.declared.answer.Reply.TheVariants.{NotYet}
use Rattle.fl_calls.specs.Answer as says
use Rattle.fl_calls.specs.Completing.{starved}
use Rattle.fl_explanations.specs.Lines.{logged, missing_lines, pids_of, who_lines, why_lines}
use Rattle.fl_explanations.specs.declared.who.Who.{Who}
use Rattle.fl_explanations.specs.declared.why.Why.{Why}
use Rattle.fl_opset.specs.RegistryText.{op_line}
use Rattle.fl_calls.specs.declared.response.Check.{Check}
use Rattle.fl_turns.specs.Answer.{fault_status}
use Rattle.fl_machine_turns.specs.Answer.{Answer}
use Rattle.fl_machine_turns.specs.Answer as answers
use Rattle.fl_machine_turns.specs.Explaining.{bench_of, overview_of, told_of}
use Rattle.fl_labels.specs.declared.pid.Pid.{Pid}
use Rattle.fl_system.specs.Processes.{process_of}
use Rattle.fl_machine.specs.declared.response.Response.{Response}
use Rattle.fl_machine.specs.declared.response.Response.TheVariants as response

-- of a node in this state, whose process has these keys
pub data Shows (keys : List Key) (n : NodeState) : Response → Answer → Type 0 where
  silence : Shows keys n response.Silence answers.silence
  replied : {reply : Reply}
      → Shows keys n (response.Reply reply) (answers.said (says.replied reply))
  dropped : {fault : Fault}
      → Shows keys n (response.Dropped fault) (answers.said (says.dropped fault))
  sent : {bytes : Vec ℕ Global} {packet : Packet} → bytes.items ≡ sent_bytes keys packet
      → Shows keys n (response.Sent bytes) (answers.sent packet)
  told : {all : Vec (Vec ℕ Global) Global} {packets : List Packet}
      → list_map (λ bytes. bytes.items) all.items ≡ list_map (sent_bytes keys) packets
      → Shows keys n (response.Told all) (answers.told packets)
  text : IsRunning n.state → Shows keys n response.Text (answers.listed n.published)
  checked : {check : Check}
      → Shows keys n (response.Checked check) (answers.said (says.checked check))
  bad_packet : {place : ℕ}
      → Shows keys n (response.BadPacket place) (answers.said (says.bad_packet place))
  admitted : {count : ℕ}
      → Shows keys n (response.Admitted count) (answers.said (says.admitted count))
  echoed : {word : Bor (List ℕ)} → Shows keys n (response.Echo word) (answers.echoed word.now)
  log : {place : ℕ} → Shows keys n (response.Log place)
      (answers.explained (list_map op_line (logged place n.published)))
  because : {found : Why} → Shows keys n (response.Why found) (answers.explained (why_lines found))
  named : {found : Who} → Shows keys n (response.Who found) (answers.explained (who_lines found))
  wanting : {caps : SetBy cap_cmp}
      → Shows keys n (response.Wanting caps) (answers.explained (missing_lines caps))
  overview : {pids : Vec Pid Global} → pids.items ≡ pids_of (bench_of n)
      → Shows keys n (response.Overview pids) (overview_of n)
  process : {pid : Pid} → Shows keys n (response.Process pid) (told_of pid (process_of n pid))
  unknown : Shows keys n response.Unknown (answers.said says.unknown)

-- what is responded where a chain was looked for
abbrev pub why_response : Result (Option Why) AllocError → Response
why_response (Ok (Some found)) = response.Why found
why_response (Ok None) = response.Reply (Job NotYet)
why_response (Err error) = response.Reply starved

-- what is responded where something was foretold
abbrev pub foretold_response : Result JobReply Refusal → Response
foretold_response (Ok reply) = response.Reply (Job reply)
foretold_response (Err refusal) = response.Reply (Refused (faults.Refused refusal))

-- the status of its line, whatever it shows
abbrev pub status_said : Response → ℕ
status_said (response.Reply (Refused fault)) = fault_status fault
status_said (response.Dropped fault) = fault_status fault
status_said response.Unknown = 1
status_said other = 0
