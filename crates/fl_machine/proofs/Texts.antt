-- What a response shows, by what it is, and how that is written.
use Rattle.std.proofs.Common.{◌≡◌, ◌++◌, ◌∙◌, refl, sym, ap, ℕ, List, [], length, codes}
use Rattle.std.proofs.Common.{map as list_map, Vec}
use Rattle.std.proofs.lemmas.List.{length-map}
use Rattle.std.proofs.lemmas.List.Folds.{flat_map-map}
use Rattle.std.proofs.Common.{Option, None, Some}
use Rattle.std.specs.Borrow.{Bor}
use Rattle.std.specs.List.{flat_map}
use Rattle.std.specs.declared.alloc.Global.{Global}
use Rattle.hex.specs.Hex.{encode_lower}
use Rattle.fl_labels.specs.Cap.{cap_cmp}
use Rattle.fl_labels.specs.SetBy as set
use Rattle.fl_labels.specs.SetBy.{SetBy}
use Rattle.fl_labels.specs.declared.pid.Pid.{Pid}
use Rattle.fl_bench.specs.declared.process.Process.{Process}
use Rattle.fl_explanations.specs.Lines.{lines_text, logged, missing_lines, pids_of, who_lines, why_lines}
use Rattle.fl_explanations.specs.declared.who.Who.{Who}
use Rattle.fl_explanations.specs.declared.why.Why.{Why}
use Rattle.fl_opset.specs.RegistryText.{op_line, registry_text}
use Rattle.fl_seal.specs.declared.seal.Key.{Key}
use Rattle.fl_sealed_packets.specs.Sealing.{sent_bytes}
use Rattle.fl_wire.specs.declared.packet.Packet.{Packet}
use Rattle.fl_replies.specs.ReplyText.{count_text, dropped_fault_text, world_text}
use Rattle.fl_calls.specs.CheckText.{check_text}
use Rattle.fl_calls.specs.declared.response.Check.{Check}
use Rattle.fl_system.specs.declared.answer.Fault.{Fault}
use Rattle.fl_system.specs.declared.reply.Reply.{Reply}
use Rattle.fl_system.specs.Processes.{process_of}
use Rattle.fl_system.specs.State.{NodeState}
use Rattle.fl_system.specs.Waiting.{IsRunning}
use Rattle.fl_machine_turns.specs.Answer.{Answer}
use Rattle.fl_machine_turns.specs.AnswerText.{head_text, packet_text, text_of}
use Rattle.fl_machine_turns.specs.Explaining.{bench_of, overview_of, told_of}
use Rattle.fl_machine.specs.Shown.{Shows}
use Rattle.fl_machine.specs.declared.response.Response.{Response}
use Rattle.fl_machine.specs.declared.response.Response.TheVariants as response

-- the line of the bytes of a packet
abbrev pub line_of : Vec ℕ Global → List ℕ
line_of bytes = encode_lower bytes.items ++ codes "\n"

-- so many packets have a line each, and these are the same
lines_same : (keys : List Key) (all : List (Vec ℕ Global)) (packets : List Packet)
    → list_map (λ (bytes : Vec ℕ Global). bytes.items) all ≡ list_map (sent_bytes keys) packets
    → flat_map line_of all ≡ flat_map (packet_text keys) packets
lines_same keys all packets e =
    sym (flat_map-map (λ (bytes : List ℕ). encode_lower bytes ++ codes "\n")
    (λ (bytes : Vec ℕ Global). bytes.items) all)
    ∙ ap (flat_map (λ (bytes : List ℕ). encode_lower bytes ++ codes "\n")) e
    ∙ flat_map-map (λ (bytes : List ℕ). encode_lower bytes ++ codes "\n") (sent_bytes keys) packets

count_same : (keys : List Key) (all : List (Vec ℕ Global)) (packets : List Packet)
    → list_map (λ (bytes : Vec ℕ Global). bytes.items) all ≡ list_map (sent_bytes keys) packets
    → length all ≡ length packets
count_same keys all packets e =
    sym (length-map all (λ (bytes : Vec ℕ Global). bytes.items)) ∙ ap length e
    ∙ length-map packets (sent_bytes keys)

module _ (keys : List Key) (n : NodeState) (number : ℕ) where
  pub silence_text : (answer : Answer) → Shows keys n response.Silence answer
      → text_of keys number answer ≡ []
  silence_text answer Shows.silence = refl

  pub replied_text : (reply : Reply) (answer : Answer) → Shows keys n (response.Reply reply) answer
      → text_of keys number answer ≡ world_text reply
  replied_text reply answer Shows.replied = refl

  pub dropped_text : (fault : Fault) (answer : Answer)
      → Shows keys n (response.Dropped fault) answer
      → text_of keys number answer ≡ dropped_fault_text fault
  dropped_text fault answer Shows.dropped = refl

  pub sent_text : (bytes : Vec ℕ Global) (answer : Answer)
      → Shows keys n (response.Sent bytes) answer
      → text_of keys number answer ≡ codes "sent " ++ (encode_lower bytes.items ++ codes "\n")
  sent_text bytes answer (Shows.sent e) =
      ap (λ (l : List ℕ). codes "sent " ++ (encode_lower l ++ codes "\n")) (sym e)

  pub told_text : (all : Vec (Vec ℕ Global) Global) (answer : Answer)
      → Shows keys n (response.Told all) answer
      → text_of keys number answer ≡ head_text (length all.items) ++ flat_map line_of all.items
  told_text all answer (Shows.told {packets = packets} e) =
      ap (λ count. head_text count ++ flat_map (packet_text keys) packets)
      (sym (count_same keys all.items packets e))
      ∙ ap (λ l. head_text (length all.items) ++ l) (sym (lines_same keys all.items packets e))

  pub listed_text : (answer : Answer) → Shows keys n response.Text answer
      → text_of keys number answer
      ≡ head_text (length n.published) ++ registry_text (set.of_list n.published)
  listed_text answer (Shows.text running) = refl

  pub checked_text : (check : Check) (answer : Answer)
      → Shows keys n (response.Checked check) answer
      → text_of keys number answer ≡ check_text check
  checked_text check answer Shows.checked = refl

  pub bad_packet_text : (place : ℕ) (answer : Answer)
      → Shows keys n (response.BadPacket place) answer
      → text_of keys number answer ≡ count_text (codes "refused F18 ") place
  bad_packet_text place answer Shows.bad_packet = refl

  pub admitted_text : (count : ℕ) (answer : Answer) → Shows keys n (response.Admitted count) answer
      → text_of keys number answer ≡ count_text (codes "admitted ") count
  admitted_text count answer Shows.admitted = refl

  pub echoed_text : (word : Bor (List ℕ)) (answer : Answer)
      → Shows keys n (response.Echo word) answer
      → text_of keys number answer ≡ codes "echo " ++ (word.now ++ codes "\n")
  echoed_text word answer Shows.echoed = refl

  pub log_text : (place : ℕ) (answer : Answer) → Shows keys n (response.Log place) answer
      → text_of keys number answer
      ≡ head_text (length (logged place n.published)) ++ flat_map op_line (logged place n.published)
  log_text place answer Shows.log =
      let ops = logged place n.published in
      ap (λ count. head_text count ++ flat_map (λ line. line) (list_map op_line ops))
      (length-map ops op_line)
      ∙ ap (λ l. head_text (length ops) ++ l) (flat_map-map (λ line. line) op_line ops)

  pub why_text : (why : Why) (answer : Answer) → Shows keys n (response.Why why) answer
      → text_of keys number answer
      ≡ head_text (length (why_lines why)) ++ flat_map (λ line. line) (why_lines why)
  why_text why answer Shows.because = refl

  pub who_text : (who : Who) (answer : Answer) → Shows keys n (response.Who who) answer
      → text_of keys number answer ≡ lines_text (who_lines who)
  who_text who answer Shows.named = refl

  pub wanting_text : (caps : SetBy cap_cmp) (answer : Answer)
      → Shows keys n (response.Wanting caps) answer
      → text_of keys number answer ≡ lines_text (missing_lines caps)
  wanting_text caps answer Shows.wanting = refl

  pub overview_text : (pids : Vec Pid Global) (answer : Answer)
      → Shows keys n (response.Overview pids) answer
      → text_of keys number answer ≡ text_of [] 0 (overview_of n)
  overview_text pids answer (Shows.overview are) = refl

  pub process_text : (pid : Pid) (answer : Answer) → Shows keys n (response.Process pid) answer
      → text_of keys number answer ≡ text_of [] 0 (told_of pid (process_of n pid))
  process_text pid answer Shows.process = told_text_of pid (process_of n pid)
    where
      told_text_of : (pid : Pid) (found : Option Process)
          → text_of keys number (told_of pid found) ≡ text_of [] 0 (told_of pid found)
      told_text_of pid (Some p) = refl
      told_text_of pid None = refl

  pub unknown_text : (answer : Answer) → Shows keys n response.Unknown answer
      → text_of keys number answer ≡ count_text (codes "refused F19 ") number
  unknown_text answer Shows.unknown = refl

-- a text that is to be written runs the node
pub text_runs : {keys : List Key} {n : NodeState} {r : Response} {answer : Answer}
    → Shows keys n r answer → r ≡ response.Text → IsRunning n.state
text_runs (Shows.text running) e = running
text_runs other e = absurd (cc)

-- and pids that stand in a response are those of the node's processes
pub pids_are : {keys : List Key} {n : NodeState} {r : Response} {answer : Answer}
    → Shows keys n r answer → (pids : Vec Pid Global) → r ≡ response.Overview pids
    → pids.items ≡ pids_of (bench_of n)
pids_are (Shows.overview {pids = shown} are) pids e =
    let same : shown ≡ pids = cc e in rw (← same) are
pids_are other pids e = absurd (cc)
