-- The lines of explanations, each with its line feed.
use Rattle.std.specs.Prelude.{ℕ, Bool, true, false, List, [], ◌∷◌, ◌++◌, codes, drop, length, map, take}
use Rattle.std.specs.Fmt.{decimal}
use Rattle.std.specs.FinMap as maps
use Rattle.std.specs.List.{flat_map}
use Rattle.std.specs.declared.option.Option.{Option}
use Rattle.std.specs.declared.option.Option.TheVariants.{None, Some}
use Rattle.fl_labels.specs.Cap.{cap_cmp}
use Rattle.fl_labels.specs.SetBy.{SetBy, members}
use Rattle.fl_labels.specs.Text.{cap_text, caps_text, endpoint_text, label_text, name_text, pid_text}
use Rattle.fl_labels.specs.declared.cap.Cap.{Cap}
use Rattle.fl_labels.specs.declared.cap.Cap.TheVariants.{Use}
use Rattle.fl_labels.specs.declared.endpoint.Endpoint.{Endpoint}
use Rattle.fl_labels.specs.declared.name.Name.{Name}
use Rattle.fl_labels.specs.declared.pid.Pid.{Pid}
use Rattle.fl_ops.specs.declared.op.Op.{Op}
use Rattle.fl_opset.specs.RegistryText.{op_line}
use Rattle.fl_message.specs.declared.message.Letter.{Letter}
use Rattle.fl_rules.specs.declared.labels.Labels.{Labels}
use Rattle.fl_mailbox.specs.declared.endpoints.OpenEndpoint.{OpenEndpoint}
use Rattle.fl_script.specs.Words.{mode_text}
use Rattle.fl_bench.specs.Bench.{BenchState}
use Rattle.fl_bench.specs.Process.{is_busy, owns}
use Rattle.fl_bench.specs.declared.process.Process.{Process}
use Rattle.fl_system.specs.State.{ops_of}
use Rattle.fl_system.specs.declared.state.Pending.TheVariants.{Nothing, Unsaved, Due}
use Rattle.fl_system.specs.declared.state.State.{State}
use Rattle.fl_system.specs.declared.state.State.TheVariants.{Running, Stopped}
use Rattle.fl_replies.specs.ReplyText.{count_text}
use Rattle.fl_chains.specs.Step.{put_op}
use Rattle.fl_chains.specs.declared.logins.Login.{Login}
use Rattle.fl_chains.specs.declared.step.Step.{Step}
use Rattle.fl_explanations.specs.declared.who.Who.{Who}
use Rattle.fl_explanations.specs.declared.why.First.{First}
use Rattle.fl_explanations.specs.declared.why.First.TheVariants.{Owns, Everybody, Uses}
use Rattle.fl_explanations.specs.declared.why.Why.{Why}

-- `lines 2`, and these lines
abbrev pub lines_text : List (List ℕ) → List ℕ
lines_text lines = count_text (codes "lines ") (length lines) ++ flat_map (λ line. line) lines

-- `owns +1.1`, `everybody 1.1` or `use *1.4`
abbrev pub first_line : First → List ℕ
first_line (Owns cap) = codes "owns " ++ (cap_text cap ++ codes "\n")
first_line (Everybody name) = codes "everybody " ++ (name_text name ++ codes "\n")
first_line (Uses group) = codes "use " ++ (cap_text (Use group) ++ codes "\n")

-- that of the put on which a step rests
abbrev pub step_line : Step → List ℕ
step_line step = op_line (put_op step)

-- what a chain begins with, and its steps
abbrev pub why_lines : Why → List (List ℕ)
why_lines why = first_line why.first ∷ map step_line why.steps.items

-- ---- who has a capability

-- `everybody 1.1` where an operation gives it to everybody
abbrev pub everybody_lines : Option Name → List (List ℕ)
everybody_lines None = []
everybody_lines (Some name) = first_line (Everybody name) ∷ []

-- `process p1.1.1`
abbrev pub process_line : Pid → List ℕ
process_line pid = codes "process " ++ (pid_text pid ++ codes "\n")

-- `group 1.4`
abbrev pub group_line : Name → List ℕ
group_line group = codes "group " ++ (name_text group ++ codes "\n")

-- `login 1.5 *1.4`
abbrev pub login_line : Login → List ℕ
login_line login = codes "login "
    ++ (name_text login.name ++ (codes " " ++ (cap_text login.cap ++ codes "\n")))

-- everybody, the processes, the groups and the logins
abbrev pub who_lines : Who → List (List ℕ)
who_lines who = everybody_lines who.everybody ++ (map process_line who.processes.items
    ++ (map group_line who.groups.items ++ map login_line who.logins.items))

-- ---- parts of a list, and processes

-- from this place of a list on, at most 1,000
abbrev pub logged : ℕ → List Op → List Op
logged place ops = take 1000 (drop place ops)

-- `S {1.1}`: a list behind these bytes
abbrev pub list_line : List ℕ → List ℕ → List ℕ
list_line front list = front ++ (list ++ codes "\n")

-- `S {1.1} I {}`: both labels, each behind these bytes
abbrev pub labels_text : List ℕ → List ℕ → Labels → List ℕ
labels_text before between labels =
    before ++ (label_text labels.secrecy ++ (between ++ label_text labels.integrity))

-- `end e1 rw {1.1} {}`
abbrev pub end_line : Endpoint × OpenEndpoint → List ℕ
end_line end = codes "end " ++ (endpoint_text end.0 ++ (codes " "
    ++ (mode_text end.1.mode ++ (labels_text (codes " ") (codes " ") end.1.labels ++ codes "\n"))))

-- `waits p1.1.1 {*1.4} 12`: who sent it, its capabilities, how many bytes it has
abbrev pub waits_line : Letter → List ℕ
waits_line letter = codes "waits " ++ (pid_text letter.sender ++ (codes " "
    ++ (caps_text letter.message.caps
    ++ count_text (codes " ") (length letter.message.payload))))

-- its labels, what it owns, its endpoints, rising, and the messages that wait, the oldest first
abbrev pub process_lines : Process → List (List ℕ)
process_lines p =
    list_line (codes "S ") (label_text p.labels.secrecy)
    ∷ list_line (codes "I ") (label_text p.labels.integrity)
    ∷ list_line (codes "owns ") (caps_text (owns p))
    ∷ map end_line (maps.entries p.mailbox.endpoints) ++ map waits_line p.mailbox.inbox

-- ---- how a node stands

-- `none`, `3 begun` where so many operations are to be saved, or `3 due` where they are to be
-- published
abbrev pub pending_text : State → List ℕ
pending_text (Running Nothing) = codes "none"
pending_text (Running (Unsaved batch)) = decimal (length (ops_of batch)) ++ codes " begun"
pending_text (Running (Due batch)) = decimal (length (ops_of batch)) ++ codes " due"
pending_text (Stopped doubt) = codes "none"

-- `node 1 boot 2 published 3`
abbrev pub numbers_text : ℕ → ℕ → ℕ → List ℕ
numbers_text number boot published =
    codes "node " ++ (decimal number ++ (codes " boot " ++ (decimal boot
    ++ (codes " published " ++ decimal published))))

-- `node 1 boot 2 published 3 pending none processes 4`
abbrev pub node_line : ℕ → ℕ → ℕ → State → ℕ → List ℕ
node_line number boot published state count =
    numbers_text number boot published
    ++ (codes " pending " ++ (pending_text state ++ count_text (codes " processes ") count))

-- ` busy` where an operation of the process is under way, and else ` idle`
abbrev pub busy_text : Bool → List ℕ
busy_text true = codes " busy\n"
busy_text false = codes " idle\n"

-- ` owns 4 ends 1 waits 0 idle`
abbrev pub counts_text : Process → List ℕ
counts_text p =
    codes " owns " ++ (decimal (length (members (owns p))) ++ (codes " ends "
    ++ (decimal (length (maps.entries p.mailbox.endpoints)) ++ (codes " waits "
    ++ (decimal (length p.mailbox.inbox) ++ busy_text (is_busy p))))))

-- `p1.1.1 S {1.1} I {} owns 4 ends 1 waits 0 idle`
abbrev pub standing_line : Pid × Process → List ℕ
standing_line it = pid_text it.0 ++ (labels_text (codes " S ") (codes " I ") it.1.labels ++ counts_text it.1)

-- the processes of a bench, rising by their pids
abbrev pub processes_at : Option BenchState → List (Pid × Process)
processes_at None = []
processes_at (Some bench) = maps.entries bench.processes

abbrev pub pids_of : Option BenchState → List Pid
pids_of bench = map (λ it. it.0) (processes_at bench)

-- how the node stands, and each process
abbrev pub node_lines : ℕ → ℕ → ℕ → State → List (Pid × Process) → List (List ℕ)
node_lines number boot published state processes =
    node_line number boot published state (length processes) ∷ map standing_line processes

-- ---- what is wanting

-- `+1.1`
abbrev pub cap_line : Cap → List ℕ
cap_line cap = cap_text cap ++ codes "\n"

-- each of these capabilities, rising
abbrev pub missing_lines : SetBy cap_cmp → List (List ℕ)
missing_lines caps = map cap_line (members caps)
