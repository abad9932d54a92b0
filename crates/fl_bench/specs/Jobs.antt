-- What a bench does with a job: the checks of each, in their order, and what it leaves and answers where none fails.
use Rattle.std.specs.Prelude.{◌≡◌, ◌≢◌, ◌⊎◌, nat_lt, not}
use Rattle.std.specs.declared.option.Option.TheVariants.{None, Some}
use Rattle.std.specs.declared.result.Result.{Result}
use Rattle.std.specs.declared.result.Result.TheVariants.{Ok, Err}
use Rattle.std.specs.FinMap as map
use Rattle.fl_labels.specs.Cap.{cap_cmp}
use Rattle.fl_labels.specs.Name.{name_cmp}
use Rattle.fl_labels.specs.SetBy as set
use Rattle.fl_labels.specs.SetBy.{SetBy, In}
use Rattle.fl_labels.specs.declared.name.Name.{Name}
use Rattle.fl_labels.specs.declared.cap.Cap.{Cap}
use Rattle.fl_labels.specs.declared.pid.Pid.{Pid}
use Rattle.fl_ops.specs.declared.digest.Digest.{Digest}
use Rattle.fl_ops.specs.Registry.{Registry, Reach, From, InEffect}
use Rattle.fl_ops.specs.Logins.{IsFirstLogin, HasNoLogin}
use Rattle.fl_jobs.specs.declared.job.Order as orders
use Rattle.fl_jobs.specs.declared.job.Act.{Act}
use Rattle.fl_jobs.specs.declared.job.Act.TheVariants.{Order, Relabel, Ask, Spawn, Exit, Drop, Enter, Emit, Mail}
use Rattle.fl_jobs.specs.declared.job.Job.{Job}
use Rattle.fl_jobs.specs.declared.job.Job.TheVariants.{Proc, By, Member, Arrive}
use Rattle.fl_jobs.specs.declared.secret.Secret.{Secret}
use Rattle.fl_jobs.specs.declared.answer.Refusal.{Refusal}
use Rattle.fl_jobs.specs.declared.answer.Refusal.TheVariants.{NoProcess, MissingCap, Secrecy}
use Rattle.fl_jobs.specs.declared.answer.Refusal.TheVariants.{NoLogin, WrongSecret, NamesSpent}
use Rattle.fl_jobs.specs.declared.answer.Refusal.TheVariants.{LabelTooLong, Memory, NotOwned, Busy}
use Rattle.fl_jobs.specs.declared.answer.Reply.TheVariants.{Made, Done, Yes, NotYet, Entered, Emitted, Arrived}
use Rattle.fl_jobs.specs.declared.answer.Outcome.{Outcome}
use Rattle.fl_rules.specs.Safety.{Takes}
use Rattle.fl_labels.specs.Caps.{Caps, Dual}
use Rattle.fl_mailbox.specs.declared.mailbox.Mailbox.{Mailbox}
use Rattle.fl_bench.specs.Checks.{Check, no_check, fails, refuse_if, demand, with, ◌then◌}
use Rattle.fl_bench.specs.Secrets.{digest_of}
use Rattle.fl_bench.specs.Guards.{grant_check, endpoints_check}
use Rattle.fl_bench.specs.Mailbox.{mail_checks, arrival_checks, MailDoes, MailNeedsRoom}
use Rattle.fl_bench.specs.Process.{newborn, owns, is_busy, ordering, owning, child_of, effective}
use Rattle.fl_bench.specs.Process.{side_of, with_side, body_of, order_takes, receiving}
use Rattle.fl_bench.specs.Bench.{BenchState, has_at, gone, IsNext, born}
use Rattle.fl_bench.specs.declared.process.Process.{Process}

-- ---- the checks of each job, in their order

-- of an order of who has E in effect
abbrev pub order_checks : Caps → orders.Order → Check
order_checks E order = grant_check E (order_takes order)

-- of the change of one label into another, by who has E in effect
abbrev pub change_check : Caps → SetBy name_cmp → SetBy name_cmp → Check
change_check E from to = demand cap_cmp (Takes from to) E MissingCap

-- of an emission under this label, by who has E in effect
abbrev pub emission_check : Caps → SetBy name_cmp → Check
emission_check E secrecy = demand name_cmp (In secrecy) (Dual E) Secrecy

-- of an entry by a secret: the registry has the login, and the least one of that name has the secret's digest
abbrev pub enter_check : Registry → Name → Secret → Check
enter_check V login secret None = (c : Cap) × IsFirstLogin V login c (digest_of secret)
enter_check V login secret (Some f) =
    ((f ≡ NoLogin login) × HasNoLogin V login)
    ⊎ ((f ≡ WrongSecret) × (c : Cap) × (digest : Digest) × IsFirstLogin V login c digest
    × (digest ≢ digest_of secret))

-- of an act of the process p
abbrev pub checks_of : Registry → Process → Act → Check
checks_of V p (Order order) = order_checks (effective V p) order
checks_of V p (Relabel side (Err e)) = fails LabelTooLong
checks_of V p (Relabel side (Ok label)) = change_check (effective V p) (side_of side p.labels) label
    then endpoints_check (effective V p) (with_side side label p.labels) p.mailbox.endpoints
checks_of V p (Ask c) = no_check
checks_of V p (Spawn caps) = grant_check (effective V p) caps
checks_of V p Exit = no_check
checks_of V p (Drop c) = refuse_if (not (set.contains (owns p) c)) (NotOwned c)
    then endpoints_check (InEffect V (In (set.remove (owns p) c))) p.labels p.mailbox.endpoints
checks_of V p (Enter login secret) = enter_check V login secret
checks_of V p (Emit bytes) = emission_check (effective V p) p.labels.secrecy
checks_of V p (Mail c) = mail_checks (effective V p) p.labels p.mailbox c

-- of an act of the process p, of which no operation may be under way
abbrev pub act_checks : Registry → Process → Act → Check
act_checks V p act = refuse_if (is_busy p) Busy then checks_of V p act

-- the next serial is no greater than the greatest that a process can have
abbrev pub serials_left : BenchState → Check
serials_left b = refuse_if (nat_lt 4294967295 b.next) NamesSpent

-- of an act, after those of the process: a serial is left for who is born
abbrev pub bench_checks : BenchState → Act → Check
bench_checks b (Spawn caps) = serials_left b
bench_checks b act = no_check

-- who asks stands at the bench
abbrev pub checks : Registry → BenchState → Job → Check
checks V b Proc = serials_left b
checks V b (By pid act) =
    with (map.get b.processes pid) (NoProcess pid) (λ p. act_checks V p act then bench_checks b act)
checks V b (Member root c) = no_check
checks V b (Arrive d) =
    with (map.get b.processes d.receiver) (NoProcess d.receiver) (λ q.
    refuse_if (is_busy q) Busy then arrival_checks q.mailbox d)

-- ---- what a job leaves and answers

-- yes where the fact holds, and else not yet
abbrev pub Answers : Outcome → Type 0 → Type 0
Answers outcome P = ((outcome ≡ Outcome.Reply Yes) × P) ⊎ ((outcome ≡ Outcome.Reply NotYet) × (¬ P))

-- an act of the process p, which stands at the bench b as pid
abbrev pub Performs : Registry → BenchState → Pid → Process → Act → Outcome → BenchState → Type 0
Performs V b pid p (Order order) outcome b' =
    (outcome ≡ Outcome.Order (body_of order) pid) × (b' ≡ has_at b pid (ordering p))
Performs V b pid p (Relabel side (Err e)) outcome b' = ⊥
Performs V b pid p (Relabel side (Ok label)) outcome b' =
    (outcome ≡ Outcome.Reply Done) × (b' ≡ has_at b pid (record p { labels = with_side side label p.labels }))
Performs V b pid p (Ask c) outcome b' = Answers outcome (effective V p c) × (b' ≡ b)
Performs V b pid p (Spawn caps) outcome b' =
    (child : Pid) × IsNext b child × (outcome ≡ Outcome.Reply (Made child)) × (b' ≡ born b child (child_of p caps))
Performs V b pid p Exit outcome b' = (outcome ≡ Outcome.Reply Done) × (b' ≡ gone b pid)
Performs V b pid p (Drop c) outcome b' =
    (outcome ≡ Outcome.Reply Done) × (b' ≡ has_at b pid (owning p (set.remove (owns p) c)))
Performs V b pid p (Enter login secret) outcome b' = (c : Cap) × IsFirstLogin V login c (digest_of secret)
    × (outcome ≡ Outcome.Reply (Entered c)) × (b' ≡ has_at b pid (owning p (set.insert (owns p) c)))
Performs V b pid p (Emit bytes) outcome b' = (outcome ≡ Outcome.Reply (Emitted bytes)) × (b' ≡ b)
Performs V b pid p (Mail c) outcome b' =
    (ch : Mailbox) × MailDoes pid p.mailbox c outcome ch × (b' ≡ has_at b pid (record p { mailbox = ch }))

-- a job at the bench b, which it leaves as b'
abbrev pub Effect : Registry → BenchState → Job → Outcome → BenchState → Type 0
Effect V b Proc outcome b' =
    (pid : Pid) × IsNext b pid × (outcome ≡ Outcome.Reply (Made pid)) × (b' ≡ born b pid newborn)
Effect V b (By pid act) outcome b' =
    (p : Process) × (map.get b.processes pid ≡ Some p) × Performs V b pid p act outcome b'
Effect V b (Member root c) outcome b' = Answers outcome (Reach V (From root) c) × (b' ≡ b)
Effect V b (Arrive d) outcome b' = (q : Process) × (map.get b.processes d.receiver ≡ Some q)
    × (outcome ≡ Outcome.Reply (Arrived d.receiver)) × (b' ≡ has_at b d.receiver (receiving q d))

-- ---- when a job may want memory

-- What a process does that needs room: it gives an order, bears a child, enters for what it does not own yet, opens an
-- endpoint, or sends a message.
abbrev pub NeedsRoom : Registry → Process → Act → Type 0
NeedsRoom V p (Order order) = Unit {0}
NeedsRoom V p (Spawn caps) = Unit {0}
NeedsRoom V p (Enter login secret) = (c : Cap) × IsFirstLogin V login c (digest_of secret) × (¬ In (owns p) c)
NeedsRoom V p (Mail c) = MailNeedsRoom c
NeedsRoom V p act = ⊥

-- What is done at a bench that needs room: a process is born, does something of these, or gets a message.
abbrev pub JobNeedsRoom : Registry → BenchState → Job → Type 0
JobNeedsRoom V b Proc = Unit {0}
JobNeedsRoom V b (By pid act) = (p : Process) × (map.get b.processes pid ≡ Some p) × NeedsRoom V p act
JobNeedsRoom V b (Member root c) = ⊥
JobNeedsRoom V b (Arrive d) = Unit {0}

-- the job needs room, and all of its checks pass
abbrev pub TakesMemory : Registry → BenchState → Job → Type 0
TakesMemory V b job = checks V b job None × JobNeedsRoom V b job

-- ---- a job

-- Under the registry V, the job may have this result at the bench b, and leaves b'.
pub data Does (V : Registry) (b : BenchState) (job : Job) : Result Outcome Refusal → BenchState → Type 0 where
  passed : {outcome : Outcome} {b' : BenchState} → checks V b job None → Effect V b job outcome b'
      → Does V b job (Ok outcome) b'
  failed : {f : Refusal} → checks V b job (Some f) → Does V b job (Err f) b
  no_room : TakesMemory V b job → Does V b job (Err Memory) b
