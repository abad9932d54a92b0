-- What the parts of a bench do: one process by itself, all of them with it, and a birth.
use Rattle.std.specs.Prelude.{◌≡◌, ◌≢◌, not}
use Rattle.std.specs.declared.alloc.AllocError.{AllocError}
use Rattle.std.specs.declared.option.Option.TheVariants.{None, Some}
use Rattle.std.specs.declared.result.Result.{Result}
use Rattle.std.specs.declared.result.Result.TheVariants.{Ok, Err}
use Rattle.std.specs.FinMap as map
use Rattle.fl_labels.specs.Cap.{cap_cmp}
use Rattle.fl_labels.specs.Caps.{Caps}
use Rattle.fl_labels.specs.Name.{name_cmp}
use Rattle.fl_labels.specs.Pid.{pid_cmp}
use Rattle.fl_labels.specs.SetBy as set
use Rattle.fl_labels.specs.SetBy.{SetBy, In}
use Rattle.fl_labels.specs.declared.name.Name.{Name}
use Rattle.fl_labels.specs.declared.cap.Cap.{Cap}
use Rattle.fl_labels.specs.declared.endpoint.Endpoint.{Endpoint}
use Rattle.fl_labels.specs.declared.pid.Pid.{Pid}
use Rattle.fl_ops.specs.declared.digest.Digest.{Digest}
use Rattle.fl_ops.specs.Registry.{Registry, InEffect}
use Rattle.fl_ops.specs.Logins.{IsFirstLogin, HasNoLogin}
use Rattle.fl_jobs.specs.declared.job.Act.{Act}
use Rattle.fl_jobs.specs.declared.job.Act.TheVariants.{Spawn, Exit}
use Rattle.fl_jobs.specs.declared.job.Job.TheVariants.{By}
use Rattle.fl_jobs.specs.declared.job.Mail.{Mail}
use Rattle.fl_jobs.specs.declared.secret.Secret.{Secret}
use Rattle.fl_jobs.specs.declared.job.Side.{Side}
use Rattle.fl_jobs.specs.declared.job.TooLong.{TooLong}
use Rattle.fl_jobs.specs.declared.answer.Refusal.{Refusal}
use Rattle.fl_jobs.specs.declared.answer.Refusal.TheVariants.{NoProcess, NoLogin, WrongSecret, NamesSpent, LabelTooLong, Memory, NotOwned, Busy, NoEndpoint}
use Rattle.fl_jobs.specs.declared.answer.Reply.TheVariants.{Made, Done, Entered, Arrived}
use Rattle.fl_jobs.specs.declared.answer.Outcome.{Outcome}
use Rattle.fl_rules.specs.declared.labels.Labels.{Labels}
use Rattle.fl_message.specs.declared.message.Data.{Data}
use Rattle.fl_mailbox.specs.Endpoints.{Table}
use Rattle.fl_mailbox.specs.Mailbox.{closed as no_mail}
use Rattle.fl_mailbox.specs.declared.mailbox.Mailbox.{Mailbox}
use Rattle.fl_mailbox.specs.declared.endpoints.OpenEndpoint.{OpenEndpoint}
use Rattle.fl_bench.specs.Checks.{refuse_if, ◌then◌}
use Rattle.fl_bench.specs.Guards.{grant_check, endpoints_check}
use Rattle.fl_bench.specs.Mailbox.{mail_checks, arrival_checks, MailDoes, MailNeedsRoom}
use Rattle.fl_bench.specs.Secrets.{digest_of}
use Rattle.fl_bench.specs.Process.{is_busy, receiving, side_of, with_side}
use Rattle.fl_bench.specs.Jobs.{change_check, serials_left, Does}
use Rattle.fl_bench.specs.Bench.{BenchState, IsNext, born, has_at, gone}
use Rattle.fl_bench.specs.declared.process.Holding.TheVariants.{Idle}
use Rattle.fl_bench.specs.declared.process.Process.{Process}

-- ---- what follows

-- What follows at a bench from an act of one of its processes: nothing but its answer; this process is to be the next,
-- or there was not enough memory for it; or the process that acted is to go.
pub data Sequel : Type 0 where
  answer : Outcome → Sequel
  birth : Result Process AllocError → Sequel
  ending : Sequel

-- an answer that nothing follows
abbrev pub answered : Result Outcome Refusal → Result Sequel Refusal
answered (Ok outcome) = Ok (Sequel.answer outcome)
answered (Err f) = Err f

-- a birth that follows, if there is none but one
abbrev pub bearing : Result (Result Process AllocError) Refusal → Result Sequel Refusal
bearing (Ok child) = Ok (Sequel.birth child)
bearing (Err f) = Err f

-- the act is answered alone: it is no birth, and no end
abbrev pub IsAnswered : Act → Type 0
IsAnswered (Spawn caps) = ⊥
IsAnswered Exit = ⊥
IsAnswered act = Unit {0}

-- ---- single acts

-- a process of these labels and with no mail, which owns these
abbrev pub born_with : Labels → SetBy cap_cmp → Process
born_with labels caps = record { labels = labels; owned = Idle caps; mailbox = no_mail }

-- a process of these labels that owns these is to be born, where who has E in effect may hand them on
pub data Spawns (E : Caps) (labels : Labels) (caps : SetBy cap_cmp) : Result Sequel Refusal → Type 0 where
  passed : grant_check E caps None → Spawns E labels caps (Ok (Sequel.birth (Ok (born_with labels caps))))
  failed : {f : Refusal} → grant_check E caps (Some f) → Spawns E labels caps (Err f)
  no_room : {e : AllocError} → grant_check E caps None → Spawns E labels caps (Ok (Sequel.birth (Err e)))

-- the label of a side is set by who owns these and has these endpoints, or the labels stay
pub data Relabels (V : Registry) (owned : SetBy cap_cmp) (table : Table) (old : Labels) (side : Side)
    (given : Result (SetBy name_cmp) TooLong) : Result Outcome Refusal → Labels → Type 0 where
  safe : {label : SetBy name_cmp} → given ≡ Ok label
      → (change_check (InEffect V (In owned)) (side_of side old) label
      then endpoints_check (InEffect V (In owned)) (with_side side label old) table) None
      → Relabels V owned table old side given (Ok (Outcome.Reply Done)) (with_side side label old)
  unsafe : {label : SetBy name_cmp} {f : Refusal} → given ≡ Ok label
      → (change_check (InEffect V (In owned)) (side_of side old) label
      then endpoints_check (InEffect V (In owned)) (with_side side label old) table) (Some f)
      → Relabels V owned table old side given (Err f) old
  too_long : {e : TooLong} → given ≡ Err e → Relabels V owned table old side given (Err LabelTooLong) old

-- who owns these and has these labels and endpoints drops c, or keeps it
pub data Drops (V : Registry) (labels : Labels) (table : Table) (owned : SetBy cap_cmp) (c : Cap)
    : Result Outcome Refusal → SetBy cap_cmp → Type 0 where
  dropped : (refuse_if (not (set.contains owned c)) (NotOwned c)
      then endpoints_check (InEffect V (In (set.remove owned c))) labels table) None
      → Drops V labels table owned c (Ok (Outcome.Reply Done)) (set.remove owned c)
  kept : {f : Refusal} → (refuse_if (not (set.contains owned c)) (NotOwned c)
      then endpoints_check (InEffect V (In (set.remove owned c))) labels table) (Some f)
      → Drops V labels table owned c (Err f) owned

-- who owns these enters a login by a secret
pub data Enters (V : Registry) (owned : SetBy cap_cmp) (login : Name) (secret : Secret) : Result Outcome Refusal
    → SetBy cap_cmp → Type 0 where
  enters : {c : Cap} → IsFirstLogin V login c (digest_of secret)
      → Enters V owned login secret (Ok (Outcome.Reply (Entered c))) (set.insert owned c)
  unknown : HasNoLogin V login → Enters V owned login secret (Err (NoLogin login)) owned
  wrong : {c : Cap} {digest : Digest} → IsFirstLogin V login c digest → digest ≢ digest_of secret
      → Enters V owned login secret (Err WrongSecret) owned
  no_room : {c : Cap} → IsFirstLogin V login c (digest_of secret) → ¬ In owned c
      → Enters V owned login secret (Err Memory) owned

-- who owns these, a process of these labels, uses its mailbox
pub data Mails (V : Registry) (owned : SetBy cap_cmp) (pid : Pid) (labels : Labels) (ch : Mailbox) (mail : Mail)
    : Result Outcome Refusal → Mailbox → Type 0 where
  passed : {outcome : Outcome} {ch' : Mailbox} → mail_checks (InEffect V (In owned)) labels ch mail None
      → MailDoes pid ch mail outcome ch'
      → Mails V owned pid labels ch mail (Ok outcome) ch'
  failed : {f : Refusal} → mail_checks (InEffect V (In owned)) labels ch mail (Some f)
      → Mails V owned pid labels ch mail (Err f) ch
  no_room : mail_checks (InEffect V (In owned)) labels ch mail None → MailNeedsRoom mail
      → Mails V owned pid labels ch mail (Err Memory) ch

-- an endpoint is closed, or was not open
pub data Closes (ch : Mailbox) (e : Endpoint) : Result Outcome Refusal → Mailbox → Type 0 where
  closed : {opened : OpenEndpoint} → map.get ch.endpoints e ≡ Some opened
      → Closes ch e (Ok (Outcome.Reply Done)) (record ch { endpoints = map.remove ch.endpoints e })
  never : map.get ch.endpoints e ≡ None → Closes ch e (Err (NoEndpoint e)) ch

-- a message comes to the process
pub data Arrives (p : Process) (d : Data) : Result Outcome Refusal → Process → Type 0 where
  arrives : (refuse_if (is_busy p) Busy then arrival_checks p.mailbox d) None
      → Arrives p d (Ok (Outcome.Reply (Arrived d.receiver))) (receiving p d)
  refused : {f : Refusal} → (refuse_if (is_busy p) Busy then arrival_checks p.mailbox d) (Some f)
      → Arrives p d (Err f) p
  no_room : (refuse_if (is_busy p) Busy then arrival_checks p.mailbox d) None → Arrives p d (Err Memory) p

-- ---- what follows at a bench

-- a process is put as the next, where a serial is left, and there was memory for it and is room
pub data Births (b : BenchState) : Result Process AllocError → Result Outcome Refusal → BenchState → Type 0 where
  made : {p : Process} {pid : Pid} → serials_left b None → IsNext b pid
      → Births b (Ok p) (Ok (Outcome.Reply (Made pid))) (born b pid p)
  spent : {child : Result Process AllocError} → serials_left b (Some NamesSpent)
      → Births b child (Err NamesSpent) b
  full : {child : Result Process AllocError} → serials_left b None → Births b child (Err Memory) b

-- the bench b does what follows from an act of pid
abbrev pub Settles : BenchState → Pid → Sequel → Result Outcome Refusal → BenchState → Type 0
Settles b pid (Sequel.answer outcome) r b' = (r ≡ Ok outcome) × (b' ≡ b)
Settles b pid (Sequel.birth child) r b' = Births b child r b'
Settles b pid Sequel.ending r b' = (r ≡ Ok (Outcome.Reply Done)) × (b' ≡ gone b pid)

-- The act of the process p, which it leaves as p', is a job at any bench where p stands as pid: what follows is
-- settled there, or it is refused.
pub data Acts (V : Registry) (pid : Pid) (p : Process) (act : Act) : Result Sequel Refusal → Process → Type 0 where
  passed : {sequel : Sequel} {p' : Process}
      → ((b : BenchState) → map.get b.processes pid ≡ Some p → (r : Result Outcome Refusal) (b' : BenchState)
      → Settles (has_at b pid p') pid sequel r b' → Does V b (By pid act) r b')
      → Acts V pid p act (Ok sequel) p'
  failed : {f : Refusal}
      → ((b : BenchState) → map.get b.processes pid ≡ Some p → Does V b (By pid act) (Err f) b)
      → Acts V pid p act (Err f) p

-- one process of many acts by itself
pub data ActsAt (V : Registry) (m : map.FinMap pid_cmp Process) (pid : Pid) (act : Act) : Result Sequel Refusal
    → map.FinMap pid_cmp Process → Type 0 where
  nobody : map.get m pid ≡ None → ActsAt V m pid act (Err (NoProcess pid)) m
  did : {p p' : Process} {result : Result Sequel Refusal} → map.get m pid ≡ Some p → Acts V pid p act result p'
      → ActsAt V m pid act result (map.insert m pid p')

-- one process of many ends, unless an operation of it is under way
pub data Ends (m : map.FinMap pid_cmp Process) (pid : Pid) : Result (Unit {0}) Refusal
    → map.FinMap pid_cmp Process → Type 0 where
  nobody : map.get m pid ≡ None → Ends m pid (Err (NoProcess pid)) m
  busy : {p : Process} → map.get m pid ≡ Some p → ((owned : SetBy cap_cmp) → p.owned ≡ Idle owned → ⊥)
      → Ends m pid (Err Busy) m
  ended : {p : Process} {owned : SetBy cap_cmp} → map.get m pid ≡ Some p → p.owned ≡ Idle owned
      → Ends m pid (Ok tt) (map.remove m pid)

-- a message comes to one process of many
pub data ArrivesAt (m : map.FinMap pid_cmp Process) (d : Data) : Result Outcome Refusal
    → map.FinMap pid_cmp Process → Type 0 where
  nobody : map.get m d.receiver ≡ None → ArrivesAt m d (Err (NoProcess d.receiver)) m
  came : {p p' : Process} {result : Result Outcome Refusal} → map.get m d.receiver ≡ Some p
      → Arrives p d result p' → ArrivesAt m d result (map.insert m d.receiver p')
