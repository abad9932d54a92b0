-- Which turn a moment is, and who does what at it.
use Rattle.std.proofs.Common.{◌≡◌, ◌∙◌, ℕ, zero, suc, List, [], ◌∷◌, slice_get, None, Some}
use Rattle.std.proofs.Common.{Ok, refl, sym, ap, subst}
use Rattle.std.specs.FinMap as map
use Rattle.fl_labels.specs.SetBy.{In}
use Rattle.fl_labels.specs.declared.pid.Pid.{Pid}
use Rattle.fl_ops.specs.Registry.{Registry}
use Rattle.fl_ops.specs.declared.op.Op.{Op}
use Rattle.fl_wire.specs.declared.packet.Packet.{Packet}
use Rattle.fl_jobs.specs.declared.answer.Outcome.{Outcome as JobOutcome}
use Rattle.fl_jobs.specs.declared.answer.Reply.{Reply as JobReply}
use Rattle.fl_jobs.specs.declared.job.Act.{Act as AnyAct}
use Rattle.fl_jobs.specs.declared.job.Job.{Job as AnyJob}
use Rattle.fl_jobs.specs.declared.job.Job.TheVariants.{By}
use Rattle.fl_bench.specs.Jobs.{Does, passed}
use Rattle.fl_bench.specs.declared.process.Process.{Process}
use Rattle.fl_bench.specs.laws.Puts.{none_some}
use Rattle.fl_store.specs.Kept.{Kept}
use Rattle.fl_system.specs.declared.admission.Admission.{Admission}
use Rattle.fl_system.specs.declared.answer.Answer.TheVariants as answer
use Rattle.fl_system.specs.declared.event.Event.{Event}
use Rattle.fl_system.specs.declared.event.Event.TheVariants as events
use Rattle.fl_system.specs.declared.reply.Reply.{Reply}
use Rattle.fl_system.specs.declared.reply.Reply.TheVariants.{Booted, Job as Answered}
use Rattle.fl_system.specs.declared.reply.Reply.TheVariants.{Sent as HasSent}
use Rattle.fl_system.specs.declared.sent.Sent.{Sent}
use Rattle.fl_system.specs.Jobs.{Jobs}
use Rattle.fl_system.specs.Processes.{process_at, process_of}
use Rattle.fl_system.specs.Runs as runs
use Rattle.fl_system.specs.Runs.{Moment}
use Rattle.fl_system.specs.State.{NodeState}
use Rattle.fl_system.specs.World.{World, KeptNode}
use Rattle.fl_machine_model.specs.Acts.{Act, Job, Save, Publish, Cancel, Restart, Tell, Receive}
use Rattle.fl_machine_model.specs.Acts.{IsReceipt, Saying, Replies, Sends, Outcome, said_of}
use Rattle.fl_machine_model.specs.Acts.{in_world, event_of}
use Rattle.fl_machine_model.specs.Alone.{MachineStep, JobAlone}
use Rattle.fl_machine_model.specs.Machines.{Machines, Deed, Starts, Acts, Gets, Happens, Turn}
use Rattle.fl_machine_laws.specs.OneRun.{next_of, IsMoveOf, IsMomentOf}
use Rattle.fl_machine_laws.specs.Taint.{machines_at}
use Rattle.fl_machine_laws.proofs.Deeds.{AllGo}

-- ---- the turn of a moment

pub record IsMomentAt (m : Machines) (ts : List Turn) (i : ℕ) (x : Moment) : Type 0 where
  pub turn : Turn
  pub there : slice_get ts i ≡ Some turn
  pub is : IsMomentOf (machines_at m ts i) turn x

same_moment : {x y : Moment} → Some x ≡ Some y → x ≡ y
same_moment e = cc

pub turn_of : (m : Machines) (w : World) (ts : List Turn) (xs : List Moment) → AllGo m w ts xs
    → (i : ℕ) (x : Moment) → slice_get xs i ≡ Some x → IsMomentAt m ts i x
turn_of m w [] [] all i x e = absurd (cc)
turn_of m w [] (y ∷ xs) all i x e = absurd all
turn_of m w (t ∷ ts) [] all i x e = absurd all
turn_of m w (t ∷ ts) (y ∷ xs) all zero x e =
    record {
      turn = t;
      there = refl;
      is = subst (λ (z : Moment). IsMomentOf m t z) (same_moment e) all.1;
    }
turn_of m w (t ∷ ts) (y ∷ xs) all (suc i) x e =
    let r = turn_of t.after y.after ts xs all.3 i x e in
    record { turn = r.turn; there = r.there; is = r.is }

-- ---- the deed of a move

-- the deed is this act of the machine of this number, and this is said of it
pub record IsActOf (deed : Deed) (next number : ℕ) (act : Act) (reply : Reply) : Type 0 where
  pub saying : Saying
  pub deed_is : deed ≡ Acts number act saying
  pub said : in_world next saying ≡ reply

same_event : {a b : Event} → runs.Happens a ≡ runs.Happens b → a ≡ b
same_event e = cc

module _ (number n : ℕ) (saying : Saying) where
  job_act : (act : Act) {desk upto : ℕ} {job : AnyJob} → ¬ IsReceipt act
      → event_of number 0 act ≡ events.Job n desk upto job
      → Acts number act saying ≡ Acts n (Job desk upto job) saying
  job_act (Job desk upto job) real e = cc
  job_act Save real e = absurd (cc)
  job_act Publish real e = absurd (cc)
  job_act Cancel real e = absurd (cc)
  job_act (Restart keeps) real e = absurd (cc)
  job_act Tell real e = absurd (cc)
  job_act (Receive what) real e = absurd (real tt)

  publish_act : (act : Act) → ¬ IsReceipt act → event_of number 0 act ≡ events.Publish n
      → Acts number act saying ≡ Acts n Publish saying
  publish_act (Job desk upto job) real e = absurd (cc)
  publish_act Save real e = absurd (cc)
  publish_act Publish real e = cc
  publish_act Cancel real e = absurd (cc)
  publish_act (Restart keeps) real e = absurd (cc)
  publish_act Tell real e = absurd (cc)
  publish_act (Receive what) real e = absurd (real tt)

  no_delivery : (act : Act) {packet : ℕ} → ¬ IsReceipt act
      → event_of number 0 act ≡ events.Deliver packet n → ⊥
  no_delivery (Job desk upto job) real e = cc
  no_delivery Save real e = cc
  no_delivery Publish real e = cc
  no_delivery Cancel real e = cc
  no_delivery (Restart keeps) real e = cc
  no_delivery Tell real e = cc
  no_delivery (Receive what) real e = real tt

pub job_deed : {m : Machines} {deed : Deed} {move : runs.Move} {reply : Reply}
    {number desk upto : ℕ} {job : AnyJob} → IsMoveOf m deed move reply
    → move ≡ runs.Happens (events.Job number desk upto job)
    → IsActOf deed (next_of m) number (Job desk upto job) reply
job_deed (IsMoveOf.joins free) e = absurd (cc)
job_deed (IsMoveOf.restarts there) e = absurd (cc)
job_deed {number = n} (IsMoveOf.acts {number} {act} {saying} real) e =
    record {
      saying = saying;
      deed_is = job_act number n saying act real (same_event e);
      said = refl;
    }
job_deed IsMoveOf.gets e = absurd (cc)
job_deed IsMoveOf.ends e = absurd (cc)
job_deed IsMoveOf.ends_saving e = absurd (cc)
job_deed IsMoveOf.ends_restarting e = absurd (cc)

pub publish_deed : {m : Machines} {deed : Deed} {move : runs.Move} {reply : Reply} {number : ℕ}
    → IsMoveOf m deed move reply → move ≡ runs.Happens (events.Publish number)
    → IsActOf deed (next_of m) number Publish reply
publish_deed (IsMoveOf.joins free) e = absurd (cc)
publish_deed (IsMoveOf.restarts there) e = absurd (cc)
publish_deed {number = n} (IsMoveOf.acts {number} {act} {saying} real) e =
    record {
      saying = saying;
      deed_is = publish_act number n saying act real (same_event e);
      said = refl;
    }
publish_deed IsMoveOf.gets e = absurd (cc)
publish_deed IsMoveOf.ends e = absurd (cc)
publish_deed IsMoveOf.ends_saving e = absurd (cc)
publish_deed IsMoveOf.ends_restarting e = absurd (cc)

-- ---- what is said

-- it is no number of a packet
abbrev pub IsQuiet : Reply → Type 0
IsQuiet (HasSent first count) = ⊥
IsQuiet other = Unit {0}

pub said_quietly : (next : ℕ) (saying : Saying) {reply : Reply} → in_world next saying ≡ reply
    → IsQuiet reply → saying ≡ Replies reply
said_quietly next (Replies reply) e quiet = ap Replies e
said_quietly next (Sends told) e quiet = absurd (subst IsQuiet (sym e) quiet)

pub quiet_deed : {deed : Deed} {next number : ℕ} {act : Act} {reply said : Reply}
    → IsActOf deed next number act reply → reply ≡ said → IsQuiet said
    → deed ≡ Acts number act (Replies said)
quiet_deed {number = number} {act} a is quiet =
    a.deed_is ∙ ap (Acts number act) (said_quietly _ a.saying (a.said ∙ is) quiet)

pub arrival_deed : {m : Machines} {deed : Deed} {move : runs.Move} {reply : Reply}
    {packet number : ℕ} {said : JobReply} → IsMoveOf m deed move reply
    → move ≡ runs.Happens (events.Deliver packet number) → reply ≡ Answered said
    → deed ≡ Gets packet number (Replies (Answered said))
arrival_deed (IsMoveOf.joins free) e is = absurd (cc)
arrival_deed (IsMoveOf.restarts there) e is = absurd (cc)
arrival_deed {number = n} (IsMoveOf.acts {number} {act} {saying} real) e is =
    absurd (no_delivery number n saying act real (same_event e))
arrival_deed {number = n} {said} (IsMoveOf.gets {packet} {number} {saying}) e is =
    ap (Gets packet number) (said_quietly _ saying is tt) ∙ same_gets packet number n (same_event e)
  where
    same_gets : (k number n : ℕ) {j : ℕ} → events.Deliver k number ≡ events.Deliver j n
        → Gets k number (Replies (Answered said)) ≡ Gets j n (Replies (Answered said))
    same_gets k number n same = cc
arrival_deed IsMoveOf.ends e is = absurd (cc)
arrival_deed IsMoveOf.ends_saving e is = absurd (cc)
arrival_deed IsMoveOf.ends_restarting e is = absurd (cc)

-- ---- who does it

-- who does a job that is answered stands at the node
pub record Doer (n : NodeState) (pid : Pid) : Type 0 where
  pub process : Process
  pub stands : process_of n pid ≡ Some process

done_by : {n : NodeState} {desk upto : ℕ} {pid : Pid} {act : AnyAct} {reply : JobReply}
    {n' : NodeState} → Jobs n desk upto (By pid act) (Ok (answer.Reply reply)) n' → Doer n pid
done_by {n} {pid = pid} {act} (Jobs.replied {left = left} look d) = by_does d.does
  where
    by_does : {V : Registry} {x : JobOutcome} → Does V d.bench (By pid act) (Ok x) left
        → Doer n pid
    by_does (passed checked f) =
        record { process = f.0; stands = ap (λ o. process_at o pid) d.stands ∙ f.1 }

doer_of : {number desk upto : ℕ} {n n' : NodeState} {pid : Pid} {act : AnyAct} {told : Reply}
    {reply : JobReply} {sent : List Sent} {admitted : List Admission}
    → JobAlone number n desk upto (By pid act) 0 told n' sent admitted
    → said_of told sent ≡ Replies (Answered reply) → Doer n pid
doer_of (JobAlone.refused does) e = absurd (cc)
doer_of (JobAlone.replied does) e = done_by does
doer_of (JobAlone.begun does) e = absurd (cc)
doer_of (JobAlone.sends does) e = absurd (cc)
doer_of (JobAlone.no_room look seen noted) e = absurd (cc)

pub doer : {number : ℕ} {s : KeptNode} {desk upto : ℕ} {pid : Pid} {act : AnyAct}
    {reply : JobReply} {o : Outcome} → MachineStep number s (Job desk upto (By pid act)) o
    → o.says ≡ Replies (Answered reply) → Doer s.node pid
doer (MachineStep.no_desk none) e = absurd (cc)
doer (MachineStep.no_such_job is) e = absurd (cc)
doer (MachineStep.job real does) e = doer_of does e

-- ---- what is sent

-- one packet, which is the next one
pub record SendsOne (saying : Saying) (next packet : ℕ) : Type 0 where
  pub what : Packet
  pub says : saying ≡ Sends (what ∷ [])
  pub number_is : packet ≡ next

same_number : {a b c d : ℕ} → HasSent a b ≡ HasSent c d → c ≡ a
same_number e = cc

one_of : {number desk upto next packet count : ℕ} {n n' : NodeState} {job : AnyJob} {told : Reply}
    {sent : List Sent} {admitted : List Admission}
    → JobAlone number n desk upto job 0 told n' sent admitted
    → in_world next (said_of told sent) ≡ HasSent packet count
    → SendsOne (said_of told sent) next packet
one_of (JobAlone.refused does) e = absurd (cc)
one_of (JobAlone.replied does) e = absurd (cc)
one_of (JobAlone.begun does) e = absurd (cc)
one_of (JobAlone.sends does) e = record { what = _; says = refl; number_is = same_number e }
one_of (JobAlone.no_room look seen noted) e = absurd (cc)

pub sends_one : {number : ℕ} {s : KeptNode} {desk upto next packet count : ℕ} {job : AnyJob}
    {o : Outcome} → MachineStep number s (Job desk upto job) o
    → in_world next o.says ≡ HasSent packet count → SendsOne o.says next packet
sends_one (MachineStep.no_desk none) e = absurd (cc)
sends_one (MachineStep.no_such_job is) e = absurd (cc)
sends_one (MachineStep.job real does) e = one_of does e

-- ---- a first process

-- finds no operation
pub none_brought : {m : Machines} {number boot : ℕ} {k : Kept} {reply : Reply} {m' : Machines}
    → map.get m.nodes number ≡ None → Happens m (Starts number k (Replies reply)) m'
    → reply ≡ Booted boot → (op : Op) → ¬ In k.saved op
none_brought free (Happens.born none blank opening) is op h = blank.none op h
none_brought free (Happens.not_born none blank opening) is op h = cc
none_brought free (Happens.opens there opening) is op h = none_some free there
none_brought free (Happens.not_opened there opening) is op h = none_some free there

-- a node joins where a first process starts
pub record IsFirst (m : Machines) (deed : Deed) (number : ℕ) (k : Kept) (reply : Reply)
    : Type 0 where
  pub free : map.get m.nodes number ≡ None
  pub deed_is : deed ≡ Starts number k (Replies reply)

pub first_deed : {m : Machines} {deed : Deed} {move : runs.Move} {reply : Reply} {number : ℕ}
    {k : Kept} → IsMoveOf m deed move reply → move ≡ runs.Comes number k
    → IsFirst m deed number k reply
first_deed {m} {number = n} {k} (IsMoveOf.joins {number} {k = l} {reply} free) e =
    record {
      free = subst (λ j. map.get m.nodes j ≡ None) same_node free;
      deed_is = same_start;
    }
  where
    same_node : number ≡ n
    same_node = cc

    same_start : Starts number l (Replies reply) ≡ Starts n k (Replies reply)
    same_start = cc
first_deed (IsMoveOf.restarts there) e = absurd (cc)
first_deed (IsMoveOf.acts real) e = absurd (cc)
first_deed IsMoveOf.gets e = absurd (cc)
first_deed IsMoveOf.ends e = absurd (cc)
first_deed IsMoveOf.ends_saving e = absurd (cc)
first_deed IsMoveOf.ends_restarting e = absurd (cc)
