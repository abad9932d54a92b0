-- A process that guards orders does each just behind an emission of its process.
use Rattle.std.proofs.Common.{◌≡◌, ◌++◌, ◌+◌, inl, inr, ℕ, true, List, [], ◌∷◌, None, Some, refl}
use Rattle.std.proofs.Common.{sym, ap, subst}
use Rattle.std.specs.declared.option.Option.{Option}
use Rattle.fl_store.specs.Kept.{Kept}
use Rattle.fl_stream.specs.Turns.{LineOutput}
use Rattle.fl_labels.specs.declared.pid.Pid.{Pid}
use Rattle.fl_jobs.specs.declared.job.Act.TheVariants.{Emit}
use Rattle.fl_jobs.specs.declared.job.Job.{Job}
use Rattle.fl_jobs.specs.declared.job.Job.TheVariants.{By}
use Rattle.fl_machine_lines.specs.declared.asked.Asked.{Asked}
use Rattle.fl_machine_lines.specs.declared.asked.Asked.TheVariants as asked
use Rattle.fl_machine_lines.specs.declared.line.MachineLine.{MachineLine}
use Rattle.fl_machine_lines.specs.declared.line.MachineLine.TheVariants.{Quiet, Bad, Echo, Audit, Asks}
use Rattle.fl_system.specs.World.{KeptNode}
use Rattle.fl_wire.specs.declared.packet.Packet.{Packet}
use Rattle.fl_machine_model.specs.Acts.{Act, Save, Publish, Cancel, Tell, Receive, Saying, Outcome}
use Rattle.fl_machine_model.specs.Acts.{Job as AnyJob}
use Rattle.fl_machine_model.specs.Guards.{IsOrder, LetsOut, AreGuarded, AreGuardedBehind}
use Rattle.fl_machine_model.specs.Processes.{Doing, Begins as Starts, Does}
use Rattle.fl_machine_turns.specs.Done.{Did, did, doings_of}
use Rattle.fl_machine_turns.specs.Completing.{Finishes, Completes, Begins}
use Rattle.fl_machine_turns.specs.Answer.{Answer}
use Rattle.fl_machine_turns.specs.Coming.{Takes, BeginsToTake}
use Rattle.fl_machine_turns.specs.Guarding.{Guarded, job_at, maker_of, emits_nothing}
use Rattle.fl_machine_turns.specs.Saying.{Says}
use Rattle.fl_machine_turns.specs.Settings.{Settings}
use Rattle.fl_machine_turns.specs.Turn.{Session, Tells, AsksNode, AnswersLine, Turn}
use Rattle.fl_machine_turns.specs.Run.{Run, IsProcess}

-- ---- lists of doings

-- the act is no order
abbrev IsFree : Act → Type 0
IsFree act = (pid : Pid) (came : Outcome) → ¬ IsOrder (Does act came) pid

-- behind anything they are guarded
abbrev AreGuardedAnyhow : List Did → Type 0
AreGuardedAnyhow ds = (before : Doing) → AreGuardedBehind before (doings_of ds)

joined_behind : (before : Doing) (ds es : List Did) → AreGuardedBehind before (doings_of ds)
    → AreGuardedAnyhow es → AreGuardedBehind before (doings_of (ds ++ es))
joined_behind before [] es first rest = rest before
joined_behind before (d ∷ ds) es first rest =
    (first.0, joined_behind (Does d.act d.came) ds es first.1 rest)

joined : (ds es : List Did) → AreGuardedAnyhow ds → AreGuardedAnyhow es
    → AreGuardedAnyhow (ds ++ es)
joined ds es first rest before = joined_behind before ds es (first before) rest

none : AreGuardedAnyhow []
none before = tt

free_first : (act : Act) (came : Outcome) (ds : List Did) → IsFree act → AreGuardedAnyhow ds
    → AreGuardedAnyhow (did act came ∷ ds)
free_first act came ds free rest before =
    (λ pid orders. absurd (free pid came orders), rest (Does act came))

-- ---- acts

save_free : IsFree Save
save_free pid came o = let e = o.is in cc

publish_free : IsFree Publish
publish_free pid came o = let e = o.is in cc

cancel_free : IsFree Cancel
cancel_free pid came o = let e = o.is in cc

tell_free : IsFree Tell
tell_free pid came o = let e = o.is in cc

receive_free : (packet : Packet) → IsFree (Receive packet)
receive_free packet pid came o = let e = o.is in cc

-- the process whose order is done
maker_in : Doing → Option Pid
maker_in (Does (AnyJob desk upto job) came) = maker_of job
maker_in other = None

order_made : {job : Job} {came : Outcome} {pid : Pid} → IsOrder (Does (job_at job) came) pid
    → maker_of job ≡ Some pid
unfolding maker_in
order_made o = ap maker_in o.is

none_some : {pid : Pid} {o : Option Pid} → o ≡ None → o ≡ Some pid → ⊥
none_some none some = absurd (cc)

job_free : (job : Job) → maker_of job ≡ None → IsFree (job_at job)
job_free job none pid came o = none_some none (order_made o)

finishes_guarded : {number : ℕ} {s : KeptNode} {ds : List Did} {saying : Saying} {s' : KeptNode}
    → Finishes number s ds saying s' → AreGuardedAnyhow ds
finishes_guarded (Finishes.given_up {save} {cancel} stored says dropped) =
    free_first Save save (did Cancel cancel ∷ []) save_free
    (free_first Cancel cancel [] cancel_free none)
finishes_guarded (Finishes.not_saved {save} stored done starved) =
    free_first Save save [] save_free none
finishes_guarded (Finishes.saved {save} {publish} stored says shown) =
    free_first Save save (did Publish publish ∷ []) save_free
    (free_first Publish publish [] publish_free none)

-- of what does an act, and perhaps finishes it: all is guarded where the act is no order, and else
-- behind an emission of its process
record GuardsAs (does : KeptNode → Act → List Did → Saying → KeptNode → Type 0) : Type 0 where
  free : {s : KeptNode} {act : Act} {ds : List Did} {saying : Saying} {s' : KeptNode} → IsFree act
      → does s act ds saying s' → AreGuardedAnyhow ds
  behind : {s : KeptNode} {act : Act} {ds : List Did} {saying : Saying} {s' : KeptNode}
      → (before : Doing)
      → ((pid : Pid) (came : Outcome) → IsOrder (Does act came) pid → LetsOut before pid)
      → does s act ds saying s' → AreGuardedBehind before (doings_of ds)

module _ (number : ℕ) where
  completes_free : {s : KeptNode} {act : Act} {ds : List Did} {saying : Saying} {s' : KeptNode}
      → IsFree act → Completes number s act ds saying s' → AreGuardedAnyhow ds
  completes_free {act = act} free (Completes.at_once {o} step ends) =
      free_first act o [] free none
  completes_free {act = act} free (Completes.in_steps {o} {ds} step goes_on finishes) =
      free_first act o ds free (finishes_guarded finishes)

  completes_behind : {s : KeptNode} {act : Act} {ds : List Did} {saying : Saying} {s' : KeptNode}
      → (before : Doing)
      → ((pid : Pid) (came : Outcome) → IsOrder (Does act came) pid → LetsOut before pid)
      → Completes number s act ds saying s' → AreGuardedBehind before (doings_of ds)
  completes_behind {act = act} before lets (Completes.at_once {o} step ends) = (λ pid order. lets pid o order, tt)
  completes_behind {act = act} before lets (Completes.in_steps {o} step goes_on finishes) =
      (λ pid order. lets pid o order, finishes_guarded finishes (Does act o))

  begins_free : {s : KeptNode} {act : Act} {ds : List Did} {saying : Saying} {s' : KeptNode}
      → IsFree act → Begins number s act ds saying s' → AreGuardedAnyhow ds
  begins_free {act = act} free (Begins.only {o} step) = free_first act o [] free none

  begins_behind : {s : KeptNode} {act : Act} {ds : List Did} {saying : Saying} {s' : KeptNode}
      → (before : Doing)
      → ((pid : Pid) (came : Outcome) → IsOrder (Does act came) pid → LetsOut before pid)
      → Begins number s act ds saying s' → AreGuardedBehind before (doings_of ds)
  begins_behind before lets (Begins.only {o} step) = (λ pid order. lets pid o order, tt)

  completing : GuardsAs (Completes number)
  completing = record { free = completes_free; behind = completes_behind }

  beginning : GuardsAs (Begins number)
  beginning = record { free = begins_free; behind = begins_behind }

-- ---- lines

same_pid : {a b : Pid} {o : Option Pid} → o ≡ Some a → o ≡ Some b → a ≡ b
same_pid one other = cc

module _ (settings : Settings) (on : settings.guards ≡ true) where
  guarded : {does : KeptNode → Act → List Did → Saying → KeptNode → Type 0} {s : KeptNode}
      {job : Job} {ds : List Did} {saying : Saying} {s' : KeptNode} → GuardsAs does
      → Guarded settings.number settings.guards s job does ds saying s' → AreGuardedAnyhow ds
  guarded all (Guarded.free (inl off) does) = absurd (cc (on, off))
  guarded {job = job} all (Guarded.free (inr nobody) does) = all.free (job_free job nobody) does
  guarded all (Guarded.held_back {pid} {o} guards makes step refused) =
      free_first (emits_nothing pid) o [] (job_free (By pid (Emit [])) refl) none
  guarded {job = job} all (Guarded.passes {pid} {o} guards makes step admitted does) =
      λ before. (
        λ other order. absurd (job_free (By pid (Emit [])) refl other o order),
        all.behind (Does (emits_nothing pid) o) (λ other came order.
            subst (LetsOut (Does (emits_nothing pid) o)) (same_pid makes (order_made order))
            (record {
              desk = 1;
              upto = 18446744073709551615;
              bytes = [];
              came = o;
              is = refl;
              says = admitted;
            })) does,
      )
  guarded all (Guarded.no_room guards makes) = none

  says_guarded : {shown : Saying → Answer} {does : List Did → Saying → KeptNode → Type 0}
      {ds : List Did} {answer : Answer} {s' : KeptNode}
      → ((es : List Did) (saying : Saying) (t : KeptNode) → does es saying t → AreGuardedAnyhow es)
      → Says shown does ds answer s' → AreGuardedAnyhow ds
  says_guarded all (Says.as_said does) = all _ _ _ does
  says_guarded all (Says.no_room does) = all _ _ _ does

  tells_guarded : {s : KeptNode} {what : Answer → Type 0} {ds : List Did} {answer : Answer}
      {s' : KeptNode} → Tells s what ds answer s' → AreGuardedAnyhow ds
  tells_guarded t = subst AreGuardedAnyhow (sym t.did_none) none

  takes_guarded : {s : KeptNode} {bytes : List ℕ} {ds : List Did} {answer : Answer} {s' : KeptNode}
      → Takes settings s bytes (Completes settings.number s) ds answer s' → AreGuardedAnyhow ds
  takes_guarded (Takes.unread why) = none
  takes_guarded (Takes.not_ours brings least) = none
  takes_guarded (Takes.comes {packet} brings ours says) =
      says_guarded (λ es saying t. completes_free settings.number (receive_free packet)) says

  begins_guarded : {s : KeptNode} {bytes : List ℕ} {ds : List Did} {answer : Answer}
      {s' : KeptNode} → BeginsToTake settings s bytes (Begins settings.number s) ds answer s'
      → AreGuardedAnyhow ds
  begins_guarded (BeginsToTake.unread why) = none
  begins_guarded (BeginsToTake.no_ops brings other) = none
  begins_guarded (BeginsToTake.comes {packet} brings ops says) =
      says_guarded (λ es saying t. begins_free settings.number (receive_free packet)) says

  asks_guarded : (s : KeptNode) (what : Asked) (ds : List Did) (answer : Answer) (s' : KeptNode)
      → AsksNode settings s what ds answer s' → AreGuardedAnyhow ds
  asks_guarded s (asked.Job job) ds answer s' h =
      says_guarded (λ es saying t. guarded (completing settings.number)) h
  asks_guarded s (asked.Begin pid order) ds answer s' h =
      says_guarded (λ es saying t. guarded (beginning settings.number)) h
  asks_guarded s (asked.Receive bytes) ds answer s' h = takes_guarded h
  asks_guarded s (asked.BeginReceive bytes) ds answer s' h = begins_guarded h
  asks_guarded s asked.Tell ds answer s' h =
      says_guarded (λ es saying t. begins_free settings.number tell_free) h
  asks_guarded s asked.Save ds answer s' h =
      says_guarded (λ es saying t. begins_free settings.number save_free) h
  asks_guarded s asked.Publish ds answer s' h =
      says_guarded (λ es saying t. begins_free settings.number publish_free) h
  asks_guarded s asked.Cancel ds answer s' h =
      says_guarded (λ es saying t. begins_free settings.number cancel_free) h
  asks_guarded s asked.Text ds answer s' h = tells_guarded h
  asks_guarded s (asked.Could job) ds answer s' h = tells_guarded h
  asks_guarded s (asked.Missing job) ds answer s' h = tells_guarded h
  asks_guarded s (asked.Explain what) ds answer s' h = tells_guarded h
  asks_guarded s (asked.Check bytes) ds answer s' h = tells_guarded h

  line_guarded : (old : Session) (line : MachineLine) (ds : List Did) (answer : Answer)
      (s' : KeptNode) → AnswersLine settings old line ds answer s' → AreGuardedAnyhow ds
  line_guarded old Quiet ds answer s' h = tells_guarded h
  line_guarded old Bad ds answer s' h = tells_guarded h
  line_guarded old (Echo word) ds answer s' h = tells_guarded h
  line_guarded old Audit ds answer s' h = tells_guarded h
  line_guarded old (Asks what) ds answer s' h = asks_guarded old.s what ds answer s' h

  turn_guarded : (old : Session) (bytes : List ℕ) (ds : List Did) (answer : Answer)
      (new : Session) → Turn settings old bytes ds answer new → AreGuardedAnyhow ds
  turn_guarded old bytes ds answer new (Turn.is_over over nothing) =
      subst AreGuardedAnyhow (sym nothing.did_none) none
  turn_guarded old bytes ds answer new (Turn.understood goes_on u) =
      line_guarded old u.line ds answer new.s u.answered
  turn_guarded old bytes ds answer new (Turn.starved goes_on takes nothing) =
      subst AreGuardedAnyhow (sym nothing.did_none) none

  run_guarded : (count : ℕ) (old : Session) (lines : List (List ℕ)) (outputs : List LineOutput)
      (ds : List Did) (new : Session) → Run settings count old lines outputs ds new
      → AreGuardedAnyhow ds
  run_guarded count old [] [] ds new run = subst AreGuardedAnyhow (sym run.0) none
  run_guarded count old [] (output ∷ outputs) ds new run = absurd run
  run_guarded count old (line ∷ lines) [] ds new run = absurd run
  run_guarded count old (line ∷ lines) (output ∷ outputs) ds new (
    answer,
    first,
    more,
    mid,
    split,
    written,
    turn,
    rest,
  ) =
      subst AreGuardedAnyhow (sym split)
      (joined first more (turn_guarded old line first answer mid turn)
      (run_guarded (count + 1) mid lines outputs more new rest))

  pub process_guarded : {status : ℕ} {found : Kept} {lines : List (List ℕ)} {text : List ℕ}
      {ds : List Did} {new : Session} (saying : Saying)
      → IsProcess settings found lines text status ds new
      → AreGuarded (Starts found saying ∷ doings_of ds)
  process_guarded {found = found} saying p = (
    λ pid order. let e = order.is in cc,
    run_guarded 1 p.start _ p.outputs _ _ p.run (Starts found saying),
  )
