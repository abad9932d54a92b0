-- No pid is given twice in a world that is reached.
use Rattle.std.proofs.Common.{◌≡◌, ◌∙◌, ℕ, List, [], ◌∷◌, length, Ok, Some, None, refl, sym, subst}
use Rattle.std.specs.declared.option.Option.{Option}
use Rattle.std.specs.FinMap as map
use Rattle.std.specs.Ordering.{nat_cmp}
use Rattle.fl_labels.specs.declared.pid.Pid.{Pid}
use Rattle.fl_jobs.specs.declared.answer.Reply.TheVariants.{Made}
use Rattle.fl_jobs.specs.declared.job.Job.{Job as AnyJob}
use Rattle.fl_jobs.specs.declared.job.Job.TheVariants.{Arrive}
use Rattle.fl_message.specs.declared.message.Data.{Data}
use Rattle.fl_bench.specs.Bench.{BenchState}
use Rattle.fl_bench.specs.declared.process.Process.{Process}
use Rattle.fl_bench.specs.laws.Puts.{none_some, same_found}
use Rattle.fl_store.specs.Kept.{raised}
use Rattle.fl_system.specs.declared.answer.Answer.TheVariants as answers
use Rattle.fl_system.specs.declared.event.Event.{Event}
use Rattle.fl_system.specs.declared.sent.Sent.{Sent}
use Rattle.fl_system.specs.Numbered.{item_at}
use Rattle.fl_system.specs.Processes.{process_at, process_of}
use Rattle.fl_system.specs.State.{NodeState}
use Rattle.fl_system.specs.Jobs.{Jobs, place_of, bench_of}
use Rattle.fl_system.specs.Arrives.{Arrives}
use Rattle.fl_system.specs.Openings.{opened}
use Rattle.fl_system.specs.World.{World, KeptNode, empty_world}
use Rattle.fl_system.specs.WorldSteps.{IsAt, Step}
use Rattle.fl_system.specs.WorldJobs.{JobAt}
use Rattle.fl_system.specs.Deliveries.{MessageAt, DeliverAt}
use Rattle.fl_system.specs.Runs.{Moment, IsRun, end, IsReached}
use Rattle.fl_system_laws.specs.Goes.{Goes}
use Rattle.fl_system_laws.specs.laws.Going.{moves_goes}
use Rattle.fl_system_laws.specs.laws.Numbered.{changed_at}
use Rattle.fl_world_laws.specs.laws.Nodes.{Now, is_new, is_old, at_key, Stays, is_replaced, is_still, stays_there}
use Rattle.fl_world_laws.specs.laws.Nodes as nodes
use Rattle.fl_world_laws.specs.laws.Naming.{IsNamed}
use Rattle.fl_history_laws.specs.Seats.{Seats, seats, IsTidy, WasGiven, WasGivenIn, IsOfNode, made, now}
use Rattle.fl_history_laws.specs.laws.Making.{Gives, does_made}
use Rattle.fl_history_laws.specs.laws.Turning.{Turns, does_turns, calls_turn, turn_tidy, turn_given, opened_tidy}
use Rattle.fl_history_laws.specs.laws.Giving.{next_new, gives_given}

-- ---- each node is tidy

pub record AllTidy (w : World) : Type 0 where
  pub each : (number : ℕ) (s : KeptNode) → IsAt w number s → IsTidy (seats s.node)

put_tidy : (w : World) (number : ℕ) (new : KeptNode) → AllTidy w → IsTidy (seats new.node) → (m : ℕ) (x : KeptNode)
    → Now w.nodes number new m x → IsTidy (seats x.node)
put_tidy w number new h its m x (is_new is same) = subst (λ (y : KeptNode). IsTidy (seats y.node)) same its
put_tidy w number new h its m x (is_old other at) = h.each m x at

pub goes_tidy : {w w' : World} → AllTidy w → Goes w w' → AllTidy w'
goes_tidy h Goes.stays = h
goes_tidy h (Goes.tells number told at saved) = record { each = h.each }
goes_tidy {w} h (Goes.calls number {s = s} {n = n} {k = k} sent admitted at does none) =
    let new : KeptNode = record { node = n; kept = k } in
    let its : IsTidy (seats n) = turn_tidy (h.each number s at) (calls_turn does) in
    record { each = λ m x e. put_tidy w number new h its m x (nodes.now w.nodes number new m x e) }
goes_tidy {w} h (Goes.joins number {k = k} may) =
    let new : KeptNode = record { node = opened w.desks k; kept = raised k } in
    record {
      each = λ m x e.
          put_tidy w number new h (opened_tidy w.desks k) m x (nodes.now w.nodes number new m x e);
    }

pub run_tidy : (w : World) (ms : List Moment) → AllTidy w → IsRun w ms → AllTidy (end w ms)
run_tidy w [] h run = h
run_tidy w (m ∷ ms) h run =
    run_tidy m.after ms (goes_tidy h (moves_goes w m.move m.reply m.after run.0)) run.1

pub reached_tidy : (w : World) → IsReached w → AllTidy w
reached_tidy w r =
    let empty : AllTidy (empty_world r.desks) = record {
      each = λ number s e. absurd (none_some (map.get-empty nat_cmp number) e);
    } in
    subst AllTidy r.leads (run_tidy (empty_world r.desks) r.moments empty r.is_run)

-- ---- what was given stays given

module _ {w : World} {pid : Pid} (g : WasGivenIn w pid) where
  put_given : (number : ℕ) (s new : KeptNode) → IsAt w number s
      → (WasGiven (seats s.node) pid → WasGiven (seats new.node) pid)
      → Stays w.nodes number new pid.node g.s
      → (x : KeptNode) × (map.get (map.insert w.nodes number new) pid.node ≡ Some x) × WasGiven (seats x.node) pid
  put_given number s new at turns (is_replaced is) =
      let same : s ≡ g.s = same_found at (subst (λ m. map.get w.nodes m ≡ Some g.s) is g.at) in (
        new,
        subst (λ m. map.get (map.insert w.nodes number new) m ≡ Some new) (sym is) (at_key w.nodes number new),
        turns (subst (λ (x : KeptNode). WasGiven (seats x.node) pid) (sym same) g.given),
      )
  put_given number s new at turns (is_still stands) = (g.s, stands, g.given)

  still_there : (number : ℕ) (new : KeptNode) → map.get w.nodes number ≡ None
      → Stays w.nodes number new pid.node g.s → map.get (map.insert w.nodes number new) pid.node ≡ Some g.s
  still_there number new free (is_replaced is) =
      absurd (none_some free (subst (λ m. map.get w.nodes m ≡ Some g.s) is g.at))
  still_there number new free (is_still stands) = stands

pub goes_given : {w w' : World} {pid : Pid} → AllTidy w → Goes w w' → WasGivenIn w pid → WasGivenIn w' pid
goes_given h Goes.stays g = g
goes_given h (Goes.tells number told at saved) g = record { s = g.s; at = g.at; given = g.given }
goes_given {w} {pid = pid} h (Goes.calls number {s = s} {n = n} {k = k} sent admitted at does none) g =
    let new : KeptNode = record { node = n; kept = k } in
    let p = put_given g number s new at (turn_given (h.each number s at) (calls_turn does))
    (stays_there w.nodes number new pid.node g.s g.at) in
    record { s = p.0; at = p.1; given = p.2 }
goes_given {w} {pid = pid} h (Goes.joins number {k = k} may) g =
    let new : KeptNode = record { node = opened w.desks k; kept = raised k } in
    record {
      s = g.s;
      at = still_there g number new may.free (stays_there w.nodes number new pid.node g.s g.at);
      given = g.given;
    }

pub run_given : (w : World) (ms : List Moment) {pid : Pid} → AllTidy w → IsRun w ms → WasGivenIn w pid
    → WasGivenIn (end w ms) pid
run_given w [] h run g = g
run_given w (m ∷ ms) h run g =
    let goes = moves_goes w m.move m.reply m.after run.0 in
    run_given m.after ms (goes_tidy h goes) run.1 (goes_given h goes g)

-- ---- what is made is new

-- a bench of the node gives the pid
pub record NodeGives (s s' : Seats) (pid : Pid) : Type 0 where
  pub place : ℕ
  pub bench : BenchState
  pub left : BenchState
  pub stands : item_at s.benches place ≡ Some bench
  pub stands_after : item_at s'.benches place ≡ Some left
  pub gives : Gives bench left pid
  pub turns : Turns bench left

job_gives : {n : NodeState} {desk upto : ℕ} {job : AnyJob} {pid : Pid} {n' : NodeState}
    → Jobs n desk upto job (Ok (answers.Reply (Made pid))) n' → NodeGives (seats n) (seats n') pid
job_gives {n} {job = job} {pid = pid} (Jobs.replied {left = left} look d) =
    record {
      place = place_of n job;
      bench = d.bench;
      left = left;
      stands = d.stands;
      stands_after = changed_at (λ _. left) n.benches (place_of n job) d.bench d.stands;
      gives = does_made _ d.bench pid left job d.does;
      turns = does_turns d.does;
    }

arrival_gives : {n : NodeState} {d : Data} {pid : Pid} {n' : NodeState} → Arrives n d (Ok (Made pid)) n'
    → NodeGives (seats n) (seats n') pid
arrival_gives {n} {d} {pid} (Arrives.arrives {left = left} at) =
    record {
      place = place_of n (Arrive d);
      bench = at.bench;
      left = left;
      stands = at.stands;
      stands_after = changed_at (λ _. left) n.benches (place_of n (Arrive d)) at.bench at.stands;
      gives = does_made _ at.bench pid left (Arrive d) at.does;
      turns = does_turns at.does;
    }

-- a node of the world gives the pid
pub record WorldGives (w w' : World) (pid : Pid) : Type 0 where
  pub number : ℕ
  pub s : KeptNode
  pub new : KeptNode
  pub at : IsAt w number s
  pub at_after : IsAt w' number new
  pub gives : NodeGives (seats s.node) (seats new.node) pid

module _ (w : World) (pid : Pid) where
  job_makes : (number desk upto : ℕ) (s : KeptNode) (job : AnyJob) → IsAt w number s → {w' : World}
      → JobAt w number s desk upto job (made pid) w' → WorldGives w w' pid
  job_makes number desk upto s job at (JobAt.replied {n = n} does) =
      record {
        number = number;
        s = s;
        new = record { node = n; kept = s.kept };
        at = at;
        at_after = at_key w.nodes number (record { node = n; kept = s.kept });
        gives = job_gives does;
      }

  message_makes : (number : ℕ) (s : KeptNode) (sent : Sent) (d : Data) → IsAt w number s → {w' : World}
      → MessageAt w number s sent d (made pid) w' → WorldGives w w' pid
  message_makes number s sent d at (MessageAt.arrives {n = n} does) =
      record {
        number = number;
        s = s;
        new = record { node = n; kept = s.kept };
        at = at;
        at_after = at_key w.nodes number (record { node = n; kept = s.kept });
        gives = arrival_gives does;
      }

  deliver_makes : (number : ℕ) (s : KeptNode) (sent : Sent) → IsAt w number s → {w' : World}
      → DeliverAt w number s sent (made pid) w' → WorldGives w w' pid
  deliver_makes number s sent at (DeliverAt.have is h) = elim h [ ]
  deliver_makes number s sent at (DeliverAt.ops is h) = elim h [ ]
  deliver_makes number s sent at (DeliverAt.message {d = d} is h) = message_makes number s sent d at h

  pub step_makes : {event : Event} {w' : World} → Step w event (made pid) w' → WorldGives w w' pid
  step_makes (Step.job {number = number} {desk = desk} {upto = upto} {job = job} {s = s} at is h) =
      job_makes number desk upto s job at h
  step_makes (Step.save at h) = elim h [ ]
  step_makes (Step.publish at h) = elim h [ ]
  step_makes (Step.cancel at h) = elim h [ ]
  step_makes (Step.restart at h) = elim h [ ]
  step_makes (Step.tell at h) = elim h [ ]
  step_makes (Step.deliver {number = number} {s = s} {sent = sent} e at h) = deliver_makes number s sent at h

module _ (w : World) (named : IsNamed w) (tidy : AllTidy w) {w' : World} {pid : Pid} (g : WorldGives w w' pid) where
  node_is : pid.node ≡ g.number
  node_is =
      g.gives.gives.next.node ∙ ((tidy.each g.number g.s g.at).each g.gives.place g.gives.bench g.gives.stands).node_is
      ∙ (named.sound g.number g.s g.at).0

  pub made_new : ¬ WasGivenIn w pid
  made_new was =
      let same : g.s ≡ was.s = same_found g.at (subst (λ m. map.get w.nodes m ≡ Some was.s) node_is was.at) in
      next_new (seats g.s.node) (tidy.each g.number g.s g.at) g.gives.place g.gives.bench g.gives.stands pid
      g.gives.gives.next (subst (λ (x : KeptNode). WasGiven (seats x.node) pid) (sym same) was.given)

  pub made_given : WasGivenIn w' pid
  made_given =
      let on = g.gives.turns.on in
      record {
        s = g.new;
        at = subst (λ m. map.get w'.nodes m ≡ Some g.new) (sym node_is) g.at_after;
        given = gives_given (seats g.new.node) g.gives.place g.gives.bench g.gives.left pid
            ((tidy.each g.number g.s g.at).each g.gives.place g.gives.bench g.gives.stands).orderly.forward g.gives.gives
            on.node_is on.boot_is on.residue_is on.stride_is g.gives.stands_after;
      }

-- ---- who is there

pub lives_own : (w : World) (number : ℕ) (s : KeptNode) (pid : Pid) (p : Process) → IsNamed w → AllTidy w
    → IsAt w number s → process_of s.node pid ≡ Some p → IsOfNode w number s pid
lives_own w number s pid p named tidy at =
    by_bench (item_at s.node.benches (bench_of (length s.node.benches) pid.serial)) refl
  where
    by_bench : (o : Option BenchState)
        → item_at s.node.benches (bench_of (length s.node.benches) pid.serial) ≡ o
        → process_at o pid ≡ Some p → IsOfNode w number s pid
    by_bench None e there = absurd (cc)
    by_bench (Some b) e there =
        let placed = (tidy.each number s at).each (bench_of (length s.node.benches) pid.serial) b e in
        let given = placed.orderly.each pid p there in
        let node_is : pid.node ≡ number = given.own.node_is ∙ placed.node_is ∙ (named.sound number s at).0 in
        record {
          node_is = node_is;
          boot_is = given.own.boot_is ∙ placed.boot_is;
          given = record {
            s = s;
            at = subst (λ m. map.get w.nodes m ≡ Some s) (sym node_is) at;
            given = now (bench_of (length s.node.benches) pid.serial) b e given;
          };
        }
