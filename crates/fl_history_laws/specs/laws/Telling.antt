-- What a reply tells: who was made lives, and who left is gone.
use Rattle.std.proofs.Common.{◌≡◌, ◌⊎◌, ◌∙◌, ◌+◌, ◌-◌, ◌%◌, ◌<◌, ◌≤◌, inl, inr, refl, sym, ap, subst, cond, arith, ℕ, suc, Bool, List, length, mod-eq_of_lt, eq-or-lt_of_le, Option, Some, None, Ok}
use native.Mathlib.Nat.{mod_self}
use Rattle.std.proofs.Math.Nat.{mod-add-mod, mod-lt}
use Rattle.std.specs.FinMap as map
use Rattle.std.specs.Ordering.{is_eq}
use Rattle.std.proofs.lemmas.Cmp.{tied_itself}
use Rattle.fl_labels.specs.PidOrder.{pid_total, same_pid}
use Rattle.fl_labels.specs.declared.pid.Pid.{Pid}
use Rattle.fl_ops.specs.declared.op.Op.{Op}
use Rattle.fl_message.specs.declared.message.Data.{Data}
use Rattle.fl_jobs.specs.declared.job.Act.TheVariants.{Exit}
use Rattle.fl_jobs.specs.declared.job.Job.{Job as AnyJob}
use Rattle.fl_jobs.specs.declared.job.Job.TheVariants.{By, Arrive}
use Rattle.fl_jobs.specs.declared.answer.Outcome.{Outcome}
use Rattle.fl_jobs.specs.declared.answer.Reply.TheVariants.{Done}
use Rattle.fl_bench.specs.Bench.{BenchState}
use Rattle.fl_bench.specs.Jobs.{Does, Performs}
use Rattle.fl_bench.specs.Orderly.{IsOrderly}
use Rattle.fl_bench.specs.Summary.{Changes, bears, keeps, loses}
use Rattle.fl_bench.specs.Summary as summary
use Rattle.fl_bench.specs.declared.process.Process.{Process}
use Rattle.fl_bench.specs.laws.Puts.{get_here}
use Rattle.fl_bench_laws.specs.laws.Changes.{does_changes}
use Rattle.fl_store.specs.Kept.{Kept}
use Rattle.fl_system.specs.declared.event.Event.{Event}
use Rattle.fl_system.specs.declared.event.Event.TheVariants.{Job, Restart}
use Rattle.fl_system.specs.declared.reply.Reply.{Reply}
use Rattle.fl_system.specs.declared.reply.Reply.TheVariants.{Booted, Job as Answered}
use Rattle.fl_system.specs.declared.sent.Sent.{Sent}
use Rattle.fl_system.specs.Arrives.{Arrives}
use Rattle.fl_system.specs.Deliveries.{DeliverAt, MessageAt}
use Rattle.fl_system.specs.Joins.{Reopening}
use Rattle.fl_system.specs.Jobs.{Jobs, bench_of, place_of}
use Rattle.fl_system.specs.Numbered.{change_item, item_at}
use Rattle.fl_system.specs.Processes.{process_at, process_of}
use Rattle.fl_system.specs.Runs.{Comes, Happens, Move, Moves, Returns}
use Rattle.fl_system.specs.Taint.{Lives}
use Rattle.fl_system.specs.World.{KeptNode, World}
use Rattle.fl_system.specs.WorldCalls.{RestartAt}
use Rattle.fl_system.specs.WorldJobs.{JobAt}
use Rattle.fl_system.specs.WorldSteps.{IsAt, Step}
use Rattle.fl_system_laws.specs.laws.Numbered.{changed_at, length-change}
use Rattle.fl_world_laws.specs.laws.Naming.{IsNamed}
use Rattle.fl_world_laws.specs.laws.Nodes.{at_key}
use Rattle.fl_history_laws.specs.Seats.{made}
use Rattle.fl_history_laws.specs.laws.Making.{Gives, does_made}
use Rattle.fl_history_laws.specs.laws.Pids.{AllTidy, made_new}
use Rattle.fl_history_laws.specs.Doing.{reopened, restarted}
use Rattle.fl_history_laws.specs.Lives.{IsAbsent, Leaves, exits, goes_down}
use Rattle.fl_history_laws.specs.laws.Returning.{lives_given, moves_makes}
use Rattle.fl_history_laws.specs.laws.Living.{none_absent}
use Rattle.fl_history_laws.specs.laws.Places.{process_among}
use Rattle.fl_history_laws.specs.laws.Stories.{again_none, living, process_in, restarted_none}

-- ---- the bench of a serial

-- two places of one list have one residue by its length only where they are one
same_residue : (c i j : ℕ) → 0 < i → i ≤ c → 0 < j → j ≤ c → i % c ≡ j % c → i ≡ j
same_residue c i j some within more below same = by_ends (eq-or-lt_of_le within) (eq-or-lt_of_le below)
  where
    by_ends : (i ≡ c) ⊎ (i < c) → (j ≡ c) ⊎ (j < c) → i ≡ j
    by_ends (inl e) (inl f) = e ∙ sym f
    by_ends (inl e) (inr l) =
        let zero_is : 0 ≡ j = sym (mod_self c) ∙ ap (λ n. n % c) (sym e) ∙ same ∙ mod-eq_of_lt l in
        absurd (omega (arith, zero_is, more))
    by_ends (inr l) (inl f) =
        let zero_is : i ≡ 0 = sym (mod-eq_of_lt l) ∙ same ∙ ap (λ n. n % c) f ∙ mod_self c in
        absurd (omega (arith, zero_is, some))
    by_ends (inr l) (inr m) = sym (mod-eq_of_lt l) ∙ same ∙ mod-eq_of_lt m

module _ (c k : ℕ) (some : 0 < k) (within : k ≤ c) where
  by_rest : (r : ℕ) → r < c → (r + 1) % c ≡ k % c → suc r ≡ k
  by_rest r less same =
      let next : suc r ≡ r + 1 = omega arith in
      same_residue c (suc r) k (omega arith) (omega (arith, less)) some within (ap (λ n. n % c) next ∙ same)

  -- the bench whose place has the residue of a serial is the bench of the serial
  place_is : (serial : ℕ) → 0 < serial → serial % c ≡ k % c → bench_of c serial ≡ k
  place_is serial begun same =
      let whole : serial - 1 + 1 ≡ serial = omega (arith, begun) in
      by_rest ((serial - 1) % c) (mod-lt (serial - 1) (omega (arith, some, within)))
      (mod-add-mod (serial - 1) c 1 ∙ ap (λ n. n % c) whole ∙ same)

-- ---- at a bench

-- where a pid was given somebody stands so
bears_it : {V : Op → Type 0} {b : BenchState} {job : AnyJob} {after : BenchState} {pid : Pid} → IsOrderly b
    → Gives b after pid → Changes V b job after → (child : Process) × (map.get after.processes pid ≡ Some child)
bears_it {b = b} orderly gives (keeps (summary.stays is)) =
    let same = ap (λ (x : BenchState). x.next) is in
    absurd (omega (arith, same, gives.then_next, orderly.forward))
bears_it {b = b} orderly gives (keeps (summary.turns q old new there follows is)) =
    let same = ap (λ (x : BenchState). x.next) is in
    absurd (omega (arith, same, gives.then_next, orderly.forward))
bears_it {b = b} orderly gives (loses q asked is) =
    let same = ap (λ (x : BenchState). x.next) is in
    absurd (omega (arith, same, gives.then_next, orderly.forward))
bears_it {b = b} {pid = pid} orderly gives (bears q child birth is) =
    let next = gives.next in
    let its = birth.next in
    let same : q ≡ pid =
    same_pid q pid (its.node ∙ sym next.node) (its.boot ∙ sym next.boot) (its.serial ∙ sym next.serial) in (
      child,
      subst (λ (x : BenchState). map.get x.processes pid ≡ Some child) (sym is)
          (subst (λ k. map.get (map.insert b.processes q child) k ≡ Some child) same
          (get_here pid_total b.processes q child)),
    )

module _ (V : Op → Type 0) (b : BenchState) (pid : Pid) (after : BenchState) where
  -- who asked to go is gone
  gone_act : (p : Process) → Performs V b pid p Exit (Outcome.Reply Done) after → map.get after.processes pid ≡ None
  gone_act p (said, is) =
      ap (λ (x : BenchState). map.get x.processes pid) is ∙ map.get-remove pid_total b.processes pid pid
      ∙ ap (λ r. cond (is_eq r) None (map.get b.processes pid)) (tied_itself pid_total pid)

  gone_by : Does V b (By pid Exit) (Ok (Outcome.Reply Done)) after → map.get after.processes pid ≡ None
  gone_by (Does.passed checks effect) = gone_act effect.0 effect.2

-- ---- in a world

-- what stands at the bench that was left so
stands_left : (benches : List BenchState) (place : ℕ) (bench left : BenchState) (pid : Pid) (o : Option Process)
    → item_at benches place ≡ Some bench → bench_of (length benches) pid.serial ≡ place
    → map.get left.processes pid ≡ o → process_among (change_item (λ _. left) benches place) pid ≡ o
stands_left benches place bench left pid o stands is e =
    ap (λ c. process_at (item_at (change_item (λ _. left) benches place) (bench_of c pid.serial)) pid)
    (length-change (λ _. left) benches place)
    ∙ ap (λ k. process_at (item_at (change_item (λ _. left) benches place) k) pid) is
    ∙ ap (λ x. process_at x pid) (changed_at (λ _. left) benches place bench stands) ∙ e

-- what the node has once it was put there
at_node : (w : World) {number : ℕ} {new : KeptNode} (pid : Pid) → pid.node ≡ number
    → map.get (map.insert w.nodes number new) pid.node ≡ Some new
at_node w {number} {new} pid is =
    ap (map.get (map.insert w.nodes number new)) is ∙ at_key w.nodes number new

module _ (w : World) (named : IsNamed w) (tidy : AllTidy w) (pid : Pid) where
  -- ---- who was made

  module _ (number : ℕ) (s : KeptNode) (at : IsAt w number s) (place : ℕ) (bench left : BenchState)
      (stands : item_at s.node.benches place ≡ Some bench) (gives : Gives bench left pid) where
    made_there : (child : Process) → map.get left.processes pid ≡ Some child
        → process_among (change_item (λ _. left) s.node.benches place) pid ≡ Some child
    made_there child there =
        let placed = (tidy.each number s at).each place bench stands in
        let next = gives.next in
        stands_left s.node.benches place bench left pid (Some child) stands
        (place_is (length s.node.benches) place placed.some placed.within pid.serial
        (omega (arith, placed.orderly.begun, next.serial))
        (ap (λ n. n % length s.node.benches) next.serial ∙ placed.residue_is)) there

    made_node : pid.node ≡ number
    made_node =
        gives.next.node ∙ ((tidy.each number s at).each place bench stands).node_is ∙ (named.sound number s at).0

  made_job : (number desk upto : ℕ) (job : AnyJob) (s : KeptNode) (at : IsAt w number s) (after : World)
      → JobAt w number s desk upto job (made pid) after → (child : Process) × Lives after pid child
  made_job number desk upto job s at after (JobAt.replied {n = n} (Jobs.replied {left = left} look d)) =
      let placed = (tidy.each number s at).each (place_of s.node job) d.bench d.stands in
      let gives = does_made _ d.bench pid left job d.does in
      let child = bears_it placed.orderly gives (does_changes _ d.does) in (
        child.0,
        record {
          node = record { node = n; kept = s.kept };
          there = at_node w pid (made_node number s at (place_of s.node job) d.bench left d.stands gives);
          stands = made_there number s at (place_of s.node job) d.bench left d.stands gives child.0 child.1;
        },
      )

  made_message : (number : ℕ) (s : KeptNode) (at : IsAt w number s) (sent : Sent) (d : Data) (after : World)
      → MessageAt w number s sent d (made pid) after → (child : Process) × Lives after pid child
  made_message number s at sent d after (MessageAt.arrives {n = n} (Arrives.arrives {left = left} x)) =
      let placed = (tidy.each number s at).each (place_of s.node (Arrive d)) x.bench x.stands in
      let gives = does_made _ x.bench pid left (Arrive d) x.does in
      let child = bears_it placed.orderly gives (does_changes _ x.does) in (
        child.0,
        record {
          node = record { node = n; kept = s.kept };
          there = at_node w pid (made_node number s at (place_of s.node (Arrive d)) x.bench left x.stands gives);
          stands = made_there number s at (place_of s.node (Arrive d)) x.bench left x.stands gives child.0 child.1;
        },
      )

  made_step : {event : Event} (after : World) → Step w event (made pid) after
      → (child : Process) × Lives after pid child
  made_step after (Step.job {number} {desk} {upto} {job} {s} at is h) = made_job number desk upto job s at after h
  made_step after (Step.save at h) = elim h [ ]
  made_step after (Step.publish at h) = elim h [ ]
  made_step after (Step.cancel at h) = elim h [ ]
  made_step after (Step.restart at h) = elim h [ ]
  made_step after (Step.tell at h) = elim h [ ]
  made_step after (Step.deliver {number = number} {s} {sent} e at (DeliverAt.have is h)) = elim h [ ]
  made_step after (Step.deliver {number = number} {s} {sent} e at (DeliverAt.ops is h)) = elim h [ ]
  made_step after (Step.deliver {number = number} {s} {sent} e at (DeliverAt.message {d} is h)) =
      made_message number s at sent d after h

  pub made_lives : (move : Move) (after : World) → Moves w move (made pid) after
      → (child : Process) × Lives after pid child
  made_lives (Happens event) after h = made_step after h
  made_lives (Comes number k) after h = elim h [ ]
  made_lives (Returns number k) after h = elim h [ ]

  pub made_absent : (move : Move) (after : World) → Moves w move (made pid) after → IsAbsent w pid
  made_absent move after h p lives =
      made_new w named tidy (moves_makes move h) (lives_given named tidy lives)

  -- ---- who left

  gone_at : {number : ℕ} (new : KeptNode) → pid.node ≡ number → process_of new.node pid ≡ None
      → process_in (map.get (map.insert w.nodes number new) pid.node) pid ≡ None
  gone_at new is none = ap (λ o. process_in o pid) (at_node w pid is) ∙ none

  gone_job : {number desk upto : ℕ} {s : KeptNode} {after : World} → pid.node ≡ number
      → JobAt w number s desk upto (By pid Exit) (Answered Done) after → living after pid ≡ None
  gone_job {s = s} is (JobAt.replied {n = n} (Jobs.replied {left = left} look d)) =
      gone_at (record { node = n; kept = s.kept }) is (stands_left s.node.benches (place_of s.node (By pid Exit)) d.bench left pid None d.stands refl
      (gone_by _ d.bench pid left d.does))

  gone_exit : {desk upto : ℕ} (after : World) → Step w (Job pid.node desk upto (By pid Exit)) (Answered Done) after
      → living after pid ≡ None
  gone_exit after (Step.job at is h) = gone_job refl h

  gone_restart : {keeps : Bool} {boot : ℕ} (after : World) → Step w (Restart pid.node keeps) (Booted boot) after
      → living after pid ≡ None
  gone_restart after (Step.restart {number} {s = s} at (RestartAt.booted {n = n} {k} does)) =
      gone_at (record { node = n; kept = k }) refl (restarted_none w tidy pid number s at does)

  gone_reopening : {k : Kept} {boot : ℕ} (after : World) → Reopening w pid.node k (Booted boot) after
      → living after pid ≡ None
  gone_reopening after (Reopening.booted {s} {n = n} {k' = k'} at is h) =
      gone_at (record { node = n; kept = k' }) refl (again_none w tidy pid pid.node s at h)

  -- the move and its reply are these
  at_move : {move other : Move} {reply answer : Reply} (after : World) → move ≡ other → reply ≡ answer
      → Moves w move reply after → Moves w other answer after
  at_move {move} {other} {reply} {answer} after is said h =
      subst (λ r. Moves w other r after) said (subst (λ m. Moves w m reply after) is h)

  pub gone_after : {move : Move} {reply : Reply} (after : World) → Moves w move reply after
      → Leaves w move reply pid → IsAbsent after pid
  gone_after after h (exits done said) = none_absent (gone_exit after (at_move after done.move_is said h))
  gone_after after h (goes_down (restarted is said)) = none_absent (gone_restart after (at_move after is said h))
  gone_after after h (goes_down (reopened is said)) = none_absent (gone_reopening after (at_move after is said h))
