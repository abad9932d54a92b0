-- What processes come to own at a move, and what they lose.
use Rattle.std.proofs.Common.{◌≡◌, ◌⊎◌, ◌∙◌, inl, inr, refl, sym, ap, subst, arith, List, [], ◌∷◌, ℕ, Option, Some}
use Rattle.std.specs.FinMap as map
use Rattle.std.specs.List.{Contains}
use Rattle.std.specs.Ordering.{nat_cmp}
use Rattle.fl_labels.specs.SetBy.{In}
use Rattle.fl_labels.specs.declared.cap.Cap.{Cap}
use Rattle.fl_labels.specs.declared.pid.Pid.{Pid}
use Rattle.fl_jobs.specs.declared.job.Act.TheVariants.{Drop}
use Rattle.fl_jobs.specs.declared.job.Job.{Job}
use Rattle.fl_jobs.specs.declared.job.Job.TheVariants.{By}
use Rattle.fl_jobs.specs.declared.answer.Reply.TheVariants as jobs
use Rattle.fl_jobs.specs.declared.answer.Outcome.{Outcome}
use Rattle.fl_bench.specs.Births.{IsChild, alone, of}
use Rattle.fl_bench.specs.Gifts.{given}
use Rattle.fl_bench.specs.Process.{owns}
use Rattle.fl_bench.specs.declared.process.Holding.{Holding}
use Rattle.fl_bench.specs.declared.process.Holding.TheVariants.{Idle, Ordering}
use Rattle.fl_bench.specs.declared.process.Process.{Process}
use Rattle.fl_bench.specs.laws.Puts.{none_some, same_found}
use Rattle.fl_system.specs.declared.reply.Reply.{Reply}
use Rattle.fl_system.specs.declared.reply.Reply.TheVariants.{Job as Answered}
use Rattle.fl_system.specs.Runs.{IsRun, Move, Moment, Moves, end}
use Rattle.fl_system.specs.World.{World, empty_world}
use Rattle.fl_system.specs.WorldSteps.{IsArrival}
use Rattle.fl_system_laws.specs.laws.Going.{moves_goes}
use Rattle.fl_history_laws.specs.laws.Pids.{AllTidy, goes_tidy}
use Rattle.fl_history_laws.specs.Doing.{IsAnswered, IsDone, seen}
use Rattle.fl_history_laws.specs.Lives.{IsBorn}
use Rattle.fl_history_laws.specs.Owned.{Gains, GivesUp, Owns, WasGiven, arrived, born_with, entered, made_it}
use Rattle.fl_history_laws.specs.laws.Fates.{Turns, rested}
use Rattle.fl_history_laws.specs.laws.Living.{empty_tidy, living_lives, lives_living}
use Rattle.fl_history_laws.specs.laws.Members.{all_in, joined_in, left_in, left_or_out, none_in_empty, put_in, still_all, still_joined, still_put}
use Rattle.fl_history_laws.specs.laws.Stories.{Alters, Story, living, move_story}

-- a process whose operation is over owns no more than it did and what that gave, and no less
rested_in : (p : Process) (caps : List Cap) (c : Cap) → In (owns (rested p caps)) c → In (owns p) c ⊎ Contains caps c
rested_in p caps c = by_holding p.owned
  where
    by_holding : (h : Holding) → In (owns (rested (record p { owned = h }) caps)) c
        → In (owns (record p { owned = h })) c ⊎ Contains caps c
    by_holding (Idle owned) m = inl m
    by_holding (Ordering owned) m = all_in owned caps c m

still_rested : (p : Process) (caps : List Cap) (c : Cap) → In (owns p) c → In (owns (rested p caps)) c
still_rested p caps c = by_holding p.owned
  where
    by_holding : (h : Holding) → In (owns (record p { owned = h })) c
        → In (owns (rested (record p { owned = h }) caps)) c
    by_holding (Idle owned) m = m
    by_holding (Ordering owned) m = still_all owned caps c m

-- the process that there may be owns the capability
pub record OwnedBy (c : Cap) (o : Option Process) : Type 0 where
  pub process : Process
  pub lives : o ≡ Some process
  pub owned : In (owns process) c

module _ {w : World} {move : Move} {reply : Reply} {pid : Pid} {c : Cap} where
  -- ---- what is gained

  turn_gains : {job : Job} {x : Outcome} {p q : Process} (done : IsDone w move pid.node job) → ¬ IsArrival job
      → IsAnswered w x reply → Turns (seen done) job x pid p q → In (owns q) c
      → In (owns p) c ⊎ Gains w move reply pid c
  turn_gains done asks said Turns.stays m = inl m
  turn_gains done asks said (Turns.orders_it asked) m = inl m
  turn_gains done asks said (Turns.relabels asked is safe) m = inl m
  turn_gains {p = p} done asks said (Turns.drops {c = d} asked is) m = inl (left_in (owns p) d c m)
  turn_gains {p = p} done asks said (Turns.enters {c = d} asked is) m = elim (put_in (owns p) d c m) [
    | inl had ↦ inl had
    | inr same ↦ inr (entered (subst (IsDone w move pid.node) asked done)
        (subst (λ x. IsAnswered w x reply) is said ∙ ap (λ k. Answered (jobs.Entered k)) (sym same)))
  ]
  turn_gains done asks said (Turns.mails_it asked mail) m = inl m
  turn_gains done asks said (Turns.hears asked its is) m = absurd (asks (subst IsArrival (sym asked) tt))

  alters_gains : {p q : Process} → Alters w move reply pid p q → In (owns q) c
      → In (owns p) c ⊎ Gains w move reply pid c
  alters_gains Alters.stays m = inl m
  alters_gains (Alters.works done asks said turn) m = turn_gains done asks said turn m
  alters_gains {p} (Alters.hears {d} brings its said) m = elim (joined_in (owns p) d.message.caps c m) [
    | inl had ↦ inl had
    | inr came ↦ inr (arrived brings its said came)
  ]
  alters_gains {p} (Alters.gets {op} published) m = elim (rested_in p (given op) c m) [
    | inl had ↦ inl had
    | inr new ↦ inr (made_it published new)
  ]
  alters_gains {p} (Alters.gives_up cancelled) m = elim (rested_in p [] c m) [
    | inl had ↦ inl had
    | inr new ↦ absurd (omega (arith, new.1))
  ]

  child_gains : (child : Process) → IsBorn w move reply pid child → In (owns child) c → Gains w move reply pid c
  child_gains child birth m = by_child birth.birth.child_is m
    where
      by_child : {child : Process} → IsChild (seen birth.done) birth.done.bench birth.job child → In (owns child) c
          → Gains w move reply pid c
      by_child (alone asked) m = absurd (none_in_empty c m)
      by_child (of asked there within) m =
          born_with (subst (IsDone w move pid.node) asked birth.done) birth.answered m

  story_gains : {o o' : Option Process} → Story w move reply pid o o' → OwnedBy c o'
      → OwnedBy c o ⊎ Gains w move reply pid c
  story_gains Story.nobody h = absurd (none_some refl h.lives)
  story_gains (Story.comes {child} birth) h =
      inr (child_gains child birth (subst (λ (x : Process). In (owns x) c) (same_found h.lives refl) h.owned))
  story_gains (Story.leaves l) h = absurd (none_some refl h.lives)
  story_gains (Story.lives_on {p} a) h =
      elim (alters_gains a (subst (λ (x : Process). In (owns x) c) (same_found h.lives refl) h.owned)) [
        | inl had ↦ inl (record { process = p; lives = refl; owned = had })
        | inr gains ↦ inr gains
      ]

  -- ---- what is lost

  turn_loses : {job : Job} {x : Outcome} {p q : Process} (done : IsDone w move pid.node job) → ¬ IsArrival job
      → IsAnswered w x reply → Turns (seen done) job x pid p q → In (owns p) c → ¬ In (owns q) c
      → GivesUp w move reply pid c
  turn_loses done asks said Turns.stays m gone = absurd (gone m)
  turn_loses done asks said (Turns.orders_it asked) m gone = absurd (gone m)
  turn_loses done asks said (Turns.relabels asked is safe) m gone = absurd (gone m)
  turn_loses {p = p} done asks said (Turns.drops {c = d} asked is) m gone = elim (left_or_out (owns p) d c m) [
    | inl still ↦ absurd (gone still)
    | inr same ↦ record {
      done = subst (IsDone w move pid.node) (asked ∙ ap (λ k. By pid (Drop k)) (sym same)) done;
      answered = subst (λ x. IsAnswered w x reply) is said;
    }
  ]
  turn_loses {p = p} done asks said (Turns.enters {c = d} asked is) m gone = absurd (gone (still_put (owns p) d c m))
  turn_loses done asks said (Turns.mails_it asked mail) m gone = absurd (gone m)
  turn_loses done asks said (Turns.hears asked its is) m gone = absurd (asks (subst IsArrival (sym asked) tt))

  pub alters_loses : {p q : Process} → Alters w move reply pid p q → In (owns p) c → ¬ In (owns q) c
      → GivesUp w move reply pid c
  alters_loses Alters.stays m gone = absurd (gone m)
  alters_loses (Alters.works done asks said turn) m gone = turn_loses done asks said turn m gone
  alters_loses {p} (Alters.hears {d} brings its said) m gone =
      absurd (gone (still_joined (owns p) d.message.caps c m))
  alters_loses {p} (Alters.gets {op} published) m gone = absurd (gone (still_rested p (given op) c m))
  alters_loses {p} (Alters.gives_up cancelled) m gone = absurd (gone (still_rested p [] c m))

-- ---- over a move, and over a run

module _ {pid : Pid} {c : Cap} where
  owned_living : {w : World} → Owns w pid c → OwnedBy c (living w pid)
  owned_living o = record { process = o.process; lives = lives_living o.lives; owned = o.owned }

  living_owned : (w : World) → OwnedBy c (living w pid) → Owns w pid c
  living_owned w h =
      record { process = h.process; lives = living_lives w pid h.process h.lives; owned = h.owned }

  pub move_gains : (w after : World) (move : Move) {reply : Reply} → AllTidy w → Moves w move reply after
      → Owns after pid c → Owns w pid c ⊎ Gains w move reply pid c
  move_gains w after move tidy moves o = elim (story_gains (move_story w tidy pid after move moves) (owned_living o)) [
    | inl had ↦ inl (living_owned w had)
    | inr gains ↦ inr gains
  ]

  given_first : (w : World) (m : Moment) (ms : List Moment) → Gains w m.move m.reply pid c → WasGiven w (m ∷ ms) pid c
  given_first w m ms gains =
      record { first = []; moment = m; later = ms; moments_are = refl; gains = gains }

  given_later : (w : World) (m : Moment) (ms : List Moment) → WasGiven m.after ms pid c → WasGiven w (m ∷ ms) pid c
  given_later w m ms g =
      record {
        first = m ∷ g.first;
        moment = g.moment;
        later = g.later;
        moments_are = ap (λ l. m ∷ l) g.moments_are;
        gains = g.gains;
      }

  -- what is owned at the end of a run was owned at its beginning, or given in it
  run_gains : (w : World) (ms : List Moment) → AllTidy w → IsRun w ms → Owns (end w ms) pid c
      → Owns w pid c ⊎ WasGiven w ms pid c
  run_gains w [] tidy run o = inl o
  run_gains w (m ∷ ms) tidy run o =
      let goes = moves_goes w m.move m.reply m.after run.0 in
      elim (run_gains m.after ms (goes_tidy tidy goes) run.1 o) [
        | inr later ↦ inr (given_later w m ms later)
        | inl mid ↦ elim (move_gains w m.after m.move tidy run.0 mid) [
          | inl first ↦ inl first
          | inr gains ↦ inr (given_first w m ms gains)
        ]
      ]

  pub was_given : (desks : ℕ) (ms : List Moment) → IsRun (empty_world desks) ms → Owns (end (empty_world desks) ms) pid c
      → WasGiven (empty_world desks) ms pid c
  was_given desks ms run o = elim (run_gains (empty_world desks) ms (empty_tidy desks) run o) [
    | inl first ↦ absurd (none_some (map.get-empty nat_cmp pid.node) first.lives.there)
    | inr given ↦ given
  ]
