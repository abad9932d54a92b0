-- What holds along a run of events, of each of its moments and the later ones.
use Rattle.std.specs.Prelude.{◌≡◌, ◌≤◌, ◌<◌, ◌↔◌, ℕ, suc, List, [], ◌∷◌, map}
use Rattle.std.specs.List.{Contains, slice_get}
use Rattle.std.specs.declared.option.Option.TheVariants.{Some}
use Rattle.fl_labels.specs.Found.{Within}
use Rattle.fl_labels.specs.SetBy as set
use Rattle.fl_labels.specs.SetBy.{In}
use Rattle.fl_labels.specs.declared.cap.Cap.{Cap}
use Rattle.fl_labels.specs.declared.name.Name.{Name}
use Rattle.fl_labels.specs.declared.pid.Pid.{Pid}
use Rattle.fl_ops.specs.declared.op.Op.{Op}
use Rattle.fl_opset.specs.RegistryText.{registry_text}
use Rattle.fl_jobs.specs.declared.answer.Reply.TheVariants.{Yes, Emitted}
use Rattle.fl_jobs.specs.declared.job.Act.TheVariants.{Ask, Emit}
use Rattle.fl_jobs.specs.declared.job.Job.TheVariants.{By, Member}
use Rattle.fl_bench.specs.Process.{owns}
use Rattle.fl_bench.specs.declared.process.Process.{Process}
use Rattle.fl_system.specs.declared.event.Event.{Event}
use Rattle.fl_system.specs.declared.event.Event.TheVariants.{Job}
use Rattle.fl_system.specs.declared.reply.Reply.{Reply}
use Rattle.fl_system.specs.declared.reply.Reply.TheVariants.{Job as Answered}
use Rattle.fl_system.specs.Runs.{Happens, Moment, IsRun, Run, end}
use Rattle.fl_system.specs.Taint.{world_at, Lives, IsPure}
use Rattle.fl_system.specs.World.{World, KeptNode}
use Rattle.fl_system.specs.WorldSteps.{IsAt}
use Rattle.fl_agreement_laws.specs.Knowledge.{HasProcess, IsAnswer, KnowsNoLess, Sees}
use Rattle.fl_world.specs.Headline.{IsSafeWorld}
use Rattle.fl_world.specs.Lasting.{IsLastingWorld}

-- its moments: each event with what it was answered and the world after it
abbrev pub moments_of : (w : World) (events : List Event) (replies : List Reply) (w' : World)
    → Run w events replies w' → List Moment
moments_of w [] [] w' run = []
moments_of w (event ∷ events) (reply ∷ replies) w' run =
    record { move = Happens event; reply = reply; after = run.0 }
    ∷ moments_of run.0 events replies w' run.2
moments_of w [] (reply ∷ replies) w' run = absurd run
moments_of w (event ∷ events) [] w' run = absurd run

-- These may follow one another from the world w on, and the last leaves w'. The events happen in
-- them, each once and in order, and these are the replies to them.
pub record AreMoments (w : World) (events : List Event) (replies : List Reply) (w' : World)
    (ms : List Moment) : Type 0 where
  pub is_run : IsRun w ms
  pub moves : map (λ (m : Moment). m.move) ms ≡ map Happens events
  pub answers : map (λ (m : Moment). m.reply) ms ≡ replies
  pub leads : end w ms ≡ w'

-- the event of this place, counted from 0, is answered so
pub record IsAnswered (events : List Event) (replies : List Reply) (i : ℕ) (event : Event)
    (reply : Reply) : Type 0 where
  pub asked : slice_get events i ≡ Some event
  pub answered : slice_get replies i ≡ Some reply

-- ---- along the moments of a run, from the world w on

module _ (w : World) (events : List Event) (replies : List Reply) (ms : List Moment) where
  -- No yes is withdrawn: each later answer to the same question is yes again, at that desk or one
  -- of its node that knows no less; to a process, where it owns no less.
  pub record KeepsYesAlong : Type 0 where
    pub member : (i j number desk upto other upto' : ℕ) (root c : Cap) (reply : Reply) → i < j
        → IsAnswered events replies i (Job number desk upto (Member root c)) (Answered Yes)
        → IsAnswered events replies j (Job number other upto' (Member root c)) reply
        → IsAnswer reply
        → KnowsNoLess (world_at w ms (suc i)) number desk (world_at w ms (suc j)) other
        → reply ≡ Answered Yes
    pub ask : (i j number desk upto other upto' : ℕ) (pid pid' : Pid) (p p' : Process) (c : Cap)
        (reply : Reply) → i < j
        → IsAnswered events replies i (Job number desk upto (By pid (Ask c))) (Answered Yes)
        → IsAnswered events replies j (Job number other upto' (By pid' (Ask c))) reply
        → IsAnswer reply
        → KnowsNoLess (world_at w ms (suc i)) number desk (world_at w ms (suc j)) other
        → HasProcess (world_at w ms i) number pid p → HasProcess (world_at w ms j) number pid' p'
        → Within (In (owns p)) (In (owns p')) → reply ≡ Answered Yes

  -- nodes that published the same have one text, and desks that see the same answer alike
  pub record AgreesAlong : Type 0 where
    pub text : (i j number other : ℕ) (s t : KeptNode) → IsAt (world_at w ms i) number s
        → IsAt (world_at w ms j) other t
        → ((op : Op) → Contains s.node.published op ↔ Contains t.node.published op)
        → registry_text (set.of_list s.node.published)
        ≡ registry_text (set.of_list t.node.published)
    pub member : (i j number desk upto other_number other upto' : ℕ) (root c : Cap)
        (reply reply' : Reply)
        → IsAnswered events replies i (Job number desk upto (Member root c)) reply
        → IsAnswered events replies j (Job other_number other upto' (Member root c)) reply'
        → IsAnswer reply → IsAnswer reply'
        → ((op : Op) → Sees (world_at w ms (suc i)) number desk op
        ↔ Sees (world_at w ms (suc j)) other_number other op)
        → reply ≡ reply'

  -- A tag that came to a process along processes that never have its minus in effect stays in its
  -- label as long as it lives, and none of its emissions is let out.
  pub record ConfinesAlong : Type 0 where
    pub stays : (tag : Name) (i j : ℕ) (pid : Pid) (p : Process) → IsPure w ms tag i pid → i ≤ j
        → Lives (world_at w ms j) pid p → In p.labels.secrecy tag
    pub silent : (tag : Name) (i j number desk upto : ℕ) (pid : Pid) (bytes : List ℕ)
        → IsPure w ms tag i pid → i ≤ j
        → ¬ IsAnswered events replies j (Job number desk upto (By pid (Emit bytes)))
        (Answered (Emitted bytes))

  -- all of this, and at each moment what is true of each world that a run leads to
  pub record Lasts : Type 0 where
    pub yes : KeepsYesAlong
    pub agrees : AgreesAlong
    pub confined : ConfinesAlong
    pub safe : (i : ℕ) → IsSafeWorld (world_at w ms i)
    pub lasting : (i : ℕ) → IsLastingWorld (world_at w ms i)

-- In the world w the events may be answered so, one after another, and leave w'; and all of this
-- holds along that run.
pub record LastingRun (w : World) (events : List Event) (replies : List Reply) (w' : World)
    : Type 0 where
  pub run : Run w events replies w'
  pub lasts : Lasts w events replies (moments_of w events replies w' run)
