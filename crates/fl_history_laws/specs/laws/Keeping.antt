-- Tags stay in the labels of those who can't remove them, and out of the labels of those who can't add them.
use Rattle.std.proofs.Common.{◌≡◌, refl, sym, subst, arith, Bool, true, false, ℕ, zero, suc, List, [], ◌∷◌, take, Option, Some, None}
use Rattle.std.specs.List.{Contains}
use Rattle.fl_labels.specs.Found.{Within}
use Rattle.fl_labels.specs.Name.{name_cmp}
use Rattle.fl_labels.specs.SetBy as set
use Rattle.fl_labels.specs.SetBy.{In, SetBy, contains}
use Rattle.fl_labels.specs.declared.cap.Cap.{Cap}
use Rattle.fl_labels.specs.declared.cap.Cap.TheVariants.{Minus, Plus}
use Rattle.fl_labels.specs.declared.name.Name.{Name}
use Rattle.fl_labels.specs.declared.pid.Pid.{Pid}
use Rattle.fl_ops.specs.OpOrder.{op_cmp}
use Rattle.fl_ops.specs.Registry.{Listed}
use Rattle.fl_ops.specs.declared.op.Op.{Op}
use Rattle.fl_ops.specs.laws.Reaching.{eff_more}
use Rattle.fl_opset.specs.laws.Members.{listed_in, listed_member}
use Rattle.fl_jobs.specs.declared.job.Side.{Side}
use Rattle.fl_jobs.specs.declared.job.Side.TheVariants.{Integrity, Secrecy}
use Rattle.fl_bench.specs.Process.{effective, side_of, with_side}
use Rattle.fl_bench.specs.declared.process.Process.{Process}
use Rattle.fl_bench.specs.laws.Puts.{none_some, same_found}
use Rattle.fl_rules.specs.declared.labels.Labels.{Labels}
use Rattle.fl_system.specs.declared.reply.Reply.{Reply}
use Rattle.fl_system.specs.Runs.{Moment, Move, Moves, end}
use Rattle.fl_system.specs.State.{first_ops}
use Rattle.fl_system.specs.Taint.{Lives}
use Rattle.fl_system.specs.World.{KeptNode, World}
use Rattle.fl_system_laws.specs.laws.Going.{moves_goes}
use Rattle.fl_world_laws.specs.laws.Naming.{IsNamed, goes_named}
use Rattle.fl_history_laws.specs.Seats.{WasGivenIn}
use Rattle.fl_history_laws.specs.laws.Pids.{AllTidy, goes_given, goes_tidy}
use Rattle.fl_history_laws.specs.Doing.{seen}
use Rattle.fl_history_laws.specs.Labels.{Lacks, Relabels, RunWhile, Sets, keeps, sets}
use Rattle.fl_history_laws.specs.laws.Changing.{relabelled}
use Rattle.fl_history_laws.specs.laws.Living.{altered, living_lives}
use Rattle.fl_history_laws.specs.laws.Returning.{stays_away}
use Rattle.fl_history_laws.specs.laws.Stories.{living}

-- ---- what a desk sees is published

later_item : (y : Op) (xs : List Op) (x : Op) → Contains xs x → Contains (y ∷ xs) x
later_item y xs x h = (suc h.0, omega (arith, h.1), h.2)

taken_there : (v : ℕ) (xs : List Op) (x : Op) → Contains (take v xs) x → Contains xs x
taken_there zero xs x h = absurd (omega (arith, h.1))
taken_there (suc v) [] x h = h
taken_there (suc v) (y ∷ xs) x (zero, inside, at) = (0, omega arith, at)
taken_there (suc v) (y ∷ xs) x (suc k, inside, at) =
    later_item y xs x (taken_there v xs x (k, omega (arith, inside), at))

pub first_published : (v : ℕ) (list : List Op) → Within (first_ops v list) (Listed list)
first_published v list op h =
    let taken = set.of_list {R = op_cmp} (take v list) in
    taken_there v list op ((listed_in (take v list) taken refl op).1 (listed_member taken op h))

-- ---- tags

-- the label of a side, where one of a side was set
pub data SetOf (side side' : Side) (label : SetBy name_cmp) (l : Labels) : Type 0 where
  another : side_of side (with_side side' label l) ≡ side_of side l → SetOf side side' label l
  this : side ≡ side' → side_of side (with_side side' label l) ≡ label → SetOf side side' label l

set_of : (side side' : Side) (label : SetBy name_cmp) (l : Labels) → SetOf side side' label l
set_of Secrecy Secrecy label l = this refl refl
set_of Secrecy Integrity label l = another refl
set_of Integrity Secrecy label l = another refl
set_of Integrity Integrity label l = this refl refl

module _ {w : World} {move : Move} {reply : Reply} {pid : Pid} where
  -- what a desk let pass was in effect under all that the node has published
  in_effect : {p : Process} {s' : Side} {label : SetBy name_cmp} (lives : Lives w pid p)
      → (set_it : Sets w move reply pid p s' label) (c : Cap) → effective (seen set_it.done) p c
      → effective (Listed lives.node.node.published) p c
  in_effect {p} lives set_it c h =
      let same : set_it.done.s ≡ lives.node = same_found set_it.done.at lives.there in
      subst (λ (x : KeptNode). effective (Listed x.node.published) p c) same
      (eff_more (first_published set_it.done.v set_it.done.s.node.published) (λ k m. m) c h)

  module _ (tag : Name) {p q : Process} (lives : Lives w pid p) (side : Side) where
    stays_in : Relabels w move reply pid p q → ¬ effective (Listed lives.node.node.published) p (Minus tag)
        → In (side_of side p.labels) tag → In (side_of side q.labels) tag
    stays_in (keeps e) lacks here = subst (λ l. In (side_of side l) tag) (sym e) here
    stays_in (sets {side = s'} {label} set_it e) lacks here =
        subst (λ l. In (side_of side l) tag) (sym e) (by_side (set_of side s' label p.labels))
      where
        by_test : (b : Bool) → contains label tag ≡ b → In (side_of s' p.labels) tag → In label tag
        by_test true t here = t
        by_test false t here =
            absurd (lacks (in_effect lives set_it (Minus tag)
            (set_it.safe (Minus tag) (record { here = here; not_there = t }))))

        by_side : SetOf side s' label p.labels → In (side_of side (with_side s' label p.labels)) tag
        by_side (another is) = subst (λ l. In l tag) (sym is) here
        by_side (this same is) =
            subst (λ l. In l tag) (sym is)
            (by_test (contains label tag) refl (subst (λ k. In (side_of k p.labels) tag) same here))

    stays_out : Relabels w move reply pid p q → ¬ effective (Listed lives.node.node.published) p (Plus tag)
        → ¬ In (side_of side p.labels) tag → ¬ In (side_of side q.labels) tag
    stays_out (keeps e) lacks out here = out (subst (λ l. In (side_of side l) tag) e here)
    stays_out (sets {side = s'} {label} set_it e) lacks out here =
        by_side (set_of side s' label p.labels) (subst (λ l. In (side_of side l) tag) e here)
      where
        by_test : (b : Bool) → contains (side_of s' p.labels) tag ≡ b → ¬ In (side_of s' p.labels) tag
            → In label tag → ⊥
        by_test true t out here = out t
        by_test false t out here =
            lacks (in_effect lives set_it (Plus tag)
            (set_it.safe (Plus tag) (record { here = here; not_there = t })))

        by_side : SetOf side s' label p.labels → In (side_of side (with_side s' label p.labels)) tag → ⊥
        by_side (another is) here = out (subst (λ l. In l tag) is here)
        by_side (this same is) here =
            by_test (contains (side_of s' p.labels) tag) refl
            (subst (λ k. ¬ In (side_of k p.labels) tag) same out) (subst (λ l. In l tag) is here)

-- the process that there may be has the tag
abbrev pub Has : Side → Name → Option Process → Type 0
Has side tag o = (process : Process) → o ≡ Some process → In (side_of side process.labels) tag

-- it has not
abbrev pub HasNot : Side → Name → Option Process → Type 0
HasNot side tag o = (process : Process) → o ≡ Some process → ¬ In (side_of side process.labels) tag

module _ (pid : Pid) (side : Side) (tag : Name) where
  module _ {w : World} (m : Moment) (named : IsNamed w) (tidy : AllTidy w) (given : WasGivenIn w pid)
      (moves : Moves w m.move m.reply m.after) where
    kept_once : Lacks pid (Minus tag) w → Has side tag (living w pid) → Has side tag (living m.after pid)
    kept_once lacks has q still = by_old (living w pid) refl
      where
        by_old : (o : Option Process) → living w pid ≡ o → In (side_of side q.labels) tag
        by_old None e = absurd (none_some (stays_away m named tidy given moves e) still)
        by_old (Some p) e =
            let lives = living_lives w pid p e in
            stays_in tag lives side (relabelled (altered tidy moves pid p q lives (living_lives m.after pid q still)))
            (lacks p lives) (has p e)

    out_once : Lacks pid (Plus tag) w → HasNot side tag (living w pid) → HasNot side tag (living m.after pid)
    out_once lacks out q still = by_old (living w pid) refl
      where
        by_old : (o : Option Process) → living w pid ≡ o → ¬ In (side_of side q.labels) tag
        by_old None e = absurd (none_some (stays_away m named tidy given moves e) still)
        by_old (Some p) e =
            let lives = living_lives w pid p e in
            stays_out tag lives side (relabelled (altered tidy moves pid p q lives (living_lives m.after pid q still)))
            (lacks p lives) (out p e)

  pub kept : (w : World) (ms : List Moment) → IsNamed w → AllTidy w → WasGivenIn w pid
      → RunWhile (Lacks pid (Minus tag)) w ms → Has side tag (living w pid) → Has side tag (living (end w ms) pid)
  kept w [] named tidy given run has = has
  kept w (m ∷ ms) named tidy given run has =
      let goes = moves_goes w m.move m.reply m.after run.1 in
      kept m.after ms (goes_named named goes) (goes_tidy tidy goes) (goes_given tidy goes given) run.2
      (kept_once m named tidy given run.1 run.0 has)

  pub kept_out : (w : World) (ms : List Moment) → IsNamed w → AllTidy w → WasGivenIn w pid
      → RunWhile (Lacks pid (Plus tag)) w ms → HasNot side tag (living w pid)
      → HasNot side tag (living (end w ms) pid)
  kept_out w [] named tidy given run out = out
  kept_out w (m ∷ ms) named tidy given run out =
      let goes = moves_goes w m.move m.reply m.after run.1 in
      kept_out m.after ms (goes_named named goes) (goes_tidy tidy goes) (goes_given tidy goes given) run.2
      (out_once m named tidy given run.1 run.0 out)
