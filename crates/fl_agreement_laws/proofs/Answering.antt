-- What was answered, under what a desk sees.
use Rattle.std.proofs.Common.{◌≡◌, ◌⊎◌, ◌∙◌, ◌≤◌, ◌++◌, inl, inr, ℕ, List, Ok, Some, refl, sym, ap, subst, arith}
use Rattle.std.specs.FinMap as map
use Rattle.fl_labels.specs.Found.{Within}
use Rattle.fl_labels.specs.SetBy.{In}
use Rattle.fl_labels.specs.declared.cap.Cap.{Cap}
use Rattle.fl_labels.specs.declared.pid.Pid.{Pid}
use Rattle.fl_ops.specs.Registry.{Reach, From}
use Rattle.fl_ops.specs.declared.op.Op.{Op}
use Rattle.fl_ops.specs.laws.Reaching.{reach_more, eff_more}
use Rattle.fl_jobs.specs.declared.answer.Outcome.{Outcome}
use Rattle.fl_jobs.specs.declared.answer.Reply as jobs
use Rattle.fl_jobs.specs.declared.answer.Reply.TheVariants.{Yes, NotYet}
use Rattle.fl_jobs.specs.declared.job.Act.{Act}
use Rattle.fl_jobs.specs.declared.job.Act.TheVariants.{Ask}
use Rattle.fl_jobs.specs.declared.job.Job.{Job as AnyJob}
use Rattle.fl_jobs.specs.declared.job.Job.TheVariants.{By, Member}
use Rattle.fl_bench.specs.Bench.{BenchState}
use Rattle.fl_bench.specs.Jobs.{Does, passed}
use Rattle.fl_bench.specs.Process.{owns, effective}
use Rattle.fl_bench.specs.declared.process.Process.{Process}
use Rattle.fl_bench.specs.laws.Puts.{same_found}
use Rattle.fl_system.specs.declared.event.Event.TheVariants.{Job}
use Rattle.fl_system.specs.declared.reply.Reply.{Reply}
use Rattle.fl_system.specs.declared.reply.Reply.TheVariants.{Job as Answered}
use Rattle.fl_system.specs.Jobs.{Jobs, place_of}
use Rattle.fl_system.specs.Numbered.{item_at}
use Rattle.fl_system.specs.Processes.{process_of, process_at}
use Rattle.fl_system.specs.Runs.{Happens, Moment, IsRun, end}
use Rattle.fl_system.specs.State.{NodeState, first_ops}
use Rattle.fl_system.specs.World.{World, KeptNode}
use Rattle.fl_system.specs.WorldJobs.{JobAt}
use Rattle.fl_system.specs.WorldSteps.{IsAt, Step}
use Rattle.fl_system_laws.specs.laws.Going.{moves_goes}
use Rattle.fl_system_laws.specs.laws.Numbered.{changed_at}
use Rattle.fl_world_laws.specs.laws.Naming.{IsNamed, goes_named}
use Rattle.fl_world_laws.specs.laws.Nodes.{at_key}
use Rattle.fl_agreement_laws.specs.Knowledge.{HasProcess, IsAnswer, KnowsNoLess}
use Rattle.fl_agreement_laws.proofs.Follows.{Follows, SeenFrom, FollowsIn, jobs_follow, follows_on, run_follows, on_view, all_on_view}
use Rattle.fl_agreement_laws.proofs.Fronts.{first_there}

-- A job at a desk of the node of this number that had this answer: the node before and after, what the desk saw, and
-- the bench.
pub record Had (w : World) (number desk : ℕ) (job : AnyJob) (reply : jobs.Reply) (after : World) : Type 0 where
  pub s : KeptNode
  pub at : IsAt w number s
  pub n : NodeState
  pub later : IsAt after number (record { node = n; kept = s.kept })
  pub v : ℕ
  pub view : item_at n.views desk ≡ Some v
  pub follows : Follows s.node n
  pub bench : BenchState
  pub stands : item_at s.node.benches (place_of s.node job) ≡ Some bench
  pub left : BenchState
  pub does : Does (first_ops v n.published) bench job (Ok (Outcome.Reply reply)) left

had_at : {w : World} {number : ℕ} {s : KeptNode} {desk upto : ℕ} {job : AnyJob} {reply : jobs.Reply} {after : World}
    → IsAt w number s → JobAt w number s desk upto job (Answered reply) after → Had w number desk job reply after
had_at {w} {number} {s} {desk} at (JobAt.replied {n = n} (Jobs.replied {v = v} {left = left} look d)) =
    record {
      s = s;
      at = at;
      n = n;
      later = at_key w.nodes number (record { node = n; kept = s.kept });
      v = v;
      view = changed_at (λ _. v) s.node.views desk look.seen look.has_seen;
      follows = jobs_follow (Jobs.replied {left = left} look d);
      bench = d.bench;
      stands = d.stands;
      left = left;
      does = d.does;
    }

pub had : {w : World} {number desk upto : ℕ} {job : AnyJob} {reply : jobs.Reply} {after : World}
    → Step w (Job number desk upto job) (Answered reply) after → Had w number desk job reply after
had (Step.job at asked does) = had_at at does

-- ---- what was answered

pub yes_member : {V : Op → Type 0} {b left : BenchState} {root c : Cap}
    → Does V b (Member root c) (Ok (Outcome.Reply Yes)) left → Reach V (From root) c
yes_member (passed passes effect) = elim effect.0 [ inl y ↦ y.1 | inr n ↦ absurd (cc (n.0)) ]

pub not_yet_member : {V : Op → Type 0} {b left : BenchState} {root c : Cap}
    → Does V b (Member root c) (Ok (Outcome.Reply NotYet)) left → ¬ Reach V (From root) c
not_yet_member (passed passes effect) = elim effect.0 [ inl y ↦ absurd (cc (y.0)) | inr n ↦ n.1 ]

-- who asked
record Asked (V : Op → Type 0) (b : BenchState) (pid : Pid) (answer : Process → Type 0) : Type 0 where
  pub p : Process
  pub there : map.get b.processes pid ≡ Some p
  pub told : answer p

yes_ask : {V : Op → Type 0} {b left : BenchState} {pid : Pid} {c : Cap}
    → Does V b (By pid (Ask c)) (Ok (Outcome.Reply Yes)) left → Asked V b pid (λ p. effective V p c)
yes_ask (passed passes (p, there, effect)) =
    record { p = p; there = there; told = elim effect.0 [ inl y ↦ y.1 | inr n ↦ absurd (cc (n.0)) ] }

not_yet_ask : {V : Op → Type 0} {b left : BenchState} {pid : Pid} {c : Cap}
    → Does V b (By pid (Ask c)) (Ok (Outcome.Reply NotYet)) left → Asked V b pid (λ p. ¬ effective V p c)
not_yet_ask (passed passes (p, there, effect)) =
    record { p = p; there = there; told = elim effect.0 [ inl y ↦ absurd (cc (y.0)) | inr n ↦ n.1 ] }

pub answer_is : (r : Reply) → IsAnswer r → (r ≡ Answered Yes) ⊎ (r ≡ Answered NotYet)
answer_is (Answered Yes) h = inl refl
answer_is (Answered NotYet) h = inr refl
answer_is other h = absurd h

-- ---- the later view holds the earlier one

module _ {w after w2 last : World} {number desk other : ℕ} {job job' : AnyJob} {reply reply' : jobs.Reply}
    (first : Had w number desk job reply after) (second : Had w2 number other job' reply' last)
    (onward : FollowsIn after w2) where
  between : Follows first.n second.n
  between =
      let y = onward.each number (record { node = first.n; kept = first.s.kept }) first.later in
      follows_on (subst (λ (z : KeptNode). Follows first.n z.node) (same_found y.at second.at) y.follows) second.follows

  abbrev IsGrown : Type 0
  IsGrown = Within (first_ops first.v first.n.published) (first_ops second.v second.n.published)

  module _ (rest : List Op) (list : second.n.published ≡ first.n.published ++ rest) where
    same_view : desk ≡ other → SeenFrom first.n other second.v → IsGrown
    same_view same (inl all) = λ op h.
        all_on_view first.n second.n rest list second.v all op (first_there first.v first.n.published op h)
    same_view same (inr (v, at, up)) =
        let e : first.v ≡ v = same_found first.view (subst (λ d. item_at first.n.views d ≡ Some v) (sym same) at) in
        on_view first.n second.n rest list first.v second.v (omega (arith, e, up))

    as_many : {v v' : ℕ} → item_at first.n.views desk ≡ Some v → item_at second.n.views other ≡ Some v' → v ≤ v'
        → IsGrown
    as_many at at' up =
        let e = same_found first.view at in
        let f = same_found second.view at' in
        on_view first.n second.n rest list first.v second.v (omega (arith, e, f, up))

  grown : Follows first.n second.n → KnowsNoLess after number desk last other → IsGrown
  grown (Follows.later_boot up all views) knows = λ op h.
      views other second.v second.view op (first_there first.v first.n.published op h)
  grown (Follows.same_boot boot rest list views) (KnowsNoLess.same_desk same) =
      same_view rest list same (views other second.v second.view)
  grown (Follows.same_boot boot rest list views) (KnowsNoLess.sees_no_less {v = v} {v' = v'} x y up) =
      as_many rest list
      (subst (λ (z : KeptNode). item_at z.node.views desk ≡ Some v) (same_found x.at first.later) x.view)
      (subst (λ (z : KeptNode). item_at z.node.views other ≡ Some v') (same_found y.at second.later) y.view) up
  grown (Follows.same_boot boot rest list views) (KnowsNoLess.opened_since x y differs) =
      absurd (differs (sym x.boot_is ∙ (ap (λ (z : KeptNode). z.node.boot) (same_found x.at first.later) ∙ (sym boot
      ∙ (ap (λ (z : KeptNode). z.node.boot) (same_found second.later y.at) ∙ y.boot_is)))))

  pub more_seen : KnowsNoLess after number desk last other → IsGrown
  more_seen knows = grown between knows

-- the process of a node is the one at its bench
its_process : (w : World) (number : ℕ) (pid : Pid) (act : Act) {p q : Process} {s : KeptNode} {b : BenchState}
    → HasProcess w number pid p → IsAt w number s → item_at s.node.benches (place_of s.node (By pid act)) ≡ Some b
    → map.get b.processes pid ≡ Some q → p ≡ q
its_process w number pid act {s = s} has at stands there =
    same_found has.stands
    (ap (λ (z : KeptNode). process_of z.node pid) (same_found has.at at) ∙ (ap (λ o. process_at o pid) stands ∙ there))

-- ---- no yes is withdrawn

module _ (w after last : World) (ms : List Moment) (number desk upto other upto' : ℕ) (named : IsNamed w)
    (run : IsRun after ms) (knows : KnowsNoLess after number desk last other) where
  onward_from : (job : AnyJob) (reply : Reply) → Step w (Job number desk upto job) reply after
      → FollowsIn after (end after ms)
  onward_from job reply step =
      run_follows after ms (goes_named named (moves_goes w (Happens (Job number desk upto job)) reply after step)) run

  pub member_stays : (root c : Cap) → Step w (Job number desk upto (Member root c)) (Answered Yes) after
      → ¬ Step (end after ms) (Job number other upto' (Member root c)) (Answered NotYet) last
  member_stays root c says_yes says_no =
      let first = had says_yes in
      let second = had says_no in
      let more = more_seen first second (onward_from (Member root c) (Answered Yes) says_yes) knows in
      not_yet_member second.does (reach_more more (λ x h. h) c (yes_member first.does))

  pub ask_stays : (pid pid' : Pid) (p p' : Process) (c : Cap)
      → Step w (Job number desk upto (By pid (Ask c))) (Answered Yes) after
      → HasProcess w number pid p → HasProcess (end after ms) number pid' p' → Within (In (owns p)) (In (owns p'))
      → ¬ Step (end after ms) (Job number other upto' (By pid' (Ask c))) (Answered NotYet) last
  ask_stays pid pid' p p' c says_yes has has' owned says_no =
      let first = had says_yes in
      let second = had says_no in
      let was = yes_ask first.does in
      let is = not_yet_ask second.does in
      let one : p ≡ was.p = its_process w number pid (Ask c) has first.at first.stands was.there in
      let two : p' ≡ is.p = its_process (end after ms) number pid' (Ask c) has' second.at second.stands is.there in
      let more = more_seen first second (onward_from (By pid (Ask c)) (Answered Yes) says_yes) knows in
      is.told (eff_more more
      (subst (λ (q : Process). Within (In (owns was.p)) (In (owns q))) two
      (subst (λ (q : Process). Within (In (owns q)) (In (owns p'))) one owned)) c was.told)
