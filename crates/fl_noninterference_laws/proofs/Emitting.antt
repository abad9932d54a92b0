-- A process that was just let out something may be let out nothing.
use Rattle.std.proofs.Common.{◌≡◌, ◌≤◌, refl, sym, subst, ℕ, List, [], length, min, max, Some}
use Rattle.std.proofs.Common.{Result, Ok}
use Rattle.fl_labels.specs.declared.pid.Pid.{Pid}
use Rattle.fl_ops.specs.declared.op.Op.{Op}
use Rattle.fl_jobs.specs.declared.answer.Outcome.{Outcome as AnyOutcome}
use Rattle.fl_jobs.specs.declared.answer.Refusal.{Refusal}
use Rattle.fl_jobs.specs.declared.answer.Reply.{Reply as JobReply}
use Rattle.fl_jobs.specs.declared.answer.Reply.TheVariants.{Emitted}
use Rattle.fl_jobs.specs.declared.job.Act.TheVariants.{Emit}
use Rattle.fl_jobs.specs.declared.job.Job.TheVariants.{By}
use Rattle.fl_bench.specs.Bench.{BenchState}
use Rattle.fl_bench.specs.Jobs.{Does, passed}
use Rattle.fl_system.specs.Jobs.{Jobs, Decides, Looks, bench_of, place_of, worked}
use Rattle.fl_system.specs.Numbered.{item_at}
use Rattle.fl_system.specs.State.{NodeState}
use Rattle.fl_system.specs.World.{KeptNode}
use Rattle.fl_system.specs.declared.answer.Answer.TheVariants as answer
use Rattle.fl_system.specs.declared.reply.Reply.TheVariants.{Job as Answered}
use Rattle.fl_system_laws.specs.laws.Numbered.{length-with, changed_at}
use Rattle.fl_machine_model.specs.Acts.{Job, Outcome, Replies}
use Rattle.fl_machine_model.specs.Alone.{JobAlone, MachineStep}
use Rattle.fl_noninterference_laws.specs.Guarded.{MayEmit}
use Rattle.fl_noninterference_laws.proofs.Views.{all_seen, looks_all}

-- that nothing goes to the outside
abbrev nothing : Result AnyOutcome Refusal
nothing = Ok (AnyOutcome.Reply (Emitted []))

emits_again : {V : Op → Type 0} {b after : BenchState} {pid : Pid} {bytes : List ℕ}
    {x : AnyOutcome} → Does V b (By pid (Emit bytes)) (Ok x) after
    → Does V after (By pid (Emit [])) nothing after
emits_again {V} {b} {pid = pid} (passed h f) =
    subst (λ z. Does V z (By pid (Emit [])) nothing z) (sym f.2.1)
    (passed h (f.0, f.1, (refl, refl)))

jobs_again : {n : NodeState} {desk upto : ℕ} {pid : Pid} {bytes : List ℕ} {reply : JobReply}
    {x : NodeState} → length n.published ≤ upto
    → Jobs n desk upto (By pid (Emit bytes)) (Ok (answer.Reply reply)) x → MayEmit x pid
jobs_again {n} {desk = desk} {upto} {pid} {bytes} all (Jobs.replied {v = v} {left = left} look d) =
    let y : NodeState = worked n desk v (By pid (Emit bytes)) left in
    let w : ℕ = max v (min upto (length n.published)) in
    let again : Looks y desk upto w = record {
      running = look.running;
      seen = v;
      has_seen = changed_at (λ _. v) n.views desk look.seen look.has_seen;
      sees = refl;
    } in
    let decides : Decides y w (By pid (Emit [])) nothing left = record {
      bench = left;
      stands = subst (λ k. item_at y.benches (bench_of k pid.serial) ≡ Some left)
          (sym (length-with n.benches (place_of n (By pid (Emit bytes))) left))
          (changed_at (λ _. left) n.benches (place_of n (By pid (Emit bytes))) d.bench d.stands);
      does = all_seen (λ V. Does V left (By pid (Emit [])) nothing left) v w n.published
          (looks_all all look) (looks_all all again) (emits_again d.does);
    } in
    record {
      desk = desk;
      upto = upto;
      after = worked y desk w (By pid (Emit [])) left;
      emits = Jobs.replied again decides;
    }

pub emits_behind : {number : ℕ} (s : KeptNode) {desk upto : ℕ} {pid : Pid} {bytes : List ℕ}
    {o : Outcome} → length s.node.published ≤ upto
    → MachineStep number s (Job desk upto (By pid (Emit bytes))) o
    → o.says ≡ Replies (Answered (Emitted bytes)) → MayEmit o.after.node pid
emits_behind s all (MachineStep.no_desk none) says = absurd (cc)
emits_behind s all (MachineStep.no_such_job arrival) says = absurd arrival
emits_behind s all (MachineStep.job asked (JobAlone.refused does)) says = absurd (cc)
emits_behind s all (MachineStep.job asked (JobAlone.replied does)) says = jobs_again all does
emits_behind s all (MachineStep.job asked (JobAlone.begun does)) says = absurd (cc)
emits_behind s all (MachineStep.job asked (JobAlone.sends does)) says = absurd (cc)
emits_behind s all (MachineStep.job asked (JobAlone.no_room look which noted)) says = absurd (cc)
