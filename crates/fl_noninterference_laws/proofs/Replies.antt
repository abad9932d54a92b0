-- What a job is answered at benches and at nodes that are alike is the same.
use Rattle.std.proofs.Common.{◌≡◌, ◌≢◌, ◌≤◌, subst, ℕ, List, length}
use Rattle.std.proofs.Common.{Result, Ok, Err}
use Rattle.fl_labels.specs.declared.name.Name.{Name}
use Rattle.fl_ops.specs.declared.op.Op.{Op}
use Rattle.fl_jobs.specs.declared.answer.Outcome.{Outcome}
use Rattle.fl_jobs.specs.declared.answer.Outcome.TheVariants as outcome
use Rattle.fl_jobs.specs.declared.answer.Refusal.{Refusal}
use Rattle.fl_jobs.specs.declared.answer.Refusal.TheVariants.{Memory}
use Rattle.fl_jobs.specs.declared.answer.Reply.{Reply}
use Rattle.fl_jobs.specs.declared.job.Job.{Job}
use Rattle.fl_bench.specs.Bench.{BenchState}
use Rattle.fl_bench.specs.Jobs.{Does}
use Rattle.fl_bench.specs.laws.Puts.{same_found}
use Rattle.fl_bench_laws.specs.laws.OneResult.{one_result}
use Rattle.fl_system.specs.Jobs.{Jobs}
use Rattle.fl_system.specs.State.{NodeState, first_ops}
use Rattle.fl_system.specs.declared.answer.Answer.{Answer}
use Rattle.fl_system.specs.declared.answer.Answer.TheVariants as answer
use Rattle.fl_system.specs.declared.answer.Fault.{Fault}
use Rattle.fl_system.specs.declared.answer.Fault.TheVariants.{Refused}
use Rattle.fl_noninterference_laws.specs.Alike.{AreAlikeBenches, DoesToo, IsOpenAt, AreSame}
use Rattle.fl_noninterference_laws.specs.AlikeNodes.{AreAlike, IsOpen, JobsToo}
use Rattle.fl_noninterference_laws.proofs.BenchSteps.{does_too}
use Rattle.fl_noninterference_laws.proofs.Others.{as_other, jobs_too}
use Rattle.fl_noninterference_laws.proofs.Views.{all_seen, looks_all}

module _ (tag : Name) where
  pub one_at : (V : Op → Type 0) {b c after left : BenchState} {job : Job}
      {r s : Result Outcome Refusal} → AreAlikeBenches tag b c → IsOpenAt tag b job
      → Does V b job r after → Does V c job s left → r ≢ Err Memory → s ≢ Err Memory
      → AreSame tag r s after left
  one_at V {c = c} {after} {left} {job} {r} {s} a shown h k p q =
      let too : DoesToo tag V c job r after = does_too tag V a shown h in
      let one = one_result V c job r s too.left left too.does k p q in
      record { result = one.0; benches = subst (AreAlikeBenches tag after) one.1 too.alike }

  -- two replies of one node to one job, by whoever sees all
  one_reply : {m : NodeState} {desk desk' upto upto' : ℕ} {job : Job} {x y : NodeState}
      {reply said : Reply} → length m.published ≤ upto → length m.published ≤ upto'
      → Jobs m desk upto job (Ok (answer.Reply reply)) x
      → Jobs m desk' upto' job (Ok (answer.Reply said)) y → reply ≡ said
  one_reply {m} {job = job} {reply = reply} {said} all all' (Jobs.replied {v = v} {left = l} look d)
      (Jobs.replied {v = w} {left = l'} look' d') =
      let same : d.bench ≡ d'.bench = same_found d.stands d'.stands in
      let h = all_seen (λ V. Does V d.bench job (Ok (outcome.Reply reply)) l) v w m.published
      (looks_all all look) (looks_all all' look') d.does in
      let one = one_result (first_ops w m.published) d'.bench job (Ok (outcome.Reply reply))
      (Ok (outcome.Reply said)) l l'
      (subst (λ b. Does (first_ops w m.published) b job (Ok (outcome.Reply reply)) l) same h)
      d'.does (λ e. cc) (λ e. cc) in
      let e = one.0 in cc

  pub jobs_at : {n m : NodeState} (a : AreAlike tag n m) (desk upto : ℕ) (job : Job)
      → IsOpen tag n job → length n.published ≤ upto → {r : Result Answer Fault}
      {after : NodeState} → r ≢ Err (Refused Memory) → Jobs n desk upto job r after
      → JobsToo tag m desk upto job r after
  jobs_at {n} {m} a desk upto job shown all {r} {after} ample does =
      subst (λ z. JobsToo tag z desk upto job r after) (as_other a)
      (jobs_too tag n m.views m.benches a.desks a.benches desk upto job shown all ample does)

  pub replies_same : {n m : NodeState} {desk desk' upto upto' : ℕ} {job : Job} {x y : NodeState}
      {reply said : Reply} → AreAlike tag n m → IsOpen tag n job → length n.published ≤ upto
      → length m.published ≤ upto' → Jobs n desk upto job (Ok (answer.Reply reply)) x
      → Jobs m desk' upto' job (Ok (answer.Reply said)) y → reply ≡ said
  replies_same {n} {m} {desk} {upto = upto} {job = job} a shown all all' does also =
      let too = jobs_at a desk upto job shown all (λ e. cc) does in
      one_reply (subst (λ (l : List Op). length l ≤ upto) a.published all) all' too.does also
