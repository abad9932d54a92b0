-- The turns of the entries of an only worker, with no packet between them, are what the node does
-- with their jobs one after another.
use Rattle.std.proofs.Common.{◌≡◌, ◌==◌, ℕ, ◌≤◌, cond, List, [], ◌∷◌, map, length, Option, Some}
use Rattle.std.proofs.Common.{None}
use Rattle.std.proofs.Common.{Result, refl, sym, ap, ◌∙◌, subst, arith}
use Rattle.fl_labels.specs.declared.name.Name.{Name}
use Rattle.fl_message.specs.declared.message.Data.{Data}
use Rattle.fl_ops.specs.declared.op.Op.{Op}
use Rattle.fl_jobs.specs.declared.job.Job.{Job}
use Rattle.fl_jobs.specs.declared.job.Job.TheVariants.{Proc, By, Member, Arrive}
use Rattle.fl_jobs.specs.declared.answer.Reply.{Reply}
use Rattle.fl_jobs.specs.declared.answer.Refusal.TheVariants.{Memory}
use Rattle.fl_store.specs.Kept.{Kept, with_batch}
use Rattle.fl_system.specs.declared.answer.Answer.{Answer}
use Rattle.fl_system.specs.declared.answer.Fault.{Fault}
use Rattle.fl_system.specs.declared.answer.Fault.TheVariants as faults
use Rattle.fl_system.specs.State.{NodeState, kept_of}
use Rattle.fl_system.specs.Arrives.{Arrives}
use Rattle.fl_system.specs.Jobs.{Jobs}
use Rattle.fl_system.specs.Publishes.{Publishes}
use Rattle.fl_system.specs.WorldSteps.{IsArrival}
use Rattle.fl_crew_model.specs.declared.record.Told.{Told}
use Rattle.fl_crew_model.specs.declared.record.Ruling.{Ruling}
use Rattle.fl_crew_model.specs.declared.record.Entry.{Entry}
use Rattle.fl_crew_model.specs.declared.record.Decision.{Decision}
use Rattle.fl_crew_model.specs.declared.record.Deed.{Deed}
use Rattle.fl_crew_model.specs.declared.record.Deed.TheVariants.{Decided, Delivered}
use Rattle.fl_crew_model.specs.Compared.{Matches, AgreesUpTo, decisions_of}
use Rattle.fl_crew_model.specs.Woven.{placed, said, told_of, Goes, SavesAll, Turn, Entered, Packet}
use Rattle.fl_crew_model.specs.Woven.{Stands, Woven, entries_of}
use Rattle.fl_one_worker_laws.specs.Completing.{JobCompletes, Completes}
use Rattle.fl_one_worker_laws.specs.Completing.{AllComplete}
use Rattle.fl_one_worker_laws.proofs.Single.{IsSingle, Follows, then_follows, jobs_on, jobs_list}
use Rattle.fl_one_worker_laws.proofs.Single.{stays, saves_on, publishes_on, arrives_on}
use Rattle.fl_one_worker_laws.proofs.Single.{arrives_list}
use Rattle.fl_one_worker_laws.proofs.Single.{jobs_far, same_place, only_one}

-- the registrar is not asked of a message that comes, and who is told a name asked it
pub record IsPlain (e : Entry) : Type 0 where
  pub message : (d : Data) → e.job.value ≡ Arrive d → e.ruling ≡ None
  pub named : (name : Name) → e.told ≡ Told.Published name → ¬ (e.ruling ≡ None)

abbrev pub ArePlain : List Entry → Type 0
ArePlain [] = Unit {0}
ArePlain (e ∷ es) = IsPlain e × ArePlain es

abbrev pub job_in : Entry → Job
job_in e = e.job.value

abbrev pub told_in : Entry → Told
told_in e = e.told

-- no deed is a packet's
abbrev pub NoPacket : List Deed → Type 0
NoPacket [] = Unit {0}
NoPacket (Decided d ∷ ds) = NoPacket ds
NoPacket (Delivered p ∷ ds) = ⊥

-- ---- one turn

-- the job of the entry is done so at the node, with what is kept beside it
record Done (upto : ℕ) (n : NodeState) (k : Kept) (job : Job) (told : Told) (n' : NodeState)
    : Type 0 where
  pub kept : Kept
  pub completes : Completes upto n k job told n' kept
  pub same : k ≡ kept_of n → kept ≡ kept_of n'
  pub on : Follows n n'

-- a job that is no arrival
as_job : (upto : ℕ) (n : NodeState) (k : Kept) (job : Job) (told : Told) (n' : NodeState)
    (k' : Kept) → ¬ IsArrival job → JobCompletes upto n k job told n' k'
    → Completes upto n k job told n' k'
as_job upto n k Proc told n' k' other h = h
as_job upto n k (By pid act) told n' k' other h = h
as_job upto n k (Member root c) told n' k' other h = h
as_job upto n k (Arrive d) told n' k' other h = absurd (other tt)

-- where the registrar was asked the job is no arrival
asked_by : (e : Entry) (ruling : Ruling) → IsPlain e → e.ruling ≡ Some ruling
    → ¬ IsArrival e.job.value
asked_by e ruling plain asked = by e.job.value refl
  where
    by : (job : Job) → e.job.value ≡ job → ¬ IsArrival job
    by Proc is h = h
    by (By pid act) is h = h
    by (Member root c) is h = h
    by (Arrive d) is h = let q = sym asked ∙ plain.message d is in cc

alone_done : (upto : ℕ) (n : NodeState) (k : Kept) (job : Job) (n' : NodeState) (told : Told)
    → Jobs n 1 upto job (said told) n' → ((name : Name) → ¬ (told ≡ Told.Published name))
    → JobCompletes upto n k job told n' k
alone_done upto n k job n' (Told.Reply reply) h none = JobCompletes.replied h
alone_done upto n k job n' (Told.Out message) h none = JobCompletes.sent h
alone_done upto n k job n' (Told.Published name) h none = absurd (none name refl)
alone_done upto n k job n' (Told.Refused fault) h none = JobCompletes.refused h

-- the job itself, at a node whose first desk saw all that is published
plain : {r : Result Answer Fault} (upto : ℕ) (n : NodeState) (w : ℕ) (e : Entry) (n' : NodeState)
    → IsSingle n → w ≡ 1 → length n.published ≤ e.seen → length n.published ≤ upto
    → Jobs (placed n w) w e.seen e.job.value r n' → Jobs n 1 upto e.job.value r n'
plain {r} upto n w e n' one is all high h =
    jobs_far all high
    (subst (λ (m : NodeState). Jobs m 1 e.seen e.job.value r n') (same_place n w is one)
    (subst (λ (x : ℕ). Jobs (placed n w) x e.seen e.job.value r n') is h))

module _ (upto : ℕ) (n : NodeState) (w : ℕ) (e : Entry) (k : Kept) (one : IsSingle n) (is : w ≡ 1)
    (all : length n.published ≤ e.seen) (high : length n.published ≤ upto) (asks : IsPlain e) where
  -- a job that is done without the registrar, or given up
  at_once : {r : Result Answer Fault} (n' : NodeState) (told : Told) → ¬ IsArrival e.job.value
      → Jobs n 1 upto e.job.value r n'
      → JobCompletes upto n k e.job.value told n' k → Done upto n k e.job.value told n'
  at_once n' told other h completes = record {
    kept = k;
    completes = as_job upto n k e.job.value told n' k other completes;
    same = λ same. same ∙ sym (jobs_list h).1;
    on = jobs_on one h;
  }

  -- or an order that is saved
  in_steps : {r : Result Answer Fault} {p : Result ℕ Fault} (begun saved n' : NodeState)
      (ops : List Op) (told : Told) → ¬ IsArrival e.job.value
      → Jobs n 1 upto e.job.value r begun → SavesAll begun ops saved → Publishes saved p n'
      → JobCompletes upto n k e.job.value told n' (with_batch k ops)
      → Done upto n k e.job.value told n'
  in_steps begun saved n' ops told other h saves publishes completes =
      let first = jobs_on one h in
      let second = saves_on first.single (saves k) in
      let last = publishes_on second.on.single publishes in
      record {
        kept = with_batch k ops;
        completes = as_job upto n k e.job.value told n' (with_batch k ops) other completes;
        same = λ same. second.kept (same ∙ sym (jobs_list h).1) ∙ sym last.1;
        on = then_follows (then_follows first second.on) last.0;
      }

  -- or a message that comes
  message_done : (n' : NodeState) (d : Data) (result : Result Reply Fault) → e.job.value ≡ Arrive d
      → e.told ≡ told_of result → Arrives n d result n' → Done upto n k e.job.value e.told n'
  message_done n' d result job told h =
      subst (λ (j : Job). Done upto n k j e.told n') (sym job)
      (record {
        kept = k;
        completes = record { result = result; is_told = told; arrives = h; kept = refl };
        same = λ same. same ∙ sym (arrives_on one h).1;
        on = (arrives_on one h).0;
      })

  turn_done : (n' : NodeState) → Goes n w e n' → Done upto n k e.job.value e.told n'
  turn_done n' (Goes.alone none other job) =
      let h = plain upto n w e n' one is all high job in
      at_once n' e.told other h
      (alone_done upto n k e.job.value n' e.told h (λ name named. asks.named name named none))
  turn_done n' (Goes.arrived d result none job told h) = message_done n' d result job told h
  turn_done n' (Goes.made op begun saved ruled told job saves publishes) =
      let h = plain upto n w e begun one is all high job in
      subst (λ (t : Told). Done upto n k e.job.value t n') (sym told)
      (in_steps begun saved n' (op ∷ []) (Told.Published op.name) (asked_by e _ asks ruled) h saves
      publishes (JobCompletes.published h (saves k) publishes))
  turn_done n' (Goes.late op maker begun ruled told job saves publishes) =
      let h = plain upto n w e begun one is all high job in
      subst (λ (t : Told). Done upto n k e.job.value t n') (sym told)
      (in_steps begun n' n' (op ∷ []) (Told.Refused (faults.Refused Memory))
      (asked_by e _ asks ruled) h saves publishes (JobCompletes.due h (saves k) publishes))
  turn_done n' (Goes.given_up reason ruled told job) =
      let h = plain upto n w e n' one is all high job in
      subst (λ (t : Told). Done upto n k e.job.value t n') (sym told)
      (at_once n' _ (asked_by e _ asks ruled) h (JobCompletes.refused h))

-- how far a turn goes whatever the desk saw
goes_on : (n : NodeState) (w : ℕ) (e : Entry) (n' : NodeState) → IsSingle n → w ≡ 1
    → Goes n w e n' → Follows n n'
goes_on n w e n' one is goes = by goes
  where
    here : {r : Result Answer Fault} {m : NodeState}
        → Jobs (placed n w) w e.seen e.job.value r m → Follows n m
    here {r} {m} job =
        jobs_on one (subst (λ (x : NodeState). Jobs x w e.seen e.job.value r m)
        (same_place n w is one) job)

    by : Goes n w e n' → Follows n n'
    by (Goes.alone none other job) = here job
    by (Goes.arrived d result none job told h) = (arrives_on one h).0
    by (Goes.made op begun saved ruled told job saves publishes) =
        let first = here job in
        let second = saves_on first.single (saves (kept_of begun)) in
        then_follows (then_follows first second.on) (publishes_on second.on.single publishes).0
    by (Goes.late op maker begun ruled told job saves publishes) =
        let first = here job in
        then_follows first (saves_on first.single (saves (kept_of begun))).on
    by (Goes.given_up reason ruled told job) = here job

-- where the registrar was not asked nothing is published
goes_list : (n : NodeState) (w : ℕ) (e : Entry) (n' : NodeState) → Goes n w e n'
    → e.ruling ≡ None → length n'.published ≡ length n.published
goes_list n w e n' (Goes.alone none other job) unasked = (jobs_list job).0
goes_list n w e n' (Goes.arrived d result none job told h) unasked = arrives_list h
goes_list n w e n' (Goes.made op begun saved ruled told job saves publishes) unasked =
    absurd (let q = sym ruled ∙ unasked in cc)
goes_list n w e n' (Goes.late op maker begun ruled told job saves publishes) unasked =
    absurd (let q = sym ruled ∙ unasked in cc)
goes_list n w e n' (Goes.given_up reason ruled told job) unasked =
    absurd (let q = sym ruled ∙ unasked in cc)

-- ---- all turns

-- the record behind the turn has the decisions that are left of the worker's, and from there on it
-- has to see all that is published
record Left (n' : NodeState) (next : ℕ) (left : List Decision) (rest : List Deed) : Type 0 where
  pub decisions : left ≡ decisions_of 1 rest
  pub all : length n'.published ≤ next
  pub none : NoPacket rest

left_by : (n : NodeState) (rs : List Deed) (w : ℕ) (e : Entry) (n' : NodeState) (rest : List Deed)
    (next : ℕ) (left : List Decision) → w ≡ 1 → NoPacket rs → (ruling : Option Ruling)
    → (ruling ≡ None → length n'.published ≤ e.seen) → Stands n rs w e ruling n' rest
    → Matches (decisions_of 1 rs) e ruling next left → Left n' next left rest
left_by n rs w e n' rest next left is none None low stands matches = record {
  decisions = matches.all ∙ ap (decisions_of 1) (sym stands);
  all = (let k = low refl in let from = matches.from in omega arith);
  none = subst NoPacket (sym stands) none;
}
left_by n rs w e n' rest next left is none (Some ruling) low here matches =
    let first : decisions_of 1 rs ≡ here.decision ∷ decisions_of 1 rest =
    ap (decisions_of 1) here.first
    ∙ ap (λ x. cond (x == 1) (here.decision ∷ decisions_of 1 rest) (decisions_of 1 rest))
    (here.worker ∙ is) in
    let both : matches.decision ∷ left ≡ here.decision ∷ decisions_of 1 rest =
    sym matches.first ∙ first in
    let same : matches.decision ≡ here.decision = cc in
    let from : next ≡ length n'.published =
    matches.from ∙ (ap (λ (d : Decision). d.after) same ∙ here.after) in
    record {
      decisions = cc;
      all = omega arith;
      none = subst NoPacket here.first none;
    }

-- the node does their jobs one after another
pub record AllDone (upto : ℕ) (n : NodeState) (k : Kept) (es : List Entry) (n' : NodeState)
    : Type 0 where
  pub kept : Kept
  pub complete : AllComplete upto n k (map job_in es) (map told_in es) n' kept
  pub same : k ≡ kept_of n → kept ≡ kept_of n'
  pub on : Follows n n'

first_entry : (w : ℕ) (e : Entry) (ts : List Turn) → w ≡ 1
    → entries_of 1 (Entered w e ∷ ts) ≡ e ∷ entries_of 1 ts
first_entry w e ts is =
    ap (λ x. cond (x == 1) (e ∷ entries_of 1 ts) (entries_of 1 ts)) is

ends_later : (n : NodeState) (rs : List Deed) (ts : List Turn) (end : NodeState) → IsSingle n
    → Woven n rs ts end → NoPacket rs → Follows n end
ends_later n rs [] end one woven none =
    subst (λ (x : NodeState). Follows n x) (sym woven.0) (stays one)
ends_later n rs (Entered w e ∷ ts) end one (mid, rest, turn, woven) none =
    let is = only_one n.views w turn.v one.desks turn.has_seen in
    let on = goes_on n w e mid one is turn.goes in
    then_follows on (ends_later mid rest ts end on.single woven (behind e.ruling turn.stands))
  where
    behind : (ruling : Option Ruling) → Stands n rs w e ruling mid rest → NoPacket rest
    behind None stands = subst NoPacket (sym stands) none
    behind (Some ruling) here = subst NoPacket here.first none
ends_later n rs (Packet p ∷ ts) end one (mid, rest, turn, woven) none =
    absurd (subst NoPacket turn.first none)

pub run_done : (upto : ℕ) (n : NodeState) (rs : List Deed) (ts : List Turn) (end : NodeState)
    (k : Kept) (need : ℕ) (last : ℕ) (left : List Decision) → IsSingle n → Woven n rs ts end
    → NoPacket rs → ArePlain (entries_of 1 ts)
    → AgreesUpTo need (decisions_of 1 rs) (entries_of 1 ts) last left
    → length n.published ≤ need → length end.published ≤ upto
    → AllDone upto n k (entries_of 1 ts) end
run_done upto n rs [] end k need last left one woven none plain agrees all high =
    subst (λ (x : NodeState). AllDone upto n k [] x) (sym woven.0)
    (record {
      kept = k;
      complete = (refl, refl);
      same = λ same. same;
      on = stays one;
    })
run_done upto n rs (Entered w e ∷ ts) end k need last left one (mid, rest, turn, woven) none plain
    agrees all high =
    let is = only_one n.views w turn.v one.desks turn.has_seen in
    let first = first_entry w e ts is in
    let both : IsPlain e × ArePlain (entries_of 1 ts) = subst ArePlain first plain in
    let here : AgreesUpTo need (decisions_of 1 rs) (e ∷ entries_of 1 ts) last left =
    subst (λ (es : List Entry). AgreesUpTo need (decisions_of 1 rs) es last left) first
    agrees in
    let low : need ≤ e.seen = here.2 in
    let on = goes_on n w e mid one is turn.goes in
    let it =
    left_by n rs w e mid rest here.0 here.1 is none e.ruling
    (λ unasked. let same = goes_list n w e mid turn.goes unasked in omega arith)
    turn.stands here.3 in
    let on_end = ends_later mid rest ts end on.single woven it.none in
    let done =
    turn_done upto n w e k one is (omega arith)
    (let a = on.longer in let b = on_end.longer in omega arith) both.0 mid turn.goes in
    let tail =
    run_done upto mid rest ts end done.kept here.0 last left on.single woven it.none both.1
    (subst (λ (ds : List Decision). AgreesUpTo here.0 ds (entries_of 1 ts) last left)
    it.decisions here.4)
    it.all high in
    subst (λ (es : List Entry). AllDone upto n k es end) (sym first)
    (record {
      kept = tail.kept;
      complete = (mid, done.kept, done.completes, tail.complete);
      same = λ same. tail.same (done.same same);
      on = then_follows on tail.on;
    })
run_done upto n rs (Packet p ∷ ts) end k need last left one (mid, rest, turn, woven) none plain
    agrees all high = absurd (subst NoPacket turn.first none)
