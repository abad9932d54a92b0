-- What the acts of a process owe.
use Rattle.std.proofs.Common.{◌≡◌, inl, inr, Bool, true, false, cond, refl, sym, ap, ◌∙◌, subst, Option, Result, Ok, Err, None, Some}
use Rattle.std.specs.Result.{IsErr, IsErrAnd}
use Rattle.std.specs.Prelude.{List, ℕ, IfOk}
use Rattle.std.specs.declared.alloc.AllocError.{AllocError}
use Rattle.std.specs.FinMap as map
use Rattle.fl_labels.specs.Name.{name_cmp}
use Rattle.fl_labels.specs.Cap.{cap_cmp}
use Rattle.fl_labels.specs.Caps.{Caps}
use Rattle.fl_labels.specs.PidOrder.{pid_total, pid_exact}
use Rattle.fl_labels.specs.SetBy.{SetBy, In}
use Rattle.fl_labels.specs.Found.{Tells}
use Rattle.fl_labels.specs.declared.name.Name.{Name}
use Rattle.fl_labels.specs.declared.cap.Cap.{Cap}
use Rattle.fl_labels.specs.declared.pid.Pid.{Pid}
use Rattle.fl_ops.specs.declared.op.Body.{Body}
use Rattle.fl_ops.specs.Registry.{Registry, InEffect}
use Rattle.fl_jobs.specs.declared.job.Act.{Act}
use Rattle.fl_jobs.specs.declared.job.Act.TheVariants.{Order, Relabel, Ask, Spawn, Exit, Drop, Enter, Emit, Mail}
use Rattle.fl_jobs.specs.declared.job.Job.TheVariants.{By}
use Rattle.fl_jobs.specs.declared.job.Mail as mailbox
use Rattle.fl_jobs.specs.declared.secret.Secret.{Secret}
use Rattle.fl_jobs.specs.declared.job.Order as orders
use Rattle.fl_jobs.specs.declared.job.Side.{Side}
use Rattle.fl_jobs.specs.declared.job.TooLong.{TooLong}
use Rattle.fl_jobs.specs.declared.answer.Refusal.{Refusal}
use Rattle.fl_jobs.specs.declared.answer.Refusal.TheVariants.{NoProcess, LabelTooLong, NamesSpent, Memory, Busy}
use Rattle.fl_jobs.specs.declared.answer.Reply.{Reply}
use Rattle.fl_jobs.specs.declared.answer.Reply.TheVariants.{Done, Yes, NotYet, Emitted}
use Rattle.fl_jobs.specs.declared.answer.Outcome.{Outcome}
use Rattle.fl_rules.specs.declared.labels.Labels.{Labels}
use Rattle.fl_mailbox.specs.declared.mailbox.Mailbox.{Mailbox}
use Rattle.fl_bench.specs.Process.{is_under_way, ordering, child_of, with_side, body_of}
use Rattle.fl_bench.specs.Checks.{with, ◌then◌}
use Rattle.fl_bench.specs.Guards.{grant_check}
use Rattle.fl_bench.specs.Bench.{BenchState, has_at, gone}
use Rattle.fl_bench.specs.Jobs.{Answers, order_checks, emission_check, checks_of, act_checks, bench_checks, checks, Performs, NeedsRoom, serials_left, Does}
use Rattle.fl_bench.specs.declared.process.Holding.{Holding}
use Rattle.fl_bench.specs.declared.process.Holding.TheVariants.{Idle, Ordering}
use Rattle.fl_bench.specs.declared.process.Process.{Process}
use Rattle.fl_mailbox.specs.laws.Tables.{put_same}
use Rattle.fl_monitor.specs.parts.Acts.{Acts, Births, Sequel, bearing, Spawns, born_with, Relabels, Drops, Enters, Mails, answered}
use Rattle.fl_monitor.specs.parts.Checked.{Checked}
use Rattle.fl_monitor.proofs.CheckLemmas.{has_failed, has_passed, passed_on}

-- ---- questions

-- the reply to what was found
pub answers_of : {P : Type 0} (yes : Bool) (reply : Reply) → reply ≡ cond yes Yes NotYet → Tells yes P → Answers (Outcome.Reply reply) P
answers_of true reply e t = inl (ap Outcome.Reply e, t.holds refl)
answers_of false reply e t = inr (ap Outcome.Reply e, t.fails refl)

-- ---- births

module _ (E : Caps) (l : Labels) (caps : SetBy cap_cmp) {r : Result (Unit {0}) Refusal} (checked : Checked (grant_check E caps) r) where
  pub spawns_not : (f : Refusal) → r ≡ Err f → (q : Result (Result Process AllocError) Refusal) → IsErr q × IsErrAnd q (λ g. g ≡ f) → Spawns E l caps (bearing q)
  spawns_not f e q s = subst (λ q. Spawns E l caps (bearing q)) (sym (passed_on q f s)) (Spawns.failed (has_failed checked f e))

  pub spawns_one : (u : Unit {0}) → r ≡ Ok u → (child : Result Process AllocError) → IfOk child (λ p. p ≡ born_with l caps) → Spawns E l caps (Ok (Sequel.birth child))
  spawns_one u e (Ok p) is = subst (λ p. Spawns E l caps (Ok (Sequel.birth (Ok p)))) (sym is) (Spawns.passed (has_passed checked u e))
  spawns_one u e (Err none) is = Spawns.no_room (has_passed checked u e)

-- ---- acts

busy : (h : Holding) → ((owned : SetBy cap_cmp) → h ≡ Idle owned → ⊥) → is_under_way h ≡ true
busy (Idle owned) n = absurd (n owned refl)
busy (Ordering owned) n = refl

-- ---- acts as jobs

-- to put back who is there changes nothing
pub stays : (b : BenchState) (pid : Pid) (p : Process) → map.get b.processes pid ≡ Some p → has_at b pid p ≡ b
stays b pid p e = ap (λ m. record b { processes = m }) (put_same pid_total pid_exact b.processes pid p e)

module _ (V : Registry) (pid : Pid) (p : Process) (act : Act) where
  -- what passes, or fails, for the process that asks
  asks : (b : BenchState) → map.get b.processes pid ≡ Some p → (v : Option Refusal) → (act_checks V p act then bench_checks b act) v → checks V b (By pid act) v
  asks b e v h = subst (λ o. with o (NoProcess pid) (λ p. act_checks V p act then bench_checks b act) v) (sym e) h

  is_refused : {f : Refusal} → act_checks V p act (Some f) → Acts V pid p act (Err f) p
  is_refused {f} h = Acts.failed (λ b e. Does.failed (asks b e (Some f) (inl h)))

  starves : act_checks V p act None → ((b : BenchState) → bench_checks b act None) → NeedsRoom V p act → Acts V pid p act (Err Memory) p
  starves passes none h = Acts.failed (λ b e. Does.no_room (asks b e None (passes, none b), (p, e, h)))

  -- nothing follows but the answer
  is_answered : (o : Outcome) (p' : Process) → act_checks V p act None → ((b : BenchState) → bench_checks b act None)
      → ((b : BenchState) → map.get b.processes pid ≡ Some p → Performs V b pid p act o (has_at b pid p')) → Acts V pid p act (Ok (Sequel.answer o)) p'
  is_answered o p' passes none does = Acts.passed (λ b e r b' s.
      subst (λ r. Does V b (By pid act) r b') (sym s.0)
      (subst (λ x. Does V b (By pid act) (Ok o) x) (sym s.1) (Does.passed (asks b e None (passes, none b)) (p, e, does b e))))

-- what the process owns then, by another name
pub over : (V : Registry) (pid : Pid) (p : Process) (act : Act) {q : Result Sequel Refusal} (made : SetBy cap_cmp → Process)
    {s t : SetBy cap_cmp} → s ≡ t → Acts V pid p act q (made s) → Acts V pid p act q (made t)
over V pid p act {q} made e h = subst (λ u. Acts V pid p act q (made u)) e h

-- what the process holds, by another name: before the act, and behind it
module _ (V : Registry) (pid : Pid) (p : Process) (act : Act) {q : Result Sequel Refusal} {h : Holding} (e : p.owned ≡ h) where
  pub held_before : {p' : Process} → Acts V pid (record p { owned = h }) act q p' → Acts V pid p act q p'
  held_before {p'} x = subst (λ h. Acts V pid (record p { owned = h }) act q p') (sym e) x

  pub held_behind : Acts V pid p act q (record p { owned = h }) → Acts V pid p act q p
  held_behind x = subst (λ h. Acts V pid p act q (record p { owned = h })) (sym e) x

-- of a process of which an operation is under way
pub act_busy : (V : Registry) (pid : Pid) (p : Process) (act : Act) → ((owned : SetBy cap_cmp) → p.owned ≡ Idle owned → ⊥) → Acts V pid p act (Err Busy) p
act_busy V pid p act n = is_refused V pid p act (inl (ap (λ b. cond b (Some Busy) None) (sym (busy p.owned n))))

module _ (V : Registry) (pid : Pid) (l : Labels) (owned : SetBy cap_cmp) (ch : Mailbox) where
  -- of a process that is idle
  abbrev idle : Process
  idle = record { labels = l; owned = Idle owned; mailbox = ch }

  -- its checks fail
  unmet : (act : Act) (f : Refusal) → checks_of V idle act (Some f) → Acts V pid idle act (Err f) idle
  unmet act f h = is_refused V pid idle act (inr (refl, h))

  order_done : (order : orders.Order) (u : Unit {0}) {r : Result (Unit {0}) Refusal} → r ≡ Ok u → Checked (order_checks (InEffect V (In owned)) order) r → Acts V pid idle (Order order) (Ok (Sequel.answer (Outcome.Order (body_of order) pid))) (ordering idle)
  order_done order u e h = is_answered V pid idle (Order order) (Outcome.Order (body_of order) pid) (ordering idle) (refl, has_passed h u e) (λ b. refl) (λ b there. (refl, refl))

  emitted : (bytes : List ℕ) (u : Unit {0}) {r : Result (Unit {0}) Refusal} → r ≡ Ok u → Checked (emission_check (InEffect V (In owned)) l.secrecy) r → Acts V pid idle (Emit bytes) (Ok (Sequel.answer (Outcome.Reply (Emitted bytes)))) idle
  emitted bytes u e h = is_answered V pid idle (Emit bytes) (Outcome.Reply (Emitted bytes)) idle (refl, has_passed h u e) (λ b. refl) (λ b there. (refl, stays b pid idle there))

  relabelled : (side : Side) (given : Result (SetBy name_cmp) TooLong) {r : Result Outcome Refusal} {l' : Labels} → Relabels V owned ch.endpoints l side given r l' → Acts V pid idle (Relabel side given) (answered r) (record idle { labels = l' })
  relabelled side given (Relabels.safe {label} e h) =
      subst (λ g. Acts V pid idle (Relabel side g) (Ok (Sequel.answer (Outcome.Reply Done))) (record idle { labels = with_side side label l })) (sym e)
      (is_answered V pid idle (Relabel side (Ok label)) (Outcome.Reply Done) (record idle { labels = with_side side label l }) (refl, h) (λ b. refl) (λ b there. (refl, refl)))
  relabelled side given (Relabels.unsafe {label} {f} e h) = subst (λ g. Acts V pid idle (Relabel side g) (Err f) idle) (sym e) (is_refused V pid idle (Relabel side (Ok label)) (inr (refl, h)))
  relabelled side given (Relabels.too_long {e = long} e) = subst (λ g. Acts V pid idle (Relabel side g) (Err LabelTooLong) idle) (sym e) (is_refused V pid idle (Relabel side (Err long)) (inr (refl, refl)))

  asked : (c : Cap) (outcome : Outcome) → Answers outcome (InEffect V (In owned) c) → Acts V pid idle (Ask c) (Ok (Sequel.answer outcome)) idle
  asked c outcome h = is_answered V pid idle (Ask c) outcome idle (refl, refl) (λ b. refl) (λ b there. (h, stays b pid idle there))

  -- a child is born, or may not be
  module _ (caps : SetBy cap_cmp) (granted : grant_check (InEffect V (In owned)) caps None) (b : BenchState) (there : map.get b.processes pid ≡ Some idle) where
    is_spent : serials_left b (Some NamesSpent) → Does V b (By pid (Spawn caps)) (Err NamesSpent) b
    is_spent spent = Does.failed (asks V pid idle (Spawn caps) b there (Some NamesSpent) (inr ((refl, granted), spent)))

    is_full : serials_left b None → Does V b (By pid (Spawn caps)) (Err Memory) b
    is_full left = Does.no_room (asks V pid idle (Spawn caps) b there None ((refl, granted), left), (idle, there, tt))

    bears_one : {r : Result Outcome Refusal} {b' : BenchState} → Births b (Ok (child_of idle caps)) r b' → Does V b (By pid (Spawn caps)) r b'
    bears_one (Births.made {pid = child} left next) = Does.passed (asks V pid idle (Spawn caps) b there None ((refl, granted), left)) (idle, there, (child, next, refl, refl))
    bears_one (Births.spent spent) = is_spent spent
    bears_one (Births.full left) = is_full left

    bears_none : {e : AllocError} {r : Result Outcome Refusal} {b' : BenchState} → Births b (Err e) r b' → Does V b (By pid (Spawn caps)) r b'
    bears_none (Births.spent spent) = is_spent spent
    bears_none (Births.full left) = is_full left

  spawned : (caps : SetBy cap_cmp) {r : Result Sequel Refusal} → Spawns (InEffect V (In owned)) l caps r → Acts V pid idle (Spawn caps) r idle
  spawned caps (Spawns.passed h) = Acts.passed (λ b there r b' births. bears_one caps h b there (subst (λ x. Births x (Ok (child_of idle caps)) r b') (stays b pid idle there) births))
  spawned caps (Spawns.failed h) = unmet (Spawn caps) _ h
  spawned caps (Spawns.no_room {e} h) = Acts.passed (λ b there r b' births. bears_none caps h b there (subst (λ x. Births x (Err e) r b') (stays b pid idle there) births))

  leaves : Acts V pid idle Exit (Ok Sequel.ending) idle
  leaves = Acts.passed (λ b there r b' s.
      subst (λ r. Does V b (By pid Exit) r b') (sym s.0)
      (Does.passed (asks V pid idle Exit b there None ((refl, refl), refl)) (idle, there, (refl, s.1 ∙ ap (λ (x : BenchState). gone x pid) (stays b pid idle there)))))

  dropped : (c : Cap) {r : Result Outcome Refusal} {s : SetBy cap_cmp} → Drops V l ch.endpoints owned c r s → Acts V pid idle (Drop c) (answered r) (record idle { owned = Idle s })
  dropped c {s = s} (Drops.dropped h) = is_answered V pid idle (Drop c) (Outcome.Reply Done) (record idle { owned = Idle s }) (refl, h) (λ b. refl) (λ b there. (refl, refl))
  dropped c (Drops.kept h) = is_refused V pid idle (Drop c) (inr (refl, h))

  entered : (login : Name) (secret : Secret) {r : Result Outcome Refusal} {s : SetBy cap_cmp} → Enters V owned login secret r s → Acts V pid idle (Enter login secret) (answered r) (record idle { owned = Idle s })
  entered login secret {s = s} (Enters.enters {c} first) = is_answered V pid idle (Enter login secret) _ (record idle { owned = Idle s }) (refl, (c, first)) (λ b. refl) (λ b there. (c, first, refl, refl))
  entered login secret (Enters.unknown none) = is_refused V pid idle (Enter login secret) (inr (refl, inl (refl, none)))
  entered login secret (Enters.wrong {c} {digest} first other) = is_refused V pid idle (Enter login secret) (inr (refl, inr (refl, c, digest, first, other)))
  entered login secret (Enters.no_room {c} first new) = starves V pid idle (Enter login secret) (refl, (c, first)) (λ b. refl) (c, first, new)

  mailed : (mail : mailbox.Mail) {r : Result Outcome Refusal} {ch' : Mailbox} → Mails V owned pid l ch mail r ch' → Acts V pid idle (Mail mail) (answered r) (record idle { mailbox = ch' })
  mailed mail (Mails.passed {outcome} {ch'} h does) = is_answered V pid idle (Mail mail) outcome (record idle { mailbox = ch' }) (refl, h) (λ b. refl) (λ b there. (ch', does, refl))
  mailed mail (Mails.failed h) = is_refused V pid idle (Mail mail) (inr (refl, h))
  mailed mail (Mails.no_room h room) = starves V pid idle (Mail mail) (refl, h) (λ b. refl) room

module _ (V : Registry) (pid : Pid) (p : Process) (act : Act) (owned : SetBy cap_cmp) (is : p.owned ≡ Idle owned) where
  -- the process, known to be idle
  abbrev as_idle : Process
  as_idle = record p { owned = Idle owned }

  -- what was shown of an idle process
  of_idle : {r : Result Sequel Refusal} {p' : Process} → Acts V pid as_idle act r p' → Acts V pid p act r p'
  of_idle {r} {p'} h = subst (λ o. Acts V pid (record p { owned = o }) act r p') (sym is) h

  -- the act is this one
  act_is : (a : Act) → act ≡ a → {q : Result Sequel Refusal} {p' : Process} → Acts V pid as_idle a q p' → Acts V pid p act q p'
  act_is a e {q} {p'} h = of_idle (subst (λ a. Acts V pid as_idle a q p') (sym e) h)

  -- a check of the act itself is not met
  act_unmet : (a : Act) → act ≡ a → (f : Refusal) → checks_of V as_idle a (Some f) → (q : Result Outcome Refusal) → IsErr q × IsErrAnd q (λ g. g ≡ f) → Acts V pid p act (answered q) as_idle
  act_unmet a is_act f h q s = subst (λ q. Acts V pid p act (answered q) as_idle) (sym (passed_on q f s)) (act_is a is_act (unmet V pid p.labels owned p.mailbox a f h))

  module _ (order : orders.Order) (ordered : act ≡ Order order) {r : Result (Unit {0}) Refusal} (checked : Checked (order_checks (InEffect V (In owned)) order) r) where
    pub act_unchecked : (f : Refusal) → r ≡ Err f → (q : Result Outcome Refusal) → IsErr q × IsErrAnd q (λ g. g ≡ f) → Acts V pid p act (answered q) as_idle
    act_unchecked f e = act_unmet (Order order) ordered f (has_failed checked f e)

    pub act_order : (u : Unit {0}) → r ≡ Ok u → (body : Body) → body ≡ body_of order → (h : Holding) → h ≡ Ordering owned → Acts V pid p act (Ok (Sequel.answer (Outcome.Order body pid))) (record p { owned = h })
    act_order u e body is_body h is_h =
        subst (λ b. Acts V pid p act (Ok (Sequel.answer (Outcome.Order b pid))) (record p { owned = h })) (sym is_body)
        (subst (λ o. Acts V pid p act (Ok (Sequel.answer (Outcome.Order (body_of order) pid))) (record p { owned = o })) (sym is_h)
        (act_is (Order order) ordered (order_done V pid p.labels owned p.mailbox order u e checked)))

    pub act_full : (u : Unit {0}) → r ≡ Ok u → (h : Holding) → h ≡ Idle owned → Acts V pid p act (Err Memory) (record p { owned = h })
    act_full u e h same =
        subst (λ o. Acts V pid p act (Err Memory) (record p { owned = o })) (sym same)
        (act_is (Order order) ordered (starves V pid as_idle (Order order) (refl, has_passed checked u e) (λ b. refl) tt))

  module _ (bytes : List ℕ) (emits : act ≡ Emit bytes) {r : Result (Unit {0}) Refusal} (checked : Checked (emission_check (InEffect V (In owned)) p.labels.secrecy) r) where
    pub act_kept_in : (f : Refusal) → r ≡ Err f → (q : Result Outcome Refusal) → IsErr q × IsErrAnd q (λ g. g ≡ f) → Acts V pid p act (answered q) as_idle
    act_kept_in f e = act_unmet (Emit bytes) emits f (has_failed checked f e)

    pub act_emit : (u : Unit {0}) → r ≡ Ok u → Acts V pid p act (Ok (Sequel.answer (Outcome.Reply (Emitted bytes)))) as_idle
    act_emit u e = act_is (Emit bytes) emits (emitted V pid p.labels owned p.mailbox bytes u e checked)

  pub act_relabel : (side : Side) (given : Result (SetBy name_cmp) TooLong) → act ≡ Relabel side given → {r : Result Outcome Refusal} {l' : Labels} → Relabels V owned p.mailbox.endpoints p.labels side given r l' → Acts V pid p act (answered r) (record as_idle { labels = l' })
  act_relabel side given e h = act_is (Relabel side given) e (relabelled V pid p.labels owned p.mailbox side given h)

  pub act_ask : (c : Cap) → act ≡ Ask c → (outcome : Outcome) → Answers outcome (InEffect V (In owned) c) → Acts V pid p act (Ok (Sequel.answer outcome)) as_idle
  act_ask c e outcome h = act_is (Ask c) e (asked V pid p.labels owned p.mailbox c outcome h)

  pub act_spawn : (caps : SetBy cap_cmp) → act ≡ Spawn caps → {q : Result Sequel Refusal} → Spawns (InEffect V (In owned)) p.labels caps q → Acts V pid p act q as_idle
  act_spawn caps e h = act_is (Spawn caps) e (spawned V pid p.labels owned p.mailbox caps h)

  pub act_exit : act ≡ Exit → Acts V pid p act (Ok Sequel.ending) as_idle
  act_exit e = act_is Exit e (leaves V pid p.labels owned p.mailbox)

  pub act_drop : (c : Cap) → act ≡ Drop c → {r : Result Outcome Refusal} {s : SetBy cap_cmp} (l : Labels) → l ≡ p.labels → Drops V l p.mailbox.endpoints owned c r s → Acts V pid p act (answered r) (record p { owned = Idle s })
  act_drop c e {r} {s} l same h = act_is (Drop c) e (dropped V pid p.labels owned p.mailbox c (subst (λ l. Drops V l p.mailbox.endpoints owned c r s) same h))

  pub act_enter : (login : Name) (secret : Secret) → act ≡ Enter login secret → {r : Result Outcome Refusal} {s : SetBy cap_cmp} → Enters V owned login secret r s → Acts V pid p act (answered r) (record p { owned = Idle s })
  act_enter login secret e h = act_is (Enter login secret) e (entered V pid p.labels owned p.mailbox login secret h)

  pub act_mail : (mail : mailbox.Mail) → act ≡ Mail mail → {r : Result Outcome Refusal} {ch' : Mailbox} (l : Labels) → l ≡ p.labels → Mails V owned pid l p.mailbox mail r ch' → Acts V pid p act (answered r) (record as_idle { mailbox = ch' })
  act_mail mail e {r} {ch'} l same h = act_is (Mail mail) e (mailed V pid p.labels owned p.mailbox mail (subst (λ l. Mails V owned pid l p.mailbox mail r ch') same h))
