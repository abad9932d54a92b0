-- What becomes of one process at a job of its bench.
use Rattle.std.proofs.Common.{◌≡◌, ◌∙◌, inl, inr, refl, sym, ap, subst, arith, List, Option, Some, None, Ok, Err}
use Rattle.std.specs.FinMap as map
use Rattle.fl_labels.specs.Name.{name_cmp}
use Rattle.fl_labels.specs.PidOrder.{pid_total, pid_exact}
use Rattle.fl_labels.specs.SetBy as set
use Rattle.fl_labels.specs.SetBy.{SetBy}
use Rattle.fl_labels.specs.declared.cap.Cap.{Cap}
use Rattle.fl_labels.specs.declared.name.Name.{Name}
use Rattle.fl_labels.specs.declared.pid.Pid.{Pid}
use Rattle.fl_ops.specs.declared.op.Op.{Op}
use Rattle.fl_rules.specs.Safety.{SafeChange}
use Rattle.fl_message.specs.declared.message.Data.{Data}
use Rattle.fl_mailbox.specs.declared.mailbox.Mailbox.{Mailbox}
use Rattle.fl_jobs.specs.declared.secret.Secret.{Secret}
use Rattle.fl_jobs.specs.declared.job.Side.{Side}
use Rattle.fl_jobs.specs.declared.job.Order as orders
use Rattle.fl_jobs.specs.declared.job.Mail as mails
use Rattle.fl_jobs.specs.declared.job.Act.{Act}
use Rattle.fl_jobs.specs.declared.job.Act.TheVariants.{Order, Relabel, Ask, Spawn, Exit, Drop, Enter, Emit, Mail}
use Rattle.fl_jobs.specs.declared.job.Job.{Job}
use Rattle.fl_jobs.specs.declared.job.Job.TheVariants.{Proc, By, Member, Arrive}
use Rattle.fl_jobs.specs.declared.answer.Reply.TheVariants.{Made, Done, Entered, Arrived}
use Rattle.fl_jobs.specs.declared.answer.Outcome.{Outcome}
use Rattle.fl_bench.specs.Process.{newborn, owns, effective, side_of, with_side, ordering, owning, child_of, receiving}
use Rattle.fl_bench.specs.Bench.{BenchState, has_at, gone, born}
use Rattle.fl_bench.specs.Births.{IsBirth, IsChild}
use Rattle.fl_bench.specs.Births as births
use Rattle.fl_bench.specs.Gifts.{settled, receives, settles}
use Rattle.fl_bench.specs.Jobs.{act_checks, checks, Performs, Effect, Does}
use Rattle.fl_bench.specs.Mailbox.{MailDoes}
use Rattle.fl_bench.specs.Orderly.{IsOrderly}
use Rattle.fl_bench.specs.declared.process.Process.{Process}
use Rattle.fl_bench.specs.laws.Puts.{get_put, get_gone}
use Rattle.fl_bench.specs.laws.Steps.{passed_by}

-- What the job, which comes to x, makes of the process p, which stands as pid: it stays, does something itself, or a message
-- comes to it.
pub data Turns (V : Op → Type 0) (job : Job) (x : Outcome) (pid : Pid) (p : Process) : Process → Type 0 where
  stays : Turns V job x pid p p
  orders_it : {order : orders.Order} → job ≡ By pid (Order order) → Turns V job x pid p (ordering p)
  relabels : {side : Side} {label : SetBy name_cmp} → job ≡ By pid (Relabel side (Ok label)) → x ≡ Outcome.Reply Done
      → SafeChange (effective V p) (side_of side p.labels) label
      → Turns V job x pid p (record p { labels = with_side side label p.labels })
  drops : {c : Cap} → job ≡ By pid (Drop c) → x ≡ Outcome.Reply Done
      → Turns V job x pid p (owning p (set.remove (owns p) c))
  enters : {login : Name} {secret : Secret} {c : Cap} → job ≡ By pid (Enter login secret)
      → x ≡ Outcome.Reply (Entered c) → Turns V job x pid p (owning p (set.insert (owns p) c))
  mails_it : {mail : mails.Mail} {after : Mailbox} → job ≡ By pid (Mail mail) → MailDoes pid p.mailbox mail x after
      → Turns V job x pid p (record p { mailbox = after })
  hears : {d : Data} → job ≡ Arrive d → pid ≡ d.receiver → x ≡ Outcome.Reply (Arrived pid)
      → Turns V job x pid p (receiving p d)

-- nobody stands as pid before and after, or who stands after was born, or who stood went, or it turns
pub data Fate (V : Op → Type 0) (b : BenchState) (job : Job) (x : Outcome) (pid : Pid)
    : Option Process → Option Process → Type 0 where
  nobody : Fate V b job x pid None None
  comes : {child : Process} → IsBirth V b job pid child → x ≡ Outcome.Reply (Made pid)
      → Fate V b job x pid None (Some child)
  goes : {p : Process} → job ≡ By pid Exit → x ≡ Outcome.Reply Done → Fate V b job x pid (Some p) None
  turns : {p q : Process} → Turns V job x pid p q → Fate V b job x pid (Some p) (Some q)

module _ (V : Op → Type 0) (b : BenchState) (pid : Pid) where
  abbrev At : Job → Outcome → BenchState → Type 0
  At job x after = Fate V b job x pid (map.get b.processes pid) (map.get after.processes pid)

  rests : {job : Job} {x : Outcome} (o : Option Process) → Fate V b job x pid o o
  rests None = nobody
  rests (Some p) = turns stays

  as_before : {job : Job} {x : Outcome} {after : BenchState} → after ≡ b → At job x after
  as_before {job} {x} is =
      subst (λ (y : BenchState). Fate V b job x pid (map.get b.processes pid) (map.get y.processes pid)) (sym is)
      (rests (map.get b.processes pid))

  -- where a process was put as q
  at_put : {job : Job} {x : Outcome} (q : Pid) (new : Process)
      → (pid ≡ q → Fate V b job x pid (map.get b.processes pid) (Some new))
      → Fate V b job x pid (map.get b.processes pid) (map.get (map.insert b.processes q new) pid)
  at_put {job} {x} q new here = elim (get_put pid_total pid_exact b.processes q new pid) [
    | inl s ↦ subst (Fate V b job x pid (map.get b.processes pid)) (sym s.1) (here s.0)
    | inr s ↦ subst (Fate V b job x pid (map.get b.processes pid)) (sym s) (rests (map.get b.processes pid))
  ]

  -- where q, which stood, became another
  at_turn : {job : Job} {x : Outcome} (q : Pid) (p new : Process) {after : BenchState} → map.get b.processes q ≡ Some p
      → (pid ≡ q → Turns V job x pid p new) → after ≡ has_at b q new → At job x after
  at_turn {job} {x} q p new there turn is =
      subst (At job x) (sym is) (at_put q new (λ same.
      subst (λ o. Fate V b job x pid o (Some new)) (sym (ap (map.get b.processes) same ∙ there)) (turns (turn same))))

  -- where q was born: nobody stood so
  at_birth : {job : Job} {x : Outcome} (q : Pid) (child : Process) {after : BenchState} → IsOrderly b
      → IsBirth V b job q child → x ≡ Outcome.Reply (Made q) → after ≡ born b q child → At job x after
  at_birth {job} {x} q child orderly birth said is =
      subst (At job x) (sym is) (at_put q child (λ same. by_there same (map.get b.processes pid) refl))
    where
      by_there : pid ≡ q → (o : Option Process) → map.get b.processes pid ≡ o → Fate V b job x pid o (Some child)
      by_there same None e =
          comes (subst (λ k. IsBirth V b job k child) (sym same) birth)
          (subst (λ k. x ≡ Outcome.Reply (Made k)) (sym same) said)
      by_there same (Some p) e =
          let below = (orderly.each pid p e).below in
          let next = birth.next.serial in
          let serial = ap (λ (k : Pid). k.serial) same in
          absurd (omega (arith, below, next, serial))

  -- where q went
  at_exit : {job : Job} {x : Outcome} (q : Pid) (p : Process) {after : BenchState} → map.get b.processes q ≡ Some p
      → (pid ≡ q → job ≡ By pid Exit) → x ≡ Outcome.Reply Done → after ≡ gone b q → At job x after
  at_exit {job} {x} q p there asked said is =
      subst (At job x) (sym is) (elim (get_gone pid_total pid_exact b.processes q pid) [
        | inl s ↦ subst (Fate V b job x pid (map.get b.processes pid)) (sym s.1)
            (subst (λ o. Fate V b job x pid o None) (sym (ap (map.get b.processes) s.0 ∙ there)) (goes (asked s.0) said))
        | inr s ↦ subst (Fate V b job x pid (map.get b.processes pid)) (sym s) (rests (map.get b.processes pid))
      ])

  act_fate : (q : Pid) (p : Process) (act : Act) (x : Outcome) (after : BenchState) → IsOrderly b
      → map.get b.processes q ≡ Some p → act_checks V p act None → Performs V b q p act x after → At (By q act) x after
  act_fate q p (Order order) x after orderly e h f =
      at_turn q p (ordering p) e (λ same. orders_it (ap (λ k. By k (Order order)) (sym same))) f.1
  act_fate q p (Relabel side (Ok label)) x after orderly e h f =
      at_turn q p (record p { labels = with_side side label p.labels }) e
      (λ same. relabels (ap (λ k. By k (Relabel side (Ok label))) (sym same)) f.0 h.1.0) f.1
  act_fate q p (Relabel side (Err long)) x after orderly e h f = absurd f
  act_fate q p (Ask c) x after orderly e h f = as_before f.1
  act_fate q p (Spawn caps) x after orderly e h f =
      at_birth f.0 (child_of p caps) orderly (record { next = f.1; child_is = births.of refl e h.1 }) f.2 f.3
  act_fate q p Exit x after orderly e h f =
      at_exit q p e (λ same. ap (λ k. By k Exit) (sym same)) f.0 f.1
  act_fate q p (Drop c) x after orderly e h f =
      at_turn q p (owning p (set.remove (owns p) c)) e (λ same. drops (ap (λ k. By k (Drop c)) (sym same)) f.0) f.1
  act_fate q p (Enter login secret) x after orderly e h f =
      at_turn q p (owning p (set.insert (owns p) f.0)) e
      (λ same. enters (ap (λ k. By k (Enter login secret)) (sym same)) f.2) f.3
  act_fate q p (Emit bytes) x after orderly e h f = as_before f.1
  act_fate q p (Mail mail) x after orderly e h f =
      at_turn q p (record p { mailbox = f.0 }) e
      (λ same. mails_it (ap (λ k. By k (Mail mail)) (sym same))
      (subst (λ k. MailDoes k p.mailbox mail x f.0) (sym same) f.1)) f.2

  effect_fate : (job : Job) (x : Outcome) (after : BenchState) → IsOrderly b → checks V b job None
      → Effect V b job x after → At job x after
  effect_fate Proc x after orderly h f =
      at_birth f.0 newborn orderly (record { next = f.1; child_is = births.alone refl }) f.2 f.3
  effect_fate (By q act) x after orderly h f =
      act_fate q f.0 act x after orderly f.1 (passed_by V b q act f.0 f.1 h) f.2
  effect_fate (Member root c) x after orderly h f = as_before f.1
  effect_fate (Arrive d) x after orderly h f =
      at_turn d.receiver f.0 (receiving f.0 d) f.1
      (λ same. hears refl same (subst (λ k. x ≡ Outcome.Reply (Arrived k)) (sym same) f.2)) f.3

  pub does_fate : {job : Job} {x : Outcome} {after : BenchState} → IsOrderly b → Does V b job (Ok x) after
      → Fate V b job x pid (map.get b.processes pid) (map.get after.processes pid)
  does_fate {job} {x} {after} orderly (Does.passed h f) = effect_fate job x after orderly h f

-- ---- the end of an operation

-- the process has these too, once its operation is over
abbrev pub rested : Process → List Cap → Process
rested p caps = record p { owned = settled p.owned caps }

-- who stands as pid stays, or is the maker, whose operation is over and gave it these
pub data Settled (maker : Pid) (caps : List Cap) (pid : Pid) : Option Process → Option Process → Type 0 where
  other : {o : Option Process} → Settled maker caps pid o o
  its : {p : Process} → pid ≡ maker → Settled maker caps pid (Some p) (Some (rested p caps))

module _ (b : BenchState) (maker : Pid) (caps : List Cap) (pid : Pid) where
  by_found : (found : Option Process) → map.get b.processes maker ≡ found
      → Settled maker caps pid (map.get b.processes pid) (map.get (receives b.processes maker caps found) pid)
  by_found None e = other
  by_found (Some p) e = elim (get_put pid_total pid_exact b.processes maker (rested p caps) pid) [
    | inl s ↦ subst (Settled maker caps pid (map.get b.processes pid)) (sym s.1)
        (subst (λ o. Settled maker caps pid o (Some (rested p caps))) (sym (ap (map.get b.processes) s.0 ∙ e)) (its s.0))
    | inr s ↦ subst (Settled maker caps pid (map.get b.processes pid)) (sym s) other
  ]

  pub settles_fate : Settled maker caps pid (map.get b.processes pid) (map.get (settles b maker caps).processes pid)
  settles_fate = by_found (map.get b.processes maker) refl
