-- The open endpoints of the processes of a bench stay safe.
use Rattle.std.proofs.Common.{◌≡◌, ◌∙◌, ◌⊎◌, inl, inr, refl, sym, ap, subst, List, [], ◌∷◌, ℕ}
use Rattle.std.proofs.Common.{Option, Some, None, Result, Ok, Err}
use Rattle.std.specs.Prelude.{Bool, true, false, ◌||◌}
use Rattle.std.specs.FinMap as map
use Rattle.std.specs.Ordering.{eq_by_cmp}
use Rattle.fl_labels.specs.Cap.{cap_cmp}
use Rattle.fl_labels.specs.CapOrder.{cap_total}
use Rattle.fl_labels.specs.Endpoint.{endpoint_cmp, endpoint_total, endpoint_exact}
use Rattle.fl_labels.specs.Found.{Within}
use Rattle.fl_labels.specs.Pid.{pid_cmp}
use Rattle.fl_labels.specs.PidOrder.{pid_total, pid_exact}
use Rattle.fl_labels.specs.SetBy as set
use Rattle.fl_labels.specs.SetBy.{SetBy, In}
use Rattle.fl_labels.specs.declared.cap.Cap.{Cap}
use Rattle.fl_labels.specs.declared.cap.Cap.TheVariants.{Plus, Minus}
use Rattle.fl_labels.specs.declared.endpoint.Endpoint.{Endpoint}
use Rattle.fl_labels.specs.declared.name.Name.{Name}
use Rattle.fl_labels.specs.declared.pid.Pid.{Pid}
use Rattle.fl_ops.specs.declared.op.Op.{Op}
use Rattle.fl_ops.specs.Registry.{InEffect}
use Rattle.fl_ops.specs.laws.Reaching.{eff_more}
use Rattle.fl_rules.specs.Endpoint.{Crosses}
use Rattle.fl_labels.specs.Caps.{Dual}
use Rattle.fl_rules.specs.declared.endpoint.Mode.{Mode}
use Rattle.fl_rules.specs.declared.labels.Labels.{Labels}
use Rattle.fl_mailbox.specs.Endpoints.{Table, IsLeastFree}
use Rattle.fl_mailbox.specs.TableLaws.{one_least_free}
use Rattle.fl_mailbox.specs.Offenders.{CrossesAt, DualAt}
use Rattle.fl_mailbox.specs.declared.mailbox.Mailbox.{Mailbox}
use Rattle.fl_mailbox.specs.declared.offender.Offender.{Offender}
use Rattle.fl_mailbox.specs.declared.endpoints.OpenEndpoint.{OpenEndpoint}
use Rattle.fl_jobs.specs.Given.{labels_of}
use Rattle.fl_jobs.specs.declared.job.GivenLabels.{GivenLabels}
use Rattle.fl_jobs.specs.declared.job.Act.{Act}
use Rattle.fl_jobs.specs.declared.job.Act.TheVariants.{Order, Relabel, Ask, Spawn, Exit, Drop, Enter, Emit, Mail}
use Rattle.fl_jobs.specs.declared.job.Mail as mailbox
use Rattle.fl_jobs.specs.declared.job.Mail.TheVariants.{Open, Tune, Close, Send, Take}
use Rattle.fl_jobs.specs.declared.job.Job.{Job}
use Rattle.fl_jobs.specs.declared.job.Job.TheVariants.{Proc, By, Member, Arrive}
use Rattle.fl_jobs.specs.declared.answer.Refusal.{Refusal}
use Rattle.fl_jobs.specs.declared.answer.Refusal.TheVariants.{NoEndpoint, EndpointsFull, LabelTooLong}
use Rattle.fl_jobs.specs.declared.answer.Outcome.{Outcome}
use Rattle.fl_bench.specs.Checks.{with, with_found}
use Rattle.fl_bench.specs.Guards.{endpoint_check}
use Rattle.fl_bench.specs.Mailbox.{mail_checks, MailDoes}
use Rattle.fl_bench.specs.Process.{newborn, held, owns, ordering, owning, child_of, effective, receiving}
use Rattle.fl_bench.specs.Bench.{BenchState, new_bench, has_at, gone, born}
use Rattle.fl_bench.specs.Gifts.{settled, receives, settles}
use Rattle.fl_bench.specs.Guarded.{Guarded, IsGuarded}
use Rattle.fl_bench.specs.Jobs.{act_checks, checks, Performs, Effect, Does, passed, failed, no_room}
use Rattle.fl_bench.specs.declared.process.Holding.{Holding}
use Rattle.fl_bench.specs.declared.process.Holding.TheVariants.{Idle, Ordering}
use Rattle.fl_bench.specs.declared.process.Process.{Process}
use Rattle.fl_bench.specs.laws.Puts.{get_put, left_there, none_some, same_found}
use Rattle.fl_bench.specs.laws.Steps.{passed_by}

-- ---- members of sets

or_second : (a b : Bool) → b ≡ true → (a || b) ≡ true
or_second true b e = refl
or_second false b e = e

inserted_still : (s : SetBy cap_cmp) (c d : Cap) → In s d → In (set.insert s c) d
inserted_still s c d h =
    set.contains-insert cap_total s c d ∙ or_second (eq_by_cmp cap_cmp d c) (set.contains s d) h

added_still : (s : SetBy cap_cmp) (caps : List Cap) (d : Cap) → In s d
    → In (set.insert_all s caps) d
added_still s [] d h = h
added_still s (c ∷ caps) d h = inserted_still (set.insert_all s caps) c d (added_still s caps d h)

joined_still : (s t : SetBy cap_cmp) (d : Cap) → In s d → In (set.union s t) d
joined_still s t d h = set.contains-union cap_total s t d ∙ ap (λ b. b || set.contains t d) h

-- ---- open endpoints

module _ (E : Cap → Type 0) (process : Labels) (table : Table) where
  abbrev AllSafe : Table → Type 0
  AllSafe table = Within (CrossesAt process table) (DualAt E)

  -- one that is safe is put there
  put_safe : (e : Endpoint) (end : OpenEndpoint)
      → Within (Crosses end.mode process end.labels) (Dual E) → AllSafe table
      → AllSafe (map.insert table e end)
  put_safe e end safe all x c = elim (get_put endpoint_total endpoint_exact table e end x.endpoint) [
    | inl s ↦ safe x.tag (subst (λ (o : OpenEndpoint). Crosses o.mode process o.labels x.tag)
        (same_found c.1 s.1) c.2)
    | inr s ↦ all x (c.0, sym s ∙ c.1, c.2)
  ]

  -- one is taken away
  closed_safe : (e : Endpoint) → AllSafe table → AllSafe (map.remove table e)
  closed_safe e all x c =
      all x (c.0, left_there endpoint_total endpoint_exact table e x.endpoint c.0 c.1, c.2)

module _ (E : Cap → Type 0) (process : Labels) (ch : Mailbox) where
  -- what was opened is safe
  pub open_passed : (mode : Mode) (given : GivenLabels) (labels : Labels) (e : Endpoint)
      → labels_of given ≡ Some labels → IsLeastFree ch.endpoints (Some e)
      → mail_checks E process ch (Open mode given) None
      → Within (Crosses mode process labels) (Dual E)
  open_passed mode given labels e is least h =
      let found = subst (λ o. with o LabelTooLong
      (λ labels. with_found (IsLeastFree ch.endpoints) EndpointsFull
      (λ e. endpoint_check E process e mode labels)) None) is h in
      subst (λ o. with o EndpointsFull (λ e. endpoint_check E process e mode labels) None)
      (one_least_free ch.endpoints found.0 (Some e) found.1 least) found.2

  -- and what was tuned
  pub tune_passed : (e : Endpoint) (given : GivenLabels) (labels : Labels) (end : OpenEndpoint)
      → labels_of given ≡ Some labels → map.get ch.endpoints e ≡ Some end
      → mail_checks E process ch (Tune e given) None
      → Within (Crosses end.mode process labels) (Dual E)
  tune_passed e given labels end is there h =
      let found = subst (λ o. with o LabelTooLong
      (λ labels. with (map.get ch.endpoints e) (NoEndpoint e)
      (λ opened. endpoint_check E process e opened.mode labels)) None) is h in
      subst (λ o. with o (NoEndpoint e) (λ opened. endpoint_check E process e opened.mode labels)
      None) there found

module _ (E F : Cap → Type 0) (more : Within E F) (process : Labels) (ch : Mailbox) where
  -- what the checks let pass by E is safe by F, which has more
  wider : {P : Name → Type 0} → Within P (Dual E) → Within P (Dual F)
  wider h tag c = let dual = h tag c in (more (Plus tag) dual.0, more (Minus tag) dual.1)

  mail_safe : (pid : Pid) (work : mailbox.Mail) (x : Outcome) (after : Mailbox)
      → mail_checks E process ch work None → MailDoes pid ch work x after
      → AllSafe F process ch.endpoints ch.endpoints → AllSafe F process ch.endpoints after.endpoints
  mail_safe pid (Open mode given) x after h f all =
      subst (λ (c : Mailbox). AllSafe F process ch.endpoints c.endpoints) (sym f.5)
      (put_safe F process ch.endpoints f.2 (record { mode = mode; labels = f.0 })
      (wider (open_passed E process ch mode given f.0 f.2 f.1 f.3 h)) all)
  mail_safe pid (Tune e given) x after h f all =
      subst (λ (c : Mailbox). AllSafe F process ch.endpoints c.endpoints) (sym f.5)
      (put_safe F process ch.endpoints e (record f.2 { labels = f.0 })
      (wider (tune_passed E process ch e given f.0 f.2 f.1 f.3 h)) all)
  mail_safe pid (Close e) x after h f all =
      subst (λ (c : Mailbox). AllSafe F process ch.endpoints c.endpoints) (sym f.1)
      (closed_safe F process ch.endpoints e all)
  mail_safe pid (Send from receiver to message) x after h f all =
      subst (λ (c : Mailbox). AllSafe F process ch.endpoints c.endpoints) (sym f.5) all
  mail_safe pid Take x after h f all =
      subst (λ (c : Mailbox). AllSafe F process ch.endpoints c.endpoints) (sym f.1) all

-- ---- one process

-- no endpoint is open
closed_guarded : (V : Op → Type 0) (l : Labels) (caps : SetBy cap_cmp)
    → Guarded V (record newborn { labels = l; owned = Idle caps })
closed_guarded V l caps x c = absurd (none_some (map.get-empty endpoint_cmp x.endpoint) c.1)

-- a process has more in effect
grown_guarded : {V W : Op → Type 0} → Within V W → (p : Process) (h : Holding)
    → Within (In (owns p)) (In (held h)) → Guarded V p → Guarded W (record p { owned = h })
grown_guarded more p h owned all x c =
    let dual = all x c in
    (eff_more more owned (Plus x.tag) dual.0, eff_more more owned (Minus x.tag) dual.1)

-- ---- a bench

module _ (V : Op → Type 0) where
  pub opened_guarded : (node boot index stride : ℕ) → IsGuarded V (new_bench node boot index stride)
  opened_guarded node boot index stride =
      record { each = λ pid p e. absurd (none_some (map.get-empty pid_cmp pid) e) }

  module _ (b : BenchState) (h : IsGuarded V b) where
    same_guarded : {after : BenchState} → after ≡ b → IsGuarded V after
    same_guarded e = subst (IsGuarded V) (sym e) h

    -- a process whose endpoints are safe was put
    put_guarded : (pid : Pid) (new : Process) {after : BenchState} → Guarded V new
        → after.processes ≡ map.insert b.processes pid new → IsGuarded V after
    put_guarded pid new {after} safe is =
        record {
          each = λ k p e. by_place k p (sym (ap (λ m. map.get m k) is) ∙ e)
              (get_put pid_total pid_exact b.processes pid new k);
        }
      where
        by_place : (k : Pid) (p : Process) → map.get (map.insert b.processes pid new) k ≡ Some p
            → ((k ≡ pid) × (map.get (map.insert b.processes pid new) k ≡ Some new)) ⊎
            (map.get (map.insert b.processes pid new) k ≡ map.get b.processes k)
            → Guarded V p
        by_place k p e (inl s) = subst (Guarded V) (same_found s.1 e) safe
        by_place k p e (inr s) = h.each k p (sym s ∙ e)

    put : (pid : Pid) (new : Process) {after : BenchState} → Guarded V new
        → after ≡ has_at b pid new → IsGuarded V after
    put pid new safe is = put_guarded pid new safe (ap (λ (x : BenchState). x.processes) is)

    bears : (pid : Pid) (child : Process) {after : BenchState} → Guarded V child
        → after ≡ born b pid child → IsGuarded V after
    bears pid child safe is = put_guarded pid child safe (ap (λ (x : BenchState). x.processes) is)

    gone_guarded : (pid : Pid) {after : BenchState} → after ≡ gone b pid → IsGuarded V after
    gone_guarded pid is =
        subst (IsGuarded V) (sym is) (record
        { each = λ k p e. h.each k p (left_there pid_total pid_exact b.processes pid k p e) })

    -- ---- the end of an operation

    settled_still : (owned : Holding) (caps : List Cap)
        → Within (In (held owned)) (In (held (settled owned caps)))
    settled_still (Idle owned) caps c m = m
    settled_still (Ordering owned) caps c m = added_still owned caps c m

    pub settles_guarded : (pid : Pid) (caps : List Cap) → IsGuarded V (settles b pid caps)
    settles_guarded pid caps = by_found (map.get b.processes pid) refl
      where
        by_found : (o : Option Process) → map.get b.processes pid ≡ o
            → IsGuarded V (record b { processes = receives b.processes pid caps o })
        by_found None e = h
        by_found (Some p) e =
            put pid (record p { owned = settled p.owned caps })
            (grown_guarded (λ op u. u) p (settled p.owned caps) (settled_still p.owned caps)
            (h.each pid p e)) refl

-- ---- jobs

-- a bench that is guarded under W does jobs under a view V that W has all of
module _ (V W : Op → Type 0) (more : Within V W) where
  seen : (owned : SetBy cap_cmp) → Within (InEffect V (In owned)) (InEffect W (In owned))
  seen owned c h = eff_more more (λ c m. m) c h

  -- what the checks let pass
  all_seen : (owned : SetBy cap_cmp) {P : Offender → Type 0}
      → Within P (DualAt (InEffect V (In owned))) → Within P (DualAt (InEffect W (In owned)))
  all_seen owned h x c =
      let dual = h x c in (seen owned (Plus x.tag) dual.0, seen owned (Minus x.tag) dual.1)

  module _ (b : BenchState) (h : IsGuarded W b) where
    act_guarded : (pid : Pid) (p : Process) (act : Act) (x : Outcome) {after : BenchState}
        → map.get b.processes pid ≡ Some p → act_checks V p act None
        → Performs V b pid p act x after → IsGuarded W after
    act_guarded pid p (Order order) x e s f = put W b h pid (ordering p) (h.each pid p e) f.1
    act_guarded pid p (Relabel side (Ok label)) x e s f =
        put W b h pid _ (all_seen (owns p) s.1.1) f.1
    act_guarded pid p (Relabel side (Err long)) x e s f = absurd f
    act_guarded pid p (Ask c) x e s f = same_guarded W b h f.1
    act_guarded pid p (Spawn caps) x e s f =
        bears W b h f.0 (child_of p caps) (closed_guarded W p.labels caps) f.3
    act_guarded pid p Exit x e s f = gone_guarded W b h pid f.1
    act_guarded pid p (Drop c) x e s f =
        put W b h pid (owning p (set.remove (owns p) c)) (all_seen (set.remove (owns p) c) s.1.1)
        f.1
    act_guarded pid p (Enter login secret) x e s f =
        let caps = set.insert (owns p) f.0 in
        put W b h pid (owning p caps) (grown_guarded (λ op u. u) p (Idle caps)
        (inserted_still (owns p) f.0) (h.each pid p e)) f.3
    act_guarded pid p (Emit bytes) x e s f = same_guarded W b h f.1
    act_guarded pid p (Mail work) x e s f =
        put W b h pid (record p { mailbox = f.0 })
        (mail_safe (effective V p) (effective W p) (seen (owns p)) p.labels p.mailbox pid work x
        f.0 s.1 f.1 (h.each pid p e)) f.2

    effect_guarded : (job : Job) (x : Outcome) {after : BenchState} → checks V b job None
        → Effect V b job x after → IsGuarded W after
    effect_guarded Proc x s f =
        bears W b h f.0 newborn (closed_guarded W newborn.labels set.empty) f.3
    effect_guarded (By pid act) x s f =
        act_guarded pid f.0 act x f.1 (passed_by V b pid act f.0 f.1 s) f.2
    effect_guarded (Member root c) x s f = same_guarded W b h f.1
    effect_guarded (Arrive d) x s f =
        let caps = set.union (owns f.0) d.message.caps in
        put W b h d.receiver (receiving f.0 d)
        (grown_guarded (λ op u. u) f.0 (Idle caps) (joined_still (owns f.0) d.message.caps)
        (h.each d.receiver f.0 f.1)) f.3

    pub does_guarded : {job : Job} {r : Result Outcome Refusal} {after : BenchState}
        → Does V b job r after → IsGuarded W after
    does_guarded {job} (passed {outcome} s f) = effect_guarded job outcome s f
    does_guarded (failed s) = h
    does_guarded (no_room t) = h

-- the registry grows
pub registry_guarded : {V W : Op → Type 0} {b : BenchState} → Within V W → IsGuarded V b
    → IsGuarded W b
registry_guarded more h =
    record { each = λ pid p e. grown_guarded more p p.owned (λ c m. m) (h.each pid p e) }
