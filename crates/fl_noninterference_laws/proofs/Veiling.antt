-- What concerns who has the tag leaves a node alike, where orders are guarded.
use Rattle.std.proofs.Common.{◌≡◌, ◌⊎◌, ◌∙◌, inl, inr, refl, sym, ap, subst, Bool, true, false}
use Rattle.std.proofs.Common.{ℕ, List, Option, Some, None, Result, Ok}
use Rattle.std.proofs.lemmas.Bool.{false≢true}
use Rattle.std.specs.FinMap as map
use Rattle.fl_labels.specs.SetBy as set
use Rattle.fl_labels.specs.SetBy.{In}
use Rattle.fl_labels.specs.declared.cap.Cap.{Cap}
use Rattle.fl_labels.specs.declared.cap.Cap.TheVariants.{Minus}
use Rattle.fl_labels.specs.declared.name.Name.{Name}
use Rattle.fl_labels.specs.declared.pid.Pid.{Pid}
use Rattle.fl_ops.specs.Registry.{Listed}
use Rattle.fl_ops.specs.declared.op.Op.{Op}
use Rattle.fl_wire.specs.declared.packet.Packet.TheVariants as packets
use Rattle.fl_message.specs.declared.message.Data.{Data}
use Rattle.fl_jobs.specs.declared.answer.Outcome.{Outcome as AnyOutcome}
use Rattle.fl_jobs.specs.declared.answer.Reply.{Reply as JobReply}
use Rattle.fl_jobs.specs.declared.answer.Reply.TheVariants.{Emitted}
use Rattle.fl_jobs.specs.declared.job.Act.{Act as JobAct}
use Rattle.fl_jobs.specs.declared.job.Act.TheVariants.{Order, Relabel, Ask, Spawn, Exit, Drop}
use Rattle.fl_jobs.specs.declared.job.Act.TheVariants.{Enter, Emit, Mail}
use Rattle.fl_jobs.specs.declared.job.Job.TheVariants.{By, Arrive}
use Rattle.fl_jobs.specs.declared.job.Order as orders
use Rattle.fl_bench.specs.Bench.{BenchState}
use Rattle.fl_bench.specs.Guarded.{IsGuarded}
use Rattle.fl_bench.specs.Guards.{sent_from}
use Rattle.fl_bench.specs.Jobs.{Does, passed}
use Rattle.fl_bench.specs.Process.{effective}
use Rattle.fl_bench.specs.declared.process.Process.{Process}
use Rattle.fl_bench.specs.laws.Orders.{refusal_leaves, sending_at}
use Rattle.fl_bench.specs.laws.Puts.{none_some}
use Rattle.fl_bench_laws.specs.laws.Arrivals.{arrival_safe, sent_safe}
use Rattle.fl_rules.specs.Endpoint.{Loosens, SafeEndpoint}
use Rattle.fl_system.specs.Arrives.{Arrives, Unasked, delivered}
use Rattle.fl_system.specs.Jobs.{Jobs, place_of, worked}
use Rattle.fl_system.specs.Processes.{process_at, process_of}
use Rattle.fl_system.specs.State.{NodeState}
use Rattle.fl_system.specs.World.{KeptNode}
use Rattle.fl_system.specs.declared.admission.Admission.{Admission}
use Rattle.fl_system.specs.declared.admission.Party.{Party}
use Rattle.fl_system.specs.declared.answer.Answer.TheVariants as answer
use Rattle.fl_system.specs.declared.answer.Fault.{Fault}
use Rattle.fl_system.specs.declared.reply.Reply.{Reply}
use Rattle.fl_system.specs.declared.reply.Reply.TheVariants.{Job as Answered}
use Rattle.fl_system.specs.declared.sent.Sent.{Sent}
use Rattle.fl_system_laws.specs.laws.Numbered.{length-with}
use Rattle.fl_machine_model.specs.Acts.{Job, Receive, Outcome, Replies}
use Rattle.fl_machine_model.specs.Alone.{JobAlone, MessageAlone, PacketAlone, MachineStep}
use Rattle.fl_noninterference_laws.specs.Alike.{AreAlikeBenches, IsNoBirth}
use Rattle.fl_noninterference_laws.specs.AlikeNodes.{AreAlike, AreKeptAlike}
use Rattle.fl_noninterference_laws.specs.Endpoints.{HasSafeEndpoints}
use Rattle.fl_noninterference_laws.specs.Guarded.{IsGuardedJob}
use Rattle.fl_noninterference_laws.specs.Runs.{IsHidden, IsSealed}
use Rattle.fl_noninterference_laws.specs.Tainted.{IsVeiled, LacksMinus, IsTainted}
use Rattle.fl_noninterference_laws.proofs.Lists.{put_hidden}
use Rattle.fl_noninterference_laws.proofs.Nodes.{same_node, stands_at, looked, tainted_at}
use Rattle.fl_noninterference_laws.proofs.Nodes.{never_emits, job_hidden, arrival_hidden}
use Rattle.fl_noninterference_laws.proofs.Standing.{same_bench, turned, veiled_too}

-- the act is no order
abbrev pub IsNoOrder : JobAct → Type 0
IsNoOrder act = (order : orders.Order) → ¬ (act ≡ Order order)

free_job : (n : NodeState) (pid : Pid) (act : JobAct) → IsNoOrder act
    → IsGuardedJob n (By pid act)
free_job n pid (Order order) free = absurd (free order refl)
free_job n pid (Relabel side label) free = tt
free_job n pid (Ask c) free = tt
free_job n pid (Spawn caps) free = tt
free_job n pid Exit free = tt
free_job n pid (Drop c) free = tt
free_job n pid (Enter login secret) free = tt
free_job n pid (Emit bytes) free = tt
free_job n pid (Mail mail) free = tt

module _ (tag : Name) where
  pub same_kept : (s : KeptNode) → AreKeptAlike tag s s
  same_kept s = record { nodes = same_node tag s.node; kept = refl }

  kept_as : (s : KeptNode) (x : NodeState) → AreAlike tag s.node x
      → AreKeptAlike tag s (record { node = x; kept = s.kept })
  kept_as s x a = record { nodes = a; kept = refl }

  -- ---- jobs

  module _ (number : ℕ) (s : KeptNode) {desk upto : ℕ} {pid : Pid} where
    job_alone_hidden : {act : JobAct} {count : ℕ} {reply : Reply} {x : NodeState}
        {sent : List Sent} {admitted : List Admission}
        → IsTainted (Listed s.node.published) tag (process_of s.node pid) → IsNoBirth act
        → IsNoOrder act → JobAlone number s.node desk upto (By pid act) count reply x sent admitted
        → AreAlike tag s.node x
    job_alone_hidden {act} t quiet free (JobAlone.refused does) =
        job_hidden tag s.node t quiet (free_job s.node pid act free) does
    job_alone_hidden {act} t quiet free (JobAlone.replied does) =
        job_hidden tag s.node t quiet (free_job s.node pid act free) does
    job_alone_hidden {act} t quiet free (JobAlone.begun does) =
        job_hidden tag s.node t quiet (free_job s.node pid act free) does
    job_alone_hidden {act} t quiet free (JobAlone.sends does) =
        job_hidden tag s.node t quiet (free_job s.node pid act free) does
    job_alone_hidden t quiet free (JobAlone.no_room {seen = seen} look which noted) =
        looked tag s.node desk seen

    pub job_step_hidden : {act : JobAct} {o : Outcome}
        → IsTainted (Listed s.node.published) tag (process_of s.node pid) → IsNoBirth act
        → IsNoOrder act → MachineStep number s (Job desk upto (By pid act)) o
        → AreKeptAlike tag s o.after
    job_step_hidden t quiet free (MachineStep.no_desk none) = same_kept s
    job_step_hidden t quiet free (MachineStep.no_such_job arrival) = same_kept s
    job_step_hidden t quiet free (MachineStep.job {n = x} asked does) =
        kept_as s x (job_alone_hidden t quiet free does)

    -- once it let bytes out, who stands there does not have the tag
    emitted_at : {bytes : List ℕ} {reply : JobReply} {x : NodeState}
        → (IsVeiled tag (process_of s.node pid)
        → LacksMinus (Listed s.node.published) tag (process_of s.node pid))
        → Jobs s.node desk upto (By pid (Emit bytes)) (Ok (answer.Reply reply)) x
        → ¬ IsVeiled tag (process_of x pid)
    emitted_at {bytes = bytes} lacks (Jobs.replied {v = v} {left = left} look d) veiled =
        let here : AreAlike tag s.node (worked s.node desk v (By pid (Emit bytes)) left) = record {
          number = refl;
          boot = refl;
          saved = refl;
          published = refl;
          desks = sym (length-with s.node.views desk v);
          state = refl;
          procs = refl;
          benches = put_hidden tag s.node.benches (place_of s.node (By pid (Emit bytes))) d.bench
              left d.stands (left_same d.does);
        } in
        let was = veiled_too tag (turned tag (stands_at tag here pid)) veiled in
        let t : IsTainted (Listed s.node.published) tag (process_of s.node pid) =
        record { veiled = was; lacks = lacks was } in
        never_emits tag s.node (tainted_at tag s.node t d) d.does
      where
        left_same : {V : Op → Type 0} {b after : BenchState} {x : AnyOutcome}
            → Does V b (By pid (Emit bytes)) (Ok x) after → AreAlikeBenches tag b after
        left_same {b = b} (passed h f) =
            subst (AreAlikeBenches tag b) (sym f.2.1) (same_bench tag b)

    pub emitted_open : {bytes : List ℕ} {o : Outcome}
        → (IsVeiled tag (process_of s.node pid)
        → LacksMinus (Listed s.node.published) tag (process_of s.node pid))
        → MachineStep number s (Job desk upto (By pid (Emit bytes))) o
        → o.says ≡ Replies (Answered (Emitted bytes))
        → ¬ IsVeiled tag (process_of o.after.node pid)
    emitted_open lacks (MachineStep.no_desk none) says = absurd (cc)
    emitted_open lacks (MachineStep.no_such_job arrival) says = absurd arrival
    emitted_open lacks (MachineStep.job asked (JobAlone.refused does)) says = absurd (cc)
    emitted_open lacks (MachineStep.job asked (JobAlone.replied does)) says =
        emitted_at lacks does
    emitted_open lacks (MachineStep.job asked (JobAlone.begun does)) says = absurd (cc)
    emitted_open lacks (MachineStep.job asked (JobAlone.sends does)) says = absurd (cc)
    emitted_open lacks (MachineStep.job asked (JobAlone.no_room look which noted)) says =
        absurd (cc)

  -- ---- messages

  -- a message as if its sender had its labels
  sent_safely : (d : Data) → SafeEndpoint (λ (c : Cap). ⊥) (sent_from d).mode (sent_from d).labels
      (sent_from d).labels
  sent_safely d = record {
    read = λ e. absurd (false≢true e);
    write = λ e name loose. absurd (none_lost name loose);
  }
    where
      none_lost : (name : Name) → Loosens (sent_from d).labels (sent_from d).labels name → ⊥
      none_lost name (inl miss) = let here = miss.here in let not = miss.not_there in absurd (cc)
      none_lost name (inr miss) = let here = miss.here in let not = miss.not_there in absurd (cc)

  has_or : (q : Process) → In q.labels.secrecy tag ⊎ (¬ In q.labels.secrecy tag)
  has_or q = by_test (set.contains q.labels.secrecy tag) refl
    where
      by_test : (b : Bool) → set.contains q.labels.secrecy tag ≡ b
          → In q.labels.secrecy tag ⊎ (¬ In q.labels.secrecy tag)
      by_test true e = inl e
      by_test false e = inr (λ h. false≢true (sym e ∙ h))

  -- who gets a message with the tag has the tag, unless it may remove it
  takes_tag : {V W : Op → Type 0} {b after : BenchState} {d : Data} {x : AnyOutcome} (q : Process)
      → map.get b.processes d.receiver ≡ Some q → IsGuarded W b → In d.secrecy tag
      → ¬ effective W q (Minus tag) → Does V b (Arrive d) (Ok x) after → In q.labels.secrecy tag
  takes_tag {d = d} q lives guarded has lacks does =
      let safe = arrival_safe q lives guarded does (sent_safely d) in
      elim (safe.secrecy tag has (λ dual. dual.0)) [
        | inl there ↦ there
        | inr dual ↦ absurd (lacks dual.1)
      ]

  module _ (n : NodeState) (d : Data) (safe : HasSafeEndpoints n)
      (lacks : LacksMinus (Listed n.published) tag (process_of n d.receiver)) where
    tagged_hidden : {r : Result JobReply Fault} {x : NodeState} → In d.secrecy tag
        → Arrives n d r x → AreAlike tag n x
    tagged_hidden has (Arrives.stopped why) = same_node tag n
    tagged_hidden has (Arrives.refused {left = left} it) = record {
      number = refl;
      boot = refl;
      saved = refl;
      published = refl;
      desks = refl;
      state = refl;
      procs = refl;
      benches = put_hidden tag n.benches (place_of n (Arrive d)) it.bench left it.stands
          (subst (AreAlikeBenches tag it.bench) (sym (refusal_leaves it.does))
          (same_bench tag it.bench));
    }
    tagged_hidden has (Arrives.arrives {reply} {left} it) =
        by_receiver (map.get it.bench.processes d.receiver) refl it.does
      where
        here : process_of n d.receiver ≡ map.get it.bench.processes d.receiver
        here = ap (λ o. process_at o d.receiver) it.stands

        by_receiver : (o : Option Process) → map.get it.bench.processes d.receiver ≡ o
            → Does Unasked it.bench (Arrive d) (Ok (AnyOutcome.Reply reply)) left
            → AreAlike tag n (delivered n d left)
        by_receiver None e (passed h f) = absurd (none_some e f.1)
        by_receiver (Some q) e does =
            let at : LacksMinus (Listed n.published) tag (Some q) =
            subst (LacksMinus (Listed n.published) tag) (here ∙ e) lacks in
            let veiled : IsVeiled tag (Some q) =
            takes_tag q e (safe (place_of n (Arrive d)) it.bench it.stands) has at does in
            arrival_hidden tag n (subst (IsVeiled tag) (sym (here ∙ e)) veiled) (Arrives.arrives it)

    message_hidden : {sender : Option Party} {reply : Reply} {x : NodeState}
        {admitted : List Admission} → IsVeiled tag (process_of n d.receiver) ⊎ In d.secrecy tag
        → MessageAlone n sender d reply x admitted → AreAlike tag n x
    message_hidden (inl veiled) (MessageAlone.arrives does) = arrival_hidden tag n veiled does
    message_hidden (inl veiled) (MessageAlone.refused does) = arrival_hidden tag n veiled does
    message_hidden (inr has) (MessageAlone.arrives does) = tagged_hidden has does
    message_hidden (inr has) (MessageAlone.refused does) = tagged_hidden has does
    message_hidden either (MessageAlone.no_room runs) = same_node tag n

  -- what a tainted process sends has the tag
  pub sent_tagged : (n : NodeState) {desk upto : ℕ} {pid : Pid} {act : JobAct} {d : Data}
      {x : NodeState} → HasSafeEndpoints n
      → IsTainted (Listed n.published) tag (process_of n pid)
      → Jobs n desk upto (By pid act) (Ok (answer.Out d)) x → In d.secrecy tag
  sent_tagged n {pid = pid} {act} {d} guarded t (Jobs.sent look dec) =
      let sends = sending_at dec.does in
      let asked = sends.asked in
      let same : d.sender ≡ pid = cc in
      let lives : map.get dec.bench.processes pid ≡ Some sends.process =
      subst (λ k. map.get dec.bench.processes k ≡ Some sends.process) same sends.lived in
      let at = subst (IsTainted (Listed n.published) tag)
      (ap (λ o. process_at o pid) dec.stands ∙ lives) t in
      let safe = sent_safe {W = Listed n.published} d sends.process sends.lived
      (guarded (place_of n (By pid act)) dec.bench dec.stands) dec.does in
      by_test at safe (set.contains d.secrecy tag) refl
    where
      by_test : {p : Process} → IsTainted (Listed n.published) tag (Some p)
          → SafeEndpoint (effective (Listed n.published) p) (sent_from d).mode p.labels
          (sent_from d).labels
          → (b : Bool) → set.contains d.secrecy tag ≡ b → In d.secrecy tag
      by_test at safe true e = e
      by_test at safe false e =
          absurd (at.lacks (safe.write refl tag
          (inl (record { here = at.veiled; not_there = e }))).1)

  pub message_step_hidden : {number : ℕ} (s : KeptNode) (d : Data) {o : Outcome}
      → IsHidden tag s.node (Receive (packets.Data d))
      → IsSealed tag s.node (Receive (packets.Data d)) o.says → HasSafeEndpoints s.node
      → MachineStep number s (Receive (packets.Data d)) o → AreKeptAlike tag s o.after
  message_step_hidden s d hidden sealed safe (MachineStep.receive (PacketAlone.have is window)) =
      absurd (cc)
  message_step_hidden s d hidden sealed safe (MachineStep.receive (PacketAlone.ops (inl is) does)) =
      absurd (cc)
  message_step_hidden s d hidden sealed safe (MachineStep.receive (PacketAlone.ops (inr is) does)) =
      absurd (cc)
  message_step_hidden s d hidden sealed safe
      (MachineStep.receive (PacketAlone.message {d = other} {reply} {n = x} {noted} is does)) =
      let same : other ≡ d = cc in
      kept_as s x (message_hidden s.node d safe (sealed.lacks hidden) hidden
      (subst (λ z. MessageAlone s.node None z reply x (noted None)) same (does None)))
