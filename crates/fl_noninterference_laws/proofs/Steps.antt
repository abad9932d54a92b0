-- An act of a node that concerns nobody with the tag comes to the same at nodes that are alike.
use Rattle.std.proofs.Common.{◌≡◌, ◌≢◌, ◌≤◌, ◌⊎◌, inl, inr, refl, sym, ap, subst, ℕ}
use Rattle.std.proofs.Common.{List, [], ◌∷◌}
use Rattle.std.proofs.Common.{length, Bool, Option, Some, None, Result, Ok, Err}
use Rattle.fl_labels.specs.SetBy as set
use Rattle.fl_labels.specs.SetBy.{SetBy, In}
use Rattle.fl_labels.specs.declared.name.Name.{Name}
use Rattle.fl_ops.specs.OpOrder.{op_cmp}
use Rattle.fl_ops.specs.declared.op.Op.{Op}
use Rattle.fl_opset.specs.declared.intervals.Intervals.{Intervals}
use Rattle.fl_wire.specs.declared.packet.Packet.{Packet}
use Rattle.fl_wire.specs.declared.packet.Packet.TheVariants as packets
use Rattle.fl_message.specs.declared.message.Data.{Data}
use Rattle.fl_jobs.specs.declared.answer.Refusal.TheVariants.{Memory}
use Rattle.fl_jobs.specs.declared.job.Job.{Job as AnyJob}
use Rattle.fl_jobs.specs.declared.job.Job.TheVariants.{Proc, By, Member, Arrive}
use Rattle.fl_bench.specs.Bench.{BenchState}
use Rattle.fl_bench.specs.declared.process.Process.{Process}
use Rattle.fl_bench.specs.laws.Orders.{sending_at}
use Rattle.fl_bench.specs.laws.Puts.{none_some}
use Rattle.fl_store.specs.Kept.{Kept}
use Rattle.fl_system.specs.Audit.{entries, entries_by, message_entries}
use Rattle.fl_system.specs.Begins.{pending_with}
use Rattle.fl_system.specs.Jobs.{Jobs}
use Rattle.fl_system.specs.Numbered.{item_at}
use Rattle.fl_system.specs.Openings.{IsOwn, Opens, OpensAgain, Restarts}
use Rattle.fl_system.specs.Processes.{process_of}
use Rattle.fl_system.specs.Publishes.{Publishes, Cancels, published_with, cancelled_with, list_with}
use Rattle.fl_system.specs.Receives.{IsImpostor, IsClash, IsFirstRefused, CanTake, Receives}
use Rattle.fl_system.specs.Saves.{Saves, stored, halted}
use Rattle.fl_system.specs.State.{NodeState, kept_of}
use Rattle.fl_system.specs.World.{KeptNode}
use Rattle.fl_system.specs.WorldJobs.{sent_message, party_at}
use Rattle.fl_system.specs.declared.admission.Admission.{Admission}
use Rattle.fl_system.specs.declared.admission.Party.{Party}
use Rattle.fl_system.specs.declared.answer.Answer.{Answer}
use Rattle.fl_system.specs.declared.answer.Answer.TheVariants as answer
use Rattle.fl_system.specs.declared.answer.Fault.{Fault}
use Rattle.fl_system.specs.declared.answer.Fault.TheVariants as faults
use Rattle.fl_system.specs.declared.reply.Reply.{Reply}
use Rattle.fl_system.specs.declared.reply.Reply.TheVariants as replies
use Rattle.fl_system.specs.declared.reply.Reply.TheVariants.{Job as Answered, Refused}
use Rattle.fl_system.specs.declared.sent.Sent.{Sent}
use Rattle.fl_system.specs.declared.state.Batch.{Batch}
use Rattle.fl_system.specs.declared.state.Batch.TheVariants.{Received}
use Rattle.fl_machine_model.specs.Acts.{Act, Outcome, Replies, said_of, quietly}
use Rattle.fl_machine_model.specs.Acts as acts
use Rattle.fl_machine_model.specs.Alone.{JobAlone, SaveAlone, PublishAlone, CancelAlone}
use Rattle.fl_machine_model.specs.Alone.{RestartAlone}
use Rattle.fl_machine_model.specs.Alone.{TellAlone, WindowAlone, BatchAlone, MessageAlone}
use Rattle.fl_machine_model.specs.Alone.{PacketAlone}
use Rattle.fl_machine_model.specs.Alone.{MachineStep, telling}
use Rattle.fl_noninterference_laws.specs.Acts.{IsOpenAct, LooksAtAll, IsAmple}
use Rattle.fl_noninterference_laws.specs.Acts.{StepsToo}
use Rattle.fl_noninterference_laws.specs.AlikeNodes.{AreAlike, AreAlikeLists, AreKeptAlike}
use Rattle.fl_noninterference_laws.specs.AlikeNodes.{IsOpen}
use Rattle.fl_noninterference_laws.specs.Tainted.{IsVeiled}
use Rattle.fl_noninterference_laws.proofs.Nodes.{same_node, stands_at}
use Rattle.fl_noninterference_laws.proofs.Others.{other, as_other, all_alike, jobs_too, arrives_too}
use Rattle.fl_noninterference_laws.proofs.Settling.{given_alike, released_alike, told_desks}
use Rattle.fl_noninterference_laws.proofs.Standing.{stands_too}
use Rattle.fl_noninterference_laws.proofs.Views.{there_too}

none_too : (xs ys : List ℕ) (k : ℕ) → length xs ≡ length ys → item_at xs k ≡ None
    → item_at ys k ≡ None
none_too xs ys k same e = by_item (item_at ys k) refl
  where
    by_item : (o : Option ℕ) → item_at ys k ≡ o → item_at ys k ≡ None
    by_item None f = f
    by_item (Some x) f = let it = there_too ys xs k x (sym same) f in absurd (none_some e it.is)

module _ (tag : Name) (number : ℕ) (n : NodeState) (kept : Kept) (views : List ℕ)
    (benches : List BenchState) (desks : length n.views ≡ length views)
    (alike : AreAlikeLists tag n.benches benches) where
  abbrev m : NodeState
  m = other n views benches

  abbrev s : KeptNode
  s = record { node = n; kept = kept }

  abbrev r : KeptNode
  r = record { node = m; kept = kept }

  near : AreAlike tag n m
  near = all_alike tag n views benches desks alike

  -- a node that has the same views and benches still
  near_as : (x : NodeState) → length x.views ≡ length views
      → AreAlikeLists tag x.benches benches → AreAlike tag x (other x views benches)
  near_as x count each = all_alike tag x views benches count each

  quiet_too : {act : Act} (reply : Reply) (x y : NodeState) (k : Kept)
      → MachineStep number r act (quietly reply y k) → AreAlike tag x y
      → StepsToo tag number r act (quietly reply x k)
  quiet_too reply x y k steps a = record {
    came = quietly reply y k;
    steps = steps;
    same = record { says = refl; sent = refl; noted = λ sender. refl };
    alike = record { nodes = a; kept = refl };
  }

  -- ---- jobs

  entries_too : (job : AnyJob) (a : Answer) → IsOpen tag n job → entries m job a ≡ entries n job a
  entries_too Proc a shown = refl
  entries_too (By pid act) a shown =
      ap (λ o. entries_by o pid act a) (sym (stands_too tag (stands_at tag near pid) shown))
  entries_too (Member root what) a shown = refl
  entries_too (Arrive d) a shown = refl

  sender_open : {desk upto : ℕ} {job : AnyJob} {d : Data} {after : NodeState} → IsOpen tag n job
      → Jobs n desk upto job (Ok (answer.Out d)) after → ¬ IsVeiled tag (process_of n d.sender)
  sender_open shown (Jobs.sent look decides) =
      subst (IsOpen tag n) (sending_at decides.does).asked shown

  sent_too : (d : Data) → ¬ IsVeiled tag (process_of n d.sender)
      → sent_message number m d ≡ sent_message number n d
  sent_too d shown = ap (λ (o : Option Process). record {
    from = number;
    packet = packets.Data d;
    sender = party_at d.sender o;
  }) (sym (stands_too tag (stands_at tag near d.sender) shown))

  -- what comes of a job
  abbrev comes : Reply → NodeState → List Sent → List Admission → Outcome
  comes reply x sent admitted = record {
    says = said_of reply sent;
    sent = sent;
    noted = λ sender. admitted;
    after = record { node = x; kept = kept };
  }

  job_comes : {desk upto : ℕ} {job : AnyJob} (reply : Reply) (x y : NodeState)
      (sent sent' : List Sent) (admitted admitted' : List Admission)
      → MachineStep number r (acts.Job desk upto job) (comes reply y sent' admitted')
      → sent' ≡ sent → admitted' ≡ admitted → AreAlike tag x y
      → StepsToo tag number r (acts.Job desk upto job) (comes reply x sent admitted)
  job_comes reply x y sent sent' admitted admitted' steps e f a = record {
    came = comes reply y sent' admitted';
    steps = steps;
    same = record { says = ap (said_of reply) e; sent = e; noted = λ sender. f };
    alike = record { nodes = a; kept = refl };
  }

  job_too : {desk upto : ℕ} {job : AnyJob} {reply : Reply} {x : NodeState} {sent : List Sent}
      {admitted : List Admission} → IsOpen tag n job → length n.published ≤ upto
      → IsAmple (said_of reply sent)
      → ((reply' : Reply) (y : NodeState) (sent' : List Sent) (admitted' : List Admission)
      → JobAlone number m desk upto job 0 reply' y sent' admitted'
      → MachineStep number r (acts.Job desk upto job) (comes reply' y sent' admitted'))
      → JobAlone number n desk upto job 0 reply x sent admitted
      → StepsToo tag number r (acts.Job desk upto job) (comes reply x sent admitted)
  job_too {desk} {upto} {job} shown all ample step (JobAlone.refused {fault} {n' = x} does) =
      let too = jobs_too tag n views benches desks alike desk upto job shown all
      (λ e. let same : fault ≡ faults.Refused Memory = cc in
      ample (ap (λ f. Replies (Refused f)) same)) does in
      job_comes (Refused fault) x too.left [] [] [] []
      (step (Refused fault) too.left [] [] (JobAlone.refused too.does)) refl refl too.alike
  job_too {desk} {upto} {job} shown all ample step (JobAlone.replied {reply} {n' = x} does) =
      let too = jobs_too tag n views benches desks alike desk upto job shown all (λ e. cc) does in
      let a = answer.Reply reply in
      job_comes (Answered reply) x too.left [] [] (entries n job a) (entries m job a)
      (step (Answered reply) too.left [] (entries m job a) (JobAlone.replied too.does)) refl
      (entries_too job a shown) too.alike
  job_too {desk} {upto} {job} shown all ample step (JobAlone.begun {name} {n' = x} does) =
      let too = jobs_too tag n views benches desks alike desk upto job shown all (λ e. cc) does in
      let a = answer.Begun name in
      job_comes (replies.Begun name) x too.left [] [] (entries n job a) (entries m job a)
      (step (replies.Begun name) too.left [] (entries m job a) (JobAlone.begun too.does)) refl
      (entries_too job a shown) too.alike
  job_too {desk} {upto} {job} shown all ample step (JobAlone.sends {d} {n' = x} does) =
      let too = jobs_too tag n views benches desks alike desk upto job shown all (λ e. cc) does in
      let a = answer.Out d in
      let same = sent_too d (sender_open shown does) in
      job_comes (replies.Sent 1 1) x too.left (sent_message number n d ∷ [])
      (sent_message number m d ∷ []) (entries n job a) (entries m job a)
      (step (replies.Sent 1 1) too.left (sent_message number m d ∷ []) (entries m job a)
      (JobAlone.sends too.does)) (ap (λ z. z ∷ []) same) (entries_too job a shown) too.alike
  job_too shown all ample step (JobAlone.no_room look which noted) = absurd (ample refl)

  -- ---- what is on its way

  record SavesToo (result : Result (Unit {0}) Fault) (x : NodeState) (k : Kept) : Type 0 where
    left : NodeState
    does : Saves m kept result left k
    same : AreAlike tag x left

  saves_too : {result : Result (Unit {0}) Fault} {x : NodeState} {k : Kept}
      → Saves n kept result x k → SavesToo result x k
  saves_too (Saves.saved {batch} is) = record {
    left = stored m batch;
    does = Saves.saved is;
    same = near_as (stored n batch) desks alike;
  }
  saves_too (Saves.no_room is) = record { left = m; does = Saves.no_room is; same = near }
  saves_too (Saves.failed {batch} is which) = record {
    left = halted m (Some batch);
    does = Saves.failed is which;
    same = near_as (halted n (Some batch)) desks alike;
  }
  saves_too (Saves.none why) = record { left = m; does = Saves.none why; same = near }

  save_too : {o : Outcome} → SaveAlone s o → StepsToo tag number r acts.Save o
  save_too (SaveAlone.saved {n = x} {k} does) =
      let too = saves_too does in
      quiet_too replies.Done x too.left k (MachineStep.save (SaveAlone.saved too.does)) too.same
  save_too (SaveAlone.refused {fault} {n = x} {k} does) =
      let too = saves_too does in
      quiet_too (Refused fault) x too.left k (MachineStep.save (SaveAlone.refused too.does))
      too.same

  record PublishesToo (result : Result ℕ Fault) (x : NodeState) : Type 0 where
    left : NodeState
    does : Publishes m result left
    same : AreAlike tag x left

  publishes_too : {result : Result ℕ Fault} {x : NodeState} → Publishes n result x
      → PublishesToo result x
  publishes_too (Publishes.published {batch} is) = record {
    left = published_with m batch;
    does = Publishes.published is;
    same = record {
      number = refl;
      boot = refl;
      saved = refl;
      published = refl;
      desks = told_desks batch (length (list_with n batch)) n.views views desks;
      state = refl;
      procs = refl;
      benches = given_alike tag n.benches benches alike batch;
    };
  }
  publishes_too (Publishes.no_room is) =
      record { left = m; does = Publishes.no_room is; same = near }
  publishes_too (Publishes.none why) = record { left = m; does = Publishes.none why; same = near }

  publish_too : {o : Outcome} → PublishAlone s o → StepsToo tag number r acts.Publish o
  publish_too (PublishAlone.ordered {op} {n = x} is does) =
      let too = publishes_too does in
      quiet_too (replies.Published op.name) x too.left kept
      (MachineStep.publish (PublishAlone.ordered is too.does)) too.same
  publish_too (PublishAlone.received {ops} {n = x} is does) =
      let too = publishes_too does in
      quiet_too (replies.Took (set.len ops)) x too.left kept
      (MachineStep.publish (PublishAlone.received is too.does)) too.same
  publish_too (PublishAlone.refused {fault} {n = x} does) =
      let too = publishes_too does in
      quiet_too (Refused fault) x too.left kept
      (MachineStep.publish (PublishAlone.refused too.does)) too.same

  cancelled_near : (batch : Batch) → AreAlike tag (cancelled_with n batch) (cancelled_with m batch)
  cancelled_near batch = record {
    number = refl;
    boot = refl;
    saved = refl;
    published = refl;
    desks = desks;
    state = refl;
    procs = refl;
    benches = released_alike tag n.benches benches alike batch;
  }

  cancel_too : {o : Outcome} → CancelAlone s o → StepsToo tag number r acts.Cancel o
  cancel_too (CancelAlone.given_up (Cancels.given_up {batch} is)) =
      quiet_too replies.Done (cancelled_with n batch) (cancelled_with m batch) kept
      (MachineStep.cancel (CancelAlone.given_up (Cancels.given_up is))) (cancelled_near batch)
  cancel_too (CancelAlone.refused {fault} (Cancels.none why)) =
      quiet_too (Refused fault) n m kept
      (MachineStep.cancel (CancelAlone.refused (Cancels.none why))) near

  -- ---- restarts

  record OpensToo (y : NodeState) (doubt : Option Batch) (k : Kept) (result : Result ℕ Fault)
      (x : NodeState) (k' : Kept) : Type 0 where
    left : NodeState
    does : OpensAgain y doubt k result left k'
    same : AreAlike tag x left

  -- it is opened again as any node that has kept the same
  opens_too : (x : NodeState) → length x.views ≡ length views
      → AreAlikeLists tag x.benches benches → {doubt : Option Batch} {k : Kept}
      {result : Result ℕ Fault} {after : NodeState} {k' : Kept}
      → OpensAgain x doubt k result after k'
      → OpensToo (other x views benches) doubt k result after k'
  opens_too x count each {doubt} {k} {k' = k'} (OpensAgain.opens {n' = after} does) = record {
    left = after;
    does = OpensAgain.opens
        (subst (λ d. Opens d (IsOwn (kept_of x) doubt) k (Ok after) k') count does);
    same = same_node tag after;
  }
  opens_too x count each {doubt} {k} {k' = k'} (OpensAgain.stays {fault} does) = record {
    left = halted (other x views benches) doubt;
    does = OpensAgain.stays
        (subst (λ d. Opens d (IsOwn (kept_of x) doubt) k (Err fault) k') count does);
    same = near_as (halted x doubt) count each;
  }

  record RestartsToo (keeps : Bool) (result : Result ℕ Fault) (x : NodeState) (k : Kept)
      : Type 0 where
    left : NodeState
    does : Restarts m kept keeps result left k
    same : AreAlike tag x left

  restarts_too : {keeps : Bool} {result : Result ℕ Fault} {x : NodeState} {k : Kept}
      → Restarts n kept keeps result x k → RestartsToo keeps result x k
  restarts_too (Restarts.not_saved keeping is does) =
      let too = saves_too does in
      record { left = too.left; does = Restarts.not_saved keeping is too.does; same = too.same }
  restarts_too (Restarts.saved {batch} keeping is does) =
      let too = opens_too (stored n batch) desks alike does in
      record { left = too.left; does = Restarts.saved keeping is too.does; same = too.same }
  restarts_too (Restarts.lost loses is does) =
      let too = opens_too n desks alike does in
      record { left = too.left; does = Restarts.lost loses is too.does; same = too.same }
  restarts_too (Restarts.idle is does) =
      let too = opens_too n desks alike does in
      record { left = too.left; does = Restarts.idle is too.does; same = too.same }
  restarts_too (Restarts.due is does) =
      let too = opens_too n desks alike does in
      record { left = too.left; does = Restarts.due is too.does; same = too.same }
  restarts_too (Restarts.stopped is does) =
      let too = opens_too n desks alike does in
      record { left = too.left; does = Restarts.stopped is too.does; same = too.same }

  restart_too : {keeps : Bool} {o : Outcome} → RestartAlone s keeps o
      → StepsToo tag number r (acts.Restart keeps) o
  restart_too (RestartAlone.booted {boot} {n = x} {k} does) =
      let too = restarts_too does in
      quiet_too (replies.Booted boot) x too.left k
      (MachineStep.restart (RestartAlone.booted too.does)) too.same
  restart_too (RestartAlone.refused {fault} {n = x} {k} does) =
      let too = restarts_too does in
      quiet_too (Refused fault) x too.left k
      (MachineStep.restart (RestartAlone.refused too.does)) too.same

  -- ---- what is told

  telling_too : {act : Act} (told : List Packet)
      → MachineStep number r act (telling number r told)
      → StepsToo tag number r act (telling number s told)
  telling_too told steps = record {
    came = telling number r told;
    steps = steps;
    same = record { says = refl; sent = refl; noted = λ sender. refl };
    alike = record { nodes = near; kept = refl };
  }

  tell_too : {o : Outcome} → TellAlone number s o → StepsToo tag number r acts.Tell o
  tell_too (TellAlone.stopped {fault} why) =
      quiet_too (Refused fault) n m kept (MachineStep.tell (TellAlone.stopped why)) near
  tell_too (TellAlone.no_room runs) =
      quiet_too (Refused (faults.Refused Memory)) n m kept
      (MachineStep.tell (TellAlone.no_room runs)) near
  tell_too (TellAlone.tells {told} runs summary) =
      telling_too told (MachineStep.tell (TellAlone.tells runs summary))

  window_too : {packet : Packet} {window : Intervals} {o : Outcome}
      → packet ≡ packets.Have window → WindowAlone number s window o
      → StepsToo tag number r (acts.Receive packet) o
  window_too is (WindowAlone.stopped {fault} why) =
      quiet_too (Refused fault) n m kept
      (MachineStep.receive (PacketAlone.have is (WindowAlone.stopped why))) near
  window_too is (WindowAlone.no_room runs lacks) =
      quiet_too (Refused (faults.Refused Memory)) n m kept
      (MachineStep.receive (PacketAlone.have is (WindowAlone.no_room runs lacks))) near
  window_too is (WindowAlone.answers {told} runs answers) =
      telling_too told
      (MachineStep.receive (PacketAlone.have is (WindowAlone.answers runs answers)))

  -- ---- operations that come

  impostor_too : {op : Op} → IsImpostor n op → IsImpostor m op
  impostor_too h = record { own = h.own; unknown = h.unknown }

  impostor_back : {op : Op} → IsImpostor m op → IsImpostor n op
  impostor_back h = record { own = h.own; unknown = h.unknown }

  clash_too : {op : Op} → IsClash n op → IsClash m op
  clash_too h = record {
    other = h.other;
    there = h.there;
    same_name = h.same_name;
    differs = h.differs;
  }

  clash_back : {op : Op} → IsClash m op → IsClash n op
  clash_back h = record {
    other = h.other;
    there = h.there;
    same_name = h.same_name;
    differs = h.differs;
  }

  first_too : {ops : SetBy op_cmp} {op : Op} → IsFirstRefused n ops op → IsFirstRefused m ops op
  first_too h = record {
    member = h.member;
    least = λ rival there bad. h.least rival there (back rival bad);
  }
    where
      back : (rival : Op) → IsImpostor m rival ⊎ IsClash m rival
          → IsImpostor n rival ⊎ IsClash n rival
      back rival (inl bad) = inl (impostor_back bad)
      back rival (inr bad) = inr (clash_back bad)

  can_too : (ops : SetBy op_cmp) → CanTake n ops → CanTake m ops
  can_too ops may op there =
      ((λ bad. (may op there).0 (impostor_back bad)), (λ bad. (may op there).1 (clash_back bad)))

  record ReceivesToo (ops : SetBy op_cmp) (result : Result ℕ Fault) (x : NodeState)
      : Type 0 where
    left : NodeState
    does : Receives m ops result left
    same : AreAlike tag x left

  receives_too : {ops : SetBy op_cmp} {result : Result ℕ Fault} {x : NodeState}
      → Receives n ops result x → ReceivesToo ops result x
  receives_too (Receives.stopped why) =
      record { left = m; does = Receives.stopped why; same = near }
  receives_too {ops} (Receives.no_room runs new) = record {
    left = m;
    does = Receives.no_room runs (record {
      may = can_too ops new.may;
      op = new.op;
      there = new.there;
      new = new.new;
    });
    same = near;
  }
  receives_too (Receives.impostor runs first bad) = record {
    left = m;
    does = Receives.impostor runs (first_too first) (impostor_too bad);
    same = near;
  }
  receives_too (Receives.clash runs first bad) = record {
    left = m;
    does = Receives.clash runs (first_too first) (clash_too bad);
    same = near;
  }
  receives_too {ops} (Receives.nothing_new runs may all) = record {
    left = m;
    does = Receives.nothing_new runs (can_too ops may) all;
    same = near;
  }
  receives_too {ops} (Receives.taken op runs may there new why) = record {
    left = m;
    does = Receives.taken op runs (can_too ops may) there new why;
    same = near;
  }
  receives_too {ops} (Receives.receives {new} idle may lacking some) = record {
    left = pending_with m (Received new);
    does = Receives.receives idle (can_too ops may) lacking some;
    same = near_as (pending_with n (Received new)) desks alike;
  }

  record BatchToo (ops : SetBy op_cmp) (reply : Reply) (x : NodeState) : Type 0 where
    left : NodeState
    does : BatchAlone m ops reply left
    same : AreAlike tag x left

  batch_too : {ops : SetBy op_cmp} {reply : Reply} {x : NodeState} → BatchAlone n ops reply x
      → BatchToo ops reply x
  batch_too (BatchAlone.nothing_new does) =
      let too = receives_too does in
      record { left = too.left; does = BatchAlone.nothing_new too.does; same = too.same }
  batch_too (BatchAlone.takes does some) =
      let too = receives_too does in
      record { left = too.left; does = BatchAlone.takes too.does some; same = too.same }
  batch_too (BatchAlone.refused does) =
      let too = receives_too does in
      record { left = too.left; does = BatchAlone.refused too.does; same = too.same }

  -- ---- a message that comes

  -- what is noted of it
  abbrev told_of : Data → Option Party → Reply → List Admission
  told_of d sender (Answered reply) = message_entries sender d.receiver (process_of m d.receiver)
  told_of d sender other = []

  -- a reply that is no want of memory
  abbrev IsAmpleReply : Reply → Type 0
  IsAmpleReply reply = reply ≢ Refused (faults.Refused Memory)

  record MessageToo (d : Data) (reply : Reply) (x : NodeState) : Type 0 where
    left : NodeState
    does : (sender : Option Party) → MessageAlone m sender d reply left (told_of d sender reply)
    same : AreAlike tag x left

  module _ (d : Data) (shown : ¬ IsVeiled tag (process_of n d.receiver)) where
    message_came : {sender : Option Party} {reply : Reply} {x : NodeState}
        {admitted : List Admission} → IsAmpleReply reply
        → MessageAlone n sender d reply x admitted → MessageToo d reply x
    message_came ample (MessageAlone.arrives does) =
        let too = arrives_too tag n views benches desks alike shown does in
        record {
          left = too.left;
          does = λ sender. MessageAlone.arrives too.does;
          same = too.same;
        }
    message_came ample (MessageAlone.refused does) =
        let too = arrives_too tag n views benches desks alike shown does in
        record {
          left = too.left;
          does = λ sender. MessageAlone.refused too.does;
          same = too.same;
        }
    message_came ample (MessageAlone.no_room runs) = absurd (ample refl)

    message_noted : {sender : Option Party} {reply : Reply} {x : NodeState}
        {admitted : List Admission} → IsAmpleReply reply
        → MessageAlone n sender d reply x admitted → told_of d sender reply ≡ admitted
    message_noted {sender} ample (MessageAlone.arrives does) =
        ap (message_entries sender d.receiver)
        (sym (stands_too tag (stands_at tag near d.receiver) shown))
    message_noted ample (MessageAlone.refused does) = refl
    message_noted ample (MessageAlone.no_room runs) = absurd (ample refl)

    message_too : {packet : Packet} (reply : Reply) (x : NodeState)
        (noted : Option Party → List Admission) → packet ≡ packets.Data d → IsAmpleReply reply
        → ((sender : Option Party) → MessageAlone n sender d reply x (noted sender))
        → StepsToo tag number r (acts.Receive packet) (record {
          says = Replies reply;
          sent = [];
          noted = noted;
          after = record { node = x; kept = kept };
        })
    message_too reply x noted is ample does =
        let too = message_came ample (does None) in
        record {
          came = record {
            says = Replies reply;
            sent = [];
            noted = λ sender. told_of d sender reply;
            after = record { node = too.left; kept = kept };
          };
          steps = MachineStep.receive (PacketAlone.message is too.does);
          same = record {
            says = refl;
            sent = refl;
            noted = λ sender. message_noted ample (does sender);
          };
          alike = record { nodes = too.same; kept = refl };
        }

  packet_too : {packet : Packet} {o : Outcome} → IsOpenAct tag n (acts.Receive packet)
      → IsAmple o.says → PacketAlone number s packet o
      → StepsToo tag number r (acts.Receive packet) o
  packet_too shown ample (PacketAlone.have is window) = window_too is window
  packet_too shown ample (PacketAlone.ops {reply = reply} {n = x} is does) =
      let too = batch_too does in
      quiet_too reply x too.left kept (MachineStep.receive (PacketAlone.ops is too.does)) too.same
  packet_too shown ample (PacketAlone.message {d} {reply} {n = x} {noted} is does) =
      message_too d (subst (λ p. IsOpenAct tag n (acts.Receive p)) is shown) reply x noted is
      (λ e. ample (ap Replies e)) does

  step_too : (act : Act) {o : Outcome} → IsOpenAct tag n act → LooksAtAll n act → IsAmple o.says
      → MachineStep number s act o → StepsToo tag number r act o
  step_too (acts.Job desk upto job) shown all ample (MachineStep.no_desk none) =
      quiet_too replies.NoSuch n m kept
      (MachineStep.no_desk (none_too n.views views desk desks none)) near
  step_too (acts.Job desk upto job) shown all ample (MachineStep.no_such_job arrival) =
      quiet_too replies.NoSuch n m kept (MachineStep.no_such_job arrival) near
  step_too (acts.Job desk upto job) shown all ample (MachineStep.job asked does) =
      job_too shown all ample (λ reply y sent admitted alone. MachineStep.job asked alone) does
  step_too acts.Save shown all ample (MachineStep.save does) = save_too does
  step_too acts.Publish shown all ample (MachineStep.publish does) = publish_too does
  step_too acts.Cancel shown all ample (MachineStep.cancel does) = cancel_too does
  step_too (acts.Restart keeps) shown all ample (MachineStep.restart does) = restart_too does
  step_too acts.Tell shown all ample (MachineStep.tell does) = tell_too does
  step_too (acts.Receive packet) shown all ample (MachineStep.receive does) =
      packet_too shown ample does

-- the same at any node that is alike
pub steps_too : {tag : Name} {s r : KeptNode} (number : ℕ) (act : Act) {o : Outcome}
    → AreKeptAlike tag s r → IsOpenAct tag s.node act → LooksAtAll s.node act → IsAmple o.says
    → MachineStep number s act o → StepsToo tag number r act o
steps_too {tag} {s} {r} number act {o} a shown all ample step =
    let node = as_other a.nodes in
    let same : record { node = other s.node r.node.views r.node.benches; kept = s.kept } ≡ r =
    λ i. record { node = node i; kept = a.kept i } in
    subst (λ z. StepsToo tag number z act o) same
    (step_too tag number s.node s.kept r.node.views r.node.benches a.nodes.desks a.nodes.benches
    act shown all ample step)
