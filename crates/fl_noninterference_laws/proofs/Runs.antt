-- A run of a machine goes on without what concerns who has a tag, where orders are guarded.
use Rattle.std.proofs.Common.{◌≡◌, ◌⊎◌, ◌∙◌, inl, inr, refl, sym, ap, subst, Bool, true, false}
use Rattle.std.proofs.Common.{ℕ, List, [], ◌∷◌, Option, Some, None}
use Rattle.std.proofs.lemmas.Bool.{false≢true}
use Rattle.fl_labels.specs.SetBy as set
use Rattle.fl_labels.specs.SetBy.{In}
use Rattle.fl_labels.specs.declared.name.Name.{Name}
use Rattle.fl_labels.specs.declared.pid.Pid.{Pid}
use Rattle.fl_ops.specs.Registry.{Listed}
use Rattle.fl_wire.specs.declared.packet.Packet.TheVariants as packets
use Rattle.fl_message.specs.declared.message.Data.{Data}
use Rattle.fl_jobs.specs.declared.job.Act.TheVariants.{Emit}
use Rattle.fl_jobs.specs.declared.job.Job.TheVariants.{Proc, By, Member, Arrive}
use Rattle.fl_bench.specs.declared.process.Process.{Process}
use Rattle.fl_store.specs.Kept.{Kept, with_batch, raised}
use Rattle.fl_system.specs.Processes.{process_of}
use Rattle.fl_system.specs.State.{NodeState, ops_of}
use Rattle.fl_system.specs.World.{KeptNode}
use Rattle.fl_system.specs.declared.reply.Reply.TheVariants.{Booted, Refused}
use Rattle.fl_machine_model.specs.Acts.{Act, Outcome, Saying, Replies}
use Rattle.fl_machine_model.specs.Acts as acts
use Rattle.fl_machine_model.specs.Alone.{MachineStep}
use Rattle.fl_machine_model.specs.Guards.{IsOrder, AreGuarded, AreGuardedBehind}
use Rattle.fl_machine_model.specs.Machines.{Machine, Up, Down, Leaves}
use Rattle.fl_machine_model.specs.Processes.{Doing, Begins, Does, Stops, Goes, GoesOn}
use Rattle.fl_noninterference_laws.specs.Acts.{IsOpenAct}
use Rattle.fl_noninterference_laws.specs.AlikeNodes.{AreKeptAlike}
use Rattle.fl_noninterference_laws.specs.Endpoints.{HasSafeEndpoints, IsSafeMachine}
use Rattle.fl_noninterference_laws.specs.Runs.{IsHidden, concerned, IsSealed}
use Rattle.fl_noninterference_laws.specs.Runs.{IsHiddenDoing}
use Rattle.fl_noninterference_laws.specs.Runs.{IsSealedDoing, GoesSealed, AreAlikeMachines}
use Rattle.fl_noninterference_laws.specs.Runs.{IsSameDoing, SideBySide, RunsToo}
use Rattle.fl_noninterference_laws.specs.Tainted.{IsVeiled, LacksMinus}
use Rattle.fl_noninterference_laws.proofs.Veiling.{same_kept, job_step_hidden}
use Rattle.fl_noninterference_laws.proofs.Veiling.{emitted_open, message_step_hidden}
use Rattle.fl_noninterference_laws.proofs.Nodes.{turned_node, joined_node}
use Rattle.fl_noninterference_laws.proofs.Safe.{goes_safe}
use Rattle.fl_noninterference_laws.proofs.Steps.{steps_too}

-- the process has no tag where it stands, if it does
abbrev IsOpenOn : Name → Option Machine → Pid → Type 0
IsOpenOn tag (Some (Up s)) pid = ¬ IsVeiled tag (process_of s.node pid)
IsOpenOn tag old pid = Unit {0}

-- an order that comes next is of a process without the tag
abbrev HoldsOrders : Name → Option Machine → List Doing → Type 0
HoldsOrders tag old [] = Unit {0}
HoldsOrders tag old (d ∷ ds) = (pid : Pid) → IsOrder d pid → IsOpenOn tag old pid

pub leaves_same : {s r : KeptNode} {k : Kept} → s.kept ≡ r.kept → s.node.state ≡ r.node.state
    → Leaves s k → Leaves r k
leaves_same {r = r} e f Leaves.between = subst (Leaves r) (sym e) Leaves.between
leaves_same {r = r} e f (Leaves.saving {batch} is) =
    subst (λ k. Leaves r (with_batch k (ops_of batch))) (sym e) (Leaves.saving (sym f ∙ is))
leaves_same {r = r} e f Leaves.restarting =
    subst (λ k. Leaves r (raised k)) (sym e) Leaves.restarting
leaves_same {r = r} e f (Leaves.saved_first {batch} is) =
    subst (λ k. Leaves r (raised (with_batch k (ops_of batch)))) (sym e)
    (Leaves.saved_first (sym f ∙ is))

module _ (tag : Name) where
  -- ---- what is hidden is told

  veiled_or : (o : Option Process) → IsVeiled tag o ⊎ (¬ IsVeiled tag o)
  veiled_or None = inl tt
  veiled_or (Some p) = by_test (set.contains p.labels.secrecy tag) refl
    where
      by_test : (b : Bool) → set.contains p.labels.secrecy tag ≡ b
          → In p.labels.secrecy tag ⊎ (¬ In p.labels.secrecy tag)
      by_test true e = inl e
      by_test false e = inr (λ h. false≢true (sym e ∙ h))

  tagged_or : (d : Data) → In d.secrecy tag ⊎ (¬ In d.secrecy tag)
  tagged_or d = by_test (set.contains d.secrecy tag) refl
    where
      by_test : (b : Bool) → set.contains d.secrecy tag ≡ b
          → In d.secrecy tag ⊎ (¬ In d.secrecy tag)
      by_test true e = inl e
      by_test false e = inr (λ h. false≢true (sym e ∙ h))

  message_or : (n : NodeState) (d : Data) → IsHidden tag n (acts.Receive (packets.Data d))
      ⊎ (¬ IsHidden tag n (acts.Receive (packets.Data d)))
  message_or n d = by_receiver (veiled_or (process_of n d.receiver)) (tagged_or d)
    where
      by_receiver : IsVeiled tag (process_of n d.receiver)
          ⊎ (¬ IsVeiled tag (process_of n d.receiver))
          → In d.secrecy tag ⊎ (¬ In d.secrecy tag)
          → IsHidden tag n (acts.Receive (packets.Data d))
          ⊎ (¬ IsHidden tag n (acts.Receive (packets.Data d)))
      by_receiver (inl veiled) has = inl (inl veiled)
      by_receiver (inr shown) (inl has) = inl (inr has)
      by_receiver (inr shown) (inr lacks) = inr (λ h. elim h [ inl v ↦ shown v | inr t ↦ lacks t ])

  -- an act is hidden, or not
  pub told : (n : NodeState) (act : Act) → IsHidden tag n act ⊎ (¬ IsHidden tag n act)
  told n (acts.Job desk upto Proc) = inr (λ h. h)
  told n (acts.Job desk upto (By pid act)) = veiled_or (process_of n pid)
  told n (acts.Job desk upto (Member root what)) = inr (λ h. h)
  told n (acts.Job desk upto (Arrive d)) = veiled_or (process_of n d.receiver)
  told n acts.Save = inr (λ h. h)
  told n acts.Publish = inr (λ h. h)
  told n acts.Cancel = inr (λ h. h)
  told n (acts.Restart keeps) = inr (λ h. h)
  told n acts.Tell = inr (λ h. h)
  told n (acts.Receive (packets.Full batch)) = inr (λ h. h)
  told n (acts.Receive (packets.Delta batch)) = inr (λ h. h)
  told n (acts.Receive (packets.Have window)) = inr (λ h. h)
  told n (acts.Receive (packets.Data d)) = message_or n d

  -- one that is not is open
  pub open_act : (n : NodeState) (act : Act) → ¬ IsHidden tag n act → IsOpenAct tag n act
  open_act n (acts.Job desk upto Proc) shown = tt
  open_act n (acts.Job desk upto (By pid act)) shown = shown
  open_act n (acts.Job desk upto (Member root what)) shown = tt
  open_act n (acts.Job desk upto (Arrive d)) shown = shown
  open_act n acts.Save shown = tt
  open_act n acts.Publish shown = tt
  open_act n acts.Cancel shown = tt
  open_act n (acts.Restart keeps) shown = tt
  open_act n acts.Tell shown = tt
  open_act n (acts.Receive (packets.Full batch)) shown = tt
  open_act n (acts.Receive (packets.Delta batch)) shown = tt
  open_act n (acts.Receive (packets.Have window)) shown = tt
  open_act n (acts.Receive (packets.Data d)) shown = λ veiled. shown (inl veiled)

  -- a start and an end are not
  begins_open : (old : Option Machine) (k : Kept) (saying : Saying)
      → ¬ IsHiddenDoing tag old (Begins k saying)
  begins_open None k saying h = h
  begins_open (Some (Down j)) k saying h = h
  begins_open (Some (Up s)) k saying h = h

  stops_open : (old : Option Machine) (k : Kept) → ¬ IsHiddenDoing tag old (Stops k)
  stops_open None k h = h
  stops_open (Some (Down j)) k h = h
  stops_open (Some (Up s)) k h = h

  -- what is hidden leaves its node alike
  pub hidden_step : (number : ℕ) (s : KeptNode) (act : Act) {o : Outcome} → IsHidden tag s.node act
      → IsSealed tag s.node act o.says → HasSafeEndpoints s.node
      → ((pid : Pid) → IsOrder (Does act o) pid → ¬ IsVeiled tag (process_of s.node pid))
      → MachineStep number s act o → AreKeptAlike tag s o.after
  hidden_step number s (acts.Job desk upto (By pid act)) {o} hidden sealed safe held step =
      job_step_hidden tag number s (record { veiled = hidden; lacks = sealed.lacks hidden })
      (sealed.bears hidden)
      (λ order e. held pid (record {
        desk = desk;
        upto = upto;
        order = order;
        came = o;
        is = ap (λ a. Does (acts.Job desk upto (By pid a)) o) e;
      }) hidden)
      step
  hidden_step number s (acts.Job desk upto Proc) hidden sealed safe held step = absurd hidden
  hidden_step number s (acts.Job desk upto (Member root what)) hidden sealed safe held step =
      absurd hidden
  hidden_step number s (acts.Job desk upto (Arrive d)) hidden sealed safe held
      (MachineStep.no_desk none) =
      same_kept tag s
  hidden_step number s (acts.Job desk upto (Arrive d)) hidden sealed safe held
      (MachineStep.no_such_job is) =
      same_kept tag s
  hidden_step number s (acts.Job desk upto (Arrive d)) hidden sealed safe held
      (MachineStep.job asked does) =
      absurd (asked tt)
  hidden_step number s acts.Save hidden sealed safe held step = absurd hidden
  hidden_step number s acts.Publish hidden sealed safe held step = absurd hidden
  hidden_step number s acts.Cancel hidden sealed safe held step = absurd hidden
  hidden_step number s (acts.Restart keeps) hidden sealed safe held step = absurd hidden
  hidden_step number s acts.Tell hidden sealed safe held step = absurd hidden
  hidden_step number s (acts.Receive (packets.Full batch)) hidden sealed safe held step =
      absurd hidden
  hidden_step number s (acts.Receive (packets.Delta batch)) hidden sealed safe held step =
      absurd hidden
  hidden_step number s (acts.Receive (packets.Have window)) hidden sealed safe held step =
      absurd hidden
  hidden_step number s (acts.Receive (packets.Data d)) hidden sealed safe held step =
      message_step_hidden tag s d hidden sealed safe step

  pub kept_back : {s r t : KeptNode} → AreKeptAlike tag s t → AreKeptAlike tag s r
      → AreKeptAlike tag t r
  kept_back a e = record {
    nodes = joined_node tag (turned_node tag a.nodes) e.nodes;
    kept = sym a.kept ∙ e.kept;
  }

  -- ---- side by side

  -- who let something out has no tag, so an order that comes next is of such a one
  held_next : (number : ℕ) (s : KeptNode) (act : Act) (o : Outcome) (ds : List Doing)
      → IsSealed tag s.node act o.says → MachineStep number s act o
      → AreGuardedBehind (Does act o) ds
      → HoldsOrders tag (Some (Up o.after)) ds
  held_next number s act o [] sealed step guards = tt
  held_next number s act o (d ∷ ds) sealed step guards = λ pid orders.
      let out = guards.0 pid orders in
      let is = out.is in
      let asked : act ≡ acts.Job out.desk out.upto (By pid (Emit out.bytes)) = cc in
      let came : o ≡ out.came = cc in
      emitted_open tag number s
      (subst (λ a. IsHidden tag s.node a
      → LacksMinus (Listed s.node.published) tag (concerned s.node a)) asked sealed.lacks)
      (subst (λ a. MachineStep number s a o) asked step)
      (ap (λ (x : Outcome). x.says) came ∙ out.says)

  held_begun : (old : Option Machine) (k : Kept) (saying : Saying) (ds : List Doing)
      → AreGuardedBehind (Begins k saying) ds → HoldsOrders tag old ds
  held_begun old k saying [] guards = tt
  held_begun old k saying (d ∷ ds) guards = λ pid orders.
      let is = (guards.0 pid orders).is in absurd (cc)

  held_stopped : (old : Option Machine) (k : Kept) (ds : List Doing)
      → AreGuardedBehind (Stops k) ds → HoldsOrders tag old ds
  held_stopped old k [] guards = tt
  held_stopped old k (d ∷ ds) guards = λ pid orders.
      let is = (guards.0 pid orders).is in absurd (cc)

  module _ (desks number : ℕ) (ds : List Doing) (new : Option Machine) where
    -- the runs go on from machines that are alike
    abbrev GoOn : Option Machine → Type 0
    GoOn mid = (between : Option Machine) → AreAlikeMachines tag mid between
        → HoldsOrders tag mid ds → RunsToo tag desks number mid between ds new

    -- both do the same
    both_do : {old other mid between : Option Machine} (d e : Doing)
        → Goes desks number old d mid → ¬ IsHiddenDoing tag old d
        → Goes desks number other e between → IsSameDoing d e
        → RunsToo tag desks number mid between ds new
        → RunsToo tag desks number old other (d ∷ ds) new
    both_do d e goes shown too same rest = record {
      others = e ∷ rest.others;
      last = rest.last;
      runs = SideBySide.both goes shown too same rest.runs;
      alike = rest.alike;
    }

    act_too : (s r : KeptNode) (act : Act) (o : Outcome) → AreKeptAlike tag s r
        → IsSealed tag s.node act o.says
        → HasSafeEndpoints s.node
        → ((pid : Pid) → IsOrder (Does act o) pid → ¬ IsVeiled tag (process_of s.node pid))
        → AreGuardedBehind (Does act o) ds → MachineStep number s act o
        → GoOn (Some (Up o.after)) → IsHidden tag s.node act ⊎ (¬ IsHidden tag s.node act)
        → RunsToo tag desks number (Some (Up s)) (Some (Up r)) (Does act o ∷ ds) new
    act_too s r act o alike sealed safe held guards step again (inl hidden) =
        let near = hidden_step number s act hidden sealed safe held step in
        let rest = again (Some (Up r)) (kept_back near alike)
        (held_next number s act o ds sealed step guards) in
        record {
          others = rest.others;
          last = rest.last;
          runs = SideBySide.alone (Goes.does step) hidden rest.runs;
          alike = rest.alike;
        }
    act_too s r act o alike sealed safe held guards step again (inr shown) =
        let too = steps_too number act alike (open_act s.node act shown) (sealed.looks shown)
        (sealed.ample shown) step in
        both_do (Does act o) (Does act too.came) (Goes.does step) shown (Goes.does too.steps)
        (refl, too.same)
        (again (Some (Up too.came.after)) too.alike
        (held_next number s act o ds sealed step guards))

    -- a process starts at both
    begun_too : {old mid : Option Machine} (other : Option Machine) (k : Kept) (saying : Saying)
        → old ≡ other → Goes desks number old (Begins k saying) mid
        → AreAlikeMachines tag mid mid → AreGuardedBehind (Begins k saying) ds → GoOn mid
        → RunsToo tag desks number old other (Begins k saying ∷ ds) new
    begun_too {old} {mid} other k saying same goes alike guards again =
        both_do (Begins k saying) (Begins k saying) goes (begins_open old k saying)
        (subst (λ z. Goes desks number z (Begins k saying) mid) same goes) (refl, refl)
        (again mid alike (held_begun mid k saying ds guards))

    one_too : {old mid : Option Machine} {d : Doing} (other : Option Machine)
        → IsSafeMachine old → Goes desks number old d mid → IsSealedDoing tag old d
        → AreAlikeMachines tag old other
        → ((pid : Pid) → IsOrder d pid → IsOpenOn tag old pid) → AreGuardedBehind d ds
        → GoOn mid → RunsToo tag desks number old other (d ∷ ds) new
    one_too None safe (Goes.born {k} {left} {n} blank opening) sealed alike held guards again =
        begun_too None k (Replies (Booted n.boot)) refl (Goes.born blank opening)
        (same_kept tag (record { node = n; kept = left })) guards again
    one_too None safe (Goes.not_born {k} {fault = fault} blank opening) sealed alike held guards
        again =
        begun_too None k (Replies (Refused fault)) refl (Goes.not_born blank opening) tt guards
        again
    one_too (Some (Down j)) safe (Goes.opens {k} {left} {n} opening) sealed alike held guards
        again =
        begun_too (Some (Down j)) k (Replies (Booted n.boot)) (ap (λ z. Some (Down z)) alike)
        (Goes.opens opening) (same_kept tag (record { node = n; kept = left })) guards again
    one_too (Some (Down j)) safe (Goes.not_opened {k} {fault = fault} opening) sealed alike held
        guards again =
        begun_too (Some (Down j)) k (Replies (Refused fault)) (ap (λ z. Some (Down z)) alike)
        (Goes.not_opened opening) refl guards again
    one_too (Some (Up r)) safe (Goes.does {s} {act} {o} step) sealed alike held guards again =
        act_too s r act o alike sealed safe held guards step again (told s.node act)
    one_too (Some (Up r)) safe (Goes.stops {s} {k} leaves) sealed alike held guards again =
        both_do (Stops k) (Stops k) (Goes.stops leaves) (stops_open (Some (Up s)) k)
        (Goes.stops (leaves_same alike.kept alike.nodes.state leaves)) refl
        (again (Some (Down k)) refl (held_stopped (Some (Down k)) k ds guards))
    one_too (Some x) safe (Goes.born blank opening) sealed alike held guards again = absurd alike
    one_too (Some x) safe (Goes.not_born blank opening) sealed alike held guards again =
        absurd alike
    one_too None safe (Goes.opens opening) sealed alike held guards again = absurd alike
    one_too None safe (Goes.not_opened opening) sealed alike held guards again = absurd alike
    one_too (Some (Up r)) safe (Goes.opens opening) sealed alike held guards again = absurd alike
    one_too (Some (Up r)) safe (Goes.not_opened opening) sealed alike held guards again =
        absurd alike
    one_too None safe (Goes.does step) sealed alike held guards again = absurd alike
    one_too None safe (Goes.stops leaves) sealed alike held guards again = absurd alike
    one_too (Some (Down k)) safe (Goes.does step) sealed alike held guards again = absurd alike
    one_too (Some (Down k)) safe (Goes.stops leaves) sealed alike held guards again = absurd alike

  -- each order but the first doing is guarded
  abbrev Behind : List Doing → Type 0
  Behind [] = Unit {0}
  Behind (d ∷ ds) = AreGuardedBehind d ds

  behind_next : (d : Doing) (ds : List Doing) → AreGuardedBehind d ds → Behind ds
  behind_next d [] guards = tt
  behind_next d (e ∷ ds) guards = guards.1

  goes_too : (desks number : ℕ) (old other new : Option Machine) (ds : List Doing)
      → IsSafeMachine old → AreAlikeMachines tag old other → HoldsOrders tag old ds → Behind ds
      → GoesSealed tag desks number old ds new → RunsToo tag desks number old other ds new
  goes_too desks number old other new [] safe alike held guards same = record {
    others = [];
    last = other;
    runs = subst (λ z. SideBySide tag desks number old other [] [] z other) (sym same)
        SideBySide.ends;
    alike = subst (λ z. AreAlikeMachines tag z other) (sym same) alike;
  }
  goes_too desks number old other new (d ∷ ds) safe alike held guards run =
      one_too desks number ds new other safe run.1 run.2 alike held guards
      (λ between near holds. goes_too desks number run.0 between new ds (goes_safe safe run.1) near
      holds
      (behind_next d ds guards) run.3)

  holds_first : (old : Option Machine) (ds : List Doing) → AreGuarded ds → HoldsOrders tag old ds
  holds_first old [] guards = tt
  holds_first old (d ∷ ds) guards = λ pid orders. absurd (guards.0 pid orders)

  behind_first : (ds : List Doing) → AreGuarded ds → Behind ds
  behind_first [] guards = tt
  behind_first (d ∷ ds) guards = guards.1

  pub runs_too : (desks number : ℕ) (old other new : Option Machine) (ds : List Doing)
      → IsSafeMachine old → AreAlikeMachines tag old other → AreGuarded ds
      → GoesSealed tag desks number old ds new → RunsToo tag desks number old other ds new
  runs_too desks number old other new ds safe alike guards run =
      goes_too desks number old other new ds safe alike (holds_first old ds guards)
      (behind_first ds guards) run

  -- each of the two is a run
  pub each_runs : {desks number : ℕ} {old other new last : Option Machine} {ds es : List Doing}
      → SideBySide tag desks number old other ds es new last
      → GoesOn desks number old ds new × GoesOn desks number other es last
  each_runs SideBySide.ends = (refl, refl)
  each_runs (SideBySide.alone {mid = mid} goes hidden rest) =
      let both = each_runs rest in ((mid, goes, both.0), both.1)
  each_runs (SideBySide.both {mid = mid} {between} goes shown too same rest) =
      let both = each_runs rest in ((mid, goes, both.0), (between, too, both.1))
