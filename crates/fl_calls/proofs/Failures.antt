-- Why a line says that a keeper failed, from its calls.
use Rattle.std.proofs.Common.{◌≡◌, ◌≢◌, ◌⊎◌, ◌∙◌, inl, inr, ℕ, refl, sym, ap, subst, Bool, true, false, Option, Some, None, Result, Ok, Err, IfOk, IfErr}
use Rattle.std.specs.FinMap as map
use Rattle.fl_labels.specs.SetBy.{SetBy}
use Rattle.fl_ops.specs.OpOrder.{op_cmp}
use Rattle.fl_store.specs.Custody.{Custody}
use Rattle.fl_makers.specs.Making.{Making}
use Rattle.fl_wire.specs.declared.packet.Packet.{Packet}
use Rattle.fl_system.specs.declared.answer.Fault.{Fault}
use Rattle.fl_system.specs.declared.answer.Fault.TheVariants as faults
use Rattle.fl_system.specs.declared.event.Event.{Event}
use Rattle.fl_system.specs.declared.event.Event.TheVariants as event
use Rattle.fl_system.specs.declared.reply.Reply.{Reply}
use Rattle.fl_system.specs.declared.reply.Reply.TheVariants as reply
use Rattle.fl_system.specs.declared.state.State.{State}
use Rattle.fl_system.specs.declared.state.State.TheVariants.{Running, Stopped}
use Rattle.fl_system.specs.State.{NodeState}
use Rattle.fl_system.specs.Waiting.{NotRunning}
use Rattle.fl_system.specs.World.{World}
use Rattle.fl_system.specs.WorldSteps.{node_of}
use Rattle.fl_node.specs.Causes.{KeeperFails}
use Rattle.fl_node.specs.Checking.{AreRefused, Counts, Checks}
use Rattle.fl_node.specs.Over.{NodeOver}
use Rattle.fl_nodes.specs.Failing.{FailsIn, IsBrokenAt}
use Rattle.fl_nodes.specs.Goes.{AreHonest, Goes}
use Rattle.fl_nodes.specs.Over.{WorldOver}
use Rattle.fl_calls.specs.declared.response.Response.{Response}
use Rattle.fl_calls.specs.declared.response.Response.TheVariants as response
use Rattle.fl_calls.specs.Completing.{starved}
use Rattle.fl_calls.specs.Entering.{Enters}
use Rattle.fl_calls.specs.Failing.{SaysFailed, FailsOnceOpen, FailsCompleting}
use Rattle.fl_calls.specs.Over.{ClusterOver, GoesOn}
use Rattle.fl_calls.specs.parts.Coming.{coming}

-- ---- faults and responses

same_fault : (fault other : Fault) → reply.Refused fault ≡ reply.Refused other → fault ≡ other
same_fault fault other e = cc

no_starving : starved ≡ reply.Refused faults.KeeperFailed → ⊥
no_starving e = cc

no_stop : faults.KeeperFailed ≡ faults.Stopped → ⊥
no_stop e = cc

pub says_reply : (r : Reply) → SaysFailed (response.Reply r) → r ≡ reply.Refused faults.KeeperFailed
says_reply r SaysFailed.refused = refl

pub says_so : (r : Reply) → r ≡ reply.Refused faults.KeeperFailed → SaysFailed (response.Reply r)
says_so r is = subst (λ other. SaysFailed (response.Reply other)) (sym is) SaysFailed.refused

-- nothing else says so
pub says_unknown : SaysFailed response.Unknown → ⊥
says_unknown says = elim says [ ]

pub says_place : (place : ℕ) → SaysFailed (response.BadPacket place) → ⊥
says_place place says = elim says [ ]

pub says_refused : (r : Response) (fault : Fault) → r ≡ response.Reply (reply.Refused fault) → SaysFailed r → fault ≡ faults.KeeperFailed
says_refused r fault is says = same_fault fault faults.KeeperFailed (says_reply (reply.Refused fault) (subst SaysFailed is says))

pub says_starved : (r : Response) → r ≡ response.Reply starved → SaysFailed r → ⊥
says_starved r is says = no_starving (says_reply starved (subst SaysFailed is says))

says_dropped : (fault : Fault) → SaysFailed (response.Dropped fault) → reply.Refused fault ≡ reply.Refused faults.KeeperFailed
says_dropped fault SaysFailed.dropped = refl

-- of a packet that came
pub says_coming : (message : Bool) (r : Reply) → SaysFailed (coming message r) → r ≡ reply.Refused faults.KeeperFailed
says_coming false r says = says_reply r says
says_coming true (reply.Refused fault) says = says_dropped fault says
says_coming true other says = says_reply other says

pub no_drop : (r : Reply) (fault : Fault) → response.Reply r ≢ response.Dropped fault
no_drop r fault e = cc

same_drop : (fault : Fault) → response.Dropped fault ≡ response.Dropped faults.KeeperFailed → fault ≡ faults.KeeperFailed
same_drop fault e = cc

no_message : false ≡ true → ⊥
no_message e = cc

pub drops : (message : Bool) (r : Reply) → (r ≡ reply.Refused faults.KeeperFailed → message ≡ false)
    → coming message r ≢ response.Dropped faults.KeeperFailed
drops false r none e = no_drop _ _ e
drops true (reply.Refused fault) none e = no_message (sym (none (ap reply.Refused (same_drop fault e))))
drops true other none e = no_drop other _ e

-- ---- what an event begins

-- where saving wants memory no keeper failed
pub starves : (r : Reply) → r ≡ starved → r ≡ reply.Refused faults.KeeperFailed → ⊥
starves r is failed = no_starving (sym is ∙ failed)

module _ {K : Type 0} (custody : Custody K) (old new : WorldOver K) where
  pub once_finished : (e : Event) (number : ℕ) → number ≡ node_of e → IsBrokenAt custody new number
      → FailsCompleting custody old new e
  once_finished e number is broken = inr (subst (IsBrokenAt custody new) is broken)

  no_fault : (packet number : ℕ) → FailsIn custody old new (event.Deliver packet number) → ⊥
  no_fault packet number h = elim h [ ]

  -- as a packet comes no keeper fails
  pub none_coming : (e : Event) (packet number : ℕ) → e ≡ event.Deliver packet number → FailsIn custody old new e → ⊥
  none_coming e packet number is h = no_fault packet number (subst (FailsIn custody old new) is h)

  pub once_come : (e : Event) (packet number : ℕ) → e ≡ event.Deliver packet number → FailsCompleting custody old new e
      → IsBrokenAt custody new number
  once_come e packet number is (inl h) = absurd (none_coming e packet number is h)
  once_come e packet number is (inr broken) = subst (λ f. IsBrokenAt custody new (node_of f)) is broken

-- ---- what is asked of nodes that are there

not_running : (s : State) → NotRunning s faults.KeeperFailed → ⊥
not_running (Running pending) h = h
not_running (Stopped doubt) h = no_stop h

pub stopped_otherwise : (s : State) (fault : Fault) (r : Response) → NotRunning s fault → r ≡ response.Reply (reply.Refused fault)
    → SaysFailed r → ⊥
stopped_otherwise s fault r stopped is says = not_running s (subst (NotRunning s) (says_refused r fault is says) stopped)

are_refused : (n : NodeState) (ops : SetBy op_cmp) → AreRefused n ops faults.KeeperFailed → ⊥
are_refused n ops h = elim h [ ]

counts : (n : NodeState) (ops : SetBy op_cmp) → Counts n ops (Err faults.KeeperFailed) → ⊥
counts n ops (Counts.refused h) = are_refused n ops h

checks : (n : NodeState) (packet : Packet) → Checks n packet (Err faults.KeeperFailed) → ⊥
checks n packet (Checks.stopped h) = not_running n.state h
checks n packet (Checks.full running h) = counts n _ h
checks n packet (Checks.delta running h) = counts n _ h

pub checks_otherwise : (n : NodeState) (packet : Packet) (fault : Fault) (r : Response) → Checks n packet (Err fault)
    → r ≡ response.Reply (reply.Refused fault) → SaysFailed r → ⊥
checks_otherwise n packet fault r refused is says =
    checks n packet (subst (λ f. Checks n packet (Err f)) (says_refused r fault is says) refused)

-- ---- how a node is opened

pub no_node : {X : Type 0} (o : Option X) (x : X) → o ≡ None → o ≡ Some x → ⊥
no_node o x none some = cc

some_one : {X : Type 0} (o : Option X) → (o ≡ None → ⊥) → (x : X) × (o ≡ Some x)
some_one None h = absurd (h refl)
some_one (Some x) h = (x, refl)

module _ {K M : Type 0} (here : WorldOver K) (maker : M) (old : ClusterOver K M) (is : record { world = here; maker = maker } ≡ old) where
  -- a node that is not missing is there
  pub one_there : (number : ℕ) → (map.get here.nodes number ≡ None → ⊥) → (n : NodeOver K) × (map.get old.world.nodes number ≡ Some n)
  one_there number h =
      some_one (map.get old.world.nodes number) (λ none. h (ap (λ (c : ClusterOver K M). map.get c.world.nodes number) is ∙ none))

  -- the world is as it was
  pub as_before : (now : WorldOver K) → now ≡ here → record { world = now; maker = maker } ≡ old
  as_before now same = (λ i. record { world = same i; maker = maker }) ∙ is

-- an opened node has no such fault
pub no_error : (u : Unit {0}) → ◌≡◌ {A = Result (Unit {0}) Fault} (Ok u) (Err faults.KeeperFailed) → ⊥
no_error u e = cc

same_error : (fault : Fault) → ◌≡◌ {A = Result (Unit {0}) Fault} (Err fault) (Err faults.KeeperFailed) → fault ≡ faults.KeeperFailed
same_error fault e = cc

-- no keeper was made
pub not_made : (Refuses : Fault → Type 0) (fault : Fault) → Refuses fault
    → ◌≡◌ {A = Result (Unit {0}) Fault} (Err fault) (Err faults.KeeperFailed) → Refuses faults.KeeperFailed
not_made Refuses fault why e = subst Refuses (same_error fault e) why

-- a keeper was made, and its node did not join since it failed
pub not_joined : {K : Type 0} (custody : Custody K) (broken : K → Type 0) (bad : Type 0) (Refuses : Type 0)
    (joined : Result ℕ (Fault × K)) (result : Result (Unit {0}) Fault)
    → ((left : K) → broken left ⊎ (custody.is_honest left → bad) → Refuses)
    → IfOk joined (λ boot. result ≡ Ok tt) → IfErr joined (λ e. result ≡ Err e.0)
    → IfErr joined (λ e. KeeperFails (broken e.1) (custody.is_honest e.1) bad e.0)
    → result ≡ Err faults.KeeperFailed → Refuses
not_joined custody broken bad Refuses (Ok boot) result fails ok err cause failed = absurd (no_error tt (sym ok ∙ failed))
not_joined custody broken bad Refuses (Err e) result fails ok err cause failed =
    fails e.1 (cause (same_error e.0 (sym err ∙ failed)))

module _ {K M : Type 0} (custody : Custody K) (making : Making M K) where
  -- the node was there, or was opened, and then this is why
  pub once_in : (old mid new : ClusterOver K M) (number : ℕ) (result : Result (Unit {0}) Fault) (u : Unit {0})
      (fails : ClusterOver K M → Type 0) → result ≡ Ok u
      → GoesOn custody making old mid (λ openings w w'. Enters openings w number result w')
      → ((n : NodeOver K) → map.get old.world.nodes number ≡ Some n → mid ≡ old)
      → (AreHonest custody new.world → AreHonest custody mid.world)
      → fails mid → FailsOnceOpen custody making old new number fails
  once_in old mid new number result u fails ok enters same honest why = by_place (map.get old.world.nodes number) refl
    where
      by_place : (o : Option (NodeOver K)) → map.get old.world.nodes number ≡ o → FailsOnceOpen custody making old new number fails
      by_place None none =
          FailsOnceOpen.opened none
          (subst (λ r. GoesOn custody making old mid (λ openings w w'. Enters openings w number r w')) ok enters) honest why
      by_place (Some n) at = FailsOnceOpen.there at (subst fails (same n at) why)

  -- in what happens to the world then
  pub once_asked : (old mid : ClusterOver K M) (here new : WorldOver K) (maker : M) (number : ℕ) (result : Result (Unit {0}) Fault) (u : Unit {0})
      (step : World → World → Type 0) (fails : WorldOver K → Type 0) → record { world = here; maker = maker } ≡ mid → result ≡ Ok u
      → GoesOn custody making old mid (λ openings w w'. Enters openings w number result w')
      → ((n : NodeOver K) → map.get old.world.nodes number ≡ Some n → mid ≡ old)
      → Goes custody here new step → fails here
      → FailsOnceOpen custody making old (record { world = new; maker = maker }) number (λ between. fails between.world)
  once_asked old mid here new maker number result u step fails is ok enters same goes why =
      once_in old mid (record { world = new; maker = maker }) number result u (λ between. fails between.world) ok enters same
      (λ all. subst (λ (c : ClusterOver K M). AreHonest custody c.world) is (goes.honest all))
      (subst (λ (c : ClusterOver K M). fails c.world) is why)

  -- the node was not opened
  pub once_refused : (old new : ClusterOver K M) (number : ℕ) (result : Result (Unit {0}) Fault) (fault : Fault)
      (fails : ClusterOver K M → Type 0) (r : Response) → result ≡ Err fault → r ≡ response.Reply (reply.Refused fault)
      → (result ≡ Err faults.KeeperFailed
      → (map.get old.world.nodes number ≡ None) × making.refuses old.maker number faults.KeeperFailed)
      → SaysFailed r → FailsOnceOpen custody making old new number fails
  once_refused old new number result fault fails r err is cause says =
      let why = cause (err ∙ ap Err (says_refused r fault is says)) in
      FailsOnceOpen.shut why.0 why.1
