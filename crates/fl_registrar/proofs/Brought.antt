-- What a packet brings to a node, and to the books.
use Rattle.std.proofs.Common.{◌≡◌, ◌<◌, ℕ, Option, Some, None, Result, Ok, Err, List, [], ◌∷◌, Bool}
use Rattle.std.proofs.Common.{true, false, not, ◌≢◌, length, refl, sym, ap, ◌∙◌, subst, arith}
use Rattle.std.specs.List.{Contains, filter}
use Rattle.std.specs.Option.{is_some}
use Rattle.std.proofs.lemmas.Bool.{false≢true}
use Rattle.std.proofs.lemmas.List.Elements.{All-contains, filter_passes}
use Rattle.fl_labels.specs.SetBy as set
use Rattle.fl_labels.specs.SetBy.{SetBy, In, contains, members, of_list, len, len-members, same_set}
use Rattle.fl_ops.specs.OpOrder.{op_cmp}
use Rattle.fl_ops.specs.OpLaws.{op_total, op_exact}
use Rattle.fl_ops.specs.declared.op.Op.{Op}
use Rattle.fl_opset.specs.laws.Members.{listed_in, listed_member, Contains-filter}
use Rattle.fl_opset.specs.laws.Members.{Contains-unfilter}
use Rattle.fl_jobs.specs.declared.answer.Refusal.TheVariants as refusals
use Rattle.fl_system.specs.declared.answer.Fault.{Fault}
use Rattle.fl_system.specs.declared.answer.Fault.TheVariants as faults
use Rattle.fl_system.specs.declared.state.Batch.{Batch}
use Rattle.fl_system.specs.declared.state.Batch.TheVariants.{Received}
use Rattle.fl_system.specs.declared.state.Pending.TheVariants.{Due, Nothing, Unsaved}
use Rattle.fl_system.specs.declared.state.State.{State}
use Rattle.fl_system.specs.declared.state.State.TheVariants.{Running, Stopped}
use Rattle.fl_system.specs.State.{NodeState, ops_of}
use Rattle.fl_system.specs.Begins.{pending_with}
use Rattle.fl_system.specs.Publishes.{Cancels, cancelled_with}
use Rattle.fl_system.specs.Receives.{Receives, CanTake, AreLacking, HasNew}
use Rattle.fl_system.specs.Waiting.{IsTaken, NotRunning}
use Rattle.fl_crew_model.specs.Books.{Books, Declines, page}
use Rattle.fl_crew_model.specs.Registering.{Reflects, IsRegistrar}
use Rattle.fl_registrar.specs.declared.waiting.Stage.{Stage}
use Rattle.fl_registrar.specs.declared.waiting.Stage.TheVariants.{Saved, Listed, Staged}
use Rattle.fl_registrar.specs.declared.waiting.Waiting.{Waiting}
use Rattle.fl_registrar.specs.Taking.{news_of}
use Rattle.fl_registrar.specs.parts.Stages.{IsAt}
use Rattle.fl_registrar.specs.parts.Sound.{Stands, due_of}
use Rattle.fl_registrar.proofs.Nodes.{cancelled_as}

-- ---- the node

pub not_received : (n n' : NodeState) (ops : SetBy op_cmp) (fault : Fault)
    → Receives n ops (Err fault) n' → n' ≡ n
not_received n n' ops fault (Receives.stopped why) = refl
not_received n n' ops fault (Receives.no_room on some) = refl
not_received n n' ops fault (Receives.impostor on first bad) = refl
not_received n n' ops fault (Receives.clash on first bad) = refl
not_received n n' ops fault (Receives.taken op on may there new why) = refl

not_running : (s : State) (fault : Fault) → NotRunning s fault → fault ≢ faults.KeeperFailed
not_running (Running pending) fault why = absurd why
not_running (Stopped doubt) fault why = λ is. (let e = sym why ∙ is in cc)

not_taken : (s : State) (fault : Fault) → IsTaken s fault → fault ≢ faults.KeeperFailed
not_taken (Running Nothing) fault why = absurd why
not_taken (Running (Unsaved batch)) fault why = λ is. (let e = sym why ∙ is in cc)
not_taken (Running (Due batch)) fault why = λ is. (let e = sym why ∙ is in cc)
not_taken (Stopped doubt) fault why = λ is. (let e = sym why ∙ is in cc)

-- by which no packet is told that the keeper broke
pub not_broken : (n n' : NodeState) (ops : SetBy op_cmp) (fault : Fault)
    → Receives n ops (Err fault) n' → fault ≢ faults.KeeperFailed
not_broken n n' ops fault (Receives.stopped why) = not_running n.state fault why
not_broken n n' ops fault (Receives.no_room on some) = λ is. cc
not_broken n n' ops fault (Receives.impostor on first bad) = λ is. cc
not_broken n n' ops fault (Receives.clash on first bad) = λ is. cc
not_broken n n' ops fault (Receives.taken op on may there new why) = not_taken n.state fault why

pub none_received : (n n' : NodeState) (ops : SetBy op_cmp) (count : ℕ) → count ≡ 0
    → Receives n ops (Ok count) n' → n' ≡ n
none_received n n' ops count none (Receives.nothing_new on may all) = refl
none_received n n' ops count none (Receives.receives idle may lacking some) =
    absurd (omega (arith, some, none))

-- what is new is on its way
pub record Brings (n : NodeState) (ops : SetBy op_cmp) (count : ℕ) (mid : NodeState) : Type 0 where
  pub new : SetBy op_cmp
  pub idle : n.state ≡ Running Nothing
  pub may : CanTake n ops
  pub lacking : AreLacking n ops new
  pub some : 0 < set.len new
  pub is : mid ≡ pending_with n (Received new)

pub brings : (n mid : NodeState) (ops : SetBy op_cmp) (count : ℕ) → 0 < count
    → Receives n ops (Ok count) mid → Brings n ops count mid
brings n mid ops count some (Receives.nothing_new on may all) = absurd (omega (arith, some))
brings n mid ops count some (Receives.receives {new = new} idle may lacking more) =
    record { new = new; idle = idle; may = may; lacking = lacking; some = more; is = refl }

pub packet_back : (n : NodeState) (new : SetBy op_cmp) → n.state ≡ Running Nothing
    → cancelled_with (pending_with n (Received new)) (Received new) ≡ n
packet_back n new idle = ap (λ (s : State). record n { state = s }) (sym idle)

pub undone : (n mid n' : NodeState) (ops : SetBy op_cmp) (count : ℕ)
    (result : Result (Unit {0}) Fault) → Brings n ops count mid → Cancels mid result n' → n' ≡ n
undone n mid n' ops count result b cancels =
    cancelled_as mid n' (Received b.new) result (ap (λ (m : NodeState). m.state) b.is) cancels
    ∙ ap (λ (m : NodeState). cancelled_with m (Received b.new)) b.is
    ∙ packet_back n b.new b.idle

-- ---- what is new

passes : {X : Type 0} (p : X → Bool) (xs : List X) (x : X) → Contains (filter p xs) x → p x ≡ true
passes p xs x c = All-contains (λ y. p y ≡ true) (filter p xs) x (filter_passes p xs) c

untold : (b : Bool) → ¬ (b ≡ true) → not b ≡ true
untold true h = absurd (h refl)
untold false h = refl

told : (b : Bool) → not b ≡ true → ¬ (b ≡ true)
told true h e = false≢true h
told false h e = false≢true e

same_bools : (a b : Bool) → (a ≡ true → b ≡ true) → (b ≡ true → a ≡ true) → a ≡ b
same_bools true b f h = sym (f refl)
same_bools false true f h = h refl
same_bools false false f h = refl

in_list : (ops : List Op) (op : Op) → In (of_list {R = op_cmp} ops) op → Contains ops op
in_list ops op h = (listed_in ops (of_list ops) refl op).1 h

in_set : (ops : List Op) (op : Op) → Contains ops op → In (of_list {R = op_cmp} ops) op
in_set ops op c = (listed_in ops (of_list ops) refl op).0 c

abbrev is_new : SetBy op_cmp → Op → Bool
is_new saved op = not (contains saved op)

-- a set of what is lacking is that of what is new
pub same_news : (number : ℕ) (saved : SetBy op_cmp) (ops : List Op) (new : SetBy op_cmp)
    → AreLacking (page number saved) (of_list ops) new → new ≡ news_of saved ops
same_news number saved ops new lacking =
    same_set op_total op_exact new (news_of saved ops) (λ op. same_bools (contains new op)
    (contains (news_of saved ops) op)
    (λ h.
    let l = (lacking op).0 h in
    in_set (filter (is_new saved) ops) op (Contains-filter (is_new saved) ops op
    (in_list ops op l.0) (untold (contains saved op) l.1)))
    (λ h.
    let c = in_list (filter (is_new saved) ops) op h in
    (lacking op).1 (
      in_set ops op (Contains-unfilter (is_new saved) ops op c),
      told
          (contains saved op) (passes (is_new saved) ops op c),
    )))

-- a set that is not empty has a member
some_member : (s : SetBy op_cmp) → 0 < len s → (op : Op) × In s op
some_member s h = first (members s) refl (subst (λ k. 0 < k) (len-members s) h)
  where
    first : (xs : List Op) → members s ≡ xs → 0 < length (members s) → (op : Op) × In s op
    first [] is some = absurd (omega (arith, ap length is))
    first (x ∷ xs) is some = (
      x,
      listed_member s x (subst (λ l. Contains l x) (sym is)
          (0, omega arith, refl)),
    )

-- ---- the books

abbrev pub books_at : NodeState → List Op → Option Batch → Books
books_at n list due = record { saved = n.saved; list = list; due = due }

any_due : (n : NodeState) (list : List Op) (due : Option Batch) (ops : SetBy op_cmp)
    (answer : Result ℕ Fault) → Declines n.number (books_at n list None) ops answer
    → Declines n.number (books_at n list due) ops answer
any_due n list due ops answer (Declines.no_room is some) = Declines.no_room is some
any_due n list due ops answer (Declines.impostor op is first bad) = Declines.impostor op is first
    bad
any_due n list due ops answer (Declines.clash op is first bad) = Declines.clash op is first bad
any_due n list due ops answer (Declines.nothing_new is may all) = Declines.nothing_new is may all
any_due n list due ops answer (Declines.busy op batch is may there new at) = absurd (cc)

module _ (n : NodeState) (list : List Op) (ops : SetBy op_cmp) (answer : Result ℕ Fault)
    (law : (b : Books) → IsRegistrar n.number n b → Declines n.number b ops answer) where
  by_law : (due : Option Batch) → Reflects n.state due → Declines n.number (books_at n list due)
      ops answer
  by_law due h = law (books_at n list due) (record { numbered = refl; saved = refl; reflects = h })

  idle_law : n.state ≡ Running Nothing → Declines n.number (books_at n list None) ops answer
  idle_law is = by_law None (subst (λ (s : State). Reflects s None) (sym is) refl)

  by_stage : (stage : Stage) (batch : Batch) → IsAt stage n list (ops_of batch)
      → Declines n.number (books_at n list (Some batch)) ops answer
  by_stage Saved batch at = by_law (Some batch) (subst (λ (s : State). Reflects s (Some batch))
      (sym at.state) (batch, refl))
  by_stage Listed batch at = any_due n list (Some batch) ops answer (idle_law at.state)
  by_stage Staged batch at = any_due n list (Some batch) ops answer (idle_law at.state)

  stood : (waiting : Option Waiting) → Stands false waiting n list
      → Declines n.number (books_at n list (due_of waiting)) ops answer
  stood None at = idle_law at.state
  stood (Some waiting) at = by_stage waiting.stage waiting.batch at

  -- what the law says of a registrar's node is so whatever waits
  pub declines_by : (stopped : Bool) (waiting : Option Waiting) → stopped ≡ false
      → Stands stopped waiting n list → Declines n.number (books_at n list (due_of waiting))
      ops answer
  declines_by stopped waiting runs at = stood waiting (subst
      (λ (s : Bool). Stands s waiting n list) runs at)

on_page : (n : NodeState) (ops : SetBy op_cmp) → CanTake n ops → CanTake (page n.number n.saved) ops
on_page n ops may op m = (
  λ i. (may op m).0 (record { own = i.own; unknown = i.unknown }),
  λ c. (may op m).1 (record {
    other = c.other;
    there = c.there;
    same_name = c.same_name;
    differs = c.differs;
  }),
)

-- one of what it brings is new
pub brought_new : (n mid : NodeState) (ops : SetBy op_cmp) (count : ℕ) → Brings n ops count mid
    → HasNew (page n.number n.saved) ops
brought_new n mid ops count b =
    let it = some_member b.new b.some in
    let l = (b.lacking it.0).0 it.1 in
    record { may = on_page n ops b.may; op = it.0; there = l.0; new = l.1 }

busy_by : (n mid : NodeState) (list : List Op) (ops : SetBy op_cmp) (count : ℕ) (waiting : Waiting)
    → Brings n ops count mid
    → Declines n.number (books_at n list (Some waiting.batch)) ops
    (Err (faults.Refused refusals.Busy))
busy_by n mid list ops count waiting b =
    let it = some_member b.new b.some in
    let l = (b.lacking it.0).0 it.1 in
    Declines.busy it.0 waiting.batch refl (on_page n ops b.may) l.0 l.1 refl

pub busy_waiting : (n mid : NodeState) (list : List Op) (ops : SetBy op_cmp) (count : ℕ)
    (waiting : Option Waiting) → is_some waiting ≡ true → Brings n ops count mid
    → Declines n.number (books_at n list (due_of waiting)) ops (Err (faults.Refused refusals.Busy))
busy_waiting n mid list ops count (Some waiting) some b = busy_by n mid list ops count waiting b
busy_waiting n mid list ops count None some b = absurd (cc)
