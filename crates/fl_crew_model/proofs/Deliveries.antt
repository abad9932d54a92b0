-- The turn of a packet of operations: from the registrar's record to events of the node.
use Rattle.std.proofs.Common.{◌≡◌, inl, inr, ℕ, ◌++◌, Some, None, Result, Ok, refl, sym, ap, ◌∙◌}
use Rattle.std.proofs.Common.{subst}
use Rattle.fl_labels.specs.SetBy as set
use Rattle.fl_labels.specs.SetBy.{SetBy, In}
use Rattle.fl_ops.specs.OpOrder.{op_cmp}
use Rattle.fl_ops.specs.declared.op.Op.{Op}
use Rattle.fl_jobs.specs.declared.answer.Refusal.TheVariants.{Busy}
use Rattle.fl_store.specs.Kept.{with_ops}
use Rattle.fl_system.specs.declared.answer.Fault.{Fault}
use Rattle.fl_system.specs.declared.answer.Fault.TheVariants as faults
use Rattle.fl_system.specs.declared.state.Batch.TheVariants.{Received}
use Rattle.fl_system.specs.declared.state.Pending.TheVariants.{Nothing, Due}
use Rattle.fl_system.specs.declared.state.State.{State}
use Rattle.fl_system.specs.declared.state.State.TheVariants.{Running}
use Rattle.fl_system.specs.State.{NodeState}
use Rattle.fl_system.specs.Waiting.{IsRunning, IsTaken}
use Rattle.fl_system.specs.Begins.{pending_with}
use Rattle.fl_system.specs.Receives.{Receives, IsImpostor, IsClash, IsFirstRefused, CanTake}
use Rattle.fl_system.specs.Receives.{AreLacking, HasNew}
use Rattle.fl_system.specs.Saves.{Saves, stored}
use Rattle.fl_system.specs.Publishes.{Publishes, published_with}
use Rattle.fl_crew_model.specs.declared.record.Verdict.{Verdict}
use Rattle.fl_crew_model.specs.declared.record.Verdict.TheVariants.{Taken, TakenLate, Declined}
use Rattle.fl_crew_model.specs.declared.record.Delivery.{Delivery}
use Rattle.fl_crew_model.specs.Books.{Books, Holds, IsAt, page, Declines, IsNew, TakesBy}
use Rattle.fl_crew_model.specs.Woven.{Delivers}
use Rattle.fl_crew_model.proofs.Turns.{runs}

-- what may be taken depends on the number and the saved set alone
module _ (n : NodeState) where
  abbrev pub its_page : NodeState
  its_page = page n.number n.saved

  pub impostor_in : (o : Op) → IsImpostor its_page o → IsImpostor n o
  impostor_in o h = record { own = h.own; unknown = h.unknown }

  pub impostor_out : (o : Op) → IsImpostor n o → IsImpostor its_page o
  impostor_out o h = record { own = h.own; unknown = h.unknown }

  pub clash_in : (o : Op) → IsClash its_page o → IsClash n o
  clash_in o h = record {
    other = h.other;
    there = h.there;
    same_name = h.same_name;
    differs = h.differs;
  }

  pub clash_out : (o : Op) → IsClash n o → IsClash its_page o
  clash_out o h = record {
    other = h.other;
    there = h.there;
    same_name = h.same_name;
    differs = h.differs;
  }

  pub can_in : (ops : SetBy op_cmp) → CanTake its_page ops → CanTake n ops
  can_in ops h o m = (λ i. (h o m).0 (impostor_out o i), λ c. (h o m).1 (clash_out o c))

  pub can_out : (ops : SetBy op_cmp) → CanTake n ops → CanTake its_page ops
  can_out ops h o m = (λ i. (h o m).0 (impostor_in o i), λ c. (h o m).1 (clash_in o c))

  pub first_in : (ops : SetBy op_cmp) (o : Op) → IsFirstRefused its_page ops o
      → IsFirstRefused n ops o
  first_in ops o h =
      record {
        member = h.member;
        least =
            λ other m bad. h.least other m
            (elim bad [ inl i ↦ inl (impostor_out other i) | inr c ↦ inr (clash_out other c) ]);
      }

  pub first_out : (ops : SetBy op_cmp) (o : Op) → IsFirstRefused n ops o
      → IsFirstRefused its_page ops o
  first_out ops o h =
      record {
        member = h.member;
        least =
            λ other m bad. h.least other m
            (elim bad [ inl i ↦ inl (impostor_in other i) | inr c ↦ inr (clash_in other c) ]);
      }

-- the node after a packet: its desks and benches are as before
pub record Took (n : NodeState) (p : Delivery) (b' : Books) : Type 0 where
  pub node : NodeState
  pub goes : Delivers n p node
  pub number : node.number ≡ n.number
  pub views : node.views ≡ n.views
  pub benches : node.benches ≡ n.benches
  pub holds : Holds node b'

module _ (number : ℕ) (n : NodeState) (b : Books) (p : Delivery) (numbered : n.number ≡ number)
    (holds : Holds n b) where
  same_page : page number b.saved ≡ page n.number n.saved
  same_page = ap (λ s. page number s) (sym holds.saved) ∙ ap (λ k. page k n.saved) (sym numbered)

  can_here : (ops : SetBy op_cmp) → CanTake (page number b.saved) ops → CanTake n ops
  can_here ops h = can_in n ops (subst (λ (m : NodeState). CanTake m ops) same_page h)

  first_here : (ops : SetBy op_cmp) (o : Op) → IsFirstRefused (page number b.saved) ops o
      → IsFirstRefused n ops o
  first_here ops o h =
      first_in n ops o (subst (λ (m : NodeState). IsFirstRefused m ops o) same_page h)

  lacking_here : (ops new : SetBy op_cmp) → AreLacking (page number b.saved) ops new
      → AreLacking n ops new
  lacking_here ops new h = subst (λ (m : NodeState). AreLacking m ops new) same_page h

  runs_here : IsRunning n.state
  runs_here = runs n.state b.due holds.state

  idle_here : b.due ≡ None → n.state ≡ Running Nothing
  idle_here idle = subst (IsAt n.state) idle holds.state

  new_here : (ops : SetBy op_cmp) → HasNew (page number b.saved) ops → HasNew n ops
  new_here ops some = record {
    may = can_here ops some.may;
    op = some.op;
    there = some.there;
    new = λ m. some.new (subst (λ (s : SetBy op_cmp). In s some.op) holds.saved m);
  }

  declines_here : (ops : SetBy op_cmp) (answer : Result ℕ Fault) → Declines number b ops answer
      → Receives n ops answer n
  declines_here ops answer (Declines.no_room is some) =
      subst (λ r. Receives n ops r n) (sym is) (Receives.no_room runs_here (new_here ops some))
  declines_here ops answer (Declines.impostor o is first bad) =
      subst (λ r. Receives n ops r n) (sym is)
      (Receives.impostor runs_here (first_here ops o first)
      (impostor_in n o (subst (λ (m : NodeState). IsImpostor m o) same_page bad)))
  declines_here ops answer (Declines.clash o is first bad) =
      subst (λ r. Receives n ops r n) (sym is)
      (Receives.clash runs_here (first_here ops o first)
      (clash_in n o (subst (λ (m : NodeState). IsClash m o) same_page bad)))
  declines_here ops answer (Declines.nothing_new is may all) =
      subst (λ r. Receives n ops r n) (sym is)
      (Receives.nothing_new runs_here (can_here ops may)
      (λ o m. subst (λ (s : SetBy op_cmp). In s o) (sym holds.saved) (all o m)))
  declines_here ops answer (Declines.busy o due is may there new at) =
      let waits : n.state ≡ Running (Due due) = subst (IsAt n.state) at holds.state in
      subst (λ r. Receives n ops r n) (sym is)
      (Receives.taken o runs_here (can_here ops may) there
      (λ m. new (subst (λ (s : SetBy op_cmp). In s o) holds.saved m))
      (subst (λ (s : State). IsTaken s (faults.Refused Busy)) (sym waits) refl))

  receives_here : (ops new : SetBy op_cmp) → IsNew number b ops new
      → Receives n ops (Ok (set.len new)) (pending_with n (Received new))
  receives_here ops new h =
      Receives.receives (idle_here h.idle) (can_here ops h.may) (lacking_here ops new h.lacking)
      h.some

  take_turn : (b' : Books) (verdict : Verdict) → p.verdict ≡ verdict → TakesBy number b p verdict b'
      → Took n p b'
  take_turn b' Taken is h =
      let new = set.members h.ops in
      let first = pending_with n (Received h.ops) in
      let saved = stored first (Received h.ops) in
      let last = published_with saved (Received h.ops) in
      let at_end : Holds last
      (record { saved = with_ops b.saved new; list = b.list ++ new; due = None }) =
      record {
        saved = ap (λ s. with_ops s new) holds.saved;
        list = ap (λ l. l ++ new) holds.list;
        state = refl;
      } in
      record {
        node = last;
        goes =
            Delivers.taken (set.len h.ops) new first saved is h.are_new.some h.answer
            (receives_here (set.of_list p.ops) h.ops h.are_new) (λ k. Saves.saved refl)
            (Publishes.published refl);
        number = refl;
        views = refl;
        benches = refl;
        holds = subst (λ (x : Books). Holds last x) (sym h.new) at_end;
      }
  take_turn b' TakenLate is h =
      let new = set.members h.ops in
      let first = pending_with n (Received h.ops) in
      let saved = stored first (Received h.ops) in
      let at_end : Holds saved
      (record { saved = with_ops b.saved new; list = b.list; due = Some (Received h.ops) }) =
      record { saved = ap (λ s. with_ops s new) holds.saved; list = holds.list; state = refl } in
      record {
        node = saved;
        goes =
            Delivers.late (set.len h.ops) new first is h.are_new.some h.answer
            (receives_here (set.of_list p.ops) h.ops h.are_new) (λ k. Saves.saved refl)
            (Publishes.no_room refl);
        number = refl;
        views = refl;
        benches = refl;
        holds = subst (λ (x : Books). Holds saved x) (sym h.new) at_end;
      }
  take_turn b' Declined is h =
      record {
        node = n;
        goes = Delivers.declined is (declines_here (set.of_list p.ops) p.answer h.why);
        number = refl;
        views = refl;
        benches = refl;
        holds = subst (λ (x : Books). Holds n x) (sym h.same) holds;
      }

  pub delivered : (b' : Books) → TakesBy number b p p.verdict b' → Took n p b'
  delivered b' h = take_turn b' p.verdict refl h
