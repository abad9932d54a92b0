-- A run goes on by one more moment.
use Rattle.std.proofs.Common.{◌≡◌, ℕ, refl, sym, subst, List, [], ◌∷◌, ◌++◌, Option, Some, None, Result, Ok, Err, IfErr, IfOk, OnErr, inl}
use Rattle.std.specs.FinMap as map
use Rattle.fl_labels.specs.SetBy.{In}
use Rattle.fl_ops.specs.declared.op.Op.{Op}
use Rattle.fl_store.specs.Custody.{Custody}
use Rattle.fl_system.specs.World.{World, KeptNode, empty_world}
use Rattle.fl_system.specs.declared.reply.Reply.{Reply}
use Rattle.fl_system.specs.declared.reply.Reply.TheVariants as replies
use Rattle.fl_system.specs.declared.answer.Fault.{Fault}
use Rattle.fl_system.specs.declared.event.Event.{Event}
use Rattle.fl_system.specs.Joins.{Joins}
use Rattle.fl_system.specs.Runs.{Move, Comes, Returns, Moment, Moves, IsRun, IsReached, end}
use Rattle.fl_system.specs.Waiting.{IsRunning}
use Rattle.fl_system.specs.declared.state.State.{State}
use Rattle.fl_system.specs.declared.state.State.TheVariants.{Running, Stopped}
use Rattle.fl_system.specs.WorldSteps.{IsAt, Step}
use Rattle.fl_world_laws.specs.Places.{IsKnown, IsNameRefusal}
use Rattle.fl_node.specs.Over.{NodeOver}
use Rattle.fl_nodes.specs.Over.{WorldOver, empty_over}
use Rattle.fl_nodes.specs.Joining.{DoesJoin, DoesNotJoin, GivesBack, HasNoStray, IsRefused, ReturnsOver, TakesIn}
use Rattle.fl_nodes.specs.Goes.{Goes}
use Rattle.fl_nodes.specs.laws.Nothing.{none_is}
use Rattle.fl_world.specs.Reached.{InEach}

run_on : (w : World) (ms : List Moment) (m : Moment) → IsRun w ms → Moves (end w ms) m.move m.reply m.after
    → IsRun w (ms ++ m ∷ [])
run_on w [] m run goes = (goes, tt)
run_on w (first ∷ ms) m run goes = (run.0, run_on first.after ms m run.1 goes)

end_on : (w : World) (ms : List Moment) (m : Moment) → end w (ms ++ m ∷ []) ≡ m.after
end_on w [] m = refl
end_on w (first ∷ ms) m = end_on first.after ms m

pub reached_on : (w w' : World) (move : Move) (reply : Reply) → IsReached w → Moves w move reply w' → IsReached w'
reached_on w w' move reply r goes =
    let m : Moment = record { move = move; reply = reply; after = w' } in
    record {
      desks = r.desks;
      moments = r.moments ++ m ∷ [];
      is_run = run_on (empty_world r.desks) r.moments m r.is_run (subst (λ x. Moves x move reply w') (sym r.leads) goes);
      leads = end_on (empty_world r.desks) r.moments m;
    }

empty_reached : (desks : ℕ) → IsReached (empty_world desks)
empty_reached desks = record { desks = desks; moments = []; is_run = tt; leads = refl }

-- the world without a node
pub none_reached : {K : Type 0} (custody : Custody K) (desks : ℕ)
    → InEach custody (empty_over desks) IsReached
none_reached custody desks =
    record { each = λ honest w is. subst IsReached (none_is custody desks w is) (empty_reached desks) }

-- a call that is a move leads to what a run leads to
pub each_reached : {K : Type 0} (custody : Custody K) (old new : WorldOver K) (move : Move)
    (reply : Reply) → Goes custody old new (λ w w'. Moves w move reply w') → InEach custody old IsReached
    → InEach custody new IsReached
each_reached custody old new move reply goes all = record {
  each = λ honest after is.
      let before = goes.comes honest after is in
      reached_on before.0 after move reply (all.each (goes.honest honest) before.0 before.1) before.2;
}

-- what each of them has leads to what each of them has
pub each_has : {K : Type 0} (custody : Custody K) (over : WorldOver K) (P Q : World → Type 0)
    → ((w : World) → P w → Q w) → InEach custody over P → InEach custody over Q
each_has custody over P Q leads all = record { each = λ honest w is. leads w (all.each honest w is) }

-- an event of a world that a run leads to is not refused for a name
pub never_named : {K : Type 0} (custody : Custody K) (old new : WorldOver K) (event : Event)
    (reply : Reply)
    → ((w after : World) (event : Event) (reply : Reply) → IsReached w → Step w event reply after → ¬ IsNameRefusal reply)
    → InEach custody old IsReached → Goes custody old new (λ w w'. Step w event reply w')
    → InEach custody new (λ w. ¬ IsNameRefusal reply)
never_named custody old new event reply none reached goes = record {
  each = λ honest after is.
      let before = goes.comes honest after is in
      none before.0 after event reply (reached.each (goes.honest honest) before.0 before.1) before.2;
}

-- in a world that a run leads to each operation that is saved is known to the node whose number it has
pub no_stray : ((w : World) (op : Op) (s : KeptNode) → IsReached w → IsKnown w op → IsAt w op.name.node s → In s.node.saved op)
    → (w : World) → IsReached w → HasNoStray w
no_stray owned w reached name stray = stray.unknown (owned w stray.op stray.owner reached (inl stray.in_world) stray.there)

-- so a joining is one of such a world
module _ {K : Type 0} (custody : Custody K) (old new : WorldOver K) (number : ℕ) (keeper : K)
    (known : (w : World) → IsReached w → HasNoStray w) (all : InEach custody old IsReached) where
  pub joins_known : (result : Result ℕ (Fault × K)) → IfOk result (λ boot. TakesIn custody old keeper new (DoesJoin number boot))
      → IfOk result (λ boot. TakesIn custody old keeper new (λ w k w'. Joins w number k (replies.Booted boot) w'))
  joins_known (Ok boot) takes = record {
    honest = takes.honest;
    comes = λ honest after is.
        let b = takes.comes honest after is in
        (b.0, b.1, b.2, b.3, b.4 (known b.0 (all.each (takes.honest honest).0 b.0 b.2)));
  }
  joins_known (Err e) takes = tt

  pub refused_known : (result : Result ℕ (Fault × K))
      → IfErr result (λ e. GivesBack custody old keeper new e.1 (DoesNotJoin number e.0))
      → IfErr result (λ e. GivesBack custody old keeper new e.1 (IsRefused number e.0))
  refused_known (Ok boot) gives = tt
  refused_known (Err e) gives = record {
    honest = gives.honest;
    comes = λ honest left after k' is held.
        let b = gives.comes honest left after k' is held in
        (b.0, b.1, b.2, b.3, b.4 (known b.0 (all.each (gives.honest honest left).0 b.0 b.2)));
  }

-- a node that joins is a move too, and who is refused changes nothing
pub joined_or_not : {K : Type 0} (custody : Custody K) (old new : WorldOver K) (number : ℕ) (keeper : K)
    (result : Result ℕ (Fault × K))
    → IfOk result (λ boot. TakesIn custody old keeper new (λ w k w'. Joins w number k (replies.Booted boot) w'))
    → OnErr result (new ≡ old) → InEach custody old IsReached → InEach custody new IsReached
joined_or_not custody old new number keeper (Ok boot) joins same all = record {
  each = λ honest after is.
      let before = joins.comes honest after is in
      reached_on before.0 after (Comes number before.1) _ (all.each (joins.honest honest).0 before.0 before.2) before.4;
}
joined_or_not custody old new number keeper (Err e) joins same all =
    subst (λ o. InEach custody o IsReached) (sym same) all

-- a node that is opened again over another keeper is a move, and one that is not there, or runs, leaves all as it was
pub returned_or_not : {K A B : Type 0} (custody : Custody K) (old new : WorldOver K) (number : ℕ)
    (Makes : K → K → Type 0) (reply : Reply) → (map.get old.nodes number ≡ None → (new ≡ old) × A)
    → ((n : NodeOver K) → map.get old.nodes number ≡ Some n → IsRunning n.node.state → (new ≡ old) × B)
    → ((n : NodeOver K) → map.get old.nodes number ≡ Some n → ¬ IsRunning n.node.state
    → (made : K) × Makes n.keeper made × Goes custody old new (ReturnsOver custody made number reply))
    → InEach custody old IsReached → InEach custody new IsReached
returned_or_not {K} custody old new number Makes reply absent running stopped all = by_node (map.get old.nodes number) refl
  where
    as_before : new ≡ old → InEach custody new IsReached
    as_before same = subst (λ o. InEach custody o IsReached) (sym same) all

    by_state : (n : NodeOver K) → map.get old.nodes number ≡ Some n → (s : State) → n.node.state ≡ s → InEach custody new IsReached
    by_state n at (Running pending) e = as_before (running n at (subst IsRunning (sym e) tt)).0
    by_state n at (Stopped doubt) e =
        let made = stopped n at (subst IsRunning e) in
        record {
          each = λ honest after is.
              let before = made.2.comes honest after is in
              reached_on before.0 after (Returns number before.2.kept) reply (all.each (made.2.honest honest) before.0 before.1) before.2.returns;
        }

    by_node : (o : Option (NodeOver K)) → map.get old.nodes number ≡ o → InEach custody new IsReached
    by_node None e = as_before (absent e).0
    by_node (Some n) e = by_state n e n.node.state refl
