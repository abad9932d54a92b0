use Rattle.std.proofs.Common.{◌≡◌, ℕ, List, subst}
use Rattle.std.specs.List.{Contains}
use Rattle.fl_labels.specs.SetBy.{In}
use Rattle.fl_ops.specs.declared.op.Op.{Op}
use Rattle.fl_bench.specs.laws.Puts.{same_found}
use Rattle.fl_system.specs.declared.reply.Reply.{Reply}
use Rattle.fl_system.specs.World.{World, KeptNode}
use Rattle.fl_system.specs.Runs.{IsReached, IsRun, Moment, Move, Moves, end}
use Rattle.fl_kept_laws.specs.Told.{IsShownAt, Tells}
use Rattle.fl_machine_model.specs.Machines.{Machine, Machines, Deed, Happens, Turn, AreMet}
use Rattle.fl_machine_model.specs.Machines.{AreTurns, last}
use Rattle.fl_machine_laws.specs.Places.{saved_of, IsSavedAt}
use Rattle.fl_machine_laws.specs.Told.{TellsOn}
use Rattle.fl_machine_laws.proofs.Deeds.{Follows, deed_goes, turns_go}
use Rattle.fl_machine_laws.proofs.Telling.{tells_name, tells_count, tells_in}
use Rattle.fl_machine_laws.proofs.Together.{together, at_up, saved_at}
use Rattle.fl_machine_laws.proofs.laws.law_machines_answered.Goals as goal

pub returns-clause-name : goal.returns-clause-name
returns-clause-name c = λ m after number name happens. tells_name happens

pub returns-clause-count : goal.returns-clause-count
returns-clause-count c = λ m after number count happens. tells_count happens

-- the law of worlds, as it is known here
abbrev Shows : Type 0
Shows =
    (w after : World) (move : Move) (reply : Reply) (ms : List Moment) (number : ℕ) (op : Op)
    → IsReached w → Moves w move reply after → Tells w number op move reply → IsRun after ms
    → IsShownAt (end after ms) number op

-- the node that stands for the machine shows it in the end
record ShownOn (m : Machines) (number : ℕ) (op : Op) : Type 0 where
  pub world : World
  pub follows : Follows m world
  pub shown : IsShownAt world number op

shown_on : Shows → {m after : Machines} → AreMet m → (deed : Deed) → Happens m deed after
    → (later : List Turn) → AreTurns after later → (number : ℕ) (op : Op) → TellsOn m number op deed
    → ShownOn (last after later) number op
shown_on law {m} {after} met deed happens later are number op tells =
    let t = together met in
    let g = deed_goes m t.world t.follows happens in
    let h = turns_go after g.moment.after later g.follows are in
    record {
      world = end g.moment.after h.moments;
      follows = h.follows;
      shown =
          law t.world g.moment.after g.moment.move g.moment.reply h.moments number op
          t.follows.reached g.moves (tells_in t.follows number op g.move_is tells) h.is_run;
    }

saved_then : {m : Machines} {number : ℕ} {op : Op} → ShownOn m number op → IsSavedAt m number op
saved_then {number = number} {op} x =
    saved_at x.follows number op
    (record { s = x.shown.s; at = x.shown.at; saved = x.shown.saved })

pub returns-clause-kept : goal.returns-clause-kept
returns-clause-kept c = λ m after later deed number op met happens tells are.
    saved_then
    (shown_on c.law_answered_is_kept.ensures.shown met deed happens later are number op tells)

pub returns-clause-shown : goal.returns-clause-shown
returns-clause-shown c = λ m after later deed number op s met happens tells are up.
    let x = shown_on c.law_answered_is_kept.ensures.shown met deed happens later are number op
    tells in
    let same : x.shown.s ≡ s = same_found x.shown.at (at_up x.follows number s up) in (
      subst (λ (y : KeptNode). In y.node.saved op) same x.shown.saved,
      subst (λ (y : KeptNode). Contains y.node.published op) same x.shown.shown,
    )

pub returns-clause-found : goal.returns-clause-found
returns-clause-found c = λ m after later deed number op k met happens tells are down.
    let i = saved_then
    (shown_on c.law_answered_is_kept.ensures.shown met deed happens later are number op tells) in
    subst (λ (x : Machine). In (saved_of x) op) (same_found i.there down) i.saved
