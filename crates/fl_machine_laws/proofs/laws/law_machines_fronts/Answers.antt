use Rattle.std.proofs.Common.{◌≡◌, ◌↔◌, ℕ, List, subst}
use Rattle.std.specs.List.{Contains}
use Rattle.fl_bench.specs.laws.Puts.{same_found}
use Rattle.fl_ops.specs.declared.op.Op.{Op}
use Rattle.fl_round_laws.specs.Network.{Edge}
use Rattle.fl_round_laws.specs.Round.{AreInside, IsIdle, IsPublishedAt}
use Rattle.fl_system.specs.Runs.{IsReached, IsRun, Moment, end}
use Rattle.fl_system.specs.World.{World, KeptNode}
use Rattle.fl_machine_model.specs.Machines.{Up, Machines, Turn, AreMet, AreTurns, last}
use Rattle.fl_machine_laws.specs.Fronts.{all_turns, IsExchangeInRounds}
use Rattle.fl_machine_laws.specs.Places.{IsUp}
use Rattle.fl_machine_laws.specs.Rounds.{IsPublishedOn}
use Rattle.fl_machine_laws.proofs.Again.{in_rounds, along_parts, shown_saved, saved_shown}
use Rattle.fl_machine_laws.proofs.Catching.{idle_in, inside_in, published_on}
use Rattle.fl_machine_laws.proofs.Deeds.{turns_go}
use Rattle.fl_machine_laws.proofs.Filling.{TakenSaves, Stays, HaveOneName, CaughtUp, Cover, Laws}
use Rattle.fl_machine_laws.proofs.Parts.{published_in}
use Rattle.fl_machine_laws.proofs.Steps.{met_on}
use Rattle.fl_machine_laws.proofs.Together.{together}
use Rattle.fl_machine_laws.proofs.laws.law_machines_fronts.Goals as goal

-- the law of worlds, as it is known here
abbrev Only : Type 0
Only =
    (w : World) (nodes : List ℕ) (ms : List Moment) (number : ℕ) (op : Op) → IsReached w
    → IsRun w ms → AreInside (Contains nodes) w ms
    → ((one : ℕ) → Contains nodes one → IsIdle w one) → Contains nodes number
    → IsPublishedAt (end w ms) number op
    → (other : ℕ) × Contains nodes other × IsPublishedAt w other op

laws_by : TakenSaves → Stays → HaveOneName → CaughtUp → Cover → Laws
laws_by takes stays names catches covers =
    record { takes = takes; stays = stays; names = names; catches = catches; covers = covers }

-- what some of them had published
abbrev HadOn : Machines → List ℕ → Op → Type 0
HadOn m nodes op = (other : ℕ) × Contains nodes other × IsPublishedOn m other op

module _ (laws : Laws) (only : Only) (most : ℕ) (m : Machines) (nodes : List ℕ) (edges : List Edge)
    (parts : List (List (List Turn))) (met : AreMet m) (are : AreTurns m (all_turns parts))
    (e : IsExchangeInRounds most nodes edges m parts) where
  abbrev ended : Machines
  ended = last m (all_turns parts)

  no_more : (number : ℕ) (op : Op) → Contains nodes number → IsPublishedOn ended number op
      → HadOn m nodes op
  no_more number op one p =
      let t = together met in
      let g = turns_go m t.world (all_turns parts) t.follows are in
      let x = only t.world nodes g.moments number op t.follows.reached g.is_run
      (inside_in (Contains nodes) m t.world (all_turns parts) g.moments g.all e.inside)
      (λ k its. idle_in t.follows k (e.before k its)) one
      (published_in g.follows number op p) in
      let idle = e.before x.0 x.1 in
      (x.0, x.1, published_on t.follows x.0 idle.s op idle.up x.2)

  no_less : (number : ℕ) (op : Op) → Contains nodes number → HadOn m nodes op
      → IsPublishedOn ended number op
  no_less number op one (other, its, p) =
      saved_shown (met_on m (all_turns parts) met are) number op (e.after number one)
      (along_parts laws most edges parts m met are e.each other number
      (e.connected other number its one) op (shown_saved met other op p))

  same_node : {s t : KeptNode} → Up s ≡ Up t → s ≡ t
  same_node same = cc

  passes : (a b : ℕ) (s t : KeptNode) → Contains nodes a → Contains nodes b → IsUp ended a s
      → IsUp ended b t → (op : Op) → Contains s.node.published op → Contains t.node.published op
  passes a b s t one other up there op h =
      let p = no_less b op other
      (no_more a op one (record { s = s; up = up; published = h })) in
      subst (λ (x : KeptNode). Contains x.node.published op)
      (same_node (same_found p.up there)) p.published

  both : (a b : ℕ) (s t : KeptNode) → Contains nodes a → Contains nodes b → IsUp ended a s
      → IsUp ended b t → (op : Op) → Contains s.node.published op ↔ Contains t.node.published op
  both a b s t one other up there op =
      (passes a b s t one other up there op, passes b a t s other one there up op)

pub returns-clause-in_rounds : goal.returns-clause-in_rounds
returns-clause-in_rounds c = λ most to from m rounds op met are catches had.
    let laws = laws_by c.law_half_round.ensures.taken c.law_machines_kept.ensures.stays
    c.law_machines_names.ensures.one_operation c.law_caught_up.ensures.caught_up
    c.law_windows.ensures in
    in_rounds laws most to from m rounds met are catches op had

pub returns-clause-union : goal.returns-clause-union
returns-clause-union c = λ most m nodes edges parts number op met are e one.
    let laws = laws_by c.law_half_round.ensures.taken c.law_machines_kept.ensures.stays
    c.law_machines_names.ensures.one_operation c.law_caught_up.ensures.caught_up
    c.law_windows.ensures in (
      no_more laws c.law_exchange.ensures.only most m nodes edges parts met are e number op one,
      no_less laws c.law_exchange.ensures.only most m nodes edges parts met are e number op one,
    )

pub returns-clause-text : goal.returns-clause-text
returns-clause-text c = λ most m nodes edges parts a b s t met are e one other up there.
    let laws = laws_by c.law_half_round.ensures.taken c.law_machines_kept.ensures.stays
    c.law_machines_names.ensures.one_operation c.law_caught_up.ensures.caught_up
    c.law_windows.ensures in
    c.law_machines_equal.ensures.text (last m (all_turns parts)) (last m (all_turns parts)) a b s t
    up there
    (both laws c.law_exchange.ensures.only most m nodes edges parts met are e a b s t one other up
    there)
