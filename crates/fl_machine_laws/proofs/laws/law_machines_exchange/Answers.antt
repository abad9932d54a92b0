use Rattle.std.proofs.Common.{◌↔◌, ℕ, List, sym, subst}
use Rattle.std.specs.List.{Contains}
use Rattle.fl_ops.specs.declared.op.Op.{Op}
use Rattle.fl_system.specs.World.{World}
use Rattle.fl_system.specs.Runs.{end}
use Rattle.fl_round_laws.specs.Network.{Edge, Path, whole}
use Rattle.fl_round_laws.specs.Round.{IsPublishedAt}
use Rattle.fl_machine_model.specs.Machines.{Machines, Turn, last}
use Rattle.fl_machine_laws.specs.Network.{turns_of, IsExchangeOn}
use Rattle.fl_machine_laws.specs.Rounds.{IsPublishedOn}
use Rattle.fl_machine_laws.proofs.Catching.{published_on}
use Rattle.fl_machine_laws.proofs.Deeds.{Follows}
use Rattle.fl_machine_laws.proofs.Parts.{RoundsGo, rounds_go, published_in, exchange_in}
use Rattle.fl_machine_laws.proofs.Together.{together, at_up, saved_at}
use Rattle.fl_machine_laws.proofs.laws.law_machines_exchange.Goals as goal

pub returns-clause-spreads : goal.returns-clause-spreads
returns-clause-spreads c = λ m edges rounds a b s op met are each path up h.
    let t = together met in
    let g = rounds_go m t.world rounds t.follows are in
    saved_at g.follows b op (c.law_exchange.ensures.spreads t.world edges g.parts a b op
    t.follows.reached g.is_run (g.each edges each)
    (subst (λ n. Path edges n a b) (sym g.count) path)
    (record { s = s; at = at_up t.follows a s up; saved = h }))

-- what some of them had published
abbrev HadAt : World → List ℕ → Op → Type 0
HadAt w nodes op = (other : ℕ) × Contains nodes other × IsPublishedAt w other op

abbrev HadOn : Machines → List ℕ → Op → Type 0
HadOn m nodes op = (other : ℕ) × Contains nodes other × IsPublishedOn m other op

module _ {m : Machines} {w : World} (f : Follows m w) (nodes : List ℕ) (edges : List Edge)
    (rounds : List (List Turn)) (g : RoundsGo m w rounds)
    (e : IsExchangeOn nodes edges m rounds) where
  had_in : (op : Op) → HadOn m nodes op → HadAt w nodes op
  had_in op (other, its, p) = (other, its, published_in f other op p)

  had_on : (op : Op) → HadAt w nodes op → HadOn m nodes op
  had_on op (other, its, p) =
      let idle = e.before other its in (other, its, published_on f other idle.s op idle.up p)

  union_on : (number : ℕ) (op : Op) → Contains nodes number
      → IsPublishedAt (end w (whole g.parts)) number op ↔ HadAt w nodes op
      → IsPublishedOn (last m (turns_of rounds)) number op ↔ HadOn m nodes op
  union_on number op one its =
      let idle = e.after number one in (
        λ p. had_on op (its.0 (published_in g.follows number op p)),
        λ h. published_on g.follows number idle.s op idle.up (its.1 (had_in op h)),
      )

pub returns-clause-union : goal.returns-clause-union
returns-clause-union c = λ m nodes edges rounds number op met are exchange one.
    let t = together met in
    let g = rounds_go m t.world rounds t.follows are in
    union_on t.follows nodes edges rounds g exchange number op one
    (c.law_exchange.ensures.union t.world nodes edges g.parts number op t.follows.reached g.is_run
    (exchange_in t.follows nodes edges rounds g exchange) one)

pub returns-clause-text : goal.returns-clause-text
returns-clause-text c = λ m nodes edges rounds a b s u met are exchange one other up there.
    let t = together met in
    let g = rounds_go m t.world rounds t.follows are in
    c.law_exchange.ensures.text t.world nodes edges g.parts a b s u t.follows.reached g.is_run
    (exchange_in t.follows nodes edges rounds g exchange) one other (at_up g.follows a s up)
    (at_up g.follows b u there)
