use Rattle.std.proofs.Common.{◌≡◌, ◌∙◌, inl, inr, ℕ, sym, ap, subst, Some}
use Rattle.std.specs.FinMap as map
use Rattle.fl_ops.specs.declared.op.Op.{Op}
use Rattle.fl_bench.specs.laws.Puts.{same_found}
use Rattle.fl_system.specs.World.{World, KeptNode}
use Rattle.fl_system.specs.WorldSteps.{IsAt}
use Rattle.fl_system.specs.Union.{Union}
use Rattle.fl_system.specs.Whereabouts.{IsOnItsWay, IsOnItsWayIn, WasSent, IsAnywhere}
use Rattle.fl_system_laws.specs.Sound.{holding, IsNew}
use Rattle.fl_world_laws.specs.Places.{IsKnown}
use Rattle.fl_world_laws.specs.laws.Naming.{IsNamed, reached_named}
use Rattle.fl_world_laws.proofs.Plain.{step_plain}
use Rattle.fl_world_laws.proofs.laws.law_names.Goals as goal

-- on the way to a node, under its number and a name that it has not saved
record IsNewAt (w : World) (op : Op) : Type 0 where
  pub number : ℕ
  pub s : KeptNode
  pub at : IsAt w number s
  pub way : IsOnItsWay s.node.state op
  pub is : IsNew (holding s.node) op

-- saved somewhere, or new at its own node
data IsPlaced (w : World) (op : Op) : Type 0 where
  old : Union w op → IsPlaced w op
  new : IsNewAt w op → IsPlaced w op

module _ (w : World) (law : IsNamed w) where
  sent_saved : (op : Op) → WasSent w op → Union w op
  sent_saved op (sent, there, carries) =
      let i = law.packets sent there op carries in (sent.from, i.s, i.at, i.saved)

  known_saved : (op : Op) → IsKnown w op → Union w op
  known_saved op k = elim k [ inl u ↦ u | inr s ↦ sent_saved op s ]

  on_its_way : (op : Op) → IsOnItsWayIn w op → IsPlaced w op
  on_its_way op (number, s, at, way) = elim ((law.sound number s at).1.on_the_way op way) [
    | inl k ↦ old k
    | inr is ↦ new (record { number = number; s = s; at = at; way = way; is = is })
  ]

  place : (op : Op) → IsAnywhere w op → IsPlaced w op
  place op (inl u) = old u
  place op (inr (inl o)) = on_its_way op o
  place op (inr (inr s)) = old (sent_saved op s)

  number_of : {op : Op} (n : IsNewAt w op) → op.name.node ≡ n.number
  number_of n = n.is.own ∙ (law.sound n.number n.s n.at).0

  apart : {P : Type 0} (a b : Op) → Union w a → IsNewAt w b → a.name ≡ b.name → P
  apart a b u n same =
      let at_owner = subst (λ m. map.get w.nodes m ≡ Some n.s) (sym (ap (λ x. x.node) same ∙ number_of n)) n.at in
      absurd (n.is.unknown a (law.owned a u n.s at_owner) same)

  both_new : (a b : Op) → IsNewAt w a → IsNewAt w b → a.name ≡ b.name → a ≡ b
  both_new a b n m same =
      let numbers : n.number ≡ m.number = sym (number_of n) ∙ ap (λ x. x.node) same ∙ number_of m in
      let nodes : n.s ≡ m.s = same_found n.at (subst (λ k. map.get w.nodes k ≡ Some m.s) (sym numbers) m.at) in
      (law.sound n.number n.s n.at).1.alone a b n.way
      (subst (λ (z : KeptNode). IsOnItsWay z.node.state b) (sym nodes) m.way) same

  one : (a b : Op) → IsPlaced w a → IsPlaced w b → a.name ≡ b.name → a ≡ b
  one a b (old u) (old v) same = law.names a b u v same
  one a b (old u) (new m) same = apart a b u m same
  one a b (new n) (old v) same = apart b a v n (sym same)
  one a b (new n) (new m) same = both_new a b n m same

pub returns-clause-one_operation : goal.returns-clause-one_operation
returns-clause-one_operation c = λ w a b reached h k.
    let law = reached_named w reached in one w law a b (place w law a h) (place w law b k)

pub returns-clause-owned : goal.returns-clause-owned
returns-clause-owned c = λ w op s reached k at.
    let law = reached_named w reached in law.owned op (known_saved w law op k) s at

pub returns-clause-published : goal.returns-clause-published
returns-clause-published c = λ w number s reached at. ((reached_named w reached).sound number s at).1.published

pub returns-clause-sent : goal.returns-clause-sent
returns-clause-sent c = λ w sent op reached there carries. (reached_named w reached).packets sent there op carries

pub returns-clause-no_name_refused : goal.returns-clause-no_name_refused
returns-clause-no_name_refused c = λ w after event reply reached step. step_plain w (reached_named w reached) step
