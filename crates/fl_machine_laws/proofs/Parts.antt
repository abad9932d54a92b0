-- Turns in parts, and rounds of machines as parts of one run of the world that they are.
use Rattle.std.proofs.Common.{◌≡◌, ◌++◌, ℕ, suc, List, [], ◌∷◌, length, refl, sym, ap, subst}
use Rattle.std.specs.List.{Contains}
use Rattle.fl_ops.specs.declared.op.Op.{Op}
use Rattle.fl_system.specs.Runs.{Moment, IsRun, end}
use Rattle.fl_system.specs.World.{World}
use Rattle.fl_round_laws.specs.Network.{Edge, InEachPart, IsExchange, Path, whole}
use Rattle.fl_round_laws.specs.Round.{IsPublishedAt}
use Rattle.fl_machine_model.specs.Machines.{Machines, Turn, AreTurns, last}
use Rattle.fl_machine_laws.specs.Network.{turns_of, InEachRound, IsExchangeOn}
use Rattle.fl_machine_laws.specs.Rounds.{IsPublishedOn}
use Rattle.fl_machine_laws.proofs.Catching.{catches_in, idle_in, inside_in}
use Rattle.fl_machine_laws.proofs.Deeds.{Follows, AllGo, turns_go, run_on, end_on}
use Rattle.fl_machine_laws.proofs.Together.{at_up}

-- ---- turns in two parts

pub turns_first : (m : Machines) (ts us : List Turn) → AreTurns m (ts ++ us) → AreTurns m ts
turns_first m [] us are = tt
turns_first m (t ∷ ts) us are = (are.0, turns_first t.after ts us are.1)

pub turns_rest : (m : Machines) (ts us : List Turn) → AreTurns m (ts ++ us)
    → AreTurns (last m ts) us
turns_rest m [] us are = are
turns_rest m (t ∷ ts) us are = turns_rest t.after ts us are.1

pub last_on : (m : Machines) (ts us : List Turn) → last m (ts ++ us) ≡ last (last m ts) us
last_on m [] us = refl
last_on m (t ∷ ts) us = last_on t.after ts us

all_on : (m : Machines) (w : World) (ts us : List Turn) (xs ys : List Moment) → AllGo m w ts xs
    → AllGo (last m ts) (end w xs) us ys → AllGo m w (ts ++ us) (xs ++ ys)
all_on m w [] us [] ys first then = then
all_on m w [] us (x ∷ xs) ys first then = absurd first
all_on m w (t ∷ ts) us [] ys first then = absurd first
all_on m w (t ∷ ts) us (x ∷ xs) ys first then =
    (first.0, first.1, first.2, all_on t.after x.after ts us xs ys first.3 then)

-- ---- rounds

pub record RoundsGo (m : Machines) (w : World) (rounds : List (List Turn)) : Type 0 where
  pub parts : List (List Moment)
  pub count : length parts ≡ length rounds
  pub is_run : IsRun w (whole parts)
  pub all : AllGo m w (turns_of rounds) (whole parts)
  pub follows : Follows (last m (turns_of rounds)) (end w (whole parts))
  pub each : (edges : List Edge) → InEachRound edges m rounds → InEachPart edges parts

pub rounds_go : (m : Machines) (w : World) (rounds : List (List Turn)) → Follows m w
    → AreTurns m (turns_of rounds) → RoundsGo m w rounds
rounds_go m w [] f are =
    record {
      parts = [];
      count = refl;
      is_run = tt;
      all = f;
      follows = f;
      each = λ edges each. tt;
    }
rounds_go m w (round ∷ rounds) f are =
    let rest = turns_of rounds in
    let g = turns_go m w round f (turns_first m round rest are) in
    let h = rounds_go (last m round) (end w g.moments) rounds g.follows
    (turns_rest m round rest are) in
    record {
      parts = g.moments ∷ h.parts;
      count = ap suc h.count;
      is_run = run_on w g.moments (whole h.parts) g.is_run h.is_run;
      all = all_on m w round rest g.moments (whole h.parts) g.all h.all;
      follows =
          subst (λ (x : Machines). Follows x (end w (g.moments ++ whole h.parts)))
          (sym (last_on m round rest))
          (subst (Follows (last (last m round) rest)) (sym (end_on w g.moments (whole h.parts)))
          h.follows);
      each = λ edges each. (
        λ from to edge. catches_in m w round g.moments g.all (each.0 from to edge),
        h.each edges each.1,
      );
    }

-- ---- an exchange

module _ {m : Machines} {w : World} (f : Follows m w) where
  pub published_in : (number : ℕ) (op : Op) → IsPublishedOn m number op → IsPublishedAt w number op
  published_in number op p =
      record { s = p.s; at = at_up f number p.s p.up; published = p.published }

  pub exchange_in : (nodes : List ℕ) (edges : List Edge) (rounds : List (List Turn))
      (g : RoundsGo m w rounds) → IsExchangeOn nodes edges m rounds
      → IsExchange nodes edges w g.parts
  exchange_in nodes edges rounds g e =
      record {
        each = g.each edges e.each;
        connected =
            λ a b one other. subst (λ n. Path edges n a b) (sym g.count)
            (e.connected a b one other);
        inside = inside_in (Contains nodes) m w (turns_of rounds) (whole g.parts) g.all e.inside;
        before = λ number one. idle_in f number (e.before number one);
        after = λ number one. idle_in g.follows number (e.after number one);
      }
