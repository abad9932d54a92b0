-- Fronts, round after round, until all is there.
use Rattle.std.proofs.Common.{◌≤◌, ◌+◌, ◌*◌, ◌++◌, inl, inr, ℕ, List, [], ◌∷◌, length, sym}
use Rattle.std.proofs.Common.{subst, arith}
use native.Mathlib.Nat.{suc-mul, zero-mul}
use Rattle.fl_labels.specs.SetBy.{SetBy, In}
use Rattle.fl_ops.specs.OpOrder.{op_cmp}
use Rattle.fl_ops.specs.declared.op.Op.{Op}
use Rattle.fl_round_laws.specs.Network.{Edge, Path}
use Rattle.fl_system_laws.specs.laws.Wholes.{idle_whole}
use Rattle.fl_world_laws.specs.laws.Keeping.{reached_kept}
use Rattle.fl_world_laws.specs.laws.Naming.{reached_named}
use Rattle.fl_machine_model.specs.Machines.{Machines, Turn, AreMet, AreTurns, last}
use Rattle.fl_machine_laws.specs.Fronts.{InEachFront, CatchesUpInRounds, InEachPartOn, all_turns}
use Rattle.fl_machine_laws.specs.Fronts.{lacked, saved_on}
use Rattle.fl_machine_laws.specs.Network.{turns_of}
use Rattle.fl_machine_laws.specs.Places.{IsSavedAt}
use Rattle.fl_machine_laws.specs.Rounds.{IsIdleOn, IsPublishedOn}
use Rattle.fl_machine_laws.proofs.Counting.{fewer_lacked, none_lacked}
use Rattle.fl_machine_laws.proofs.Filling.{Laws, Brings, Passes, one_round, in_saved, saved_in}
use Rattle.fl_machine_laws.proofs.Filling.{up_saved, saved_up}
use Rattle.fl_machine_laws.proofs.Parts.{turns_first, turns_rest, last_on}
use Rattle.fl_machine_laws.proofs.Steps.{met_on}
use Rattle.fl_machine_laws.proofs.Together.{together, at_up}

module _ (laws : Laws) (most : ℕ) where
  module _ (to from : ℕ) (whole : SetBy op_cmp) where
    -- what a round brings the machine lacks no more
    fewer : (m after : Machines) → ((op : Op) → IsSavedAt m to op → IsSavedAt after to op)
        → ((op : Op) → IsSavedAt after from op → In whole op) → Brings most m after to from
        → lacked (saved_on after to) whole + most * 64 ≤ lacked (saved_on m to) whole
    fewer m after more inside b =
        let less = fewer_lacked (saved_on m to) (saved_on after to) whole
        (λ op h. in_saved (more op (saved_in h))) b.ops b.rise (λ op h. inside op (b.own op h))
        (λ op h. let n = b.new op h in (in_saved n.0, λ has. n.1 (saved_in has))) in
        omega (arith, less, b.many)

    rounds_pass : (rounds : List (List Turn)) (m : Machines) → AreMet m
        → AreTurns m (turns_of rounds) → InEachFront most to from m rounds
        → ((op : Op) → IsSavedAt (last m (turns_of rounds)) from op → In whole op)
        → lacked (saved_on m to) whole ≤ length rounds * (most * 64)
        → Passes m (last m (turns_of rounds)) to from
    rounds_pass [] m met are each inside enough op had =
        saved_in (none_lacked (saved_on m to) whole
        (omega (arith, enough, zero-mul (most * 64))) op (inside op had))
    rounds_pass (round ∷ rounds) m met are each inside enough op had =
        let rest = turns_of rounds in
        let next = last m round in
        let first = turns_first m round rest are in
        let then = turns_rest m round rest are in
        let met_next = met_on m round met first in
        let ends = last_on m round rest in
        let inside_then : (o : Op) → IsSavedAt (last next rest) from o → In whole o =
        λ o h. inside o (subst (λ (y : Machines). IsSavedAt y from o) (sym ends) h) in
        subst (λ (y : Machines). IsSavedAt y to op) (sym ends)
        (elim (one_round laws most to from m met round first each.0) [
          | inl passes ↦ laws.stays next rest to op met_next (passes op had) then
          | inr brings ↦
              let less = fewer m next (λ o h. laws.stays m round to o met h first)
              (λ o h. inside_then o (laws.stays next rest from o met_next h then)) brings in
              rounds_pass rounds next met_next then each.1 inside_then
              (omega (arith, less, enough, suc-mul (length rounds) (most * 64))) op
              (laws.stays m round from op met had first)
        ])

  pub in_rounds : (to from : ℕ) (m : Machines) (rounds : List (List Turn)) → AreMet m
      → AreTurns m (turns_of rounds) → CatchesUpInRounds most to from m rounds
      → Passes m (last m (turns_of rounds)) to from
  in_rounds to from m rounds met are c =
      rounds_pass to from (saved_on (last m (turns_of rounds)) from) rounds m met are c.each
      (λ op h. in_saved h) c.enough

  -- ---- along edges

  pub along_parts : (edges : List Edge) (parts : List (List (List Turn))) (m : Machines) → AreMet m
      → AreTurns m (all_turns parts) → InEachPartOn most edges m parts → (a b : ℕ)
      → Path edges (length parts) a b → Passes m (last m (all_turns parts)) b a
  along_parts edges [] m met are each a b Path.arrived op had = had
  along_parts edges (part ∷ parts) m met are each a b Path.arrived op had =
      laws.stays m (turns_of part ++ all_turns parts) a op met had are
  along_parts edges (part ∷ parts) m met are each a c (Path.along {b = b} edge path) op had =
      let first = turns_of part in
      let rest = all_turns parts in
      let before = turns_first m first rest are in
      let there = in_rounds b a m part met before (each.0 a b edge) op had in
      subst (λ (y : Machines). IsSavedAt y c op) (sym (last_on m first rest))
      (along_parts edges parts (last m first) (met_on m first met before)
      (turns_rest m first rest are) each.1 b c path op there)

-- ---- what is published

module _ {m : Machines} (met : AreMet m) (number : ℕ) (op : Op) where
  -- what a machine shows it has saved
  pub shown_saved : IsPublishedOn m number op → IsSavedAt m number op
  shown_saved p =
      let t = together met in
      saved_up p.up (((reached_named t.world t.follows.reached).sound number p.s
      (at_up t.follows number p.s p.up)).1.published op p.published)

  -- and where nothing is pending it shows all of that
  pub saved_shown : IsIdleOn m number → IsSavedAt m number op → IsPublishedOn m number op
  saved_shown idle i =
      let t = together met in
      record {
        s = idle.s;
        up = idle.up;
        published =
            idle_whole ((reached_kept t.world t.follows.reached).each number idle.s
            (at_up t.follows number idle.s idle.up)).whole idle.idle op (up_saved idle.up i);
      }
