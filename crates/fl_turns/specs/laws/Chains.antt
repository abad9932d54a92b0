-- Lines over keepers, one after another, in each world that their nodes may be.
use Rattle.std.proofs.Common.{◌≡◌, ◌+◌, ℕ, refl, sym, ap, subst, List, [], ◌∷◌}
use Rattle.fl_store.specs.Custody.{Custody}
use Rattle.fl_store.specs.Kept.{Kept}
use Rattle.fl_stream.specs.Turns.{LineOutput, Run as Lines}
use Rattle.fl_makers.specs.Making.{Making}
use Rattle.fl_system.specs.declared.answer.Fault.{Fault}
use Rattle.fl_system.specs.World.{World}
use Rattle.fl_nodes.specs.Goes.{Goes}
use Rattle.fl_nodes.specs.laws.Nothing.{none_is}
use Rattle.fl_calls.specs.Entering.{Openings}
use Rattle.fl_calls.specs.Over.{openings_between, openings_of}
use Rattle.fl_calls.specs.laws.Widening.{OpensMore, opens_ever, opens_until}
use Rattle.fl_turns.specs.Answered.{IsAnswered}
use Rattle.fl_turns.specs.Over.{SessionOver, begun_over, TurnsOver}
use Rattle.fl_turns.specs.Run.{output_of, outputs_from}
use Rattle.fl_turns.specs.Session.{Session, begun}
use Rattle.fl_world.specs.Reached.{InEach}
use Rattle.fl_turns.specs.laws.Widening.{run_too, turn_too}

module _ {K M : Type 0} (custody : Custody K) (making : Making M K) (start : M) where
  -- the openings from the start until this maker
  until : M → Openings
  until maker = openings_between custody making start maker

  -- the session over one of the worlds that its nodes may be
  seen : SessionOver K M → World → Session
  seen over w = record { world = w; aliases = over.aliases }

  -- a maker that makes no more than the first one
  record IsLess (maker : M) : Type 0 where
    pub makes_less : (number : ℕ) (keeper : K) → making.makes maker number keeper → making.makes start number keeper
    pub finds_less : (number : ℕ) (k : Kept) → making.finds maker number k → making.finds start number k
    pub refuses_less : (number : ℕ) (fault : Fault) → making.refuses maker number fault → making.refuses start number fault

  -- what is opened between two makers was opened until a later one
  wider : (maker left last : M) → IsLess maker
      → ((number : ℕ) (k : Kept) → making.finds last number k → making.finds left number k)
      → OpensMore (openings_between custody making maker left) (until last)
  unfolding until
  wider maker left last less later =
      opens_until custody making start maker left last less.makes_less less.finds_less less.refuses_less later

  -- the lines are answered so in each world that the nodes may be
  record Answers (number : ℕ) (old : SessionOver K M) (lines : List (List ℕ)) (outputs : List LineOutput)
      (new : SessionOver K M) : Type 0 where
    pub goes : Goes custody old.cluster.world new.cluster.world
        (λ w w'. IsAnswered (until new.cluster.maker) number (seen old w) lines outputs (seen new w'))
    pub finds_less : (n : ℕ) (k : Kept) → making.finds new.cluster.maker n k → making.finds old.cluster.maker n k

  no_line : (number : ℕ) (over : SessionOver K M) → Answers number over [] [] over
  unfolding seen
  no_line number over = record {
    goes = record {
      honest = λ all. all;
      comes = λ all w is. (w, is, record { answers = []; run = refl; outputs_are = refl });
    };
    finds_less = λ n k found. found;
  }

  one_line : (number : ℕ) (old mid new : SessionOver K M) (line : List ℕ) (lines : List (List ℕ)) (output : LineOutput)
      (outputs : List LineOutput) → IsLess old.cluster.maker
      → TurnsOver custody making number old line output mid
      → Answers (number + 1) mid lines outputs new → Answers number old (line ∷ lines) (output ∷ outputs) new
  unfolding seen
  one_line number old mid new line lines output outputs less turns rest = record {
    goes = record {
      honest = λ all. turns.turn.goes.honest (rest.goes.honest all);
      comes = λ all after is.
          let between = rest.goes.comes all after is in
          let before = turns.turn.goes.comes (rest.goes.honest all) between.0 between.1 in
          let done = between.2 in (
            before.0,
            before.1,
            record {
              answers = turns.answer ∷ done.answers;
              run = (
                seen mid between.0,
                turn_too (openings_between custody making old.cluster.maker mid.cluster.maker) (until new.cluster.maker)
                    (wider old.cluster.maker mid.cluster.maker new.cluster.maker less rest.finds_less) (seen old before.0) line
                    turns.answer (seen mid between.0) before.2,
                done.run,
              );
              outputs_are = subst (λ o. o ∷ outputs ≡ output_of number turns.answer ∷ outputs_from (number + 1) done.answers)
                  (sym turns.output_is) (ap (λ os. output_of number turns.answer ∷ os) done.outputs_are);
            },
          );
    };
    finds_less = λ n k found. turns.turn.finds_less n k (rest.finds_less n k found);
  }

  less_after : (number : ℕ) (old mid : SessionOver K M) (line : List ℕ) (output : LineOutput) → IsLess old.cluster.maker
      → TurnsOver custody making number old line output mid → IsLess mid.cluster.maker
  less_after number old mid line output less turns = record {
    makes_less = λ n keeper made. less.makes_less n keeper (turns.turn.makes_less n keeper made);
    finds_less = λ n k found. less.finds_less n k (turns.turn.finds_less n k found);
    refuses_less = λ n fault why. less.refuses_less n fault (turns.turn.refuses_less n fault why);
  }

  chained : (number : ℕ) (old new : SessionOver K M) (lines : List (List ℕ)) (outputs : List LineOutput)
      → IsLess old.cluster.maker → Lines (TurnsOver custody making) number old lines outputs new
      → Answers number old lines outputs new
  chained number old new [] [] less h = subst (λ x. Answers number old [] [] x) (sym h) (no_line number old)
  chained number old new [] (output ∷ outputs) less h = absurd h
  chained number old new (line ∷ lines) [] less h = absurd h
  chained number old new (line ∷ lines) (output ∷ outputs) less h =
      one_line number old h.0 new line lines output outputs less h.1
      (chained (number + 1) h.0 new lines outputs (less_after number old h.0 line output less h.1) h.2)

  -- from the world without a node on, with what was opened until the last maker
  pub script_until : (lines : List (List ℕ)) (outputs : List LineOutput) (new : SessionOver K M)
      → Lines (TurnsOver custody making) 1 (begun_over start) lines outputs new
      → InEach custody new.cluster.world (λ w. IsAnswered
      (openings_between custody making start new.cluster.maker) 1 begun lines outputs
      (record { world = w; aliases = new.aliases }))
  unfolding until seen
  script_until lines outputs new h =
      let less : IsLess start = record { makes_less = λ n keeper made. made; finds_less = λ n k found. found; refuses_less = λ n fault why. why } in
      let all = chained 1 (begun_over start) new lines outputs less h in
      record {
        each = λ honest w is.
            let before = all.goes.comes honest w is in
            subst (λ x. IsAnswered (until new.cluster.maker) 1 (record { world = x; aliases = [] }) lines outputs (seen new w))
            (sym (none_is custody 1 before.0 before.1)) before.2;
      }

  -- and with all that the first one opens
  pub script_answered : (lines : List (List ℕ)) (outputs : List LineOutput) (new : SessionOver K M)
      → Lines (TurnsOver custody making) 1 (begun_over start) lines outputs new
      → InEach custody new.cluster.world (λ w. IsAnswered
      (openings_of custody making start) 1 begun lines outputs
      (record { world = w; aliases = new.aliases }))
  script_answered lines outputs new h = record {
    each = λ honest w is.
        let done = (script_until lines outputs new h).each honest w is in
        record {
          answers = done.answers;
          run = run_too (openings_between custody making start new.cluster.maker) (openings_of custody making start)
              (opens_ever custody making start new.cluster.maker) begun lines done.answers _ done.run;
          outputs_are = done.outputs_are;
        };
  }
