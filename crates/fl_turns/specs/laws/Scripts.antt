-- What is written over keepers is that of one run, in each world that they may be at the end.
use Rattle.std.specs.Prelude.{ℕ, List, Option}
use Rattle.fl_store.specs.Custody.{Custody}
use Rattle.fl_stream.specs.Output.{Writes, WritesFirst, WritesOutput}
use Rattle.fl_makers.specs.Making.{Making}
use Rattle.fl_turns.specs.Over.{SessionOver, begun_over, TurnsOver}
use Rattle.fl_turns.specs.Script.{IsOneRunIfHonest, RunsScript, RunsFirst}
use Rattle.fl_turns.specs.laws.Chains.{script_answered}

module _ {K M : Type 0} (custody : Custody K) (making : Making M K) (start : M) where
  pub one_run : (ls : List (List ℕ)) (text : List ℕ) (status : ℕ) (end : SessionOver K M)
      → Writes (TurnsOver custody making) (begun_over start) ls text status end
      → IsOneRunIfHonest custody making start ls text status end
  one_run ls text status end h =
      let all = script_answered custody making start ls h.outputs end h.run in
      record {
        each = λ honest w is. record {
          outputs = h.outputs;
          answered = all.each honest w is;
          text_is = h.text_is;
          status_is = h.status_is;
        };
      }

  pub runs_script : (old new : Option (List ℕ)) (script : List ℕ) (status : ℕ) (end : SessionOver K M)
      → WritesOutput (TurnsOver custody making) (begun_over start) old new script status end
      → RunsScript custody making start old new script status end
  runs_script old new script status end h =
      record { text = h.text; written = h.written; one_run = one_run _ h.text status end h.output }

  pub runs_first : (old new : Option (List ℕ)) (script : List ℕ) (end : SessionOver K M)
      → WritesFirst (TurnsOver custody making) (begun_over start) old new script end
      → RunsFirst custody making start old new script end
  runs_first old new script end h = record {
    first = h.first;
    later = h.later;
    split = h.split;
    front = h.front;
    rest = h.rest;
    status = h.status;
    written = h.written;
    one_run = one_run h.first _ h.status end h.output;
  }
