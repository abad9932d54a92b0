-- What is written behind the greeting is that of one process of the machine.
use Rattle.std.proofs.Common.{◌≡◌, ◌++◌, ◌+◌, ◌∙◌, refl, sym, ap, subst, ℕ, List, [], ◌∷◌}
use Rattle.std.proofs.Common.{Option, None, Some, IfSome}
use Rattle.std.proofs.lemmas.List.{append_assoc, append-nil}
use Rattle.std.specs.Io.KnownBytes.{Appends, append_known}
use Rattle.std.specs.Str.Lines.{lines}
use Rattle.fl_sink.specs.Sink.{Cuts}
use Rattle.fl_store.specs.Custody.{Custody}
use Rattle.fl_store.specs.Kept.{Kept}
use Rattle.fl_stream.specs.Turns.{LineOutput, Run}
use Rattle.fl_stream.specs.Output.{Writes, WritesFirst, WritesOutput}
use Rattle.fl_stream.specs.Served.{Answered, Served}
use Rattle.fl_machine_turns.specs.Done.{Did}
use Rattle.fl_machine_turns.specs.Over.{MachineTurns, SessionOver, session_with}
use Rattle.fl_machine_turns.specs.Run.{IsProcessIfHonest, IsStarted, RunsFirst, RunsMachine}
use Rattle.fl_machine_turns.specs.Run.{greeting}
use Rattle.fl_machine_turns.specs.Run.{Run as RunsLines}

pub some_always : {A : Type 0} {P : A → Type 0} (o : Option A) → ((x : A) → P x) → IfSome o P
some_always None all = tt
some_always (Some x) all = all x

-- ---- bytes behind a greeting

-- once the greeting was written, and stayed, what grows behind it grows behind what was there
pub behind : (a mid b : Option (List ℕ)) (front bytes : List ℕ) → Appends a mid front
    → Appends mid b bytes → Appends (append_known a front) b bytes
behind None mid b front bytes first more = tt
behind (Some xs) None b front bytes first more = absurd first
behind (Some xs) (Some ys) None front bytes first more = more
behind (Some xs) (Some ys) (Some zs) front bytes first more = more ∙ ap (λ l. l ++ bytes) first

-- and the greeting with it grows behind what was there before that
pub joined : (a b : Option (List ℕ)) (front bytes : List ℕ)
    → Appends (append_known a front) b bytes → Appends a b (front ++ bytes)
joined None b front bytes more = tt
joined (Some xs) None front bytes more = more
joined (Some xs) (Some zs) front bytes more = more ∙ append_assoc xs front bytes

-- ---- the runs of turns

-- Where the keeper is honest at the end, it was at the start, and each thing that it may hold then
-- comes, by one run of the lines, from one that it might have held.
pub record Along {K : Type 0} (custody : Custody K) (count : ℕ) (old : SessionOver K)
    (ls : List (List ℕ)) (outputs : List LineOutput) (new : SessionOver K)
    : Type 0 where
  pub honest : custody.is_honest new.node.keeper → custody.is_honest old.node.keeper
  pub comes : custody.is_honest new.node.keeper → (after : Kept)
      → custody.may_hold new.node.keeper after
      → (before : Kept) × custody.may_hold old.node.keeper before
      × ((ds : List Did) × RunsLines old.settings count (session_with old before) ls outputs ds
      (session_with new after))

module _ {K : Type 0} (custody : Custody K) where
  along : (count : ℕ) (old : SessionOver K) (ls : List (List ℕ)) (outputs : List LineOutput)
      (new : SessionOver K) → Run (MachineTurns custody) count old ls outputs new
      → Along custody count old ls outputs new
  along count old [] [] new run =
      record {
        honest = λ h. subst (λ (x : SessionOver K). custody.is_honest x.node.keeper) run h;
        comes = λ h after held. (
          after,
          subst (λ (x : SessionOver K). custody.may_hold x.node.keeper after) run held,
          ([], (refl, ap (λ (x : SessionOver K). session_with x after) run)),
        );
      }
  along count old [] (output ∷ outputs) new run = absurd run
  along count old (line ∷ ls) [] new run = absurd run
  along count old (line ∷ ls) (output ∷ outputs) new (mid, turn, run) =
      let rest = along (count + 1) mid ls outputs new run in
      record {
        honest = λ h. turn.turn.honest (rest.honest h);
        comes = λ h after held.
            let b = rest.comes h after held in
            let a = turn.turn.comes (rest.honest h) b.0 b.1 in (
              a.0,
              a.1,
              (
                a.2.0 ++ b.2.0,
                (
                  turn.answer,
                  a.2.0,
                  b.2.0,
                  session_with mid b.0,
                  refl,
                  turn.output_is,
                  a.2.1,
                  subst (λ settings. RunsLines settings (count + 1) (session_with mid b.0) ls
                      outputs b.2.0 (session_with new after)) turn.turn.settings b.2.1,
                ),
              ),
            );
      }

  module _ (found : Kept → Type 0) (start end : SessionOver K)
      (started : IsStarted custody found start) where
    pub process : (ls : List (List ℕ)) (text : List ℕ) (status : ℕ) (all : List ℕ)
        → Writes (MachineTurns custody) start ls text status end
        → all ≡ greeting start.node.node ++ text
        → IsProcessIfHonest custody start.settings found ls all status end
    process ls text status all w is =
        record {
          each = λ h after held.
              let run = along 1 start ls w.outputs end w.run in
              let b = run.comes h after held in
              let o = started.opened (run.honest h) b.0 b.1 in (
                o.0,
                o.1,
                (
                  b.2.0,
                  record {
                    start = session_with start b.0;
                    starts = record {
                      opened = o.2;
                      none_admitted = started.none_admitted;
                      not_over = started.not_over;
                    };
                    outputs = w.outputs;
                    run = b.2.1;
                    text_is = is ∙ ap (λ l. greeting start.node.node ++ l) w.text_is;
                    status_is = w.status_is;
                  },
                ),
              );
        }

    pub runs_machine : (old new : Option (List ℕ)) (script : List ℕ) (status : ℕ)
        → WritesOutput (MachineTurns custody) start
        (append_known old (greeting start.node.node)) new script status end
        → RunsMachine custody start.settings found old new script status end
    runs_machine old new script status h =
        record {
          text = greeting start.node.node ++ h.text;
          written = joined old new (greeting start.node.node) h.text h.written;
          process = process (lines script) h.text status _ h.output refl;
        }

    pub runs_first : (old new : Option (List ℕ)) (script : List ℕ)
        → WritesFirst (MachineTurns custody) start
        (append_known old (greeting start.node.node)) new script end
        → RunsFirst custody start.settings found old new script end
    runs_first old new script h =
        record {
          first = h.first;
          later = h.later;
          split = h.split;
          front = greeting start.node.node ++ h.front;
          rest = h.rest;
          status = h.status;
          written = joined old new (greeting start.node.node) h.front h.written;
          process = process h.first (h.front ++ h.rest) h.status _ h.output
              (append_assoc (greeting start.node.node) h.front h.rest);
        }

  -- no more than a front of the greeting is written, and no line is heard
  pub runs_none : (found : Kept → Type 0) (start : SessionOver K) → IsStarted custody found start
      → (old new : Option (List ℕ)) (script : List ℕ)
      → Cuts old new [] (greeting start.node.node)
      → RunsFirst custody start.settings found old new script start
  runs_none found start started old new script cut =
      record {
        first = [];
        later = lines script;
        split = refl;
        front = cut.front;
        rest = cut.rest;
        status = 0;
        written = cut.written;
        process = process found start start started [] [] 0 (cut.front ++ cut.rest)
            (record { outputs = []; run = refl; text_is = refl; status_is = refl })
            (sym cut.split ∙ sym (append-nil (greeting start.node.node)));
      }

-- ---- clauses behind the greeting

module _ {K : Type 0} (custody : Custody K) (start end : SessionOver K) (a mid b : Option (List ℕ))
    (front : List ℕ) (first : Appends a mid front) where
  pub output_behind : (script : List ℕ) (status : ℕ)
      → WritesOutput (MachineTurns custody) start mid b script status end
      → WritesOutput (MachineTurns custody) start (append_known a front) b script status end
  output_behind script status h =
      record {
        text = h.text;
        output = h.output;
        written = behind a mid b front h.text first h.written;
      }

  pub first_behind : (script : List ℕ) → WritesFirst (MachineTurns custody) start mid b script end
      → WritesFirst (MachineTurns custody) start (append_known a front) b script end
  first_behind script h =
      record {
        first = h.first;
        later = h.later;
        split = h.split;
        front = h.front;
        rest = h.rest;
        status = h.status;
        output = h.output;
        written = behind a mid b front h.front first h.written;
      }

  pub answered_behind : (heard : List ℕ) → Answered (MachineTurns custody) start heard mid b end
      → Answered (MachineTurns custody) start heard (append_known a front) b end
  answered_behind heard h =
      record {
        done = h.done;
        held = h.held;
        cut = h.cut;
        ended = h.ended;
        no_feed = h.no_feed;
        text = h.text;
        status = h.status;
        output = h.output;
        written = behind a mid b front h.text first h.written;
      }

  pub served_behind : (most : ℕ) (remaining left : Option (List ℕ))
      → Served most (MachineTurns custody) start remaining left mid b end
      → Served most (MachineTurns custody) start remaining left (append_known a front) b end
  served_behind most remaining left h =
      record {
        taken = h.taken;
        beyond = h.beyond;
        consumed = h.consumed;
        bounded = h.bounded;
        answered = answered_behind h.taken h.answered;
      }
