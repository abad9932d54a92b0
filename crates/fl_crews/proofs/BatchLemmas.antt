-- What is written for a script over crews, up to its end or not.
use Rattle.std.proofs.Common.{◌<◌, ◌≤◌, ◌⊎◌, inl, inr, ◌≡◌, ◌++◌, ◌∙◌, refl, sym, ap, List, [], ℕ, length, max, subst, Option, None, Some, IfSome, IfOk, OnOk, Result, Ok, Err, OnErr, arith}
use Rattle.std.proofs.lemmas.List.{append-nil}
use Rattle.std.proofs.KnownBytes.{Appends-nil, Appends-trans, Consumes-whole}
use Rattle.std.specs.Io.KnownBytes.{Appends}
use Rattle.fl_sink.specs.Sink.{Cuts, Passes}
use Rattle.fl_sink.specs.laws.Passing.{passes_then, cuts_behind}
use Rattle.fl_stream.specs.declared.tally.Tally.{Tally}
use Rattle.fl_stream.specs.Turns.{Run, texts, worst}
use Rattle.fl_stream.specs.Output.{WritesFirst}
use Rattle.fl_stream.specs.Driving.{AllHanded, LinesPass}
use Rattle.fl_crew_turns.specs.Batch.{BatchPasses, BatchCuts, replies_text}
use Rattle.fl_crew_turns.specs.Script.{Grows, IsStatus, WritesBatches, WritesBatchesFirst}
use Rattle.fl_crew_turns.specs.Session.{CrewCalls, CrewSession}
use Rattle.fl_crew_turns.specs.Turn.{CrewTurns}
use Rattle.fl_crew_turns.specs.laws.Statuses.{lines_are_status, max_is_status, replies_are_status}

-- it stopped before the end
pub stops_before : {C : Type 0} (calls : CrewCalls C) (start end : CrewSession C) (a b r : Option (List ℕ)) → IfSome r (λ script. WritesFirst (CrewTurns calls) start a b script end)
    → IfSome r (λ script. WritesBatchesFirst calls start a b script end)
stops_before calls start end a b None w = tt
stops_before calls start end a b (Some script) w = record {
  first = w.first;
  later = w.later;
  split = w.split;
  text = w.front ++ w.rest;
  status = w.status;
  between = end;
  output = w.output;
  replies = [];
  ends = inl (refl, refl);
  front = w.front;
  rest = w.rest;
  cut = append-nil (w.front ++ w.rest);
  written = w.written;
}

module _ {C : Type 0} {calls : CrewCalls C} where
  -- all lines were answered, and the batch behind them was cut
  pub stops_in_batch : {most : ℕ} {r l a b c : Option (List ℕ)} {start now end : CrewSession C} {tally : Tally} {seen : List (List ℕ)} → AllHanded most r l seen
      → LinesPass (CrewTurns calls) start now tally a b seen → BatchCuts calls now end b c tally.sink → IfSome r (λ script. WritesBatchesFirst calls start a c script end)
  stops_in_batch {r = r} {l = l} {a = a} {c = c} {start = start} {now = now} {end = end} {seen = seen} d p q =
      let cut = cuts_behind p.passed q.cut in
      Consumes-whole r l d.bytes (λ script. WritesBatchesFirst calls start a c script end) d.consumed d.all (record {
        first = seen;
        later = [];
        split = d.whole ∙ sym (append-nil seen);
        text = texts p.outputs;
        status = worst p.outputs;
        between = now;
        output = record { outputs = p.outputs; run = p.run; text_is = refl; status_is = refl };
        replies = q.replies;
        ends = inr (refl, q.ends);
        front = cut.front;
        rest = cut.rest;
        cut = cut.split;
        written = cut.written;
      })

  -- the batch ended, and what waited was cut
  pub batch_cut : {status : ℕ} {a b c : Option (List ℕ)} {now end : CrewSession C} {pending rest : List ℕ} → BatchPasses calls now status end a b pending rest → Cuts b c rest [] → BatchCuts calls now end a c pending
  batch_cut {a = a} {c = c} {pending = pending} p q = record { replies = p.replies; ends = p.ends; cut = subst (λ x. Cuts a c pending x) (append-nil (replies_text p.replies)) (cuts_behind p.passed q) }

  -- all lines were answered, the batch behind them ended, and all was written
  pub ends_batch : {E : Type 0} {most told : ℕ} {r l a b c : Option (List ℕ)} {start now end : CrewSession C} {tally : Tally} {seen : List (List ℕ)} {rest : List ℕ} (e : Option (List ℕ)) (result : Result ℕ E)
      → AllHanded most r l seen → LinesPass (CrewTurns calls) start now tally a b seen → BatchPasses calls now told end b c tally.sink rest
      → IfOk result (λ status. status ≡ max tally.status told) → OnOk result (Appends c e rest)
      → IfOk result (λ status. IfSome r (λ script. WritesBatches calls start a e script status end))
  ends_batch {told = told} {r = r} {l = l} {a = a} {b = b} {c = c} {start = start} {now = now} {end = end} {rest = rest} e (Ok status) d p q is written =
      let both = passes_then c (replies_text q.replies) rest p.passed q.passed in
      Consumes-whole r l d.bytes (λ script. WritesBatches calls start a e script status end) d.consumed d.all (record {
        text = texts p.outputs;
        most = worst p.outputs;
        between = now;
        output = record { outputs = p.outputs; run = subst (λ x. Run (CrewTurns calls) 1 start x p.outputs now) (sym d.whole) p.run; text_is = refl; status_is = refl };
        replies = q.replies;
        ends = q.ends;
        status_is = is ∙ ap (λ x. max x told) p.status_is ∙ ap (max (worst p.outputs)) q.status_is;
        written = subst (λ x. Appends a e x) (sym both.split) (Appends-trans a c e both.front rest both.written written);
      })
  ends_batch e (Err fault) d p q is written = tt

-- there is no more to hear, and there was room for all
pub handed_short : {most : ℕ} {r l : Option (List ℕ)} {seen : List (List ℕ)} → AllHanded most r l seen → IfSome r (λ script. length script ≤ most)
handed_short {most} {r} {l} d = Consumes-whole r l d.bytes (λ script. length script ≤ most) d.consumed d.all d.few

-- a line cannot be longer than the script
pub cause_of_two : {A B X : Type 0} {most : ℕ} → A ⊎ (B ⊎ ((most < most) × X)) → A ⊎ B
cause_of_two q = elim q [ inl a ↦ inl a | inr (inl b) ↦ inr b | inr (inr c) ↦ absurd (irreflexive c.0) ]
  where
    irreflexive : {n : ℕ} → n < n → ⊥
    irreflexive less = omega arith

-- ---- known bytes only grow, also at a fault

pub grows_none : (a : Option (List ℕ)) → Grows a a
grows_none a = record { text = []; written = Appends-nil a }

-- a text passed, and a front of what waits and of more was written
pub grows_cut : {a b c : Option (List ℕ)} {pending text rest more : List ℕ}
    → Passes a b pending text rest → Cuts b c rest more → Grows a c
grows_cut {a = a} {b = b} {c = c} p q =
    record { text = p.front ++ q.front; written = Appends-trans a b c p.front q.front p.written q.written }

-- a text passed, and what waits was written, or a front of it
pub grows_at_end : {E : Type 0} {a b c : Option (List ℕ)} {pending text rest : List ℕ} (result : Result ℕ E)
    → Passes a b pending text rest → OnOk result (Appends b c rest) → OnErr result (Cuts b c rest []) → Grows a c
grows_at_end {a = a} {b = b} {c = c} {rest = rest} (Ok status) p written cut =
    record { text = p.front ++ rest; written = Appends-trans a b c p.front rest p.written written }
grows_at_end (Err fault) p written cut = grows_cut p cut

-- ---- the status is 0, 1 or 3

pub batch_is_status : {C E : Type 0} {calls : CrewCalls C} {told : ℕ} {a b c : Option (List ℕ)} {start now end : CrewSession C} {tally : Tally} {seen : List (List ℕ)} {rest : List ℕ} (result : Result ℕ E)
    → LinesPass (CrewTurns calls) start now tally a b seen → BatchPasses calls now told end b c tally.sink rest
    → IfOk result (λ status. status ≡ max tally.status told) → IfOk result IsStatus
batch_is_status {calls = calls} {told = told} {start = start} {now = now} {tally = tally} {seen = seen} (Ok status) p q is =
    subst IsStatus (sym is) (max_is_status tally.status told
    (subst IsStatus (sym p.status_is) (lines_are_status calls 1 start seen p.outputs now p.run))
    (subst IsStatus (sym q.status_is) (replies_are_status q.replies)))
batch_is_status (Err fault) p q is = tt
