-- What is said of a script whose lines are answered one after another, as they are handed out.
use Rattle.std.specs.Prelude.{◌<◌, ◌≤◌, ◌⊎◌, ◌≡◌, ◌+◌, ◌++◌, ◌∷◌, [], ℕ, List, Option, IfOk, IfSome, OnOk, false, length, map, max, refl, true}
use Rattle.std.proofs.Common.{inl, inr, ◌∙◌, sym, ap, subst, None, Some, Result, Ok, Err, suc, arith}
use Rattle.std.proofs.Math.Nat.{max-zero, zero-max}
use Rattle.std.proofs.lemmas.List.{append_assoc, append-nil, length-append}
use Rattle.std.proofs.lemmas.List.Concat.{flat_map-append}
use Rattle.std.proofs.KnownBytes.{Appends-trans, Appends-nil, Consumes-trans, Consumes-whole}
use Rattle.std.specs.Io.KnownBytes.{Appends, Consumes, IsAtEnd}
use Rattle.std.specs.Str.Lines.{lines}
use Rattle.fl_sink.specs.Sink.{Passes, Cuts}
use Rattle.fl_sink.specs.laws.Passing.{passes_then, cuts_behind}
use Rattle.fl_stream.specs.declared.tally.Tally.{Tally}
use Rattle.fl_stream.specs.Turns.{Turns, LineOutput, Run, AnswerPasses, AnswerCuts, StaysSilent, silence, texts, worst}
use Rattle.fl_stream.specs.Output.{WritesOutput, WritesFirst}
use Rattle.fl_stream.specs.Served.{HasNoFeed, Answered, Served, Outgrows, CountsPast, HearsLongLine, HearsMidLine}
use Rattle.fl_stream.specs.Intake.{IntakeState, waiting, fresh_intake, CutsLine, HandsOut, FindsEnd, HearsPart, HearsNoMore}
use Rattle.fl_stream.specs.Driving.{GoesOn, HasEnded, Handed, AllHanded, LinesPass, LinesCut, Driven}
use Rattle.fl_stream.specs.laws.Lines.{lines-feed, lines-last}
use Rattle.fl_stream.specs.laws.Hearing.{grown_then, hears_none, hears_then, outgrows_then, counts_past_then, if_some_grown}

-- ---- what was handed out

-- before the first byte
handed_none : (r h : Option (List ℕ)) (n : Option ℕ) {most : ℕ} {s : IntakeState} → s ≡ fresh_intake most → Handed most r r h h n n s []
handed_none r h n {most} {s} e = subst (λ x. Handed most r r h h n n x []) (sym e) (record {
  bytes = [];
  hears = hears_none r h n most;
  place = inl (record { goes_on = refl; done = []; cut = refl; ended = inl refl; split = λ later. refl });
})

-- what was heard, and what waits of it
goes_on_of : {left : Option (List ℕ)} {bytes : List ℕ} {s : IntakeState} {seen : List (List ℕ)} → GoesOn bytes s seen ⊎ HasEnded left bytes s seen → s.has_ended ≡ false → GoesOn bytes s seen
goes_on_of (inl g) live = g
goes_on_of (inr e) live = cc

-- bytes were heard behind what waits
cut_behind : {bytes : List ℕ} {s : IntakeState} {seen : List (List ℕ)} (g : GoesOn bytes s seen) (more : List ℕ) → bytes ++ more ≡ g.done ++ (waiting s ++ more)
cut_behind {s = s} g more = ap (λ x. x ++ more) g.cut ∙ append_assoc g.done (waiting s) more

-- a line has ended, and more may be heard
goes_on_more : {bytes : List ℕ} {s u : IntakeState} {seen : List (List ℕ)} (more : List ℕ) → GoesOn bytes s seen → CutsLine (waiting s ++ more) u → GoesOn (bytes ++ more) u (seen ++ u.line ∷ [])
goes_on_more {s = s} {u = u} {seen = seen} more g c = record {
  goes_on = c.goes_on;
  done = g.done ++ (c.raw ++ 10 ∷ []);
  cut = cut_behind g more ∙ ap (λ x. g.done ++ x) (c.cut ∙ sym (append_assoc c.raw (10 ∷ []) (waiting u))) ∙ sym (append_assoc g.done (c.raw ++ 10 ∷ []) (waiting u));
  ended = inr (g.done ++ c.raw, sym (append_assoc g.done c.raw (10 ∷ [])));
  split = λ later.
      ap lines (append_assoc g.done (c.raw ++ 10 ∷ []) later ∙ ap (λ x. g.done ++ x) (append_assoc c.raw (10 ∷ []) later))
      ∙ g.split (c.raw ++ 10 ∷ later)
      ∙ ap (λ x. seen ++ x) (lines-feed c.raw later c.no_feed ∙ ap (λ x. x ∷ lines later) (sym c.line_is))
      ∙ sym (append_assoc seen (u.line ∷ []) (lines later));
}

-- one more line was handed out
handed_more : {most : ℕ} {r l m h k j : Option (List ℕ)} {n o p : Option ℕ} {s u : IntakeState} {seen : List (List ℕ)}
    → Handed most r l h k n o s seen → HandsOut l m k j o p s u → Handed most r m h j n p u (seen ++ u.line ∷ [])
handed_more {s = s} {u = u} {seen = seen} a b =
    let g = goes_on_of a.place b.goes_on in
    record {
      bytes = a.bytes ++ b.bytes;
      hears = hears_then a.bytes b.bytes a.hears b.hears;
      place = elim b.line [
        | inl c ↦ inl (goes_on_more b.bytes g c)
        | inr c ↦ inr (record {
          has_ended = c.has_ended;
          all = c.all;
          whole = ap lines (cut_behind g b.bytes) ∙ g.split (waiting s ++ b.bytes)
              ∙ ap (λ x. seen ++ x) (lines-last (waiting s ++ b.bytes) c.no_feed c.some ∙ ap (λ x. x ∷ []) (sym c.line_is));
        })
      ];
    }

-- no line is left
all_handed : {most : ℕ} {same : Type 0} {r l m h k : Option (List ℕ)} {n o : Option ℕ} {s : IntakeState} {seen : List (List ℕ)}
    → Handed most r l h k n o s seen → (same → m ≡ l) → ((s.has_ended ≡ true) × same) ⊎ ((waiting s ≡ []) × FindsEnd l m) → AllHanded most r m seen
all_handed {most} {r = r} {l = l} {m = m} {s = s} {seen = seen} a stays q =
    let few : length a.bytes ≤ most = omega (arith, a.hears.fits) in
    elim q [
      | inl e ↦ elim a.place [
        | inl g ↦ absurd (true_false (sym e.0 ∙ g.goes_on))
        | inr g ↦ record { bytes = a.bytes; consumed = subst (λ x. Consumes r x a.bytes) (sym (stays e.1)) a.hears.consumed; all = subst IsAtEnd (sym (stays e.1)) g.all; whole = g.whole; few = few }
      ]
      | inr e ↦
          let consumed = subst (λ x. Consumes r m x) (append-nil a.bytes) (Consumes-trans r l m a.bytes [] a.hears.consumed e.1.consumed) in
          elim a.place [
            | inl g ↦ record {
              bytes = a.bytes;
              consumed = consumed;
              all = e.1.all;
              whole = ap lines (g.cut ∙ ap (λ x. g.done ++ x) e.0) ∙ g.split [] ∙ append-nil seen;
              few = few;
            }
            | inr g ↦ record { bytes = a.bytes; consumed = consumed; all = e.1.all; whole = g.whole; few = few }
          ]
    ]
  where
    true_false : true ≡ false → ⊥
    true_false e = cc

-- what is said of a script, of which these are the first lines
first_lines : {most : ℕ} {r l h k : Option (List ℕ)} {n o : Option ℕ} {s : IntakeState} {seen : List (List ℕ)} (P : List ℕ → Type 0)
    → Handed most r l h k n o s seen → ((script : List ℕ) (later : List (List ℕ)) → lines script ≡ seen ++ later → P script) → IfSome r P
first_lines {r = r} {l = l} {s = s} {seen = seen} P a all =
    elim a.place [
      | inl g ↦ begins r l a.hears.consumed (λ later. all (a.bytes ++ later) (lines (waiting s ++ later)) (ap lines (cut_behind g later) ∙ g.split (waiting s ++ later)))
      | inr g ↦ Consumes-whole r l a.bytes P a.hears.consumed g.all (all a.bytes [] (g.whole ∙ sym (append-nil seen)))
    ]
  where
    begins : (r l : Option (List ℕ)) → Consumes r l a.bytes → ((later : List ℕ) → P (a.bytes ++ later)) → IfSome r P
    begins None l q all = tt
    begins (Some xs) None q all = absurd q
    begins (Some xs) (Some ys) q all = subst P (sym q) (all ys)

-- ---- what was answered

pub texts-append : (a b : List LineOutput) → texts (a ++ b) ≡ texts a ++ texts b
texts-append a b = flat_map-append (λ o. o.text) a b

max_assoc : (a b c : ℕ) → max (max a b) c ≡ max a (max b c)
max_assoc a b c = omega arith

pub worst-append : (a b : List LineOutput) → worst (a ++ b) ≡ max (worst a) (worst b)
worst-append [] b = sym (zero-max (worst b))
worst-append (o ∷ a) b = ap (max o.status) (worst-append a b) ∙ sym (max_assoc o.status (worst a) (worst b))

pub Run-append : {M : Type 0} (turns : Turns M) (number : ℕ) (old : M) (ls : List (List ℕ)) (bs : List LineOutput) (mid : M) (ms : List (List ℕ)) (cs : List LineOutput) (new : M) → Run turns number old ls bs mid → Run turns (number + length ls) mid ms cs new → Run turns number old (ls ++ ms) (bs ++ cs) new
Run-append turns number old [] [] mid ms cs new r q =
    let e : number + 0 ≡ number = omega arith in rw (e, r) at q
Run-append turns number old [] (b ∷ bs) mid ms cs new r q = absurd r
Run-append turns number old (l ∷ ls) [] mid ms cs new r q = absurd r
Run-append turns number old (l ∷ ls) (b ∷ bs) mid ms cs new r q =
    let e : number + suc (length ls) ≡ number + 1 + length ls = omega arith in
    (r.0, r.1, Run-append turns (number + 1) r.0 ls bs mid ms cs new r.2 (rw e at q))

-- as many silences as there are lines
silences : List (List ℕ) → List LineOutput
silences ls = map (λ _. silence) ls

texts-silences : (ls : List (List ℕ)) → texts (silences ls) ≡ []
unfolding silences
texts-silences [] = refl
texts-silences (l ∷ ls) = texts-silences ls

worst-silences : (ls : List (List ℕ)) → worst (silences ls) ≡ 0
unfolding silences
worst-silences [] = refl
worst-silences (l ∷ ls) = zero-max (worst (silences ls)) ∙ worst-silences ls

-- each line is answered in silence
run_silent : {M : Type 0} (turns : Turns M) (over : M → Type 0) → StaysSilent turns over → (number : ℕ) (state : M) (ls : List (List ℕ)) → over state → Run turns number state ls (silences ls) state
unfolding silences
run_silent turns over silent number state [] is_over = refl
run_silent turns over silent number state (l ∷ ls) is_over = (state, silent number state l is_over, run_silent turns over silent (number + 1) state ls is_over)

-- a front of the texts of the first lines was written
writes_first : {M : Type 0} {turns : Turns M} {start end : M} {most : ℕ} {r l h k a b : Option (List ℕ)} {n o : Option ℕ} {s : IntakeState} {seen : List (List ℕ)} → Handed most r l h k n o s seen
    → LinesCut turns start end a b seen → IfSome r (λ script. WritesFirst turns start a b script end)
writes_first {turns = turns} {start = start} {end = end} {a = a} {b = b} {seen = seen} d p = first_lines (λ script. WritesFirst turns start a b script end) d (λ script later split. record {
  first = seen;
  later = later;
  split = split;
  front = p.cut.front;
  rest = p.cut.rest;
  status = _;
  output = record { outputs = p.outputs; run = p.run; text_is = sym p.cut.split; status_is = refl };
  written = p.cut.written;
})

-- nothing is written for no line
pub stops_at_once : {M : Type 0} (turns : Turns M) (start : M) (r a : Option (List ℕ)) → IfSome r (λ script. WritesFirst turns start a a script start)
stops_at_once turns start None a = tt
stops_at_once turns start (Some script) a = record {
  first = [];
  later = lines script;
  split = refl;
  front = [];
  rest = [];
  status = 0;
  output = record { outputs = []; run = refl; text_is = refl; status_is = refl };
  written = Appends-nil a;
}

module _ {M : Type 0} {turns : Turns M} {start now : M} where
  -- more of what waited was written
  pub pass_on : {tally : Tally} {a b c : Option (List ℕ)} {seen : List (List ℕ)} (rest : List ℕ) → LinesPass turns start now tally a b seen → Passes b c tally.sink [] rest
      → LinesPass turns start now (record tally { sink = rest }) a c seen
  pass_on {a = a} {c = c} rest p q = record {
    outputs = p.outputs;
    run = p.run;
    number_is = p.number_is;
    status_is = p.status_is;
    passed = subst (λ x. Passes a c [] x rest) (append-nil (texts p.outputs)) (passes_then c [] rest p.passed q);
  }

  -- one more line was answered
  pass_more : {tally : Tally} {a b c : Option (List ℕ)} {seen : List (List ℕ)} {line : List ℕ} {status : ℕ} {new : M} {rest : List ℕ} → LinesPass turns start now tally a b seen
      → AnswerPasses turns tally.number now line status new b c tally.sink rest
      → LinesPass turns start new (record { number = tally.number + 1; status = max tally.status status; sink = rest }) a c (seen ++ line ∷ [])
  pass_more {tally} {c = c} {seen = seen} {line = line} {status = status} {new = new} {rest = rest} p q =
      let output : LineOutput = record { text = q.text; status = status } in record {
        outputs = p.outputs ++ output ∷ [];
        run = Run-append turns 1 start seen p.outputs now (line ∷ []) (output ∷ []) new p.run (new, subst (λ x. turns x now line output new) p.number_is q.turn, refl);
        number_is = omega (arith, p.number_is, length-append seen (line ∷ []));
        status_is = ap (λ x. max x status) p.status_is ∙ ap (max (worst p.outputs)) (sym (max-zero status)) ∙ sym (worst-append p.outputs (output ∷ []));
        passed = rw (texts-append p.outputs (output ∷ []), append-nil q.text) (passes_then c q.text rest p.passed q.passed);
      }

  -- the answer to one more line was cut
  cut_more : {tally : Tally} {a b c : Option (List ℕ)} {seen : List (List ℕ)} {line : List ℕ} {new : M} → LinesPass turns start now tally a b seen
      → AnswerCuts turns tally.number now line new b c tally.sink → LinesCut turns start new a c (seen ++ line ∷ [])
  cut_more {seen = seen} {line = line} {new = new} p q = record {
    outputs = p.outputs ++ q.output ∷ [];
    run = Run-append turns 1 start seen p.outputs now (line ∷ []) (q.output ∷ []) new p.run (new, subst (λ x. turns x now line q.output new) p.number_is q.turn, refl);
    cut = rw (texts-append p.outputs (q.output ∷ []), append-nil q.output.text) (cuts_behind p.passed q.cut);
  }

  -- what waited was cut
  cut_here : {tally : Tally} {a b c : Option (List ℕ)} {seen : List (List ℕ)} → LinesPass turns start now tally a b seen → Cuts b c tally.sink [] → LinesCut turns start now a c seen
  cut_here {a = a} {c = c} p q = record {
    outputs = p.outputs;
    run = p.run;
    cut = subst (λ x. Cuts a c [] x) (append-nil (texts p.outputs)) (cuts_behind p.passed q);
  }

  -- all texts were written
  pub texts_written : {tally : Tally} {a b : Option (List ℕ)} {seen : List (List ℕ)} (c : Option (List ℕ)) (p : LinesPass turns start now tally a b seen) → Appends b c tally.sink → Appends a c (texts p.outputs)
  texts_written {tally} {a} {b} c p q = subst (λ x. Appends a c x) (sym p.passed.split) (Appends-trans a b c p.passed.front tally.sink p.passed.written q)

  -- all lines were answered, and all was written
  pub writes_output : {most status : ℕ} {r l a b : Option (List ℕ)} {tally : Tally} {seen : List (List ℕ)} (c : Option (List ℕ)) → AllHanded most r l seen → LinesPass turns start now tally a b seen
      → Appends b c tally.sink → status ≡ tally.status → IfSome r (λ script. WritesOutput turns start a c script status now)
  writes_output {status = status} {r = r} {l = l} {a = a} c d p q e = Consumes-whole r l d.bytes (λ script. WritesOutput turns start a c script status now) d.consumed d.all (record {
    text = texts p.outputs;
    output = record { outputs = p.outputs; run = subst (λ x. Run turns 1 start x p.outputs now) (sym d.whole) p.run; text_is = refl; status_is = e ∙ p.status_is };
    written = texts_written c p q;
  })

  -- ---- both

  -- before the first byte
  pub driven_none : (r h a : Option (List ℕ)) (n : Option ℕ) {most : ℕ} {s : IntakeState} {tally : Tally} → s ≡ fresh_intake most → tally ≡ record { number = 1; status = 0; sink = [] } → now ≡ start
      → Driven turns start now most r r h h n n a a s tally
  driven_none r h a n e t i = record {
    seen = [];
    handed = handed_none r h n e;
    passed = rw t (record { outputs = []; run = i; number_is = refl; status_is = refl; passed = record { front = []; split = refl; written = Appends-nil a } });
  }

  -- exactly the lines that ended in what was heard are answered, and more of the next may be heard
  driven_answered : {most : ℕ} {r l h k a b said : Option (List ℕ)} {n o : Option ℕ} {s : IntakeState} {tally : Tally} (d : Driven turns start now most r l h k n o a b s tally) (more : List ℕ)
      → s.has_ended ≡ false → HasNoFeed (waiting s ++ more) → Appends b said tally.sink → Answered turns start (d.handed.bytes ++ more) a said now
  driven_answered {said = said} {s = s} d more live no_feed written =
      let g = goes_on_of d.handed.place live in record {
        done = g.done;
        held = waiting s ++ more;
        cut = cut_behind g more;
        ended = g.ended;
        no_feed = no_feed;
        text = texts d.passed.outputs;
        status = _;
        output = record {
          outputs = d.passed.outputs;
          run = subst (λ x. Run turns 1 start x d.passed.outputs now) (sym (ap lines (sym (append-nil g.done)) ∙ g.split [] ∙ append-nil d.seen)) d.passed.run;
          text_is = refl;
          status_is = refl;
        };
        written = texts_written said d.passed written;
      }

  -- so more may be heard, where it may be behind such answers
  pub driven_due : {most : ℕ} {r l h k a b : Option (List ℕ)} {n o : Option ℕ} {s : IntakeState} {tally : Tally} (may_hear : List ℕ → Option (List ℕ) → Type 0)
      → Driven turns start now most r l h k n o a b s tally → IfSome h (λ bytes. bytes ≡ [])
      → ((heard : List ℕ) (said : Option (List ℕ)) → Answered turns start heard a said now → may_hear heard said)
      → (more : List ℕ) (said : Option (List ℕ)) → s.has_ended ≡ false → HasNoFeed (waiting s ++ more) → Appends b said tally.sink → IfSome k (λ bytes. may_hear (bytes ++ more) said)
  driven_due {h = h} {k = k} may_hear d unheard due more said live no_feed written =
      if_some_grown h k (λ bytes. may_hear (bytes ++ more) said) d.handed.bytes d.handed.hears.grown_by
      (none_yet h unheard (due (d.handed.bytes ++ more) said (driven_answered d more live no_feed written)))
    where
      none_yet : (h : Option (List ℕ)) → IfSome h (λ bytes. bytes ≡ []) → may_hear (d.handed.bytes ++ more) said → IfSome h (λ bytes. may_hear ((bytes ++ d.handed.bytes) ++ more) said)
      none_yet None none p = tt
      none_yet (Some x) none p = subst (λ y. may_hear ((y ++ d.handed.bytes) ++ more) said) (sym none) p

  -- the next line was handed out, and answered
  pub driven_more : {most : ℕ} {r l m h k j a b c e : Option (List ℕ)} {n o p : Option ℕ} {s u : IntakeState} {tally : Tally} {status : ℕ} {new : M} {pending rest : List ℕ}
      → Driven turns start now most r l h k n o a b s tally → HandsOut l m k j o p s u → Passes b c tally.sink [] pending
      → AnswerPasses turns tally.number now u.line status new c e pending rest
      → Driven turns start new most r m h j n p a e u (record { number = tally.number + 1; status = max tally.status status; sink = rest })
  driven_more {u = u} {pending = pending} d q sent t = record {
    seen = d.seen ++ u.line ∷ [];
    handed = handed_more d.handed q;
    passed = pass_more (pass_on pending d.passed sent) t;
  }

  -- the next line was handed out, and its answer was cut
  pub driven_cut : {most : ℕ} {r l m h k j a b c e : Option (List ℕ)} {n o p : Option ℕ} {s u : IntakeState} {tally : Tally} {new : M} {pending : List ℕ}
      → Driven turns start now most r l h k n o a b s tally → HandsOut l m k j o p s u → Passes b c tally.sink [] pending
      → AnswerCuts turns tally.number now u.line new c e pending → IfSome r (λ script. WritesFirst turns start a e script new)
  driven_cut {u = u} {pending = pending} d q sent t =
      writes_first (handed_more d.handed q) (cut_more (pass_on pending d.passed sent) t)

  -- what waited was cut
  pub driven_stops : {most : ℕ} {r l h k a b c : Option (List ℕ)} {n o : Option ℕ} {s : IntakeState} {tally : Tally} → Driven turns start now most r l h k n o a b s tally → Cuts b c tally.sink []
      → IfSome r (λ script. WritesFirst turns start a c script now)
  driven_stops d q = writes_first d.handed (cut_here d.passed q)

  -- all lines were handed out
  pub driven_all : {most : ℕ} {same : Type 0} {r l m h k a b : Option (List ℕ)} {n o : Option ℕ} {s : IntakeState} {tally : Tally} (d : Driven turns start now most r l h k n o a b s tally)
      → (same → m ≡ l) → ((s.has_ended ≡ true) × same) ⊎ ((waiting s ≡ []) × FindsEnd l m) → AllHanded most r m d.seen
  driven_all d stays q = all_handed d.handed stays q

  -- all lines were handed out, and all was written
  pub driven_ends : {E same : Type 0} {most : ℕ} {r l m h k a b c : Option (List ℕ)} {n o : Option ℕ} {s : IntakeState} {tally : Tally} {rest : List ℕ} (e : Option (List ℕ)) (result : Result ℕ E)
      → Driven turns start now most r l h k n o a b s tally → (same → m ≡ l) → ((s.has_ended ≡ true) × same) ⊎ ((waiting s ≡ []) × FindsEnd l m)
      → Passes b c tally.sink [] rest → IfOk result (λ status. status ≡ tally.status) → OnOk result (Appends c e rest)
      → IfOk result (λ status. IfSome r (λ script. WritesOutput turns start a e script status now))
  driven_ends {rest = rest} e (Ok status) d stays q sent is written = writes_output e (driven_all d stays q) (pass_on rest d.passed sent) written is
  driven_ends e (Err fault) d stays q sent is written = tt

  -- it is over, and all was written: the lines behind would be answered in silence
  pub driven_over : {E : Type 0} {over : M → Type 0} {most : ℕ} {r l h k a b : Option (List ℕ)} {n o : Option ℕ} {s : IntakeState} {tally : Tally} (c : Option (List ℕ)) (result : Result ℕ E)
      → StaysSilent turns over → Driven turns start now most r l h k n o a b s tally → over now
      → IfOk result (λ status. status ≡ tally.status) → OnOk result (Appends b c tally.sink)
      → IfOk result (λ status. IfSome r (λ script. WritesOutput turns start a c script status now))
  driven_over {over = over} {a = a} c (Ok status) silent d is_over is written =
      let outputs = d.passed.outputs in
      first_lines (λ script. WritesOutput turns start a c script status now) d.handed (λ script later split. record {
        text = texts outputs;
        output = record {
          outputs = outputs ++ silences later;
          run = subst (λ x. Run turns 1 start x (outputs ++ silences later) now) (sym split) (Run-append turns 1 start d.seen outputs now later (silences later) now d.passed.run (run_silent turns over silent (1 + length d.seen) now later is_over));
          text_is = sym (texts-append outputs (silences later) ∙ ap (λ x. texts outputs ++ x) (texts-silences later) ∙ append-nil (texts outputs));
          status_is = is ∙ d.passed.status_is ∙ sym (worst-append outputs (silences later) ∙ ap (max (worst outputs)) (worst-silences later) ∙ max-zero (worst outputs));
        };
        written = texts_written c d.passed written;
      })
  driven_over c (Err fault) silent d is_over is written = tt

  -- no more was heard, and all was written
  pub driven_served : {most : ℕ} {r l m h k a b c : Option (List ℕ)} {n o : Option ℕ} {s : IntakeState} {tally : Tally} → Driven turns start now most r l h k n o a b s tally
      → s.has_ended ≡ false → HearsNoMore l m s → Appends b c tally.sink → Served most turns start r m a c now
  driven_served {most} {r} {l} {m} {s = s} d live q written =
      let bytes = d.handed.bytes in
      let whole : bytes ++ (q.taken ++ q.beyond) ≡ (bytes ++ q.taken) ++ q.beyond = sym (append_assoc bytes q.taken q.beyond) in
      record {
        taken = bytes ++ q.taken;
        beyond = q.beyond;
        consumed = subst (λ x. Consumes r m x) whole (Consumes-trans r l m bytes (q.taken ++ q.beyond) d.handed.hears.consumed q.consumed);
        bounded = elim q.bounded [ inl none ↦ inl none | inr more ↦ inr (subst (λ x. most < length x) whole (omega (arith, more, d.handed.hears.fits, length-append bytes (q.taken ++ q.beyond)))) ];
        answered = driven_answered d q.taken live q.no_feed written;
      }

  -- hearing failed, or gave more than there was room for at first, or a line became too long
  pub driven_cause : {deaf : Type 0} {most part : ℕ} {r l m h k j a b : Option (List ℕ)} {n o p : Option ℕ} {s : IntakeState} {tally : Tally} → Driven turns start now most r l h k n o a b s tally
      → s.has_ended ≡ false → deaf ⊎ ((Outgrows s.room k j × CountsPast s.room o p) ⊎ HearsPart part l m k j s)
      → deaf ⊎ ((Outgrows most h j × CountsPast most n p) ⊎ ((part < most) × HearsLongLine part r m h j))
  driven_cause {r = r} {l = l} {m = m} {s = s} d live q =
      let bytes = d.handed.bytes in
      let hears = d.handed.hears in
      elim q [
        | inl is_deaf ↦ inl is_deaf
        | inr (inl more) ↦ inr (inl (outgrows_then bytes hears more.0, counts_past_then bytes hears more.1))
        | inr (inr long) ↦
            let g = goes_on_of d.handed.place live in
            inr (inr (
              omega (arith, long.many, long.fits, hears.fits, ap length g.cut, length-append g.done (waiting s), length-append (waiting s) long.bytes),
              record {
                bytes = bytes ++ long.bytes;
                consumed = Consumes-trans r l m bytes long.bytes hears.consumed long.consumed;
                grown_by = grown_then _ bytes long.bytes hears.grown_by long.grown_by;
                front = g.done;
                part = waiting s ++ long.bytes;
                cut = cut_behind g long.bytes;
                many = long.many;
                no_feed = long.no_feed;
              },
            ))
      ]

  -- what was heard ends in a line that has not ended
  pub driven_mid_line : {most : ℕ} {r l m h k j a b : Option (List ℕ)} {n o : Option ℕ} {s : IntakeState} {tally : Tally} → Driven turns start now most r l h k n o a b s tally
      → s.has_ended ≡ false → HearsPart 0 l m k j s → HearsMidLine r m h j
  driven_mid_line {r = r} {l = l} {m = m} {s = s} d live q =
      let bytes = d.handed.bytes in
      let g = goes_on_of d.handed.place live in record {
        bytes = bytes ++ q.bytes;
        consumed = Consumes-trans r l m bytes q.bytes d.handed.hears.consumed q.consumed;
        grown_by = grown_then _ bytes q.bytes d.handed.hears.grown_by q.grown_by;
        ends = record { front = g.done; part = waiting s ++ q.bytes; cut = cut_behind g q.bytes; some = q.many; no_feed = q.no_feed };
      }
