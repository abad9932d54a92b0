-- What is heard one time after another, and what of it waits.
use Rattle.std.proofs.Common.{◌<◌, ◌≤◌, ◌⊎◌, inl, inr, ◌≡◌, ◌+◌, ◌-◌, ◌++◌, ◌∙◌, ◌==◌, refl, sym, ap, List, [], ◌∷◌, ℕ, Bool, if◌then◌else◌, length, take, drop, subst, Option, IfErr, Result, Ok, Err, false, true, arith}
use Rattle.std.specs.List.{slice_range}
use Rattle.std.proofs.lemmas.List.{append_assoc, append-nil, length-append, drop-take, drop-drop, take-take}
use Rattle.std.proofs.lemmas.List.Elements.{All-append, All-nil}
use Rattle.std.proofs.KnownBytes.{Appends-trans, Consumes-nil, Consumes-kept, Consumes-trans}
use Rattle.std.specs.Io.KnownBytes.{Appends, Consumes, IsAtEnd, Keeps}
use Rattle.std.specs.Str.Lines.{strip_carriage_return}
use Rattle.fl_sink.specs.Sink.{Cuts, Passes}
use Rattle.fl_stream.specs.Served.{HasNoFeed, Outgrows, CountsPast}
use Rattle.fl_stream.specs.laws.Hearing.{append_known-nil, grown_then, hears_none, hears_then, outgrows_then, counts_past_then}
use Rattle.fl_stream.specs.Intake.{IntakeState, waiting, Hears, CutsLine, HandsOut, HearsMore, FindsEnd, HearsPart, HearsNoMore}

-- what waited was written, or a front of it, and then the rest
pub passed_written : {a b : Option (List ℕ)} {pending rest : List ℕ} (c : Option (List ℕ)) → Passes a b pending [] rest → Appends b c rest → Appends a c pending
passed_written {a} {b} {pending} {rest} c p q = subst (λ x. Appends a c x) (sym (sym (append-nil pending) ∙ p.split)) (Appends-trans a b c p.front rest p.written q)

-- all that waited was written, and so a front of it
pub cuts_written : {a b : Option (List ℕ)} {pending : List ℕ} → Appends a b pending → Cuts a b pending []
cuts_written {pending = pending} p = record { front = pending; rest = []; split = refl; written = p }

pub passes_written : {a b : Option (List ℕ)} {pending rest : List ℕ} → Appends a b pending → rest ≡ [] → Passes a b pending [] rest
passes_written {pending = pending} p none = record { front = pending; split = ap (λ x. pending ++ x) (sym none); written = p }

-- what holds whatever the error is
pub on_err_if : {T E P : Type 0} (r : Result T E) (e : E) → P → IfErr r (λ x. x ≡ e → P)
on_err_if (Ok x) e p = tt
on_err_if (Err x) e p = λ _. p

-- where nothing is held, nothing waits of it
pub either_none : (b : Bool) → ◌≡◌ {A = List ℕ} (if b then [] else []) []
either_none true = refl
either_none false = refl

-- no line ends in no bytes
pub no_feed_nil : HasNoFeed []
no_feed_nil = All-nil (λ b. (b == 10) ≡ false)

-- where a chunk is cut
pub range_line : (chunk : List ℕ) (next heard at : ℕ) → next + at ≤ heard → take at (slice_range chunk next heard) ≡ slice_range chunk next (next + at)
range_line chunk next heard at few = take-take at (heard - next) (drop next chunk) (omega arith) ∙ ap (λ k. take k (drop next chunk)) (omega arith)

pub range_after : (chunk : List ℕ) (next heard at : ℕ) → next + at < heard → drop (at + 1) (slice_range chunk next heard) ≡ slice_range chunk (next + (at + 1)) heard
range_after chunk next heard at few =
    let more : heard - next ≡ (at + 1) + (heard - (next + (at + 1))) = omega arith in
    ap (λ k. drop (at + 1) (take k (drop next chunk))) more
    ∙ drop-take (at + 1) (heard - (next + (at + 1))) (drop next chunk)
    ∙ ap (take (heard - (next + (at + 1)))) (drop-drop (at + 1) next chunk)

-- where there is no more, nothing waits
pub goes_on_here : (ended : Bool) {next heard : ℕ} (at : ℕ) → (ended ≡ true → next ≡ heard) → next + at < heard → ended ≡ false
goes_on_here true at none inside = absurd (omega (arith, none refl, inside))
goes_on_here false at none inside = refl

-- the line that is held ends at a line feed
pub cuts_line : {bytes : List ℕ} {new : IntakeState} (held rest line after : List ℕ) → bytes ≡ held ++ rest → rest ≡ line ++ 10 ∷ after → HasNoFeed held → HasNoFeed line
    → waiting new ≡ after → new.line ≡ strip_carriage_return (held ++ line) → new.has_ended ≡ false → CutsLine bytes new
cuts_line held rest line after whole cut no_held no_line behind line_is goes_on = record {
  raw = held ++ line;
  no_feed = All-append (λ b. (b == 10) ≡ false) held line no_held no_line;
  cut = whole ∙ ap (λ x. held ++ x) cut ∙ sym (append_assoc held line (10 ∷ after)) ∙ ap (λ x. (held ++ line) ++ 10 ∷ x) (sym behind);
  line_is = line_is;
  goes_on = goes_on;
}

pub more_none : (r h : Option (List ℕ)) (n : Option ℕ) (s : IntakeState) → HearsMore r r h h n n s s
more_none r h n s = record { bytes = []; hears = hears_none r h n s.room; behind = sym (append-nil (waiting s)) }

pub more_then : {r l m h k j : Option (List ℕ)} {n o p : Option ℕ} {s t u : IntakeState} → HearsMore r l h k n o s t → HearsMore l m k j o p t u → HearsMore r m h j n p s u
more_then {s = s} a b = record {
  bytes = a.bytes ++ b.bytes;
  hears = hears_then a.bytes b.bytes a.hears b.hears;
  behind = b.behind ∙ ap (λ x. x ++ b.bytes) a.behind ∙ append_assoc (waiting s) a.bytes b.bytes;
}

-- what waits is held elsewhere
pub more_as : {r l h k : Option (List ℕ)} {n o : Option ℕ} {s t u : IntakeState} → HearsMore r l h k n o s t → waiting u ≡ waiting t → u.room ≡ t.room → HearsMore r l h k n o s u
more_as {r} {l} {h} {k} {n} {o} {s} a same room = record {
  bytes = a.bytes;
  hears = subst (λ x. Hears r l h k n o s.room x a.bytes) (sym room) a.hears;
  behind = same ∙ a.behind;
}

-- what waits was not cut, and is held
pub more_held : {r l h k : Option (List ℕ)} {n o : Option ℕ} {s t : IntakeState} (u v : IntakeState) → HearsMore r l h k n o s t → u.held ≡ t.held → u.rest ≡ t.rest → u.room ≡ t.room
    → v.held ≡ waiting u → v.rest ≡ [] → v.room ≡ u.room → HearsMore r l h k n o s v
more_held {t = t} u v a held rest room all none left =
    more_as a (ap (λ x. v.held ++ x) none ∙ append-nil v.held ∙ all ∙ ap (λ x. x ++ u.rest) held ∙ ap (λ x. t.held ++ x) rest) (left ∙ room)

-- a line ends in what was heard
pub hands_out : {r l h k : Option (List ℕ)} {n o : Option ℕ} {s t u : IntakeState} → s.has_ended ≡ false → HearsMore r l h k n o s t → CutsLine (waiting t) u → u.room ≡ t.room → HandsOut r l h k n o s u
hands_out {r} {l} {h} {k} {n} {o} {s} {t} {u} goes_on a c room = record {
  goes_on = goes_on;
  bytes = a.bytes;
  hears = subst (λ x. Hears r l h k n o s.room x a.bytes) (sym room) a.hears;
  line = inl (subst (λ x. CutsLine x u) a.behind c);
}

-- all that waits is the last line
pub hands_out_last : {r l h k : Option (List ℕ)} {n o : Option ℕ} {s t u : IntakeState} → s.has_ended ≡ false → HearsMore r l h k n o s t → IsAtEnd l → t.rest ≡ [] → HasNoFeed t.held → 0 < length t.held
    → u.line ≡ t.held → u.held ≡ [] → u.rest ≡ [] → u.room ≡ t.room → u.has_ended ≡ true → HandsOut r l h k n o s u
hands_out_last {r} {l} {h} {k} {n} {o} {s} {t} {u} goes_on a all none no_feed some line held rest room ended =
    let whole : t.held ≡ waiting s ++ a.bytes = sym (append-nil t.held) ∙ ap (λ x. t.held ++ x) (sym none) ∙ a.behind in
    record {
      goes_on = goes_on;
      bytes = a.bytes;
      hears = subst (λ x. Hears r l h k n o s.room x a.bytes) (sym room) a.hears;
      line = inr (record {
        all = all;
        line_is = line ∙ whole;
        some = subst (λ x. 0 < length x) whole some;
        no_feed = subst HasNoFeed whole no_feed;
        none = ap (λ x. x ++ u.rest) held ∙ rest;
        has_ended = ended;
      });
    }

-- nothing waits at the end
pub finds_end : {r l h k : Option (List ℕ)} {n o : Option ℕ} {s t : IntakeState} → HearsMore r l h k n o s t → IsAtEnd l → t.rest ≡ [] → t.held ≡ [] → (waiting s ≡ []) × FindsEnd r l
finds_end {r} {l} {s = s} {t = t} a all none held =
    let whole : waiting s ++ a.bytes ≡ [] = sym a.behind ∙ ap (λ x. x ++ t.rest) held ∙ none in
    let parts = nil_both (waiting s) a.bytes whole in
    (parts.0, record { consumed = subst (λ x. Consumes r l x) parts.1 a.hears.consumed; all = all })
  where
    nil_both : (xs ys : List ℕ) → xs ++ ys ≡ [] → (xs ≡ []) × (ys ≡ [])
    nil_both [] ys e = (refl, e)
    nil_both (x ∷ xs) ys e = cc

-- a line that was handed out waits no more
pub hands_out_less : {r l h k : Option (List ℕ)} {n o : Option ℕ} {s u : IntakeState} → HandsOut r l h k n o s u → length (waiting u) + u.room < length (waiting s) + s.room
hands_out_less {s = s} {u = u} a =
    let whole = length-append (waiting s) a.bytes in
    elim a.line [
      | inl c ↦ omega (arith, a.hears.fits, whole, ap length c.cut, length-append c.raw (10 ∷ waiting u))
      | inr c ↦ omega (arith, a.hears.fits, whole, ap length c.none, c.some)
    ]

-- no line ends in what is held, and none behind it
pub no_feed_waiting : (s : IntakeState) → HasNoFeed s.held → HasNoFeed s.rest → HasNoFeed (waiting s)
no_feed_waiting s held rest = All-append (λ b. (b == 10) ≡ false) s.held s.rest held rest

-- nothing waits behind what is held
pub no_feed_held : (s : IntakeState) → s.rest ≡ [] → HasNoFeed s.held → HasNoFeed (waiting s)
no_feed_held s none no_feed = subst HasNoFeed (sym (ap (λ x. s.held ++ x) none ∙ append-nil s.held)) no_feed

no_feed_behind : (s : IntakeState) → s.rest ≡ [] → HasNoFeed s.held → HasNoFeed (waiting s ++ [])
no_feed_behind s none no_feed = subst HasNoFeed (sym (append-nil (waiting s))) (no_feed_held s none no_feed)

-- the line has not ended, and has more than so many bytes
pub part_then : {r l m h k j : Option (List ℕ)} {n o : Option ℕ} {s t : IntakeState} {most : ℕ} → HearsMore r l h k n o s t → HearsPart most l m k j t → HearsPart most r m h j s
part_then {r} {l} {m} {h} {k} {j} {s = s} {t = t} {most = most} a b =
    let whole : waiting t ++ b.bytes ≡ waiting s ++ (a.bytes ++ b.bytes) = ap (λ x. x ++ b.bytes) a.behind ∙ append_assoc (waiting s) a.bytes b.bytes in
    record {
      bytes = a.bytes ++ b.bytes;
      consumed = Consumes-trans r l m a.bytes b.bytes a.hears.consumed b.consumed;
      grown_by = grown_then _ a.bytes b.bytes a.hears.grown_by b.grown_by;
      fits = omega (arith, a.hears.fits, b.fits, length-append a.bytes b.bytes);
      many = subst (λ x. most < length x) whole b.many;
      no_feed = subst HasNoFeed whole b.no_feed;
    }

-- what waits has not ended
pub part_here : (r h : Option (List ℕ)) (s : IntakeState) {most : ℕ} → HasNoFeed (waiting s) → most < length (waiting s) → HearsPart most r r h h s
part_here r h s {most} no_feed many = record {
  bytes = [];
  consumed = Consumes-nil r;
  grown_by = append_known-nil h;
  fits = omega arith;
  many = subst (λ x. most < length x) (sym (append-nil (waiting s))) many;
  no_feed = subst HasNoFeed (sym (append-nil (waiting s))) no_feed;
}

-- nothing was heard, and no more is
pub no_more_none : {r l : Option (List ℕ)} {s : IntakeState} → Keeps r l → s.rest ≡ [] → HasNoFeed s.held → HearsNoMore r l s
no_more_none {r} {l} {s} keep none no_feed = record {
  taken = [];
  beyond = [];
  consumed = Consumes-kept r r l [] (Consumes-nil r) keep;
  bounded = inl refl;
  no_feed = no_feed_behind s none no_feed;
}

-- more was heard than there is room for
pub no_more_room : {r l : Option (List ℕ)} {s : IntakeState} (bytes : List ℕ) → Consumes r l bytes → s.room < length bytes → s.rest ≡ [] → HasNoFeed s.held → HearsNoMore r l s
no_more_room {s = s} bytes consumed many none no_feed = record {
  taken = [];
  beyond = bytes;
  consumed = consumed;
  bounded = inr many;
  no_feed = no_feed_behind s none no_feed;
}

-- no more is heard
pub no_more_then : {r l m h k : Option (List ℕ)} {n o : Option ℕ} {s t : IntakeState} → HearsMore r l h k n o s t → HearsNoMore l m t → HearsNoMore r m s
no_more_then {r} {l} {m} {s = s} {t = t} a b =
    let whole : a.bytes ++ (b.taken ++ b.beyond) ≡ (a.bytes ++ b.taken) ++ b.beyond = sym (append_assoc a.bytes b.taken b.beyond) in
    record {
      taken = a.bytes ++ b.taken;
      beyond = b.beyond;
      consumed = subst (λ x. Consumes r m x) whole (Consumes-trans r l m a.bytes (b.taken ++ b.beyond) a.hears.consumed b.consumed);
      bounded = elim b.bounded [ inl none ↦ inl none | inr more ↦ inr (subst (λ x. s.room < length x) whole (omega (arith, more, a.hears.fits, length-append a.bytes (b.taken ++ b.beyond)))) ];
      no_feed = subst HasNoFeed (ap (λ x. x ++ b.taken) a.behind ∙ append_assoc (waiting s) a.bytes b.taken) b.no_feed;
    }

-- why no more is heard
pub cause_then : {deaf : Type 0} {r l m h k j : Option (List ℕ)} {n o p : Option ℕ} {s t : IntakeState} {most : ℕ} → HearsMore r l h k n o s t
    → deaf ⊎ ((Outgrows t.room k j × CountsPast t.room o p) ⊎ HearsPart most l m k j t)
    → deaf ⊎ ((Outgrows s.room h j × CountsPast s.room n p) ⊎ HearsPart most r m h j s)
cause_then a c = elim c [
  | inl is_deaf ↦ inl is_deaf
  | inr (inl more) ↦ inr (inl (outgrows_then a.bytes a.hears more.0, counts_past_then a.bytes a.hears more.1))
  | inr (inr long) ↦ inr (inr (part_then a long))
]
