-- The cut of spans into windows, step by step.
use Rattle.std.proofs.Common.{◌≡◌, ◌<◌, ◌≤◌, true, List, [], ◌∷◌, ◌++◌, length, get_or, take, drop, refl, sym, ap, subst, ◌∙◌, arith, append_assoc}
use Rattle.std.specs.List.{flat_map}
use Rattle.std.proofs.lemmas.List.{take-append-drop, length-drop, length-take-le, flat_map_more}
use Rattle.fl_labels.specs.declared.name.Name.{Name}
use Rattle.fl_opset.specs.declared.span.Span.{Span}
use Rattle.fl_opset.specs.declared.intervals.Intervals.{Intervals}
use Rattle.fl_opset.specs.Rank.{name_rank, last_rank, least_rank, greatest_rank}
use Rattle.fl_opset.specs.Spans.{fit}
use Rattle.fl_opset.specs.Windows.{IsLeastName, IsGreatestName, IsNextName, EndsWith, IsCutInto}
use Rattle.fl_opset.specs.laws.Fits.{at_fit}
use Rattle.fl_opset.proofs.Cuts.{parted, ends_with, AreFull, one_more, the_last}

-- so far: the windows are full, and the rest goes from here on
pub record CutTo (spans : List Span) (ws : List Intervals) (from : Name) (rest : List Span) : Type 0 where
  pub full : AreFull IsLeastName ws from
  pub joined : flat_map (λ w. w.spans) ws ++ rest ≡ spans
  pub fits : fit (name_rank from) greatest_rank rest ≡ true
  pub some : 0 < length ws → 0 < length rest

pub cut_start : (spans : List Span) (ws : List Intervals) (from : Name) → fit least_rank greatest_rank spans ≡ true → ws ≡ [] → IsLeastName from → CutTo spans ws from spans
cut_start spans ws from h none least =
    let low : least_rank ≡ name_rank from = omega (arith, least.0, least.1) in
    subst (λ l. CutTo spans l from spans) (sym none) (record {
      full = least;
      joined = refl;
      fits = subst (λ n. fit n greatest_rank spans ≡ true) low h;
      some = λ more. absurd (omega arith);
    })

-- the next 512 spans, up to the name to, and those after them
pub record Piece (from to : Name) (front back : List Span) : Type 0 where
  pub ends : EndsWith front to
  pub ordered : name_rank from ≤ name_rank to
  pub fits : fit (name_rank from) (name_rank to) front ≡ true
  pub below : name_rank to < greatest_rank
  pub after : (next : Name) → IsNextName to next → fit (name_rank next) greatest_rank back ≡ true
  pub some : 0 < length back

whole_piece : (from to : Name) (front back : List Span) → fit (name_rank from) greatest_rank (front ++ back) ≡ true → 0 < length back → EndsWith front to → Piece from to front back
whole_piece from to front [] h more e = absurd (omega arith)
whole_piece from to front (t ∷ ts) h more e =
    let p = parted (name_rank from) greatest_rank front t ts to h e in
    record {
      ends = e;
      ordered = p.ordered;
      fits = p.front;
      below = omega (arith, p.apart, t.rises, p.ends);
      after = λ next step. at_fit (name_rank next) greatest_rank t ts (record { starts = step.1 t.first (omega (arith, p.apart)); ends = p.ends; rest = p.back });
      some = more;
    }

pub next_piece : (spans : List Span) (ws : List Intervals) (from to : Name) (rest front back : List Span) (s : Span) → CutTo spans ws from rest → 512 < length rest → front ≡ take 512 rest → back ≡ drop 512 rest
    → s ≡ get_or front 511 s → name_rank to ≡ last_rank s → Piece from to front back
next_piece spans ws from to rest front back s c more e f at last =
    let long : length front ≡ 512 = ap length e ∙ length-take-le 512 rest (omega arith) in
    let left : 0 < length back = omega (arith, ap length f, length-drop 512 rest) in
    let split : front ++ back ≡ rest = (λ i. e i ++ f i) ∙ take-append-drop 512 rest in
    whole_piece from to front back (subst (λ l. fit (name_rank from) greatest_rank l ≡ true) (sym split) c.fits) left
    (ends_with front 511 to s (sym long) (sym at) (sym last))

pub cut_step : (spans : List Span) (ws vs : List Intervals) (from to next : Name) (rest front back : List Span) (w : Intervals) → CutTo spans ws from rest → 512 < length rest → front ≡ take 512 rest → back ≡ drop 512 rest
    → Piece from to front back → (w.from ≡ from) × (w.to ≡ to) × (w.spans ≡ front) → IsNextName to next → vs ≡ ws ++ w ∷ [] → CutTo spans vs next back
cut_step spans ws vs from to next rest front back w c more e f p is step new =
    let long : length w.spans ≡ 512 = ap length (is.2 ∙ e) ∙ length-take-le 512 rest (omega arith) in
    let split : front ++ back ≡ rest = (λ i. e i ++ f i) ∙ take-append-drop 512 rest in
    let ends : EndsWith w.spans w.to = subst (λ n. EndsWith w.spans n) (sym is.1) (subst (λ l. EndsWith l to) (sym is.2) p.ends) in
    let stepped : IsNextName w.to next = subst (λ n. IsNextName n next) (sym is.1) step in
    subst (λ l. CutTo spans l next back) (sym new) (record {
      full = one_more IsLeastName ws from next w c.full is.0 long ends stepped;
      joined = ap (λ l. l ++ back) (sym (flat_map_more (λ (w : Intervals). w.spans) [] ws w)) ∙ append_assoc (flat_map (λ (w : Intervals). w.spans) ws) w.spans back
          ∙ ap (λ l. flat_map (λ (w : Intervals). w.spans) ws ++ l) ((λ i. is.2 i ++ back) ∙ split) ∙ c.joined;
      fits = p.after next step;
      some = λ any. p.some;
    })

pub cut_end : (spans : List Span) (ws vs : List Intervals) (from to : Name) (rest : List Span) (w : Intervals) → CutTo spans ws from rest → IsGreatestName to
    → (w.from ≡ from) × (w.to ≡ to) × (w.spans ≡ rest) → vs ≡ ws ++ w ∷ [] → IsCutInto spans vs
cut_end spans ws vs from to rest w c greatest is new =
    subst (IsCutInto spans) (sym new) (record {
      spans = sym (flat_map_more (λ (w : Intervals). w.spans) [] ws w) ∙ (λ i. flat_map (λ (w : Intervals). w.spans) ws ++ is.2 i) ∙ c.joined;
      cut = the_last IsLeastName ws from w c.full is.0 (subst IsGreatestName (sym is.1) greatest) (λ any. omega (arith, c.some any, ap length is.2));
    })
