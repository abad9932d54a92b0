-- What names a registry has, as windows over all names, and what a set has that a window lacks.
use Rattle.std.specs.Prelude.{◌≡◌, ◌+◌, ◌<◌, ◌≤◌, Bool, true, not, ◌&&◌, List, [], ◌∷◌, length, nat_le}
use Rattle.std.specs.List.{Contains, filter, flat_map, list_any}
use Rattle.std.specs.List.Sorted.{IsStrictlySortedBy}
use Rattle.std.specs.declared.cmp.Ordering.{Ordering}
use Rattle.fl_labels.specs.declared.name.Name.{Name}
use Rattle.fl_labels.specs.Name.{name_cmp}
use Rattle.fl_labels.specs.SetBy.{SetBy, members}
use Rattle.fl_ops.specs.declared.op.Op.{Op}
use Rattle.fl_ops.specs.OpOrder.{op_cmp}
use Rattle.fl_ops.specs.Registry.{Registry}
use Rattle.fl_opset.specs.declared.span.Span.{Span}
use Rattle.fl_opset.specs.declared.intervals.Intervals.{Intervals}
use Rattle.fl_opset.specs.Rank.{name_rank, last_rank}
use Rattle.fl_opset.specs.Spans.{in_span}

-- ---- spans

-- the name of an operation of the registry
abbrev pub IsName : Registry → Name → Type 0
IsName U n = (op : Op) × U op × (op.name ≡ n)

-- a greatest run of names of the registry
pub record IsSpan (U : Registry) (s : Span) : Type 0 where
  pub held : (n : Name) → in_span s n ≡ true → IsName U n
  pub none_before : (n : Name) → name_rank n + 1 ≡ name_rank s.first → ¬ IsName U n
  pub none_after : (n : Name) → name_rank n ≡ last_rank s + 1 → ¬ IsName U n

-- by their first names
abbrev pub span_cmp : Span → Span → Ordering
span_cmp s t = name_cmp s.first t.first

-- these are its spans, rising
pub record AreSpans (U : Registry) (ss : List Span) : Type 0 where
  pub rise : IsStrictlySortedBy span_cmp ss
  pub only : (s : Span) → Contains ss s → IsSpan U s
  pub all : (s : Span) → IsSpan U s → Contains ss s

-- ---- windows

abbrev pub IsLeastName : Name → Type 0
IsLeastName n = (n.node ≡ 1) × (n.seq ≡ 1)

abbrev pub IsGreatestName : Name → Type 0
IsGreatestName n = (n.node ≡ 4294967295) × (n.seq ≡ 4294967295)

-- n follows m, and no name is between them
abbrev pub IsNextName : Name → Name → Type 0
IsNextName m n = (name_rank m < name_rank n)
    × ((k : Name) → name_rank m < name_rank k → name_rank n ≤ name_rank k)

-- the last of these spans ends with the name
abbrev pub EndsWith : List Span → Name → Type 0
EndsWith [] n = ⊥
EndsWith (s ∷ []) n = last_rank s ≡ name_rank n
EndsWith (s ∷ t ∷ ss) n = EndsWith (t ∷ ss) n

-- Windows in a row, of which the first begins as said: each but the last has 512 spans and ends with the last of
-- them, the next begins at the next name and has a span, and the last ends at the greatest name.
abbrev pub AreCut : (Name → Type 0) → List Intervals → Type 0
AreCut Begins [] = ⊥
AreCut Begins (w ∷ []) = Begins w.from × IsGreatestName w.to
AreCut Begins (w ∷ v ∷ ws) =
    Begins w.from × (length w.spans ≡ 512) × EndsWith w.spans w.to × (0 < length v.spans)
    × AreCut (IsNextName w.to) (v ∷ ws)

-- the windows over all names with these spans
pub record IsCutInto (ss : List Span) (ws : List Intervals) : Type 0 where
  pub spans : flat_map (λ w. w.spans) ws ≡ ss
  pub cut : AreCut IsLeastName ws

-- these are the registry's windows: over all names, with all its spans
pub record AreWindows (U : Registry) (ws : List Intervals) : Type 0 where
  pub spans : AreSpans U (flat_map (λ w. w.spans) ws)
  pub cut : AreCut IsLeastName ws

-- whether the name is in the window
abbrev pub in_window : Intervals → Name → Bool
in_window w n = nat_le (name_rank w.from) (name_rank n) && nat_le (name_rank n) (name_rank w.to)

-- ---- what is lacking

-- whether the operation's name is in the window, and in none of its spans
abbrev pub is_lacking : Intervals → Op → Bool
is_lacking w op = in_window w op.name && not (list_any (λ s. in_span s op.name) w.spans)

-- the members that the window lacks, rising
abbrev pub lacking : SetBy op_cmp → Intervals → List Op
lacking s w = filter (is_lacking w) (members s)
