-- The first entries of a worker follow the decisions as far as they were compared.
use Rattle.std.proofs.Common.{◌≡◌, ◌∙◌, inl, inr, ℕ, zero, suc, ◌+◌, ◌-◌, ◌≤◌, ◌<◌, List, []}
use Rattle.std.proofs.Common.{◌∷◌}
use Rattle.std.proofs.Common.{Option, None, Some, length, take, refl, sym, ap, subst, arith}
use Rattle.std.proofs.Common.{true}
use Rattle.std.specs.Option.{is_some, IfSome}
use Rattle.std.proofs.lemmas.Bool.{cases_lt}
use Rattle.fl_crew_model.specs.declared.record.Ruling.{Ruling}
use Rattle.fl_crew_model.specs.declared.record.Entry.{Entry}
use Rattle.fl_crew_model.specs.declared.record.Decision.{Decision}
use Rattle.fl_crew_model.specs.Compared.{IsLater, IsAlone, IsDecided, Matches, AgreesUpTo, Agrees}
use Rattle.fl_crew_model.specs.Compared.{Rise}

-- what the rest follows, from `need` and these decisions on, the whole follows from the first need
-- and all decisions on
abbrev pub GoesBack : ℕ → List Decision → List Entry → ℕ → List Decision → List Entry → ℕ → Type 0
GoesBack need ds rest first all es good =
    (k last : ℕ) (left : List Decision) → AgreesUpTo need ds (take k rest) last left
    → AgreesUpTo first all (take (good + k) es) last left

pub back_first : (need : ℕ) (ds : List Decision) (es : List Entry)
    → GoesBack need ds es need ds es 0
back_first need ds es k last left h =
    let at : k ≡ 0 + k = omega arith in subst (λ (i : ℕ). AgreesUpTo need ds (take i es) last left)
    at h

pub back_next : (need next first : ℕ) (ds behind all : List Decision) (e : Entry)
    (tail es : List Entry) (good : ℕ) → need ≤ e.seen → Matches ds e e.ruling next behind
    → GoesBack need ds (e ∷ tail) first all es good
    → GoesBack next behind tail first all es (good + 1)
back_next need next first ds behind all e tail es good low m h k last left follows =
    let at : good + suc k ≡ (good + 1) + k = omega arith in
    subst (λ (i : ℕ). AgreesUpTo first all (take i es) last left) at
    (h (suc k) last left (next, behind, low, m, follows))

pub back_end : (need first : ℕ) (ds all : List Decision) (rest es : List Entry) (good : ℕ)
    → GoesBack need ds rest first all es good → AgreesUpTo first all (take good es) need ds
back_end need first ds all rest es good h =
    let at : good + 0 ≡ good = omega arith in
    subst (λ (i : ℕ). AgreesUpTo first all (take i es) need ds) at (h 0 need ds (refl, refl))

-- all of them
take_all : (good : ℕ) (es : List Entry) → length es ≤ good → take good es ≡ es
take_all zero [] h = refl
take_all (suc good) [] h = refl
take_all zero (e ∷ es) h = absurd (omega (arith, h))
take_all (suc good) (e ∷ es) h = ap (λ l. e ∷ l) (take_all good es (omega (arith, h)))

pub all_agree : (need last good : ℕ) (ds left : List Decision) (es : List Entry) → length es ≤ good
    → left ≡ [] → AgreesUpTo need ds (take good es) last left → Agrees need ds es last
all_agree need last good ds left es whole none h =
    subst (λ (l : List Entry). AgreesUpTo need ds l last []) (take_all good es whole)
    (subst (λ (r : List Decision). AgreesUpTo need ds (take good es) last r) none h)

-- ---- no entry agrees in two ways

pub same_next : (ds : List Decision) (e : Entry) (a : Option Ruling) (next other : ℕ)
    (rest more : List Decision) → Matches ds e a next rest → Matches ds e a other more
    → (next ≡ other) × (rest ≡ more)
same_next ds e None next other rest more m h = (m.from ∙ sym h.from, m.all ∙ sym h.all)
same_next ds e (Some ruling) next other rest more m h =
    let same : m.decision ∷ rest ≡ h.decision ∷ more = sym m.first ∙ h.first in
    let decision : m.decision ≡ h.decision = cc in
    (m.from ∙ (ap (λ (d : Decision). d.after) decision ∙ sym h.from), (let it = same in cc))

pub agree_once : (need last end : ℕ) (ds left more : List Decision) (es : List Entry)
    → AgreesUpTo need ds es last left → AgreesUpTo need ds es end more → left ≡ more
agree_once need last end ds left more [] h g = h.1 ∙ sym g.1
agree_once need last end ds left more (e ∷ es) (next, rest, low, m, h)
    (other, others, as_low, n, g) =
    let same = same_next ds e e.ruling other next others rest n m in
    agree_once next last end rest left more es h
    (subst (λ (l : List Decision). AgreesUpTo next l es end more) same.1
    (subst (λ (k : ℕ). AgreesUpTo k others es end more) same.0 g))

-- ---- where the comparison stops no entry agrees

pub not_alone : (ds more : List Decision) (e : Entry) (d : Decision) → ds ≡ d ∷ more
    → d.place ≤ e.place → (next : ℕ) (rest : List Decision) → ¬ IsAlone ds e next rest
not_alone ds more e d is low next rest m =
    let later : IsLater e.place (d ∷ more) = subst (IsLater e.place) is m.later in omega arith

pub none_decided : (ds : List Decision) (e : Entry) (ruling : Ruling) → ds ≡ [] → (next : ℕ)
    (rest : List Decision) → ¬ IsDecided ds e ruling next rest
none_decided ds e ruling is next rest m = let first = m.first in cc

pub decided_so : (ds more : List Decision) (e : Entry) (d : Decision) (ruling : Ruling) (next : ℕ)
    (rest : List Decision) → ds ≡ d ∷ more → IsDecided ds e ruling next rest
    → (d.place ≡ e.place) × (d.ruling ≡ ruling) × (e.seen ≤ d.before)
decided_so ds more e d ruling next rest is m =
    let joined : d ∷ more ≡ m.decision ∷ rest = sym is ∙ m.first in
    let same : m.decision ≡ d = (let it = joined in cc) in (
      ap (λ (x : Decision). x.place) (sym same) ∙ m.place,
      ap (λ (x : Decision). x.ruling) (sym same) ∙ m.same,
      subst (λ (x : Decision). e.seen ≤ x.before) same m.seen,
    )

-- what the whole follows, from the first need and all decisions on, the rest follows from `need`
-- and
-- these decisions on
abbrev pub GoesForth : ℕ → List Decision → List Entry → ℕ → List Decision → List Entry → ℕ → Type 0
GoesForth need ds rest first all es good =
    (k last : ℕ) (left : List Decision) → AgreesUpTo first all (take (good + k) es) last left
    → AgreesUpTo need ds (take k rest) last left

pub forth_first : (need : ℕ) (ds : List Decision) (es : List Entry)
    → GoesForth need ds es need ds es 0
forth_first need ds es k last left h =
    let at : 0 + k ≡ k = omega arith in
    subst (λ (i : ℕ). AgreesUpTo need ds (take i es) last left) at h

pub forth_next : (need next first : ℕ) (ds behind all : List Decision) (e : Entry)
    (tail es : List Entry) (good : ℕ) → Matches ds e e.ruling next behind
    → GoesForth need ds (e ∷ tail) first all es good
    → GoesForth next behind tail first all es (good + 1)
forth_next need next first ds behind all e tail es good m h k last left follows =
    let at : (good + 1) + k ≡ good + suc k = omega arith in
    let (other, rest, low, n, more) =
    h (suc k) last left
    (subst (λ (i : ℕ). AgreesUpTo first all (take i es) last left) at follows) in
    let same = same_next ds e e.ruling other next rest behind n m in
    subst (λ (l : List Decision). AgreesUpTo next l (take k tail) last left) same.1
    (subst (λ (j : ℕ). AgreesUpTo j rest (take k tail) last left) same.0 more)

-- no longer front agrees than the one that was found
pub forth_stops : (need first : ℕ) (ds all : List Decision) (e : Entry) (tail es : List Entry)
    (good : ℕ) → GoesForth need ds (e ∷ tail) first all es good
    → ((next : ℕ) (rest : List Decision) → need ≤ e.seen → ¬ Matches ds e e.ruling next rest)
    → (most last : ℕ) (left : List Decision) → AgreesUpTo first all (take most es) last left
    → most ≤ good
forth_stops need first ds all e tail es good h never most last left follows =
    elim (cases_lt good most) [ inl over ↦ absurd (beyond over) | inr within ↦ within ]
  where
    beyond : good < most → ⊥
    beyond over =
        let at : most ≡ good + suc ((most - good) - 1) = omega arith in
        let (next, rest, low, m, more) =
        h (suc ((most - good) - 1)) last left
        (subst (λ (i : ℕ). AgreesUpTo first all (take i es) last left) at follows) in
        never next rest low m

-- ---- the entries of one worker agree, or not

-- no entry is over
pub short_of : (need good : ℕ) (ds : List Decision) (es : List Entry)
    → ((most last : ℕ) (left : List Decision) → most ≤ length es
    → AgreesUpTo need ds (take most es) last left → most ≤ good)
    → good < length es → (last : ℕ) → ¬ Agrees need ds es last
short_of need good ds es longest short last h =
    let whole : take (length es) es ≡ es = take_all (length es) es (omega arith) in
    let up =
    longest (length es) last [] (omega arith)
    (subst (λ (l : List Entry). AgreesUpTo need ds l last []) (sym whole) h) in
    omega (arith, up, short)

-- no decision is left over
pub some_left : (need last good : ℕ) (ds left more : List Decision) (d : Decision) (es : List Entry)
    → length es ≤ good → left ≡ d ∷ more → AgreesUpTo need ds (take good es) last left
    → (end : ℕ) → ¬ Agrees need ds es end
some_left need last good ds left more d es whole is h end g =
    let all =
    subst (λ (l : List Entry). AgreesUpTo need ds l last left) (take_all good es whole) h in
    let none : left ≡ [] = agree_once need last end ds left [] es all g in
    cc

-- the decision that is left over
pub one_left : (o : Option Decision) (left behind from : List Decision) → is_some o ≡ true
    → IfSome o (λ d. (left ≡ d ∷ behind) × (from ≡ left)) → (d : Decision) × (left ≡ d ∷ behind)
one_left None left behind from is h = absurd (cc)
one_left (Some d) left behind from is h = (d, h.0)

-- ---- places that rise

-- they rise, from behind this place on
abbrev pub Above : Option ℕ → List Decision → Type 0
Above None ds = Rise ds
Above (Some place) ds = IsLater place ds × Rise ds

pub none_above : (last : Option ℕ) → Above last []
none_above None = tt
none_above (Some place) = (tt, tt)
