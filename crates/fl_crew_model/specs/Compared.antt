-- The entries of a worker agree with the rulings on its orders: one after the other, none wanting
-- and none left over.
use Rattle.std.specs.Prelude.{◌≡◌, ◌==◌, ℕ, ◌<◌, ◌≤◌, cond, List, [], ◌∷◌}
use Rattle.std.specs.declared.option.Option.{Option}
use Rattle.std.specs.declared.option.Option.TheVariants.{None, Some}
use Rattle.fl_crew_model.specs.declared.record.Ruling.{Ruling}
use Rattle.fl_crew_model.specs.declared.record.Entry.{Entry}
use Rattle.fl_crew_model.specs.declared.record.Decision.{Decision}
use Rattle.fl_crew_model.specs.declared.record.Deed.{Deed}
use Rattle.fl_crew_model.specs.declared.record.Deed.TheVariants.{Decided, Delivered}

-- the first decision is the one on the entry
pub record IsDecided (ds : List Decision) (e : Entry) (ruling : Ruling) (next : ℕ)
    (rest : List Decision) : Type 0 where
  pub decision : Decision
  pub first : ds ≡ decision ∷ rest
  pub place : decision.place ≡ e.place
  pub same : decision.ruling ≡ ruling
  -- it was made where the list had all that was seen
  pub seen : e.seen ≤ decision.before
  -- from then on all of the list after it has to be seen
  pub from : next ≡ decision.after

-- the first decision, if there is one, is on a later place
abbrev pub IsLater : ℕ → List Decision → Type 0
IsLater place [] = Unit {0}
IsLater place (d ∷ ds) = place < d.place

-- the entry was answered by its bench alone
pub record IsAlone (ds : List Decision) (e : Entry) (next : ℕ) (rest : List Decision)
    : Type 0 where
  pub from : next ≡ e.seen
  pub all : rest ≡ ds
  -- no decision is on it
  pub later : IsLater e.place ds

-- one or the other, by whether the registrar was asked
abbrev pub Matches : List Decision → Entry → Option Ruling → ℕ → List Decision → Type 0
Matches ds e None next rest = IsAlone ds e next rest
Matches ds e (Some ruling) next rest = IsDecided ds e ruling next rest

-- The entries are those on the first of these decisions, in their order, and the others are left.
-- From here on at least `need` elements of the list are seen, and in the end at least `last`.
abbrev pub AgreesUpTo : ℕ → List Decision → List Entry → ℕ → List Decision → Type 0
AgreesUpTo need ds [] last left = (last ≡ need) × (left ≡ ds)
AgreesUpTo need ds (e ∷ es) last left =
    (next : ℕ) × (rest : List Decision) × (need ≤ e.seen) × Matches ds e e.ruling next rest
    × AgreesUpTo next rest es last left

-- no decision is left
abbrev pub Agrees : ℕ → List Decision → List Entry → ℕ → Type 0
Agrees need ds es last = AgreesUpTo need ds es last []

-- they are on later and later places, so on each place there is one at most
abbrev pub Rise : List Decision → Type 0
Rise [] = Unit {0}
Rise (d ∷ ds) = IsLater d.place ds × Rise ds

-- the last of them, if there is one, is on an earlier place
abbrev pub EndBefore : List Decision → ℕ → Type 0
EndBefore [] place = Unit {0}
EndBefore (d ∷ []) place = d.place < place
EndBefore (d ∷ e ∷ ds) place = EndBefore (e ∷ ds) place

-- the decisions on the orders of one worker
abbrev pub decisions_of : ℕ → List Deed → List Decision
decisions_of w [] = []
decisions_of w (Decided d ∷ rs) = cond (d.worker == w) (d ∷ decisions_of w rs) (decisions_of w rs)
decisions_of w (Delivered p ∷ rs) = decisions_of w rs
