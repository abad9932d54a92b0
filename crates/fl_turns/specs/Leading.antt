-- Worlds to which others lead.
use Rattle.std.specs.Prelude.{◌≡◌, List, [], ◌∷◌}
use Rattle.fl_system.specs.Runs.{Move, Happens, Comes, Returns, Moment, IsRun, end}
use Rattle.fl_system.specs.World.{World}

-- it is an event or a joining: no node is opened over another keeper
abbrev pub IsPlain : Move → Type 0
IsPlain (Happens event) = Unit {0}
IsPlain (Comes number k) = Unit {0}
IsPlain (Returns number k) = ⊥

-- nor at any of these
abbrev pub ArePlain : List Moment → Type 0
ArePlain [] = Unit {0}
ArePlain (m ∷ ms) = IsPlain m.move × ArePlain ms

-- a run of worlds leads from this one to that, by events and joinings alone
pub record Leads (w w' : World) : Type 0 where
  pub moments : List Moment
  pub is_run : IsRun w moments
  pub plain : ArePlain moments
  pub leads : end w moments ≡ w'
