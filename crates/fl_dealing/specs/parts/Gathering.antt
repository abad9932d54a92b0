-- What is not yet in the list.
use Rattle.std.specs.Prelude.{◌≡◌, ◌≢◌, ℕ, List, [], ◌∷◌, ◌++◌}
use Rattle.std.specs.declared.option.Option.{Option}
use Rattle.std.specs.declared.option.Option.TheVariants.{None, Some}
use Rattle.fl_dealing.specs.declared.entry.Entry.{Entry}
use Rattle.fl_dealing.specs.declared.gathering.Answers.{Answers}
use Rattle.fl_dealing.specs.Gathered.{said_by}

abbrev pub said : Answers → ℕ → List Entry
said a w = said_by a.lanes.items a.taken.items w

-- the last answer of owner w was this one, and is taken
pub record IsPopped (w : ℕ) (old : Answers) (e : Entry) (new : Answers) : Type 0 where
  pub last : said old w ≡ said new w ++ e ∷ []
  pub others : (v : ℕ) → v ≢ w → said new v ≡ said old v

-- where it had one
abbrev pub Pops : ℕ → Answers → Option Entry → Answers → Type 0
Pops w old None new = said old w ≡ []
Pops w old (Some e) new = IsPopped w old e new

-- no answer is left
abbrev pub AreAllGone : Answers → Type 0
AreAllGone a = (w : ℕ) → said a w ≡ []
