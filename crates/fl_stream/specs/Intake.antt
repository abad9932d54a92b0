-- A script is heard, and its lines are handed out.
use Rattle.std.specs.Prelude.{◌≡◌, ◌+◌, ◌++◌, ◌∷◌, ◌<◌, ◌≤◌, ◌⊎◌, [], Bool, ℕ, List, Option}
use Rattle.std.specs.Prelude.{false, if◌then◌else◌, length, refl, true}
use Rattle.std.specs.Coded.{Coded, code_by, coded×, coded_bool, coded_ℕ, coded_list}
use Rattle.std.specs.Str.Lines.{strip_carriage_return}
use Rattle.std.specs.Io.KnownBytes.{Consumes, IsAtEnd, append_known}
use Rattle.fl_stream.specs.Served.{HasNoFeed, plus_known}

-- between two lines
pub record IntakeState : Type 0 where
  -- the line that was handed out last, without its end
  pub line : List ℕ
  -- what is held of the line behind it, and what was heard after that
  pub held : List ℕ
  pub rest : List ℕ
  -- how many more bytes may be heard
  pub room : ℕ
  -- there are no more
  pub has_ended : Bool

-- what was heard, and not handed out
abbrev pub waiting : IntakeState → List ℕ
waiting state = state.held ++ state.rest

-- how often more may be asked for: for each byte that may be heard, and once to find the end
abbrev pub may_ask : IntakeState → ℕ
may_ask state = if state.has_ended then 0 else state.room + 1

-- before the first byte
abbrev pub fresh_intake : ℕ → IntakeState
fresh_intake room = record { line = []; held = []; rest = []; room = room; has_ended = false }

-- these bytes were heard, for which there was room
pub record Hears (remaining left heard grown : Option (List ℕ)) (counted recounted : Option ℕ)
    (room less : ℕ) (bytes : List ℕ) : Type 0 where
  pub consumed : Consumes remaining left bytes
  pub grown_by : grown ≡ append_known heard bytes
  pub counted_by : recounted ≡ plus_known counted (length bytes)
  pub fits : length bytes + less ≡ room

-- the line ends with the first line feed of these bytes, and what is behind it waits
pub record CutsLine (bytes : List ℕ) (new : IntakeState) : Type 0 where
  pub raw : List ℕ
  pub no_feed : HasNoFeed raw
  pub cut : bytes ≡ raw ++ 10 ∷ waiting new
  pub line_is : new.line ≡ strip_carriage_return raw
  pub goes_on : new.has_ended ≡ false

-- there is no more, and the line is all of these bytes, in which none ends
pub record IsLastLine (left : Option (List ℕ)) (bytes : List ℕ) (new : IntakeState) : Type 0 where
  pub all : IsAtEnd left
  pub line_is : new.line ≡ bytes
  pub some : 0 < length bytes
  pub no_feed : HasNoFeed bytes
  pub none : waiting new ≡ []
  pub has_ended : new.has_ended ≡ true

-- bytes were heard, and the next line was handed out
pub record HandsOut (remaining left heard grown : Option (List ℕ)) (counted recounted : Option ℕ)
    (old new : IntakeState) : Type 0 where
  pub goes_on : old.has_ended ≡ false
  pub bytes : List ℕ
  pub hears : Hears remaining left heard grown counted recounted old.room new.room bytes
  pub line : CutsLine (waiting old ++ bytes) new ⊎ IsLastLine left (waiting old ++ bytes) new

-- bytes were heard behind what waited
pub record HearsMore (remaining left heard grown : Option (List ℕ)) (counted recounted : Option ℕ)
    (old new : IntakeState) : Type 0 where
  pub bytes : List ℕ
  pub hears : Hears remaining left heard grown counted recounted old.room new.room bytes
  pub behind : waiting new ≡ waiting old ++ bytes

-- nothing was heard, and there is no more
pub record FindsEnd (remaining left : Option (List ℕ)) : Type 0 where
  pub consumed : Consumes remaining left []
  pub all : IsAtEnd left

-- bytes were heard, for which there was room, and the line has not ended, which has more than so
-- many
pub record HearsPart (most : ℕ) (remaining left heard grown : Option (List ℕ))
    (old : IntakeState) : Type 0 where
  pub bytes : List ℕ
  pub consumed : Consumes remaining left bytes
  pub grown_by : grown ≡ append_known heard bytes
  pub fits : length bytes ≤ old.room
  pub many : most < length (waiting old ++ bytes)
  pub no_feed : HasNoFeed (waiting old ++ bytes)

-- bytes were heard in which no line ends, and bytes beyond only where there was no room for them
pub record HearsNoMore (remaining left : Option (List ℕ)) (old : IntakeState) : Type 0 where
  pub taken : List ℕ
  pub beyond : List ℕ
  pub consumed : Consumes remaining left (taken ++ beyond)
  pub bounded : (beyond ≡ []) ⊎ (old.room < length (taken ++ beyond))
  pub no_feed : HasNoFeed (waiting old ++ taken)

-- a state is stored as the tuple of its fields
abbrev pub coded_intake : Coded IntakeState
coded_intake =
    code_by (List ℕ × (List ℕ × (List ℕ × (ℕ × Bool))))
    (coded× (coded_list coded_ℕ) (coded× (coded_list coded_ℕ) (coded× (coded_list coded_ℕ)
    (coded× coded_ℕ coded_bool))))
    (λ i. (i.line, (i.held, (i.rest, (i.room, i.has_ended)))))
    (λ t. record {
      line = t.0;
      held = t.1.0;
      rest = t.1.1.0;
      room = t.1.1.1.0;
      has_ended = t.1.1.1.1;
    })
    (λ _. refl)
