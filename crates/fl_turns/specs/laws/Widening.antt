-- Where no less may be opened, a line may be answered as before.
use Rattle.std.proofs.Common.{ℕ, List, [], ◌∷◌, inl, inr}
use Rattle.fl_system.specs.World.{World}
use Rattle.fl_script.specs.declared.line.Line.{Line}
use Rattle.fl_script.specs.declared.reading.Reading.{Reading}
use Rattle.fl_script.specs.declared.reading.Reading.TheVariants as reading
use Rattle.fl_script.specs.declared.request.Request.{Request}
use Rattle.fl_script.specs.declared.request.Request.TheVariants as request
use Rattle.fl_calls.specs.Answer.{Answer as Said}
use Rattle.fl_calls.specs.Calls as calls
use Rattle.fl_calls.specs.Calls.{Delivers, BeginsToTake}
use Rattle.fl_calls.specs.Entering.{Openings, OnceOpen}
use Rattle.fl_calls.specs.laws.Widening.{OpensMore, once_open_more}
use Rattle.fl_turns.specs.Answer.{Answer}
use Rattle.fl_turns.specs.Run.{Run}
use Rattle.fl_turns.specs.Session.{Session}
use Rattle.fl_turns.specs.Turn.{AsksNode, AnswersLine, asks, unites, counts, lists, AnswersReading, Turn}

module _ (less more : Openings) (wider : OpensMore less more) where
  -- the node of this number is opened as before
  opens_too : (w w' : World) (number : ℕ) (does : World → Said → World → Type 0) (answer : Said)
      → OnceOpen less w number does answer w' → OnceOpen more w number does answer w'
  opens_too w w' number does answer = once_open_more less more wider w w' number does does answer (λ v a v' h. h)

  delivers_too : (w w' : World) (number packet : ℕ) (answer : Said) → Delivers less w number packet answer w'
      → Delivers more w number packet answer w'
  delivers_too w w' number packet answer (calls.not_sent none) = calls.not_sent none
  delivers_too w w' number packet answer (calls.comes there once) = calls.comes there (opens_too w w' number _ answer once)

  takes_too : (w w' : World) (number packet : ℕ) (answer : Said) → BeginsToTake less w number packet answer w'
      → BeginsToTake more w number packet answer w'
  takes_too w w' number packet answer (calls.not_sent none) = calls.not_sent none
  takes_too w w' number packet answer (calls.no_ops there none) = calls.no_ops there none
  takes_too w w' number packet answer (calls.comes there some once) =
      calls.comes there some (opens_too w w' number _ answer once)

  node_too : (w w' : World) (number : ℕ) (r : Request) (answer : Said) → AsksNode less w number r answer w'
      → AsksNode more w number r answer w'
  node_too w w' number (request.Job job) answer h = opens_too w w' _ _ answer h
  node_too w w' number (request.Begin pid order) answer h = opens_too w w' _ _ answer h
  node_too w w' number (request.Deliver packet) answer h = delivers_too w w' number packet answer h
  node_too w w' number (request.BeginDeliver packet) answer h = takes_too w w' number packet answer h
  node_too w w' number request.Tell answer h = opens_too w w' _ _ answer h
  node_too w w' number request.Save answer h = opens_too w w' _ _ answer h
  node_too w w' number request.Publish answer h = opens_too w w' _ _ answer h
  node_too w w' number request.Cancel answer h = opens_too w w' _ _ answer h
  node_too w w' number (request.Restart kept) answer h = opens_too w w' _ _ answer h
  node_too w w' number request.Text answer h = opens_too w w' number _ answer h
  node_too w w' number (request.Check bytes) answer h = opens_too w w' number _ answer h

  line_too : (old : Session) (line : Line) (answer : Answer) (w' : World) → AnswersLine less old line answer w'
      → AnswersLine more old line answer w'
  line_too old line answer w' (asks {number} {request = r} {what} h) = asks (node_too old.world w' number r what h)
  line_too old line answer w' (unites {first} {second} {what} h) =
      unites (once_open_more less more wider old.world w' first _ _ what
      (λ v a v'. opens_too v v' second _ a) h)
  line_too old line answer w' (counts h) = counts h
  line_too old line answer w' lists = lists

  reading_too : (old : Session) (r : Reading) (answer : Answer) (new : Session) → AnswersReading less old r answer new
      → AnswersReading more old r answer new
  reading_too old reading.Quiet answer new h = h
  reading_too old reading.Bad answer new h = h
  reading_too old (reading.Means line alias) answer new h =
      record { answered = line_too old line answer new.world h.answered; named = h.named }

  pub turn_too : (old : Session) (bytes : List ℕ) (answer : Answer) (new : Session) → Turn less old bytes answer new
      → Turn more old bytes answer new
  turn_too old bytes answer new (inl h) =
      inl (record { reading = h.reading; says = h.says; answered = reading_too old h.reading answer new h.answered })
  turn_too old bytes answer new (inr h) = inr h

  pub run_too : (old : Session) (lines : List (List ℕ)) (answers : List Answer) (new : Session)
      → Run less old lines answers new → Run more old lines answers new
  run_too old [] [] new h = h
  run_too old [] (answer ∷ answers) new h = absurd h
  run_too old (line ∷ lines) [] new h = absurd h
  run_too old (line ∷ lines) (answer ∷ answers) new h =
      (h.0, turn_too old line answer h.0 h.1, run_too h.0 lines answers new h.2)
