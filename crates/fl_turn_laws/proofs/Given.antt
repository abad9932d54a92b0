-- A script has one run over given stores.
use Rattle.std.proofs.Common.{◌≡◌, ◌∙◌, sym, ap, ℕ, List, [], ◌∷◌, ◌++◌, length, take, Some}
use Rattle.std.specs.List.{All}
use Rattle.fl_bench.specs.laws.Puts.{same_found}
use Rattle.fl_stream.specs.Turns.{texts, worst}
use Rattle.fl_calls.specs.Entering.{Openings}
use Rattle.fl_calls.specs.laws.Widening.{OpensMore}
use Rattle.fl_turns.specs.Answer.{Answer}
use Rattle.fl_turns.specs.Run.{Run, outputs_from}
use Rattle.fl_turns.specs.Session.{Session, begun}
use Rattle.fl_turns.specs.laws.Widening.{turn_too}
use Rattle.fl_turn_laws.specs.Certain.{IsSure, IsSureRun, RefusesOver, OpenOneWay, Stores, given}
use Rattle.fl_turn_laws.proofs.OneTurn.{SpellOnePacket, HaveNoFault, script_one, same_first}

pub run_too : (less more : Openings) → OpensMore less more → (old : Session) (lines : List (List ℕ)) (answers : List Answer)
    (new : Session) → Run less old lines answers new → Run more old lines answers new
run_too less more wider old [] [] new h = h
run_too less more wider old [] (answer ∷ answers) new h = absurd h
run_too less more wider old (line ∷ lines) [] new h = absurd h
run_too less more wider old (line ∷ lines) (answer ∷ answers) new h = (
  h.0,
  turn_too less more wider old line answer h.0 h.1,
  run_too less more wider h.0 lines answers new h.2,
)

-- ---- all openings over given stores

over : Stores → Openings
over stores = record {
  finds = λ number k. stores number ≡ Some k;
  refuses = λ w number. RefusesOver (λ k. stores number ≡ Some k) w number;
}

one_way : (stores : Stores) → OpenOneWay (over stores)
unfolding over
one_way stores = record {
  one_kept = λ number k other is was. same_found is was;
  refused = λ w number fault why. why;
}

-- the given ones of any openings are among them
among : (stores : Stores) (openings : Openings) → OpensMore (given stores openings) (over stores)
unfolding over
among stores openings = record { finds = λ number k found. found.0; refuses = λ w number fault why. why.0 }

module _ (one_spelling : SpellOnePacket) (whole : HaveNoFault) (stores : Stores) (o p : Openings) where
  widened : (openings : Openings) (lines : List (List ℕ)) (xs : List Answer) (m : Session)
      → Run (given stores openings) begun lines xs m → Run (over stores) begun lines xs m
  widened openings lines xs m = run_too (given stores openings) (over stores) (among stores openings) begun lines xs m

  pub given_one : (lines : List (List ℕ)) (xs ys : List Answer) (m n : Session) → Run (given stores o) begun lines xs m
      → Run (given stores p) begun lines ys n → All IsSure xs → All IsSure ys → (xs ≡ ys) × (m ≡ n)
  given_one lines xs ys m n h k =
      script_one one_spelling whole (over stores) (one_way stores) lines xs ys m n (widened o lines xs m h) (widened p lines ys n k)

  pub given_first : (first later other : List (List ℕ)) (xs ys : List Answer) (m n : Session)
      → Run (given stores o) begun (first ++ later) xs m → Run (given stores p) begun (first ++ other) ys n
      → All IsSure xs → All IsSure ys → take (length first) xs ≡ take (length first) ys
  given_first first later other xs ys m n h k =
      same_first one_spelling whole (over stores) (one_way stores) first later other xs ys m n
      (widened o (first ++ later) xs m h) (widened p (first ++ other) ys n k)

  pub given_text : (lines : List (List ℕ)) (text other : List ℕ) (status also : ℕ) (m n : Session)
      → IsSureRun (given stores o) lines text status m → IsSureRun (given stores p) lines other also n
      → (text ≡ other) × (status ≡ also) × (m ≡ n)
  given_text lines text other status also m n h k =
      let a = h.one_run.answered in
      let b = k.one_run.answered in
      let same = given_one lines a.answers b.answers m n a.run b.run h.sure k.sure in
      let outputs : h.one_run.outputs ≡ k.one_run.outputs =
      a.outputs_are ∙ ap (outputs_from 1) same.0 ∙ sym b.outputs_are in (
        h.one_run.text_is ∙ ap texts outputs ∙ sym k.one_run.text_is,
        h.one_run.status_is ∙ ap worst outputs ∙ sym k.one_run.status_is,
        same.1,
      )
