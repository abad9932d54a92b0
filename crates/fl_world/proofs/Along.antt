-- A run of events is a run of moments, along which all lasts.
use Rattle.std.proofs.Common.{◌≡◌, ◌≤◌, ◌<◌, ◌∙◌, ℕ, zero, suc, refl, sym, ap, subst, arith}
use Rattle.std.proofs.Common.{List, [], ◌∷◌, map, take, Some, slice_get}
use Rattle.fl_bench.specs.laws.Puts.{none_some, same_found}
use Rattle.fl_store.specs.Custody.{Custody}
use Rattle.fl_system.specs.declared.event.Event.{Event}
use Rattle.fl_system.specs.declared.reply.Reply.{Reply}
use Rattle.fl_system.specs.Runs.{Move, Happens, Moment, Moves, IsRun, IsReached, Run, end}
use Rattle.fl_system.specs.Taint.{world_at}
use Rattle.fl_system.specs.World.{World}
use Rattle.fl_system.specs.WorldSteps.{Step}
use Rattle.fl_nodes.specs.Over.{WorldOver}
use Rattle.fl_nodes.specs.Goes.{Goes}
use Rattle.fl_agreement_laws.specs.Knowledge.{HasProcess}
use Rattle.fl_world.specs.Along.{moments_of, AreMoments, IsAnswered, Lasts, LastingRun}
use Rattle.fl_world.specs.Along.{KeepsYesAlong, AgreesAlong, ConfinesAlong}
use Rattle.fl_world.specs.Headline.{IsSafeWorld}
use Rattle.fl_world.specs.Lasting.{IsLastingWorld}
use Rattle.fl_world.specs.Reached.{InEach}
use Rattle.fl_world.proofs.Reaching.{reached_on}

-- ---- the moments of a run of events

pub are_moments : (w : World) (events : List Event) (replies : List Reply) (w' : World)
    (run : Run w events replies w')
    → AreMoments w events replies w' (moments_of w events replies w' run)
are_moments w [] [] w' run = record { is_run = tt; moves = refl; answers = refl; leads = sym run }
are_moments w (event ∷ events) (reply ∷ replies) w' run =
    let rest = are_moments run.0 events replies w' run.2 in
    record {
      is_run = (run.1, rest.is_run);
      moves = ap (λ l. Happens event ∷ l) rest.moves;
      answers = ap (λ l. reply ∷ l) rest.answers;
      leads = rest.leads;
    }
are_moments w [] (reply ∷ replies) w' run = absurd run
are_moments w (event ∷ events) [] w' run = absurd run

-- and back
pub run_of : (w : World) (events : List Event) (replies : List Reply) (w' : World)
    (ms : List Moment) → AreMoments w events replies w' ms → Run w events replies w'
run_of w [] [] w' [] h = sym h.leads
run_of w (event ∷ events) (reply ∷ replies) w' (m ∷ ms) h =
    let moves = h.moves in
    let answers = h.answers in
    let move_is : m.move ≡ Happens event = cc in
    let reply_is : m.reply ≡ reply = cc in
    let rest_moves : map (λ (m : Moment). m.move) ms ≡ map Happens events = cc in
    let rest_answers : map (λ (m : Moment). m.reply) ms ≡ replies = cc in (
      m.after,
      subst (λ (r : Reply). Step w event r m.after) reply_is
          (subst (λ (x : Move). Moves w x m.reply m.after) move_is h.is_run.0),
      run_of m.after events replies w' ms
          (record {
            is_run = h.is_run.1;
            moves = rest_moves;
            answers = rest_answers;
            leads = h.leads;
          }),
    )
run_of w [] [] w' (m ∷ ms) h = let e = h.moves in absurd (cc)
run_of w [] (reply ∷ replies) w' [] h = let e = h.answers in absurd (cc)
run_of w [] (reply ∷ replies) w' (m ∷ ms) h = let e = h.moves in absurd (cc)
run_of w (event ∷ events) [] w' [] h = let e = h.moves in absurd (cc)
run_of w (event ∷ events) [] w' (m ∷ ms) h = let e = h.answers in absurd (cc)
run_of w (event ∷ events) (reply ∷ replies) w' [] h = let e = h.moves in absurd (cc)

-- the moment of a place
record IsMoment (ms : List Moment) (i : ℕ) (event : Event) (reply : Reply) : Type 0 where
  after : World
  there : slice_get ms i ≡ Some (record { move = Happens event; reply = reply; after = after })

moment_of : (w : World) (events : List Event) (replies : List Reply) (w' : World)
    (run : Run w events replies w') (i : ℕ) (event : Event) (reply : Reply)
    → slice_get events i ≡ Some event → slice_get replies i ≡ Some reply
    → IsMoment (moments_of w events replies w' run) i event reply
moment_of w [] [] w' run i event reply asked answered = absurd (none_some refl asked)
moment_of w (e ∷ events) (r ∷ replies) w' run zero event reply asked answered =
    let same : e ≡ event = same_found refl asked in
    let alike : r ≡ reply = same_found refl answered in
    record {
      after = run.0;
      there = ap (λ x. Some (record { move = Happens x; reply = r; after = run.0 })) same
          ∙ ap (λ x. Some (record { move = Happens event; reply = x; after = run.0 })) alike;
    }
moment_of w (e ∷ events) (r ∷ replies) w' run (suc i) event reply asked answered =
    let rest = moment_of run.0 events replies w' run.2 i event reply asked answered in
    record { after = rest.after; there = rest.there }
moment_of w [] (r ∷ replies) w' run i event reply asked answered = absurd run
moment_of w (e ∷ events) [] w' run i event reply asked answered = absurd run

-- ---- the worlds of a run

step_at : (w : World) (ms : List Moment) (i : ℕ) (m : Moment) → IsRun w ms → slice_get ms i ≡ Some m
    → Moves (world_at w ms i) m.move m.reply (world_at w ms (suc i))
step_at w [] i m run e = absurd (none_some refl e)
step_at w (x ∷ ms) zero m run e =
    subst (λ (y : Moment). Moves w y.move y.reply x.after) (same_found refl e) run.0
step_at w (x ∷ ms) (suc i) m run e = step_at x.after ms i m run.1 e

-- what happens from moment i until moment j
abbrev pub between : List Moment → ℕ → ℕ → List Moment
between ms zero j = take j ms
between [] (suc i) j = []
between (m ∷ ms) (suc i) zero = []
between (m ∷ ms) (suc i) (suc j) = between ms i j

pub run_take : (w : World) (ms : List Moment) (j : ℕ) → IsRun w ms → IsRun w (take j ms)
run_take w ms zero run = tt
run_take w [] (suc j) run = tt
run_take w (x ∷ ms) (suc j) run = (run.0, run_take x.after ms j run.1)

pub run_between : (w : World) (ms : List Moment) (i j : ℕ) → IsRun w ms
    → IsRun (world_at w ms i) (between ms i j)
run_between w ms zero j run = run_take w ms j run
run_between w [] (suc i) j run = tt
run_between w (m ∷ ms) (suc i) zero run = tt
run_between w (m ∷ ms) (suc i) (suc j) run = run_between m.after ms i j run.1

pub end_between : (w : World) (ms : List Moment) (i j : ℕ) → i ≤ j
    → end (world_at w ms i) (between ms i j) ≡ world_at w ms j
end_between w ms zero j le = refl
end_between w [] (suc i) zero le = refl
end_between w [] (suc i) (suc j) le = refl
end_between w (m ∷ ms) (suc i) zero le = absurd (omega (arith, le))
end_between w (m ∷ ms) (suc i) (suc j) le = end_between m.after ms i j (omega (arith, le))

reached_end : (w : World) (ms : List Moment) → IsReached w → IsRun w ms → IsReached (end w ms)
reached_end w [] reached run = reached
reached_end w (m ∷ ms) reached run =
    reached_end m.after ms (reached_on w m.after m.move m.reply reached run.0) run.1

reached_at : (w : World) (ms : List Moment) (i : ℕ) → IsReached w → IsRun w ms
    → IsReached (world_at w ms i)
reached_at w ms i reached run = reached_end w (take i ms) reached (run_take w ms i run)

-- ---- all lasts along it

module _ (safe : (w : World) → IsReached w → IsSafeWorld w)
    (lasting : (w : World) → IsReached w → IsLastingWorld w) (w : World) (events : List Event)
    (replies : List Reply) (w' : World) (run : Run w events replies w')
    (reached : IsReached w) where
  abbrev ms : List Moment
  ms = moments_of w events replies w' run

  abbrev at : ℕ → World
  at i = world_at w ms i

  is_run : IsRun w ms
  is_run = (are_moments w events replies w' run).is_run

  lasts_at : (i : ℕ) → IsLastingWorld (at i)
  lasts_at i = lasting (at i) (reached_at w ms i reached is_run)

  -- the step of a place
  stepped : (i : ℕ) (event : Event) (reply : Reply) → IsAnswered events replies i event reply
      → Step (at i) event reply (at (suc i))
  stepped i event reply h =
      let m = moment_of w events replies w' run i event reply h.asked h.answered in
      step_at w ms i _ is_run m.there

  -- the same, after what happened since an earlier place
  later : (i j : ℕ) (event : Event) (reply : Reply) → i < j
      → IsAnswered events replies j event reply
      → Step (end (at (suc i)) (between ms (suc i) j)) event reply (at (suc j))
  later i j event reply less h =
      subst (λ x. Step x event reply (at (suc j))) (sym (end_between w ms (suc i) j less))
      (stepped j event reply h)

  keeps_yes : KeepsYesAlong w events replies ms
  keeps_yes = record {
    member = λ i j number desk upto other upto' root c reply less first second answer knows.
        (lasts_at i).yes.member (at (suc i)) (at (suc j)) (between ms (suc i) j) number desk upto
        other upto' root c reply (stepped i _ _ first) (run_between w ms (suc i) j is_run) knows
        answer (later i j _ reply less second);
    ask = λ i j number desk upto other upto' pid pid' p p' c reply less first second answer knows
        has has' more.
        (lasts_at i).yes.ask (at (suc i)) (at (suc j)) (between ms (suc i) j) number desk upto other
        upto' pid pid' p p' c reply (stepped i _ _ first) (run_between w ms (suc i) j is_run) knows
        has (subst (λ x. HasProcess x number pid' p') (sym (end_between w ms (suc i) j less)) has')
        more answer (later i j _ reply less second);
  }

  agrees : AgreesAlong w events replies ms
  agrees = record {
    text = λ i j number other s t here there same.
        (lasts_at i).agrees.text (at j) number other s t here there same;
    member = λ i j number desk upto other_number other upto' root c reply reply' first second answer
        answer' same.
        (lasts_at i).agrees.member (at (suc i)) (at j) (at (suc j)) number desk upto other_number
        other upto' root c reply reply' same answer answer' (stepped i _ reply first)
        (stepped j _ reply' second);
  }

  confined : ConfinesAlong w events replies ms
  confined = record {
    stays = λ tag i j pid p pure le lives.
        (lasts_at zero).confined.stays ms tag i j pid p is_run pure le lives;
    silent = λ tag i j number desk upto pid bytes pure le h.
        let m = moment_of w events replies w' run j _ _ h.asked h.answered in
        (lasts_at zero).confined.silent ms tag i j pid _ is_run pure le m.there
        (record {
          number = number;
          desk = desk;
          upto = upto;
          bytes = bytes;
          asked = refl;
          answered = refl;
        });
  }

  pub lasts : Lasts w events replies ms
  lasts = record {
    yes = keeps_yes;
    agrees = agrees;
    confined = confined;
    safe = λ i. safe (at i) (reached_at w ms i reached is_run);
    lasting = lasts_at;
  }

-- ---- so it is of nodes over keepers

pub run_lasts : {K : Type 0} (custody : Custody K) (old new : WorldOver K)
    (events : List Event) (replies : List Reply)
    → ((w w' : World) (events : List Event) (replies : List Reply) (run : Run w events replies w')
    → IsReached w → Lasts w events replies (moments_of w events replies w' run))
    → InEach custody old IsReached
    → Goes custody old new (λ w w'. Run w events replies w')
    → Goes custody old new (λ w w'. LastingRun w events replies w')
run_lasts custody old new events replies law reached goes = record {
  honest = goes.honest;
  comes = λ all after is.
      let before = goes.comes all after is in (
        before.0,
        before.1,
        record {
          run = before.2;
          lasts = law before.0 after events replies before.2
              (reached.each (goes.honest all) before.0 before.1);
        },
      );
}
