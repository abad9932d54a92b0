-- Moments of a run, one behind another, that happen at one node.
use Rattle.std.proofs.Common.{◌≡◌, ◌∙◌, ℕ, zero, suc, ◌≤◌, List, [], ◌∷◌, ◌++◌, length}
use Rattle.std.proofs.Common.{Some, refl, sym, ap, subst, arith, append_assoc}
use Rattle.std.proofs.lemmas.List.{append-nil}
use Rattle.std.specs.List.{Contains}
use Rattle.fl_store.specs.Kept.{Kept}
use Rattle.fl_system.specs.declared.admission.Admission.{Admission}
use Rattle.fl_system.specs.declared.event.Event.{Event}
use Rattle.fl_system.specs.declared.reply.Reply.{Reply}
use Rattle.fl_system.specs.declared.sent.Sent.{Sent}
use Rattle.fl_system.specs.Numbered.{item_at}
use Rattle.fl_system.specs.Runs.{Moment, Happens, IsRun, end}
use Rattle.fl_system.specs.State.{NodeState}
use Rattle.fl_system.specs.World.{World, went}
use Rattle.fl_system.specs.WorldSteps.{IsAt, Step}
use Rattle.fl_one_worker_calls.specs.Worlds.{IsElsewhere}
use Rattle.fl_one_worker_calls.proofs.Places.{at_number, elsewhere, elsewhere_same, elsewhere_still}
use Rattle.fl_crew_worlds.specs.Worlds.{Has, Means}

-- ---- lists

module _ {X : Type 0} where
  pub first_in : (x : X) (xs : List X) → Contains (x ∷ xs) x
  first_in x xs = (0, omega arith, refl)

  pub only_in : (x y : X) → Contains (x ∷ []) y → x ≡ y
  only_in x y (zero, low, is) = is
  only_in x y (suc k, low, is) = absurd (omega (arith, low))

  -- an item of a list that goes on
  pub item_left : (xs ys : List X) (k : ℕ) (x : X) → item_at xs k ≡ Some x
      → item_at (xs ++ ys) k ≡ Some x
  item_left [] ys k x h = absurd (cc)
  item_left (y ∷ xs) ys zero x h = absurd (cc)
  item_left (y ∷ xs) ys (suc zero) x h = h
  item_left (y ∷ xs) ys (suc (suc k)) x h = item_left xs ys (suc k) x h

  -- the number of an item
  pub item_low : (xs : List X) (k : ℕ) (x : X) → item_at xs k ≡ Some x
      → (1 ≤ k) × (k ≤ length xs)
  item_low [] k x h = absurd (cc)
  item_low (y ∷ xs) zero x h = absurd (cc)
  item_low (y ∷ xs) (suc zero) x h = (omega arith, omega arith)
  item_low (y ∷ xs) (suc (suc k)) x h =
      let it = item_low xs (suc k) x h in (omega arith, omega (arith, it.1))

  -- all that the first list has
  abbrev pub IsPart : List X → List X → Type 0
  IsPart xs ys = (x : X) → Contains xs x → Contains ys x

-- ---- what stands among moments

pub has_in : (ms : List Moment) (what : Event) (reply : Reply) (after : World)
    → Contains ms (record { move = Happens what; reply = reply; after = after })
    → Has ms what reply
has_in ms what reply after h = record {
  moment = record { move = Happens what; reply = reply; after = after };
  there = h;
  happens = refl;
  answered = refl;
}

pub has_more : {ms later : List Moment} {what : Event} {reply : Reply} → IsPart ms later
    → Has ms what reply → Has later what reply
has_more part h = record {
  moment = h.moment;
  there = part h.moment h.there;
  happens = h.happens;
  answered = h.answered;
}

pub means_more : {number : ℕ} {ms later : List Moment} {first reply : Reply} → IsPart ms later
    → Means number ms first reply → Means number later first reply
means_more part Means.same = Means.same
means_more part Means.sent = Means.sent
means_more part (Means.published h) = Means.published (has_more part h)
means_more part (Means.late h) = Means.late (has_more part h)
means_more part (Means.took h) = Means.took (has_more part h)
means_more part (Means.took_late h) = Means.took_late (has_more part h)

-- ---- where moments lead

-- the node of this number is so behind them, and what is kept of it, and these packets were sent
pub record Led (number : ℕ) (w : World) (ms : List Moment) (more : List Sent) (n : NodeState)
    (k : Kept) : Type 0 where
  pub is_run : IsRun w ms
  pub there : IsAt (end w ms) number (record { node = n; kept = k })
  pub elsewhere : IsElsewhere number w (end w ms)
  pub packets : (end w ms).packets ≡ w.packets ++ more

run_behind : (w : World) (ms later : List Moment) → IsRun w ms → IsRun (end w ms) later
    → IsRun w (ms ++ later)
run_behind w [] later h g = g
run_behind w (m ∷ ms) later h g = (h.0, run_behind m.after ms later h.1 g)

pub end_behind : (w : World) (ms later : List Moment) → end w (ms ++ later) ≡ end (end w ms) later
end_behind w [] later = refl
end_behind w (m ∷ ms) later = end_behind m.after ms later

pub none_led : (number : ℕ) (w : World) (n : NodeState) (k : Kept)
    → IsAt w number (record { node = n; kept = k }) → Led number w [] [] n k
none_led number w n k at = record {
  is_run = tt;
  there = at;
  elsewhere = elsewhere_same;
  packets = sym (append-nil w.packets);
}

-- one moment
pub one_led : (number : ℕ) (w : World) (what : Event) (reply : Reply) (n : NodeState) (k : Kept)
    (sent : List Sent) (admitted : List Admission)
    → Step w what reply (went w number n k sent admitted)
    → Led number w (record {
      move = Happens what;
      reply = reply;
      after = went w number n k sent admitted;
    } ∷ []) sent n k
one_led number w what reply n k sent admitted step = record {
  is_run = (step, tt);
  there = at_number w number n k sent admitted;
  elsewhere = elsewhere w number n k sent admitted;
  packets = refl;
}

-- and then others
pub then_led : {number : ℕ} {w : World} {ms later : List Moment} {more others : List Sent}
    {n n' : NodeState} {k k' : Kept} → Led number w ms more n k
    → Led number (end w ms) later others n' k'
    → Led number w (ms ++ later) (more ++ others) n' k'
then_led {number} {w} {ms} {later} {more} {others} {n} {n'} {k} {k'} h g =
    let at = end_behind w ms later in
    record {
      is_run = run_behind w ms later h.is_run g.is_run;
      there =
          subst (λ (v : World). IsAt v number (record { node = n'; kept = k' })) (sym at) g.there;
      elsewhere =
          subst (λ (v : World). IsElsewhere number w v) (sym at)
          (elsewhere_still h.elsewhere g.elsewhere);
      packets =
          ap (λ (v : World). v.packets) at
          ∙ (g.packets
          ∙ (ap (λ (l : List Sent). l ++ others) h.packets
          ∙ append_assoc w.packets more others));
    }
