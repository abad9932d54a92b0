-- What holds of the moments of a run holds of a longer one.
use Rattle.std.proofs.Common.{◌∙◌, ◌++◌, ℕ, List, ◌∷◌, sym, ap, append_assoc}
use Rattle.fl_system.specs.declared.event.Event.{Event}
use Rattle.fl_system.specs.declared.reply.Reply.{Reply}
use Rattle.fl_system.specs.Runs.{Moment}
use Rattle.fl_round_laws.specs.Round.{moment, Occurs, IsSaved, IsTaken, IsAnswered}

module _ (xs : List Moment) where
  -- after other moments
  abbrev pub occurs_after : {event : Event} {reply : Reply} (ms : List Moment) → Occurs event reply ms
      → Occurs event reply (xs ++ ms)
  occurs_after {event} {reply} ms o =
      record {
        earlier = xs ++ o.earlier;
        after = o.after;
        later = o.later;
        moments_are = ap (λ l. xs ++ l) o.moments_are
            ∙ sym (append_assoc xs o.earlier (moment event reply o.after ∷ o.later));
      }

  pub taken_after : (packet number : ℕ) (ms : List Moment) → IsTaken packet number ms
      → IsTaken packet number (xs ++ ms)
  taken_after packet number ms (IsTaken.nothing_new o) = IsTaken.nothing_new (occurs_after ms o)
  taken_after packet number ms (IsTaken.takes o next) = IsTaken.takes (occurs_after ms o) next

  pub answered_after : (packet from to : ℕ) (ms : List Moment) → IsAnswered packet from to ms
      → IsAnswered packet from to (xs ++ ms)
  answered_after packet from to ms a =
      record {
        first = a.first;
        count = a.count;
        answer = occurs_after ms a.answer;
        taken = a.taken;
      }

module _ (ys : List Moment) where
  -- before other moments
  abbrev pub occurs_before : {event : Event} {reply : Reply} (ms : List Moment) → Occurs event reply ms
      → Occurs event reply (ms ++ ys)
  occurs_before {event} {reply} ms o =
      record {
        earlier = o.earlier;
        after = o.after;
        later = o.later ++ ys;
        moments_are = ap (λ l. l ++ ys) o.moments_are
            ∙ append_assoc o.earlier (moment event reply o.after ∷ o.later) ys;
      }

  saved_before : (number : ℕ) (ms : List Moment) → IsSaved number ms → IsSaved number (ms ++ ys)
  saved_before number ms s = record { saving = occurs_before ms s.saving; left = s.left }

  pub taken_before : (packet number : ℕ) (ms : List Moment) → IsTaken packet number ms
      → IsTaken packet number (ms ++ ys)
  taken_before packet number ms (IsTaken.nothing_new o) = IsTaken.nothing_new (occurs_before ms o)
  taken_before packet number ms (IsTaken.takes o next) =
      IsTaken.takes (occurs_before ms o) (saved_before number o.later next)
