-- Who lives in a world before a move and after it.
use Rattle.std.proofs.Common.{◌≡◌, ◌∙◌, refl, ap, subst, ℕ, Option, Some, None}
use Rattle.std.specs.FinMap as map
use Rattle.std.specs.Ordering.{nat_cmp}
use Rattle.fl_labels.specs.declared.pid.Pid.{Pid}
use Rattle.fl_bench.specs.declared.process.Process.{Process}
use Rattle.fl_bench.specs.laws.Puts.{none_some, same_found}
use Rattle.fl_system.specs.declared.reply.Reply.{Reply}
use Rattle.fl_system.specs.Runs.{Move, Moves}
use Rattle.fl_system.specs.Taint.{Lives}
use Rattle.fl_system.specs.World.{KeptNode, World, empty_world}
use Rattle.fl_history_laws.specs.laws.Pids.{AllTidy}
use Rattle.fl_history_laws.specs.Lives.{IsAbsent, IsBorn, Leaves}
use Rattle.fl_history_laws.specs.laws.Stories.{Alters, Story, comes, leaves, lives_on, living, move_story, nobody, process_in}

pub lives_living : {w : World} {pid : Pid} {p : Process} → Lives w pid p → living w pid ≡ Some p
lives_living {pid = pid} l = ap (λ o. process_in o pid) l.there ∙ l.stands

pub living_lives : (w : World) (pid : Pid) (p : Process) → living w pid ≡ Some p → Lives w pid p
living_lives w pid p e = by_node (map.get w.nodes pid.node) refl e
  where
    by_node : (o : Option KeptNode) → map.get w.nodes pid.node ≡ o → process_in o pid ≡ Some p → Lives w pid p
    by_node None at e = absurd (none_some refl e)
    by_node (Some s) at e = record { node = s; there = at; stands = e }

pub absent_none : (w : World) (pid : Pid) → IsAbsent w pid → living w pid ≡ None
absent_none w pid absent = by_one (living w pid) refl
  where
    by_one : (o : Option Process) → living w pid ≡ o → o ≡ None
    by_one None e = refl
    by_one (Some p) e = absurd (absent p (living_lives w pid p e))

pub none_absent : {w : World} {pid : Pid} → living w pid ≡ None → IsAbsent w pid
none_absent e p l = none_some e (lives_living l)

module _ {w : World} {move : Move} {reply : Reply} {pid : Pid} where
  born_of : {o o' : Option Process} (child : Process) → Story w move reply pid o o' → o ≡ None → o' ≡ Some child
      → IsBorn w move reply pid child
  born_of child nobody e f = absurd (none_some refl f)
  born_of child (comes birth) e f = subst (IsBorn w move reply pid) (same_found refl f) birth
  born_of child (leaves l) e f = absurd (none_some refl f)
  born_of child (lives_on a) e f = absurd (none_some e refl)

  gone_of : {o o' : Option Process} (p : Process) → Story w move reply pid o o' → o ≡ Some p → o' ≡ None
      → Leaves w move reply pid
  gone_of p nobody e f = absurd (none_some refl e)
  gone_of p (comes birth) e f = absurd (none_some refl e)
  gone_of p (leaves l) e f = l
  gone_of p (lives_on a) e f = absurd (none_some f refl)

  altered_of : {o o' : Option Process} (p q : Process) → Story w move reply pid o o' → o ≡ Some p → o' ≡ Some q
      → Alters w move reply pid p q
  altered_of p q nobody e f = absurd (none_some refl e)
  altered_of p q (comes birth) e f = absurd (none_some refl e)
  altered_of p q (leaves l) e f = absurd (none_some refl f)
  altered_of p q (lives_on {p = old} {q = new} a) e f =
      subst (λ x. Alters w move reply pid x q) (same_found refl e)
      (subst (Alters w move reply pid old) (same_found refl f) a)

module _ {w : World} {move : Move} {reply : Reply} {after : World} (tidy : AllTidy w) (moves : Moves w move reply after)
    (pid : Pid) where
  pub born : (child : Process) → IsAbsent w pid → Lives after pid child → IsBorn w move reply pid child
  born child absent lives =
      born_of child (move_story w tidy pid after move moves) (absent_none w pid absent) (lives_living lives)

  pub left : (p : Process) → Lives w pid p → IsAbsent after pid → Leaves w move reply pid
  left p lives absent =
      gone_of p (move_story w tidy pid after move moves) (lives_living lives) (absent_none after pid absent)

  -- who lives on is altered by what the move says
  pub altered : (p q : Process) → Lives w pid p → Lives after pid q → Alters w move reply pid p q
  altered p q lives still =
      altered_of p q (move_story w tidy pid after move moves) (lives_living lives) (lives_living still)

pub empty_tidy : (desks : ℕ) → AllTidy (empty_world desks)
empty_tidy desks =
    record { each = λ number s e. absurd (none_some (map.get-empty nat_cmp number) e) }
