-- What an event begins is saved and published, or given up.
use Rattle.std.proofs.Common.{◌≡◌, ℕ, true, false, sym, subst}
use Rattle.fl_store.specs.Custody.{Custody}
use Rattle.fl_system.specs.declared.event.Event.{Event}
use Rattle.fl_system.specs.declared.event.Event.TheVariants.{Save, Cancel}
use Rattle.fl_system.specs.declared.reply.Reply.{Reply}
use Rattle.fl_system.specs.WorldSteps.{Step, node_of}
use Rattle.fl_nodes.specs.Over.{WorldOver}
use Rattle.fl_nodes.specs.Goes.{Goes}
use Rattle.fl_calls.specs.Completing.{begins, starved, Finishes, given_up, Completes, at_once, in_steps}
use Rattle.fl_calls.proofs.Going.{goes_then, goes_as}

module _ {K : Type 0} (custody : Custody K) where
  pub gives_up : (old between new : WorldOver K) (number : ℕ) (reply other : Reply) → reply ≡ starved
      → Goes custody old between (λ w w'. Step w (Save number) reply w')
      → Goes custody between new (λ w w'. Step w (Cancel number) other w')
      → Goes custody old new (λ w w'. Finishes w number reply w')
  gives_up old between new number reply other is first second =
      goes_then custody old between new (λ w w'. Step w (Save number) reply w') (λ w w'. Step w (Cancel number) other w')
      (λ w w'. Finishes w number reply w')
      (λ w v w' save cancel. subst (λ r. Finishes w number r w') (sym is) (given_up (subst (λ r. Step w (Save number) r v) is save) cancel))
      first second

  pub goes_in_steps : (old between new : WorldOver K) (event : Event) (number : ℕ) (first reply : Reply) → begins first ≡ true
      → number ≡ node_of event
      → Goes custody old between (λ w w'. Step w event first w')
      → Goes custody between new (λ w w'. Finishes w number reply w')
      → Goes custody old new (λ w w'. Completes w event reply w')
  goes_in_steps old between new event number first reply begun is step finishes =
      goes_then custody old between new (λ w w'. Step w event first w') (λ w w'. Finishes w number reply w')
      (λ w w'. Completes w event reply w')
      (λ w v w' s f. in_steps begun s (subst (λ q. Finishes v q reply w') is f)) step finishes

  pub goes_at_once : (old new : WorldOver K) (event : Event) (reply : Reply) → begins reply ≡ false
      → Goes custody old new (λ w w'. Step w event reply w')
      → Goes custody old new (λ w w'. Completes w event reply w')
  goes_at_once old new event reply done step =
      goes_as custody old new (λ w w'. Step w event reply w') (λ w w'. Completes w event reply w')
      (λ w w' s. at_once done s) step
