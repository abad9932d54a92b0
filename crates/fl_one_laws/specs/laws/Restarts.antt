-- A node of a world is restarted, or opened over another keeper, in one way.
use Rattle.std.proofs.Common.{◌≡◌, ◌≢◌, ℕ, Bool, [], refl, sym, ap, subst, Option, Some, Result, Ok, Err}
use Rattle.fl_bench.specs.laws.Puts.{none_some, same_found}
use Rattle.fl_store.specs.Kept.{Kept}
use Rattle.fl_system.specs.declared.answer.Fault.{Fault}
use Rattle.fl_system.specs.declared.answer.Fault.TheVariants.{WrongNode}
use Rattle.fl_system.specs.declared.reply.Reply.{Reply}
use Rattle.fl_system.specs.declared.reply.Reply.TheVariants.{Booted, Refused}
use Rattle.fl_system.specs.declared.state.Batch.{Batch}
use Rattle.fl_system.specs.declared.state.State.TheVariants.{Stopped}
use Rattle.fl_system.specs.State.{NodeState}
use Rattle.fl_system.specs.Waiting.{IsRunning}
use Rattle.fl_system.specs.Openings.{OpensAgain}
use Rattle.fl_system.specs.Joins.{Reopening}
use Rattle.fl_system.specs.World.{World, KeptNode, went}
use Rattle.fl_system.specs.WorldCalls.{RestartAt}
use Rattle.fl_one_laws.specs.Ample.{IsAmple, AreSameButBoot}
use Rattle.fl_one_laws.specs.laws.Calls.{IsFed, AreOne, one_again, one_restart}

-- what the world answers where the opening of its node has this result
abbrev shown : Result ℕ Fault → Reply
shown (Ok boot) = Booted boot
shown (Err fault) = Refused fault

fed : (r : Result ℕ Fault) → IsAmple (shown r) → IsFed r
fed r p = record { memory = λ e. p.memory (ap shown e); keeper = λ e. p.keeper (ap shown e) }

-- two answers are one, and the worlds that were left, but for a boot where the opening is refused as another node's
pub record AreAnswered (w : World) (number : ℕ) (r s : Reply) (a b : World) : Type 0 where
  pub says : r ≡ s
  pub settled : r ≢ Refused WrongNode → a ≡ b
  pub kept : AreSameButBoot w number a b

-- to be another node's is neither
pub others : IsAmple (Refused WrongNode)
others = record { memory = λ e. cc; keeper = λ e. cc }

module _ {w : World} {number : ℕ} where
  answered : {r s : Result ℕ Fault} {m n : NodeState} {x y : Kept} → AreOne r s m n x y
      → AreAnswered w number (shown r) (shown s) (went w number m x [] []) (went w number n y [] [])
  answered {m} {n} {x} {y} one =
      record {
        says = ap shown one.says;
        settled = λ settled.
            let same : x ≡ y = one.settled (λ e. settled (ap shown e)) in
            λ i. went w number (one.node i) (same i) [] [];
        kept =
            record {
              node = m;
              kept = one.kept.0;
              one = (x, one.kept.1, refl);
              other = (y, one.kept.2, ap (λ node. went w number node y [] []) (sym one.node));
            };
      }

  pub one_restart_at : {s : KeptNode} (keeps : Bool) {r r' : Reply} {a b : World} → RestartAt w number s keeps r a
      → RestartAt w number s keeps r' b → IsAmple r → IsAmple r' → AreAnswered w number r r' a b
  one_restart_at keeps (RestartAt.booted {boot} h) (RestartAt.booted {boot = other} k) p q =
      answered (one_restart keeps h k (fed (Ok boot) p) (fed (Ok other) q))
  one_restart_at keeps (RestartAt.booted {boot} h) (RestartAt.refused {fault} k) p q =
      answered (one_restart keeps h k (fed (Ok boot) p) (fed (Err fault) q))
  one_restart_at keeps (RestartAt.refused {fault} h) (RestartAt.booted {boot} k) p q =
      answered (one_restart keeps h k (fed (Err fault) p) (fed (Ok boot) q))
  one_restart_at keeps (RestartAt.refused {fault} h) (RestartAt.refused {fault = other} k) p q =
      answered (one_restart keeps h k (fed (Err fault) p) (fed (Err other) q))

  both : {r s : Reply} {a b : World} → AreAnswered w number r s a b → (r ≡ s) × (r ≢ Refused WrongNode → a ≡ b)
  both one = (one.says, one.settled)

-- ---- over another keeper

-- the node that is there is one, and so is what it has in doubt
here : {o : Option KeptNode} {s t : KeptNode} {doubt other : Option Batch} {k kept : Kept} {r : Result ℕ Fault}
    {n : NodeState} → o ≡ Some s → s.node.state ≡ Stopped doubt → o ≡ Some t → t.node.state ≡ Stopped other
    → OpensAgain t.node other k r n kept → OpensAgain s.node doubt k r n kept
here {s} {t} {doubt} {other} {k} {kept} {r} {n} at is at' is' h =
    let same : t ≡ s = same_found at' at in
    let so : s.node.state ≡ Stopped other = subst (λ (x : KeptNode). x.node.state ≡ Stopped other) same is' in
    let one : other ≡ doubt = cc (is, so) in
    subst (λ d. OpensAgain s.node d k r n kept) one (subst (λ (x : KeptNode). OpensAgain x.node other k r n kept) same h)

-- one that runs is not stopped
not_both : {o : Option KeptNode} {s t : KeptNode} {doubt : Option Batch} → o ≡ Some s → IsRunning s.node.state → o ≡ Some t
    → t.node.state ≡ Stopped doubt → ⊥
not_both at runs at' is =
    subst IsRunning is (subst (λ (x : KeptNode). IsRunning x.node.state) (same_found at at') runs)

module _ {w : World} {number : ℕ} {k : Kept} where
  pub one_reopening : {r r' : Reply} {a b : World} → Reopening w number k r a → Reopening w number k r' b → IsAmple r
      → IsAmple r' → (r ≡ r') × (r ≢ Refused WrongNode → a ≡ b)
  one_reopening (Reopening.no_node none) (Reopening.no_node none') p q = (refl, λ _. refl)
  one_reopening (Reopening.no_node none) (Reopening.running at runs) p q = absurd (none_some none at)
  one_reopening (Reopening.no_node none) (Reopening.booted at is h) p q = absurd (none_some none at)
  one_reopening (Reopening.no_node none) (Reopening.refused at is h) p q = absurd (none_some none at)
  one_reopening (Reopening.running at runs) (Reopening.no_node none) p q = absurd (none_some none at)
  one_reopening (Reopening.running at runs) (Reopening.running at' runs') p q = (refl, λ _. refl)
  one_reopening (Reopening.running at runs) (Reopening.booted at' is h) p q = absurd (not_both at runs at' is)
  one_reopening (Reopening.running at runs) (Reopening.refused at' is h) p q = absurd (not_both at runs at' is)
  one_reopening (Reopening.booted at is h) (Reopening.no_node none) p q = absurd (none_some none at)
  one_reopening (Reopening.booted at is h) (Reopening.running at' runs) p q = absurd (not_both at' runs at is)
  one_reopening (Reopening.booted {boot} at is h) (Reopening.booted {boot = other} at' is' j) p q =
      both (answered (one_again h (here at is at' is' j) (fed (Ok boot) p) (fed (Ok other) q)))
  one_reopening (Reopening.booted {boot} at is h) (Reopening.refused {fault} at' is' j) p q =
      both (answered (one_again h (here at is at' is' j) (fed (Ok boot) p) (fed (Err fault) q)))
  one_reopening (Reopening.refused at is h) (Reopening.no_node none) p q = absurd (none_some none at)
  one_reopening (Reopening.refused at is h) (Reopening.running at' runs) p q = absurd (not_both at' runs at is)
  one_reopening (Reopening.refused {fault} at is h) (Reopening.booted {boot} at' is' j) p q =
      both (answered (one_again h (here at is at' is' j) (fed (Err fault) p) (fed (Ok boot) q)))
  one_reopening (Reopening.refused {fault} at is h) (Reopening.refused {fault = other} at' is' j) p q =
      both (answered (one_again h (here at is at' is' j) (fed (Err fault) p) (fed (Err other) q)))

  pub refused_reopening : {a b : World} → Reopening w number k (Refused WrongNode) a
      → Reopening w number k (Refused WrongNode) b → AreSameButBoot w number a b
  refused_reopening (Reopening.refused at is h) (Reopening.refused at' is' j) =
      (answered (one_again h (here at is at' is' j) (fed (Err WrongNode) others) (fed (Err WrongNode) others))).kept
