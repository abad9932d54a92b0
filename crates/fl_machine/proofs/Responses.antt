-- What is responded, from what is done and said.
use Rattle.std.proofs.Common.{◌≡◌, ◌∙◌, refl, ap, subst, ℕ, false, IsTrue, List, [], ◌∷◌, arith}
use Rattle.fl_seal.specs.declared.seal.Key.{Key}
use Rattle.fl_store.specs.Custody.{Custody}
use Rattle.fl_store.specs.Kept.{Kept}
use Rattle.fl_node.specs.Over.{NodeOver}
use Rattle.fl_system.specs.World.{KeptNode}
use Rattle.fl_system.specs.State.{NodeState}
use Rattle.fl_machine_model.specs.Acts.{Act, Saying}
use Rattle.fl_machine_turns.specs.Answer.{Answer, starved_line}
use Rattle.fl_machine_turns.specs.Completing.{Begins, Completes, says_begun}
use Rattle.fl_machine_turns.specs.Done.{Did, AreCounted, did}
use Rattle.fl_machine_turns.specs.Saying.{Says}
use Rattle.fl_machine_calls.specs.Going.{DoesAlone, Doings, GoesAlone, IsSameNode, MayGo}
use Rattle.fl_machine.specs.Shown.{Shows, status_said}
use Rattle.fl_machine.specs.parts.Responding.{Responds, ShowsSaying}
use Rattle.fl_machine.specs.declared.response.Response.{Response}

-- ---- one act

module _ (act : Act) (count : ℕ) (saying : Saying) (s s' : KeptNode)
    (may : MayGo s.node.number s act count saying s') where
  -- it is all that is done
  counts : AreCounted (did act may.came ∷ []) count
  counts = (count, 0, may.counted, refl, omega arith)

  begun : (ds : List Did) × Begins s.node.number s act ds saying s' × AreCounted ds count
  begun = (
    did act may.came ∷ [],
    subst (λ (x : KeptNode). Begins s.node.number s act (did act may.came ∷ []) saying x) may.after
        (subst (λ x. Begins s.node.number s act (did act may.came ∷ []) x may.came.after) may.says
        (Begins.only may.step)),
    counts,
  )

  ended : says_begun saying ≡ false
      → (ds : List Did) × Completes s.node.number s act ds saying s' × AreCounted ds count
  ended nothing = (
    did act may.came ∷ [],
    subst (λ (x : KeptNode). Completes s.node.number s act (did act may.came ∷ []) saying x)
        may.after
        (subst (λ x. Completes s.node.number s act (did act may.came ∷ []) x may.came.after)
        may.says (Completes.at_once may.step (ap says_begun may.says ∙ nothing))),
    counts,
  )

-- ---- from one definition to another

module _ {K : Type 0} (custody : Custody K) (x y : NodeOver K) where
  pub does_as : {A B : Type 0} (does : Doings A) (does' : Doings B) (count : ℕ) (a : A) (b : B)
      → ((k k' : Kept) (ds : List Did)
      → does (record { node = x.node; kept = k }) ds a (record { node = y.node; kept = k' })
      → does' (record { node = x.node; kept = k }) ds b (record { node = y.node; kept = k' }))
      → DoesAlone custody x does count a y → DoesAlone custody x does' count b y
  does_as does does' count a b leads done =
      record {
        honest = done.honest;
        comes = λ h after held.
            let d = done.comes h after held in
            (d.0, d.1, (d.2.0, leads d.0 after d.2.0 d.2.1, d.2.2));
      }

  -- the act is done, and what it begins is left to further lines
  pub begins_so : (act : Act) (count : ℕ) (saying : Saying)
      → GoesAlone custody x act count saying y
      → DoesAlone custody x (λ s. Begins x.node.number s act) count saying y
  begins_so act count saying goes =
      record {
        honest = goes.honest;
        comes = λ h after held.
            let d = goes.comes h after held in (
              d.0,
              d.1,
              begun act count saying (record { node = x.node; kept = d.0 })
                  (record { node = y.node; kept = after }) d.2,
            );
      }

  -- the act is done, and begins nothing
  pub ends_so : (act : Act) (count : ℕ) (saying : Saying)
      → ((s s' : KeptNode) → MayGo s.node.number s act count saying s' → says_begun saying ≡ false)
      → GoesAlone custody x act count saying y
      → DoesAlone custody x (λ s. Completes x.node.number s act) count saying y
  ends_so act count saying nothing goes =
      record {
        honest = goes.honest;
        comes = λ h after held.
            let d = goes.comes h after held in (
              d.0,
              d.1,
              ended act count saying (record { node = x.node; kept = d.0 })
                  (record { node = y.node; kept = after }) d.2
                  (nothing (record { node = x.node; kept = d.0 })
                  (record { node = y.node; kept = after }) d.2),
            );
      }

  pub leads : (keys : List Key) (r : Response) (count : ℕ) (does does' : Doings Answer)
      → ((k k' : Kept) (ds : List Did) (answer : Answer)
      → does (record { node = x.node; kept = k }) ds answer (record { node = y.node; kept = k' })
      → does' (record { node = x.node; kept = k }) ds answer
      (record { node = y.node; kept = k' }))
      → Responds custody keys x does r count y → Responds custody keys x does' r count y
  leads keys r count does does' to h =
      record {
        answer = h.answer;
        shows = h.shows;
        done = does_as does does' count h.answer h.answer (λ k k' ds d. to k k' ds h.answer d)
            h.done;
        same = h.same;
        cause = h.cause;
      }

  -- it is said, or there is no room to say it
  pub says_so : (keys : List Key) (r : Response) (count : ℕ) (shown : Saying → Answer)
      (does : Doings Saying) (saying : Saying)
      → ShowsSaying keys y.node shown saying r → DoesAlone custody x does count saying y
      → IsSameNode x.node y.node → (status_said r ≡ 3 → IsTrue (custody.is_broken y.keeper))
      → Responds custody keys x (λ s. Says shown (does s)) r count y
  says_so keys r count shown does saying (ShowsSaying.as_said shows) done same cause =
      record {
        answer = shown saying;
        shows = shows;
        done = does_as does (λ s. Says shown (does s)) count saying (shown saying)
            (λ k k' ds d. Says.as_said d) done;
        same = same;
        cause = cause;
      }
  says_so keys r count shown does saying (ShowsSaying.no_room e) done same cause =
      record {
        answer = starved_line;
        shows = Shows.replied;
        done = does_as does (λ s. Says shown (does s)) count saying starved_line
            (λ k k' ds d. Says.no_room
            (subst (λ z. does (record { node = x.node; kept = k }) ds z
            (record { node = y.node; kept = k' })) e d)) done;
        same = same;
        cause = cause;
      }

-- ---- of a node that is only looked at

pub as_before : (n : NodeState) → IsSameNode n n
as_before n = record { number = refl; desks = refl }

module _ {K : Type 0} (custody : Custody K) (x : NodeOver K) where
  pub none_done : (keys : List Key) (does : Doings Answer) (r : Response) (answer : Answer)
      → Shows keys x.node r answer
      → ((k : Kept) → does (record { node = x.node; kept = k }) [] answer
      (record { node = x.node; kept = k }))
      → (status_said r ≡ 3 → ⊥) → Responds custody keys x does r 0 x
  none_done keys does r answer shows does_none other =
      record {
        answer = answer;
        shows = shows;
        done = record {
          honest = λ h. h;
          comes = λ h after held. (after, held, ([], does_none after, refl));
        };
        same = as_before x.node;
        cause = λ three. absurd (other three);
      }
