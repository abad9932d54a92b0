-- A run of events has one list of answers, and one end.
use Rattle.std.proofs.Common.{◌≡◌, ◌∙◌, List, [], ◌∷◌, refl, sym, subst}
use Rattle.std.specs.List.{All, AllByRecursion}
use Rattle.std.proofs.lemmas.List.Elements.{recursion_from_All}
use Rattle.fl_system.specs.declared.event.Event.{Event}
use Rattle.fl_system.specs.declared.reply.Reply.{Reply}
use Rattle.fl_system.specs.World.{World}
use Rattle.fl_system.specs.Runs.{Run, IsReached}
use Rattle.fl_one_laws.specs.Ample.{IsAmple, AreSettled, IsAtDesk}
use Rattle.fl_one_laws.specs.laws.Steps.{one_step}
use Rattle.fl_one_laws.specs.laws.Desks.{HaveDesks, step_desks, reached_desks, at_desk}

runs : (w : World) (events : List Event) (rs rs' : List Reply) (a b : World) → HaveDesks w → Run w events rs a
    → Run w events rs' b → AllByRecursion IsAmple rs → AllByRecursion IsAmple rs' → AreSettled events rs
    → AllByRecursion (IsAtDesk w.desks) events → (rs ≡ rs') × (a ≡ b)
runs w [] [] [] a b have h k p q settled desks = (refl, h ∙ sym k)
runs w [] [] (r ∷ rs) a b have h k p q settled desks = absurd k
runs w [] (r ∷ rs) rs' a b have h k p q settled desks = absurd h
runs w (event ∷ events) [] rs' a b have h k p q settled desks = absurd h
runs w (event ∷ events) (r ∷ rs) [] a b have h k p q settled desks = absurd k
runs w (event ∷ events) (r ∷ rs) (r' ∷ rs') a b have h k p q settled desks =
    let one = one_step w event r r' h.0 k.0 h.1 k.1 p.0 q.0 (at_desk w have event desks.0) in
    let same = one.1 settled.0 in
    let on = step_desks h.1 have in
    let rest = runs h.0 events rs rs' a b on.0 h.2 (subst (λ x. Run x events rs' b) (sym same) k.2) p.1 q.1 settled.1
    (subst (λ count. AllByRecursion (IsAtDesk count) events) (sym on.1) desks.1) in
    (λ i. one.0 i ∷ rest.0 i, rest.1)

pub one_run : (w : World) (events : List Event) (rs rs' : List Reply) (a b : World) → IsReached w → Run w events rs a
    → Run w events rs' b → All IsAmple rs → All IsAmple rs' → AreSettled events rs → All (IsAtDesk w.desks) events
    → (rs ≡ rs') × (a ≡ b)
one_run w events rs rs' a b reached h k p q settled desks =
    runs w events rs rs' a b (reached_desks w reached) h k (recursion_from_All IsAmple rs p)
    (recursion_from_All IsAmple rs' q) settled (recursion_from_All (IsAtDesk w.desks) events desks)
