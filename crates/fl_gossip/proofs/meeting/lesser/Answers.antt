use Rattle.std.proofs.Common.{◌≡◌, Some, true, ◌||◌, sym, ap, subst, ◌∙◌}
use Rattle.fl_gossip.specs.Meeting.{FindsLeast, lesser_of}
use Rattle.fl_gossip.specs.laws.Leasts.{least_of_tests}
use Rattle.fl_gossip.proofs.meeting.lesser.Goals as goal

pub returns-in-Some-Some-clause-least : goal.returns-in-Some-Some-clause-least
returns-in-Some-Some-clause-least c = λ p q h k.
    let e : lesser_of c.args.a c.args.b ≡ Some c.min.result = (λ i. lesser_of (c.in-Some-Some.is-0 i) (c.in-Some-Some.is-1 i)) ∙ ap Some (sym c.min.ensures) in
    subst (FindsLeast (λ n. (p n || q n) ≡ true)) e (least_of_tests p q c.args.a c.args.b h k)
