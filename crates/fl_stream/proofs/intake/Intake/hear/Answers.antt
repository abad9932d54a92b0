use Rattle.std.proofs.Common.{◌≡◌, inr, arith, rules}
use Rattle.std.proofs.lemmas.List.{length-append}
use Rattle.std.proofs.KnownBytes.{Keeps-refl}
use Rattle.fl_stream.proofs.HearLemmas.{no_feed_held, no_more_none, no_more_room, part_here}
use Rattle.fl_stream.proofs.intake.Intake.hear.Goals as goal

pub returns-then-holds_too_much-clause-no_more : goal.returns-then-holds_too_much-clause-no_more
returns-then-holds_too_much-clause-no_more g c = no_more_none (Keeps-refl _) c.requires.rest c.requires.part

pub returns-then-holds_too_much-clause-cause : goal.returns-then-holds_too_much-clause-cause
returns-then-holds_too_much-clause-cause g c =
    let s = c.args.self.now in
    inr (inr (part_here _ _ s (no_feed_held s c.requires.rest c.requires.part) (omega (arith, length-append s.held s.rest))))

pub returns-in_default-clause-no_more : goal.returns-in_default-clause-no_more
returns-in_default-clause-no_more g c = no_more_none c.in_default.ensures.bytes c.requires.rest c.requires.part

pub returns-then-count-self-clause-no_more : goal.returns-then-count-self-clause-no_more
returns-then-count-self-clause-no_more g c =
    let room : c.self.inside.room ≡ c.args.self.now.room = search rules in
    no_more_room _ c.in-Ok.ensures.bytes.0 (omega (arith, c.in-Ok.ensures.bound.1, c.if-count-self.true, room)) c.requires.rest c.requires.part
