use Rattle.std.proofs.Common.{◌≡◌, ◌∙◌}
use Rattle.fl_crew_turns.proofs.Dollars.{begins_not, begins_so, front_is}
use Rattle.fl_crew_turns.proofs.naming.begins_with.Goals as goal

pub returns-in-Some : goal.returns-in-Some
returns-in-Some c =
    let prefix : c.as_bytes.result.now ≡ c.args.alias.now = c.as_bytes.ensures.value ∙ c.as_str.ensures.letters in
    let found = rw prefix at c.in-Some.ensures.cases in
    begins_so _ _ _ _ (front_is c.args.alias.now c.args.text.now c.in-Some.behind.now found.0 found.1) c.no_letter_first.ensures

pub returns-in-None : goal.returns-in-None
returns-in-None c =
    let prefix : c.as_bytes.result.now ≡ c.args.alias.now = c.as_bytes.ensures.value ∙ c.as_str.ensures.letters in
    let other = rw prefix at c.in-None.ensures.cases in
    ((λ e. absurd (cc)), (λ b. absurd (begins_not _ _ other b)))
