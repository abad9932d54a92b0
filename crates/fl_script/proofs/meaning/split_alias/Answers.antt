use Rattle.std.proofs.Common.{arith, ◌≡◌, ◌∙◌, sym, codes}
use Rattle.std.proofs.lemmas.Grind.{common_steps}
use Rattle.fl_script.specs.laws.Ends.{too_short, other_word, other_last, ends_so}
use Rattle.fl_script.proofs.meaning.split_alias.Goals as goal
use Rattle.fl_script.proofs.meaning.split_alias.Goals.{in_default-as_bytes-via-then-as_bytes-lt2, in_default-as_bytes-via-else-as_bytes-lt2+then-this-lt3+in-97+in_default-1, in_default-as_bytes-via-else-as_bytes-lt2+then-this-lt3+in_default-1, in_default-as_bytes-via-else-as_bytes-lt2+else-this-lt3}

pub returns-in_default : goal.returns-in_default
returns-in_default c = too_short c.args.words.now c.in_default.len_below

other_bytes : (c : goal.In_default-as_bytes) → c.as_bytes.result.now ≡ codes "as" → ⊥
other_bytes c same =
    elim c.in_default-as_bytes.branch [
      | in_default-as_bytes-via-then-as_bytes-lt2 w ↦ absurd (grind (arith))
      | in_default-as_bytes-via-else-as_bytes-lt2+then-this-lt3+in-97+in_default-1 w ↦ absurd (grind (arith))
      | in_default-as_bytes-via-else-as_bytes-lt2+then-this-lt3+in_default-1 w ↦ absurd (grind (arith))
      | in_default-as_bytes-via-else-as_bytes-lt2+else-this-lt3 w ↦ absurd (grind (arith))
    ]

pub returns-in_default-as_bytes : goal.returns-in_default-as_bytes
returns-in_default-as_bytes c =
    let same = c.as_bytes.ensures.value in
    other_word c.args.words.now _ c.in-len2-up.len_at_least (λ is. other_bytes c (same ∙ is))

pub returns-in_err-alias : goal.returns-in_err-alias
returns-in_err-alias c = rw c.from_residual.ensures (other_last c.args.words.now _ c.in-len2-up.len_at_least c.in_err-alias.ensures)

pub returns : goal.returns
returns c =
    let same = c.as_bytes.ensures.value in
    let is : c.as_bytes.result.now ≡ codes "as" = grind (arith, common_steps) in
    ends_so c.args.words.now _ _ c.in_ok-alias.alias c.in-len2-up.len_at_least (sym same ∙ is) c.in_ok-alias.ensures
