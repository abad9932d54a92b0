-- What a reader that may want memory finds.
use Rattle.std.specs.Prelude.{◌≡◌, Result, MatchResult, IfErr}
use Rattle.fl_script.specs.declared.unread.Unread.{Unread}
use Rattle.fl_script.specs.declared.unread.Unread.TheVariants.{Bad, Memory}

-- the value that has P, or bad where no value has it; of a reader that was refused memory nothing
-- is said
abbrev pub Reads : {T : Type 0} → Result T Unread → (T → Type 0) → Type 0
Reads {T} r P = MatchResult r P (λ e. e ≡ Bad → (x : T) → P x → ⊥)

-- memory is refused only where Q holds
abbrev pub StarvesIf : {T : Type 0} → Result T Unread → Type 0 → Type 0
StarvesIf r Q = IfErr r (λ e. e ≡ Memory → Q)
