-- What a line says does not change by aliases that it does not name.
use Rattle.std.proofs.Common.{◌≡◌, ◌⊎◌, ◌∙◌, ◌≤◌, ◌<◌, ◌∷◌, [], inl, inr, refl, sym, ap}
use Rattle.std.proofs.Common.{subst, ℕ, List, Option, None, Some, All, Contains, arith, codes}
use Rattle.std.proofs.Common.{length}
use Rattle.std.specs.List.{AllZip}
use Rattle.std.proofs.lemmas.List.{nil_from_length}
use Rattle.std.proofs.lemmas.List.Elements.{All-head, All-tail}
use Rattle.std.proofs.lemmas.Option.{none-some}
use Rattle.fl_aliases.specs.Alias.{alias_text}
use Rattle.fl_aliases.specs.Expansion.{Expands, becomes, ends, stays}
use Rattle.fl_aliases.specs.Table.{Table, target_of}
use Rattle.fl_aliases.specs.Words.{Word, words_of}
use Rattle.fl_jobs.specs.declared.job.Job.{Job}
use Rattle.fl_script.specs.Reading.{IsBad, IsMeaning, SpellsReplaced, WordsSay}
use Rattle.fl_script.specs.declared.line.Line.{Line}
use Rattle.fl_script.specs.laws.OneReading.{not_both}
use Rattle.fl_system.specs.declared.reply.Reply.{Reply}
use Rattle.fl_crew_turns.specs.Held.{HeldJobs}
use Rattle.fl_crew_turns.specs.Naming.{IsNamedIn, NamesHeld, named_all}
use Rattle.fl_crew_turns.specs.Turn.{HasRoomFor}
use Rattle.fl_crew_turns.specs.laws.Settling.{length-named_all}
use Rattle.fl_one_worker_scripts.proofs.Extending.{Extends}
use Rattle.fl_one_worker_scripts.proofs.Unnamed.{IsUnnamed, front_unnamed, named_first, named_later}
use Rattle.fl_one_worker_scripts.proofs.Unnamed.{words_unnamed}

-- ---- words say the same where other aliases are set

module _ (set : List (Option (List ℕ))) (here there : Table)
    (agree : (letters : List ℕ) → ¬ Contains set (Some letters)
    → target_of there letters ≡ target_of here letters) where
  expands_too : {line out : List ℕ} → Expands here line out → ¬ IsNamedIn set line
      → Expands there line out
  expands_too ends h = ends
  expands_too (stays {b = byte} {line = rest} plain after) h =
      stays plain (expands_too after (λ n. h (named_later set (byte ∷ []) rest n)))
  expands_too (becomes {letters} {rest} alias longest found after) h =
      becomes alias longest
      (agree letters (λ listed. h (named_first set letters rest longest listed)) ∙ found)
      (expands_too after (λ n. h (named_later set (36 ∷ letters) rest n)))

  words_expand : (words replaced : List Word) → All (IsUnnamed set) words
      → AllZip (Expands here) words replaced → AllZip (Expands there) words replaced
  words_expand [] [] h each = tt
  words_expand [] (x ∷ replaced) h each = absurd each
  words_expand (w ∷ words) [] h each = absurd each
  words_expand (w ∷ words) (x ∷ replaced) h each = (
    expands_too each.0 (All-head (IsUnnamed set) w words h),
    words_expand words replaced (All-tail (IsUnnamed set) w words h) each.1,
  )

  spells_too : (line : Line) (words : List Word) → All (IsUnnamed set) words
      → SpellsReplaced here line words → SpellsReplaced there line words
  spells_too line words h s = record {
    replaced = s.replaced;
    each = words_expand words s.replaced h s.each;
    spelled = s.spelled;
  }

  has_room : (alias : List ℕ) → (Some alias ≡ None) ⊎ (length there < 1024)
      → length there < 1024
  has_room alias (inl e) = absurd (none-some alias (sym e))
  has_room alias (inr room) = room

  says_too : (line : Line) (alias : Option (List ℕ)) (words : List Word)
      → All (IsUnnamed set) words → (alias ≡ None) ⊎ (length there < 1024)
      → WordsSay here line alias words → WordsSay there line alias words
  says_too line None words h room s = spells_too line words h s
  says_too line (Some alias) words h room s = record {
    front = s.front;
    split = s.split;
    is_alias = s.is_alias;
    made = s.made;
    room = has_room alias room;
    spelled =
        spells_too line s.front
        (front_unnamed set s.front (codes "as" ∷ alias_text alias ∷ [])
        (subst (λ ws. All (IsUnnamed set) ws) s.split h)) s.spelled;
  }

says_before : {set : List (Option (List ℕ))} {old new : Table} → Extends set old new
    → (bytes : List ℕ) → ¬ IsNamedIn set bytes → (line : Line) (alias : Option (List ℕ))
    → WordsSay new line alias (words_of bytes) → WordsSay old line alias (words_of bytes)
says_before {set} {old} {new} extends bytes unnamed line None s =
    says_too set new old (λ letters other. sym (extends.same letters other)) line None
    (words_of bytes) (words_unnamed set bytes unnamed) (inl refl) s
says_before {set} {old} {new} extends bytes unnamed line (Some alias) s =
    says_too set new old (λ letters other. sym (extends.same letters other)) line (Some alias)
    (words_of bytes) (words_unnamed set bytes unnamed) (inr (omega (arith, s.room, extends.more))) s

-- ---- a line that names none of the aliases

-- says the same once they are set, where there is room for its own
pub meaning_then : {set : List (Option (List ℕ))} {old new : Table} {bytes : List ℕ} {line : Line}
    {alias : Option (List ℕ)} → Extends set old new → ¬ IsNamedIn set bytes
    → IsMeaning old bytes line alias → (alias ≡ None) ⊎ (length new < 1024)
    → IsMeaning new bytes line alias
meaning_then {set} {old} {new} {bytes} {line} {alias} extends unnamed means room = record {
  asking = means.asking;
  said =
      says_too set old new extends.same line alias (words_of bytes)
      (words_unnamed set bytes unnamed) room means.said;
}

-- and said so before
pub meaning_before : {set : List (Option (List ℕ))} {old new : Table} {bytes : List ℕ}
    {line : Line} {alias : Option (List ℕ)} → Extends set old new → ¬ IsNamedIn set bytes
    → IsMeaning new bytes line alias → IsMeaning old bytes line alias
meaning_before {bytes} {line} {alias} extends unnamed means = record {
  asking = means.asking;
  said = says_before extends bytes unnamed line alias means.said;
}

-- where it was none of the script, it stays so
pub bad_then : {set : List (Option (List ℕ))} {old new : Table} {bytes : List ℕ}
    → Extends set old new → ¬ IsNamedIn set bytes → IsBad old bytes → IsBad new bytes
bad_then {bytes} extends unnamed bad = record {
  loud = bad.loud;
  says_none = λ text line alias s.
      bad.says_none text line alias (says_before extends bytes unnamed line alias s);
}

-- where it sets an alias for which there is no room any more, it is none of the script
pub full_then : {set : List (Option (List ℕ))} {old new : Table} {bytes : List ℕ} {line : Line}
    {alias : List ℕ} → Extends set old new → ¬ IsNamedIn set bytes
    → IsMeaning old bytes line (Some alias) → ¬ (length new < 1024) → IsBad new bytes
full_then {set} {old} {new} {bytes} {line} {alias} extends unnamed means full = record {
  loud = means.asking.loud;
  says_none = λ text other named s. says_nothing other named s;
}
  where
    says_nothing : (other : Line) (named : Option (List ℕ))
        → WordsSay new other named (words_of bytes) → ⊥
    says_nothing other None s =
        not_both old (words_of bytes) other line alias
        (says_before extends bytes unnamed other None s) means.said
    says_nothing other (Some letters) s = full s.room

-- ---- the same, of the aliases that are held

nothing_named : (bytes : List ℕ) → ¬ IsNamedIn [] bytes
nothing_named bytes n = let listed = n.begins.listed in absurd (omega (arith, listed.1))

-- where no line waits, no alias does
pub no_aliases : (held : HeldJobs) → length held.aliases ≡ length held.jobs
    → held.jobs ≡ [] → held.aliases ≡ []
no_aliases held each none = nil_from_length held.aliases (each ∙ ap length none)

pub unnamed_held : (held : HeldJobs) (bytes : List ℕ) → (held.jobs ≡ [] → held.aliases ≡ [])
    → length bytes ≤ 20000 → ¬ NamesHeld held bytes → ¬ IsNamedIn held.aliases bytes
unnamed_held held bytes tied short unnamed named = by held.jobs refl
  where
    by : (jobs : List Job) → held.jobs ≡ jobs → ⊥
    by [] is =
        nothing_named bytes (subst (λ aliases. IsNamedIn aliases bytes) (tied is) named)
    by (job ∷ jobs) is =
        unnamed (record {
          some = λ empty. absurd (omega (arith, ap length is, ap length empty));
          short = short;
          named = named;
        })

-- the room that is kept for them is room for one more once they are set
pub room_then : (table : Table) (held : HeldJobs) (alias : Option (List ℕ)) (replies : List Reply)
    → HasRoomFor table held alias
    → (alias ≡ None) ⊎ (length (named_all table held.aliases replies) < 1024)
room_then table held alias replies (inl none) = inl none
room_then table held alias replies (inr room) =
    inr (omega (arith, room, length-named_all table held.aliases replies))

pub meaning_then_held : {old new : Table} {bytes : List ℕ} {line : Line} {alias : Option (List ℕ)}
    (held : HeldJobs) → (held.jobs ≡ [] → held.aliases ≡ []) → ¬ NamesHeld held bytes
    → Extends held.aliases old new → IsMeaning old bytes line alias
    → (alias ≡ None) ⊎ (length new < 1024) → IsMeaning new bytes line alias
meaning_then_held {bytes} held tied unnamed extends means room =
    meaning_then extends (unnamed_held held bytes tied means.asking.text.short unnamed) means room

pub meaning_before_held : {old new : Table} {bytes : List ℕ} {line : Line}
    {alias : Option (List ℕ)} (held : HeldJobs) → (held.jobs ≡ [] → held.aliases ≡ [])
    → ¬ NamesHeld held bytes → Extends held.aliases old new → IsMeaning new bytes line alias
    → IsMeaning old bytes line alias
meaning_before_held {bytes} held tied unnamed extends means =
    meaning_before extends (unnamed_held held bytes tied means.asking.text.short unnamed) means

pub bad_then_held : {old new : Table} {bytes : List ℕ} (held : HeldJobs)
    → (held.jobs ≡ [] → held.aliases ≡ []) → ¬ NamesHeld held bytes
    → Extends held.aliases old new → IsBad old bytes → IsBad new bytes
bad_then_held {bytes} held tied unnamed extends bad = record {
  loud = bad.loud;
  says_none = λ text line alias s.
      bad.says_none text line alias
      (says_before extends bytes (unnamed_held held bytes tied text.short unnamed) line alias s);
}

pub full_then_held : {old new : Table} {bytes : List ℕ} {line : Line} {alias : List ℕ}
    (held : HeldJobs) → (held.jobs ≡ [] → held.aliases ≡ []) → ¬ NamesHeld held bytes
    → Extends held.aliases old new → IsMeaning old bytes line (Some alias)
    → ¬ (length new < 1024) → IsBad new bytes
full_then_held {bytes} held tied unnamed extends means full =
    full_then extends (unnamed_held held bytes tied means.asking.text.short unnamed) means full
