-- A line that is expanded from its front on.
use Rattle.std.proofs.Common.{◌≡◌, ◌≢◌, ℕ, ◌⊎◌, inl, inr, None, Some, List, [], ◌∷◌, ◌++◌, sym, ap, subst, refl, ◌∙◌, append_assoc, append-nil}
use Rattle.std.proofs.lemmas.List.Elements.{All-head, All-tail}
use Rattle.std.proofs.lemmas.Option.{same_Some, none-some}
use Rattle.fl_aliases.specs.Alias.{IsAlias}
use Rattle.fl_aliases.specs.Expansion.{Expands, ExpandsBehind, ends, stays, becomes, NoLetterFirst, NoDollar}
use Rattle.fl_aliases.specs.Table.{Table, target_of}
use Rattle.fl_aliases.specs.TargetText.{target_text}
use Rattle.fl_aliases.specs.declared.target.Target.{Target}
use Rattle.fl_aliases.specs.laws.Runs.{head_of, tail_of, same_front}

module _ (table : Table) where
  -- the first byte stays
  pub record Stays (b : ℕ) (line out : List ℕ) : Type 0 where
    pub plain : b ≢ 36
    pub more : List ℕ
    pub written : out ≡ b ∷ more
    pub after : Expands table line more

  -- the first byte is a `$`, and an alias follows
  pub record Becomes (b : ℕ) (line out : List ℕ) : Type 0 where
    pub dollar : b ≡ 36
    pub letters : List ℕ
    pub rest : List ℕ
    pub more : List ℕ
    pub target : Target
    pub alias : IsAlias letters
    pub longest : NoLetterFirst rest
    pub found : target_of table letters ≡ Some target
    pub read : line ≡ letters ++ rest
    pub written : out ≡ target_text target ++ more
    pub after : Expands table rest more

  cases : {given out : List ℕ} → Expands table given out → (b : ℕ) (line : List ℕ) → given ≡ b ∷ line → Stays b line out ⊎ Becomes b line out
  cases ends b line e = absurd (cc)
  cases (stays {b = c} {line = line'} {out = out'} plain after) b line e = inl record {
    plain = λ same. plain (head_of e ∙ same);
    more = out';
    written = ap (λ c. c ∷ out') (head_of e);
    after = subst (λ l. Expands table l out') (tail_of e) after;
  }
  cases (becomes {letters} {rest} {out = out'} {target} alias longest found after) b line e = inr record {
    dollar = sym (head_of e);
    letters = letters;
    rest = rest;
    more = out';
    target = target;
    alias = alias;
    longest = longest;
    found = found;
    read = sym (tail_of e);
    written = refl;
    after = after;
  }

  nothing_left : {given out : List ℕ} → Expands table given out → given ≡ [] → out ≡ []
  nothing_left ends e = refl
  nothing_left (stays plain after) e = absurd (cc)
  nothing_left (becomes alias longest found after) e = absurd (cc)

  stays_only : {b : ℕ} {line out : List ℕ} → b ≢ 36 → Expands table (b ∷ line) out → Stays b line out
  stays_only {b} {line} plain h = elim (cases h b line refl) [
    | inl s ↦ s
    | inr s ↦ absurd (plain s.dollar)
  ]

  becomes_only : {line out : List ℕ} → Expands table (36 ∷ line) out → Becomes 36 line out
  becomes_only {line} h = elim (cases h 36 line refl) [
    | inl s ↦ absurd (s.plain refl)
    | inr s ↦ s
  ]

  -- bytes with no `$` stay
  pub plain_before : (plain : List ℕ) {rest out : List ℕ} → NoDollar plain → Expands table rest out → Expands table (plain ++ rest) (plain ++ out)
  plain_before [] clean h = h
  plain_before (b ∷ plain) clean h = stays (All-head (λ b. b ≢ 36) b plain clean) (plain_before plain (All-tail (λ b. b ≢ 36) b plain clean) h)

  -- what comes of the bytes behind them
  pub record After (done : List ℕ) (rest out : List ℕ) : Type 0 where
    pub more : List ℕ
    pub written : out ≡ done ++ more
    pub after : Expands table rest more

  pub plain_only : (plain : List ℕ) {rest out : List ℕ} → NoDollar plain → Expands table (plain ++ rest) out → After plain rest out
  plain_only [] {out = out} clean h = record { more = out; written = refl; after = h }
  plain_only (b ∷ plain) clean h =
      let s = stays_only (All-head (λ b. b ≢ 36) b plain clean) h in
      let t = plain_only plain (All-tail (λ b. b ≢ 36) b plain clean) s.after in
      record { more = t.more; written = s.written ∙ ap (λ l. b ∷ l) t.written; after = t.after }

  pub plain_itself : (plain : List ℕ) → NoDollar plain → Expands table plain plain
  plain_itself plain clean = subst (λ l. Expands table l l) (append-nil plain) (plain_before plain clean ends)

  pub plain_alone : (plain out : List ℕ) → NoDollar plain → Expands table plain out → out ≡ plain
  plain_alone plain out clean h =
      let s = plain_only plain clean (subst (λ l. Expands table l out) (sym (append-nil plain)) h) in
      s.written ∙ ap (λ l. plain ++ l) (nothing_left s.after refl) ∙ append-nil plain

  -- the line is expanded so far, and what comes of the rest comes behind that
  pub record Continues (line done rest : List ℕ) : Type 0 where
    pub forth : (out : List ℕ) → Expands table rest out → Expands table line (done ++ out)
    pub back : (out : List ℕ) → Expands table line out → After done rest out

  pub begun : (line : List ℕ) → Continues line [] line
  begun line = record { forth = λ out h. h; back = λ out h. record { more = out; written = refl; after = h } }

  onto : (done more rest : List ℕ) {given out : List ℕ} → (s : After done given out) → After more rest s.more → After (done ++ more) rest out
  onto done more rest s t = record {
    more = t.more;
    written = s.written ∙ ap (λ l. done ++ l) t.written ∙ sym (append_assoc done more t.more);
    after = t.after;
  }

  pub plain_more : (line done plain rest : List ℕ) → NoDollar plain → Continues line done (plain ++ rest) → Continues line (done ++ plain) rest
  plain_more line done plain rest clean c = record {
    forth = λ out h. subst (Expands table line) (sym (append_assoc done plain out)) (c.forth (plain ++ out) (plain_before plain clean h));
    back = λ out h. let s = c.back out h in onto done plain rest s (plain_only plain clean s.after);
  }

  pub alias_more : (line done letters rest : List ℕ) (target : Target) → IsAlias letters → NoLetterFirst rest → target_of table letters ≡ Some target → Continues line done (36 ∷ (letters ++ rest)) → Continues line (done ++ target_text target) rest
  alias_more line done letters rest target alias longest found c = record {
    forth = λ out h. subst (Expands table line) (sym (append_assoc done (target_text target) out)) (c.forth (target_text target ++ out) (becomes alias longest found h));
    back = λ out h. let s = c.back out h in onto done (target_text target) rest s (same s.more s.after);
  }
    where
      same : (out : List ℕ) → Expands table (36 ∷ (letters ++ rest)) out → After (target_text target) rest out
      same out h =
          let s = becomes_only h in
          let front = same_front letters s.letters rest s.rest alias.letters longest s.alias.letters s.longest s.read in
          let target_is : s.target ≡ target = same_Some _ _ (sym s.found ∙ ap (target_of table) (sym front.0) ∙ found) in
          record {
            more = s.more;
            written = s.written ∙ ap (λ t. target_text t ++ s.more) target_is;
            after = subst (λ l. Expands table l s.more) (sym front.1) s.after;
          }

  -- the line is expanded so far, behind the bytes that were there
  pub record Behind (line before written rest : List ℕ) : Type 0 where
    pub done : List ℕ
    pub is : written ≡ before ++ done
    pub so_far : Continues line done rest

  pub begun_behind : (line before : List ℕ) → Behind line before before line
  begun_behind line before = record { done = []; is = sym (append-nil before); so_far = begun line }

  -- some plain bytes and the text of an alias were written behind them
  pub behind_more : (line before written plain middle text after rest : List ℕ) {given : List ℕ} → (b : Behind line before written given) → middle ≡ written ++ plain → after ≡ middle ++ text → Continues line ((b.done ++ plain) ++ text) rest → Behind line before after rest
  behind_more line before written plain middle text after rest b e f c = record {
    done = (b.done ++ plain) ++ text;
    is = f ∙ ap (λ l. l ++ text) (e ∙ ap (λ l. l ++ plain) b.is ∙ append_assoc before b.done plain) ∙ append_assoc before (b.done ++ plain) text;
    so_far = c;
  }

  -- the rest is cut at its first `$`
  pub cut_at : (line done rest plain behind : List ℕ) → (rest ≡ plain ++ 36 ∷ behind) × NoDollar plain → Continues line done rest → Continues line (done ++ plain) (36 ∷ behind)
  cut_at line done rest plain behind cut c = plain_more line done plain (36 ∷ behind) cut.1 (subst (Continues line done) cut.0 c)

  -- no alias stands behind the `$`
  pub no_alias : (line done behind : List ℕ) → Continues line done (36 ∷ behind) → ((letters rest : List ℕ) → IsAlias letters → NoLetterFirst rest → behind ≡ letters ++ rest → ⊥) → (out : List ℕ) → Expands table line out → ⊥
  no_alias line done behind c none out h =
      let s = becomes_only (c.back out h).after in
      none s.letters s.rest s.alias s.longest s.read

  -- a line that is one alias becomes the text of what that stands for
  pub one_alias : (letters : List ℕ) (target : Target) → IsAlias letters → target_of table letters ≡ Some target → Expands table (36 ∷ letters) (target_text target)
  one_alias letters target alias found =
      subst (λ l. Expands table (36 ∷ l) (target_text target)) (append-nil letters)
      (subst (Expands table (36 ∷ (letters ++ []))) (append-nil (target_text target)) (becomes alias tt found ends))

  -- the alias is not set
  pub not_set : (line done letters rest : List ℕ) → IsAlias letters → NoLetterFirst rest → target_of table letters ≡ None → Continues line done (36 ∷ (letters ++ rest)) → (out : List ℕ) → Expands table line out → ⊥
  not_set line done letters rest alias longest none c out h =
      let s = becomes_only (c.back out h).after in
      let front = same_front letters s.letters rest s.rest alias.letters longest s.alias.letters s.longest s.read in
      none-some _ (sym none ∙ ap (target_of table) front.0 ∙ s.found)

  -- the rest has no `$`
  pub all_done : (line done rest : List ℕ) → NoDollar rest → Continues line done rest → Expands table line (done ++ rest)
  all_done line done rest clean c = c.forth rest (plain_itself rest clean)

  pub all_behind : (line before written rest after : List ℕ) → NoDollar rest → Behind line before written rest → after ≡ written ++ rest → ExpandsBehind table line before after
  all_behind line before written rest after clean b e = record { out = b.done ++ rest; expands = all_done line b.done rest clean b.so_far; written = e ∙ ap (λ l. l ++ rest) b.is ∙ append_assoc before b.done rest }

  -- a line becomes one text at most
  pub one_expansion : {line a b : List ℕ} → Expands table line a → Expands table line b → a ≡ b
  one_expansion ends h = sym (nothing_left h refl)
  one_expansion (stays {b = c} plain after) h =
      let s = stays_only plain h in
      ap (λ l. c ∷ l) (one_expansion after s.after) ∙ sym s.written
  one_expansion (becomes {letters} {rest} {out} {target} alias longest found after) h =
      let s = becomes_only h in
      let front = same_front letters s.letters rest s.rest alias.letters longest s.alias.letters s.longest s.read in
      let target_is : target ≡ s.target = same_Some _ _ (sym found ∙ ap (target_of table) front.0 ∙ s.found) in
      (λ i. target_text (target_is i) ++ one_expansion after (subst (λ l. Expands table l s.more) (sym front.1) s.after) i) ∙ sym s.written
