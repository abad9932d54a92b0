-- The names of operations are added to spans, one after another.
use Rattle.std.proofs.Common.{◌≡◌, inl, inr, ℕ, ◌+◌, ◌<◌, ◌≤◌, true, List, [], ◌∷◌, ◌++◌, length, get_or, take, sym, ap, subst, ◌∙◌, arith}
use Rattle.std.proofs.lemmas.Bool.{cases_eq}
use Rattle.std.proofs.lemmas.List.{take_more, take_all}
use Rattle.std.proofs.lemmas.List.Elements.{Contains-push, Contains-push_cases, Contains-append_left}
use Rattle.fl_labels.specs.declared.name.Name.{Name}
use Rattle.fl_ops.specs.declared.op.Op.{Op}
use Rattle.fl_opset.specs.declared.span.Span.{Span}
use Rattle.fl_opset.specs.Rank.{name_rank, op_rank, least_rank, greatest_rank}
use Rattle.fl_opset.specs.Spans.{fit}
use Rattle.fl_opset.specs.parts.Kept.{has_rank, ChangeAt, AddNames}
use Rattle.fl_opset.specs.laws.ByRank.{rank_exact}

pub none_added : (ss : List Span) → fit least_rank greatest_rank ss ≡ true → AddNames [] ss ss
none_added ss h = record {
  fits = h;
  only = λ n there. inl there;
  old = λ n there. there;
  new = λ n named. absurd (omega (arith, named.1.1));
}

pub one_added : (xs : List Op) (x : Op) (ss ts us : List Span) → AddNames xs ss ts → ChangeAt (op_rank x) true ts us → AddNames (xs ++ x ∷ []) ss us
one_added xs x ss ts us a ch = record {
  fits = ch.fits;
  only = λ n there. elim (cases_eq (name_rank n) (op_rank x)) [
    | inl same ↦ inr (x, Contains-push xs x, rank_exact x.name n (sym same))
    | inr apart ↦ elim (a.only n (sym (ch.others (name_rank n) apart) ∙ there)) [
      | inl old ↦ inl old
      | inr named ↦ inr (named.0, Contains-append_left xs (x ∷ []) named.0 named.1, named.2)
    ]
  ];
  old = λ n there. stays n (a.old n there);
  new = λ n named. elim (Contains-push_cases xs x named.0 named.1) [
    | inl old ↦ stays n (a.new n (named.0, old, named.2))
    | inr is ↦ subst (λ k. has_rank us k ≡ true) (ap op_rank is ∙ ap name_rank named.2) ch.here
  ];
}
  where
    stays : (n : Name) → has_rank ts (name_rank n) ≡ true → has_rank us (name_rank n) ≡ true
    stays n there = elim (cases_eq (name_rank n) (op_rank x)) [
      | inl same ↦ subst (λ k. has_rank us k ≡ true) (sym same) ch.here
      | inr apart ↦ ch.others (name_rank n) apart ∙ there
    ]

pub next_added : (ops : List Op) (i : ℕ) (x : Op) (ss ts us : List Span) → i < length ops → x ≡ get_or ops i x → AddNames (take i ops) ss ts
    → ChangeAt (op_rank x) true ts us → AddNames (take (i + 1) ops) ss us
next_added ops i x ss ts us inside is a ch =
    subst (λ l. AddNames l ss us) (sym (take_more ops i x inside ∙ ap (λ y. take i ops ++ y ∷ []) (sym is))) (one_added (take i ops) x ss ts us a ch)

pub all_added : (ops : List Op) (i : ℕ) (ss ts : List Span) → length ops ≤ i → AddNames (take i ops) ss ts → AddNames ops ss ts
all_added ops i ss ts done a = subst (λ l. AddNames l ss ts) (take_all i ops done) a
