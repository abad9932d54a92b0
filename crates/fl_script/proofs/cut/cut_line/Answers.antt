use Rattle.std.proofs.Common.{◌≡◌, ◌≢◌, ◌<◌, ◌≤◌, ◌++◌, ◌∷◌, ◌+◌, ◌==◌, false, drop, get_or, length, map, arith, sym, ap, subst, ◌∙◌, inl, take, [], ◌-◌, rules}
use Rattle.std.proofs.lemmas.Bool.{ne_eqb}
use Rattle.std.specs.List.{All}
use Rattle.std.proofs.lemmas.List.{take_all, take_rest}
use Rattle.fl_aliases.specs.Words.{words_of, full_pieces}
use Rattle.fl_script.proofs.CutLemmas.{piece_none, piece_more, cut_there, last_piece, dollar_seen, dollar_kept, dollar_more, dollar_known, more, too_many, last, too_many_last, ascii_piece, ascii_more, ascii_known}
use Rattle.fl_script.proofs.cut.cut_line.Goals as goal
use Rattle.fl_script.proofs.cut.cut_line.Goals.{then-byte-eq36, else-byte-eq36, in-37-to-127, in_default, in_default-2}

pub loop-at-init : goal.loop-at-init
loop-at-init g c = record {
  so_far = ap (λ items. map (λ w. w.now) items ++ words_of c.args.line.now) (sym c.requires);
  low = omega arith;
  piece = λ k d h. absurd (omega (arith, h));
  ascii = λ k d h. absurd (omega (arith, h));
  dollar = λ k d h. absurd (omega (arith, h));
}

pub loop-at-preserved-then-matches : goal.loop-at-preserved-then-matches
loop-at-preserved-then-matches g c =
    let line = c.args.line.now in
    let at = c.loop-at.at in
    let inside : at < length line = omega arith in
    let above : 36 < get_or line at 0 = search rules in
    let below : get_or line at 0 < 128 = search rules in
    let no_space : get_or line at 0 == 32 ≡ false =
    ne_eqb (get_or line at 0) 32 (λ e. absurd (omega (arith, above, e))) in
    let no_dollar : get_or line at 0 ≢ 36 = λ e. absurd (omega (arith, above, e)) in
    record {
      so_far = c.loop-at.invariant.so_far;
      low = omega arith;
      piece = piece_more line c.loop-at.start at c.loop-at.invariant.low inside no_space
          c.loop-at.invariant.piece;
      ascii = ascii_more line at inside below c.loop-at.invariant.ascii;
      dollar = dollar_more line at c.loop-at.has_dollar inside no_dollar c.loop-at.invariant.dollar;
    }

pub loop-at-preserved-then-byte-ne32 : goal.loop-at-preserved-then-byte-ne32
loop-at-preserved-then-byte-ne32 g c =
    let line = c.args.line.now in
    let at = c.loop-at.at in
    let inside : at < length line = omega arith in
    let no_space : get_or line at 0 == 32 ≡ false =
    ne_eqb (get_or line at 0) 32 c.if-byte-ne32.true in
    record {
      so_far = c.loop-at.invariant.so_far;
      low = omega arith;
      piece = piece_more line c.loop-at.start at c.loop-at.invariant.low inside no_space
          c.loop-at.invariant.piece;
      ascii = ascii_more line at inside (search rules) c.loop-at.invariant.ascii;
      dollar = elim c.if-byte-eq36.branch [
        | then-byte-eq36 w ↦ dollar_seen line at c.if-byte-eq36.has_dollar inside w.if-byte-eq36.true
            w.has_dollar-is
        | else-byte-eq36 w ↦ dollar_kept line at c.loop-at.has_dollar c.if-byte-eq36.has_dollar inside
            w.if-byte-eq36.false w.has_dollar-is c.loop-at.invariant.dollar
      ];
    }

pub push_piece-requires : goal.push_piece-requires
push_piece-requires g c = (search rules, ascii_piece c.args.line.now c.loop-at.start c.loop-at.at c.loop-at.invariant.low c.loop-at.invariant.ascii)

pub returns-then-not-push_piece-clause-words : goal.returns-then-not-push_piece-clause-words
returns-then-not-push_piece-clause-words g c =
    let line = c.args.line.now in
    let at = c.loop-at.at in
    let inside : at < length line = omega arith in
    let cut = cut_there line c.loop-at.start at c.loop-at.invariant.low inside c.if-byte-ne32.false in
    inl (too_many line (drop c.loop-at.start line) _ c.loop-at.invariant.so_far
    _ _ (drop (at + 1) line) c.loop-at.invariant.piece cut c.if-not-push_piece.ensures.full)

pub loop-at-preserved : goal.loop-at-preserved
loop-at-preserved g c =
    let line = c.args.line.now in
    let at = c.loop-at.at in
    let inside : at < length line = omega arith in
    let is : get_or line at 0 ≡ 32 = c.if-byte-ne32.false in
    let no_dollar : get_or line at 0 ≢ 36 = λ e. absurd (omega (arith, is, e)) in
    let cut = cut_there line c.loop-at.start at c.loop-at.invariant.low inside is in
    record {
      so_far = more line (drop c.loop-at.start line) _ c.loop-at.invariant.so_far
          _ (drop (at + 1) line) _ c.loop-at.invariant.piece cut c.if-not-push_piece.ensures.pushed;
      low = omega arith;
      piece = piece_none line (at + 1);
      ascii = ascii_more line at inside (omega (arith, is)) c.loop-at.invariant.ascii;
      dollar = elim c.if-byte-eq36.branch [
        | then-byte-eq36 w ↦ dollar_seen line at c.if-byte-eq36.has_dollar inside w.if-byte-eq36.true
            w.has_dollar-is
        | else-byte-eq36 w ↦ dollar_kept line at c.loop-at.has_dollar c.if-byte-eq36.has_dollar inside
            no_dollar w.has_dollar-is c.loop-at.invariant.dollar
      ];
    }

pub push_piece-requires-2 : goal.push_piece-requires-2
push_piece-requires-2 g c =
    let line = c.args.line.now in
    let past : length line ≤ c.loop-at.at = omega arith in
    let whole : take (length line) line ≡ take c.loop-at.at line =
    take_all (length line) line (omega arith) ∙ sym (take_all c.loop-at.at line past) in (
      search rules,
      ascii_piece line c.loop-at.start (length line) (omega arith)
          (subst (All (λ b. b < 128)) (sym whole) c.loop-at.invariant.ascii),
    )

pub returns-then-not-push_piece-2-clause-words : goal.returns-then-not-push_piece-2-clause-words
returns-then-not-push_piece-2-clause-words g c =
    let line = c.args.line.now in
    let past : length line ≤ c.loop-at.at = omega arith in
    let rest = last_piece line c.loop-at.start c.loop-at.at c.loop-at.invariant.low past c.loop-at.invariant.piece in
    let whole : take (length line - c.loop-at.start) (drop c.loop-at.start line) ≡ drop c.loop-at.start line = take_rest line c.loop-at.start in
    inl (too_many_last line (drop c.loop-at.start line) _ c.loop-at.invariant.so_far g.row.MOST rest
    (subst (λ p. g.row.MOST < length (map (λ w. w.now) c.loop-at.words.items) + length (full_pieces (p ∷ []))) whole c.if-not-push_piece-2.ensures.full))

pub returns-clause-words : goal.returns-clause-words
returns-clause-words g c =
    let line = c.args.line.now in
    let past : length line ≤ c.loop-at.at = omega arith in
    let rest = last_piece line c.loop-at.start c.loop-at.at c.loop-at.invariant.low past c.loop-at.invariant.piece in
    let whole : take (length line - c.loop-at.start) (drop c.loop-at.start line) ≡ drop c.loop-at.start line = take_rest line c.loop-at.start in
    last line (drop c.loop-at.start line) _ c.loop-at.invariant.so_far _ rest
    (subst (λ p. map (λ w. w.now) c.push_piece-2.new.words.items ≡ map (λ w. w.now) c.loop-at.words.items ++ full_pieces (p ∷ [])) whole c.if-not-push_piece-2.ensures.pushed)

pub returns-clause-ascii : goal.returns-clause-ascii
returns-clause-ascii g c =
    let past : length c.args.line.now ≤ c.loop-at.at = omega arith in
    ascii_known c.args.line.now c.loop-at.at past c.loop-at.invariant.ascii

pub returns-clause-dollar : goal.returns-clause-dollar
returns-clause-dollar g c =
    let past : length c.args.line.now ≤ c.loop-at.at = omega arith in
    dollar_known c.args.line.now c.loop-at.at c.loop-at.has_dollar past c.loop-at.invariant.dollar
