-- Spans after a name came or went.
use Rattle.std.proofs.Common.{◌≡◌, ◌≢◌, ℕ, ◌+◌, ◌<◌, ◌≤◌, Bool, true, false, ◌&&◌, ◌||◌, List, [], ◌∷◌, ◌++◌, refl, sym, ap, ◌∙◌, arith, leb}
use Rattle.std.specs.List.{AllByRecursion}
use Rattle.std.proofs.lemmas.Bool.Decides.{nat_tests}
use Rattle.std.proofs.lemmas.List.Folds.{list_any-append}
use Rattle.fl_opset.specs.declared.span.Span.{Span}
use Rattle.fl_opset.specs.Rank.{name_rank, last_rank, least_rank, greatest_rank}
use Rattle.fl_opset.specs.Spans.{fit}
use Rattle.fl_opset.specs.parts.Kept.{has_rank, ChangeAt}
use Rattle.fl_opset.specs.laws.Fits.{within, too_low, too_high, ends_above, fit_at, at_fit}

-- the least rank that may follow spans
abbrev pub past : ℕ → List Span → ℕ
past from [] = from
past from (s ∷ ss) = past (last_rank s + 2) ss

fit_part : (from to : ℕ) (F X Y : List Span) → fit from to (F ++ X) ≡ true
    → (fit (past from F) to X ≡ true → fit (past from F) to Y ≡ true) → fit from to (F ++ Y) ≡ true
fit_part from to [] X Y h step = step h
fit_part from to (s ∷ F) X Y h step =
    let f = fit_at from to s (F ++ X) h in
    at_fit from to s (F ++ Y)
    (record { starts = f.starts; ends = f.ends; rest = fit_part (last_rank s + 2) to F X Y f.rest step })

pub fit_behind : (from to : ℕ) (F X : List Span) → fit from to (F ++ X) ≡ true → fit (past from F) to X ≡ true
fit_behind from to [] X h = h
fit_behind from to (s ∷ F) X h = fit_behind (last_rank s + 2) to F X (fit_at from to s (F ++ X) h).rest

pub past_low : (from r : ℕ) (F : List Span) → from ≤ r → AllByRecursion (λ s. last_rank s + 1 < r) F → past from F ≤ r
past_low from r [] le h = le
past_low from r (s ∷ F) le h = past_low (last_rank s + 2) r F (omega (arith, h.0)) h.1

ends_low : (r : ℕ) (F : List Span) → AllByRecursion (λ s. last_rank s < r) F → has_rank F r ≡ false
ends_low r [] h = refl
ends_low r (s ∷ F) h =
    ap (λ b. b || has_rank F r) (too_high (name_rank s.first) r (last_rank s) h.0) ∙ ends_low r F h.1

-- behind spans that allow no rank below lo, X may be replaced by Y
pub record Local (lo r : ℕ) (there : Bool) (X Y : List Span) : Type 0 where
  pub fits : fit lo greatest_rank X ≡ true → fit lo greatest_rank Y ≡ true
  pub here : has_rank Y r ≡ there
  pub others : (k : ℕ) → k ≢ r → has_rank Y k ≡ has_rank X k

pub splice : (F X Y : List Span) (r : ℕ) (there : Bool) → fit least_rank greatest_rank (F ++ X) ≡ true
    → AllByRecursion (λ s. last_rank s < r) F → Local (past least_rank F) r there X Y
    → ChangeAt r there (F ++ X) (F ++ Y)
splice F X Y r there h low l =
    let test = λ (k : ℕ) (s : Span). leb (name_rank s.first) k && leb k (last_rank s) in
    record {
      fits = fit_part least_rank greatest_rank F X Y h l.fits;
      here = list_any-append (test r) F Y ∙ ap (λ b. b || has_rank Y r) (ends_low r F low) ∙ l.here;
      others = λ k apart. list_any-append (test k) F Y ∙ ap (λ b. has_rank F k || b) (l.others k apart)
          ∙ sym (list_any-append (test k) F X);
    }

-- ---- ranges that differ at one rank

lone_range : (r k x y : ℕ) → x ≡ r → y ≡ r → k ≢ r → (leb x k && leb k y) ≡ false
lone_range r k x y first last apart = grind (arith, nat_tests)

down_range : (a b r k x y : ℕ) → r + 1 ≡ a → x ≡ r → y ≡ b → k ≢ r → (leb x k && leb k y) ≡ (leb a k && leb k b)
down_range a b r k x y next first last apart = grind (arith, nat_tests)

up_range : (a b r k x y : ℕ) → b + 1 ≡ r → x ≡ a → y ≡ r → k ≢ r → (leb x k && leb k y) ≡ (leb a k && leb k b)
up_range a b r k x y next first last apart = grind (arith, nat_tests)

two_ranges : (a b r c d k x y : ℕ) → a ≤ b → b + 1 ≡ r → r + 1 ≡ c → c ≤ d → x ≡ a → y ≡ d → k ≢ r
    → (leb x k && leb k y) ≡ ((leb a k && leb k b) || (leb c k && leb k d))
two_ranges a b r c d k x y low next more high first last apart = grind (arith, nat_tests)

or_moved : (a b c : Bool) → ((a || b) || c) ≡ (a || (b || c))
or_moved true b c = refl
or_moved false b c = refl

-- ---- what may follow

abbrev pub Starts : ℕ → List Span → Type 0
Starts low [] = Unit {0}
Starts low (s ∷ ss) = low ≤ name_rank s.first

pub starts_low : (low more : ℕ) (X : List Span) → Starts more X → low ≤ more → Starts low X
starts_low low more [] h le = tt
starts_low low more (s ∷ X) h le = omega arith

moved : (from low to : ℕ) (X : List Span) → fit from to X ≡ true → Starts low X → fit low to X ≡ true
moved from low to [] h le = refl
moved from low to (s ∷ X) h le =
    let f = fit_at from to s X h in at_fit low to s X (record { starts = le; ends = f.ends; rest = f.rest })

lowered : (from low to : ℕ) (X : List Span) → fit from to X ≡ true → low ≤ from → fit low to X ≡ true
lowered from low to [] h le = refl
lowered from low to (s ∷ X) h le =
    let f = fit_at from to s X h in
    at_fit low to s X (record { starts = omega (arith, f.starts); ends = f.ends; rest = f.rest })

none_above : (from to r : ℕ) (X : List Span) → fit from to X ≡ true → r < from → has_rank X r ≡ false
none_above from to r [] h less = refl
none_above from to r (s ∷ X) h less =
    let f = fit_at from to s X h in
    ap (λ b. b || has_rank X r) (too_low (name_rank s.first) r (last_rank s) (omega (arith, f.starts)))
    ∙ none_above (last_rank s + 2) to r X f.rest (omega (arith, f.starts, ends_above s))

none_near : (from to r : ℕ) (X : List Span) → fit from to X ≡ true → Starts (r + 1) X → has_rank X r ≡ false
none_near from to r [] h next = refl
none_near from to r (s ∷ X) h next =
    ap (λ b. b || has_rank X r) (too_low (name_rank s.first) r (last_rank s) (omega arith))
    ∙ none_above (last_rank s + 2) to r X (fit_at from to s X h).rest (omega (arith, ends_above s))

pub top : (s : Span) → last_rank s ≤ greatest_rank
top s = omega (arith, s.first.node_in_range.1, s.last_in_range)

-- ---- the changes

module _ (lo r : ℕ) where
  pub same : (X : List Span) → fit lo greatest_rank X ≡ true → Starts (r + 1) X → Local lo r false X X
  same X h next = record { fits = λ h. h; here = none_near lo greatest_rank r X h next; others = λ k apart. refl }

  -- one more before those above it
  pub one_more : (m : Span) (B : List Span) → lo ≤ r → name_rank m.first ≡ r → last_rank m ≡ r → Starts (r + 2) B
      → Local lo r true B (m ∷ B)
  one_more m B low first last next = record {
    fits = λ h. at_fit lo greatest_rank m B (record {
      starts = omega (arith, first);
      ends = top m;
      rest = moved lo (last_rank m + 2) greatest_rank B h (starts_low (last_rank m + 2) (r + 2) B next (omega (arith, last)));
    });
    here = ap (λ b. b || has_rank B r) (within (name_rank m.first) r (last_rank m) (omega (arith, first)) (omega (arith, last)));
    others = λ k apart. ap (λ b. b || has_rank B k) (lone_range r k (name_rank m.first) (last_rank m) first last apart);
  }

  module _ (s m : Span) (B : List Span) where
    pub there_already : name_rank s.first ≤ r → r ≤ last_rank s → Local lo r true (s ∷ B) (s ∷ B)
    there_already low high = record {
      fits = λ h. h;
      here = ap (λ b. b || has_rank B r) (within (name_rank s.first) r (last_rank s) low high);
      others = λ k apart. refl;
    }

    pub grown_down : lo ≤ r → r + 1 ≡ name_rank s.first → name_rank m.first ≡ r → last_rank m ≡ last_rank s
        → Local lo r true (s ∷ B) (m ∷ B)
    grown_down low next first last = record {
      fits = λ h.
          let f = fit_at lo greatest_rank s B h in
          at_fit lo greatest_rank m B (record {
            starts = omega (arith, first);
            ends = top m;
            rest = lowered (last_rank s + 2) (last_rank m + 2) greatest_rank B f.rest (omega (arith, last));
          });
      here = ap (λ b. b || has_rank B r)
          (within (name_rank m.first) r (last_rank m) (omega (arith, first)) (omega (arith, last, ends_above s)));
      others = λ k apart. ap (λ b. b || has_rank B k)
          (down_range (name_rank s.first) (last_rank s) r k (name_rank m.first) (last_rank m) next first last apart);
    }

    pub grown_up : last_rank s + 1 ≡ r → name_rank m.first ≡ name_rank s.first → last_rank m ≡ r → Starts (r + 2) B
        → Local lo r true (s ∷ B) (m ∷ B)
    grown_up next first last more = record {
      fits = λ h.
          let f = fit_at lo greatest_rank s B h in
          at_fit lo greatest_rank m B (record {
            starts = omega (arith, first, f.starts);
            ends = top m;
            rest = moved (last_rank s + 2) (last_rank m + 2) greatest_rank B f.rest
                (starts_low (last_rank m + 2) (r + 2) B more (omega (arith, last)));
          });
      here = ap (λ b. b || has_rank B r)
          (within (name_rank m.first) r (last_rank m) (omega (arith, first, ends_above s)) (omega (arith, last)));
      others = λ k apart. ap (λ b. b || has_rank B k)
          (up_range (name_rank s.first) (last_rank s) r k (name_rank m.first) (last_rank m) next first last apart);
    }

    pub two_joined : (t : Span) → last_rank s + 1 ≡ r → r + 1 ≡ name_rank t.first → name_rank m.first ≡ name_rank s.first
        → last_rank m ≡ last_rank t → Local lo r true (s ∷ t ∷ B) (m ∷ B)
    two_joined t next more first last = record {
      fits = λ h.
          let f = fit_at lo greatest_rank s (t ∷ B) h in
          let g = fit_at (last_rank s + 2) greatest_rank t B f.rest in
          at_fit lo greatest_rank m B (record {
            starts = omega (arith, first, f.starts);
            ends = top m;
            rest = lowered (last_rank t + 2) (last_rank m + 2) greatest_rank B g.rest (omega (arith, last));
          });
      here = ap (λ b. b || has_rank B r)
          (within (name_rank m.first) r (last_rank m) (omega (arith, first, ends_above s)) (omega (arith, last, ends_above t)));
      others = λ k apart.
          ap (λ b. b || has_rank B k)
          (two_ranges (name_rank s.first) (last_rank s) r (name_rank t.first) (last_rank t) k (name_rank m.first) (last_rank m)
          (ends_above s) next more (ends_above t) first last apart)
          ∙ or_moved _ _ (has_rank B k);
    }

    module _ (h : fit lo greatest_rank (s ∷ B) ≡ true) where
      none_after : r ≤ last_rank s → has_rank B r ≡ false
      none_after le = none_above (last_rank s + 2) greatest_rank r B (fit_at lo greatest_rank s B h).rest (omega arith)

      pub one_less : name_rank s.first ≡ r → last_rank s ≡ r → Local lo r false (s ∷ B) B
      one_less first last = record {
        fits = λ h.
            let f = fit_at lo greatest_rank s B h in
            lowered (last_rank s + 2) lo greatest_rank B f.rest (omega (arith, f.starts, ends_above s));
        here = none_after (omega (arith, last));
        others = λ k apart. sym (ap (λ b. b || has_rank B k)
            (lone_range r k (name_rank s.first) (last_rank s) first last apart));
      }

      pub cut_below : name_rank s.first ≡ r → r ≤ last_rank s → name_rank m.first ≡ r + 1 → last_rank m ≡ last_rank s
          → Local lo r false (s ∷ B) (m ∷ B)
      cut_below is le first last = record {
        fits = λ h.
            let f = fit_at lo greatest_rank s B h in
            at_fit lo greatest_rank m B (record {
              starts = omega (arith, first, is, f.starts);
              ends = top m;
              rest = lowered (last_rank s + 2) (last_rank m + 2) greatest_rank B f.rest (omega (arith, last));
            });
        here = ap (λ b. b || has_rank B r) (too_low (name_rank m.first) r (last_rank m) (omega (arith, first))) ∙ none_after le;
        others = λ k apart. ap (λ b. b || has_rank B k)
            (sym (down_range (name_rank m.first) (last_rank m) r k (name_rank s.first) (last_rank s) (sym first) is (sym last) apart));
      }

      pub cut_above : last_rank s ≡ r → last_rank m + 1 ≡ r → name_rank m.first ≡ name_rank s.first
          → Local lo r false (s ∷ B) (m ∷ B)
      cut_above is last first = record {
        fits = λ h.
            let f = fit_at lo greatest_rank s B h in
            at_fit lo greatest_rank m B (record {
              starts = omega (arith, first, f.starts);
              ends = top m;
              rest = lowered (last_rank s + 2) (last_rank m + 2) greatest_rank B f.rest (omega (arith, last, is));
            });
        here = ap (λ b. b || has_rank B r) (too_high (name_rank m.first) r (last_rank m) (omega (arith, last)))
            ∙ none_after (omega (arith, is));
        others = λ k apart. ap (λ b. b || has_rank B k)
            (sym (up_range (name_rank m.first) (last_rank m) r k (name_rank s.first) (last_rank s) last (sym first) is apart));
      }

      pub in_two : (t : Span) → r ≤ last_rank s → name_rank m.first ≡ name_rank s.first → last_rank m + 1 ≡ r
          → name_rank t.first ≡ r + 1 → last_rank t ≡ last_rank s → Local lo r false (s ∷ B) (m ∷ t ∷ B)
      in_two t le first low high last = record {
        fits = λ h.
            let f = fit_at lo greatest_rank s B h in
            at_fit lo greatest_rank m (t ∷ B) (record {
              starts = omega (arith, first, f.starts);
              ends = top m;
              rest = at_fit (last_rank m + 2) greatest_rank t B (record {
                starts = omega (arith, low, high);
                ends = top t;
                rest = lowered (last_rank s + 2) (last_rank t + 2) greatest_rank B f.rest (omega (arith, last));
              });
            });
        here = ap (λ b. b || has_rank (t ∷ B) r) (too_high (name_rank m.first) r (last_rank m) (omega (arith, low)))
            ∙ ap (λ b. b || has_rank B r) (too_low (name_rank t.first) r (last_rank t) (omega (arith, high)))
            ∙ none_after le;
        others = λ k apart.
            sym (ap (λ b. b || has_rank B k)
            (two_ranges (name_rank m.first) (last_rank m) r (name_rank t.first) (last_rank t) k (name_rank s.first) (last_rank s)
            (ends_above m) low (sym high) (ends_above t) (sym first) (sym last) apart)
            ∙ or_moved _ _ (has_rank B k));
      }
