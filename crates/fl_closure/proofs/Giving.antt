-- What one capability more for an owner adds, and to whom.
use Rattle.std.specs.Prelude.{◌≡◌, ◌⊎◌, ◌↔◌, List, [], ◌∷◌, ◌++◌, Result, Ok, Err, IfOk, OnOk, OnErr, refl}
use Rattle.std.proofs.Common.{inl, inr, sym, ap, subst, ◌∙◌}
use Rattle.std.specs.List.{Contains}
use Rattle.fl_labels.specs.declared.name.Name.{Name}
use Rattle.fl_labels.specs.declared.cap.Cap.{Cap}
use Rattle.fl_labels.specs.declared.cap.Cap.TheVariants.{Plus, Minus, Use, Grow}
use Rattle.fl_closure.specs.declared.block.Block.{Block}
use Rattle.fl_closure.specs.declared.rows.Rows.{Rows}
use Rattle.fl_closure.specs.declared.rows.Owner.{Owner}
use Rattle.fl_closure.specs.declared.rows.Owner.TheVariants.{Everybody, Group}
use Rattle.fl_closure.specs.declared.closed.ClosedRows.{ClosedRows}
use Rattle.fl_closure.specs.parts.Block.{place_of, IsIn, AreIn}
use Rattle.fl_closure.specs.parts.Rows.{bits_at, Holds, OfOne, OfEach, Adds, IsSameRows}
use Rattle.fl_closure.specs.parts.Closed.{Behind, Leads, IsAbove, AreTransitive, AreMirrored, AreLed, AreAbove, Renews}
use Rattle.fl_closure.specs.declared.closed.Notes.{Notes}
use Rattle.fl_closure.specs.parts.Noted.{GainsBoth, NotesBoth}
use Rattle.fl_closure.proofs.Bits.{marks_or}
use Rattle.fl_closure.proofs.Exists.{exists_one}
use Rattle.fl_closure.proofs.Growing.{on_above, on_leads}

pub if_ok : {A E : Type 0} {P Q : A → Type 0} (r : Result A E) → ((a : A) → P a → Q a) → IfOk r P → IfOk r Q
if_ok (Ok a) to p = to a p
if_ok (Err e) to p = tt

pub on_ok : {A E P Q : Type 0} (r : Result A E) → (P → Q) → OnOk r P → OnOk r Q
on_ok (Ok a) to p = to p
on_ok (Err e) to p = tt

pub on_both : {A E P Q R : Type 0} (r : Result A E) → (P → Q → R) → OnOk r P → OnOk r Q → OnOk r R
on_both (Ok a) to p q = to p q
on_both (Err e) to p q = tt

pub on_error : {A E P Q : Type 0} (r : Result A E) → (P → Q) → OnErr r P → OnErr r Q
on_error (Ok a) to p = tt
on_error (Err e) to p = to p

pub mirrored_nothing : (rows : ClosedRows) → ((owner : Owner) (c : Cap) → ¬ Holds rows.reached owner c)
    → ((owner : Owner) (c : Cap) → ¬ Holds rows.users owner c) → AreMirrored rows
mirrored_nothing rows none nobody = record {
  used = λ user group. (λ h. absurd (nobody (Group group) (Use user) h), λ h. absurd (none (Group user) (Use group) h));
}

pub mirrored_same : (old new : ClosedRows) → AreMirrored old → IsSameRows old.reached new.reached → IsSameRows old.users new.users
    → AreMirrored new
mirrored_same old new mirrored reached users = record {
  used = λ user group. (
    λ h. (reached.holds (Group user) (Use group)).1 ((mirrored.used user group).0 ((users.holds (Group group) (Use user)).0 h)),
    λ h. (users.holds (Group group) (Use user)).1 ((mirrored.used user group).1 ((reached.holds (Group user) (Use group)).0 h)),
  );
}

-- ---- what a capability leads to

pub led_by_use : (rows : Rows) (root : Cap) (group : Name) (blocks : List Block) → root ≡ Use group
    → ((c : Cap) → AreIn blocks c ↔ ((c ≡ Use group) ⊎ Holds rows (Group group) c)) → AreLed rows root blocks
led_by_use rows root group blocks is are = subst (λ r. AreLed rows r blocks) (sym is) (record { led = are })

pub led_alone : (rows : Rows) (root : Cap) (empty blocks : List Block) (block : Block) → ((group : Name) → ¬ (root ≡ Use group))
    → empty ≡ [] → blocks ≡ empty ++ block ∷ [] → ((c : Cap) → IsIn block c ↔ (c ≡ root)) → AreLed rows root blocks
led_alone rows root empty blocks block no_use nothing is only =
    subst (AreLed rows root) (sym (is ∙ ap (λ l. l ++ block ∷ []) nothing)) (record {
      led = λ c. (
        λ h. inl ((only c).0 ((exists_one (λ b. IsIn b c) block).0 h)),
        λ h. (exists_one (λ b. IsIn b c) block).1 (elim h [ inl e ↦ (only c).1 e | inr m ↦ absurd (by_cases root no_use c m) ]),
      );
    })
  where
    by_cases : (r : Cap) → ((group : Name) → ¬ (r ≡ Use group)) → (c : Cap) → Behind rows r c → ⊥
    by_cases (Use group) never c m = never group refl
    by_cases (Plus tag) never c m = m
    by_cases (Minus tag) never c m = m
    by_cases (Grow group) never c m = m

-- ---- who is above

module _ (rows : ClosedRows) (group : Name) (mirrored : AreMirrored rows) (blocks : List Block)
    (are : (c : Cap) → AreIn blocks c ↔ ((c ≡ Use group) ⊎ Holds rows.users (Group group) c)) where
  used_above : (user : Name) → AreIn blocks (Use user) → IsAbove rows.reached (Group group) (Group user)
  used_above user h = elim ((are (Use user)).0 h) [ inl e ↦ inl (ap Group (same e)) | inr m ↦ inr ((mirrored.used user group).0 m) ]
    where
      same : Use user ≡ Use group → user ≡ group
      same e = cc

  above_used : (user : Name) → IsAbove rows.reached (Group group) (Group user) → AreIn blocks (Use user)
  above_used user h = (are (Use user)).1 (elim h [ inl e ↦ inl (ap Use (same e)) | inr m ↦ inr ((mirrored.used user group).1 m) ])
    where
      same : Group user ≡ Group group → user ≡ group
      same e = cc

  pub all_above : (c : Cap) → AreAbove rows.reached group c blocks
  all_above c = record {
    only = used_above;
    all = λ user up. inl (above_used user up);
  }

  -- but those that reach the use of a group
  pub above_lacking : (c : Cap) (used : Name) (lacking : List Block) → c ≡ Use used
      → ((d : Cap) → AreIn lacking d ↔ (AreIn blocks d × ¬ Holds rows.users (Group used) d)) → AreAbove rows.reached group c lacking
  above_lacking c used lacking is lacks = record {
    only = λ user h. used_above user ((lacks (Use user)).0 h).0;
    all = λ user up. by_row user up (marks_or (bits_at rows.users (Group used) (place_of (Use user))) (Use user));
  }
    where
      by_row : (user : Name) → IsAbove rows.reached (Group group) (Group user)
          → Holds rows.users (Group used) (Use user) ⊎ ¬ Holds rows.users (Group used) (Use user)
          → AreIn lacking (Use user) ⊎ Holds rows.reached (Group user) c
      by_row user up (inl m) = inr (subst (Holds rows.reached (Group user)) (sym is) ((mirrored.used user used).0 m))
      by_row user up (inr n) = inl ((lacks (Use user)).1 (above_used user up, n))

-- ---- a capability that is given

-- to everybody
pub renews_all : (old new : Rows) (root : Cap) (led : List Block) → AreLed old root led → Adds old (OfOne Everybody led) new
    → Renews old Everybody root new
renews_all old new root led is adds = record {
  holds = λ user c. (
    λ h. elim ((adds.holds user c).0 h) [ inl m ↦ inl m | inr two ↦ inr (inl two.0, (is.led c).0 two.1) ],
    λ h. (adds.holds user c).1 (elim h [ inl m ↦ inl m | inr two ↦ inr (itself user two.0, (is.led c).1 two.1) ]),
  );
}
  where
    itself : (user : Owner) → IsAbove old Everybody user → user ≡ Everybody
    itself user (inl e) = e
    itself user (inr never) = absurd never

not_all : (name : Name) → Group name ≡ Everybody → ⊥
not_all name e = absurd (cc)

pub mirrored_all : (old new : ClosedRows) (led : List Block) → AreMirrored old → new.users ≡ old.users
    → Adds old.reached (OfOne Everybody led) new.reached → AreMirrored new
mirrored_all old new led mirrored still adds = record {
  used = λ user group. (
    λ h. (adds.holds (Group user) (Use group)).1 (inl ((mirrored.used user group).0 (subst (λ r. Holds r (Group group) (Use user)) still h))),
    λ h. subst (λ r. Holds r (Group group) (Use user)) (sym still) ((mirrored.used user group).1 (elim ((adds.holds (Group user) (Use group)).0 h) [
      | inl m ↦ m
      | inr two ↦ absurd (not_all user two.0)
    ])),
  );
}

-- to who may use a group
module _ (old : ClosedRows) (group : Name) (root : Cap) (transitive : AreTransitive old.reached) (mirrored : AreMirrored old)
    (led above lacking : List Block) (users groups : List Name)
    (are_led : AreLed old.reached root led) (are_above : AreAbove old.reached group root above)
    (lacks : (c : Cap) → AreIn lacking c ↔ (AreIn led c × ¬ Holds old.reached (Group group) c))
    (users_are : (name : Name) → Contains users name ↔ AreIn above (Use name))
    (groups_are : (name : Name) → Contains groups name ↔ AreIn lacking (Use name))
    (mid : Rows) (adds : Adds old.reached (OfEach users lacking) mid) where
  only_above : (user : Owner) (c : Cap) → OfEach users lacking user c → IsAbove old.reached (Group group) user × Leads old.reached root c
  only_above (Group user) c two = (are_above.only user ((users_are user).0 two.0), (are_led.led c).0 ((lacks c).0 two.1).0)
  only_above Everybody c two = absurd two.0

  -- of who is above, a group has it by now
  group_above : (user : Name) (c : Cap) → IsAbove old.reached (Group group) (Group user) → Leads old.reached root c → Holds mid (Group user) c
  group_above user c up leads = by_row (marks_or (bits_at old.reached (Group group) (place_of c)) c)
    where
      by_row : Holds old.reached (Group group) c ⊎ ¬ Holds old.reached (Group group) c → Holds mid (Group user) c
      by_row (inl m) = (adds.holds (Group user) c).1 (inl (on_above old.reached transitive (Group group) (Group user) c up m))
      by_row (inr n) = (adds.holds (Group user) c).1 (elim (are_above.all user up) [
        | inl m ↦ inr ((users_are user).1 m, (lacks c).1 ((are_led.led c).1 leads, n))
        | inr m ↦ inl (on_leads old.reached transitive (Group user) root c m leads)
      ])

  -- and everybody has what it had
  of_all : (c : Cap) → Holds mid Everybody c ↔ Holds old.reached Everybody c
  of_all c = (
    λ h. elim ((adds.holds Everybody c).0 h) [ inl m ↦ m | inr two ↦ absurd two.0 ],
    λ h. (adds.holds Everybody c).1 (inl h),
  )

  -- where everybody reaches the use of the group
  pub renews_above_all : (new : Rows) → Holds mid Everybody (Use group) → Adds mid (OfOne Everybody lacking) new
      → Renews old.reached (Group group) root new
  renews_above_all new there more = record { holds = λ user c. (to user c, from user c) }
    where
      by_mid : (user : Owner) (c : Cap) → Holds mid user c
          → Holds old.reached user c ⊎ (IsAbove old.reached (Group group) user × Leads old.reached root c)
      by_mid user c h = elim ((adds.holds user c).0 h) [ inl m ↦ inl m | inr two ↦ inr (only_above user c two) ]

      to : (user : Owner) (c : Cap) → Holds new user c
          → Holds old.reached user c ⊎ (IsAbove old.reached (Group group) user × Leads old.reached root c)
      to user c h = elim ((more.holds user c).0 h) [
        | inl m ↦ by_mid user c m
        | inr two ↦ inr (
          inr (subst (λ o. Holds old.reached o (Use group)) (sym two.0) ((of_all (Use group)).0 there)),
          (are_led.led c).0 ((lacks c).0 two.1).0,
        )
      ]

      all_of : (c : Cap) → Leads old.reached root c → Holds old.reached (Group group) c ⊎ ¬ Holds old.reached (Group group) c → Holds new Everybody c
      all_of c leads (inl m) =
          (more.holds Everybody c).1 (inl ((of_all c).1 (transitive.on Everybody group c ((of_all (Use group)).0 there) m)))
      all_of c leads (inr n) = (more.holds Everybody c).1 (inr (refl, (lacks c).1 ((are_led.led c).1 leads, n)))

      by_user : (user : Owner) (c : Cap) → IsAbove old.reached (Group group) user → Leads old.reached root c → Holds new user c
      by_user (Group user) c up leads = (more.holds (Group user) c).1 (inl (group_above user c up leads))
      by_user Everybody c up leads = all_of c leads (marks_or (bits_at old.reached (Group group) (place_of c)) c)

      from : (user : Owner) (c : Cap)
          → Holds old.reached user c ⊎ (IsAbove old.reached (Group group) user × Leads old.reached root c) → Holds new user c
      from user c (inl m) = (more.holds user c).1 (inl ((adds.holds user c).1 (inl m)))
      from user c (inr two) = by_user user c two.0 two.1

  -- and where not
  pub renews_above : ¬ Holds mid Everybody (Use group) → Renews old.reached (Group group) root mid
  renews_above never = record {
    holds = λ user c. (
      λ h. elim ((adds.holds user c).0 h) [ inl m ↦ inl m | inr two ↦ inr (only_above user c two) ],
      λ h. elim h [ inl m ↦ (adds.holds user c).1 (inl m) | inr two ↦ by_user user c two.0 two.1 ],
    );
  }
    where
      by_user : (user : Owner) (c : Cap) → IsAbove old.reached (Group group) user → Leads old.reached root c → Holds mid user c
      by_user (Group user) c up leads = group_above user c up leads
      by_user Everybody c (inl e) leads = absurd (not_all group (sym e))
      by_user Everybody c (inr m) leads = absurd (never ((of_all (Use group)).1 m))

  module _ (now : ClosedRows) (uses : Adds old.users (OfEach groups above) now.users) where
    to_mirror : (user used : Name) → OfEach groups above (Group used) (Use user) → OfEach users lacking (Group user) (Use used)
    to_mirror user used two = ((users_are user).1 two.1, (groups_are used).0 two.0)

    from_mirror : (user used : Name) → OfEach users lacking (Group user) (Use used) → OfEach groups above (Group used) (Use user)
    from_mirror user used two = ((groups_are used).1 two.1, (users_are user).0 two.0)

    mirrored_mid : (user used : Name) → Holds now.users (Group used) (Use user) ↔ Holds mid (Group user) (Use used)
    mirrored_mid user used = (
      λ h. (adds.holds (Group user) (Use used)).1 (elim ((uses.holds (Group used) (Use user)).0 h) [
        | inl m ↦ inl ((mirrored.used user used).0 m)
        | inr two ↦ inr (to_mirror user used two)
      ]),
      λ h. (uses.holds (Group used) (Use user)).1 (elim ((adds.holds (Group user) (Use used)).0 h) [
        | inl m ↦ inl ((mirrored.used user used).1 m)
        | inr two ↦ inr (from_mirror user used two)
      ]),
    )

    pub mirrored_above : now.reached ≡ mid → AreMirrored now
    mirrored_above is = record {
      used = λ user used. (
        λ h. subst (λ r. Holds r (Group user) (Use used)) (sym is) ((mirrored_mid user used).0 h),
        λ h. (mirrored_mid user used).1 (subst (λ r. Holds r (Group user) (Use used)) is h),
      );
    }

    pub mirrored_above_all : Adds mid (OfOne Everybody lacking) now.reached → AreMirrored now
    mirrored_above_all more = record {
      used = λ user used. (
        λ h. (more.holds (Group user) (Use used)).1 (inl ((mirrored_mid user used).0 h)),
        λ h. (mirrored_mid user used).1 (elim ((more.holds (Group user) (Use used)).0 h) [
          | inl m ↦ m
          | inr two ↦ absurd (not_all user two.0)
        ]),
      );
    }

-- ---- what is noted

pub gains_on : (first mid new : ClosedRows) (before after : Notes) → GainsBoth first before mid → NotesBoth before mid after new
    → GainsBoth first after new
gains_on first mid new before after gains notes = record {
  reached = notes.reached first.reached gains.reached;
  users = notes.users first.users gains.users;
}
