-- The entry that was noted last gets the capability.
use Rattle.std.proofs.Common.{◌≡◌, ◌∙◌, ◌++◌, ◌-◌, sym, ap, List, [], ◌∷◌, ℕ, length, get_or, arith}
use Rattle.std.specs.Prelude.{slice_set}
use Rattle.std.proofs.Math.Seq.{set-append_seam, get_or-append_seam}
use Rattle.std.proofs.lemmas.List.{length-append}
use Rattle.fl_system.specs.declared.admission.Admission.{Admission}
use Rattle.fl_system.specs.declared.admission.Admission.TheVariants.{Entry}
use Rattle.fl_audit.proofs.draft.put_cap.Goals as goal

-- the last place
last : (before : List Admission) (e : Admission) (items : List Admission) (len : ℕ) → len ≡ length items → items ≡ before ++ e ∷ []
    → len - 1 ≡ length before
last before e items len long is =
    let h = ap length is in
    let k = length-append before (e ∷ []) in
    omega (arith, long, h, k)

pub returns-in-Entry : goal.returns-in-Entry
returns-in-Entry c before p login c' digest is =
    let e = Entry p login c' digest in
    let at = last before e c.args.audit.now.items _ c.args.audit.now.ok.0 is in
    let found : c.in-Some.entry.now ≡ e =
    c.in-Some.ensures.value ∙ (λ i. get_or (is i) (at i) c.in-Some.entry.now)
    ∙ get_or-append_seam before e [] c.in-Some.entry.now in
    let same : Entry c.in-Entry.field-0 c.in-Entry.field-1 c.in-Entry.noted c.in-Entry.field-3 ≡ e =
    sym c.in-Entry.is ∙ found in
    let put : Entry c.in-Entry.field-0 c.in-Entry.field-1 c.args.cap c.in-Entry.field-3 ≡ Entry p login c.args.cap digest = cc in
    (λ i. slice_set (is i) (at i) (put i)) ∙ set-append_seam before e [] (Entry p login c.args.cap digest)
