-- What entries lead to.
use Rattle.std.proofs.Common.{Result, Ok, Err, OnOk, ◌≡◌, ◌<◌, List, [], ◌∷◌, ◌++◌, length, map, fold, refl, ap, sym, ◌∙◌, arith, append_assoc}
use Rattle.std.proofs.lemmas.List.{append-nil}
use Rattle.std.proofs.lemmas.List.Sums.{fold-append}
use Rattle.fl_ops.specs.declared.op.Op.{Op}
use Rattle.fl_replica.specs.parts.History.{ops_of}
use Rattle.fl_replica.specs.parts.Shown.{with_entry, entry_ops, IsWhole, Awaits}
use Rattle.fl_replica.specs.declared.published.Entry.{Entry}
use Rattle.fl_replica.specs.declared.published.Shown.{Shown}
use Rattle.fl_replica.proofs.Beginnings.{ops_append}

-- a row that is handed over to the last entry
pub all_handed : (entries row before : List Entry) → entries ++ row ≡ before → row ≡ [] → entries ≡ before
all_handed entries row before e none = sym (append-nil entries) ∙ (ap (λ r. entries ++ r) (sym none) ∙ e)

-- the operations come behind the list
pub fold_list : (s : Shown) (es : List Entry) → (fold with_entry s es).list ≡ s.list ++ entry_ops es
fold_list s [] = sym (append-nil s.list)
fold_list s (e ∷ es) = fold_list (with_entry s e) es ∙ append_assoc s.list (e.op ∷ []) (entry_ops es)

abbrev pub marked : Shown → List Op → List Entry
marked next ops = map (λ op. record { op = op; known = next.known }) ops

fold_batch : (s next : Shown) (op : Op) (ops : List Op) → fold with_entry s (marked next (op ∷ ops)) ≡ record { list = s.list ++ op ∷ ops; known = next.known }
fold_batch s next op [] = refl
fold_batch s next op (p ∷ ps) =
    fold_batch (with_entry s (record { op = op; known = next.known })) next p ps
    ∙ ap (λ (l : List Op). record { list = l; known = next.known }) (append_assoc s.list (op ∷ []) (p ∷ ps))

-- a batch comes behind the row, and behind the history
pub awaits_batch : (shown last next : Shown) (entries row : List Entry) (batch : List Op) → 0 < length batch
    → Awaits shown (entries ++ row) last → IsWhole next → next.known.log ≡ last.known.log ++ batch ∷ [] → next.known.book ≡ last.known.book
    → Awaits shown (entries ++ (row ++ marked next batch)) next
awaits_batch shown last next entries row [] some awaits whole more board = absurd (omega arith)
awaits_batch shown last next entries row (op ∷ ops) some awaits whole more board =
    let batch : List Op = op ∷ ops in
    let list : last.list ++ batch ≡ next.list =
    ap (λ l. l ++ batch) (sym awaits.2)
    ∙ (ap (λ l. ops_of last.known.log ++ l) (sym (append-nil batch))
    ∙ (sym (ops_append last.known.log (batch ∷ [])) ∙ (ap ops_of (sym more) ∙ whole))) in
    let folded : fold with_entry shown (entries ++ (row ++ marked next batch)) ≡ next =
    ap (fold with_entry shown) (sym (append_assoc entries row (marked next batch)))
    ∙ (fold-append with_entry shown (entries ++ row) (marked next batch)
    ∙ (ap (λ (s : Shown). fold with_entry s (marked next batch)) awaits.0
    ∙ (fold_batch last next op ops
    ∙ ap (λ (l : List Op). record { list = l; known = next.known }) list))) in
    (folded, awaits.1, whole, awaits.3 ∙ sym board)

-- once they are all there
pub awaits_done : (shown last : Shown) (entries : List Entry) → Awaits shown entries last → last.list ≡ shown.list ++ entry_ops entries
awaits_done shown last entries awaits = ap (λ (s : Shown). s.list) (sym awaits.0) ∙ fold_list shown entries

pub awaits_none : (last : Shown) → IsWhole last → Awaits last [] last
awaits_none last whole = (refl, whole, whole, refl)

-- the operations of a row and of a batch behind it
pub ops_marked : (next : Shown) (row : List Entry) (batch : List Op) → entry_ops (row ++ marked next batch) ≡ entry_ops row ++ batch
ops_marked next [] [] = refl
ops_marked next [] (op ∷ ops) = ap (λ l. op ∷ l) (ops_marked next [] ops)
ops_marked next (e ∷ es) batch = ap (λ l. e.op ∷ l) (ops_marked next es batch)

pub ok_weaker : {A E : Type 0} {P Q : Type 0} (r : Result A E) → (P → Q) → OnOk r P → OnOk r Q
ok_weaker (Ok a) f h = f h
ok_weaker (Err e) f h = tt
